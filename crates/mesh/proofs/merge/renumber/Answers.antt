use Rattle.std.proofs.Common.{◌-◌, get_or, take, set, unwrap_or, ap, ◌∙◌, arith}
use Rattle.std.proofs.lemmas.List.{get_or_default}
use Rattle.std.proofs.lemmas.List.Edits.{map_over_more}
use Rattle.mesh.specs.Merges.{through}
use Rattle.mesh.proofs.merge.renumber.Goals as goal

pub loop-number-preserved : goal.loop-number-preserved
loop-number-preserved c =
    let xs = take (c.args.indices.now.count - 0) c.deref_mut.result.now in
    let ys = c.loop-number.number-items in
    let i = c.loop-number.number-index in
    let n = get_or ys i 0 in
    ap (set ys i) (c.unwrap_or.ensures ∙ (ap (λ o. unwrap_or o n) c.copied.ensures ∙ c.get.ensures.lookup.4 (omega arith) n))
    ∙ map_over_more (through c.args.remap.now) xs ys i n c.loop-number-test.true c.loop-number.invariant (get_or_default ys i 0 n (omega arith))
