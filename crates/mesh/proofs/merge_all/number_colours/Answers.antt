use Rattle.std.proofs.Common.{◌<◌, length, ap, ◌∙◌, arith}
use Rattle.std.proofs.lemmas.Bool.{lt-ltb}
use Rattle.std.proofs.lemmas.Grind.{common_steps}
use Rattle.elements.specs.Rows.{room}
use Rattle.elements.proofs.RowFacts.{length-items}
use Rattle.mesh.proofs.MergeRows.{steady-pushed, steady_then}
use Rattle.mesh.proofs.merge_all.number_colours.Goals as goal

pub loop-number-preserved : goal.loop-number-preserved
loop-number-preserved c =
    let inv = c.loop-number.invariant in
    let r = c.loop-number.colour_indices in
    let free : r.count < room r = (let a = inv.steady.room in let b = c.shorten.ensures.steady.room in let k = length-items c.args.indices.now in let e = ap length c.as_slice-number-items.ensures in omega arith) in
    let pushed = c.push.ensures.granted (c.push.ensures.tells ∙ lt-ltb _ _ free) in
    record {
      items = grind (arith, common_steps);
      count = omega arith;
      steady = steady_then inv.steady (steady-pushed r c.push.new.self _ 0 pushed free);
    }
