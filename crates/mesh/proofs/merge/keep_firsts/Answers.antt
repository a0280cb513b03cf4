use Rattle.std.proofs.Common.{ℕ, ◌<◌, ◌≤◌, length, ◌∙◌, subst, arith}
use Rattle.std.proofs.lemmas.Grind.{common_steps}
use Rattle.elements.specs.Rows.{room}
use Rattle.std.proofs.lemmas.Bool.{lt-ltb}
use Rattle.mesh.proofs.MergeWalk.{placed_at, absent_at, noted, walked_old, walked_new, walked_full}
use Rattle.mesh.proofs.merge.keep_firsts.Goals.{then-place-firsts, else-place-firsts}
use Rattle.mesh.proofs.merge.keep_firsts.Goals as goal

pub returns-in_err-place-clause-refused : goal.returns-in_err-place-clause-refused
returns-in_err-place-clause-refused g c =
    let inv = c.loop-at.invariant in
    let full = absent_at _ _ _ _ _ c.in_err-place.ensures.ok_part (c.enter.ensures.entering inv.0) in
    let k = walked_full g.E.Key.meaning c.loop-at-test.true inv.2 c.index-cells-at.result c.index-cells-at.is full.0 (full.1 ∙ inv.1) in
    (grind (arith, common_steps)) ∙ k

pub loop-at-preserved : goal.loop-at-preserved
loop-at-preserved g c =
    let inv = c.loop-at.invariant in
    let walk = inv.2 in
    let m = g.E.Key.meaning in
    let l = c.loop-at-test.true in
    let n = noted m l walk in
    let same = c.enter.ensures.capacity ∙ inv.1 in
    let placed = placed_at _ _ _ _ _ _ c.in_ok-place.ensures.ok_part (c.enter.ensures.entering inv.0) in
    let free : c.loop-at.remap.count < room c.loop-at.remap = (let r = walk.steady.room in omega arith) in
    let pushed = c.push.ensures.granted (c.push.ensures.tells ∙ lt-ltb _ _ free) in
    let fit = (let P : ℕ → Type 0 = λ k. length (g.T.CornerTable.keys c.enter.new.self) ≤ k in subst P same (c.enter.ensures.fit inv.0).within) in
    let x = c.index-cells-at in (
      c.enter.ensures.sound inv.0,
      same,
      elim c.if-place-firsts.branch [
        | then-place-firsts w ↦ rw (w.cells-is, w.firsts-is) (walked_new m l walk x.result x.is _ _ _ placed w.if-place-firsts.true fit pushed free)
        | else-place-firsts w ↦ rw (w.cells-is, w.firsts-is) (walked_old m l walk x.result x.is _ _ _ placed w.if-place-firsts.false fit pushed free)
      ],
    )
