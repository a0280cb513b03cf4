use Rattle.std.proofs.Common.{ℕ, [], ◌∷◌, length, get_or, Option, ap, ◌∙◌, subst, arith}
use Rattle.elements.specs.declared.corner.VertexIndices.{VertexIndices}
use Rattle.tables.specs.Tables.{Entering}
use Rattle.book.proofs.UnnamedFacts.{named_skip, named_more}
use Rattle.book.proofs.unnamed.enter_named.Goals as goal
use Rattle.book.proofs.unnamed.enter_named.Goals.{then-corner-positions+in_ok-ok_or, else-corner-positions}

pub loop-corner-preserved : goal.loop-corner-preserved
loop-corner-preserved g c =
    let d : VertexIndices = record { v = 0; vt = 0; vn = 0 } in
    let n = c.args.positions in
    let cs = c.args.corners.now in
    let i = c.loop-corner.corner-index in
    let inv = c.loop-corner.invariant in
    elim c.if-corner-positions.branch [
      | then-corner-positions+in_ok-ok_or w ↦
          let Entered : Option ℕ → Type 0 = λ o. Entering (g.T.CornerTable.capacity c.loop-corner.named) ((get_or c.args.corners.now c.loop-corner.corner-index (record { v = 0; vt = 0; vn = 0 })).v ∷ []) (g.T.CornerTable.keys c.loop-corner.named) (g.T.CornerTable.keys w.enter.new.self) o in
          let placed = subst Entered w.in_ok-ok_or.ensures.ok_part (w.enter.ensures.entering inv.sound) in
          let more = named_more n cs i d c.loop-corner-test.true w.if-corner-positions.true _ _ _ inv.keys _ placed in
          let count = ap length more in
          let within = (w.enter.ensures.fit inv.sound).within in
          rw w.named-is (record { sound = w.enter.ensures.sound inv.sound; capacity = w.enter.ensures.capacity ∙ inv.capacity; keys = more; within = omega arith })
      | else-corner-positions w ↦
          let skip = named_skip n cs i d c.loop-corner-test.true w.if-corner-positions.false in
          rw (w.named-is, skip) inv
    ]
