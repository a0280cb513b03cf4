use Rattle.std.proofs.Common.{subst}
use Rattle.tables.specs.Tables.{Fit}
use Rattle.mesh.proofs.MultiFacts.{nothing_entered, again_entered, element-entered, none-entered}
use Rattle.mesh.proofs.stream.enter.Goals as goal
use Rattle.mesh.proofs.stream.enter.Goals.{in-Nothing, in-Again, in-Element+in_ok-enter-in-Element}

pub returns-in_err-enter-in-Element-clause-taken : goal.returns-in_err-enter-in-Element-clause-taken
returns-in_err-enter-in-Element-clause-taken g c s w bits xs rs m e =
    let r = c.in-Element.reference in
    rw (c.in-Element.is, c.from_residual.ensures) (λ h. none-entered bits xs rs m _ _ e r c.in-Element.item _ h (c.in_err-enter-in-Element.ensures.entering s))

pub returns-clause-taken : goal.returns-clause-taken
returns-clause-taken g c =
    elim c.match-named.branch [
      | in-Nothing w ↦ rw (w.table-is, w.result-is, w.in-Nothing.is) (λ s f bits xs rs m e h. nothing_entered bits xs rs m _ _ e f h)
      | in-Again w ↦ rw (w.table-is, w.result-is, w.in-Again.is) (λ s f bits xs rs m e h. again_entered bits xs rs m _ _ e w.in-Again.number f h)
      | in-Element+in_ok-enter-in-Element w ↦ rw (w.table-is, w.result-is, w.in-Element.is) (λ s f bits xs rs m e h.
          element-entered bits xs rs m _ _ e w.in-Element.reference w.in-Element.item _ h _
          (subst (λ n. Fit n (g.Table.CornerTable.keys w.enter.new.self)) w.enter.ensures.capacity (w.enter.ensures.fit s)) (w.in_ok-enter-in-Element.ensures.entering s))
    ]
