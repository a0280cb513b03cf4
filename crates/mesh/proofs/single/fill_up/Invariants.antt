-- The row holds fillers up to the counter.
use Rattle.std.proofs.Common.{◌≤◌, max, true, length}
use Rattle.elements.specs.Rows.{items}
use Rattle.mesh.specs.Single.{Becomes, padded}
use Rattle.mesh.proofs.single.fill_up.Given as goal

abbrev pub invariant-loop : goal.invariant-loop
invariant-loop g l =
    (length (items l.initial.row) ≤ l.counter)
    × (l.counter ≤ max (length (items l.initial.row)) l.count)
    × Becomes l.initial.row l.row (padded l.counter l.filler (items l.initial.row)) true
