use Rattle.std.proofs.Common.{◌≡◌}
use Rattle.mesh.proofs.MergeWalk.{Walked}
use Rattle.mesh.proofs.merge.keep_firsts.Given as goal

abbrev pub invariant-loop-at : goal.invariant-loop-at
invariant-loop-at g l =
    g.T.CornerTable.sound l.table
    × (g.T.CornerTable.capacity l.table ≡ g.T.CornerTable.capacity l.initial.table)
    × Walked g.E.Key.meaning (g.T.CornerTable.capacity l.initial.table) l.initial.cells l.at l.cells l.firsts l.initial.remap l.remap (g.T.CornerTable.keys l.table)
