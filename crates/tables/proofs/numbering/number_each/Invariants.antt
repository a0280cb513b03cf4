use Rattle.std.proofs.Common.{◌≡◌, ◌≤◌, ◌++◌, map, length, take, drop}
use Rattle.elements.specs.First.{distinct, numbers}
use Rattle.tables.proofs.numbering.number_each.Given as goal

-- the keys before the one at i are numbered, and the table holds the distinct ones of them
abbrev pub invariant-loop-i : goal.invariant-loop-i
invariant-loop-i g l = record {
  sound : g.T.CornerTable.sound l.table;
  capacity : g.T.CornerTable.capacity l.table ≡ g.T.CornerTable.capacity l.fn.table;
  cells : length l.keys ≤ length l.fn.out;
  keys : g.T.CornerTable.keys l.table ≡ distinct (take l.i (map g.K.Key.meaning l.keys));
  written : l.out ≡ numbers (take l.i (map g.K.Key.meaning l.keys)) ++ drop l.i l.fn.out;
  within : length (distinct (take l.i (map g.K.Key.meaning l.keys))) ≤ g.T.CornerTable.capacity l.table;
}
