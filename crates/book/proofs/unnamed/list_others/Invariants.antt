use Rattle.std.proofs.Common.{◌≡◌, drop}
use Rattle.elements.specs.Rows.{held, items, room}
use Rattle.book.specs.Unnamed.{others}
use Rattle.book.proofs.unnamed.list_others.Given as goal

-- the list has the others below the number that comes next, and no cell past it has changed
abbrev pub invariant-loop-at : goal.invariant-loop-at
invariant-loop-at g l =
    record {
      listed : items l.list ≡ others l.at (g.T.CornerTable.keys l.named);
      past : drop l.list.count (held l.list) ≡ drop l.list.count (held l.initial.list);
      room : room l.list ≡ room l.initial.list;
    }
