use Rattle.std.proofs.Common.{◌≡◌, ◌≤◌, length, take}
use Rattle.book.specs.Unnamed.{named_among}
use Rattle.book.proofs.unnamed.enter_named.Given as goal

-- the table holds what the corners so far name, and has room for it
abbrev pub invariant-loop-corner : goal.invariant-loop-corner
invariant-loop-corner g l =
    record {
      sound : g.T.CornerTable.sound l.named;
      capacity : g.T.CornerTable.capacity l.named ≡ g.T.CornerTable.capacity l.initial.named;
      keys : g.T.CornerTable.keys l.named ≡ named_among l.positions (take l.corner-index l.corners);
      within : length (named_among l.positions (take l.corner-index l.corners)) ≤ g.T.CornerTable.capacity l.initial.named;
    }
