use Rattle.std.proofs.Common.{◌≡◌, take, drop}
use Rattle.mesh.specs.Lists.{rooms as mesh_rooms}
use Rattle.book.specs.Held.{rooms, contained, left}
use Rattle.book.specs.History.{Past, Reaches}
use Rattle.records.proofs.PlayFacts.{Going}
use Rattle.records.proofs.play.play.Given as goal

-- each record before the rest has its line, and no other line has changed
abbrev pub invariant-loop-count : goal.invariant-loop-count
invariant-loop-count g l =
    record {
      same_book : rooms l.book ≡ rooms l.initial.book;
      same_mesh : mesh_rooms l.mesh.lists ≡ mesh_rooms l.initial.mesh.lists;
      same_tables : (g.N.Numbering.stock l.tables).capacities ≡ (g.N.Numbering.stock l.initial.tables).capacities;
      sound : g.N.Numbering.sound l.initial.tables → g.N.Numbering.sound l.tables;
      kept : drop l.count l.lines ≡ drop l.count l.initial.lines;
      going : (p : Past) → Reaches (rooms l.initial.book) p (contained l.initial.book) →
          Going (rooms l.initial.book) (mesh_rooms l.initial.mesh.lists) (g.N.Numbering.stock l.initial.tables).capacities p (left l.initial.mesh (g.N.Numbering.stock l.initial.tables))
          l.tape l.rest (take l.count l.lines) (contained l.book) (left l.mesh (g.N.Numbering.stock l.tables));
    }
