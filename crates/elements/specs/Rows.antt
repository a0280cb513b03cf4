-- A row: a list together with the cells that it was handed.
--   held r       what stands in its cells
--   items r      the list that it holds
--   room r       how many elements it has room for
--   roomy r      a cell is left for one element more
--   Pushed       an element was added after the others, in the next cell, and no other cell was touched
use Rattle.std.specs.Prelude.{◌≡◌, ℕ, ◌+◌, Bool, List, [], ◌∷◌, ◌++◌, length, take, vec_items, nat_lt, slice_set}
use Rattle.elements.specs.declared.row.Row.{Row}
use Rattle.elements.specs.Cells.{room_of}

module _ {X : Type 0} where
  abbrev pub held : Row X → List X
  held r = vec_items r.cells

  abbrev pub items : Row X → List X
  items r = take r.count (held r)

  abbrev pub room : Row X → ℕ
  room r = room_of (length (held r))

  -- a cell is left for one element more
  abbrev pub roomy : Row X → Bool
  roomy r = nat_lt r.count (room r)

  pub record Pushed (r s : Row X) (x : X) : Type 0 where
    pub cells : held s ≡ slice_set (held r) r.count x
    pub count : s.count ≡ r.count + 1
    pub items : items s ≡ items r ++ x ∷ []
    pub room : room s ≡ room r
