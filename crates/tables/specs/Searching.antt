-- A table that is searched from the front: its row holds its keys.
--   meanings f r    what the keys of the row r mean, by the meaning f
--   Searched f r    they differ
use Rattle.std.specs.Prelude.{ℕ, List, map}
use Rattle.elements.specs.declared.row.Row.{Row}
use Rattle.elements.specs.First.{Apart}
use Rattle.elements.specs.Rows.{items}

module _ {K : Type 0} (f : K → List ℕ) (r : Row K) where
  abbrev pub meanings : List (List ℕ)
  meanings = map f (items r)

  abbrev pub Searched : Type 0
  Searched = Apart meanings
