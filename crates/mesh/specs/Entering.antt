-- What entering a key did to a table's keys, told apart by whether the key was new.
--   Placed m ms ns i    the key m has the place i: it was there, or it came after the others
use Rattle.std.specs.Prelude.{◌≡◌, ℕ, ◌⊎◌, List, [], ◌∷◌, ◌++◌, length}
use Rattle.elements.specs.First.{PlaceOf, Absent}

abbrev pub Placed : List ℕ → List (List ℕ) → List (List ℕ) → ℕ → Type 0
Placed m ms ns i = (PlaceOf m ms i × (ns ≡ ms)) ⊎ ((Absent m ms) × (i ≡ length ms) × (ns ≡ ms ++ m ∷ []))
