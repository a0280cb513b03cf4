-- One element more in a list of a book.
use Rattle.std.proofs.Common.{◌≡◌, ℕ, Bool, true, false, List, map, refl}
use Rattle.std.proofs.lemmas.List.{map-set}
use Rattle.elements.specs.Cells.{added}

-- the bits of the cells after it are those before it, with its own bits in one cell
pub map_added : {X : Type 0} (bits : X → List ℕ) (b : Bool) (xs : List X) (i : ℕ) (x : X) → map bits (added b xs i x) ≡ added b (map bits xs) i (bits x)
map_added bits true xs i x = map-set bits xs i x
map_added bits false xs i x = refl
