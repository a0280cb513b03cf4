-- What a table answers, said of its list of keys; `has`, `place`, `entered` and `Apart` are words of first appearances.
--   Fit cap ks                the keys ks of a sound table with room for cap
--   Found k ks r              r is what Find answers for the key k among ks
--   Entering cap k ks ls r    Enter of the key k turned the keys ks into ls and answered r
use Rattle.std.specs.Prelude.{◌≡◌, ℕ, ◌<◌, ◌≤◌, true, false, List, length, Some, None, Option}
use Rattle.elements.specs.Cells.{most as most_elements}
use Rattle.elements.specs.First.{has, place, entered, Apart}

pub record Fit (cap : ℕ) (ks : List (List ℕ)) : Type 0 where
  pub apart : Apart ks
  pub within : length ks ≤ cap
  pub most : cap ≤ most_elements

abbrev pub Found : List ℕ → List (List ℕ) → Option ℕ → Type 0
Found m ks (Some i) = (has ks m ≡ true) × (i ≡ place ks m)
Found m ks None = has ks m ≡ false

-- the key has its place among the keys with it entered
pub record Placed (cap : ℕ) (m : List ℕ) (ks ls : List (List ℕ)) (i : ℕ) : Type 0 where
  pub at : i ≡ place ks m
  pub holds : ls ≡ entered ks m
  pub room : has ks m ≡ false → length ks < cap

-- a new key met a full table
pub record Refused (cap : ℕ) (m : List ℕ) (ks ls : List (List ℕ)) : Type 0 where
  pub new : has ks m ≡ false
  pub full : length ks ≡ cap
  pub holds : ls ≡ ks

abbrev pub Entering : ℕ → List ℕ → List (List ℕ) → List (List ℕ) → Option ℕ → Type 0
Entering cap m ks ls (Some i) = Placed cap m ks ls i
Entering cap m ks ls None = Refused cap m ks ls
