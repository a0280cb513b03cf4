-- Numbering the keys xs by first appearance into the cells out, which become out', with a table that has room for cap keys and ends with ks.
--   AllNumbered cap xs ks out out'      every key has its number, and the table holds the different ones
--   Stopped cap xs out out' i           the key at i is new where those before it fill the table; those have their numbers
--   Each f cap vs ks out out' r         what entering each of the keys vs in turn, by the meaning f, came to
--   Numbered f cap vs ks out out' r     what numbering them answered: where it is refused, the table ends empty
use Rattle.std.specs.Prelude.{◌≡◌, ℕ, ◌<◌, ◌≤◌, false, List, [], ◌++◌, map, length, take, drop, Ok, Err, Result, slice_index_or}
use Rattle.elements.specs.First.{has, distinct, numbers}
use Rattle.tables.specs.declared.numbering.Unnumbered.{Unnumbered}
use Rattle.tables.specs.declared.numbering.Unnumbered.TheVariants.{Short, Full}

pub record AllNumbered (cap : ℕ) (xs ks : List (List ℕ)) (out out' : List ℕ) : Type 0 where
  pub cells : length xs ≤ length out
  pub room : length (distinct xs) ≤ cap
  pub holds : ks ≡ distinct xs
  pub written : out' ≡ numbers xs ++ drop (length xs) out

pub record Stopped (cap : ℕ) (xs : List (List ℕ)) (out out' : List ℕ) (i : ℕ) : Type 0 where
  pub cells : length xs ≤ length out
  pub over : cap < length (distinct xs)
  pub inside : i < length xs
  pub full : length (distinct (take i xs)) ≡ cap
  pub new : has (take i xs) (slice_index_or xs i []) ≡ false
  pub written : out' ≡ numbers (take i xs) ++ drop i out

abbrev pub Each : {K U : Type 0} → (K → List ℕ) → ℕ → List K → List (List ℕ) → List ℕ → List ℕ → Result U Unnumbered → Type 0
Each f cap vs ks out out' (Ok u) = AllNumbered cap (map f vs) ks out out'
Each f cap vs ks out out' (Err Short) = (length out < length vs) × (ks ≡ []) × (out' ≡ out)
Each f cap vs ks out out' (Err (Full i)) = Stopped cap (map f vs) out out' i

abbrev pub Numbered : {K U : Type 0} → (K → List ℕ) → ℕ → List K → List (List ℕ) → List ℕ → List ℕ → Result U Unnumbered → Type 0
Numbered f cap vs ks out out' (Ok u) = AllNumbered cap (map f vs) ks out out'
Numbered f cap vs ks out out' (Err Short) = (length out < length vs) × (ks ≡ []) × (out' ≡ out)
Numbered f cap vs ks out out' (Err (Full i)) = Stopped cap (map f vs) out out' i × (ks ≡ [])
