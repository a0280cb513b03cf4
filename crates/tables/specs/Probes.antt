-- What a walk over the slots ss of a hashed table comes to, for a key that means m, where the table's keys mean ks.
--   Other m ks v           a slot that holds v is taken, and not by the key
--   Passed m ks ss a b     the slots from a up to b are such
--   FoundAt m ks ss i      some slot leads to the key i, which means m
--   FreeAt m ks ss s p     the walk from s passed such slots only, and came to the free slot p
--   Scanned .. a b r       a walk from a up to b came to r
--   Probed d m ks ss r     the whole walk came to r
use Rattle.std.specs.Prelude.{◌≡◌, ℕ, ◌+◌, ◌<◌, ◌≤◌, List, [], length, ◌≢◌, slice_index, slice_index_or}
use Rattle.tables.specs.Hashing.{slot_of}
use Rattle.tables.specs.declared.probe.Probe.{Probe}
use Rattle.tables.specs.declared.probe.Probe.TheVariants.{Found, Free, Past}

abbrev pub Other : List ℕ → List (List ℕ) → ℕ → Type 0
Other m ks v = (v ≢ 0) × ((i : ℕ) → v ≡ i + 1 → i < length ks → slice_index_or ks i [] ≢ m)

abbrev pub Passed : List ℕ → List (List ℕ) → List ℕ → ℕ → ℕ → Type 0
Passed m ks ss a b = (q : ℕ) → a ≤ q → q < b → Other m ks (slice_index ss q)

pub record FoundAt (m : List ℕ) (ks : List (List ℕ)) (ss : List ℕ) (i : ℕ) : Type 0 where
  pub slot : ℕ
  pub holds : slice_index ss slot ≡ i + 1
  pub inside : i < length ks
  pub means : slice_index_or ks i [] ≡ m

pub record FreeAt (m : List ℕ) (ks : List (List ℕ)) (ss : List ℕ) (s p : ℕ) : Type 0 where
  pub inside : p < length ss
  pub free : slice_index ss p ≡ 0
  pub ahead : s ≤ p → Passed m ks ss s p
  pub round_end : p < s → Passed m ks ss s (length ss)
  pub round_start : p < s → Passed m ks ss 0 p

abbrev pub Scanned : List ℕ → List (List ℕ) → List ℕ → ℕ → ℕ → Probe → Type 0
Scanned m ks ss a b (Found i) = FoundAt m ks ss i
Scanned m ks ss a b (Free p) = (a ≤ p) × (p < b) × (slice_index ss p ≡ 0) × Passed m ks ss a p
Scanned m ks ss a b Past = Passed m ks ss a b

abbrev pub Probed : (List ℕ → ℕ) → List ℕ → List (List ℕ) → List ℕ → Probe → Type 0
Probed d m ks ss (Found i) = FoundAt m ks ss i
Probed d m ks ss (Free p) = FreeAt m ks ss (slot_of (d m) (length ss)) p
Probed d m ks ss Past = Passed m ks ss 0 (length ss)
