-- A hashed table: its row holds its keys, and a slot holds 0 where it is free, else one more than a key's place.
--   slot_of h n        the slot, of n slots, at which the walk for a key with the hash h starts
--   used ss            how many of the slots ss are taken
--   Taken ss a b       no slot from a up to b is free
--   Leads ss s p       a walk from the slot s, round the end, comes to p before any free slot
--   Reach ss s v       such a walk comes to a slot that holds v
--   Hashed d ks ss     the keys, which mean ks, differ, and the walk for each leads to it
use Rattle.std.specs.Prelude.{◌≡◌, ℕ, zero, suc, ◌+◌, ◌*◌, ◌/◌, ◌^◌, ◌<◌, ◌≤◌, List, [], ◌∷◌, length, ◌≢◌, slice_index, slice_index_or}
use Rattle.elements.specs.First.{Apart}

-- the upper half of the hash, as a fraction of 2 ^ 32, scaled to the number of slots
unfoldable pub slot_of : ℕ → ℕ → ℕ
slot_of h n = h / 2 ^ 32 * n / 2 ^ 32

abbrev pub taken_bit : ℕ → ℕ
taken_bit zero = 0
taken_bit (suc n) = 1

abbrev pub used : List ℕ → ℕ
used [] = 0
used (x ∷ xs) = taken_bit x + used xs

abbrev pub Taken : List ℕ → ℕ → ℕ → Type 0
Taken ss a b = (q : ℕ) → a ≤ q → q < b → slice_index ss q ≢ 0

pub record Leads (ss : List ℕ) (s p : ℕ) : Type 0 where
  pub ahead : s ≤ p → Taken ss s p
  pub round_end : p < s → Taken ss s (length ss)
  pub round_start : p < s → Taken ss 0 p

pub record Reach (ss : List ℕ) (s v : ℕ) : Type 0 where
  pub at : ℕ
  pub inside : at < length ss
  pub holds : slice_index ss at ≡ v
  pub leads : Leads ss s at

pub record Hashed (d : List ℕ → ℕ) (ks : List (List ℕ)) (ss : List ℕ) : Type 0 where
  pub apart : Apart ks
  pub count : used ss ≡ length ks
  pub held : (p : ℕ) → slice_index ss p ≤ length ks
  pub reach : (i : ℕ) → i < length ks → Reach ss (slot_of (d (slice_index_or ks i [])) (length ss)) (i + 1)
