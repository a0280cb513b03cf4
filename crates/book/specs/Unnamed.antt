-- Positions that no waiting corner names. A corner names a position by its v, which is the position's number, counted from 0.
--   names cs i             a corner of cs names the position i
--   named_among n cs       those of the first n positions that corners of cs name, each once, as a table holds them
--   others n ks            the numbers below n that are no key of ks
--   position_count c       how many positions there are
--   waiting_corners c      all waiting corners, one after the other
--   named_count c          how many positions waiting corners name
--   Unnamed c i            there is a position i, and no waiting corner names it
--   Unnames c ns           ns are the numbers of all such positions, each once, in any order
--   unnamed_checks k n c   what stands in the way of listing them, with a table of capacity k and a list with room for n, in order
--   Lists e c ns           the list holds ns then, where e is the refusal or none
use Rattle.std.specs.Prelude.{◌≡◌, ℕ, ◌-◌, ◌<◌, Bool, false, not, List, [], ◌∷◌, map, length, Some, None, filter, Option, nat_lt, slice_index}
use Rattle.std.specs.List.{range_with_len, ContainsAt as Has, flat_map}
use Rattle.elements.specs.declared.corner.VertexIndices.{VertexIndices}
use Rattle.elements.specs.declared.error.LoadError.{LoadError}
use Rattle.elements.specs.declared.error.LoadError.TheVariants.{TableFull, MeshFull}
use Rattle.elements.specs.Contents.{Contents}
use Rattle.elements.specs.First.{has, distinct}

-- the key by which a corner names its position
abbrev pub name_of : VertexIndices → List ℕ
name_of c = c.v ∷ []

abbrev pub names : List VertexIndices → ℕ → Bool
names cs i = has (map name_of cs) (i ∷ [])

abbrev pub named_among : ℕ → List VertexIndices → List (List ℕ)
named_among n cs = distinct (map name_of (filter (λ c. nat_lt c.v n) cs))

abbrev pub others : ℕ → List (List ℕ) → List ℕ
others n ks = filter (λ i. not (has ks (i ∷ []))) (range_with_len 0 n)

module _ (c : Contents) where
  abbrev pub position_count : ℕ
  position_count = length c.sources.positions

  abbrev pub waiting_corners : List VertexIndices
  waiting_corners = flat_map (λ f. f) c.waiting

  abbrev pub named_count : ℕ
  named_count = length (named_among position_count waiting_corners)

  abbrev pub Unnamed : ℕ → Type 0
  Unnamed i = (i < position_count) × (names waiting_corners i ≡ false)

  pub record Unnames (ns : List ℕ) : Type 0 where
    -- no number stands twice
    pub once : (j k : ℕ) → j < length ns → k < length ns → slice_index ns j ≡ slice_index ns k → j ≡ k
    -- each is that of a position that no waiting corner names
    pub only : (k : ℕ) → k < length ns → Unnamed (slice_index ns k)
    -- and no such position is left out
    pub every : (i : ℕ) → Unnamed i → Has ns i

-- the table takes each named position, and then the list each other one
abbrev pub unnamed_checks : ℕ → ℕ → Contents → List (Bool × LoadError)
unnamed_checks k n c =
    (nat_lt k (named_count c), TableFull) ∷ (nat_lt n (position_count c - named_count c), MeshFull) ∷ []

-- a refused call leaves no number
abbrev pub Lists : Option LoadError → Contents → List ℕ → Type 0
Lists None c ns = Unnames c ns
Lists (Some e) c ns = ns ≡ []
