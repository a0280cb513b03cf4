-- What a merged list is good for. The numbers ns name elements of xs, and ms elements of ys.
--   ReadsAs ys ms xs ns     ms read from ys, bit for bit, what ns read from xs
--   SharesBy ms xs ns       two of ms are one number exactly where those of ns name elements that agree bit for bit
--   FewestFor ys xs ns      no list from which the same can be read is shorter than ys
--   Used xs ns              each element of xs is named by one of ns
--   Faithful xs ns ys ms    all of this, of xs and ns merged into ys and ms
use Rattle.std.specs.Prelude.{◌≡◌, ℕ, ◌<◌, ◌≤◌, List, [], length, slice_index, slice_index_or}
use Rattle.elements.specs.First.{PlaceOf}

-- the element of xs that the number at i of ns names
abbrev pub named : List (List ℕ) → List ℕ → ℕ → List ℕ
named xs ns i = slice_index_or xs (slice_index ns i) []

abbrev pub ReadsAs : List (List ℕ) → List ℕ → List (List ℕ) → List ℕ → Type 0
ReadsAs ys ms xs ns = (i : ℕ) → i < length ns → PlaceOf (named xs ns i) ys (slice_index ms i)

abbrev pub SharesBy : List ℕ → List (List ℕ) → List ℕ → Type 0
SharesBy ms xs ns = (i j : ℕ) → i < length ns → j < length ns → (slice_index ms i ≡ slice_index ms j → named xs ns i ≡ named xs ns j) × (named xs ns i ≡ named xs ns j → slice_index ms i ≡ slice_index ms j)

abbrev pub FewestFor : List (List ℕ) → List (List ℕ) → List ℕ → Type 0
FewestFor ys xs ns = (zs : List (List ℕ)) (os : List ℕ) → ReadsAs zs os xs ns → length ys ≤ length zs

abbrev pub Used : List (List ℕ) → List ℕ → Type 0
Used xs ns = (k : ℕ) → k < length xs → ((i : ℕ) × ((i < length ns) × (slice_index ns i ≡ k)))

pub record Faithful (xs : List (List ℕ)) (ns : List ℕ) (ys : List (List ℕ)) (ms : List ℕ) : Type 0 where
  pub long : length ms ≡ length ns
  pub reads : ReadsAs ys ms xs ns
  pub shares : SharesBy ms xs ns
  pub fewest : Used xs ns → FewestFor ys xs ns
