-- First appearances in a list of keys, where a key is a list of whole numbers.
--   alike a b       a and b are the same key
--   has ks k        k is one of ks
--   without k ks    those of ks that differ from k
--   distinct ks     each of ks once, in the order in which they first appear
--   place ks k      where k first stands in ks, counted from 0; the length of ks where it is none of them
--   entered ks k    ks, and after them k unless it is one of them
--   numbers ks      for each of ks, its place among the distinct ones
--   PlaceOf k ks i  k stands at i in ks
--   Absent k ks     k stands nowhere in ks
--   Apart ks        no key stands twice in ks
-- Their laws are in proofs/FirstFacts.
use Rattle.std.specs.Prelude.{◌≡◌, ℕ, suc, ◌<◌, Bool, true, false, if◌then◌else◌, ◌&&◌, ◌||◌, List, [], ◌∷◌, ◌++◌, map, length, ◌==◌, ◌≢◌, slice_index_or}

abbrev pub alike : List ℕ → List ℕ → Bool
alike [] [] = true
alike [] (y ∷ ys) = false
alike (x ∷ xs) [] = false
alike (x ∷ xs) (y ∷ ys) = x == y && alike xs ys

abbrev pub has : List (List ℕ) → List ℕ → Bool
has [] m = false
has (k ∷ ks) m = alike k m || has ks m

abbrev pub without : List ℕ → List (List ℕ) → List (List ℕ)
without m [] = []
without m (k ∷ ks) = if alike k m then without m ks else k ∷ without m ks

abbrev pub distinct : List (List ℕ) → List (List ℕ)
distinct [] = []
distinct (k ∷ ks) = k ∷ without k (distinct ks)

abbrev pub place : List (List ℕ) → List ℕ → ℕ
place [] m = 0
place (k ∷ ks) m = if alike k m then 0 else suc (place ks m)

abbrev pub entered : List (List ℕ) → List ℕ → List (List ℕ)
entered ks m = if has ks m then ks else ks ++ m ∷ []

abbrev pub numbers : List (List ℕ) → List ℕ
numbers ks = map (place (distinct ks)) ks

abbrev pub PlaceOf : List ℕ → List (List ℕ) → ℕ → Type 0
PlaceOf m ks i = (i < length ks) × (slice_index_or ks i [] ≡ m)

abbrev pub Absent : List ℕ → List (List ℕ) → Type 0
Absent m ks = (i : ℕ) → i < length ks → slice_index_or ks i [] ≢ m

abbrev pub Apart : List (List ℕ) → Type 0
Apart ks = (i j : ℕ) → i < length ks → j < length ks → slice_index_or ks i [] ≡ slice_index_or ks j [] → i ≡ j
