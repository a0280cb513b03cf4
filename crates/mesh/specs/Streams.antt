-- One kind of elements, numbered by reference as the corners of a mesh name them.
--   last_or r rs      the last of the references rs, or r where there is none
--   meant rs r        the reference that r stands for after rs: itself, or the one before it again where it is missing
--   ByReference       an element is known by its reference
--   ByNumber          it is known by its place among the distinct references
--   Names             what a corner names among the elements xs, where its reference stands for m
--   Found             the element that stands at a place
--   lost              a reference asks for an element that is not there
--   LookedUp          what a reference names
--   Entered           whether a table took what a corner names
--   Keeps             what entering leaves of a table
--   Takes             what entering does, from any references that the table's keys were made of
--   Enters            what entering one key does
--   Written           whether the lists took it
--   Writes            the same, from any references that the lists were made of
use Rattle.std.specs.Prelude.{◌≡◌, ℕ, ◌<◌, ◌≤◌, Bool, true, false, if◌then◌else◌, not, ◌&&◌, ◌||◌, List, [], ◌∷◌, ◌++◌, map, length, Some, None, Option, MatchOption, ◌==◌, nat_le, nat_lt, slice_index_or}
use Rattle.elements.specs.Corners.{missing}
use Rattle.elements.specs.First.{distinct, place, has}
use Rattle.elements.specs.declared.row.Row.{Row}
use Rattle.elements.specs.Rows.{items, room}
use Rattle.tables.specs.Tables.{Fit, Entering}
use Rattle.tables.specs.declared.table.CornerTable.{Ghosts}
use Rattle.tables.specs.declared.key.Reference.{Reference}
use Rattle.mesh.specs.declared.stream.Named.{Named}
use Rattle.mesh.specs.declared.stream.Named.TheVariants.{Nothing, Again, Element}
use Rattle.mesh.specs.Surface.{over}
use Rattle.mesh.specs.Numbering.{some, element, one, ref_keys, picked, ref_numbers}

abbrev pub last_or : ℕ → List ℕ → ℕ
last_or r [] = r
last_or r (x ∷ xs) = last_or x xs

abbrev pub meant : List ℕ → ℕ → ℕ
meant rs r = if r == missing then last_or 0 rs else r

abbrev pub ByReference : List ℕ → ℕ → Reference → Type 0
ByReference rs m k = k.at ≡ m

abbrev pub ByNumber : List ℕ → ℕ → ℕ → Type 0
ByNumber rs m n = n ≡ place (distinct (map one rs)) (one m)

module _ {T : Type 0} (bits : T → List ℕ) (xs : List (List ℕ)) (rs : List ℕ) (m : ℕ) where
  abbrev pub Names : {R : Type 0} → (List ℕ → ℕ → R → Type 0) → Named R T → Type 0
  Names known Nothing = some xs ≡ false
  Names known (Again n) = (some xs ≡ true) × (has (distinct (map one rs)) (one m) ≡ true) × ByNumber rs m n
  Names known (Element k x) = (some xs ≡ true) × known rs m k × (bits x ≡ element xs m)

  -- a table with room for cap, whose keys became ks, answered o
  abbrev pub Entered : ℕ → List (List ℕ) → Option (Named ℕ T) → Type 0
  Entered cap ks o =
      MatchOption o
      (over cap (ref_keys xs (rs ++ m ∷ [])) ≡ true)
      (λ n. (over cap (ref_keys xs (rs ++ m ∷ [])) ≡ false) × (ks ≡ ref_keys xs (rs ++ m ∷ [])) × Names ByNumber n)

  -- lists with room for a elements and b numbers, which became es and ns, answered t
  pub record Written (a b : ℕ) (es : List (List ℕ)) (ns : List ℕ) (t : Bool) : Type 0 where
    pub tells : t ≡ not (over a (picked xs (rs ++ m ∷ [])) || over b (ref_numbers xs (rs ++ m ∷ [])))
    pub elements : t ≡ true → es ≡ picked xs (rs ++ m ∷ [])
    pub numbers : t ≡ true → ns ≡ ref_numbers xs (rs ++ m ∷ [])

abbrev pub Found : {T : Type 0} → List T → ℕ → Named Reference T → Type 0
Found xs at Nothing = ⊥
Found xs at (Again n) = ⊥
Found xs at (Element k x) = (at < length xs) × (k.at ≡ at) × (x ≡ slice_index_or xs at x)

-- lists a and b, which were to have what k names and its number, became a' and b', and t was answered
abbrev pub Writes : {T : Type 0} → Row T → Row ℕ → Named ℕ T → Row T → Row ℕ → Bool → Type 0
Writes {T} a b k a' b' t =
    (bits : T → List ℕ) (xs : List (List ℕ)) (rs : List ℕ) (m : ℕ) → map bits (items a) ≡ picked xs rs → items b ≡ ref_numbers xs rs → Names bits xs rs m ByNumber k →
    Written bits xs rs m (room a) (room b) (map bits (items a')) (items b') t

-- a reference to the elements of a asks for one that is not there
abbrev pub lost : {T : Type 0} → Row T → ℕ → Bool
lost a r = (nat_lt 0 a.count && not (r == missing)) && nat_le a.count r

-- what a reference to the elements of a names after the numbers of b
abbrev pub LookedUp : {T : Type 0} → Row T → Row ℕ → ℕ → Option (Named Reference T) → Type 0
LookedUp a b r None = lost a r ≡ true
LookedUp {T} a b r (Some n) =
    (lost a r ≡ false)
    × ((bits : T → List ℕ) (rs : List ℕ) → items b ≡ ref_numbers (map bits (items a)) rs → Names bits (map bits (items a)) rs (meant rs r) ByReference n)

-- a table with the words T, where t became t'
module _ {X K : Type 0} (T : Ghosts X K) where
  pub record Keeps (t t' : X) : Type 0 where
    pub capacity : T.capacity t' ≡ T.capacity t
    pub sound : T.sound t → T.sound t'
    pub within : T.sound t → length (T.keys t) ≤ T.capacity t → length (T.keys t') ≤ T.capacity t'

  abbrev pub Enters : X → X → List ℕ → Option ℕ → Type 0
  Enters t t' m o = T.sound t → Fit (T.capacity t') (T.keys t') × Entering (T.capacity t) m (T.keys t) (T.keys t') o

  abbrev pub Takes : {E : Type 0} → X → X → Named Reference E → Option (Named ℕ E) → Type 0
  Takes {E} t t' k o =
      T.sound t → length (T.keys t) ≤ T.capacity t → (bits : E → List ℕ) (xs : List (List ℕ)) (rs : List ℕ) (m : ℕ) →
      T.keys t ≡ ref_keys xs rs → Names bits xs rs m ByReference k → Entered bits xs rs m (T.capacity t) (T.keys t') o
