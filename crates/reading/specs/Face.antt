-- What a face text means: its tokens' corners in order, if every token reads. And what is left in the cells that
-- these are written into.
use Rattle.std.specs.Prelude.{◌≡◌, ℕ, ◌+◌, ◌≤◌, List, [], ◌∷◌, ◌++◌, map, length, take, drop, Some, None, Option, if◌then◌else◌, nat_le}
use Rattle.std.specs.Option.{option_map}
use Rattle.elements.specs.Cells.{room_of}
use Rattle.elements.specs.declared.corner.VertexIndices.{VertexIndices}
use Rattle.reading.specs.declared.counts.Counts.{Counts}
use Rattle.reading.specs.Pieces.{Stretch, tokens}
use Rattle.reading.specs.Corner.{corner}

-- each, if all are there
abbrev pub all : {X : Type 0} → List (Option X) → Option (List X)
all [] = Some []
all (None ∷ xs) = None
all (Some x ∷ xs) = option_map (λ ys. x ∷ ys) (all xs)

abbrev pub corners : Counts → List Stretch → Option (List VertexIndices)
corners n ts = all (map (corner n) ts)

abbrev pub face : Counts → List ℕ → Option (List VertexIndices)
face n text = corners n (tokens text)

-- how many are appended after the first start of a list with so much room: all, if there are any to append and they fit
abbrev pub appended : {X : Type 0} → Option (List X) → ℕ → ℕ → Option ℕ
appended None start room = None
appended (Some xs) start room = if nat_le (start + length xs) room then Some (length xs) else None

-- cells into which a list was written from start on
abbrev pub written : {X : Type 0} → List X → ℕ → List X → List X
written xs start cells = take start cells ++ (xs ++ drop (start + length xs) cells)

-- how many corners a text has, if it reads, is the same for all counts
abbrev pub Counted : List ℕ → Option ℕ → Type 0
Counted text r = (n : Counts) → r ≡ option_map length (face n text)

-- a list that fits is granted and written
abbrev pub Granted : Option (List VertexIndices) → ℕ → List VertexIndices → List VertexIndices → Option ℕ → Type 0
Granted o start old new r =
    (xs : List VertexIndices) → o ≡ Some xs → start + length xs ≤ room_of (length old) → (r ≡ Some (length xs)) × (new ≡ written xs start old)
