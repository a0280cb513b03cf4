-- What playing a tape on a book does, where the mesh of its exports has the rooms ms and their tables the capacities ts.
--   heard            what a record that begins these bytes asks of the book
--   Asks             the record r begins these bytes and asks q
--   Recorded         these requests stand on the tape one after the other, and then the rest
--   line_of          the line of a record
--   report           a line for each record
--   Ended            why playing stopped: nothing was left, or what was left is no record, or no line was left to write
--   last_left        what a mesh holds after a past: what its last export left, or what was there before
--   Played           all of it together, after any past of the book
use Rattle.std.specs.Prelude.{◌≡◌, ℕ, ◌<◌, ◌⊎◌, List, [], ◌∷◌, ◌++◌, length, take, drop, Option, Ok, Err, None, Some}
use Rattle.elements.specs.declared.error.LoadError.TheVariants.{BadRecord}
use Rattle.elements.specs.Contents.{Contents}
use Rattle.mesh.specs.Surface.{Rooms, Capacities}
use Rattle.book.specs.declared.calls.Reply.TheVariants.{Done, Exported}
use Rattle.book.specs.Requests.{Request, add_position, add_colour, add_texture, add_normal, add_face, write_mesh, BookRooms}
use Rattle.book.specs.Rules.{CallAnswer, Left}
use Rattle.book.specs.History.{Past, blank, more, Reaches, Promised, asks, answers_of, meshes_of}
use Rattle.records.specs.declared.record.Record.{Record}
use Rattle.records.specs.declared.record.Record.TheVariants.{Position, Colour, Texture, Normal, Face, Export}
use Rattle.records.specs.declared.line.Line.{Line}
use Rattle.records.specs.declared.line.Size.{Size}
use Rattle.records.specs.Layout.{kind_of, options_of, size, Stands}

-- ---- one record

-- an export on a tape has no material
abbrev pub heard : Rooms → Capacities → List ℕ → Record → Request
heard ms ts bs (Position x y z) = add_position x y z
heard ms ts bs (Colour x y z) = add_colour x y z
heard ms ts bs (Texture u v) = add_texture u v
heard ms ts bs (Normal x y z) = add_normal x y z
heard ms ts bs (Face n) = add_face (take n (drop 4 bs))
heard ms ts bs (Export n) = write_mesh (options_of n) None ms ts

abbrev pub Asks : Rooms → Capacities → List ℕ → Record → Request → Type 0
Asks ms ts bs r q = Stands bs r × (q ≡ heard ms ts bs r)

abbrev pub kind_number : Request → ℕ
kind_number (add_position x y z) = 1
kind_number (add_colour x y z) = 2
kind_number (add_texture u v) = 3
kind_number (add_normal x y z) = 4
kind_number (add_face text) = 5
kind_number (write_mesh o material ms ts) = 6

-- the size of a mesh is told of a granted export alone
abbrev pub told_size : CallAnswer → Left → Option Size
told_size (Ok Done) m = None
told_size (Ok (Exported w s)) m = Some (record { indices = length m.surface.indices; positions = length m.surface.positions })
told_size (Err e) m = None

abbrev pub line_of : ℕ → CallAnswer → Left → Line
line_of kind a m = record { kind = kind; answer = a; size = told_size a m }

abbrev pub bad_line : List ℕ → Line
bad_line rest = record { kind = kind_of rest; answer = Err BadRecord; size = None }

-- ---- a whole tape

abbrev pub Recorded : Rooms → Capacities → List ℕ → List Request → List ℕ → Type 0
Recorded ms ts tape [] rest = rest ≡ tape
Recorded ms ts tape (q ∷ qs) rest = (r : Record) × Asks ms ts tape r q × Recorded ms ts (drop (size r) tape) qs rest

abbrev pub report : List Request → List CallAnswer → List Left → List Line
report [] answers meshes = []
report (q ∷ qs) [] meshes = []
report (q ∷ qs) (a ∷ answers) [] = []
report (q ∷ qs) (a ∷ answers) (m ∷ meshes) = line_of (kind_number q) a m ∷ report qs answers meshes

-- no record begins bs
abbrev pub Unreadable : List ℕ → Type 0
Unreadable bs = (0 < length bs) × ((r : Record) → Stands bs r → ⊥)

-- how the lines end, and why no more were written
abbrev pub Ended : List ℕ → List Line → List Line → ℕ → Type 0
Ended rest told written room =
    ((rest ≡ []) × (written ≡ told))
    ⊎ ((Unreadable rest × (written ≡ told ++ bad_line rest ∷ []))
    ⊎ ((length written ≡ room) × (written ≡ told)))

-- only an export changes the mesh
abbrev pub after_request : Request → Left → Left → Left
after_request (add_position x y z) before m = before
after_request (add_colour x y z) before m = before
after_request (add_texture u v) before m = before
after_request (add_normal x y z) before m = before
after_request (add_face text) before m = before
after_request (write_mesh o material ms ts) before m = m

-- what a mesh holds after a past in which it was exported into
abbrev pub last_left : Left → Past → Left
last_left before blank = before
last_left before (more p h) = after_request h.asked (last_left before p) h.mesh

-- after the past p, the tape was played: written are the lines, of which there was room for so many, and the book contains c. The
-- mesh held m before, and holds n
pub record Played (rs : BookRooms) (ms : Rooms) (ts : Capacities) (p : Past) (m : Left) (tape : List ℕ) (written : List Line) (room : ℕ) (c : Contents) (n : Left) : Type 0 where
  pub requests : List Request
  pub answers : List CallAnswer
  pub meshes : List Left
  pub rest : List ℕ
  pub recorded : Recorded ms ts tape requests rest
  pub past : Past
  pub asked : asks past ≡ asks p ++ requests
  pub answered : answers_of past ≡ answers_of p ++ answers
  pub left : meshes_of past ≡ meshes_of p ++ meshes
  pub reached : Reaches rs past c
  pub promised : Promised past c
  pub held : (before : Left) → last_left before p ≡ m → last_left before past ≡ n
  pub ended : Ended rest (report requests answers meshes) written room
