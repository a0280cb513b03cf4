-- What is promised of a book over any list of calls, refused ones included, from the blank book on.
--   Happening      a request, its answer, and what it left in its mesh and tables if it was an export
--   Past           happenings, the latest last
--   Reaches        a past brings a blank book to these contents, each call by its rule
--   Log            what the arguments and the grants alone tell
--   Agrees         book and log say the same, and no face is lost or changes its turn
--   Kept           what is promised of one happening, given what was told before it
--   History        every past keeps all of it
use Rattle.std.specs.Prelude.{◌≡◌, ℕ, ◌+◌, List, [], ◌∷◌, ◌++◌, length, Ok, Err, Option}
use Rattle.std.specs.Option.{unwrap_or}
use Rattle.elements.specs.declared.corner.VertexIndices.{VertexIndices}
use Rattle.elements.specs.declared.options.LoadOptions.{LoadOptions}
use Rattle.elements.specs.Bits.{triple_bits, double_bits}
use Rattle.elements.specs.Contents.{Contents, Sources, nothing}
use Rattle.mesh.specs.Unfold.{events, corners_of}
use Rattle.mesh.specs.Surface.{Capacities}
use Rattle.mesh.specs.Promises.{MeshPromise, ArityPromise}
use Rattle.reading.specs.Face.{face}
use Rattle.book.specs.declared.calls.Reply.TheVariants.{Done, Exported}
use Rattle.book.specs.Requests.{Request, add_position, add_colour, add_texture, add_normal, add_face, write_mesh, BookRooms}
use Rattle.book.specs.Rules.{CallAnswer, Does, Left, cleared, written_faces, skipped_faces}

-- ---- what happened

pub record Happening : Type 0 where
  pub asked : Request
  pub answer : CallAnswer
  pub mesh : Left

pub data Past : Type 0 where
  blank : Past
  more : Past → Happening → Past

abbrev pub Reaches : BookRooms → Past → Contents → Type 0
Reaches rs blank c = c ≡ nothing
Reaches rs (more p h) c = (b : Contents) × Reaches rs p b × Does rs b h.asked h.answer h.mesh c

-- ---- what is told of it

-- the lists of elements, the faces that wait and those that left, in order, and how many were granted, written and skipped
pub record Log : Type 0 where
  pub positions : List (List ℕ)
  pub textures : List (List ℕ)
  pub normals : List (List ℕ)
  pub waiting : List (List VertexIndices)
  pub gone : List (List VertexIndices)
  pub all : List (List VertexIndices)
  pub granted : ℕ
  pub written : ℕ
  pub skipped : ℕ

abbrev pub empty_log : Log
empty_log = record { positions = []; textures = []; normals = []; waiting = []; gone = []; all = []; granted = 0; written = 0; skipped = 0 }

-- the elements that the log knows of; it keeps no colours
abbrev pub told_sources : Log → Sources
told_sources l = record { positions = l.positions; colours = []; textures = l.textures; normals = l.normals }

-- the face that a text means, by the log's own counts; a text that does not read means none
abbrev pub face_told : Log → List ℕ → List VertexIndices
face_told l text =
    unwrap_or (face (record { positions = length l.positions; textures = length l.textures; normals = length l.normals }) text) []

-- the log with other elements
abbrev pub with_elements : Log → List (List ℕ) → List (List ℕ) → List (List ℕ) → Log
with_elements l ps ts ns = record l { positions = ps; textures = ts; normals = ns }

-- a granted position, texture or normal goes last in its list, and so does the face that a granted text means; a colour changes
-- nothing; a granted export takes all waiting faces
abbrev pub noted : Log → Request → Log
noted l (add_position x y z) = with_elements l (l.positions ++ triple_bits x y z ∷ []) l.textures l.normals
noted l (add_colour x y z) = l
noted l (add_texture u v) = with_elements l l.positions (l.textures ++ double_bits u v ∷ []) l.normals
noted l (add_normal x y z) = with_elements l l.positions l.textures (l.normals ++ triple_bits x y z ∷ [])
noted l (add_face text) =
    record l {
      waiting = l.waiting ++ face_told l text ∷ [];
      all = l.all ++ face_told l text ∷ [];
      granted = l.granted + 1;
    }
noted l (write_mesh o material ms ts) =
    record l {
      waiting = [];
      gone = l.gone ++ l.waiting;
      written = l.written + written_faces o l.waiting;
      skipped = l.skipped + skipped_faces o l.waiting;
    }

-- a refused call changes nothing
abbrev pub logged : Log → Request → CallAnswer → Log
logged l q (Ok r) = noted l q
logged l q (Err e) = l

abbrev pub log : Past → Log
log blank = empty_log
log (more p h) = logged (log p) h.asked h.answer

-- ---- what is promised

-- in order, and bit for bit; granted faces were written, skipped or still wait, and left in the order in which they came
pub record Agrees (l : Log) (c : Contents) : Type 0 where
  pub positions : c.sources.positions ≡ l.positions
  pub textures : c.sources.textures ≡ l.textures
  pub normals : c.sources.normals ≡ l.normals
  pub waiting : c.waiting ≡ l.waiting
  pub order : l.gone ++ c.waiting ≡ l.all
  pub counted : length l.all ≡ l.granted
  pub conserved : l.granted ≡ l.written + l.skipped + length c.waiting

-- a granted export answers what the log counts, and its mesh reads back, shares and does with as few points as promised, for the
-- corners that the log has for it
pub record ExportKept (l : Log) (o : LoadOptions) (material : Option ℕ) (w s : ℕ) (m : Left) : Type 0 where
  pub written : w ≡ written_faces o l.waiting
  pub skipped : s ≡ skipped_faces o l.waiting
  pub material_is : m.material ≡ material
  pub mesh : MeshPromise o (told_sources l) (corners_of (events o l.waiting)) m.surface
  pub arities : ArityPromise o l.waiting m.surface

abbrev pub KeptExport : Log → LoadOptions → Option ℕ → Capacities → CallAnswer → Left → Type 0
KeptExport l o material ts (Ok Done) m = ⊥
KeptExport l o material ts (Ok (Exported w s)) m = ExportKept l o material w s m
KeptExport l o material ts (Err e) m = m ≡ cleared ts

-- only an export answers with counts of faces
abbrev pub Plain : CallAnswer → Type 0
Plain (Ok Done) = Unit {0}
Plain (Ok (Exported w s)) = ⊥
Plain (Err e) = Unit {0}

abbrev pub Kept : Log → Request → CallAnswer → Left → Type 0
Kept l (add_position x y z) a m = Plain a
Kept l (add_colour x y z) a m = Plain a
Kept l (add_texture u v) a m = Plain a
Kept l (add_normal x y z) a m = Plain a
Kept l (add_face text) a m = Plain a
Kept l (write_mesh o material ms ts) a m = KeptExport l o material ts a m

-- of every happening, given what was told before it
abbrev pub Throughout : (Log → Request → CallAnswer → Left → Type 0) → Past → Type 0
Throughout P blank = Unit {0}
Throughout P (more p h) = Throughout P p × P (log p) h.asked h.answer h.mesh

pub record Promised (p : Past) (c : Contents) : Type 0 where
  pub agrees : Agrees (log p) c
  pub kept : Throughout Kept p

abbrev pub History : Type 0
History = (rs : BookRooms) (p : Past) (c : Contents) → Reaches rs p c → Promised p c

-- ---- pasts by their parts

-- what was asked in a past, in order, what was answered, and what was left
abbrev pub asks : Past → List Request
asks blank = []
asks (more p h) = asks p ++ h.asked ∷ []

abbrev pub answers_of : Past → List CallAnswer
answers_of blank = []
answers_of (more p h) = answers_of p ++ h.answer ∷ []

abbrev pub meshes_of : Past → List Left
meshes_of blank = []
meshes_of (more p h) = meshes_of p ++ h.mesh ∷ []
