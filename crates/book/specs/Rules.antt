-- The rule of one call.
--   checks rs c q     what stands in the way of the request q on a book of the contents c, in order
--   granted c q       what the book contains once q is granted
--   Follows           a call that writes no mesh is answered, and leaves the book, as its checks say
--   Left              what an export left in its mesh and its tables
--   Exports           the same of an export
--   Does rs c q a m d q is answered a, it left m if it is an export, and the book contains d then
--   CallAnswer        what a call answers
--   told r            what a call answered
use Rattle.std.specs.Prelude.{◌≡◌, ℕ, ◌+◌, Bool, not, ◌||◌, List, [], ◌∷◌, ◌++◌, length, is_some, Some, None, Ok, Err, filter, Option, Result, is_nan, nat_le, nat_lt, Float}
use Rattle.std.specs.Option.{unwrap_or}
use Rattle.std.specs.List.{flat_map}
use Rattle.elements.specs.declared.corner.VertexIndices.{VertexIndices}
use Rattle.elements.specs.declared.options.LoadOptions.{LoadOptions}
use Rattle.elements.specs.declared.error.LoadError.{LoadError}
use Rattle.elements.specs.declared.error.LoadError.TheVariants.{NotANumber, NotAscii, FaceParseError, BookFull}
use Rattle.elements.specs.Bits.{triple_bits, double_bits}
use Rattle.elements.specs.Checks.{first}
use Rattle.elements.specs.Contents.{Contents, Sources}
use Rattle.mesh.specs.Unfold.{wanted, skips, events, corners_of}
use Rattle.mesh.specs.Surface.{Surface, empty_surface, Capacities}
use Rattle.mesh.specs.Numbering.{keyed}
use Rattle.mesh.specs.Writing.{Stock, empty_stock}
use Rattle.mesh.specs.Rules.{export_checks, verdict, finished}
use Rattle.reading.specs.declared.counts.Counts.{Counts}
use Rattle.reading.specs.Ascii.{ascii}
use Rattle.reading.specs.Face.{face}
use Rattle.book.specs.declared.calls.Reply.{Reply}
use Rattle.book.specs.declared.calls.Reply.TheVariants.{Done, Exported}
use Rattle.book.specs.Requests.{Request, add_position, add_colour, add_texture, add_normal, add_face, write_mesh, BookRooms}

-- an `Answer`, since antt has no name for an alias
abbrev pub CallAnswer : Type 0
CallAnswer = Result Reply LoadError

-- one of the numbers is none
abbrev pub nan3 : Float → Float → Float → Bool
nan3 x y z = is_nan x || (is_nan y || is_nan z)

abbrev pub nan2 : Float → Float → Bool
nan2 u v = is_nan u || is_nan v

-- one element more in a list: a number must be one, and a cell must be left
abbrev pub append_checks : Bool → ℕ → List (List ℕ) → List (Bool × LoadError)
append_checks nan room xs = (nan, NotANumber) ∷ (nat_le room (length xs), BookFull) ∷ []

-- how many elements a face text can refer to
abbrev pub counts_of : Sources → Counts
counts_of s = record { positions = length s.positions; textures = length s.textures; normals = length s.normals }

-- the corners of a face text; none where it does not read
abbrev pub corners_read : Sources → List ℕ → List VertexIndices
corners_read s text = unwrap_or (face (counts_of s) text) []

-- all corners of faces, one after the other
abbrev pub all_corners : List (List VertexIndices) → List VertexIndices
all_corners fs = flat_map (λ f. f) fs

-- a face more among the faces fs, with the corners cs that its text has if it reads: the text must be ASCII and must read, and
-- there must be a cell for the face and for each of its corners
abbrev pub wait_checks : ℕ → ℕ → List (List VertexIndices) → Option (List VertexIndices) → List ℕ → List (Bool × LoadError)
wait_checks corners faces fs cs text =
    (not (ascii text), NotAscii)
    ∷ (not (is_some cs), FaceParseError)
    ∷ (nat_le faces (length fs) || nat_lt corners (length (all_corners fs) + length (unwrap_or cs [])), BookFull)
    ∷ []

abbrev pub checks : BookRooms → Contents → Request → List (Bool × LoadError)
checks rs c (add_position x y z) = append_checks (nan3 x y z) rs.positions c.sources.positions
checks rs c (add_colour x y z) = append_checks (nan3 x y z) rs.colours c.sources.colours
checks rs c (add_texture u v) = append_checks (nan2 u v) rs.textures c.sources.textures
checks rs c (add_normal x y z) = append_checks (nan3 x y z) rs.normals c.sources.normals
checks rs c (write_mesh o material ms ts) = export_checks o c ms ts
checks rs c (add_face text) = wait_checks rs.corners rs.faces c.waiting (face (counts_of c.sources) text) text

-- other sources, the same faces
abbrev pub with_sources : Contents → Sources → Contents
with_sources c s = record c { sources = s }

abbrev pub more_positions : Sources → List ℕ → Sources
more_positions s p = record s { positions = s.positions ++ p ∷ [] }

abbrev pub more_colours : Sources → List ℕ → Sources
more_colours s p = record s { colours = s.colours ++ p ∷ [] }

abbrev pub more_textures : Sources → List ℕ → Sources
more_textures s p = record s { textures = s.textures ++ p ∷ [] }

abbrev pub more_normals : Sources → List ℕ → Sources
more_normals s p = record s { normals = s.normals ++ p ∷ [] }

abbrev pub granted : Contents → Request → Contents
granted c (add_position x y z) = with_sources c (more_positions c.sources (triple_bits x y z))
granted c (add_colour x y z) = with_sources c (more_colours c.sources (triple_bits x y z))
granted c (add_texture u v) = with_sources c (more_textures c.sources (double_bits u v))
granted c (add_normal x y z) = with_sources c (more_normals c.sources (triple_bits x y z))
granted c (write_mesh o material ms ts) = record c { waiting = [] }
granted c (add_face text) = record c { waiting = c.waiting ++ corners_read c.sources text ∷ [] }

-- a refused call leaves what it found
abbrev pub Settled : Option LoadError → Contents → Contents → CallAnswer → Contents → Type 0
Settled None before after a d = (a ≡ Ok Done) × (d ≡ after)
Settled (Some e) before after a d = (a ≡ Err e) × (d ≡ before)

abbrev pub Follows : BookRooms → Contents → Request → CallAnswer → Contents → Type 0
Follows rs c q a d = Settled (first (checks rs c q)) c (granted c q) a d

pub record Left : Type 0 where
  pub surface : Surface
  pub material : Option ℕ
  pub remap : ℕ
  pub stock : Stock

-- a mesh without anything, and tables of these capacities without keys
abbrev pub cleared : Capacities → Left
cleared ts = record { surface = empty_surface; material = None; remap = 0; stock = empty_stock ts }

-- the mesh of all waiting faces, and tables with the keys that its numbers are places of; the tables by bits are empty
abbrev pub exported : LoadOptions → Option ℕ → Capacities → Contents → Left
exported o material ts c =
    record {
      surface = finished o c;
      material = material;
      remap = 0;
      stock = record { keys = keyed o c.sources (corners_of (events o c.waiting)); points = []; pairs = []; capacities = ts };
    }

-- how many faces an export writes, and how many it skips
abbrev pub written_faces : LoadOptions → List (List VertexIndices) → ℕ
written_faces o fs = length (filter (wanted o) fs)

abbrev pub skipped_faces : LoadOptions → List (List VertexIndices) → ℕ
skipped_faces o fs = length (filter (skips o) fs)

-- a granted export takes all waiting faces; a refused one leaves the book as it was and the mesh cleared
abbrev pub Exports : Option LoadError → LoadOptions → Option ℕ → Capacities → Contents → CallAnswer → Left → Contents → Type 0
Exports None o material ts c a m d =
    (a ≡ Ok (Exported (written_faces o c.waiting) (skipped_faces o c.waiting)))
    × (m ≡ exported o material ts c)
    × (d ≡ record c { waiting = [] })
Exports (Some e) o material ts c a m d = (a ≡ Err e) × (m ≡ cleared ts) × (d ≡ c)

abbrev pub Does : BookRooms → Contents → Request → CallAnswer → Left → Contents → Type 0
Does rs c (add_position x y z) a m d = Follows rs c (add_position x y z) a d
Does rs c (add_colour x y z) a m d = Follows rs c (add_colour x y z) a d
Does rs c (add_texture u v) a m d = Follows rs c (add_texture u v) a d
Does rs c (add_normal x y z) a m d = Follows rs c (add_normal x y z) a d
Does rs c (add_face text) a m d = Follows rs c (add_face text) a d
Does rs c (write_mesh o material ms ts) a m d = Exports (verdict o c ms ts) o material ts c a m d

abbrev pub told : {X : Type 0} → Result X LoadError → CallAnswer
told (Ok x) = Ok Done
told (Err e) = Err e

abbrev pub told_export : Result (ℕ × ℕ) LoadError → CallAnswer
told_export (Ok n) = Ok (Exported n.0 n.1)
told_export (Err e) = Err e
