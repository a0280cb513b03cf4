-- A book in memory.
--   rooms b        what its lists have room for
--   contained b    what it contains
--   Stores         one cell was written where a call was granted, and none where it was refused
--   Awaits         a face and its corners were written where a call was granted, and nothing where it was refused
--   left m t       what an export left in the mesh m and the tables' stock t
--   Released       nothing waits any more where a call was granted, and all is as it was where it was refused; no cell is touched
--   with_..        a book with another list in the place of one of its own
use Rattle.std.specs.Prelude.{◌≡◌, ℕ, List, map, length, set, is_ok, Some, None, Ok, Err, Option, Result}
use Rattle.elements.specs.declared.corner.VertexIndices.{VertexIndices}
use Rattle.elements.specs.declared.error.LoadError.{LoadError}
use Rattle.elements.specs.declared.waiting.Waiting.{Waiting}
use Rattle.elements.specs.declared.point.Point.{Point}
use Rattle.elements.specs.declared.point.Pair.{Pair}
use Rattle.elements.specs.declared.row.Row.{Row}
use Rattle.elements.specs.Cells.{added}
use Rattle.elements.specs.Contents.{Contents, contents}
use Rattle.elements.specs.Rows.{held, room}
use Rattle.mesh.specs.declared.mesh.Mesh.{Mesh}
use Rattle.mesh.specs.Lists.{surface}
use Rattle.mesh.specs.Writing.{Stock}
use Rattle.reading.specs.Face.{written}
use Rattle.book.specs.declared.book.Book.{Book}
use Rattle.book.specs.Requests.{BookRooms}
use Rattle.book.specs.Rules.{Left}

abbrev pub rooms : Book → BookRooms
rooms b =
    record {
      positions = room b.attributes.positions;
      colours = room b.attributes.colours;
      textures = room b.attributes.textures;
      normals = room b.attributes.normals;
      corners = room b.waiting.corners;
      faces = room b.waiting.faces;
    }

abbrev pub contained : Book → Contents
contained b = contents b.attributes b.waiting

-- the cells of r, by the bits of what they hold, became those of s
abbrev pub Stores : {X Y E : Type 0} → (X → List ℕ) → Result Y E → Row X → Row X → List ℕ → Type 0
Stores bits answer r s x = map bits (held s) ≡ added (is_ok answer) (map bits (held r)) r.count x

-- the cells of the waiting faces w became those of v: the corners cs and one face over them came after the others
abbrev pub Awaits : Option LoadError → Waiting → Waiting → List VertexIndices → Type 0
Awaits None w v cs =
    (held v.corners ≡ written cs w.corners.count (held w.corners))
    × (held v.faces ≡ set (held w.faces) w.faces.count (record { start = w.corners.count; count = length cs }))
Awaits (Some e) w v cs =
    (held v.corners ≡ held w.corners) × (v.corners.count ≡ w.corners.count) × (v.faces ≡ w.faces)

abbrev pub left : Mesh → Stock → Left
left m t = record { surface = surface m.lists; material = m.material_id; remap = m.lists.remap.count; stock = t }

abbrev pub Released : {Y E : Type 0} → Result Y E → Waiting → Waiting → Type 0
Released (Ok n) w v =
    (v.corners.cells ≡ w.corners.cells) × (v.faces.cells ≡ w.faces.cells) × (v.corners.count ≡ 0) × (v.faces.count ≡ 0)
Released (Err e) w v = v ≡ w

module _ (b : Book) where
  abbrev pub with_positions : Row Point → Book
  with_positions r = record b { attributes = record b.attributes { positions = r } }

  abbrev pub with_colours : Row Point → Book
  with_colours r = record b { attributes = record b.attributes { colours = r } }

  abbrev pub with_textures : Row Pair → Book
  with_textures r = record b { attributes = record b.attributes { textures = r } }

  abbrev pub with_normals : Row Point → Book
  with_normals r = record b { attributes = record b.attributes { normals = r } }
