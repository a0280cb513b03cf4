-- What a book contains, told apart from the cells that hold it.
--   Sources        the elements that corners refer to, by their bits, each list in order
--   Contents       the sources, and each waiting face as its corners
--   nothing        what a blank book contains
--   sources a      what attributes contain
--   faces_of w     each waiting face as its corners, in order
--   contents a w   what attributes and waiting faces contain
use Rattle.std.specs.Prelude.{ℕ, List, [], map}
use Rattle.elements.specs.declared.corner.VertexIndices.{VertexIndices}
use Rattle.elements.specs.declared.attributes.Attributes.{Attributes}
use Rattle.elements.specs.declared.waiting.Waiting.{Waiting}
use Rattle.elements.specs.Bits.{point_bits, pair_bits}
use Rattle.elements.specs.Rows.{items}
use Rattle.elements.specs.Tiles.{part}

pub record Sources : Type 0 where
  pub positions : List (List ℕ)
  pub colours : List (List ℕ)
  pub textures : List (List ℕ)
  pub normals : List (List ℕ)

pub record Contents : Type 0 where
  pub sources : Sources
  pub waiting : List (List VertexIndices)

abbrev pub nothing : Contents
nothing = record { sources = record { positions = []; colours = []; textures = []; normals = [] }; waiting = [] }

abbrev pub sources : Attributes → Sources
sources a =
    record {
      positions = map point_bits (items a.positions);
      colours = map point_bits (items a.colours);
      textures = map pair_bits (items a.textures);
      normals = map point_bits (items a.normals);
    }

abbrev pub faces_of : Waiting → List (List VertexIndices)
faces_of w = map (part (items w.corners)) (items w.faces)

abbrev pub contents : Attributes → Waiting → Contents
contents a w = record { sources = sources a; waiting = faces_of w }
