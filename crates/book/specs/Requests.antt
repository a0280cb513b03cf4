-- What is asked of a book.
--   Request      a call with its arguments; its numbers may be NaN, its text any bytes. An export has its options, a material or
--                none, and what its mesh and its tables have room for, and nothing of which tables they are
--   BookRooms    how many elements each list of a book has room for
use Rattle.std.specs.Prelude.{ℕ, List, Option, Float}
use Rattle.elements.specs.declared.options.LoadOptions.{LoadOptions}
use Rattle.mesh.specs.Surface.{Rooms, Capacities}

pub data Request : Type 0 where
  add_position : Float → Float → Float → Request
  add_colour : Float → Float → Float → Request
  add_texture : Float → Float → Request
  add_normal : Float → Float → Float → Request
  add_face : List ℕ → Request
  write_mesh : LoadOptions → Option ℕ → Rooms → Capacities → Request

pub record BookRooms : Type 0 where
  pub positions : ℕ
  pub colours : ℕ
  pub textures : ℕ
  pub normals : ℕ
  pub corners : ℕ
  pub faces : ℕ
