-- Memory that is shared out evenly.
--   book_of n    the rooms of a book with room for n elements in each list
--   mesh_of n    the rooms of such a mesh
use Rattle.std.specs.Prelude.{ℕ}
use Rattle.mesh.specs.Surface.{Rooms}
use Rattle.book.specs.Requests.{BookRooms}

abbrev pub book_of : ℕ → BookRooms
book_of n = record { positions = n; colours = n; textures = n; normals = n; corners = n; faces = n }

abbrev pub mesh_of : ℕ → Rooms
mesh_of n =
    record {
      positions = n;
      colours = n;
      textures = n;
      normals = n;
      indices = n;
      arities = n;
      colour_indices = n;
      texture_indices = n;
      normal_indices = n;
      remap = n;
    }
