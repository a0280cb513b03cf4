-- The lists of a mesh in memory.
--   surface l     what they contain
--   rooms l       what they have room for
--   Blank l       every cell past a list's count is zero
use Rattle.std.specs.Prelude.{ℕ, Bool, ◌&&◌, T, map, drop, ◌==◌}
use Rattle.std.specs.List.{list_all}
use Rattle.elements.specs.declared.point.Point.{Point}
use Rattle.elements.specs.declared.point.Pair.{Pair}
use Rattle.elements.specs.declared.row.Row.{Row}
use Rattle.elements.specs.Bits.{number_bits, point_bits, pair_bits}
use Rattle.elements.specs.Rows.{held, items, room}
use Rattle.mesh.specs.declared.lists.Lists.{Lists}
use Rattle.mesh.specs.Surface.{Surface, Rooms}

abbrev pub surface : Lists → Surface
surface l =
    record {
      positions = map point_bits (items l.positions);
      colours = map point_bits (items l.vertex_color);
      textures = map pair_bits (items l.texcoords);
      normals = map point_bits (items l.normals);
      indices = items l.indices;
      arities = items l.face_arities;
      colour_indices = items l.vertex_color_indices;
      texture_indices = items l.texcoord_indices;
      normal_indices = items l.normal_indices;
    }

abbrev pub rooms : Lists → Rooms
rooms l =
    record {
      positions = room l.positions;
      colours = room l.vertex_color;
      textures = room l.texcoords;
      normals = room l.normals;
      indices = room l.indices;
      arities = room l.face_arities;
      colour_indices = room l.vertex_color_indices;
      texture_indices = room l.texcoord_indices;
      normal_indices = room l.normal_indices;
      remap = room l.remap;
    }

-- a number, a point and a pair of zeros, bit by bit
abbrev pub zero_number : ℕ → Bool
zero_number n = n == 0

abbrev pub zero_point : Point → Bool
zero_point p = number_bits p.x == 0 && (number_bits p.y == 0 && number_bits p.z == 0)

abbrev pub zero_pair : Pair → Bool
zero_pair p = number_bits p.u == 0 && number_bits p.v == 0

-- every cell past the list is zero
abbrev pub Spare : {X : Type 0} → (X → Bool) → Row X → Type 0
Spare zero? r = T (list_all zero? (drop r.count (held r)))

abbrev pub Blank : Lists → Type 0
Blank l =
    (Spare zero_point l.positions × Spare zero_point l.vertex_color × Spare zero_pair l.texcoords × Spare zero_point l.normals × Spare zero_number l.indices)
    × (Spare zero_number l.face_arities × Spare zero_number l.vertex_color_indices × Spare zero_number l.texcoord_indices × Spare zero_number l.normal_indices × Spare zero_number l.remap)
