-- Merging elements that agree bit for bit.
--   renumbered xs ns   each number becomes the place that its element of xs has among the distinct ones
--   merged m           every list of elements without repeats, and its numbers with it; colours get numbers of their own first
use Rattle.std.specs.Prelude.{ℕ, max, Bool, if◌then◌else◌, ◌&&◌, ◌||◌, List, [], ◌∷◌, map, length, nat_lt, slice_index_or}
use Rattle.elements.specs.declared.error.LoadError.{LoadError}
use Rattle.elements.specs.declared.error.LoadError.TheVariants.{TableFull, MeshFull}
use Rattle.elements.specs.First.{distinct, place}
use Rattle.mesh.specs.Surface.{Surface, Rooms, Capacities, over}
use Rattle.mesh.specs.Numbering.{some}

abbrev pub renumbered : List (List ℕ) → List ℕ → List ℕ
renumbered xs ns = map (λ n. place (distinct xs) (slice_index_or xs n [])) ns

abbrev pub merged : Surface → Surface
merged m =
    record m {
      positions = distinct m.positions;
      colours = distinct m.colours;
      textures = distinct m.textures;
      normals = distinct m.normals;
      indices = renumbered m.positions m.indices;
      colour_indices = (if some m.colours then renumbered m.colours m.indices else []);
      texture_indices = renumbered m.textures m.texture_indices;
      normal_indices = renumbered m.normals m.normal_indices;
    }

-- the longest list that is to be merged
abbrev pub longest : Surface → ℕ
longest m = max (length m.positions) (max (length m.colours) (max (length m.normals) (length m.textures)))

-- what stands in the way of merging each list of m, where p and q are the capacities of the bit tables
abbrev pub bit_checks : ℕ → ℕ → Surface → List (Bool × LoadError)
bit_checks p q m =
    (over p (distinct m.colours), TableFull)
    ∷ (over p (distinct m.positions), TableFull)
    ∷ (over p (distinct m.normals), TableFull)
    ∷ (over q (distinct m.textures), TableFull)
    ∷ []

-- what stands in the way of merging m: cells of the remap list or of the colour indices, then places of the bit tables
abbrev pub merge_checks : Rooms → Capacities → Surface → List (Bool × LoadError)
merge_checks rs n m =
    (nat_lt rs.remap (longest m) || some m.colours && over rs.colour_indices m.indices, MeshFull) ∷ bit_checks n.points n.pairs m
