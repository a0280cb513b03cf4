-- Elements by their bits: a number of 32 bits for each f32, so that 0 and -0 are told apart.
--   number_bits    the bits of one f32
--   triple_bits    those of three numbers
--   double_bits    those of two
--   point_bits     those of a position, a colour or a normal
--   pair_bits      those of a texture
use Rattle.std.specs.Prelude.{ℕ, List, [], ◌∷◌, to_bits, Float}
use Rattle.std.specs.Float.{binary32}
use Rattle.elements.specs.declared.point.Point.{Point}
use Rattle.elements.specs.declared.point.Pair.{Pair}

abbrev pub number_bits : Float → ℕ
number_bits x = to_bits binary32 x

abbrev pub triple_bits : Float → Float → Float → List ℕ
triple_bits x y z = number_bits x ∷ number_bits y ∷ number_bits z ∷ []

abbrev pub double_bits : Float → Float → List ℕ
double_bits u v = number_bits u ∷ number_bits v ∷ []

abbrev pub point_bits : Point → List ℕ
point_bits p = triple_bits p.x p.y p.z

abbrev pub pair_bits : Pair → List ℕ
pair_bits p = double_bits p.u p.v
