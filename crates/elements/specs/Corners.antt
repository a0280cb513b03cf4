-- Corners by their references.
--   missing    the reference that names no element
--   refs c     the references of a corner: to a position, a texture and a normal
use Rattle.std.specs.Prelude.{ℕ, List, [], ◌∷◌}
use Rattle.elements.specs.declared.corner.VertexIndices.{VertexIndices}

abbrev pub missing : ℕ
missing = 18446744073709551615

abbrev pub refs : VertexIndices → List ℕ
refs c = c.v ∷ c.vt ∷ c.vn ∷ []
