-- Worked readings: what some texts mean where there are 3 positions, 3 textures and 3 normals.
use Rattle.std.specs.Prelude.{◌≡◌, ℕ, ◌+◌, ◌-◌, ◌^◌, List, [], ◌∷◌, Some, None, codes, Option}
use Rattle.elements.specs.Corners.{missing}
use Rattle.elements.specs.declared.corner.VertexIndices.{VertexIndices}
use Rattle.reading.specs.declared.counts.Counts.{Counts}
use Rattle.reading.specs.Face.{face}

abbrev three : Counts
three = record { positions = 3; textures = 3; normals = 3 }

-- a face of one corner
abbrev one : ℕ → ℕ → ℕ → Option (List VertexIndices)
one v vt vn = Some (record { v = v; vt = vt; vn = vn } ∷ [])

abbrev pub Readings : Type 0
Readings =
    (face three (codes "1/2/3") ≡ one 0 1 2)
    × (face three (codes "1//3") ≡ one 0 missing 2)
    × (face three (codes "-1") ≡ one 2 missing missing)
    × (face three (codes "-4") ≡ one missing missing missing)
    × (face three (codes "-5") ≡ one (2 ^ 64 - 2) missing missing)
    × (face three (codes "0") ≡ one missing missing missing)
    × (face three (codes "1/2/3//") ≡ one 0 1 2)
    × (face three (codes "1/2/3/4") ≡ None)
    × (face three (codes "+2") ≡ one 1 missing missing)
    × (face three (codes "+") ≡ None)
    × (face three (codes "9223372036854775807") ≡ one 9223372036854775806 missing missing)
    × (face three (codes "9223372036854775808") ≡ None)
    × (face three (codes "-9223372036854775808") ≡ one (2 ^ 63 + 3) missing missing)
    × (face three (codes "-9223372036854775809") ≡ None)
    × (face three (codes "") ≡ Some [])
