-- What a token means: each of its first three parts refers to an element of a list, by its place there, or to none
-- (missing), and a token reads exactly if those three do and every other part is empty.
use Rattle.std.specs.Prelude.{ℕ, if◌then◌else◌, List, [], ◌∷◌, drop, Some, None, Option, slice_index_or}
use Rattle.std.specs.Option.{option_map}
use Rattle.elements.specs.Corners.{missing}
use Rattle.elements.specs.declared.corner.VertexIndices.{VertexIndices}
use Rattle.reading.specs.declared.counts.Counts.{Counts}
use Rattle.reading.specs.Value.{value, reference}
use Rattle.reading.specs.Pieces.{Stretch, whole, parts, vacant}

-- what the bytes of a part refer to in a list of n
abbrev pub place : ℕ → List ℕ → Option ℕ
place n [] = Some missing
place n (c ∷ cs) = option_map (reference n) (value (c ∷ cs))

-- what the part at k refers to; one that is absent is as an empty one
abbrev pub place_of : ℕ → List Stretch → ℕ → Option ℕ
place_of n ps k = place n (slice_index_or ps k (whole [])).bytes

abbrev pub indices : Option ℕ → Option ℕ → Option ℕ → Option VertexIndices
indices None vt vn = None
indices (Some v) None vn = None
indices (Some v) (Some vt) None = None
indices (Some v) (Some vt) (Some vn) = Some (record { v = v; vt = vt; vn = vn })

abbrev pub corner_of : Counts → List Stretch → Option VertexIndices
corner_of n ps =
    if vacant (drop 3 ps) then indices (place_of n.positions ps 0) (place_of n.textures ps 1) (place_of n.normals ps 2) else None

abbrev pub corner : Counts → Stretch → Option VertexIndices
corner n token = corner_of n (parts token)
