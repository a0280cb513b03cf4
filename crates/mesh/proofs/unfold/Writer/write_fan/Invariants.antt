use Rattle.std.proofs.Common.{◌≡◌, map, slice_index_or}
use Rattle.std.specs.Slice.Iter.{windows_rest, windows_size}
use Rattle.mesh.specs.Unfold.{corner, triangles}
use Rattle.mesh.proofs.UnfoldFaces.{around}
use Rattle.mesh.proofs.UnfoldWriter.{Midway}
use Rattle.mesh.proofs.unfold.Writer.write_fan.Given as goal

abbrev pub invariant-loop-side : goal.invariant-loop-side
invariant-loop-side g l =
    (windows_size l.side-iterator ≡ 2)
    × Midway g.N.Numbering (map corner (triangles l.corners)) (map corner (around (slice_index_or l.corners 0 (record { v = 0; vt = 0; vn = 0 })) (windows_rest l.side-iterator))) l.initial.self l.self
