use Rattle.std.proofs.Common.{map, drop}
use Rattle.mesh.specs.Unfold.{corner}
use Rattle.mesh.proofs.UnfoldWriter.{Midway}
use Rattle.mesh.proofs.unfold.Writer.write_corners.Given as goal

abbrev pub invariant-loop-vert : goal.invariant-loop-vert
invariant-loop-vert g l =
    Midway g.N.Numbering (map corner l.corners) (map corner (drop l.vert-index l.corners)) l.initial.self l.self
