use Rattle.std.proofs.Common.{◌≡◌, ◌≤◌, length, take, drop, filter}
use Rattle.elements.specs.Contents.{faces_of}
use Rattle.mesh.specs.Unfold.{wanted, events}
use Rattle.mesh.proofs.UnfoldWriter.{Midway}
use Rattle.mesh.proofs.unfold.Writer.write_faces.Given as goal

abbrev pub invariant-loop-face : goal.invariant-loop-face
invariant-loop-face g l =
    let o = l.initial.self.options in
    let fs = faces_of l.waiting in
    Midway g.N.Numbering (events o fs) (events o (drop l.face-index fs)) l.initial.self l.self
    × (l.written ≡ length (filter (wanted o) (take l.face-index fs)))
    × (l.written ≤ l.face-index)
