use Rattle.std.proofs.Common.{length, refl, ap, arith}
use Rattle.std.proofs.lemmas.List.{at_drop_all, length-map}
use Rattle.std.proofs.lemmas.Result.{err_from_is_err_and}
use Rattle.elements.specs.Contents.{faces_of}
use Rattle.elements.specs.Rows.{items}
use Rattle.elements.specs.Tiles.{part}
use Rattle.mesh.specs.Unfold.{events}
use Rattle.mesh.proofs.UnfoldWaiting.{face-inside, skipped_next, wanted_next}
use Rattle.mesh.proofs.UnfoldWriter.{midway_none, midway_same, midway_more, midway_stop, midway_all, writes_err}
use Rattle.mesh.proofs.unfold.Writer.write_faces.Goals as goal

pub loop-face-init : goal.loop-face-init
loop-face-init g c = (midway_none, refl, omega arith)

pub corners_of-corners-requires : goal.corners_of-corners-requires
corners_of-corners-requires g c = face-inside c.args.waiting.now _ c.as_slice-face-items.ensures c.loop-face.face-index _ c.loop-face-test.true

pub loop-face-preserved-in_default : goal.loop-face-preserved-in_default
loop-face-preserved-in_default g c =
    let m = c.loop-face.invariant.0 in
    let n = skipped_next c.args.waiting.now _ c.as_slice-face-items.ensures c.loop-face.face-index _ c.loop-face-test.true _ _ m.writes.options _ c.corners_of-corners.ensures.corners (c.in_default.ensures _ refl) in
    (midway_same m n.0, omega (arith, c.loop-face.invariant.1, n.1), omega arith)

pub returns-in_err-write_face-clause-writes : goal.returns-in_err-write_face-clause-writes
returns-in_err-write_face-clause-writes g c =
    let m = c.loop-face.invariant.0 in
    let n = wanted_next c.args.waiting.now _ c.as_slice-face-items.ensures c.loop-face.face-index _ c.loop-face-test.true _ _ m.writes.options _ c.corners_of-corners.ensures.corners (c.in-Some.ensures _ refl).0 in
    writes_err {fs = events c.args.self.now.options (faces_of c.args.waiting.now)} (err_from_is_err_and c.from_residual.result c.from_residual.ensures.1) (midway_stop m _ n.0 c.in_err-write_face.ensures)

pub loop-face-preserved : goal.loop-face-preserved
loop-face-preserved g c =
    let m = c.loop-face.invariant.0 in
    let n = wanted_next c.args.waiting.now _ c.as_slice-face-items.ensures c.loop-face.face-index _ c.loop-face-test.true _ _ m.writes.options _ c.corners_of-corners.ensures.corners (c.in-Some.ensures _ refl).0 in
    (midway_more m n.0 c.in_ok-write_face.ensures, omega (arith, c.loop-face.invariant.1, n.1), omega arith)

pub returns-clause-writes : goal.returns-clause-writes
returns-clause-writes g c =
    let w = c.args.waiting.now in
    let n = length-map (items w.faces) (part (items w.corners)) in
    let k = ap length c.as_slice-face-items.ensures in
    midway_all c.loop-face.invariant.0 _ (at_drop_all (events c.args.self.now.options) (faces_of w) c.loop-face.face-index (omega arith))
