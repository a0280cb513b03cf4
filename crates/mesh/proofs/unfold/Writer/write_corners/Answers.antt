use Rattle.std.proofs.Common.{◌+◌, map, drop, arith}
use Rattle.std.proofs.lemmas.List.{at_drop_more, at_drop_all}
use Rattle.std.proofs.lemmas.Result.{err_from_is_err_and}
use Rattle.mesh.specs.Unfold.{corner}
use Rattle.mesh.proofs.UnfoldWriter.{midway_none, midway_more, midway_stop, midway_all, writes_err}
use Rattle.mesh.proofs.unfold.Writer.write_corners.Goals as goal

pub loop-vert-init : goal.loop-vert-init
loop-vert-init g c = midway_none

pub returns-in_err-write_corner : goal.returns-in_err-write_corner
returns-in_err-write_corner g c =
    writes_err (err_from_is_err_and c.from_residual.result c.from_residual.ensures.1)
    (midway_stop c.loop-vert.invariant (map corner (drop (c.loop-vert.vert-index + 1) c.args.corners.now))
    (at_drop_more (map corner) c.args.corners.now c.loop-vert.vert-index _ c.loop-vert-test.true) c.in_err-write_corner.ensures)

pub loop-vert-preserved : goal.loop-vert-preserved
loop-vert-preserved g c =
    midway_more c.loop-vert.invariant (at_drop_more (map corner) c.args.corners.now c.loop-vert.vert-index _ c.loop-vert-test.true) c.in_ok-write_corner.ensures

pub returns : goal.returns
returns g c = midway_all c.loop-vert.invariant tt (at_drop_all (map corner) c.args.corners.now c.loop-vert.vert-index (omega arith))
