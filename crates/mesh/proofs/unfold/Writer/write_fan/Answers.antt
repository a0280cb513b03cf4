use Rattle.std.proofs.Common.{◌-◌, ◌∙◌, sym, length, arith, ap, drop, map, rules}
use Rattle.std.specs.Slice.Iter.{windows_rest}
use Rattle.std.proofs.lemmas.List.{take_all, length-drop}
use Rattle.std.proofs.lemmas.Result.{err_from_is_err_and}
use Rattle.mesh.specs.Unfold.{corner}
use Rattle.mesh.proofs.UnfoldFaces.{around, around_all, around_more}
use Rattle.mesh.proofs.UnfoldWriter.{midway_none, midway_same, midway_more, midway_stop, writes_err}
use Rattle.mesh.proofs.unfold.Writer.write_fan.Goals as goal

pub loop-side-init : goal.loop-side-init
loop-side-init g c =
    let cs = c.args.corners.now in
    let n = length-drop 1 cs in
    let rest = ap windows_rest c.into_iter-side-iterator.ensures.into_iter_gives ∙ (c.windows-side-items.ensures.rest ∙ take_all (length cs - 1) (drop 1 cs) (omega arith)) in
    (search rules, midway_same midway_none (ap (map corner) (around_all cs _ c.requires ∙ ap (around _) (sym rest))))

pub loop-side-preserved : goal.loop-side-preserved
loop-side-preserved g c =
    let h = c.in-Some.ensures.steps in
    (search rules, midway_more c.loop-side.invariant.1 (around_more corner _ _ _ c.loop-side.invariant.0 h.1.0 h.1.1 h.1.2) c.in_ok-write_corners.ensures)

pub returns-in_err-write_corners : goal.returns-in_err-write_corners
returns-in_err-write_corners g c =
    let h = c.in-Some.ensures.steps in
    writes_err (err_from_is_err_and c.from_residual.result c.from_residual.ensures.1)
    (midway_stop c.loop-side.invariant.1 _ (around_more corner _ _ _ c.loop-side.invariant.0 h.1.0 h.1.1 h.1.2) c.in_err-write_corners.ensures)
