use Rattle.std.proofs.Common.{[], ◌∷◌, length, refl}
use Rattle.std.proofs.lemmas.Result.{err_from_is_err_and}
use Rattle.mesh.specs.Unfold.{arity}
use Rattle.mesh.proofs.UnfoldArity.{arity-pushed}
use Rattle.mesh.proofs.UnfoldWriter.{writes_err, writes_then, writes_stop}
use Rattle.mesh.proofs.unfold.Writer.write_plain.Goals as goal

pub returns-in_err-write_corners : goal.returns-in_err-write_corners
returns-in_err-write_corners g c =
    writes_err (err_from_is_err_and c.from_residual.result c.from_residual.ensures.1)
    (writes_stop (arity (length c.args.corners.now) ∷ []) c.in_err-write_corners.ensures)

pub returns : goal.returns
returns g c =
    let p = c.push.ensures in
    rw c.or.ensures
    (writes_then c.in_ok-write_corners.ensures
    (record { options = refl; attributes = refl; lists = refl; tables = refl; writing = arity-pushed _ _ _ _ _ (length c.args.corners.now) c.push.result c.push.new.self p.tells p.granted p.refused }))
