use Rattle.std.proofs.Common.{sym, ◌∙◌, arith, rules}
use Rattle.std.proofs.lemmas.Bool.{not-true}
use Rattle.std.proofs.lemmas.Result.{err_from_is_err_and}
use Rattle.elements.proofs.TileFacts.{faces-waiting}
use Rattle.elements.specs.Contents.{faces_of}
use Rattle.mesh.proofs.UnfoldWaiting.{count_both}
use Rattle.mesh.proofs.UnfoldExport.{filling_stopped, filling_refused, filling_granted}
use Rattle.mesh.proofs.export.fill.Goals as goal

pub returns-in_err-written : goal.returns-in_err-written
returns-in_err-written g c =
    let p = err_from_is_err_and c.from_residual.result c.from_residual.ensures.1 in
    rw (p.1, p.2) (filling_stopped (not-true _ (sym c.if-not-is_valid.ensures)) (search rules))

pub returns-in_err-finish : goal.returns-in_err-finish
returns-in_err-finish g c =
    let p = err_from_is_err_and c.from_residual-in_err-finish.result c.from_residual-in_err-finish.ensures.1 in
    rw (p.1, p.2) (filling_refused (not-true _ (sym c.if-not-is_valid.ensures)) {n = c.in_ok-written.written} (search rules) c.in_err-finish.ensures)

pub overflow_sub-result : goal.overflow_sub-result
overflow_sub-result g c =
    let n = c.in_ok-written.ensures.count in
    let k = faces-waiting c.args.waiting.now in
    let b = count_both c.args.options (faces_of c.args.waiting.now) in
    omega arith

pub returns : goal.returns
returns g c =
    filling_granted (not-true _ (sym c.if-not-is_valid.ensures)) (search rules)
    c.in_ok-written.ensures.count (faces-waiting c.args.waiting.now ∙ sym c.len.ensures) c.in_ok-finish.ensures
