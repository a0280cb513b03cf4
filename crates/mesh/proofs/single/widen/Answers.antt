use Rattle.std.proofs.Common.{true, false, is_ok, refl}
use Rattle.std.proofs.lemmas.Result.{err_from_is_err_and}
use lib.Ieee.{to_bits, of_bits}
use Rattle.mesh.proofs.SingleRowFacts.{becomes_push}
use Rattle.mesh.proofs.SingleListFacts.{stops_position, stops_texture, stops_normal, widens}
use Rattle.mesh.proofs.single.widen.Goals as goal

pub returns-in_err-push : goal.returns-in_err-push
returns-in_err-push c =
    let p = c.args.lists.now in
    let h = c.in_err-push.ensures in
    let e = err_from_is_err_and c.from_residual.result c.from_residual.ensures.1 in
    rw e.1 (stops_position p c.args.vertex c.push.new.self (becomes_push p.positions c.push.new.self c.args.vertex.position false h.tells h.granted h.refused))

pub returns-in_err-attach : goal.returns-in_err-attach
unfolding to_bits of_bits
returns-in_err-attach c =
    let p = c.args.lists.now in
    let h = c.in_ok-push.ensures in
    let a = becomes_push p.positions c.push.new.self c.args.vertex.position true h.tells h.granted h.refused in
    let e = err_from_is_err_and c.from_residual-in_err-attach.result c.from_residual-in_err-attach.ensures.1 in
    rw e.1 (stops_texture p c.args.vertex c.push.new.self a _ c.len-number.result refl c.len-number.ensures c.attach.new.row c.in_err-attach.ensures)

pub returns-in_err-attach-2 : goal.returns-in_err-attach-2
unfolding to_bits of_bits
returns-in_err-attach-2 c =
    let p = c.args.lists.now in
    let h = c.in_ok-push.ensures in
    let a = becomes_push p.positions c.push.new.self c.args.vertex.position true h.tells h.granted h.refused in
    let e = err_from_is_err_and c.from_residual-in_err-attach-2.result c.from_residual-in_err-attach-2.ensures.1 in
    rw e.1 (stops_normal p c.args.vertex c.push.new.self a _ c.len-number.result refl c.len-number.ensures c.attach.new.row c.in_ok-attach.ensures
    _ refl c.attach-2.new.row c.in_err-attach-2.ensures)

pub returns : goal.returns
unfolding to_bits of_bits
returns c =
    let p = c.args.lists.now in
    let h = c.in_ok-push.ensures in
    let a = becomes_push p.positions c.push.new.self c.args.vertex.position true h.tells h.granted h.refused in
    widens p c.args.vertex c.push.new.self a _ c.len-number.result refl c.len-number.ensures c.attach.new.row c.in_ok-attach.ensures
    _ refl c.attach-2.new.row c.in_ok-attach-2.ensures c.follow.new.row (is_ok c.follow.result) c.follow.ensures
