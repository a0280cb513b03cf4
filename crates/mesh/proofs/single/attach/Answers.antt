use Rattle.std.proofs.Common.{is_ok, arith}
use Rattle.elements.specs.Rows.{items}
use Rattle.elements.proofs.RowFacts.{length-items}
use Rattle.mesh.specs.Single.{padded}
use Rattle.mesh.proofs.SingleRowFacts.{becomes_push, becomes_more, filled_more}
use Rattle.mesh.proofs.single.attach.Goals as goal

pub returns-in_ok-fill_up-in-Some : goal.returns-in_ok-fill_up-in-Some
returns-in_ok-fill_up-in-Some g c =
    let r = c.args.row.now in
    let h = c.push.ensures in
    rw c.in-Some.is
    (becomes_more r c.fill_up.new.row c.push.new.self (padded c.args.number c.args.filler (items r)) c.in-Some.item (is_ok c.push.result) c.in_ok-fill_up-in-Some.ensures h.tells h.granted h.refused)

pub returns-in-None : goal.returns-in-None
returns-in-None g c =
    let r = c.args.row.now in
    let h = c.push-in-None.ensures in
    let n = length-items r in
    rw (c.in-None.is, filled_more c.args.filler (items r) (λ e. omega arith))
    (becomes_push r c.push-in-None.new.self c.args.filler (is_ok c.push-in-None.result) h.tells h.granted h.refused)
