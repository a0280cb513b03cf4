use Rattle.std.proofs.Common.{is_ok}
use Rattle.mesh.specs.Lists.{surface}
use Rattle.mesh.specs.Single.{widened}
use Rattle.mesh.proofs.SingleRowFacts.{becomes_push}
use Rattle.mesh.proofs.SingleListFacts.{settles_same, settles_push}
use Rattle.mesh.proofs.single.settle.Goals as goal

pub returns-then-number-len-clause-old : goal.returns-then-number-len-clause-old
returns-then-number-len-clause-old c known =
    let p = c.args.lists.now in
    let h = c.push.ensures in
    settles_push p p (surface p) c.args.number c.push.new.self (is_ok c.push.result) (settles_same p)
    (becomes_push p.indices c.push.new.self c.args.number (is_ok c.push.result) h.tells h.granted h.refused)

pub returns-clause-new : goal.returns-clause-new
returns-clause-new c new =
    let p = c.args.lists.now in
    let q = c.widen.new.lists in
    let h = c.push-2.ensures in
    settles_push p q (widened (surface p) c.args.vertex) c.args.number c.push-2.new.self (is_ok c.push-2.result) c.in_ok-widen.ensures
    (becomes_push q.indices c.push-2.new.self c.args.number (is_ok c.push-2.result) h.tells h.granted h.refused)
