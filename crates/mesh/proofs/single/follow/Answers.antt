use Rattle.std.proofs.Common.{true}
use Rattle.mesh.proofs.SingleRowFacts.{becomes_push}
use Rattle.mesh.proofs.single.follow.Goals as goal

pub returns-in_ok-push : goal.returns-in_ok-push
returns-in_ok-push g c =
    let h = c.in_ok-push.ensures in
    rw c.in-Some.is (becomes_push c.args.row.now c.push.new.self c.in-Some.item true h.tells h.granted h.refused)
