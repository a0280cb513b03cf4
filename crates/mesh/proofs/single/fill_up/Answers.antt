use Rattle.std.proofs.Common.{true, List, subst, arith}
use Rattle.elements.specs.Rows.{items}
use Rattle.mesh.specs.Single.{Becomes, padded}
use Rattle.mesh.proofs.SingleRowFacts.{becomes_more, padded-more}
use Rattle.mesh.proofs.single.fill_up.Goals as goal

pub loop-preserved : goal.loop-preserved
loop-preserved g c =
    let xs = items c.args.row.now in
    let z = c.args.filler in
    let h = c.in_ok-push.ensures in
    let i = c.loop.counter in
    let a = c.loop.invariant in
    let low = a.0 in
    let test = c.loop-test.true in
    let P : List g.row.T.Denot → Type 0 = λ ys. Becomes c.args.row.now c.push.new.self ys true in
    (omega arith, omega arith, subst P (padded-more i z xs low) (becomes_more c.args.row.now c.loop.row c.push.new.self (padded i z xs) z true a.2 h.tells h.granted h.refused))
