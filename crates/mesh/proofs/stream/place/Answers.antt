use Rattle.std.proofs.Common.{is_ok, arith}
use Rattle.elements.specs.Rows.{items}
use Rattle.elements.proofs.RowFacts.{length-items}
use Rattle.mesh.proofs.SingleRowFacts.{becomes_push, placed_past}
use Rattle.mesh.proofs.stream.place.Goals as goal

pub returns : goal.returns
returns g c =
    let r = c.args.elements.now in
    let h = c.push.ensures in
    let n = length-items r in
    rw (placed_past (items r) c.args.number c.args.item (omega arith)) (becomes_push r c.push.new.self c.args.item (is_ok c.push.result) h.tells h.granted h.refused)
