use Rattle.std.proofs.Common.{is_ok}
use Rattle.mesh.proofs.MultiStepFacts.{tinted}
use Rattle.mesh.proofs.multi.place_colour.Goals as goal

pub returns-in-Some-clause-tinted : goal.returns-in-Some-clause-tinted
returns-in-Some-clause-tinted c = rw c.in-Some.is (tinted c.args.colours.now c.place.new.elements c.args.number c.in-Some.colour (is_ok c.place.result) c.place.ensures)
