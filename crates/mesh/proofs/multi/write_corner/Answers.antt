use Rattle.std.proofs.Common.{is_ok}
use Rattle.std.proofs.lemmas.Result.{err_from_is_err_and}
use Rattle.mesh.proofs.MultiStepFacts.{stops-position, stops-colour, stops-texture, drew}
use Rattle.mesh.proofs.multi.write_corner.Goals as goal

pub returns-in_err-write-clause-drew : goal.returns-in_err-write-clause-drew
returns-in_err-write-clause-drew c s ns cs v is b =
    let p = err_from_is_err_and c.from_residual.result c.from_residual.ensures.1 in
    rw p.1 (stops-position s cs v ns c.args.lists.now c.args.corner is b c.write.new.elements c.write.new.numbers _ c.in_err-write.ensures.written)

pub returns-in_err-place_colour-clause-drew : goal.returns-in_err-place_colour-clause-drew
returns-in_err-place_colour-clause-drew c s ns cs v is b =
    let p = err_from_is_err_and c.from_residual-in_err-place_colour.result c.from_residual-in_err-place_colour.ensures.1 in
    rw p.1 (stops-colour s cs v ns c.args.lists.now c.args.corner is b c.place_colour.new.colours _ c.in_err-place_colour.ensures.tinted)

pub returns-in_err-write-2-clause-drew : goal.returns-in_err-write-2-clause-drew
returns-in_err-write-2-clause-drew c s ns cs v is b =
    let p = err_from_is_err_and c.from_residual-in_err-write-2.result c.from_residual-in_err-write-2.ensures.1 in
    rw p.1 (stops-texture s cs v ns c.args.lists.now c.args.corner is b c.write-2.new.elements c.write-2.new.numbers _ c.in_err-write-2.ensures.written)

pub returns-clause-drew : goal.returns-clause-drew
returns-clause-drew c s ns cs v is b =
    drew s cs v ns c.args.lists.now c.args.corner is b c.write.new.elements c.write.new.numbers c.place_colour.new.colours c.write-2.new.elements c.write-2.new.numbers c.write-3.new.elements c.write-3.new.numbers (is_ok c.write-3.result)
    c.in_ok-write.ensures.written c.in_ok-place_colour.ensures.tinted c.in_ok-write-2.ensures.written c.write-3.ensures.written
