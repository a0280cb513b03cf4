use Rattle.std.proofs.Common.{◌≡◌, ◌-◌, ◌<◌, length, Some, None, rules, arith}
use Rattle.std.specs.List.{slice_get}
use Rattle.elements.specs.Rows.{items}
use Rattle.mesh.proofs.MultiFacts.{found_looked, first_looked, again_looked}
use Rattle.mesh.proofs.stream.look_up.Goals as goal

pub returns-then-reference-ne-MISSING_INDEX : goal.returns-then-reference-ne-MISSING_INDEX
returns-then-reference-ne-MISSING_INDEX g c =
    let here : 0 < c.args.elements.now.count = omega arith in
    found_looked c.args.elements.now c.args.numbers.now c.args.reference here c.element.result c.if-reference-ne-MISSING_INDEX.true c.element.ensures

pub returns-in-Some : goal.returns-in-Some
returns-in-Some g c =
    let here : 0 < c.args.elements.now.count = omega arith in
    let ns = items c.args.numbers.now in
    let last : slice_get ns (length ns - 1) ≡ Some c.in-Some.number = search rules in
    again_looked c.args.elements.now c.args.numbers.now c.args.reference here c.if-reference-ne-MISSING_INDEX.false c.in-Some.number last

pub returns-in-None : goal.returns-in-None
returns-in-None g c =
    let here : 0 < c.args.elements.now.count = omega arith in
    let ns = items c.args.numbers.now in
    let none : slice_get ns (length ns - 1) ≡ None = search rules in
    first_looked c.args.elements.now c.args.numbers.now c.args.reference here c.if-reference-ne-MISSING_INDEX.false c.element-in-None.result none c.element-in-None.ensures
