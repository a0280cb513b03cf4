use Rattle.std.proofs.Common.{set, ap, ◌∙◌, arith, length, ◌≡◌}
use Rattle.elements.proofs.CellFacts.{blank-more, blank-all}
use Rattle.elements.proofs.list.fill.Goals as goal

pub loop-cell-preserved : goal.loop-cell-preserved
loop-cell-preserved g c =
    ap (λ xs. set xs c.loop-cell.cell-index c.args.item) c.loop-cell.invariant
    ∙ blank-more c.args.cells.now c.args.item c.loop-cell.cell-index c.loop-cell-test.true

pub returns : goal.returns
returns g c =
    let e : c.loop-cell.cell-index ≡ length c.args.cells.now = omega arith in
    c.loop-cell.invariant ∙ blank-all c.args.cells.now c.args.item c.loop-cell.cell-index (length c.args.cells.now) c.loop-cell-test.false e
