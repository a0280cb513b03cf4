use Rattle.std.proofs.Common.{sym, ap, ◌∙◌}
use Rattle.mesh.specs.Rules.{all_three}
use Rattle.mesh.proofs.UnfoldExport.{trimmed-three}
use Rattle.mesh.proofs.trim.trim_arities.Goals as goal

pub returns-then-all_three : goal.returns-then-all_three
returns-then-all_three c =
    trimmed-three c.args.lists.now c.clear.new.self (ap all_three (sym c.as_slice-arities.ensures) ∙ sym c.if-all_three.ensures) c.clear.ensures.count c.clear.ensures.room c.clear.ensures.cells
