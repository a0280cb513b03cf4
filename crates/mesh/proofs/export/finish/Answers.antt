use Rattle.mesh.proofs.UnfoldExport.{finishing_merged}
use Rattle.mesh.proofs.export.finish.Goals as goal

pub returns-in_ok-merge : goal.returns-in_ok-merge
returns-in_ok-merge g c = finishing_merged _ c.if-options.true c.trim_arities.ensures c.in_ok-merge.ensures
