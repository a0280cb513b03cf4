use Rattle.std.proofs.Common.{refl}
use Rattle.tables.specs.Keys.{mixed}
use Rattle.tables.proofs.key.mix.Goals as goal

pub returns : goal.returns
unfolding mixed
returns c = refl
