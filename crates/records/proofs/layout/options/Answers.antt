use Rattle.records.proofs.LayoutFacts.{flag_is}
use Rattle.records.proofs.layout.options.Goals as goal

pub returns : goal.returns
returns c = let n = c.args.flags in cc (flag_is n 0, flag_is n 1, flag_is n 2, flag_is n 3, flag_is n 4)
