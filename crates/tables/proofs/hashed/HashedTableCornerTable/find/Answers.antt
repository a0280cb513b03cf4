use Rattle.tables.proofs.Places.{meanings_fit}
use Rattle.tables.proofs.Probing.{found_found, probed_none}
use Rattle.tables.proofs.hashed.HashedTableCornerTable.find.Goals as goal

pub returns-in-Found-clause-found : goal.returns-in-Found-clause-found
returns-in-Found-clause-found g c = found_found _ _ _ _ _ c.in-Found.ensures

pub returns-in_default : goal.returns-in_default
returns-in_default g c = record {
  fit = λ s. meanings_fit g.K.Key.meaning c.args.self.now.held s.apart;
  found = probed_none _ _ _ _ c.look.result c.look.ensures c.in_default.not-Found;
}
