use Rattle.tables.proofs.Places.{meanings_none}
use Rattle.tables.proofs.Probing.{hashed_none}
use Rattle.tables.proofs.hashed.HashedTableCornerTable.empty.Goals as goal

pub returns-clause-sound : goal.returns-clause-sound
returns-clause-sound g c = hashed_none g.K.Key.digest _ _ _ (meanings_none g.K.Key.meaning c.empty.new.self c.empty.ensures.count) (c.fill.ensures.items (λ y e. e))
