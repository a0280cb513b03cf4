use Rattle.tables.proofs.Places.{meanings_none}
use Rattle.tables.proofs.Probing.{hashed_none}
use Rattle.tables.proofs.hashed.HashedTable.new.Goals as goal

pub returns-clause-sound : goal.returns-clause-sound
returns-clause-sound g c = hashed_none g.K.Key.digest _ _ _ (meanings_none g.K.Key.meaning c.new-held.result c.new-held.ensures.1) (c.in_ok-slots.ensures.items_if_clones_equal (λ y e. e))
