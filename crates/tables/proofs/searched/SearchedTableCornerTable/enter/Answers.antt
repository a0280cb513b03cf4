use Rattle.tables.proofs.Places.{meanings_fit, entering_apart}
use Rattle.tables.proofs.searched.SearchedTableCornerTable.enter.Goals as goal

pub returns-in-None-clause-sound : goal.returns-in-None-clause-sound
returns-in-None-clause-sound g c apart = entering_apart _ _ _ _ c.add.result (c.add.ensures.entering (c.in-None.ensures.found apart)) apart

pub returns-in-None-clause-fit : goal.returns-in-None-clause-fit
returns-in-None-clause-fit g c apart = meanings_fit g.K.Key.meaning c.add.new.held (returns-in-None-clause-sound g c apart)
