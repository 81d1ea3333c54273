use Rattle.sifc_lent.proofs.PartLaws.{same-arrays}
use Rattle.sifc_lent.proofs.lent.Lent.clear_all.Goals as goal

pub clear_front-requires : goal.clear_front-requires
clear_front-requires c = c.requires.0

pub clear_front-requires-2 : goal.clear_front-requires-2
clear_front-requires-2 c = c.requires.1

pub returns-clause-cleared : goal.returns-clause-cleared
returns-clause-cleared c = same-arrays c.clear_front.ensures c.clear_front-2.ensures c.clear.ensures c.clear-2.ensures c.clear-3.ensures c.clear-4.ensures c.clear-5.ensures
