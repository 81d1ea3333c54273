use Rattle.sifc_lent.proofs.PartLaws.{same-arrays}
use mathlib.Core.Path.{refl}
use Rattle.sifc_lent.proofs.lent.Lent.clear_used.Goals as goal

pub returns-clause-cleared : goal.returns-clause-cleared
returns-clause-cleared c = same-arrays c.clear_front.ensures c.clear_front-2.ensures c.clear_front-3.ensures c.clear_front-4.ensures refl c.clear_front-5.ensures c.clear_front-6.ensures
