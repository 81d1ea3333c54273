use Rattle.sifc_deepest.proofs.DeepestLaws.{told-depth, told_none}
use Rattle.sif_c.proofs.deepest.sif_deepest.Goals as goal

pub returns-in-Some : goal.returns-in-Some
returns-in-Some c = told-depth _ _ _ _ c.in-Some.is c.deepest.ensures

pub returns-in-None : goal.returns-in-None
returns-in-None c = told_none _ _ _ c.in-None.is c.deepest.ensures
