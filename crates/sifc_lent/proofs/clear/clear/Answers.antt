use Rattle.sifc_lent.proofs.Fronts.{front-none}
use Rattle.sifc_lent.proofs.clear.clear.Goals as goal

pub returns : goal.returns
returns c = front-none _ _ c.clear_from.ensures
