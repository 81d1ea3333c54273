use Rattle.sifc_lent.proofs.Fronts.{front_kept}
use Rattle.sifc_lent.proofs.clear.keep.Goals as goal

pub returns : goal.returns
returns c = front_kept c.args.a.now _ c.args.n c.requires c.clear_from.ensures
