use Rattle.sifc_lent.specs.Parts.{summary_of}
use Rattle.sifc_read.proofs.Ends.{told}
use Rattle.sifc_read.proofs.finish.summary_of.Goals as goal

pub returns : goal.returns
unfolding summary_of
returns c = told c.early_of.ensures
