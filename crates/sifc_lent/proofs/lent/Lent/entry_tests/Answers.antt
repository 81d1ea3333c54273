use Rattle.std.proofs.Common.{◌∙◌}
use Rattle.sifc_lent.proofs.EntryLaws.{entry-same}
use Rattle.sifc_lent.proofs.lent.Lent.entry_tests.Goals as goal

pub returns : goal.returns
returns c = c.entry.ensures ∙ entry-same _ _ _ _ _ _ _ _
