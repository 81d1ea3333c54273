use Rattle.std.proofs.Common.{rules}
use Rattle.sif_c.proofs.Said.{text-call}
use Rattle.sif_c.proofs.sif_text.Goals as goal

pub returns : goal.returns
returns c = text-call _ c.text.result _ _ _ c.told_text-written.ensures (search rules)
