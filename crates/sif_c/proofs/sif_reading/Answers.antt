use Rattle.std.proofs.Common.{rules}
use Rattle.sif_c.proofs.Said.{told-call}
use Rattle.sif_c.proofs.sif_reading.Goals as goal

pub returns : goal.returns
returns c = told-call _ _ _ _ c.told-numbers.ensures (search rules)
