use Rattle.std.proofs.Common.{sym, ap, ◌∙◌}
use lib.Ieee.{of_bits, of_fields, odd}
use Rattle.sifc_value.specs.Value.{told_value}
use Rattle.sif_c.proofs.value.sif_value.Goals as goal

pub returns-in-Some : goal.returns-in-Some
unfolding told_value
returns-in-Some c = ap told_value (sym c.in-Some.is ∙ c.value.ensures)

pub returns-in-None : goal.returns-in-None
unfolding told_value of_bits of_fields odd
returns-in-None c = ap told_value (sym c.in-None.is ∙ c.value.ensures)
