use Rattle.std.proofs.Common.{ℕ, ◌≡◌, zero, suc, refl, ◌∙◌, ne_eqb}
use Rattle.std.specs.Prelude.{not, ◌==◌}
use Rattle.std.specs.Int.{from_bool}
use Rattle.sifc_value.specs.Decimal.{bit}
use Rattle.sifc_value.proofs.decimal.last_bit.Goals as goal

-- the test as a number is the bit
tested : (r : ℕ) → from_bool (not (r == 0)) ≡ bit r
unfolding bit
tested zero = refl
tested (suc r) = rw (ne_eqb (suc r) 0 (λ e. cc)) refl

pub returns : goal.returns
returns c = c.from.ensures ∙ tested c.args.rest
