use Rattle.std.proofs.Common.{ℕ, ◌+◌, ◌*◌, ap, arith}
use Rattle.sifc_value.specs.Decimal.{bit_le}
use Rattle.sifc_value.proofs.decimal.with_bit.Goals as goal

pub overflow_add-result : goal.overflow_add-result
overflow_add-result c = omega (arith, bit_le c.args.rest, c.last_bit.ensures)

pub returns : goal.returns
returns c = ap (λ (n : ℕ). 2 * c.args.whole + n) c.last_bit.ensures
