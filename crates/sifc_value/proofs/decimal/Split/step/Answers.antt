use Rattle.std.proofs.Common.{◌≡◌, ℕ, ◌*◌, ◌%◌, ◌^◌, mod-eq_of_lt, pow_pos, arith}
use Rattle.sifc_value.proofs.Worked.{stepped}
use Rattle.sifc_value.proofs.decimal.Split.step.Goals as goal

pub returns-clause-stepped : goal.returns-clause-stepped
returns-clause-stepped c =
    let split = c.args.self in
    let factor : ℕ = 2 ^ c.args.bits in
    let w : split.whole * factor % 2 ^ 64 ≡ split.whole * factor = mod-eq_of_lt (omega (arith, c.requires.whole_fits)) in
    let r : split.rest * factor % 2 ^ 64 ≡ split.rest * factor = mod-eq_of_lt c.requires.rest_fits in
    rw (w, r) (stepped split.five split.whole split.rest split.shift factor c.args.bits c.requires.rest_lt_five (pow_pos c.args.bits))
