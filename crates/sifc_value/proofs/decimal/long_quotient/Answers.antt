use Rattle.std.proofs.Common.{◌≡◌, ℕ, ◌+◌, ◌*◌, ◌^◌, ◌<◌, pos, sym, ap, ◌∙◌, subst, mod-lt, div-add-mod', mul-one, arith}
use lib.Ieee.{binary64, of_int}
use Rattle.sifc_value.specs.Decimal.{bit, long-way, power-held, power-number}
use Rattle.sifc_value.specs.Steps.{Deeper}
use Rattle.sifc_value.proofs.Worked.{first}
use Rattle.sifc_value.proofs.decimal.long_quotient.Goals as goal

pub nonzero_div-first : goal.nonzero_div-first
nonzero_div-first c = (first c.args.number c.args.places c.args.five c.requires.five_value c.requires.places_nonzero c.requires.places_bound c.requires.number_large c.ranges.number.fits).some

pub nonzero_rem-first : goal.nonzero_rem-first
nonzero_rem-first c = (first c.args.number c.args.places c.args.five c.requires.five_value c.requires.places_nonzero c.requires.places_bound c.requires.number_large c.ranges.number.fits).some

pub deeper-requires-clause-rest_lt_five : goal.deeper-requires-clause-rest_lt_five
deeper-requires-clause-rest_lt_five c = mod-lt c.args.number (first c.args.number c.args.places c.args.five c.requires.five_value c.requires.places_nonzero c.requires.places_bound c.requires.number_large c.ranges.number.fits).some

pub deeper-requires-clause-five_bound : goal.deeper-requires-clause-five_bound
deeper-requires-clause-five_bound c = (first c.args.number c.args.places c.args.five c.requires.five_value c.requires.places_nonzero c.requires.places_bound c.requires.number_large c.ranges.number.fits).below

pub deeper-requires-clause-whole_bound : goal.deeper-requires-clause-whole_bound
deeper-requires-clause-whole_bound c = (first c.args.number c.args.places c.args.five c.requires.five_value c.requires.places_nonzero c.requires.places_bound c.requires.number_large c.ranges.number.fits).high

pub deeper-requires-2-clause-five_bound : goal.deeper-requires-2-clause-five_bound
deeper-requires-2-clause-five_bound c = rw c.deeper.ensures.same (first c.args.number c.args.places c.args.five c.requires.five_value c.requires.places_nonzero c.requires.places_bound c.requires.number_large c.ranges.number.fits).below

pub deeper-last-requires-clause-five_bound : goal.deeper-last-requires-clause-five_bound
deeper-last-requires-clause-five_bound c = rw (c.deeper-2.ensures.same, c.deeper.ensures.same) (first c.args.number c.args.places c.args.five c.requires.five_value c.requires.places_nonzero c.requires.places_bound c.requires.number_large c.ranges.number.fits).below

pub float_from_bits-power : goal.float_from_bits-power
float_from_bits-power c = power-number (c.deeper-last.result.shift + 1 + c.args.places) (omega arith)

pub returns : goal.returns
returns c =
    let m = c.args.number in
    let p = c.args.places in
    let five = c.args.five in
    let r = c.deeper-last.result in
    let e : five ≡ 5 ^ p = c.requires.five_value in
    let d = c.deeper.ensures.deeper in
    let g = subst (λ (z : ℕ). Deeper z c.deeper.result.whole c.deeper.result.rest c.deeper.result.shift c.deeper-2.result.whole c.deeper-2.result.rest c.deeper-2.result.shift) c.deeper.ensures.same c.deeper-2.ensures.deeper in
    let h = subst (λ (z : ℕ). Deeper z c.deeper-2.result.whole c.deeper-2.result.rest c.deeper-2.result.shift r.whole r.rest r.shift) (c.deeper-2.ensures.same ∙ c.deeper.ensures.same) c.deeper-last.ensures.deeper in
    let f = first c.args.number c.args.places c.args.five c.requires.five_value c.requires.places_nonzero c.requires.places_bound c.requires.number_large c.ranges.number.fits in
    let held = h.keeps m (g.keeps m (d.keeps m (div-add-mod' m five ∙ sym (mul-one m)))) in
    let n : c.nearest_u64_to_f64.result ≡ of_int binary64 (pos (2 * r.whole + bit r.rest)) = c.nearest_u64_to_f64.ensures ∙ ap (λ (z : ℕ). of_int binary64 (pos z)) c.with_bit.ensures in
    rw n (long-way m p r.whole r.rest r.shift _ (omega arith) c.ranges.number.fits c.requires.places_bound (omega arith)
    (subst (λ (z : ℕ). r.whole * z + r.rest ≡ m * 2 ^ r.shift) e held) (subst (λ (z : ℕ). r.rest < z) e h.less) (h.thrice (g.twice (d.once f.low)))
    (power-held (r.shift + 1 + p) (omega arith)))
