use Rattle.std.proofs.Common.{ℕ, ◌/◌, ◌^◌, ap, ◌∙◌, mul-div_cancel, arith, le→leb, pow_pos}
use lib.Ieee.{in_float, of_int}
use Rattle.sifc_value.specs.Decimal.{short-way, ten-split}
use Rattle.sifc_value.proofs.decimal.decimal.Goals as goal

pub int_to_float-result : goal.int_to_float-result
unfolding in_float
int_to_float-result c = le→leb c.args.number (2 ^ 53) (omega arith)

pub returns-then-number-le-EXACT : goal.returns-then-number-le-EXACT
returns-then-number-le-EXACT c = rw c.nearest_u64_to_f64.ensures (short-way c.args.number c.args.scale c.args.places (omega arith) c.requires.places_bound c.requires.scale_value)

pub returns-then-places-eq0 : goal.returns-then-places-eq0
unfolding of_int
returns-then-places-eq0 c = rw c.if-places-eq0.true c.nearest_u64_to_f64-then-places-eq0.ensures

pub long_quotient-requires : goal.long_quotient-requires
long_quotient-requires c = record {
  number_large = omega arith;
  places_nonzero = omega arith;
  places_bound = c.requires.places_bound;
  five_value = ap (λ (z : ℕ). z / 2 ^ c.args.places) (c.requires.scale_value ∙ ten-split c.args.places) ∙ mul-div_cancel (5 ^ c.args.places) (pow_pos c.args.places);
}
