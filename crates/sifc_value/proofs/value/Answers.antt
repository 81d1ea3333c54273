use Rattle.std.proofs.Common.{ℕ, ◌-◌, ◌^◌, Some, sym, ap, ◌∙◌, lt_of_lt_of_le, arith}
use lib.Ieee.{of_int}
use Rattle.sifc_value.specs.Decimal.{ten-pos, ten-le}
use Rattle.sifc_value.proofs.Literal.{capped, none, only, other, more, pointed}
use Rattle.sifc_value.proofs.value.Goals as goal

pub digits-whole-requires : goal.digits-whole-requires
digits-whole-requires c =
    let k = capped c.min.ensures in
    record { from_le_end = omega arith; end_in_bounds = k.low; from_bound = omega (arith, k.high); before_bound = ten-pos _ }

pub returns-then-point-eq0 : goal.returns-then-point-eq0
returns-then-point-eq0 c = sym (none c.args.literal.now c.min.result c.digits-whole.result.number c.digits-whole.result.scale c.digits-whole.result.next (capped c.min.ensures) c.digits-whole.ensures (omega arith))

pub returns-then-point-n : goal.returns-then-point-n
unfolding of_int
returns-then-point-n c =
    ap Some c.nearest_u64_to_f64.ensures
    ∙ sym (only c.args.literal.now c.min.result c.digits-whole.result.number c.digits-whole.result.scale c.digits-whole.result.next (capped c.min.ensures) c.digits-whole.ensures (omega arith) (omega arith))

pub returns-then-literal-point-ne46 : goal.returns-then-literal-point-ne46
returns-then-literal-point-ne46 c = sym (other c.args.literal.now c.min.result c.digits-whole.result.number c.digits-whole.result.scale c.digits-whole.result.next (capped c.min.ensures) c.digits-whole.ensures (omega arith) c.if-literal-point-ne46.true)

pub digits-all-requires : goal.digits-all-requires
digits-all-requires c =
    let r = c.digits-whole.ensures in
    let d = r.stop in
    let k = capped c.min-2.ensures in
    let l = k.low in
    let h = k.high in
    let g = capped c.min.ensures in
    let m = g.high in
    let n = g.low in
    let x = g.reach (c.min-2.result - 1) (omega arith) (omega arith) in
    record { from_le_end = k.reach _ (omega arith) (omega arith); end_in_bounds = k.low; from_bound = omega arith; before_bound = lt_of_lt_of_le r.small (ten-le _ _ (omega arith)) }

pub returns-then-all-n : goal.returns-then-all-n
returns-then-all-n c = sym (more c.args.literal.now c.min.result c.digits-whole.result.number c.digits-whole.result.scale c.digits-whole.result.next (capped c.min.ensures) c.digits-whole.ensures (omega arith) c.if-literal-point-ne46.false c.min-2.result c.digits-all.result.number c.digits-all.result.scale c.digits-all.result.next (capped c.min-2.ensures) c.digits-all.ensures (λ e. omega arith))

pub decimal-requires : goal.decimal-requires
decimal-requires c =
    let r = c.digits-all.ensures in
    let h = r.stop in
    let k = (capped c.min-2.ensures).high in
    let z = c.if-point-eq0.false in
    record { scale_value = r.scale-is ∙ ap (λ (n : ℕ). 10 ^ n) (omega arith); places_bound = omega arith }

pub returns : goal.returns
returns c = ap Some c.decimal.ensures ∙ sym (pointed c.args.literal.now c.min.result c.digits-whole.result.number c.digits-whole.result.scale c.digits-whole.result.next (capped c.min.ensures) c.digits-whole.ensures (omega arith) c.if-literal-point-ne46.false c.min-2.result c.digits-all.result.number c.digits-all.result.scale c.digits-all.result.next (capped c.min-2.ensures) c.digits-all.ensures (let z = c.if-point-eq0.false in omega arith) (omega arith))
