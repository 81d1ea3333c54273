use Prim.Native.Nat.{◌<◌, ◌≤◌, ◌+◌}
use native.Mathlib.Omega.{arith}
use mathlib.Core.Path.{ap, ◌∙◌, sym, subst}
use lib.ListN.{length}
use Rattle.sifc_tokens.specs.declared.place.Place.{Place}
use Rattle.sifc_tokens.specs.Place.{place}
use Rattle.sifc_tokens.proofs.PlaceLaws.{walked_none, walked_line, place_inside, place-even, place-ragged}
use Rattle.sifc_tokens.proofs.place.place_at.Goals as goal

pub walk_place-requires : goal.walk_place-requires
walk_place-requires c = (omega arith, omega arith, sym (walked_none c.args.s.now))

pub returns-then-off-s : goal.returns-then-off-s
returns-then-off-s c = c.walk_place.ensures ∙ sym (place_inside c.args.s.now c.args.off c.if-off-s.true)

pub walk_place-end-requires : goal.walk_place-end-requires
walk_place-end-requires c = (omega arith, omega arith, sym (walked_none c.args.s.now))

pub overflow_add-result : goal.overflow_add-result
overflow_add-result c =
    let l = walked_line c.args.s.now (length c.args.s.now) (omega arith) in
    let e = ap (λ (x : Place). x.line) c.walk_place-end.ensures in
    omega arith

pub returns-then-end-gt0 : goal.returns-then-end-gt0
returns-then-end-gt0 c = ap (λ (x : Place). place (x.line + 1) 0) c.walk_place-end.ensures ∙ sym (place-ragged c.args.s.now c.args.off c.if-off-s.false (subst (λ (x : Place). 0 < x.pos) c.walk_place-end.ensures c.if-end-gt0.true))

pub returns : goal.returns
returns c = c.walk_place-end.ensures ∙ sym (place-even c.args.s.now c.args.off c.if-off-s.false (subst (λ (x : Place). x.pos ≤ 0) c.walk_place-end.ensures c.if-end-gt0.false))
