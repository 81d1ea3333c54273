use Rattle.std.specs.Prelude.{refl}
use Rattle.std.proofs.Common.{arith, sym, ◌∙◌, eq-eqb, ne_eqb}
use Rattle.sifc_err.specs.declared.parse_err.ParseErrTy.TheVariants.{InvalidTknMsg, ExpectedIdent}
use Rattle.sifc_def.specs.State.{expect, consume, ident, throw}
use Rattle.sifc_def.specs.Stmt.{var_decl, declare_var}
use Rattle.sifc_def.specs.Walk.{walkers}
use Rattle.sifc_declare.specs.Promise.{var_value}
use Rattle.sifc_step.proofs.Steps.{begin, go, stop, refused, last, kinded, yes, no}
use Rattle.sifc_step.proofs.Small.{conveyed, named}
use Rattle.sifc_step.proofs.Told.{name-next}
use Rattle.sifc_stmt.proofs.Taken.{taken}
use Rattle.sifc_declare.proofs.Ends.{free}
use Rattle.sifc_stmt.proofs.decl.var_decl.Goals as goal

pub returns-in_err-expect : goal.returns-in_err-expect
unfolding var_decl
returns-in_err-expect c =
    let p0 = begin 1 (λ x. var_decl x (walkers x c.args.depth)) c.requires.0 in
    conveyed (stop (λ x. expect x 34) _ (λ x. var_decl x (walkers x c.args.depth)) p0 (omega arith) (taken 34 c.requires.1 (λ z. let v : ⊥ = omega (arith, z) in v) c.in_err-expect.ensures.does)) c.from_residual.ensures

pub returns-in_err-i : goal.returns-in_err-i
unfolding var_decl
returns-in_err-i c =
    let p0 = begin 1 (λ x. var_decl x (walkers x c.args.depth)) c.requires.0 in
    let p1 = go (λ x. expect x 34) _ p0 (taken 34 c.requires.1 (λ z. let v : ⊥ = omega (arith, z) in v) c.in_ok-expect.ensures.does) in
    conveyed (stop (λ x. ident x ExpectedIdent) _ (λ x. var_decl x (walkers x c.args.depth)) p1 (omega arith) (named ExpectedIdent c.in_err-i.ensures refl)) c.from_residual-in_err-i.ensures

pub returns-then-k-eq-EQ : goal.returns-then-k-eq-EQ
unfolding var_decl
returns-then-k-eq-EQ c =
    let p0 = begin 1 (λ x. var_decl x (walkers x c.args.depth)) c.requires.0 in
    let p1 = go (λ x. expect x 34) _ p0 (taken 34 c.requires.1 (λ z. let v : ⊥ = omega (arith, z) in v) c.in_ok-expect.ensures.does) in
    let p2 = kinded _ (go (λ x. ident x ExpectedIdent) _ p1 (named ExpectedIdent c.in_ok-i.ensures refl)) in
    last (λ x. var_value x (walkers x c.args.depth) c.in_ok-i.i) (λ x. var_decl x (walkers x c.args.depth)) (yes _ _ p2 (eq-eqb _ 8 (sym c.kind-k.ensures ∙ c.if-k-eq-EQ.true))) (omega arith) c.var_value.ensures

pub returns-then-k-ne-SEMICOLON : goal.returns-then-k-ne-SEMICOLON
unfolding var_decl
returns-then-k-ne-SEMICOLON c =
    let p0 = begin 1 (λ x. var_decl x (walkers x c.args.depth)) c.requires.0 in
    let p1 = go (λ x. expect x 34) _ p0 (taken 34 c.requires.1 (λ z. let v : ⊥ = omega (arith, z) in v) c.in_ok-expect.ensures.does) in
    let p2 = kinded _ (go (λ x. ident x ExpectedIdent) _ p1 (named ExpectedIdent c.in_ok-i.ensures refl)) in
    let p3 = no _ _ p2 (ne_eqb _ 8 (λ z. c.if-k-eq-EQ.false (c.kind-k.ensures ∙ z))) in
    last (λ x. throw x (InvalidTknMsg 1)) (λ x. var_decl x (walkers x c.args.depth)) (no _ _ p3 (ne_eqb _ 7 (λ z. c.if-k-ne-SEMICOLON.true (c.kind-k.ensures ∙ z)))) (omega arith) c.add_error.ensures.does

pub returns-in_err-consume : goal.returns-in_err-consume
unfolding var_decl
returns-in_err-consume c =
    let p0 = begin 1 (λ x. var_decl x (walkers x c.args.depth)) c.requires.0 in
    let p1 = go (λ x. expect x 34) _ p0 (taken 34 c.requires.1 (λ z. let v : ⊥ = omega (arith, z) in v) c.in_ok-expect.ensures.does) in
    let p2 = kinded _ (go (λ x. ident x ExpectedIdent) _ p1 (named ExpectedIdent c.in_ok-i.ensures refl)) in
    let p3 = no _ _ p2 (ne_eqb _ 8 (λ z. c.if-k-eq-EQ.false (c.kind-k.ensures ∙ z))) in
    let p4 = yes _ _ p3 (eq-eqb _ 7 (sym c.kind-k.ensures ∙ c.if-k-ne-SEMICOLON.false)) in
    conveyed (refused (λ x. consume x) _ (λ x. var_decl x (walkers x c.args.depth)) p4 c.in_err-consume.ensures.does refl) c.from_residual-in_err-consume.ensures

pub returns-in_err-declare_var : goal.returns-in_err-declare_var
unfolding var_decl
returns-in_err-declare_var c =
    let p0 = begin 1 (λ x. var_decl x (walkers x c.args.depth)) c.requires.0 in
    let p1 = go (λ x. expect x 34) _ p0 (taken 34 c.requires.1 (λ z. let v : ⊥ = omega (arith, z) in v) c.in_ok-expect.ensures.does) in
    let p2 = kinded _ (go (λ x. ident x ExpectedIdent) _ p1 (named ExpectedIdent c.in_ok-i.ensures refl)) in
    let p3 = no _ _ p2 (ne_eqb _ 8 (λ z. c.if-k-eq-EQ.false (c.kind-k.ensures ∙ z))) in
    let p4 = yes _ _ p3 (eq-eqb _ 7 (sym c.kind-k.ensures ∙ c.if-k-ne-SEMICOLON.false)) in
    let p5 = go (λ x. consume x) _ p4 c.in_ok-consume.ensures.does in
    conveyed (last (λ x. declare_var x c.in_ok-i.i 0) (λ x. var_decl x (walkers x c.args.depth)) p5 (omega arith) c.in_err-declare_var.ensures.does) c.from_residual-in_err-declare_var.ensures

pub returns : goal.returns
unfolding var_decl
returns c =
    let p0 = begin 1 (λ x. var_decl x (walkers x c.args.depth)) c.requires.0 in
    let p1 = go (λ x. expect x 34) _ p0 (taken 34 c.requires.1 (λ z. let v : ⊥ = omega (arith, z) in v) c.in_ok-expect.ensures.does) in
    let p2 = kinded _ (go (λ x. ident x ExpectedIdent) _ p1 (named ExpectedIdent c.in_ok-i.ensures refl)) in
    let p3 = no _ _ p2 (ne_eqb _ 8 (λ z. c.if-k-eq-EQ.false (c.kind-k.ensures ∙ z))) in
    let p4 = yes _ _ p3 (eq-eqb _ 7 (sym c.kind-k.ensures ∙ c.if-k-ne-SEMICOLON.false)) in
    let p5 = go (λ x. consume x) _ p4 c.in_ok-consume.ensures.does in
    last (λ x. declare_var x c.in_ok-i.i 0) (λ x. var_decl x (walkers x c.args.depth)) p5 (omega arith) c.in_ok-declare_var.ensures.does

pub kind-k-requires : goal.kind-k-requires
unfolding var_decl
kind-k-requires c =
    let p0 = begin 1 (λ x. var_decl x (walkers x c.args.depth)) c.requires.0 in
    let p1 = go (λ x. expect x 34) _ p0 (taken 34 c.requires.1 (λ z. let v : ⊥ = omega (arith, z) in v) c.in_ok-expect.ensures.does) in
    let p2 = kinded _ (go (λ x. ident x ExpectedIdent) _ p1 (named ExpectedIdent c.in_ok-i.ensures refl)) in
    p2.is.stands.here

pub var_value-requires : goal.var_value-requires
unfolding var_decl
var_value-requires c =
    let p0 = begin 1 (λ x. var_decl x (walkers x c.args.depth)) c.requires.0 in
    let p1 = go (λ x. expect x 34) _ p0 (taken 34 c.requires.1 (λ z. let v : ⊥ = omega (arith, z) in v) c.in_ok-expect.ensures.does) in
    let p2 = kinded _ (go (λ x. ident x ExpectedIdent) _ p1 (named ExpectedIdent c.in_ok-i.ensures refl)) in
    (p2.is, omega (arith, (name-next ExpectedIdent p1.is c.in_ok-i.ensures refl).value, p1.is.stands.here, p1.is.stands.toks.few))

pub consume-requires : goal.consume-requires
unfolding var_decl
consume-requires c =
    let p0 = begin 1 (λ x. var_decl x (walkers x c.args.depth)) c.requires.0 in
    let p1 = go (λ x. expect x 34) _ p0 (taken 34 c.requires.1 (λ z. let v : ⊥ = omega (arith, z) in v) c.in_ok-expect.ensures.does) in
    let p2 = kinded _ (go (λ x. ident x ExpectedIdent) _ p1 (named ExpectedIdent c.in_ok-i.ensures refl)) in
    p2.is.stands

pub declare_var-requires : goal.declare_var-requires
unfolding var_decl
declare_var-requires c =
    let p0 = begin 1 (λ x. var_decl x (walkers x c.args.depth)) c.requires.0 in
    let p1 = go (λ x. expect x 34) _ p0 (taken 34 c.requires.1 (λ z. let v : ⊥ = omega (arith, z) in v) c.in_ok-expect.ensures.does) in
    let p2 = kinded _ (go (λ x. ident x ExpectedIdent) _ p1 (named ExpectedIdent c.in_ok-i.ensures refl)) in
    let p3 = no _ _ p2 (ne_eqb _ 8 (λ z. c.if-k-eq-EQ.false (c.kind-k.ensures ∙ z))) in
    let p4 = yes _ _ p3 (eq-eqb _ 7 (sym c.kind-k.ensures ∙ c.if-k-ne-SEMICOLON.false)) in
    let p5 = go (λ x. consume x) _ p4 c.in_ok-consume.ensures.does in
    (free p5.is, omega (arith, (name-next ExpectedIdent p1.is c.in_ok-i.ensures refl).value, p1.is.stands.here, p1.is.stands.toks.few), omega arith)
