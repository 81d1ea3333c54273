use Rattle.std.proofs.Common.{arith, sym, ◌∙◌, eq-eqb, ne_eqb}
use Rattle.sifc_def.specs.State.{expect}
use Rattle.sifc_def.specs.Stmt.{array_decl, table_decl, initial}
use Rattle.sifc_def.specs.Walk.{walkers}
use Rattle.sifc_step.proofs.Steps.{begin, go, stop, last, kinded, yes, no}
use Rattle.sifc_step.proofs.Small.{conveyed}
use Rattle.sifc_stmt.proofs.decl.initial.Goals as goal

pub returns-then-k-eq-LEFT_BRACKET : goal.returns-then-k-eq-LEFT_BRACKET
unfolding initial
returns-then-k-eq-LEFT_BRACKET c =
    let p0 = kinded _ (begin 0 (λ x. initial x (walkers x c.args.depth) c.args.i) c.requires.0) in
    last (λ x. array_decl x (walkers x c.args.depth) c.args.i) (λ x. initial x (walkers x c.args.depth) c.args.i) (yes _ _ p0 (eq-eqb _ 5 (sym c.kind-k.ensures ∙ c.if-k-eq-LEFT_BRACKET.true))) (omega arith) c.array_decl.ensures

pub returns-then-k-eq-DOUBLE_LEFT_BRACKET : goal.returns-then-k-eq-DOUBLE_LEFT_BRACKET
unfolding initial
returns-then-k-eq-DOUBLE_LEFT_BRACKET c =
    let p0 = kinded _ (begin 0 (λ x. initial x (walkers x c.args.depth) c.args.i) c.requires.0) in
    let p1 = no _ _ p0 (ne_eqb _ 5 (λ z. c.if-k-eq-LEFT_BRACKET.false (c.kind-k.ensures ∙ z))) in
    last (λ x. table_decl x (walkers x c.args.depth) c.args.i) (λ x. initial x (walkers x c.args.depth) c.args.i) (yes _ _ p1 (eq-eqb _ 29 (sym c.kind-k.ensures ∙ c.if-k-eq-DOUBLE_LEFT_BRACKET.true))) (omega arith) c.table_decl.ensures

pub returns-in_err-expr : goal.returns-in_err-expr
unfolding initial
returns-in_err-expr c =
    let p0 = kinded _ (begin 0 (λ x. initial x (walkers x c.args.depth) c.args.i) c.requires.0) in
    let p1 = no _ _ p0 (ne_eqb _ 5 (λ z. c.if-k-eq-LEFT_BRACKET.false (c.kind-k.ensures ∙ z))) in
    let p2 = no _ _ p1 (ne_eqb _ 29 (λ z. c.if-k-eq-DOUBLE_LEFT_BRACKET.false (c.kind-k.ensures ∙ z))) in
    conveyed (stop (λ x. (walkers x c.args.depth).assign) _ (λ x. initial x (walkers x c.args.depth) c.args.i) p2 (omega arith) c.in_err-expr.ensures) c.from_residual.ensures

pub returns : goal.returns
unfolding initial
returns c =
    let p0 = kinded _ (begin 0 (λ x. initial x (walkers x c.args.depth) c.args.i) c.requires.0) in
    let p1 = no _ _ p0 (ne_eqb _ 5 (λ z. c.if-k-eq-LEFT_BRACKET.false (c.kind-k.ensures ∙ z))) in
    let p2 = no _ _ p1 (ne_eqb _ 29 (λ z. c.if-k-eq-DOUBLE_LEFT_BRACKET.false (c.kind-k.ensures ∙ z))) in
    let p3 = go (λ x. (walkers x c.args.depth).assign) _ p2 c.in_ok-expr.ensures in
    last (λ x. expect x 7) (λ x. initial x (walkers x c.args.depth) c.args.i) p3 (omega arith) c.expect.ensures.does
