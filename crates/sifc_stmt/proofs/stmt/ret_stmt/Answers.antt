use Rattle.std.specs.Prelude.{refl, false}
use Rattle.std.proofs.Common.{arith, sym, ◌∙◌, eq-eqb, ne_eqb}
use Rattle.sifc_def.specs.State.{expect, push, consume}
use Rattle.sifc_def.specs.Stmt.{ret_stmt}
use Rattle.sifc_def.specs.Walk.{walkers}
use Rattle.sifc_step.proofs.Steps.{begin, go, stop, refused, last, kinded, yes, no}
use Rattle.sifc_step.proofs.Small.{conveyed}
use Rattle.sifc_stmt.proofs.Taken.{taken}
use Rattle.sifc_stmt.proofs.stmt.ret_stmt.Goals as goal

pub returns-in_err-expect : goal.returns-in_err-expect
unfolding ret_stmt
returns-in_err-expect c =
    let p0 = begin 1 (λ x. ret_stmt x (walkers x c.args.depth)) c.requires.0 in
    conveyed (stop (λ x. expect x 36) _ (λ x. ret_stmt x (walkers x c.args.depth)) p0 (omega arith) (taken 36 c.requires.1 (λ z. let v : ⊥ = omega (arith, z) in v) c.in_err-expect.ensures.does)) c.from_residual.ensures

pub returns-in_err-consume : goal.returns-in_err-consume
unfolding ret_stmt
returns-in_err-consume c =
    let p0 = begin 1 (λ x. ret_stmt x (walkers x c.args.depth)) c.requires.0 in
    let p1 = go (λ x. expect x 36) _ p0 (taken 36 c.requires.1 (λ z. let v : ⊥ = omega (arith, z) in v) c.in_ok-expect.ensures.does) in
    let p2 = kinded _ p1 in
    let p3 = yes _ _ p2 (eq-eqb _ 7 (sym c.kind.ensures ∙ c.if-kind-eq-SEMICOLON.true)) in
    conveyed (refused (λ x. consume x) _ (λ x. ret_stmt x (walkers x c.args.depth)) p3 c.in_err-consume.ensures.does refl) c.from_residual-in_err-consume.ensures

pub returns-in_err-push_node : goal.returns-in_err-push_node
unfolding ret_stmt
returns-in_err-push_node c =
    let p0 = begin 1 (λ x. ret_stmt x (walkers x c.args.depth)) c.requires.0 in
    let p1 = go (λ x. expect x 36) _ p0 (taken 36 c.requires.1 (λ z. let v : ⊥ = omega (arith, z) in v) c.in_ok-expect.ensures.does) in
    let p2 = kinded _ p1 in
    let p3 = yes _ _ p2 (eq-eqb _ 7 (sym c.kind.ensures ∙ c.if-kind-eq-SEMICOLON.true)) in
    let p4 = go (λ x. consume x) _ p3 c.in_ok-consume.ensures.does in
    conveyed (last (λ x. push x 6 false 0 0) (λ x. ret_stmt x (walkers x c.args.depth)) p4 (omega arith) c.in_err-push_node.ensures.does) c.from_residual-in_err-push_node.ensures

pub returns-then-kind-eq-SEMICOLON : goal.returns-then-kind-eq-SEMICOLON
unfolding ret_stmt
returns-then-kind-eq-SEMICOLON c =
    let p0 = begin 1 (λ x. ret_stmt x (walkers x c.args.depth)) c.requires.0 in
    let p1 = go (λ x. expect x 36) _ p0 (taken 36 c.requires.1 (λ z. let v : ⊥ = omega (arith, z) in v) c.in_ok-expect.ensures.does) in
    let p2 = kinded _ p1 in
    let p3 = yes _ _ p2 (eq-eqb _ 7 (sym c.kind.ensures ∙ c.if-kind-eq-SEMICOLON.true)) in
    let p4 = go (λ x. consume x) _ p3 c.in_ok-consume.ensures.does in
    last (λ x. push x 6 false 0 0) (λ x. ret_stmt x (walkers x c.args.depth)) p4 (omega arith) c.in_ok-push_node.ensures.does

pub returns-in_err-expr : goal.returns-in_err-expr
unfolding ret_stmt
returns-in_err-expr c =
    let p0 = begin 1 (λ x. ret_stmt x (walkers x c.args.depth)) c.requires.0 in
    let p1 = go (λ x. expect x 36) _ p0 (taken 36 c.requires.1 (λ z. let v : ⊥ = omega (arith, z) in v) c.in_ok-expect.ensures.does) in
    let p2 = kinded _ p1 in
    let p3 = no _ _ p2 (ne_eqb _ 7 (λ z. c.if-kind-eq-SEMICOLON.false (c.kind.ensures ∙ z))) in
    conveyed (stop (λ x. (walkers x c.args.depth).assign) _ (λ x. ret_stmt x (walkers x c.args.depth)) p3 (omega arith) c.in_err-expr.ensures) c.from_residual-in_err-expr.ensures

pub returns-in_err-expect-2 : goal.returns-in_err-expect-2
unfolding ret_stmt
returns-in_err-expect-2 c =
    let p0 = begin 1 (λ x. ret_stmt x (walkers x c.args.depth)) c.requires.0 in
    let p1 = go (λ x. expect x 36) _ p0 (taken 36 c.requires.1 (λ z. let v : ⊥ = omega (arith, z) in v) c.in_ok-expect.ensures.does) in
    let p2 = kinded _ p1 in
    let p3 = no _ _ p2 (ne_eqb _ 7 (λ z. c.if-kind-eq-SEMICOLON.false (c.kind.ensures ∙ z))) in
    let p4 = go (λ x. (walkers x c.args.depth).assign) _ p3 c.in_ok-expr.ensures in
    conveyed (stop (λ x. expect x 7) _ (λ x. ret_stmt x (walkers x c.args.depth)) p4 (omega arith) c.in_err-expect-2.ensures.does) c.from_residual-in_err-expect-2.ensures

pub returns-in_err-push_node-2 : goal.returns-in_err-push_node-2
unfolding ret_stmt
returns-in_err-push_node-2 c =
    let p0 = begin 1 (λ x. ret_stmt x (walkers x c.args.depth)) c.requires.0 in
    let p1 = go (λ x. expect x 36) _ p0 (taken 36 c.requires.1 (λ z. let v : ⊥ = omega (arith, z) in v) c.in_ok-expect.ensures.does) in
    let p2 = kinded _ p1 in
    let p3 = no _ _ p2 (ne_eqb _ 7 (λ z. c.if-kind-eq-SEMICOLON.false (c.kind.ensures ∙ z))) in
    let p4 = go (λ x. (walkers x c.args.depth).assign) _ p3 c.in_ok-expr.ensures in
    let p5 = go (λ x. expect x 7) _ p4 c.in_ok-expect-2.ensures.does in
    conveyed (last (λ x. push x 6 false 1 0) (λ x. ret_stmt x (walkers x c.args.depth)) p5 (omega arith) c.in_err-push_node-2.ensures.does) c.from_residual-in_err-push_node-2.ensures

pub returns : goal.returns
unfolding ret_stmt
returns c =
    let p0 = begin 1 (λ x. ret_stmt x (walkers x c.args.depth)) c.requires.0 in
    let p1 = go (λ x. expect x 36) _ p0 (taken 36 c.requires.1 (λ z. let v : ⊥ = omega (arith, z) in v) c.in_ok-expect.ensures.does) in
    let p2 = kinded _ p1 in
    let p3 = no _ _ p2 (ne_eqb _ 7 (λ z. c.if-kind-eq-SEMICOLON.false (c.kind.ensures ∙ z))) in
    let p4 = go (λ x. (walkers x c.args.depth).assign) _ p3 c.in_ok-expr.ensures in
    let p5 = go (λ x. expect x 7) _ p4 c.in_ok-expect-2.ensures.does in
    last (λ x. push x 6 false 1 0) (λ x. ret_stmt x (walkers x c.args.depth)) p5 (omega arith) c.in_ok-push_node-2.ensures.does
