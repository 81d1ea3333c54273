use Rattle.std.specs.Prelude.{◌-◌}
use Rattle.std.proofs.Common.{arith, eq-eqb, ne_eqb}
use Rattle.sifc_def.specs.Expr.{assign_to, assign_token, assign_array, assign_nothing}
use Rattle.sifc_err.specs.declared.parse_err.ParseErrTy.TheVariants.{InvalidAssign}
use Rattle.sifc_step.specs.Small.{node_of, throw_at}
use Rattle.sifc_step.proofs.Steps.{begin, last, yes, no}
use Rattle.sifc_step.proofs.Small.{conveyed}
use Rattle.sifc_name.proofs.name.assign_to.Goals as goal

pub returns-then-kind-eq-PRIMARY_EXPR : goal.returns-then-kind-eq-PRIMARY_EXPR
unfolding assign_to
returns-then-kind-eq-PRIMARY_EXPR c =
    let p0 = begin 0 (λ x. assign_to x (node_of c.args.target) (c.args.n - 1) c.args.op) c.requires in
    last (λ x. assign_token x c.args.target.load) (λ x. assign_to x (node_of c.args.target) (c.args.n - 1) c.args.op) (yes _ _ p0 (eq-eqb _ 24 c.if-kind-eq-PRIMARY_EXPR.true)) (omega arith) c.assign_token.ensures

pub returns-in_err-assign_array : goal.returns-in_err-assign_array
unfolding assign_to
returns-in_err-assign_array c =
    let p0 = begin 0 (λ x. assign_to x (node_of c.args.target) (c.args.n - 1) c.args.op) c.requires in
    let p1 = yes _ _ (no _ _ p0 (ne_eqb _ 24 c.if-kind-eq-PRIMARY_EXPR.false)) (eq-eqb _ 18 c.if-kind-eq-ARRAY_ACCESS.true) in
    conveyed (last (λ x. assign_array x (c.args.n - 1)) (λ x. assign_to x (node_of c.args.target) (c.args.n - 1) c.args.op) p1 (omega arith) (rw c.saturating_sub.ensures at c.in_err-assign_array.ensures)) c.from_residual.ensures

pub returns-then-kind-eq-ARRAY_ACCESS : goal.returns-then-kind-eq-ARRAY_ACCESS
unfolding assign_to
returns-then-kind-eq-ARRAY_ACCESS c =
    let p0 = begin 0 (λ x. assign_to x (node_of c.args.target) (c.args.n - 1) c.args.op) c.requires in
    let p1 = yes _ _ (no _ _ p0 (ne_eqb _ 24 c.if-kind-eq-PRIMARY_EXPR.false)) (eq-eqb _ 18 c.if-kind-eq-ARRAY_ACCESS.true) in
    last (λ x. assign_array x (c.args.n - 1)) (λ x. assign_to x (node_of c.args.target) (c.args.n - 1) c.args.op) p1 (omega arith) (rw c.saturating_sub.ensures at c.in_ok-assign_array.ensures)

pub returns : goal.returns
unfolding assign_to assign_nothing
returns c =
    let p0 = begin 0 (λ x. assign_to x (node_of c.args.target) (c.args.n - 1) c.args.op) c.requires in
    let p1 = no _ _ (no _ _ p0 (ne_eqb _ 24 c.if-kind-eq-PRIMARY_EXPR.false)) (ne_eqb _ 18 c.if-kind-eq-ARRAY_ACCESS.false) in
    last (throw_at c.args.op (InvalidAssign c.args.op)) (λ x. assign_to x (node_of c.args.target) (c.args.n - 1) c.args.op) p1 (omega arith) c.add_error_w_pos.ensures.does
