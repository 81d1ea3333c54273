use Rattle.std.specs.Prelude.{false}
use Rattle.std.proofs.Common.{arith}
use Rattle.sifc_def.specs.State.{expect, push}
use Rattle.sifc_def.specs.Stmt.{expr_stmt}
use Rattle.sifc_def.specs.Walk.{walkers}
use Rattle.sifc_step.proofs.Steps.{begin, go, stop, last}
use Rattle.sifc_step.proofs.Small.{conveyed}
use Rattle.sifc_stmt.proofs.stmt.expr_stmt.Goals as goal

pub returns-in_err-expr : goal.returns-in_err-expr
unfolding expr_stmt
returns-in_err-expr c =
    let p0 = begin 1 (λ x. expr_stmt x (walkers x c.args.depth)) c.requires in
    conveyed (stop (λ x. (walkers x c.args.depth).assign) _ (λ x. expr_stmt x (walkers x c.args.depth)) p0 (omega arith) c.in_err-expr.ensures) c.from_residual.ensures

pub returns-in_err-expect : goal.returns-in_err-expect
unfolding expr_stmt
returns-in_err-expect c =
    let p0 = begin 1 (λ x. expr_stmt x (walkers x c.args.depth)) c.requires in
    let p1 = go (λ x. (walkers x c.args.depth).assign) _ p0 c.in_ok-expr.ensures in
    conveyed (stop (λ x. expect x 7) _ (λ x. expr_stmt x (walkers x c.args.depth)) p1 (omega arith) c.in_err-expect.ensures.does) c.from_residual-in_err-expect.ensures

pub returns-in_err-push_node : goal.returns-in_err-push_node
unfolding expr_stmt
returns-in_err-push_node c =
    let p0 = begin 1 (λ x. expr_stmt x (walkers x c.args.depth)) c.requires in
    let p1 = go (λ x. (walkers x c.args.depth).assign) _ p0 c.in_ok-expr.ensures in
    let p2 = go (λ x. expect x 7) _ p1 c.in_ok-expect.ensures.does in
    conveyed (last (λ x. push x 7 false 1 0) (λ x. expr_stmt x (walkers x c.args.depth)) p2 (omega arith) c.in_err-push_node.ensures.does) c.from_residual-in_err-push_node.ensures

pub returns : goal.returns
unfolding expr_stmt
returns c =
    let p0 = begin 1 (λ x. expr_stmt x (walkers x c.args.depth)) c.requires in
    let p1 = go (λ x. (walkers x c.args.depth).assign) _ p0 c.in_ok-expr.ensures in
    let p2 = go (λ x. expect x 7) _ p1 c.in_ok-expect.ensures.does in
    last (λ x. push x 7 false 1 0) (λ x. expr_stmt x (walkers x c.args.depth)) p2 (omega arith) c.in_ok-push_node.ensures.does
