use Rattle.std.specs.Prelude.{refl}
use Rattle.std.proofs.Common.{arith}
use Rattle.sifc_def.specs.State.{consume}
use Rattle.sifc_def.specs.Stmt.{initial, declare_var}
use Rattle.sifc_def.specs.Walk.{walkers}
use Rattle.sifc_declare.specs.Promise.{var_value}
use Rattle.sifc_step.proofs.Steps.{begin, go, stop, refused, last}
use Rattle.sifc_step.proofs.Small.{conveyed}
use Rattle.sifc_declare.proofs.Ends.{free}
use Rattle.sifc_stmt.proofs.decl.var_value.Goals as goal

pub returns-in_err-consume : goal.returns-in_err-consume
returns-in_err-consume c =
    let p0 = begin 0 (λ x. var_value x (walkers x c.args.depth) c.args.i) c.requires.0 in
    conveyed (refused (λ x. consume x) _ (λ x. var_value x (walkers x c.args.depth) c.args.i) p0 c.in_err-consume.ensures.does refl) c.from_residual.ensures

pub returns-in_err-initial : goal.returns-in_err-initial
returns-in_err-initial c =
    let p0 = begin 0 (λ x. var_value x (walkers x c.args.depth) c.args.i) c.requires.0 in
    let p1 = go (λ x. consume x) _ p0 c.in_ok-consume.ensures.does in
    conveyed (stop (λ x. initial x (walkers x c.args.depth) c.args.i) _ (λ x. var_value x (walkers x c.args.depth) c.args.i) p1 (omega arith) c.in_err-initial.ensures) c.from_residual-in_err-initial.ensures

pub returns-in_err-declare_var : goal.returns-in_err-declare_var
returns-in_err-declare_var c =
    let p0 = begin 0 (λ x. var_value x (walkers x c.args.depth) c.args.i) c.requires.0 in
    let p1 = go (λ x. consume x) _ p0 c.in_ok-consume.ensures.does in
    let p2 = go (λ x. initial x (walkers x c.args.depth) c.args.i) _ p1 c.in_ok-initial.ensures in
    conveyed (last (λ x. declare_var x c.args.i 1) (λ x. var_value x (walkers x c.args.depth) c.args.i) p2 (omega arith) c.in_err-declare_var.ensures.does) c.from_residual-in_err-declare_var.ensures

pub declare_var-requires : goal.declare_var-requires
declare_var-requires c =
    let p0 = begin 0 (λ x. var_value x (walkers x c.args.depth) c.args.i) c.requires.0 in
    let p1 = go (λ x. consume x) _ p0 c.in_ok-consume.ensures.does in
    let p2 = go (λ x. initial x (walkers x c.args.depth) c.args.i) _ p1 c.in_ok-initial.ensures in
    (free p2.is, c.requires.1, omega arith)

pub returns : goal.returns
returns c =
    let p0 = begin 0 (λ x. var_value x (walkers x c.args.depth) c.args.i) c.requires.0 in
    let p1 = go (λ x. consume x) _ p0 c.in_ok-consume.ensures.does in
    let p2 = go (λ x. initial x (walkers x c.args.depth) c.args.i) _ p1 c.in_ok-initial.ensures in
    last (λ x. declare_var x c.args.i 1) (λ x. var_value x (walkers x c.args.depth) c.args.i) p2 (omega arith) c.in_ok-declare_var.ensures.does
