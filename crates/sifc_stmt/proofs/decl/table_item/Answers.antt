use Rattle.std.specs.Prelude.{refl, false}
use Rattle.std.proofs.Common.{arith}
use Rattle.sifc_err.specs.declared.parse_err.ParseErrTy.TheVariants.{InvalidTknMsg}
use Rattle.sifc_def.specs.State.{expect, push, ident}
use Rattle.sifc_def.specs.Stmt.{table_item}
use Rattle.sifc_def.specs.Walk.{walkers}
use Rattle.sifc_step.proofs.Steps.{begin, go, stop, last}
use Rattle.sifc_step.proofs.Small.{conveyed, named, paired}
use Rattle.sifc_step.proofs.Told.{name-next}
use Rattle.sifc_stmt.proofs.decl.table_item.Goals as goal

pub returns-in_err-key-clause-does : goal.returns-in_err-key-clause-does
unfolding table_item
returns-in_err-key-clause-does c =
    let p0 = begin 0 (λ x. table_item x (walkers x c.args.depth)) c.requires in
    conveyed (stop (λ x. ident x (λ i. InvalidTknMsg 3)) _ (λ x. table_item x (walkers x c.args.depth)) p0 (omega arith) (named (λ i. InvalidTknMsg 3) c.in_err-key.ensures refl)) c.from_residual.ensures

pub returns-in_err-expect-clause-does : goal.returns-in_err-expect-clause-does
unfolding table_item
returns-in_err-expect-clause-does c =
    let p0 = begin 0 (λ x. table_item x (walkers x c.args.depth)) c.requires in
    let p1 = go (λ x. ident x (λ i. InvalidTknMsg 3)) _ p0 (named (λ i. InvalidTknMsg 3) c.in_ok-key.ensures refl) in
    conveyed (stop (λ x. expect x 25) _ (λ x. table_item x (walkers x c.args.depth)) p1 (omega arith) c.in_err-expect.ensures.does) c.from_residual-in_err-expect.ensures

pub returns-in_err-expr-clause-does : goal.returns-in_err-expr-clause-does
unfolding table_item
returns-in_err-expr-clause-does c =
    let p0 = begin 0 (λ x. table_item x (walkers x c.args.depth)) c.requires in
    let p1 = go (λ x. ident x (λ i. InvalidTknMsg 3)) _ p0 (named (λ i. InvalidTknMsg 3) c.in_ok-key.ensures refl) in
    let p2 = go (λ x. expect x 25) _ p1 c.in_ok-expect.ensures.does in
    conveyed (stop (λ x. (walkers x c.args.depth).assign) _ (λ x. table_item x (walkers x c.args.depth)) p2 (omega arith) c.in_err-expr.ensures) c.from_residual-in_err-expr.ensures

pub returns-in_err-push_node-clause-does : goal.returns-in_err-push_node-clause-does
unfolding table_item
returns-in_err-push_node-clause-does c =
    let p0 = begin 0 (λ x. table_item x (walkers x c.args.depth)) c.requires in
    let p1 = go (λ x. ident x (λ i. InvalidTknMsg 3)) _ p0 (named (λ i. InvalidTknMsg 3) c.in_ok-key.ensures refl) in
    let p2 = go (λ x. expect x 25) _ p1 c.in_ok-expect.ensures.does in
    let p3 = go (λ x. (walkers x c.args.depth).assign) _ p2 c.in_ok-expr.ensures in
    conveyed (last (λ x. push x 13 false 1 c.in_ok-key.key) (λ x. table_item x (walkers x c.args.depth)) p3 (omega arith) c.in_err-push_node.ensures.does) c.from_residual-in_err-push_node.ensures

pub returns-clause-does : goal.returns-clause-does
unfolding table_item
returns-clause-does c =
    let p0 = begin 0 (λ x. table_item x (walkers x c.args.depth)) c.requires in
    let p1 = go (λ x. ident x (λ i. InvalidTknMsg 3)) _ p0 (named (λ i. InvalidTknMsg 3) c.in_ok-key.ensures refl) in
    let p2 = go (λ x. expect x 25) _ p1 c.in_ok-expect.ensures.does in
    let p3 = go (λ x. (walkers x c.args.depth).assign) _ p2 c.in_ok-expr.ensures in
    last (λ x. push x 13 false 1 c.in_ok-key.key) (λ x. table_item x (walkers x c.args.depth)) p3 (omega arith) c.in_ok-push_node.ensures.does

pub returns-clause-ahead : goal.returns-clause-ahead
unfolding table_item
returns-clause-ahead c =
    let p1 = go (λ x. ident x (λ i. InvalidTknMsg 3)) _ (begin 0 (λ x. table_item x (walkers x c.args.depth)) c.requires) (named (λ i. InvalidTknMsg 3) c.in_ok-key.ensures refl) in
    let p2 = go (λ x. expect x 25) _ p1 c.in_ok-expect.ensures.does in
    let p3 = go (λ x. (walkers x c.args.depth).assign) _ p2 c.in_ok-expr.ensures in
    omega (arith, (name-next (λ i. InvalidTknMsg 3) c.requires c.in_ok-key.ensures refl).at, (c.in_ok-expect.ensures.does.fine p1.is).on, (c.in_ok-expr.ensures.fine p2.is).on, (c.in_ok-push_node.ensures.does.fine p3.is).on)

pub expect-requires : goal.expect-requires
unfolding table_item
expect-requires c =
    let p1 = go (λ x. ident x (λ i. InvalidTknMsg 3)) _ (begin 0 (λ x. table_item x (walkers x c.args.depth)) c.requires) (named (λ i. InvalidTknMsg 3) c.in_ok-key.ensures refl) in
    p1.is.stands

pub expr-requires : goal.expr-requires
unfolding table_item
expr-requires c =
    let p1 = go (λ x. ident x (λ i. InvalidTknMsg 3)) _ (begin 0 (λ x. table_item x (walkers x c.args.depth)) c.requires) (named (λ i. InvalidTknMsg 3) c.in_ok-key.ensures refl) in
    let p2 = go (λ x. expect x 25) _ p1 c.in_ok-expect.ensures.does in
    p2.is

pub push_node-requires : goal.push_node-requires
unfolding table_item
push_node-requires c =
    let p1 = go (λ x. ident x (λ i. InvalidTknMsg 3)) _ (begin 0 (λ x. table_item x (walkers x c.args.depth)) c.requires) (named (λ i. InvalidTknMsg 3) c.in_ok-key.ensures refl) in
    let p2 = go (λ x. expect x 25) _ p1 c.in_ok-expect.ensures.does in
    let p3 = go (λ x. (walkers x c.args.depth).assign) _ p2 c.in_ok-expr.ensures in
    paired p3.is

pub overflow_cast-key : goal.overflow_cast-key
unfolding table_item
overflow_cast-key c =
    omega (arith, (name-next (λ i. InvalidTknMsg 3) c.requires c.in_ok-key.ensures refl).value, c.requires.stands.here, c.requires.stands.toks.few)
