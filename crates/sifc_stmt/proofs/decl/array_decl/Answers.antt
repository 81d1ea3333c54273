use Rattle.std.proofs.Common.{arith, rules}
use Rattle.sifc_def.specs.State.{expect}
use Rattle.sifc_def.specs.Expr.{fuel}
use Rattle.sifc_def.specs.Stmt.{comma_list, array_decl}
use Rattle.sifc_def.specs.Walk.{walkers}
use Rattle.sifc_declare.specs.Promise.{array_and_name}
use Rattle.sifc_step.proofs.Steps.{begin, go, stop, last}
use Rattle.sifc_step.proofs.Small.{conveyed}
use Rattle.sifc_declare.proofs.Ends.{free}
use Rattle.sifc_step.proofs.Items.{reads}
use Rattle.sifc_stmt.proofs.decl.array_decl.Goals as goal

pub returns-in_err-expect : goal.returns-in_err-expect
unfolding array_decl
returns-in_err-expect c =
    let p0 = begin 0 (λ x. array_decl x (walkers x c.args.depth) c.args.i) c.requires.0 in
    conveyed (stop (λ x. expect x 5) _ (λ x. array_decl x (walkers x c.args.depth) c.args.i) p0 (omega arith) c.in_err-expect.ensures.does) c.from_residual.ensures

pub comma_list-requires-clause-items : goal.comma_list-requires-clause-items
comma_list-requires-clause-items c = ((λ x. (walkers x c.args.depth).assign), reads (λ p q r z x. search rules))

pub returns-in_err-n : goal.returns-in_err-n
unfolding array_decl
returns-in_err-n c =
    let p0 = begin 0 (λ x. array_decl x (walkers x c.args.depth) c.args.i) c.requires.0 in
    let p1 = go (λ x. expect x 5) _ p0 c.in_ok-expect.ensures.does in
    conveyed (stop (λ x. comma_list x 6 (walkers x c.args.depth).assign (fuel x) 0) _ (λ x. array_decl x (walkers x c.args.depth) c.args.i) p1 (omega arith) (c.in_err-n.ensures.does _ (reads (λ p q r z x. search rules)))) c.from_residual-in_err-n.ensures

pub returns-in_err-expect-2 : goal.returns-in_err-expect-2
unfolding array_decl
returns-in_err-expect-2 c =
    let p0 = begin 0 (λ x. array_decl x (walkers x c.args.depth) c.args.i) c.requires.0 in
    let p1 = go (λ x. expect x 5) _ p0 c.in_ok-expect.ensures.does in
    let p2 = go (λ x. comma_list x 6 (walkers x c.args.depth).assign (fuel x) 0) _ p1 (c.in_ok-n.ensures.does _ (reads (λ p q r z x. search rules))) in
    conveyed (stop (λ x. expect x 6) _ (λ x. array_decl x (walkers x c.args.depth) c.args.i) p2 (omega arith) c.in_err-expect-2.ensures.does) c.from_residual-in_err-expect-2.ensures

pub returns-in_err-expect-3 : goal.returns-in_err-expect-3
unfolding array_decl
returns-in_err-expect-3 c =
    let p0 = begin 0 (λ x. array_decl x (walkers x c.args.depth) c.args.i) c.requires.0 in
    let p1 = go (λ x. expect x 5) _ p0 c.in_ok-expect.ensures.does in
    let p2 = go (λ x. comma_list x 6 (walkers x c.args.depth).assign (fuel x) 0) _ p1 (c.in_ok-n.ensures.does _ (reads (λ p q r z x. search rules))) in
    let p3 = go (λ x. expect x 6) _ p2 c.in_ok-expect-2.ensures.does in
    conveyed (stop (λ x. expect x 7) _ (λ x. array_decl x (walkers x c.args.depth) c.args.i) p3 (omega arith) c.in_err-expect-3.ensures.does) c.from_residual-in_err-expect-3.ensures

pub returns-in_err-declare_array : goal.returns-in_err-declare_array
unfolding array_decl
returns-in_err-declare_array c =
    let p0 = begin 0 (λ x. array_decl x (walkers x c.args.depth) c.args.i) c.requires.0 in
    let p1 = go (λ x. expect x 5) _ p0 c.in_ok-expect.ensures.does in
    let p2 = go (λ x. comma_list x 6 (walkers x c.args.depth).assign (fuel x) 0) _ p1 (c.in_ok-n.ensures.does _ (reads (λ p q r z x. search rules))) in
    let p3 = go (λ x. expect x 6) _ p2 c.in_ok-expect-2.ensures.does in
    let p4 = go (λ x. expect x 7) _ p3 c.in_ok-expect-3.ensures.does in
    conveyed (last (λ x. array_and_name x c.args.i c.in_ok-n.n) (λ x. array_decl x (walkers x c.args.depth) c.args.i) p4 (omega arith) c.in_err-declare_array.ensures.does) c.from_residual-in_err-declare_array.ensures

pub declare_array-requires : goal.declare_array-requires
unfolding array_decl
declare_array-requires c =
    let p0 = begin 0 (λ x. array_decl x (walkers x c.args.depth) c.args.i) c.requires.0 in
    let p1 = go (λ x. expect x 5) _ p0 c.in_ok-expect.ensures.does in
    let p2 = go (λ x. comma_list x 6 (walkers x c.args.depth).assign (fuel x) 0) _ p1 (c.in_ok-n.ensures.does _ (reads (λ p q r z x. search rules))) in
    let p3 = go (λ x. expect x 6) _ p2 c.in_ok-expect-2.ensures.does in
    let p4 = go (λ x. expect x 7) _ p3 c.in_ok-expect-3.ensures.does in
    (free p4.is, c.requires.1, c.in_ok-n.ensures.few)

pub returns : goal.returns
unfolding array_decl
returns c =
    let p0 = begin 0 (λ x. array_decl x (walkers x c.args.depth) c.args.i) c.requires.0 in
    let p1 = go (λ x. expect x 5) _ p0 c.in_ok-expect.ensures.does in
    let p2 = go (λ x. comma_list x 6 (walkers x c.args.depth).assign (fuel x) 0) _ p1 (c.in_ok-n.ensures.does _ (reads (λ p q r z x. search rules))) in
    let p3 = go (λ x. expect x 6) _ p2 c.in_ok-expect-2.ensures.does in
    let p4 = go (λ x. expect x 7) _ p3 c.in_ok-expect-3.ensures.does in
    last (λ x. array_and_name x c.args.i c.in_ok-n.n) (λ x. array_decl x (walkers x c.args.depth) c.args.i) p4 (omega arith) c.in_ok-declare_array.ensures.does

pub expect-requires-2 : goal.expect-requires-2
unfolding array_decl
expect-requires-2 c =
    let p0 = begin 0 (λ x. array_decl x (walkers x c.args.depth) c.args.i) c.requires.0 in
    let p1 = go (λ x. expect x 5) _ p0 c.in_ok-expect.ensures.does in
    let p2 = go (λ x. comma_list x 6 (walkers x c.args.depth).assign (fuel x) 0) _ p1 (c.in_ok-n.ensures.does _ (reads (λ p q r z x. search rules))) in
    p2.is.stands

pub expect-requires-3 : goal.expect-requires-3
unfolding array_decl
expect-requires-3 c =
    let p0 = begin 0 (λ x. array_decl x (walkers x c.args.depth) c.args.i) c.requires.0 in
    let p1 = go (λ x. expect x 5) _ p0 c.in_ok-expect.ensures.does in
    let p2 = go (λ x. comma_list x 6 (walkers x c.args.depth).assign (fuel x) 0) _ p1 (c.in_ok-n.ensures.does _ (reads (λ p q r z x. search rules))) in
    let p3 = go (λ x. expect x 6) _ p2 c.in_ok-expect-2.ensures.does in
    p3.is.stands
