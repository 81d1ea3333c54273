use Rattle.std.specs.Prelude.{false}
use Rattle.std.proofs.Common.{arith, rules}
use Rattle.sifc_def.specs.State.{push}
use Rattle.sifc_def.specs.Expr.{fuel}
use Rattle.sifc_def.specs.Stmt.{comma_list, table_item, item_list}
use Rattle.sifc_def.specs.Walk.{walkers}
use Rattle.sifc_step.proofs.Steps.{begin, go, stop, last}
use Rattle.sifc_step.proofs.Small.{conveyed, pushed-as}
use Rattle.sifc_stmt.proofs.decl.item_list.Goals as goal

pub comma_list-requires-clause-items : goal.comma_list-requires-clause-items
comma_list-requires-clause-items c = ((λ x. table_item x (walkers x c.args.depth)), search rules)

pub returns-in_err-n : goal.returns-in_err-n
unfolding item_list
returns-in_err-n c =
    let p0 = begin 0 (λ x. item_list x (walkers x c.args.depth)) c.requires in
    conveyed (stop (λ x. comma_list x 30 (table_item x (walkers x c.args.depth)) (fuel x) 0) _ (λ x. item_list x (walkers x c.args.depth)) p0 (omega arith) (c.in_err-n.ensures.does _ (search rules))) c.from_residual.ensures

pub push_node-requires : goal.push_node-requires
unfolding item_list
push_node-requires c =
    let p0 = begin 0 (λ x. item_list x (walkers x c.args.depth)) c.requires in
    let p1 = go (λ x. comma_list x 30 (table_item x (walkers x c.args.depth)) (fuel x) 0) _ p0 (c.in_ok-n.ensures.does _ (search rules)) in
    (p1.is.even, p1.is.used)

pub returns-in_err-push_node : goal.returns-in_err-push_node
unfolding item_list
returns-in_err-push_node c =
    let p0 = begin 0 (λ x. item_list x (walkers x c.args.depth)) c.requires in
    let p1 = go (λ x. comma_list x 30 (table_item x (walkers x c.args.depth)) (fuel x) 0) _ p0 (c.in_ok-n.ensures.does _ (search rules)) in
    conveyed (last (λ x. push x 12 false c.in_ok-n.n 0) (λ x. item_list x (walkers x c.args.depth)) p1 (omega arith) (pushed-as 0 c.head_word.ensures c.in_err-push_node.ensures.does)) c.from_residual-in_err-push_node.ensures

pub returns : goal.returns
unfolding item_list
returns c =
    let p0 = begin 0 (λ x. item_list x (walkers x c.args.depth)) c.requires in
    let p1 = go (λ x. comma_list x 30 (table_item x (walkers x c.args.depth)) (fuel x) 0) _ p0 (c.in_ok-n.ensures.does _ (search rules)) in
    last (λ x. push x 12 false c.in_ok-n.n 0) (λ x. item_list x (walkers x c.args.depth)) p1 (omega arith) (pushed-as 0 c.head_word.ensures c.in_ok-push_node.ensures.does)
