use Rattle.std.specs.Prelude.{suc, true, refl}
use Rattle.std.proofs.Common.{arith, add-one, sym, ap, ◌∙◌}
use Rattle.sifc_def.specs.State.{push}
use Rattle.sifc_def.specs.Expr.{call_named, call_name, call_declared}
use Rattle.sifc_symtab.specs.Table.{found_of}
use Rattle.sifc_step.specs.Small.{node_of}
use Rattle.sifc_step.proofs.Steps.{begin, last, yes, no}
use Rattle.sifc_step.proofs.Small.{conveyed, pushed-as}
use Rattle.sifc_word.specs.Base.{if◌then◌otherwise◌}
use Rattle.sifc_word.specs.Reserved.{is_std_lib_fn}
use Rattle.sifc_name.proofs.Names.{looked, panicked}
use Rattle.sifc_name.proofs.name.call_named.Goals as goal

pub returns-then-not-is_named : goal.returns-then-not-is_named
unfolding call_named if◌then◌otherwise◌
returns-then-not-is_named c = panicked 3 c.args.sign c.requires.0 c.requires.1 (λ E l. rw (sym c.is_named.ensures ∙ c.if-not-is_named.true) refl)

pub returns-in_err-push_node : goal.returns-in_err-push_node
unfolding call_named call_name
returns-in_err-push_node c =
    let p0 = begin 0 (λ x. call_named x (node_of c.args.target) c.args.sign c.args.n) c.requires.0 in
    let p1 = looked c.args.target.load _ (yes _ _ p0 (sym c.is_named.ensures ∙ c.if-not-is_named.false)) c.look_up-found.ensures in
    let p2 = yes _ _ p1 (sym (c.is_std_lib_fn.ensures ∙ ap is_std_lib_fn c.name.ensures) ∙ c.if-is_std_lib_fn.true) in
    conveyed (last (λ x. push x 20 true (suc c.args.n) 0) (λ x. call_named x (node_of c.args.target) c.args.sign c.args.n) p2 (omega arith) (pushed-as 0 (rw (add-one c.args.n) at c.head_word.ensures) c.in_err-push_node.ensures.does)) c.from_residual.ensures

pub returns-then-is_std_lib_fn : goal.returns-then-is_std_lib_fn
unfolding call_named call_name
returns-then-is_std_lib_fn c =
    let p0 = begin 0 (λ x. call_named x (node_of c.args.target) c.args.sign c.args.n) c.requires.0 in
    let p1 = looked c.args.target.load _ (yes _ _ p0 (sym c.is_named.ensures ∙ c.if-not-is_named.false)) c.look_up-found.ensures in
    let p2 = yes _ _ p1 (sym (c.is_std_lib_fn.ensures ∙ ap is_std_lib_fn c.name.ensures) ∙ c.if-is_std_lib_fn.true) in
    last (λ x. push x 20 true (suc c.args.n) 0) (λ x. call_named x (node_of c.args.target) c.args.sign c.args.n) p2 (omega arith) (pushed-as 0 (rw (add-one c.args.n) at c.head_word.ensures) c.in_ok-push_node.ensures.does)

pub returns : goal.returns
unfolding call_named call_name
returns c =
    let p0 = begin 0 (λ x. call_named x (node_of c.args.target) c.args.sign c.args.n) c.requires.0 in
    let p1 = looked c.args.target.load _ (yes _ _ p0 (sym c.is_named.ensures ∙ c.if-not-is_named.false)) c.look_up-found.ensures in
    let p2 = no _ _ p1 (sym (c.is_std_lib_fn.ensures ∙ ap is_std_lib_fn c.name.ensures) ∙ c.if-is_std_lib_fn.false) in
    last (λ x. call_declared x c.args.target.load c.args.n (found_of c.look_up-found.result)) (λ x. call_named x (node_of c.args.target) c.args.sign c.args.n) p2 (omega arith) c.call_declared.ensures
