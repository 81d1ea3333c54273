use Rattle.std.proofs.Common.{add-one}
use Rattle.sifc_step.proofs.Small.{conveyed, pushed-as}
use Rattle.sifc_name.proofs.Names.{call-none, call-null, call-fn, call-var, call-other}
use Rattle.sifc_name.proofs.name.call_declared.Goals as goal

pub returns-in_default : goal.returns-in_default
returns-in_default c = call-none c.args.i c.args.n c.in_default.is c.throw_past.ensures.does

pub returns-in_err-push_node-in-Placeholder : goal.returns-in_err-push_node-in-Placeholder
returns-in_err-push_node-in-Placeholder c =
    conveyed (call-null c.args.i c.args.n c.in-Some.is c.in-Placeholder.is (pushed-as 0 (rw (add-one c.args.n) at c.head_word.ensures) c.in_err-push_node-in-Placeholder.ensures.does)) c.from_residual.ensures

pub returns-in_ok-push_node-in-Placeholder : goal.returns-in_ok-push_node-in-Placeholder
returns-in_ok-push_node-in-Placeholder c = call-null c.args.i c.args.n c.in-Some.is c.in-Placeholder.is (pushed-as 0 (rw (add-one c.args.n) at c.head_word.ensures) c.in_ok-push_node-in-Placeholder.ensures.does)

pub returns-in-Function : goal.returns-in-Function
returns-in-Function c = call-fn c.args.i c.args.n c.in-Some.is c.in-Function.is c.call_counted.ensures

pub returns-in-Variable : goal.returns-in-Variable
returns-in-Variable c = call-var c.args.i c.args.n c.in-Some.is c.in-Variable.is c.call_counted-in-Variable.ensures

pub returns-in-Other : goal.returns-in-Other
returns-in-Other c = call-other c.args.i c.args.n c.in-Some.is c.in-Other.is c.call_counted-in-Other.ensures
