use Rattle.std.proofs.Common.{arith}
use Rattle.sifc_step.proofs.Small.{conveyed, pushed-as}
use Rattle.sifc_name.proofs.Names.{assign-none, assign-not, assign-var, small_at}
use Rattle.sifc_name.proofs.name.assign_var.Goals as goal

pub returns-in_default : goal.returns-in_default
returns-in_default c = assign-none c.args.i c.in_default.is c.add_error.ensures.does

pub returns-in_default-what : goal.returns-in_default-what
returns-in_default-what c = assign-not c.args.i c.in-Some.is c.in_default-what.not-Variable c.add_error-in_default-what.ensures.does

pub overflow_cast-token : goal.overflow_cast-token
overflow_cast-token c = omega (arith, small_at c.requires.1 c.in-Some.is c.in-Variable.is)

pub returns-in_err-push_node : goal.returns-in_err-push_node
returns-in_err-push_node c = conveyed (assign-var c.args.i c.in-Some.is c.in-Variable.is (pushed-as c.in-Variable.token c.head_word.ensures c.in_err-push_node.ensures.does)) c.from_residual.ensures

pub returns : goal.returns
returns c = assign-var c.args.i c.in-Some.is c.in-Variable.is (pushed-as c.in-Variable.token c.head_word.ensures c.in_ok-push_node.ensures.does)
