use Rattle.std.proofs.Common.{add-one}
use Rattle.sifc_step.proofs.Small.{conveyed, pushed-as}
use Rattle.sifc_name.proofs.Names.{called-wrong, called-right}
use Rattle.sifc_name.proofs.name.call_counted.Goals as goal

pub returns-then-want-n : goal.returns-then-want-n
returns-then-want-n c = called-wrong c.if-want-n.true c.add_error.ensures.does

pub returns-in_err-push_node : goal.returns-in_err-push_node
returns-in_err-push_node c = conveyed (called-right c.if-want-n.false (pushed-as 0 (rw (add-one c.args.n) at c.head_word.ensures) c.in_err-push_node.ensures.does)) c.from_residual.ensures

pub returns : goal.returns
returns c = called-right c.if-want-n.false (pushed-as 0 (rw (add-one c.args.n) at c.head_word.ensures) c.in_ok-push_node.ensures.does)
