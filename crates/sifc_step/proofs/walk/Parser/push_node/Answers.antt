use Rattle.sifc_step.proofs.Small.{push-full, push-done}
use Rattle.sifc_step.proofs.walk.Parser.push_node.Goals as goal

pub returns-then-self-n : goal.returns-then-self-n
returns-then-self-n c = push-full c.args.word c.args.pay c.if-self-n.true

pub returns : goal.returns
returns c = push-done c.args.word c.args.pay c.if-self-n.false
