use Rattle.sifc_step.proofs.Small.{literal-refused, literal-done, stands-grown}
use Rattle.sifc_step.proofs.walk.Parser.literal.Goals as goal

pub returns-in_err-push_node : goal.returns-in_err-push_node
returns-in_err-push_node c = literal-refused c.from_residual.result c.in_err-push_node.ensures c.from_residual.ensures

pub consume-requires : goal.consume-requires
consume-requires c = stands-grown c.in_ok-push_node.ensures c.requires.0

pub returns : goal.returns
returns c = literal-done c.in_ok-push_node.ensures c.consume.ensures
