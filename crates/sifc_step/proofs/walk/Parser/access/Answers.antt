use Rattle.sifc_step.proofs.Small.{access-refused, access-is}
use Rattle.sifc_step.proofs.walk.Parser.access.Goals as goal

pub returns-then-target-ne-PRIMARY_EXPR : goal.returns-then-target-ne-PRIMARY_EXPR
returns-then-target-ne-PRIMARY_EXPR c = access-refused c.args.target c.args.word c.args.fault c.args.i c.if-target-ne-PRIMARY_EXPR.true c.requires.0

pub returns : goal.returns
returns c = access-is c.if-target-ne-PRIMARY_EXPR.false c.push_node.ensures
