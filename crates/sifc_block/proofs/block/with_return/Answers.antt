use Rattle.sifc_block.proofs.Ends.{return-not, return-there, return-stops, return-made}
use Rattle.sifc_block.proofs.block.with_return.Goals as goal

pub returns-then-not-body : goal.returns-then-not-body
returns-then-not-body c = return-not c.args.body c.args.n c.if-not-body.true

pub returns-then-ends_with_return : goal.returns-then-ends_with_return
returns-then-ends_with_return c = return-there c.args.body c.args.n c.if-not-body.false c.top-last.result c.top-last.ensures c.ends_with_return.ensures c.if-ends_with_return.true

pub returns-in_err-push_node : goal.returns-in_err-push_node
returns-in_err-push_node c =
    return-stops c.args.body c.args.n c.if-not-body.false c.top-last.result c.top-last.ensures c.ends_with_return.ensures c.if-ends_with_return.false c.from_residual.result c.in_err-push_node.ensures c.from_residual.ensures

pub returns : goal.returns
returns c = return-made c.args.body c.args.n c.if-not-body.false c.top-last.result c.top-last.ensures c.ends_with_return.ensures c.if-ends_with_return.false c.in_ok-push_node.ensures
