use Rattle.sifc_block.proofs.Ends.{amid-stands, outside-paired, end-unclosed, end-refused, end-made, end-full}
use Rattle.sifc_block.proofs.block.end_block.Goals as goal

pub expect-requires : goal.expect-requires
expect-requires c = amid-stands c.requires.0

pub returns-in_err-expect : goal.returns-in_err-expect
returns-in_err-expect c = end-unclosed c.args.body c.args.n c.from_residual.result c.in_err-expect.ensures c.from_residual.ensures

pub with_return-requires : goal.with_return-requires
with_return-requires c = (outside-paired c.requires.0 c.in_ok-expect.ensures.alone c.close_scope.ensures, c.requires.1)

pub returns-in_err-count : goal.returns-in_err-count
returns-in_err-count c =
    end-refused c.args.body c.args.n c.in_ok-expect.ensures c.close_scope.ensures c.from_residual-in_err-count.result c.in_err-count.ensures c.from_residual-in_err-count.ensures

pub push_node-requires : goal.push_node-requires
push_node-requires c = c.in_ok-count.ensures.holds (outside-paired c.requires.0 c.in_ok-expect.ensures.alone c.close_scope.ensures)

pub returns-in_err-push_node : goal.returns-in_err-push_node
returns-in_err-push_node c =
    end-full c.args.body c.args.n c.in_ok-expect.ensures c.close_scope.ensures c.in_ok-count.ensures c.head_word.ensures c.from_residual-in_err-push_node.result c.in_err-push_node.ensures c.from_residual-in_err-push_node.ensures

pub returns : goal.returns
returns c = end-made c.args.body c.args.n c.in_ok-expect.ensures c.close_scope.ensures c.in_ok-count.ensures c.head_word.ensures c.in_ok-push_node.ensures
