use Rattle.std.specs.Prelude.{false}
use Rattle.std.proofs.Common.{arith}
use Rattle.sifc_def.specs.State.{push, set_nodes, without}
use Rattle.sifc_def.specs.Expr.{assign_array}
use Rattle.sifc_step.proofs.Steps.{begin, go, last}
use Rattle.sifc_step.proofs.Small.{pushed-as}
use Rattle.sifc_name.proofs.name.assign_array.Goals as goal

pub returns : goal.returns
unfolding assign_array
returns c =
    let p0 = begin 0 (λ x. assign_array x c.args.slot) c.requires in
    let p1 = go (λ x. set_nodes x (without c.args.slot)) _ p0 c.take_out.ensures in
    last (λ x. push x 19 false 3 0) (λ x. assign_array x c.args.slot) p1 (omega arith) (pushed-as 0 c.head_word.ensures c.push_node.ensures.does)
