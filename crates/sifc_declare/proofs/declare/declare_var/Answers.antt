use Rattle.std.proofs.Common.{arith}
use Rattle.sifc_symtab.specs.Table.{value_of}
use Rattle.sifc_step.proofs.Small.{handed, pushed-as, fits, fits-grown, paired}
use Rattle.sifc_declare.proofs.Ends.{pushed-limited, stored-limited, var-stops, var-ends}
use Rattle.sifc_declare.proofs.declare.declare_var.Goals as goal

pub push_node-requires : goal.push_node-requires
push_node-requires c = paired c.requires.0

pub returns-in_err-push_node : goal.returns-in_err-push_node
returns-in_err-push_node c =
    let d = c.in_err-push_node.ensures in
    record {
      does = handed c.from_residual.result (var-stops c.args.i c.args.n (pushed-as c.args.i c.head_word.ensures d.does)) c.from_residual.ensures;
      whatever = λ l. handed c.from_residual.result (var-stops c.args.i c.args.n (pushed-as c.args.i c.head_word.ensures (pushed-limited l d))) c.from_residual.ensures;
    }

pub store_name-requires : goal.store_name-requires
unfolding value_of
store_name-requires c = fits-grown c.args.p.now c.push_node.new.self c.in_ok-push_node.ensures.alone (fits c.requires.0 (omega (arith, c.requires.1)) c.requires.1)

pub returns : goal.returns
returns c =
    let d = c.in_ok-push_node.ensures in
    let e = c.store_name.ensures in
    record {
      does = var-ends c.args.i c.args.n (pushed-as c.args.i c.head_word.ensures d.does) e.does;
      whatever = λ l. var-ends c.args.i c.args.n (pushed-as c.args.i c.head_word.ensures (pushed-limited l d)) (stored-limited c.args.p.now l d.does.kept.inp e);
    }
