use Rattle.sifc_step.proofs.Small.{handed, pushed-as, paired}
use Rattle.sifc_declare.proofs.Ends.{free-on, pushed-limited, declared-limited, array-stops, array-ends, array-empty}
use Rattle.sifc_declare.proofs.declare.declare_array.Goals as goal

pub returns-then-n-eq0 : goal.returns-then-n-eq0
returns-then-n-eq0 c =
    let e = c.declare_other.ensures in
    record {
      does = array-empty c.args.i c.args.n c.if-n-eq0.true e.does;
      whatever = λ l. array-empty c.args.i c.args.n c.if-n-eq0.true (e.whatever l);
    }

pub push_node-requires : goal.push_node-requires
push_node-requires c = paired c.requires.0

pub returns-in_err-push_node : goal.returns-in_err-push_node
returns-in_err-push_node c =
    let d = c.in_err-push_node.ensures in
    record {
      does = handed c.from_residual.result (array-stops c.args.i c.args.n c.if-n-eq0.false (pushed-as 0 c.head_word.ensures d.does)) c.from_residual.ensures;
      whatever = λ l. handed c.from_residual.result (array-stops c.args.i c.args.n c.if-n-eq0.false (pushed-as 0 c.head_word.ensures (pushed-limited l d))) c.from_residual.ensures;
    }

pub declare_other-requires-2 : goal.declare_other-requires-2
declare_other-requires-2 c = (free-on c.args.p.now c.push_node.new.self c.in_ok-push_node.ensures.alone (c.in_ok-push_node.ensures.holds (paired c.requires.0)) c.requires.0, c.requires.1)

pub returns : goal.returns
returns c =
    let d = c.in_ok-push_node.ensures in
    let e = c.declare_other-2.ensures in
    record {
      does = array-ends c.args.i c.args.n c.if-n-eq0.false (pushed-as 0 c.head_word.ensures d.does) e.does;
      whatever = λ l. array-ends c.args.i c.args.n c.if-n-eq0.false (pushed-as 0 c.head_word.ensures (pushed-limited l d)) (declared-limited c.args.p.now l d.does.kept.inp e);
    }
