use Rattle.std.proofs.Common.{arith}
use Rattle.sifc_value.proofs.Worked.{deep-far, deep-near}
use Rattle.sifc_value.proofs.decimal.Split.deeper.Goals as goal

pub returns-then-self-lt-ROOM-clause-deeper : goal.returns-then-self-lt-ROOM-clause-deeper
returns-then-self-lt-ROOM-clause-deeper c =
    let split = c.args.self in
    let r = c.step.result in
    deep-far split.five split.whole split.rest split.shift r.whole r.rest r.shift c.step.ensures.stepped (omega arith)

pub returns-clause-deeper : goal.returns-clause-deeper
returns-clause-deeper c =
    let split = c.args.self in
    let r = c.step-2.result in
    deep-near split.five split.whole split.rest split.shift r.whole r.rest r.shift c.step-2.ensures.stepped (omega arith) (omega arith)
