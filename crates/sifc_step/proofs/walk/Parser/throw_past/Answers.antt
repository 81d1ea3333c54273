use Rattle.sifc_step.proofs.Small.{past-refused, past-fails, past-full, stands-on}
use Rattle.sifc_step.proofs.walk.Parser.throw_past.Goals as goal

pub consume-requires : goal.consume-requires
consume-requires c = stands-on c.in-Failed.ensures c.requires.0

pub returns-in_default : goal.returns-in_default
returns-in_default c = rw c.in_default.is (past-full c.args.why c.in_default.ensures)

pub returns-in-Err : goal.returns-in-Err
returns-in-Err c = past-refused c.args.why c.requires.1 c.in-Failed.ensures c.in-Err.ensures

pub returns : goal.returns
returns c = rw c.in-Failed.is (past-fails c.args.why c.requires.1 c.in-Failed.ensures c.in_default-consume.ensures)
