use Rattle.sifc_step.proofs.Small.{top-none, top-some}
use Rattle.sifc_step.proofs.step.top.Goals as goal

pub returns-then-n-eq0 : goal.returns-then-n-eq0
returns-then-n-eq0 c = top-none c.args.n c.args.head.now c.args.load.now c.if-n-eq0.true

pub returns : goal.returns
returns c = top-some c.args.n c.args.head.now c.args.load.now c.if-n-eq0.false
