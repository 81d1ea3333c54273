use Rattle.sifc_step.proofs.Small.{throw-listed, throw-full}
use Rattle.sifc_step.proofs.walk.Parser.add_error_w_pos.Goals as goal

pub returns-then-self : goal.returns-then-self
returns-then-self c = throw-full c.args.why c.requires c.args.place c.if-self.true

pub returns : goal.returns
returns c = throw-listed c.args.why c.requires c.args.place c.if-self.false
