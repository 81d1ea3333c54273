use Rattle.sifc_step.proofs.Small.{throw-here}
use Rattle.sifc_step.proofs.walk.Parser.add_error.Goals as goal

pub returns : goal.returns
returns c = throw-here c.add_error_w_pos.ensures
