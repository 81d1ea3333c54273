use Rattle.sifc_step.proofs.Small.{put-is, put-stops}
use Rattle.sifc_step.proofs.walk.Parser.store_name.Goals as goal

pub returns-in_err-self : goal.returns-in_err-self
returns-in_err-self c = put-stops c.args.i c.args.what c.from_residual.result c.store.auto.symbols c.in_err-self.ensures c.from_residual.ensures

pub returns : goal.returns
returns c = put-is c.args.i c.args.what c.store.auto.symbols c.in_ok-self.ensures
