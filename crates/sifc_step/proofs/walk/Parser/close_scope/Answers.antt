use Rattle.std.specs.Prelude.{refl}
use Rattle.sifc_step.proofs.Small.{unscoped}
use Rattle.sifc_step.proofs.walk.Parser.close_scope.Goals as goal

pub returns : goal.returns
returns c = rw c.saturating_sub-self.ensures (record { does = unscoped; alone = refl })
