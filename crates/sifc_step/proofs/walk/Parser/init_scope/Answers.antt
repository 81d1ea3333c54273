use Rattle.std.specs.Prelude.{refl}
use Rattle.sifc_step.proofs.Small.{scoped}
use Rattle.sifc_step.proofs.walk.Parser.init_scope.Goals as goal

pub returns : goal.returns
returns c = record { does = λ lt. scoped lt; alone = refl }
