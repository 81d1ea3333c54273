use native.Mathlib.Omega.{arith}
use mathlib.Core.Path.{refl}
use Rattle.sifc_put.proofs.Commas.{token-writes}
use Rattle.sifc_put.proofs.write.Writer.put_token.Goals as goal

pub returns : goal.returns
returns c = token-writes c.args.hi refl refl refl (omega arith) c.keyword.ensures
