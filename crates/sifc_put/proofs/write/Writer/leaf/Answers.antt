use Rattle.sifc_put.proofs.Commas.{leaf-writes}
use Rattle.sifc_put.proofs.write.Writer.leaf.Goals as goal

pub returns : goal.returns
returns c = leaf-writes c.put_token.ensures
