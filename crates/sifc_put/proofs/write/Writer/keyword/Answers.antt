use mathlib.Core.Path.{refl}
use Rattle.sifc_put.proofs.Stores.{worded-placed}
use Rattle.sifc_put.proofs.Commas.{placed-writes}
use Rattle.sifc_put.proofs.write.Writer.keyword.Goals as goal

pub returns : goal.returns
returns c = placed-writes {p = c.args.self.now} c.requires refl refl (worded-placed c.args.self.now.text.now c.args.word.now c.args.self.now.at c.place.ensures c.if-self-word.false c.requires)
