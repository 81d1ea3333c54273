use Rattle.sifc_put.proofs.Frame.{fixed-writes}
use Rattle.sifc_put.proofs.Steps.{still, begin}
use Rattle.sifc_put.proofs.Commas.{comma-none, comma-some}
use Rattle.sifc_put.proofs.write.Writer.separator.Goals as goal

pub returns-then-left-eq0 : goal.returns-then-left-eq0
returns-then-left-eq0 c = comma-none c.args.left c.if-left-eq0.true (fixed-writes still (record { by = begin }))

pub returns : goal.returns
returns c = comma-some c.args.left c.if-left-eq0.false c.put_sign.ensures
