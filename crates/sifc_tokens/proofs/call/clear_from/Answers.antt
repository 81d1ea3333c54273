use Rattle.sifc_tokens.proofs.Clear.{part-cleared}
use Rattle.sifc_tokens.proofs.call.clear_from.Goals as goal

pub returns : goal.returns
returns c = part-cleared c.args.a.now c.clear_part.new.part c.args.n c.requires c.clear_part.ensures
