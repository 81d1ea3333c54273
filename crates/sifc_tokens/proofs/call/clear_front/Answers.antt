use Rattle.sifc_tokens.proofs.Clear.{front-cleared}
use Rattle.sifc_tokens.proofs.call.clear_front.Goals as goal

pub returns : goal.returns
returns c = front-cleared c.args.a.now c.clear_part.new.part c.args.n c.requires c.clear_part.ensures
