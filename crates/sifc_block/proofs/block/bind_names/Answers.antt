use Rattle.sifc_block.proofs.Bindings.{bind-none}
use Rattle.sifc_block.proofs.block.bind_names.Goals as goal

pub returns-in-Unnamed : goal.returns-in-Unnamed
returns-in-Unnamed c = bind-none c.args.load.now c.requires.0 c.in-Unnamed.is
