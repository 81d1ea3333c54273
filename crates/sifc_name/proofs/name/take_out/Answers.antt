use Rattle.sifc_name.proofs.Names.{shifted, takes-none, takes-out}
use Rattle.sifc_name.proofs.name.take_out.Goals as goal

pub returns-then-m-slot : goal.returns-then-m-slot
returns-then-m-slot c = takes-none c.requires c.args.slot c.if-m-slot.true

pub returns : goal.returns
returns c = takes-out c.requires c.args.slot c.if-m-slot.false (shifted c.copy_within.ensures.by_index.0 c.copy_within.ensures.by_index.1) (shifted c.copy_within-2.ensures.by_index.0 c.copy_within-2.ensures.by_index.1) c.copy_within.ensures.len c.copy_within-2.ensures.len
