use mathlib.Core.Path.{refl}
use Rattle.std.proofs.Common.{rules}
use Rattle.sifc_text_stmt.specs.Kinds.{program_l}
use Rattle.sifc_write.proofs.Whole.{no_room, fronts}
use Rattle.sifc_write.proofs.write.write_tree.Goals as goal

pub returns-in-Ok : goal.returns-in-Ok
returns-in-Ok c = let g = c.program.ensures.goes.buffer in fronts program_l refl c.in-Ok.ensures (search rules)

pub returns-in-Err : goal.returns-in-Err
returns-in-Err c = let g = c.program.ensures.goes.buffer in no_room program_l refl c.in-Err.ensures (search rules)
