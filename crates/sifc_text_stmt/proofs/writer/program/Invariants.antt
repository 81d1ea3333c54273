use Rattle.std.proofs.Common.{◌-◌}
use Rattle.sifc_put.specs.Post.{one, row_l}
use Rattle.sifc_put.proofs.Frame.{Part}
use Rattle.sifc_text_stmt.specs.Kinds.{line_l, program_l}
use Rattle.sifc_text_stmt.proofs.writer.program.Given as goal

abbrev pub invariant-loop : goal.invariant-loop
invariant-loop l = Part program_l (one (row_l line_l (l.count - l.counter))) l.fn.w l.w
