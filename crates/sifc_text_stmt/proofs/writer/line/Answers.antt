use native.Mathlib.Omega.{arith}
use Rattle.sifc_text_stmt.proofs.Newline.{line-stop, line-done, line-room}
use Rattle.sifc_text_stmt.proofs.writer.line.Goals as goal

pub returns-in_err-stmt : goal.returns-in_err-stmt
returns-in_err-stmt c = line-stop c.in_err-stmt.ensures c.from_residual.ensures.0

pub overflow_sub-w : goal.overflow_sub-w
overflow_sub-w c = omega (arith, line-room c.requires c.in_ok-stmt.ensures)

pub bounds-w-end : goal.bounds-w-end
bounds-w-end c = omega (arith, line-room c.requires c.in_ok-stmt.ensures, c.in_ok-stmt.ensures.goes.long, c.requires.room)

pub returns : goal.returns
returns c = line-done c.requires.room c.in_ok-stmt.ensures
