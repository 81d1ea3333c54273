use native.Mathlib.Omega.{arith}
use Prim.Native.Nat.{◌+◌, ◌-◌}
use Rattle.sifc_put.proofs.Frame.{spot, put, stop}
use Rattle.sifc_put.proofs.Rows.{recounted, next-row, no_row}
use Rattle.sifc_text_stmt.specs.Kinds.{line_l}
use Rattle.sifc_text_stmt.proofs.Forms.{lines-part, line-spot}
use Rattle.sifc_text_stmt.proofs.writer.program.Goals as goal

pub loop-init : goal.loop-init
loop-init c = recounted line_l (c.children-count.result - 0) (omega arith) (lines-part c.args.w.now c.children-count.ensures)

pub line-requires : goal.line-requires
line-requires c = line-spot c.loop.w (spot c.requires (next-row line_l (c.children-count.result - c.loop.counter) (c.children-count.result - (c.loop.counter + 1)) (omega (arith, c.loop-test.true)) c.loop.invariant))

pub returns-in_err-line : goal.returns-in_err-line
returns-in_err-line c = stop (next-row line_l (c.children-count.result - c.loop.counter) (c.children-count.result - (c.loop.counter + 1)) (omega (arith, c.loop-test.true)) c.loop.invariant) c.in_err-line.ensures c.from_residual.ensures.0

pub loop-preserved : goal.loop-preserved
loop-preserved c = put c.requires (next-row line_l (c.children-count.result - c.loop.counter) (c.children-count.result - (c.loop.counter + 1)) (omega (arith, c.loop-test.true)) c.loop.invariant) c.in_ok-line.ensures

pub returns : goal.returns
returns c = no_row line_l (c.children-count.result - c.loop.counter) (omega (arith, c.loop-test.false)) c.loop.invariant
