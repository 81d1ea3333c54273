use native.Mathlib.Omega.{arith}
use Rattle.sifc_symtab.proofs.Words.{opening, opening-more, opening-end}
use Rattle.sifc_symtab.proofs.symtab.open.Goals as goal

pub loop-b-init : goal.loop-b-init
loop-b-init c = opening _ _

pub overflow_mul-symbols : goal.overflow_mul-symbols
overflow_mul-symbols c = omega (arith, c.buckets-count.ensures)

pub overflow_add-symbols : goal.overflow_add-symbols
overflow_add-symbols c = omega (arith, c.buckets-count.ensures)

pub offset_bounds-symbols-b : goal.offset_bounds-symbols-b
offset_bounds-symbols-b c = omega (arith, c.buckets-count.ensures)

pub bounds-symbols-b : goal.bounds-symbols-b
bounds-symbols-b c = omega (arith, c.buckets-count.ensures)

pub loop-b-preserved : goal.loop-b-preserved
loop-b-preserved c = opening-more c.loop-b.invariant (omega (arith, c.buckets-count.ensures))

pub shape_of-symbols : goal.shape_of-symbols
shape_of-symbols c = c.loop-b.invariant.long

pub returns : goal.returns
returns c = opening-end c.loop-b.invariant (omega (arith, c.buckets-count.ensures))
