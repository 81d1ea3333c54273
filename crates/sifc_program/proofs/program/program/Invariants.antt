use Rattle.std.specs.Prelude.{◌-◌, length}
use Rattle.sifc_program.proofs.Programs.{Parsing}
use Rattle.sifc_program.proofs.program.program.Given as goal

abbrev pub invariant-loop-before : goal.invariant-loop-before
invariant-loop-before l = Parsing l.fn.p l.fn.book l.p l.book l.n l.flag

abbrev pub decreases-loop-before : goal.decreases-loop-before
decreases-loop-before l = length l.fn.p.words.now - l.p.at
