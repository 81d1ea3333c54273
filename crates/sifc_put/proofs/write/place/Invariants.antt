use Rattle.std.specs.Prelude.{◌≡◌}
use Rattle.std.proofs.Math.Seq.{paste}
use Rattle.sifc_put.proofs.write.place.Given as goal

abbrev pub invariant-loop-i : goal.invariant-loop-i
invariant-loop-i l = l.part ≡ paste l.initial.part 0 l.word l.i
