use Rattle.sifc_value.proofs.Scanned.{Scanned}
use Rattle.sifc_value.proofs.digits.Given as goal

abbrev pub invariant-loop-next : goal.invariant-loop-next
invariant-loop-next l = Scanned l.s l.from l.end l.before l.number l.scale l.next
