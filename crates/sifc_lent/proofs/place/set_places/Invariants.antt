use Rattle.sifc_lent.proofs.Spots.{Placing}
use Rattle.sifc_lent.proofs.place.set_places.Given as goal

abbrev pub invariant-loop-i : goal.invariant-loop-i
invariant-loop-i l = Placing l.script l.offs l.initial.places l.n l.places l.spot l.i
