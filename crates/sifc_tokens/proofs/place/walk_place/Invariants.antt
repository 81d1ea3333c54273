use Rattle.std.proofs.Common.{◌≡◌, ◌+◌}
use Rattle.sifc_tokens.specs.Place.{walked_to}
use Rattle.sifc_tokens.proofs.place.walk_place.Given as goal

abbrev pub invariant-loop-b : goal.invariant-loop-b
invariant-loop-b l = l.at ≡ walked_to l.fn.s (l.from + l.b-index)
