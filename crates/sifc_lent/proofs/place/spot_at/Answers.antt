use Rattle.std.proofs.Common.{sym, arith}
use Rattle.sifc_tokens.proofs.PlaceLaws.{walked_none}
use Rattle.sifc_lent.proofs.place.spot_at.Goals as goal

pub walk_place-requires : goal.walk_place-requires
walk_place-requires c = (omega arith, omega (arith, c.min-to.ensures), sym (walked_none _))
