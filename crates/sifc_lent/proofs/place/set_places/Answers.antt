use Rattle.std.proofs.Common.{refl, arith}
use Rattle.sifc_lent.proofs.Spots.{placing, placing-long, placing-more, placed, place-small}
use Rattle.sifc_lent.proofs.place.set_places.Goals as goal

pub loop-i-init : goal.loop-i-init
loop-i-init c = placing _ _ _ _

pub offset_bounds-places-i : goal.offset_bounds-places-i
offset_bounds-places-i c = omega (arith, placing-long c.loop-i.invariant c.requires.1, c.requires.1, c.loop-i-test)

pub bounds-places-i : goal.bounds-places-i
bounds-places-i c = omega (arith, placing-long c.loop-i.invariant c.requires.1, c.requires.1)

pub spot_at-spot-requires : goal.spot_at-spot-requires
spot_at-spot-requires c = c.loop-i.invariant.reached

pub token_place-place-requires : goal.token_place-place-requires
token_place-place-requires c = (c.requires.0, c.spot_at-spot.ensures)

pub place_word-requires : goal.place_word-requires
place_word-requires c = place-small _ _ c.requires.0 c.token_place-place.ensures

pub offset_bounds-places-i-in-loop-i : goal.offset_bounds-places-i-in-loop-i
offset_bounds-places-i-in-loop-i c = omega (arith, placing-long c.loop-i.invariant c.requires.1, c.requires.1)

pub bounds-places-i-in-loop-i : goal.bounds-places-i-in-loop-i
bounds-places-i-in-loop-i c = omega (arith, placing-long c.loop-i.invariant c.requires.1, c.requires.1)

pub loop-i-preserved : goal.loop-i-preserved
loop-i-preserved c = placing-more c.loop-i.invariant c.requires.1 c.loop-i-test.true refl c.off_at-off.ensures c.spot_at-spot.ensures c.token_place-place.ensures c.place_word.ensures

pub shape_of-places : goal.shape_of-places
shape_of-places c = placing-long c.loop-i.invariant c.requires.1

pub returns : goal.returns
returns c = placed c.loop-i.invariant c.requires.1 (omega arith)
