use native.Mathlib.Omega.{arith}
use Rattle.sifc_lent.proofs.Spots.{spot-inside, spot-ragged, spot-even, spot-line}
use Rattle.sifc_lent.proofs.place.token_place.Goals as goal

pub returns-then-off-script : goal.returns-then-off-script
returns-then-off-script c = spot-inside c.requires.1 c.if-off-script.true

pub overflow_add-result : goal.overflow_add-result
overflow_add-result c = omega (arith, spot-line c.requires.1, c.requires.0)

pub returns-then-place-gt0 : goal.returns-then-place-gt0
returns-then-place-gt0 c = spot-ragged c.requires.1 c.if-off-script.false c.if-place-gt0.true

pub returns : goal.returns
returns c = spot-even c.requires.1 c.if-off-script.false c.if-place-gt0.false
