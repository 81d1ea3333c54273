use mathlib.Core.Path.{refl}
use borrow.Author.Tests.{eq-eqb, ne_eqb}
use Rattle.sifc_word.specs.Base.{if◌then◌otherwise◌}
use Rattle.sifc_tokens.specs.Place.{next_place}
use Rattle.sifc_tokens.proofs.place.next_place.Goals as goal

pub returns-then-b-eq10 : goal.returns-then-b-eq10
unfolding next_place if◌then◌otherwise◌
returns-then-b-eq10 c = rw (eq-eqb c.args.b 10 c.if-b-eq10.true) refl

pub returns : goal.returns
unfolding next_place if◌then◌otherwise◌
returns c = rw (ne_eqb c.args.b 10 c.if-b-eq10.false) refl
