use borrow.Author.Tests.{eq-eqb, ne_eqb}
use Rattle.sifc_word.specs.Base.{if◌then◌otherwise◌}
use Rattle.sifc_record.specs.Record.{invalid_tkn}
use Rattle.sifc_record.proofs.record.invalid_tkn.Goals as goal

pub returns-then-second-eq0 : goal.returns-then-second-eq0
unfolding invalid_tkn if◌then◌otherwise◌
returns-then-second-eq0 c = simp (eq-eqb _ 0 c.if-second-eq0.true)

pub returns-else-second-eq0 : goal.returns-else-second-eq0
unfolding invalid_tkn if◌then◌otherwise◌
returns-else-second-eq0 c = simp (ne_eqb _ 0 c.if-second-eq0.false)
