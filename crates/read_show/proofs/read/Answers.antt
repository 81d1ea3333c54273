use mathlib.Core.Path.{sym, ◌∙◌}
use Rattle.read_show.specs.Listing.{listed-long, listed-short}
use Rattle.read_show.proofs.read.Goals as goal

pub returns-then-script-gt-MOST-clause-answer : goal.returns-then-script-gt-MOST-clause-answer
returns-then-script-gt-MOST-clause-answer c = sym (listed-long _ _ c.if-script-gt-MOST.true)

pub returns-clause-answer : goal.returns-clause-answer
returns-clause-answer c = c.reading.ensures.1 ∙ sym (listed-short _ _ c.if-script-gt-MOST.false)
