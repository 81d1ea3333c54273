use Rattle.std.proofs.Common.{◌≤◌}
use Rattle.sifc_lent.specs.Parts.{toks_in}
use Rattle.sifc_record.proofs.Turn.{Turn}
use Rattle.sifc_record.proofs.Lists.{firsts}
use Rattle.sifc_record.proofs.slice.fill.Given as goal

abbrev pub invariant-loop-i : goal.invariant-loop-i
invariant-loop-i l = (l.i ≤ l.n) × Turn (firsts (toks_in l.words.toks) l.words.places.now l.words.reasons.now) l.fn.errors l.i l.errors
