use Rattle.std.proofs.Common.{refl, eq-eqb, ne_eqb}
use Rattle.sifc_def.specs.Read.{even as even_of}
use Rattle.sifc_lent.proofs.entry.even.Goals as goal
use Rattle.sifc_lent.proofs.entry.even.Goals.{then-offs-words-via-then-offs-words, then-offs-words-via-else-offs-words+then-heads-loads}

pub returns-then-offs-words : goal.returns-then-offs-words
unfolding even_of
returns-then-offs-words c =
    elim c.then-offs-words.branch [
      | then-offs-words-via-then-offs-words w ↦ rw (ne_eqb _ _ w.if-offs-words.true) refl
      | then-offs-words-via-else-offs-words+then-heads-loads w ↦ rw (eq-eqb _ _ w.if-offs-words.false, ne_eqb _ _ w.if-heads-loads.true) refl
    ]

pub returns : goal.returns
unfolding even_of
returns c = rw (eq-eqb _ _ c.if-offs-words.false, eq-eqb _ _ c.if-heads-loads.false) refl
