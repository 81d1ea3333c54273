use Rattle.std.proofs.Common.{refl, sym}
use Rattle.sifc_symtab.specs.Toks.{toks-past-offs, toks-past-words}
use Rattle.sifc_lent.proofs.Fronts.{token-in}
use Rattle.sifc_lent.proofs.error.Toks.token_at.Goals as goal
use Rattle.sifc_lent.proofs.error.Toks.token_at.Goals.{then-i-self-via-then-i-self, then-i-self-via-else-i-self+then-i-self-2}

pub returns-then-i-self : goal.returns-then-i-self
returns-then-i-self c =
    elim c.then-i-self.branch [
      | then-i-self-via-then-i-self w ↦ sym (toks-past-offs _ _ _ w.if-i-self.true)
      | then-i-self-via-else-i-self+then-i-self-2 w ↦ sym (toks-past-words _ _ _ w.if-i-self-2.true)
    ]

pub returns : goal.returns
returns c = token-in _ _ _ _ _ c.if-i-self.false c.if-i-self-2.false refl refl
