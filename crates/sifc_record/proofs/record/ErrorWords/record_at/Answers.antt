use mathlib.Core.Path.{refl}
use Rattle.sifc_lent.specs.Parts.{toks_in}
use Rattle.sifc_record.proofs.Made.{recorded-at}
use Rattle.sifc_record.proofs.record.ErrorWords.record_at.Goals as goal

pub returns : goal.returns
returns c = recorded-at (toks_in c.args.self.now.toks) _ _ _ _ _ _ refl refl c.ty_of-ty.ensures c.why_of-why.ensures
