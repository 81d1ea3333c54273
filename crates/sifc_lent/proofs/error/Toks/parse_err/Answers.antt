use Rattle.sifc_symtab.specs.Toks.{toks_of}
use Rattle.sifc_lent.proofs.PartLaws.{parsed-bare}
use Rattle.sifc_lent.proofs.error.Toks.parse_err.Goals as goal

pub returns : goal.returns
returns c = parsed-bare _ (toks_of c.args.self.now.offs.now c.args.self.now.words.now) _ _ _ _ c.token_at-token.ensures c.place_at-place.ensures c.ty_of-ty.ensures
