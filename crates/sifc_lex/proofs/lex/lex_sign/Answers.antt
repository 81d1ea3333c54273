use Rattle.std.proofs.Common.{◌∙◌, sym}
use Rattle.sifc_lex.proofs.Runs.{sign-one, sign-two}
use Rattle.sifc_lex.proofs.lex.lex_sign.Goals as goal

pub returns-in-Some : goal.returns-in-Some
returns-in-Some c = sign-two c.args.rest.now c.args.b c.in-Some.kind (sym c.in-Some.is ∙ c.double_at.ensures)

pub returns-in-None : goal.returns-in-None
returns-in-None c = c.one_sign.ensures ∙ sign-one c.args.rest.now c.args.b (sym c.in-None.is ∙ c.double_at.ensures)
