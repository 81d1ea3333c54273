use Rattle.std.proofs.Common.{◌∙◌, sym}
use Rattle.sifc_lex.proofs.Runs.{sign-known, sign-unknown}
use Rattle.sifc_lex.proofs.lex.one_sign.Goals as goal

pub returns-in-Some : goal.returns-in-Some
returns-in-Some c = sign-known c.args.b c.in-Some.kind (sym c.in-Some.is ∙ c.single_kind.ensures)

pub returns-in-None : goal.returns-in-None
returns-in-None c = sign-unknown c.args.b (sym c.in-None.is ∙ c.single_kind.ensures)
