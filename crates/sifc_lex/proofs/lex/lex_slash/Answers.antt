use Rattle.std.proofs.Common.{◌∙◌, rules}
use Rattle.sifc_lex.proofs.Runs.{slash-alone, slash-other, slash-two}
use Rattle.sifc_lex.proofs.lex.lex_slash.Goals as goal

pub returns-in-47 : goal.returns-in-47
returns-in-47 c = c.slash_comment.ensures ∙ slash-two c.args.rest.now c.in-47.len_at_least (search rules)

pub returns-in_default : goal.returns-in_default
returns-in_default c = slash-alone c.args.rest.now c.in_default.len_below

pub returns-in_default-2 : goal.returns-in_default-2
returns-in_default-2 c = slash-other c.args.rest.now c.in_default.len_at_least (λ e. search rules)
