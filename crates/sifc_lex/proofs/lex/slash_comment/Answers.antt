use Rattle.std.proofs.Common.{rules}
use Rattle.sifc_lex.specs.Lex.{in_line}
use Rattle.sifc_lex.proofs.Tests.{in_line_is}
use Rattle.sifc_lex.proofs.Runs.{slash-more, slash-none}
use Rattle.sifc_lex.proofs.lex.slash_comment.Goals as goal

pub returns-then-n-rest : goal.returns-then-n-rest
returns-then-n-rest c = slash-more c.args.rest.now c.run-n.result (c.run-n.ensures.run in_line (λ b r h p. search (rules, in_line_is))) c.if-n-rest.true

pub returns : goal.returns
returns c = slash-none c.args.rest.now c.run-n.result (c.run-n.ensures.run in_line (λ b r h p. search (rules, in_line_is))) c.if-n-rest.false
