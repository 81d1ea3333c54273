use Rattle.std.proofs.Common.{rules}
use Rattle.sifc_lex.specs.Lex.{in_str}
use Rattle.sifc_lex.proofs.Tests.{in_str_is}
use Rattle.sifc_lex.proofs.Runs.{str-more, str-none}
use Rattle.sifc_lex.proofs.lex.lex_str.Goals as goal

pub returns-then-n-rest : goal.returns-then-n-rest
returns-then-n-rest c = str-more c.args.rest.now c.run-n.result (c.run-n.ensures.run in_str (λ b r h p. search (rules, in_str_is))) c.if-n-rest.true

pub returns : goal.returns
returns c = str-none c.args.rest.now c.run-n.result (c.run-n.ensures.run in_str (λ b r h p. search (rules, in_str_is))) c.if-n-rest.false
