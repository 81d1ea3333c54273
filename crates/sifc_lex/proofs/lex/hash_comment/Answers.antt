use Rattle.std.proofs.Common.{rules}
use Rattle.sifc_lex.specs.Lex.{in_line}
use Rattle.sifc_lex.proofs.Tests.{in_line_is}
use Rattle.sifc_lex.proofs.Runs.{hash-run}
use Rattle.sifc_lex.proofs.lex.hash_comment.Goals as goal

pub returns : goal.returns
returns c = hash-run c.args.rest.now c.run.result (c.run.ensures.run in_line (λ b r h p. search (rules, in_line_is)))
