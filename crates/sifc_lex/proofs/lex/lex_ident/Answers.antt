use Rattle.std.proofs.Common.{rules}
use borrow.Rule.Slice.PartAt.{part_to_end}
use Rattle.sifc_lex.specs.Lex.{alnum}
use Rattle.sifc_lex.proofs.Tests.{alnum_is}
use Rattle.sifc_lex.proofs.Runs.{ident-run}
use Rattle.sifc_lex.proofs.lex.lex_ident.Goals as goal

pub returns : goal.returns
returns c =
    let n = c.run-n.ensures.run alnum (λ b r h p. search (rules, alnum_is)) in
    ident-run c.args.s.now c.run-n.result c.name_kind.result c.requires (rw (part_to_end c.args.s.now 1) at n) c.name_kind.ensures
