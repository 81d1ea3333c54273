use Rattle.std.proofs.Common.{◌∙◌, sym, ap, ◌≤◌, length, rules}
use Rattle.sifc_lex.specs.Bytes.{kind_if_any}
use Rattle.sifc_lex.proofs.Runs.{none-at}
use Rattle.sifc_lex.proofs.lex.double_at.Goals as goal

pub returns-in_err-first : goal.returns-in_err-first
returns-in_err-first c =
    let h : length c.args.rest.now ≤ 0 = search rules in
    c.from_residual.ensures ∙ ap kind_if_any (sym (none-at c.args.rest.now c.args.b h))
