use Rattle.std.proofs.Common.{sym, ◌∙◌}
use Rattle.std.proofs.lemmas.Result.{err_from_is_err_and}
use Rattle.sifc_lent.proofs.Fronts.{entry-passed, entry-uneven, entry-refused}
use Rattle.sifc_lent.proofs.entry.entry.Goals as goal

pub returns-in_err-check_script : goal.returns-in_err-check_script
returns-in_err-check_script c =
    let p = err_from_is_err_and c.from_residual.result c.from_residual.ensures.1 in
    rw (p.1, p.2) (entry-refused _ _ _ (sym c.check_script.ensures ∙ c.in_err-check_script.was))

pub returns-then-even : goal.returns-then-even
returns-then-even c = entry-passed _ _ (sym c.check_script.ensures ∙ c.in_ok-check_script.was) (sym c.even.ensures ∙ c.if-even.true)

pub returns : goal.returns
returns c = entry-uneven _ _ (sym c.check_script.ensures ∙ c.in_ok-check_script.was) (sym c.even.ensures ∙ c.if-even.false)
