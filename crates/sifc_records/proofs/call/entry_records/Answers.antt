use Rattle.std.proofs.lemmas.Result.{err_from_is_err_and}
use Rattle.sifc_records.proofs.Calls.{all_pass, uneven, not-passed}
use Rattle.sifc_records.proofs.call.entry_records.Goals as goal

pub returns-in_err-entry_tests : goal.returns-in_err-entry_tests
returns-in_err-entry_tests c =
    let p = err_from_is_err_and c.from_residual.result c.from_residual.ensures.1 in
    rw (p.1, p.2) (not-passed _ _ _ c.entry_tests.ensures _ c.in_err-entry_tests.was)

pub returns-then-lent-records : goal.returns-then-lent-records
returns-then-lent-records c = all_pass _ _ _ c.entry_tests.ensures c.in_ok-entry_tests.was c.if-lent-records.true

pub returns : goal.returns
returns c = uneven _ _ _ c.entry_tests.ensures c.in_ok-entry_tests.was c.if-lent-records.false
