use Rattle.std.proofs.Common.{sym, ◌∙◌}
use Rattle.std.proofs.lemmas.Result.{err_from_is_err_and}
use Rattle.sifc_lent.specs.Parts.{arrays_of}
use Rattle.sifc_lent.proofs.EntryLaws.{entered-is}
use Rattle.sifc_lent.proofs.Kept.{kept-same}
use Rattle.sifc_read.proofs.Calls.{read-on, read-not}
use Rattle.sifc_read.proofs.call.reading.Goals as goal

pub returns-in_err-entry_tests : goal.returns-in_err-entry_tests
returns-in_err-entry_tests c =
    let p = err_from_is_err_and c.from_residual.result c.from_residual.ensures.1 in
    rw (p.1, p.2) (kept-same c.args.lent.now, read-not _ (arrays_of c.args.lent.now) c.entry_tests.ensures c.in_err-entry_tests.was)

pub after_entry-requires : goal.after_entry-requires
after_entry-requires c = entered-is _ (arrays_of c.args.lent.now) (sym c.entry_tests.ensures ∙ c.in_ok-entry_tests.was)

pub returns : goal.returns
returns c = (c.after_entry.ensures.kept, read-on _ (arrays_of c.args.lent.now) c.entry_tests.ensures c.in_ok-entry_tests.was c.after_entry.ensures.answer)
