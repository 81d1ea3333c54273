use mathlib.Core.Path.{sym, ◌∙◌}
use Rattle.std.proofs.lemmas.Result.{err_from_is_err_and}
use Rattle.sifc_lent.specs.Parts.{arrays_of}
use Rattle.sifc_lent.proofs.Kept.{kept-same}
use Rattle.sifc_text.proofs.Calls.{text-on, text-not}
use Rattle.sifc_text.proofs.call.text.Goals as goal

pub returns-in_err-entry_tests : goal.returns-in_err-entry_tests
returns-in_err-entry_tests c =
    let p = err_from_is_err_and c.from_residual.result c.from_residual.ensures.1 in
    rw (p.1, p.2) (kept-same c.args.lent.now, text-not c.args.script.now (arrays_of c.args.lent.now) c.args.text.now c.entry_tests.ensures c.in_err-entry_tests.was)

pub read_and_write-requires : goal.read_and_write-requires
read_and_write-requires c = sym c.entry_tests.ensures ∙ c.in_ok-entry_tests.was

pub returns : goal.returns
returns c = (c.read_and_write.ensures.kept, text-on c.args.script.now (arrays_of c.args.lent.now) c.args.text.now c.entry_tests.ensures c.in_ok-entry_tests.was c.read_and_write.ensures.texts)
