use Rattle.std.proofs.Common.{◌≡◌, ℕ, List, ap, ◌∙◌}
use lib.ListN.{replicate}
use Rattle.sifc_err.specs.declared.parse_err.ParseErr.{ParseErr}
use Rattle.sifc_def.specs.Read.{Arrays}
use Rattle.sifc_record.specs.Record.{blank_err}
use Rattle.sifc_records.specs.Records.{Recorded, reading_records, blank_records, call_of}
use Rattle.error_list.proofs.errors.show_errors.Goals as goal

-- the records that are lent are blank
blank : (n : ℕ) (s : List ℕ) (a : Arrays) (x : Recorded) (r : ParseErr) → x ≡ reading_records s a (replicate n r) → r ≡ blank_err → x ≡ reading_records s a (blank_records n)
blank n s a x r e b = e ∙ ap (λ (y : ParseErr). reading_records s a (replicate n y)) b

pub returns-clause-answer : goal.returns-clause-answer
returns-clause-answer g c = ap call_of (blank 1024 _ _ _ _ c.reading_records-said.ensures.1 c.blank-errors.ensures)
