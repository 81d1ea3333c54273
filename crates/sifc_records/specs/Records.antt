-- The reading call over a lent slice of error records, on top of the call on words (Read.antt of sifc_def). "Errors go to a lent slice of error records."
use Rattle.std.specs.Prelude.{ℕ, ◌-◌, List, ◌++◌, map, eqb, length, replicate, Err, Ok}
use Rattle.sifc_tokens.specs.Tokens.{Checked, passed}
use Rattle.sifc_err.specs.declared.Refusal.TheVariants.{Uneven}
use Rattle.sifc_err.specs.declared.parse_err.ParseErr.{ParseErr}
use Rattle.sifc_word.specs.Base.{if◌then◌otherwise◌}
use Rattle.sifc_def.specs.Answer.{Reading}
use Rattle.sifc_def.specs.State.{Ctx}
use Rattle.sifc_def.specs.Error.{parse_err}
use Rattle.sifc_def.specs.Read.{Arrays, rooms_of, ctx_of, Outcome, found, refused, entry, read, Called, called, answered}
use Rattle.sifc_record.specs.Record.{blank_err}
use Rattle.sifc_tokens.specs.Tokens.{passed, Checked}

-- ── the call ──

-- so many blank records
abbrev pub blank_records : ℕ → List ParseErr
blank_records n = replicate n blank_err

-- "All lent elements past the used part" are blank: n in all
unfoldable pub padded_errs : List ParseErr → ℕ → List ParseErr
padded_errs used n = used ++ replicate (n - length used) blank_err

-- refusals 1 to 3: the slice is parallel to the two error word arrays
unfoldable pub entry_records : List ℕ → Arrays → ℕ → Checked
entry_records s a n = elim (entry s a) [ Err r ↦ Err r | Ok _ ↦ if eqb (length a.places) n then passed otherwise Err Uneven ]

-- the records after a reading behind the tests of entry: those of its errors in order, blank past them; all blank after a refusal
unfoldable pub records_of : Ctx → ℕ → Outcome → List ParseErr
records_of c n (found f) = padded_errs (map (parse_err c) f.errs) n
records_of c n (refused r) = blank_records n

-- an answer, the arrays and the records afterwards
pub record Recorded : Type 0 where
  pub answer : Reading
  pub arrays : Arrays
  pub records : List ParseErr

-- the three together
abbrev pub recorded : Reading → Arrays → List ParseErr → Recorded
recorded x a rs = record { answer = x; arrays = a; records = rs }

-- The reading call on records: from the script, the lent arrays and the lent records to the answer, the arrays and the records as it leaves them. "1 to 3 touch
-- nothing".
unfoldable pub reading_records : List ℕ → Arrays → List ParseErr → Recorded
reading_records s a rs =
    elim (entry_records s a (length rs)) [
      | Err r ↦ recorded (Err r) a rs
      | Ok _ ↦ recorded (answered s a (read (rooms_of a) s)).answer (answered s a (read (rooms_of a) s)).arrays (records_of (ctx_of (rooms_of a) s) (length rs) (read (rooms_of a) s))
    ]

-- the answer and the arrays of a call on records
abbrev pub call_of : Recorded → Called Reading
call_of x = called x.answer x.arrays

-- how many errors an answer counts
abbrev pub errors_of : Reading → ℕ
errors_of (Ok m) = m.errors
errors_of (Err r) = 0
