-- The record of an error out of its two words, and the records of a slice. "Errors go to a lent slice of error records."
use Rattle.std.specs.Prelude.{ℕ, ◌+◌, ◌-◌, ◌/◌, ◌%◌, ◌≤◌, ◌<◌, List, [], ◌∷◌, ◌++◌, eqb, length, take, drop, replicate, Some, None}
use Rattle.sifc_err.specs.declared.Token.{Token}
use Rattle.sifc_err.specs.declared.parse_err.ParseErr.{ParseErr}
use Rattle.sifc_word.specs.Base.{if◌then◌otherwise◌}
use Rattle.sifc_def.specs.Why.{Why}
use Rattle.sifc_err.specs.declared.parse_err.ParseErrTy.TheVariants.{InvalidIdent, InvalidTkn, InvalidTknMsg, InvalidAssign, InvalidForStmt, InvalidIfStmt, TknMismatch, FnParmCntExceeded, WrongFnParmCnt, UndeclSym, UnassignedVar, ExpectedIdent}
use Rattle.sifc_def.specs.Error.{ty_of}
use Rattle.sifc_lent.specs.Parts.{bare}

-- "error records blank: line 0, column 0, no reason"
abbrev pub blank_err : ParseErr
blank_err = record { line = 0; pos = 0; ty = None }

-- ── the record of an error's two words ──

-- reason number 2: a token, or a message, which is not 0
unfoldable pub invalid_tkn : ℕ → ℕ → Why
invalid_tkn a b = if eqb b 0 then InvalidTkn a otherwise InvalidTknMsg b

-- why, by the reason's number and what it carries
unfoldable pub why_by : ℕ → ℕ → ℕ → Why
why_by n a b =
    if eqb n 1 then InvalidIdent a
    otherwise if eqb n 2 then invalid_tkn a b
    otherwise if eqb n 3 then InvalidAssign a
    otherwise if eqb n 4 then InvalidForStmt
    otherwise if eqb n 5 then InvalidIfStmt
    otherwise if eqb n 6 then TknMismatch b a
    otherwise if eqb n 7 then FnParmCntExceeded a
    otherwise if eqb n 8 then WrongFnParmCnt a b
    otherwise if eqb n 9 then UndeclSym a
    otherwise if eqb n 10 then UnassignedVar a
    otherwise ExpectedIdent a

-- the second word is reason + 16 × first + 2^20 × second
abbrev pub why_of : ℕ → Why
why_of w = why_by (w % 16) (w / 16 % 65536) (w / 1048576)

-- the first word is 65536 × (line - 1) + column
abbrev pub record_of : List Token → ℕ → ℕ → ParseErr
record_of ts p w = record { line = p / 65536 + 1; pos = p % 65536; ty = Some (ty_of (bare [] ts) (why_of w)) }

-- the records of two lists of words
unfoldable pub records_in : List Token → List ℕ → List ℕ → List ParseErr
records_in ts [] ws = []
records_in ts (p ∷ ps) [] = []
records_in ts (p ∷ ps) (w ∷ ws) = record_of ts p w ∷ records_in ts ps ws

-- what is asked of the words of error i: they are there
pub record Readable (ps rs : List ℕ) (i : ℕ) : Type 0 where
  pub place : i < length ps
  pub reason : i < length rs

-- ── the slice ──

-- every record from one on is blank
unfoldable pub blank_from : ℕ → List ParseErr → List ParseErr
blank_from from rs = take from rs ++ replicate (length rs - from) blank_err

-- the first n records are those of the words, and every record from one on is blank
unfoldable pub filled_of : List Token → List ℕ → List ℕ → ℕ → ℕ → List ParseErr → List ParseErr
filled_of ts ps ws n from rs = blank_from from (records_in ts (take n ps) (take n ws) ++ drop n rs)

-- what is asked for that: the words of n errors and room for their records are there
pub record Fillable (ps rs : List ℕ) (n from len : ℕ) : Type 0 where
  pub places : n ≤ length ps
  pub reasons : n ≤ length rs
  pub used : n ≤ from
  pub room : from ≤ len
