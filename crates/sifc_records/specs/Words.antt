-- What the covered part of the reading call on records is to leave: the call on words, and what it says to who fills the records.
use Rattle.std.specs.Prelude.{ℕ, List, Err, Ok}
use Rattle.sifc_def.specs.Answer.{Reading}
use Rattle.sifc_def.specs.Read.{Arrays, Called, rooms_of, read, answered}
use Rattle.sifc_records.specs.declared.call.Told.{Told}
use Rattle.sifc_records.specs.Records.{entry_records}

-- the four together
abbrev pub told : Reading → ℕ → ℕ → ℕ → Told
told r n m k = record { reading = r; tokens = n; errors = m; from = k }

-- after the tests of entry: the records past the errors are blanked, after a refusal all
abbrev pub told_of : Reading → Told
told_of (Ok m) = told (Ok m) m.tokens m.errors m.errors
told_of (Err r) = told (Err r) 0 0 0

-- what is told, and the arrays afterwards
pub record Kept : Type 0 where
  pub told : Told
  pub arrays : Arrays

-- the two together
abbrev pub kept : Told → Arrays → Kept
kept t a = record { told = t; arrays = a }

-- of what the call on words leaves
abbrev pub kept_of : Called Reading → Kept
kept_of x = kept (told_of x.answer) x.arrays

-- a refusal of the tests of entry leaves each of n records
unfoldable pub read_words : List ℕ → Arrays → ℕ → Kept
read_words s a n = elim (entry_records s a n) [ Err r ↦ kept (told (Err r) 0 0 n) a | Ok _ ↦ kept_of (answered s a (read (rooms_of a) s)) ]
