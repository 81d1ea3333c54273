-- What a listing reads: document 01, "The listing program reads standard input (4,096 bytes at most, else refusal 1)".
use Rattle.std.specs.Prelude.{ℕ, ◌≤◌, ◌<◌, ◌≡◌, refl, List, ltb, length, Err}
use Rattle.std.proofs.Common.{lt-ltb, le-ltb}
use Rattle.sifc_word.specs.Base.{if◌then◌otherwise◌}
use Rattle.sifc_err.specs.declared.Refusal.TheVariants.{LongScript}
use Rattle.sifc_def.specs.Answer.{Reading}
use Rattle.sifc_def.specs.Read.{Arrays, Called, called, reading}

-- the bytes of the longest script that is listed
abbrev pub most : ℕ
most = 4096

-- the answer of a listing, and the arrays as it leaves them: refusal 1 touches nothing
unfoldable pub listed : List ℕ → Arrays → Called Reading
unfolding if◌then◌otherwise◌
listed s a = if ltb most (length s) then called (Err LongScript) a otherwise reading s a

-- A script that is too long is refused, and nothing is touched.
pub listed-long : (s : List ℕ) (a : Arrays) → most < length s → listed s a ≡ called (Err LongScript) a
unfolding listed if◌then◌otherwise◌
listed-long s a h = rw (lt-ltb most (length s) h) refl

-- Any other is read.
pub listed-short : (s : List ℕ) (a : Arrays) → length s ≤ most → listed s a ≡ reading s a
unfolding listed if◌then◌otherwise◌
listed-short s a h = rw (le-ltb most (length s) h) refl
