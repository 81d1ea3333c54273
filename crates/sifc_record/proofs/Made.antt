-- What the proofs of the functions that make a record cite.
use Prim.Native.Nat.{ℕ, ◌+◌, ◌/◌, ◌%◌}
use mathlib.Core.Path.{◌≡◌, ap, ◌∙◌}
use mathlib.Core.List.{List, []}
use Rattle.std.specs.Prelude.{Some}
use Rattle.sifc_err.specs.declared.Token.{Token}
use Rattle.sifc_err.specs.declared.parse_err.ParseErrTy.{ParseErrTy}
use Rattle.sifc_def.specs.Why.{Why}
use Rattle.sifc_def.specs.Error.{ty_of}
use Rattle.sifc_lent.specs.Parts.{bare}
use Rattle.sifc_record.specs.Record.{why_by, why_of, record_of}

-- the reason of a word whose number is known
pub why-at : (w n a b : ℕ) → w % 16 ≡ n → a ≡ w / 16 % 65536 → b ≡ w / 1048576 → why_by n a b ≡ why_of w
why-at w n a b e f g = cc

-- a record out of its parts
pub recorded-at : (ts : List Token) (p w a b : ℕ) (t : ParseErrTy Token) (y : Why) → a ≡ p / 65536 → b ≡ p % 65536 → t ≡ ty_of (bare [] ts) y → y ≡ why_of w → record { line = a + 1; pos = b; ty = Some t } ≡ record_of ts p w
recorded-at ts p w a b t y e f g h = let k : t ≡ ty_of (bare [] ts) (why_of w) = g ∙ ap (ty_of (bare [] ts)) h in cc
