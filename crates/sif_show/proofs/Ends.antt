-- The bytes beside the digits end a number.
use Rattle.std.specs.Prelude.{ℕ, ◌<◌, ◌≡◌, refl, false, leb}
use Rattle.std.proofs.lemmas.Bool.{lt-leb}
use Rattle.sifc_word.specs.Base.{within}
use Rattle.sifc_word.specs.BaseLaws.{and-false}
use Rattle.sif_show.specs.Entries.{goes}

-- A byte below the digits, and one above them.
pub goes-below : (v b : ℕ) → b < 48 → goes v b ≡ false
unfolding goes within
goes-below v b h = rw (lt-leb 48 b h) refl

pub goes_above : (v b : ℕ) → 57 < b → goes v b ≡ false
unfolding goes within
goes_above v b h = rw (lt-leb b 57 h, and-false (leb 48 b)) refl
