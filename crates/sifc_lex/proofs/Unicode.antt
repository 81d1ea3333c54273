-- The classes of the code points 0 to 127 in the Unicode character database, version 15.0.0: White_Space of PropList.txt, Alphabetic of
-- DerivedCoreProperties.txt, the general category Nd of DerivedGeneralCategory.txt. No code point below 128 has two of them. The Rust's
-- char::is_whitespace, is_alphabetic and is_digit(10) go by these (is_digit by 0 to 9 alone, which are all of Nd below 128).
use Rattle.std.specs.Prelude.{ℕ, ◌<◌, ◌≡◌, List, [], ◌∷◌, Bool, eqb, get_or}
use Rattle.std.proofs.Common.{eqb→eq}
use Rattle.sifc_word.specs.Base.{if◌then◌otherwise◌}
use Rattle.sifc_word.specs.BaseLaws.{every, every-at}
use Rattle.sifc_lex.specs.Lex.{white, digit, letter}

-- for each code point: 0 none of the three, 1 White_Space, 2 Alphabetic, 3 Nd
unfoldable pub classes : List ℕ
classes = 0 ∷ 0 ∷ 0 ∷ 0 ∷ 0 ∷ 0 ∷ 0 ∷ 0 ∷ 0 ∷ 1 ∷ 1 ∷ 1 ∷ 1 ∷ 1 ∷ 0 ∷ 0 ∷ 0 ∷ 0 ∷ 0 ∷ 0 ∷ 0 ∷ 0 ∷ 0 ∷ 0 ∷ 0 ∷ 0 ∷ 0 ∷ 0 ∷ 0 ∷ 0 ∷ 0 ∷ 0 ∷ 1 ∷ 0 ∷ 0 ∷ 0 ∷ 0 ∷ 0 ∷ 0 ∷ 0 ∷ 0 ∷ 0 ∷ 0 ∷ 0 ∷ 0 ∷ 0 ∷ 0 ∷ 0 ∷ 3 ∷ 3 ∷ 3 ∷ 3 ∷ 3 ∷ 3 ∷ 3 ∷ 3 ∷ 3 ∷ 3 ∷ 0 ∷ 0 ∷ 0 ∷ 0 ∷ 0 ∷ 0 ∷ 0 ∷ 2 ∷ 2 ∷ 2 ∷ 2 ∷ 2 ∷ 2 ∷ 2 ∷ 2 ∷ 2 ∷ 2 ∷ 2 ∷ 2 ∷ 2 ∷ 2 ∷ 2 ∷ 2 ∷ 2 ∷ 2 ∷ 2 ∷ 2 ∷ 2 ∷ 2 ∷ 2 ∷ 2 ∷ 2 ∷ 2 ∷ 0 ∷ 0 ∷ 0 ∷ 0 ∷ 0 ∷ 0 ∷ 2 ∷ 2 ∷ 2 ∷ 2 ∷ 2 ∷ 2 ∷ 2 ∷ 2 ∷ 2 ∷ 2 ∷ 2 ∷ 2 ∷ 2 ∷ 2 ∷ 2 ∷ 2 ∷ 2 ∷ 2 ∷ 2 ∷ 2 ∷ 2 ∷ 2 ∷ 2 ∷ 2 ∷ 2 ∷ 2 ∷ 0 ∷ 0 ∷ 0 ∷ 0 ∷ 0 ∷ []

-- the class that the tests of Lex.antt give a byte
unfoldable pub class_of : ℕ → ℕ
unfolding white digit letter if◌then◌otherwise◌
class_of b = if white b then 1 otherwise if letter b then 2 otherwise if digit b then 3 otherwise 0

agrees : ℕ → ℕ → Bool
agrees b x = eqb x (class_of b)

-- The tests are the database's classes, at each code point below 128.
pub classes-agree : (b : ℕ) → b < 128 → get_or classes b 0 ≡ class_of b
unfolding agrees classes class_of every
classes-agree b h = eqb→eq (get_or classes b 0) (class_of b) (every-at agrees classes tt b h)
