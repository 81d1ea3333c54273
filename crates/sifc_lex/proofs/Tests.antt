-- The tests and the tables of Lex.antt, as the code tests a byte.
use Rattle.std.specs.Prelude.{ℕ, ◌≡◌, refl, List, [], ◌∷◌, Bool, true, false, ◌&&◌, ◌||◌, not, eqb, leb, ltb, cond}
use Rattle.std.proofs.lemmas.Bool.Decides.{nat_tests}
use Rattle.sifc_word.specs.Base.{if◌then◌otherwise◌, within}
use Rattle.sifc_lex.specs.Lex.{white, digit, letter, alnum, ascii, in_line, in_str, Sign, singles, doubles, single_kind, double_kind}

pub white_is : (b : ℕ) → white b ≡ ((leb 9 b && leb b 13) || eqb b 32)
unfolding white within
white_is b = refl

pub digit_is : (b : ℕ) → digit b ≡ (leb 48 b && leb b 57)
unfolding digit within
digit_is b = refl

pub letter_is : (b : ℕ) → letter b ≡ ((leb 65 b && leb b 90) || (leb 97 b && leb b 122))
unfolding letter within
letter_is b = refl

pub alnum_is : (b : ℕ) → alnum b ≡ (letter b || digit b)
unfolding alnum
alnum_is b = refl

pub in_line_is : (b : ℕ) → in_line b ≡ not (eqb b 10)
unfolding in_line
in_line_is b = refl

pub in_str_is : (b : ℕ) → in_str b ≡ not (eqb b 34)
unfolding in_str
in_str_is b = refl

pub ascii_is : (b : ℕ) → ascii b ≡ ltb b 128
unfolding ascii
ascii_is b = refl

-- what the check needs where the code tests a byte's class
pub ruleset classes = (nat_tests, white_is, digit_is, letter_is, alnum_is, in_line_is, in_str_is, ascii_is)

chosen : (p : Bool) (k m n : ℕ) → m ≡ n → (if p then k otherwise m) ≡ cond p k n
unfolding if◌then◌otherwise◌
chosen true k m n e = refl
chosen false k m n e = e

abbrev single_by : List Sign → ℕ → ℕ
single_by [] b = 0
single_by (s ∷ ss) b = cond (eqb b s.first) s.kind (single_by ss b)

singles_by : (ss : List Sign) (b : ℕ) → single_kind ss b ≡ single_by ss b
unfolding single_kind
singles_by [] b = refl
singles_by (s ∷ ss) b = chosen (eqb b s.first) s.kind (single_kind ss b) (single_by ss b) (singles_by ss b)

pub singles_are : (b : ℕ) → single_kind singles b ≡ cond (eqb b 40) 1 (cond (eqb b 41) 2 (cond (eqb b 123) 3 (cond (eqb b 125) 4 (cond (eqb b 91) 5 (cond (eqb b 93) 6 (cond (eqb b 59) 7 (cond (eqb b 61) 8 (cond (eqb b 60) 9 (cond (eqb b 62) 10 (cond (eqb b 46) 11 (cond (eqb b 44) 12 (cond (eqb b 33) 13 (cond (eqb b 43) 14 (cond (eqb b 45) 15 (cond (eqb b 42) 16 (cond (eqb b 37) 18 (cond (eqb b 38) 19 (cond (eqb b 124) 20 (cond (eqb b 64) 21 0)))))))))))))))))))
unfolding singles
singles_are b = singles_by singles b

abbrev double_by : List Sign → ℕ → ℕ → ℕ
double_by [] b c = 0
double_by (s ∷ ss) b c = cond (eqb b s.first && eqb c s.second) s.kind (double_by ss b c)

doubles_by : (ss : List Sign) (b c : ℕ) → double_kind ss b c ≡ double_by ss b c
unfolding double_kind
doubles_by [] b c = refl
doubles_by (s ∷ ss) b c = chosen (eqb b s.first && eqb c s.second) s.kind (double_kind ss b c) (double_by ss b c) (doubles_by ss b c)

pub doubles_are : (b c : ℕ) → double_kind doubles b c ≡ cond (eqb b 61 && eqb c 61) 22 (cond (eqb b 60 && eqb c 61) 23 (cond (eqb b 62 && eqb c 61) 24 (cond (eqb b 61 && eqb c 62) 25 (cond (eqb b 33 && eqb c 61) 26 (cond (eqb b 38 && eqb c 38) 27 (cond (eqb b 124 && eqb c 124) 28 (cond (eqb b 91 && eqb c 91) 29 (cond (eqb b 93 && eqb c 93) 30 0))))))))
unfolding doubles
doubles_are b c = doubles_by doubles b c

-- what the check needs where the code looks a sign up
pub ruleset signs = (nat_tests, singles_are, doubles_are)
