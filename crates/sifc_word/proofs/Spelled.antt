-- The kinds that have no string of their own, the three ways to spell a token, and where the strings of the kinds begin in the fixed list.
use Rattle.std.specs.Prelude.{ℕ, ◌+◌, ◌-◌, ◌<◌, ◌≤◌, ◌≡◌, refl, List, [], ◌∷◌, Bool, eqb, length, get_or}
use Rattle.std.proofs.Common.{arith, eq-eqb, ne_eqb, eqb→eq}
use Rattle.sifc_word.specs.Base.{if◌then◌otherwise◌, part}
use Rattle.sifc_word.specs.BaseLaws.{every, every-at}
use Rattle.sifc_word.specs.Spelling.{displays, display, display-none, start_of, spelling_of}

none_at : (k n : ℕ) → k ≡ n → display n ≡ [] → display k ≡ []
none_at k n e d = rw e d

none-0 : display 0 ≡ []
unfolding display displays
none-0 = refl

none-31 : display 31 ≡ []
unfolding display displays
none-31 = refl

none-32 : display 32 ≡ []
unfolding display displays
none-32 = refl

none-33 : display 33 ≡ []
unfolding display displays
none-33 = refl

-- A kind with a string of its own is 1 to 30 or 34 to 47.
pub has_none : (k : ℕ) → (0 < k → k < 31 → ⊥) → (33 < k → k < 48 → ⊥) → display k ≡ []
has_none k a b = grind (arith, a, b, none_at k 0, none_at k 31, none_at k 32, none_at k 33, none-0, none-31, none-32, none-33, display-none k)

pub by_str : (s f : List ℕ) (k o l : ℕ) → k ≡ 32 → spelling_of s f k o l ≡ part (o + 1) (l - 2) s
unfolding spelling_of if◌then◌otherwise◌
by_str s f k o l e = rw (eq-eqb k 32 e) refl

pub by_ident : (s f : List ℕ) (k o l : ℕ) → k ≡ 31 → spelling_of s f k o l ≡ part o l s
unfolding spelling_of if◌then◌otherwise◌
by_ident s f k o l e = rw e refl

pub by_val : (s f : List ℕ) (k o l : ℕ) → k ≡ 33 → spelling_of s f k o l ≡ part o l s
unfolding spelling_of if◌then◌otherwise◌
by_val s f k o l e = rw e refl

pub by_fixed : (s f : List ℕ) (k o l : ℕ) → (k ≡ 31 → ⊥) → (k ≡ 32 → ⊥) → (k ≡ 33 → ⊥) → spelling_of s f k o l ≡ part (start_of k) (length (display k)) f
unfolding spelling_of if◌then◌otherwise◌
by_fixed s f k o l a b c = rw (ne_eqb k 32 b, ne_eqb k 31 a, ne_eqb k 33 c) refl

-- what the check needs where `spelling` returns
pub ruleset spelled = (by_str, by_ident, by_val, by_fixed)

-- The table of where each kind's string begins, and that it is right, by one computed test at every kind.
abbrev starts : List ℕ
starts = 0 ∷ 0 ∷ 1 ∷ 2 ∷ 3 ∷ 4 ∷ 5 ∷ 6 ∷ 7 ∷ 8 ∷ 9 ∷ 10 ∷ 11 ∷ 12 ∷ 13 ∷ 14 ∷ 15 ∷ 16 ∷ 17 ∷ 18 ∷ 19 ∷ 20 ∷ 21 ∷ 23 ∷ 25 ∷ 27 ∷ 29 ∷ 31 ∷ 33 ∷ 35 ∷ 37 ∷ 39 ∷ 39 ∷ 39 ∷ 39 ∷ 42 ∷ 44 ∷ 50 ∷ 55 ∷ 60 ∷ 62 ∷ 66 ∷ 70 ∷ 73 ∷ 75 ∷ 79 ∷ 84 ∷ 87 ∷ []

start_right : ℕ → ℕ → Bool
start_right k x = eqb x (start_of k)

start_at : (k : ℕ) → k < 48 → get_or starts k 0 ≡ start_of k
unfolding start_right every start_of
start_at k h = eqb→eq (get_or starts k 0) (start_of k) (every-at start_right starts tt k h)

pub by_start : (f : List ℕ) (k s n : ℕ) → k < 48 → s ≡ get_or starts k 0 → n ≡ length (display k) → part s n f ≡ part (start_of k) (length (display k)) f
by_start f k s n h a b = rw (a, start_at k h, b) refl

pub past_last : (f : List ℕ) (k : ℕ) → 48 ≤ k → part (start_of k) (length (display k)) f ≡ []
past_last f k h = rw (display-none k h) refl

-- what the check needs where `fixed_part` returns
pub ruleset placed = (by_start, past_last)
