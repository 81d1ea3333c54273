-- Names by their length and their bytes, as a match on byte strings tests them; and the kinds that have no string of their own.
use Rattle.std.specs.Prelude.{ℕ, suc, ◌≤◌, ◌<◌, ◌≡◌, refl, List, [], ◌∷◌, Bool, true, false, ◌&&◌, ◌||◌, eqb, length, get_or, cond}
use Rattle.std.proofs.Common.{sym, ap, ap₂, ◌∙◌, arith}
use Rattle.std.proofs.lemmas.Bool.Decides.{nat_tests}
use Rattle.std.specs.Cmp.Lexicographic.{pointwise}
use Rattle.sifc_word.specs.Base.{if◌then◌otherwise◌, same}
use Rattle.sifc_word.specs.Reserved.{Word, reserved_words, kind_among, name_kind, is_std_lib_fn}

-- the bytes of w stand in s from index i on
abbrev pub reads : List ℕ → ℕ → List ℕ → Bool
reads [] i s = true
reads (x ∷ xs) i s = eqb x (get_or s i 0) && reads xs (suc i) s

-- s is w, by its length and its bytes
abbrev pub tests : List ℕ → List ℕ → Bool
tests w s = eqb (length s) (length w) && reads w 0 s

shifted : (w : List ℕ) (i y : ℕ) (ys : List ℕ) → reads w i ys ≡ reads w (suc i) (y ∷ ys)
shifted [] i y ys = refl
shifted (x ∷ xs) i y ys = ap (λ b. eqb x (get_or ys i 0) && b) (shifted xs (suc i) y ys)

and-swap : (a b c : Bool) → (a && (b && c)) ≡ (b && (a && c))
and-swap true b c = refl
and-swap false true c = refl
and-swap false false c = refl

longer : (n : ℕ) → eqb (suc n) 0 ≡ false
longer n = grind (arith, nat_tests)

shorter : (n : ℕ) → eqb 0 (suc n) ≡ false
shorter n = grind (arith, nat_tests)

next : (n m : ℕ) → eqb (suc n) (suc m) ≡ eqb n m
next n m = grind (arith, nat_tests)

pub same-reads : (w s : List ℕ) → same w s ≡ tests w s
unfolding same
same-reads [] [] = refl
same-reads [] (y ∷ ys) = rw (longer (length ys)) refl
same-reads (x ∷ xs) [] = rw (shorter (length xs)) refl
same-reads (x ∷ xs) (y ∷ ys) =
    ap (λ b. eqb x y && b) (same-reads xs ys ∙ ap₂ (λ a b. a && b) (sym (next (length ys) (length xs))) (shifted xs 0 y ys)) ∙ and-swap (eqb x y) (eqb (suc (length ys)) (suc (length xs))) (reads xs 1 (y ∷ ys))

-- as `==` on slices compares them
pub same_is : (a b : List ℕ) → pointwise eqb a b ≡ same a b
unfolding same
same_is [] [] = refl
same_is [] (y ∷ ys) = refl
same_is (x ∷ xs) [] = refl
same_is (x ∷ xs) (y ∷ ys) = ap (λ b. eqb x y && b) (same_is xs ys)

pub std_lib_fn_reads : (s : List ℕ) → is_std_lib_fn s ≡ (tests (112 ∷ 114 ∷ 105 ∷ 110 ∷ 116 ∷ []) s || tests (114 ∷ 97 ∷ 110 ∷ 103 ∷ 101 ∷ []) s)
unfolding is_std_lib_fn
std_lib_fn_reads s = ap₂ (λ a b. a || b) (same-reads (112 ∷ 114 ∷ 105 ∷ 110 ∷ 116 ∷ []) s) (same-reads (114 ∷ 97 ∷ 110 ∷ 103 ∷ 101 ∷ []) s)

abbrev kind_by : List Word → List ℕ → ℕ
kind_by [] s = 31
kind_by (w ∷ ws) s = cond (tests w.word s) w.kind (kind_by ws s)

chosen : (p q : Bool) (k m n : ℕ) → p ≡ q → m ≡ n → (if p then k otherwise m) ≡ cond q k n
unfolding if◌then◌otherwise◌
chosen true q k m n e f = rw (← e) refl
chosen false q k m n e f = rw (← e) f

among_reads : (ws : List Word) (s : List ℕ) → kind_among ws s ≡ kind_by ws s
unfolding kind_among
among_reads [] s = refl
among_reads (w ∷ ws) s = chosen (same w.word s) (tests w.word s) w.kind (kind_among ws s) (kind_by ws s) (same-reads w.word s) (among_reads ws s)

-- The kind of a name, by its length: of the words that are as long.
pub of_two : (s : List ℕ) → 2 ≤ length s → length s < 3 → name_kind s ≡ cond (reads (102 ∷ 110 ∷ []) 0 s) 35 (cond (reads (105 ∷ 102 ∷ []) 0 s) 39 (cond (reads (105 ∷ 110 ∷ []) 0 s) 43 31))
unfolding name_kind reserved_words
of_two s h k = let e : length s ≡ 2 = omega arith in among_reads reserved_words s ∙ rw e refl

pub of_three : (s : List ℕ) → 3 ≤ length s → length s < 4 → name_kind s ≡ cond (reads (118 ∷ 97 ∷ 114 ∷ []) 0 s) 34 (cond (reads (102 ∷ 111 ∷ 114 ∷ []) 0 s) 42 31)
unfolding name_kind reserved_words
of_three s h k = let e : length s ≡ 3 = omega arith in among_reads reserved_words s ∙ rw e refl

pub of_four : (s : List ℕ) → 4 ≤ length s → length s < 5 → name_kind s ≡ cond (reads (101 ∷ 108 ∷ 105 ∷ 102 ∷ []) 0 s) 40 (cond (reads (101 ∷ 108 ∷ 115 ∷ 101 ∷ []) 0 s) 41 (cond (reads (116 ∷ 114 ∷ 117 ∷ 101 ∷ []) 0 s) 44 31))
unfolding name_kind reserved_words
of_four s h k = let e : length s ≡ 4 = omega arith in among_reads reserved_words s ∙ rw e refl

pub of_five : (s : List ℕ) → 5 ≤ length s → length s < 6 → name_kind s ≡ cond (reads (116 ∷ 97 ∷ 98 ∷ 108 ∷ 101 ∷ []) 0 s) 37 (cond (reads (97 ∷ 114 ∷ 114 ∷ 97 ∷ 121 ∷ []) 0 s) 38 (cond (reads (102 ∷ 97 ∷ 108 ∷ 115 ∷ 101 ∷ []) 0 s) 45 31))
unfolding name_kind reserved_words
of_five s h k = let e : length s ≡ 5 = omega arith in among_reads reserved_words s ∙ rw e refl

pub of_six : (s : List ℕ) → 6 ≤ length s → length s < 7 → name_kind s ≡ cond (reads (114 ∷ 101 ∷ 116 ∷ 117 ∷ 114 ∷ 110 ∷ []) 0 s) 36 31
unfolding name_kind reserved_words
of_six s h k = let e : length s ≡ 6 = omega arith in among_reads reserved_words s ∙ rw e refl

other : (n k : ℕ) → (n ≡ k → ⊥) → eqb n k ≡ false
other n k h = grind (arith, nat_tests)

of_none : (s : List ℕ) → (length s ≡ 2 → ⊥) → (length s ≡ 3 → ⊥) → (length s ≡ 4 → ⊥) → (length s ≡ 5 → ⊥) → (length s ≡ 6 → ⊥) → name_kind s ≡ 31
unfolding name_kind reserved_words
of_none s a b c d e = among_reads reserved_words s ∙ rw (other (length s) 2 a, other (length s) 3 b, other (length s) 4 c, other (length s) 5 d, other (length s) 6 e) refl

pub of_fewer : (s : List ℕ) → length s < 2 → name_kind s ≡ 31
of_fewer s h = of_none s (λ e. omega arith) (λ e. omega arith) (λ e. omega arith) (λ e. omega arith) (λ e. omega arith)

pub of_more : (s : List ℕ) → 7 ≤ length s → name_kind s ≡ 31
of_more s h = of_none s (λ e. omega arith) (λ e. omega arith) (λ e. omega arith) (λ e. omega arith) (λ e. omega arith)

-- what the check needs where `name_kind` returns
pub ruleset kind_by_length = (nat_tests, of_fewer, of_two, of_three, of_four, of_five, of_six, of_more)
