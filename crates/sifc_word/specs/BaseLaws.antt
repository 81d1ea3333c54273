-- Laws of the small tests and lists of Base.antt, and of a table's rule, which one computed test proves at every entry.
use Rattle.std.specs.Prelude.{ℕ, zero, suc, ◌+◌, ◌≤◌, ◌<◌, ◌≡◌, refl, List, [], ◌∷◌, ◌++◌, Bool, true, false, ◌&&◌, ◌||◌, not, T, eqb, take, drop, length, get_or}
use Rattle.std.proofs.Common.{sym, ap, ◌∙◌, subst, add-zero, zero-add, add-suc, suc-add, le_of_suc-le-suc, not-suc-le-zero, length-drop, drop_of_length-le, drop-cons, eq-eqb, ne_eqb}
use native.Mathlib.Omega.{arith}
use Rattle.sifc_word.specs.Base.{if◌then◌otherwise◌, same, span}

pub and_left : (p q : Bool) → T (p && q) → T p
and_left true q t = tt
and_left false q t = absurd t

pub and_right : (p q : Bool) → T (p && q) → T q
and_right true q t = t
and_right false q t = absurd t

pub or-false : (b : Bool) → (b || false) ≡ b
or-false true = refl
or-false false = refl

pub and-false : (b : Bool) → (b && false) ≡ false
and-false true = refl
and-false false = refl

pub true_of : (b : Bool) → T b → b ≡ true
true_of true t = refl
true_of false t = absurd t

pub false_of : (b : Bool) → T (not b) → b ≡ false
false_of true t = absurd t
false_of false t = refl

-- what holds of both branches, each under its test, holds of the choice
pub if-either : {A : Type 0} (P : A → Type 0) (q : Bool) (x y : A) → (q ≡ true → P x) → (q ≡ false → P y) → P (if q then x otherwise y)
unfolding if◌then◌otherwise◌
if-either P true x y f g = f refl
if-either P false x y f g = g refl

-- A table's rule. The test f passes at each entry and its index, counted from i.
unfoldable pub every : (ℕ → ℕ → Bool) → ℕ → List ℕ → Bool
every f i [] = true
every f i (x ∷ xs) = f i x && every f (suc i) xs

every-from : (f : ℕ → ℕ → Bool) (xs : List ℕ) (i : ℕ) → T (every f i xs) → (k : ℕ) → k < length xs → T (f (i + k) (get_or xs k 0))
unfolding every
every-from f [] i t k h = absurd (not-suc-le-zero h)
every-from f (x ∷ xs) i t zero h = subst (λ (m : ℕ). T (f m x)) (sym (add-zero i)) (and_left (f i x) (every f (suc i) xs) t)
every-from f (x ∷ xs) i t (suc k) h =
    subst (λ (m : ℕ). T (f m (get_or xs k 0))) (suc-add i k ∙ sym (add-suc i k))
    (every-from f xs (suc i) (and_right (f i x) (every f (suc i) xs) t) k (le_of_suc-le-suc h))

-- So it passes at every index.
pub every-at : (f : ℕ → ℕ → Bool) (xs : List ℕ) → T (every f 0 xs) → (k : ℕ) → k < length xs → T (f k (get_or xs k 0))
every-at f xs t k h = subst (λ (m : ℕ). T (f m (get_or xs k 0))) (zero-add k) (every-from f xs 0 t k h)

-- A run of bytes that pass a test is no longer than the bytes.
pub span-le : (p : ℕ → Bool) (s : List ℕ) → span p s ≤ length s
unfolding span
span-le p [] = omega arith
span-le p (b ∷ bs) = go (p b) (span-le p bs)
  where
    go : (q : Bool) → span p bs ≤ length bs → (elim q as (λ z. ℕ) [ true ↦ suc (span p bs) | false ↦ 0 ]) ≤ suc (length bs)
    go true h = omega arith
    go false h = omega arith

pub rest_of : (p : ℕ → Bool) (bs : List ℕ) → span p bs + length (drop (span p bs) bs) ≡ length bs
rest_of p bs = let l = length-drop (span p bs) bs in let h = span-le p bs in omega arith

pub span-yes : (p : ℕ → Bool) (b : ℕ) (bs : List ℕ) → p b ≡ true → span p (b ∷ bs) ≡ suc (span p bs)
unfolding span
span-yes p b bs h = rw (h, span) refl

pub span-no : (p : ℕ → Bool) (b : ℕ) (bs : List ℕ) → p b ≡ false → span p (b ∷ bs) ≡ 0
unfolding span
span-no p b bs h = rw (h, span) refl

-- what passes the test is found again, however it goes on
pub span-again : (p : ℕ → Bool) (bs : List ℕ) (c : ℕ) (r : List ℕ) → p c ≡ false → span p (take (span p bs) bs ++ (c ∷ r)) ≡ span p bs
span-again p [] c r e = unfold span in span-no p c r e
span-again p (b ∷ bs) c r e = go (p b) refl (span-again p bs c r e)
  where
    go : (q : Bool) → p b ≡ q → span p (take (span p bs) bs ++ (c ∷ r)) ≡ span p bs → span p (take (span p (b ∷ bs)) (b ∷ bs) ++ (c ∷ r)) ≡ span p (b ∷ bs)
    go true h ih = rw (span-yes p b bs h, span-yes p b (take (span p bs) bs ++ (c ∷ r)) h) (ap suc ih)
    go false h ih = rw (span-no p b bs h) (span-no p c r e)

pub length-span : (p : ℕ → Bool) (bs : List ℕ) → length (take (span p bs) bs) ≡ span p bs
unfolding span
length-span p [] = refl
length-span p (b ∷ bs) = go (p b) (length-span p bs)
  where
    go : (q : Bool) → length (take (span p bs) bs) ≡ span p bs → length (take (elim q as (λ z. ℕ) [ true ↦ suc (span p bs) | false ↦ 0 ]) (b ∷ bs)) ≡ (elim q as (λ z. ℕ) [ true ↦ suc (span p bs) | false ↦ 0 ])
    go true h = ap suc h
    go false h = refl

-- what ends a run fails the test
pub span-stop : (p : ℕ → Bool) (bs : List ℕ) (c : ℕ) (r : List ℕ) → drop (span p bs) bs ≡ c ∷ r → p c ≡ false
span-stop p [] c r e = absurd (let z : ◌≡◌ {A = ℕ} 0 1 = unfold span in cc in let y : ⊥ = omega arith in y)
span-stop p (b ∷ bs) c r e = go (p b) refl (span-stop p bs c r)
  where
    go : (q : Bool) → p b ≡ q → (drop (span p bs) bs ≡ c ∷ r → p c ≡ false) → p c ≡ false
    go true h ih = ih (rw (span-yes p b bs h) at e)
    go false h ih = let z : b ∷ bs ≡ c ∷ r = rw (span-no p b bs h) at e in let y : b ≡ c = cc in ap p (sym y) ∙ h

-- A run from index i on, one byte at a time.
pub span-at-yes : (p : ℕ → Bool) (s : List ℕ) (i : ℕ) → i < length s → p (get_or s i 0) ≡ true → span p (drop i s) ≡ suc (span p (drop (suc i) s))
span-at-yes p s i h e = rw (drop-cons s i 0 h) (span-yes p (get_or s i 0) (drop (suc i) s) e)

pub span-at-no : (p : ℕ → Bool) (s : List ℕ) (i : ℕ) → i < length s → p (get_or s i 0) ≡ false → span p (drop i s) ≡ 0
span-at-no p s i h e = rw (drop-cons s i 0 h) (span-no p (get_or s i 0) (drop (suc i) s) e)

pub span-at-end : (p : ℕ → Bool) (s : List ℕ) (i : ℕ) → length s ≤ i → span p (drop i s) ≡ 0
unfolding span
span-at-end p s i h = rw (drop_of_length-le s h) refl

pub span-at-le : (p : ℕ → Bool) (s : List ℕ) (i : ℕ) → i ≤ length s → i + span p (drop i s) ≤ length s
span-at-le p s i h = let l = length-drop i s in let k = span-le p (drop i s) in omega arith

-- Two byte strings of different length are not the same.
pub same-lengths : (a b : List ℕ) → (length a ≡ length b → ⊥) → same a b ≡ false
unfolding same
same-lengths [] [] h = absurd (h refl)
same-lengths [] (y ∷ ys) h = refl
same-lengths (x ∷ xs) [] h = refl
same-lengths (x ∷ xs) (y ∷ ys) h = rw (same-lengths xs ys (λ e. h (ap suc e))) (and-false (eqb x y))

-- Two byte strings from index i on, one byte at a time.
pub same-at-yes : (a b : List ℕ) (i : ℕ) → i < length a → i < length b → get_or a i 0 ≡ get_or b i 0 → same (drop i a) (drop i b) ≡ same (drop (suc i) a) (drop (suc i) b)
unfolding same
same-at-yes a b i h k e = rw (drop-cons a i 0 h, drop-cons b i 0 k) (rw (eq-eqb (get_or a i 0) (get_or b i 0) e) refl)

pub same-at-no : (a b : List ℕ) (i : ℕ) → i < length a → i < length b → (get_or a i 0 ≡ get_or b i 0 → ⊥) → same (drop i a) (drop i b) ≡ false
unfolding same
same-at-no a b i h k e = rw (drop-cons a i 0 h, drop-cons b i 0 k) (rw (ne_eqb (get_or a i 0) (get_or b i 0) e) refl)

pub same-at-end : (a b : List ℕ) (i : ℕ) → length a ≤ i → length b ≤ i → same (drop i a) (drop i b) ≡ true
unfolding same
same-at-end a b i h k = rw (drop_of_length-le a h, drop_of_length-le b k) refl
