-- Laws of places: a walk over the script, one byte at a time.
use Rattle.std.specs.Prelude.{ℕ, suc, ◌+◌, ◌≤◌, ◌<◌, ◌≡◌, refl, Bool, true, false, not, eqb, take, length, get_or}
use Rattle.std.proofs.Common.{sym, ap, ap₂, ◌∙◌, arith, zero-add, add-one, lt-ltb, le-ltb, le-leb, length-take, take-suc, take_all}
use mathlib.Core.List.{List, [], ◌∷◌, ◌++◌, reverse, reverse_aux-append}
use Rattle.std.proofs.lemmas.Bool.{lt-leb}
use Rattle.std.proofs.lemmas.List.{length-reverse}
use Rattle.sifc_word.specs.Base.{if◌then◌otherwise◌, span}
use Rattle.sifc_word.specs.BaseLaws.{span-yes, span-no, span-le}
use Rattle.sifc_lex.specs.Lex.{in_line}
use Rattle.sifc_tokens.specs.Place.{place, newlines, column, walked_to, next_place, place_of}

one-newline : (b : ℕ) → eqb b 10 ≡ true → newlines (b ∷ []) ≡ 1
unfolding newlines
one-newline b e = rw (e, newlines) refl

no-newline : (b : ℕ) → eqb b 10 ≡ false → newlines (b ∷ []) ≡ 0
unfolding newlines
no-newline b e = rw (e, newlines) refl

in-line : (b : ℕ) (q : Bool) → eqb b 10 ≡ q → in_line b ≡ not q
unfolding in_line
in-line b q e = ap not e

newlines-snoc : (xs : List ℕ) (b : ℕ) → newlines (xs ++ (b ∷ [])) ≡ newlines xs + newlines (b ∷ [])
unfolding newlines
newlines-snoc [] b = sym (zero-add _)
newlines-snoc (x ∷ xs) b = go (eqb x 10) (newlines-snoc xs b)
  where
    go : (q : Bool) → newlines (xs ++ (b ∷ [])) ≡ newlines xs + newlines (b ∷ [])
        → (elim q as (λ z. ℕ) [ true ↦ suc (newlines (xs ++ (b ∷ []))) | false ↦ newlines (xs ++ (b ∷ [])) ]) ≡ (elim q as (λ z. ℕ) [ true ↦ suc (newlines xs) | false ↦ newlines xs ]) + newlines (b ∷ [])
    go true h = omega arith
    go false h = h

column-snoc : (xs : List ℕ) (b : ℕ) → column (xs ++ (b ∷ [])) ≡ span in_line (b ∷ reverse xs)
unfolding column
column-snoc xs b = ap (span in_line) (reverse_aux-append xs (b ∷ []) [])

pub walked_none : (s : List ℕ) → walked_to s 0 ≡ place 1 0
unfolding walked_to newlines column span
walked_none s = refl

-- One byte farther.
pub walked_more : (s : List ℕ) (i : ℕ) → i < length s → walked_to s (i + 1) ≡ next_place (walked_to s i) (get_or s i 0)
unfolding walked_to next_place if◌then◌otherwise◌
walked_more s i h = rw (add-one i, take-suc s i 0 h, newlines-snoc (take i s) (get_or s i 0), column-snoc (take i s) (get_or s i 0)) (go (eqb (get_or s i 0) 10) refl)
  where
    go : (q : Bool) → eqb (get_or s i 0) 10 ≡ q
        → place (1 + (newlines (take i s) + newlines (get_or s i 0 ∷ []))) (span in_line (get_or s i 0 ∷ reverse (take i s)))
        ≡ (if q then place (1 + newlines (take i s) + 1) 0 otherwise place (1 + newlines (take i s)) (column (take i s) + 1))
    go true e = ap₂ place (rw (one-newline (get_or s i 0) e) (let z : 1 + (newlines (take i s) + 1) ≡ 1 + newlines (take i s) + 1 = omega arith in z)) (span-no in_line (get_or s i 0) (reverse (take i s)) (in-line (get_or s i 0) true e))
    go false e = ap₂ place (rw (no-newline (get_or s i 0) e) (let z : 1 + (newlines (take i s) + 0) ≡ 1 + newlines (take i s) = omega arith in z)) (span-yes in_line (get_or s i 0) (reverse (take i s)) (in-line (get_or s i 0) false e) ∙ sym (add-one _))

newlines-le : (s : List ℕ) → newlines s ≤ length s
unfolding newlines
newlines-le [] = omega arith
newlines-le (b ∷ bs) = go (eqb b 10) (newlines-le bs)
  where
    go : (q : Bool) → newlines bs ≤ length bs → (elim q as (λ z. ℕ) [ true ↦ suc (newlines bs) | false ↦ newlines bs ]) ≤ suc (length bs)
    go true h = omega arith
    go false h = omega arith

-- A line and a column are at most the bytes passed, and 1.
pub walked_line : (s : List ℕ) (i : ℕ) → i ≤ length s → (walked_to s i).line ≤ i + 1
unfolding walked_to
walked_line s i h = let a = newlines-le (take i s) in let b = length-take i s in omega arith

pub walked-pos : (s : List ℕ) (i : ℕ) → i ≤ length s → (walked_to s i).pos ≤ i
unfolding walked_to column
walked-pos s i h = let a = span-le in_line (reverse (take i s)) in let b = length-take i s in let c = length-reverse (take i s) in omega arith

-- The place of a token inside the script, and at its end: after a newline or nothing, and elsewhere.
pub place_inside : (s : List ℕ) (p : ℕ) → p < length s → place_of s p ≡ walked_to s p
unfolding place_of if◌then◌otherwise◌
place_inside s p h = rw (lt-leb (length s) p h) refl

pub place-even : (s : List ℕ) (p : ℕ) → length s ≤ p → (walked_to s (length s)).pos ≤ 0 → place_of s p ≡ walked_to s (length s)
unfolding place_of if◌then◌otherwise◌ walked_to
place-even s p h e =
    let c : column s ≤ 0 = rw (take_all (length s) s (omega arith)) at e in
    rw (le-leb (length s) p h, le-ltb 0 (column s) c) (rw (take_all p s h, take_all (length s) s (omega arith)) refl)

pub place-ragged : (s : List ℕ) (p : ℕ) → length s ≤ p → 0 < (walked_to s (length s)).pos → place_of s p ≡ place ((walked_to s (length s)).line + 1) 0
unfolding place_of if◌then◌otherwise◌ walked_to
place-ragged s p h e =
    let c : 0 < column s = rw (take_all (length s) s (omega arith)) at e in
    rw (le-leb (length s) p h, lt-ltb 0 (column s) c) (rw (take_all (length s) s (omega arith)) (ap (λ (n : ℕ). place n 0) (let z : 2 + newlines s ≡ 1 + newlines s + 1 = omega arith in z)))
