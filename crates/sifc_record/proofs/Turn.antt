-- A loop that goes up over a list and stores one element in each turn. It says nothing of the crate.
--     Turn want ys i zs      the first i elements of zs are `want i`, and the others those of ys
--     turned           the turn after a store at i.        over       the list at the end is `want i` and the rest of ys
-- Assumes nothing.
use mathlib.Core.Path.{◌≡◌, sym, ap, ap₂, ◌∙◌}
use Prim.Native.Nat.{ℕ, ◌+◌, ◌<◌}
use native.Mathlib.Numerals.{add-one}
use native.Mathlib.Omega.{arith}
use mathlib.Core.List.{List, [], ◌∷◌, ◌++◌}
use lib.ListN.{length, set, take, drop, take-append-drop}
use lib.Seq.{take-suc-set, drop-set-lt, drop-drop}

module _ {A : Type 0} (want : ℕ → List A) (ys : List A) where
  pub record Turn (i : ℕ) (zs : List A) : Type 0 where
    pub front : take i zs ≡ want i
    pub back : drop i zs ≡ drop i ys

  past : (i : ℕ) → i < i + 1
  past i = omega arith

  pub turned : {i : ℕ} {zs : List A} → Turn i zs → (a : A) → i < length zs → want (i + 1) ≡ want i ++ (a ∷ []) → Turn (i + 1) (set zs i a)
  turned {i} {zs} t a within more =
      record {
        front = ap (λ (k : ℕ). take k (set zs i a)) (add-one i) ∙ take-suc-set zs i a within ∙ ap (λ (l : List A). l ++ (a ∷ [])) t.front ∙ sym more;
        back = drop-set-lt (i + 1) zs i a (past i) ∙ sym (drop-drop 1 i zs) ∙ ap (drop 1) t.back ∙ drop-drop 1 i ys;
      }

  pub over : {i : ℕ} {zs : List A} → Turn i zs → zs ≡ want i ++ drop i ys
  over {i} {zs} t = sym (take-append-drop i zs) ∙ ap₂ (λ (l k : List A). l ++ k) t.front t.back
