-- The value of a literal, by where its first digits end and what follows them. Assumes nothing.
use Rattle.std.proofs.Common.{◌≡◌, ℕ, suc, ◌+◌, ◌-◌, ◌^◌, ◌<◌, ◌≤◌, min, Bool, true, false, ltb, Some, None, List, [], ◌∷◌, ◌++◌, length, get_or, take, drop, sym, refl, ap, ◌∙◌, inl, inr, append-nil, eq-or-lt_of_le, add-one, arith, length-append, length-drop, drop_of_length-le, length-take-le, take_all, drop-cons, ltb-false, ltb-true, le-ltb, lt-ltb, eq-eqb, ne_eqb}
use native.Mathlib.Nat.{sub-zero}
use lib.Ieee.{binary64, round}
use Rattle.sifc_word.specs.Base.{if◌then◌otherwise◌, span, within}
use Rattle.sifc_word.specs.BaseLaws.{and-false, span-le, span-at-no, span-at-end}
use Rattle.sifc_lex.specs.Lex.{digit}
use Rattle.sifc_value.specs.Scan.{Read}
use Rattle.sifc_value.proofs.Scanned.{numeral-append}
use Rattle.sifc_value.specs.Value.{digits_of, counted, places_of, numeral, ends, literal, value_of}

-- ---- how far is read: the smaller of the length and a number of digits
pub record Capped (n most r : ℕ) : Type 0 where
  pub low : r ≤ n
  pub high : r ≤ most
  pub whole : r < most → r ≡ n
  pub reach : (k : ℕ) → k ≤ n → k ≤ most → k ≤ r

pub capped : {n most r : ℕ} → r ≡ min n most → Capped n most r
capped e = record { low = omega arith; high = omega arith; whole = λ h. omega arith; reach = λ k h i. omega arith }

-- ---- what is no literal
refused : (s : List ℕ) → literal s ≡ false → value_of s ≡ None
unfolding value_of if◌then◌otherwise◌
refused s e = rw e refl

pub no_digit : (s : List ℕ) → span digit s ≡ 0 → value_of s ≡ None
no_digit s e = refused s (unfold literal in simp (e))

last-false : (s : List ℕ) → ltb (counted s) 20 ≡ false → literal s ≡ false
unfolding literal
last-false s e = simp (e, and-false)

no_end : (s : List ℕ) → ends (drop (span digit s) s) ≡ false → value_of s ≡ None
no_end s e = refused s (unfold literal in simp (e, and-false))

digits-length : (s : List ℕ) → counted s ≡ span digit s + (length s - suc (span digit s))
unfolding counted digits_of
digits-length s =
    length-append (take (span digit s) s) (drop (suc (span digit s)) s)
    ∙ ap (λ (n : ℕ). n + length (drop (suc (span digit s)) s)) (length-take-le (span digit s) s (span-le digit s))
    ∙ ap (λ (n : ℕ). span digit s + n) (length-drop (suc (span digit s)) s)

too_long : (s : List ℕ) → 20 ≤ span digit s + (length s - suc (span digit s)) → value_of s ≡ None
too_long s h =
    let e : ltb (counted s) 20 ≡ false = le-ltb (counted s) 20 (let l = digits-length s in omega arith) in
    refused s (last-false s e)

-- ---- the value of a literal, by its digits and places
ends-none : ends [] ≡ true
unfolding ends
ends-none = refl

accepted : (s : List ℕ) (n p : ℕ) → 0 < span digit s → ends (drop (span digit s) s) ≡ true → span digit s + (length s - suc (span digit s)) ≤ 19
    → n ≡ numeral 0 (digits_of s) → p ≡ places_of s → value_of s ≡ Some (round binary64 false n (10 ^ p))
unfolding value_of literal if◌then◌otherwise◌
accepted s n p d e l h k =
    let t : ltb (counted s) 20 ≡ true = lt-ltb (counted s) 20 (let y = digits-length s in omega arith) in
    simp (lt-ltb 0 (span digit s) d, e, t, h, k)

module _ (s : List ℕ) (end number scale next : ℕ) (cap : Capped (length s) 19 end) (read : Read s 0 end 0 number scale next) where
  run : next + span digit (drop next s) ≡ span digit s
  run = let r = read.rest in omega arith

  at-end : next < end → next ≡ span digit s
  at-end l = let r = read.whole l in omega arith

  -- no digit at the front
  pub none : next ≡ 0 → value_of s ≡ None
  none e = no_digit s (go (ltb 0 end) refl)
    where
      go : (t : Bool) → ltb 0 end ≡ t → span digit s ≡ 0
      go true h = let l = at-end (let y = ltb-true 0 end h in omega arith) in omega arith
      go false h = let y = ltb-false 0 end h in let l = span-le digit s in let w = cap.whole (omega arith) in omega arith

  first-number : number ≡ numeral 0 (take next s)
  first-number = read.number_is ∙ ap (λ (k : ℕ). numeral 0 (take k s)) (sub-zero next)

  -- digits and nothing else
  all_digits : span digit s ≡ next → next ≡ length s → digits_of s ≡ take next s
  unfolding digits_of
  all_digits w e = rw w (ap (λ (t : List ℕ). take next s ++ t) (drop_of_length-le s {i = suc next} (omega arith)) ∙ append-nil (take next s))

  pub only : 0 < next → next ≡ length s → value_of s ≡ Some (round binary64 false number 1)
  unfolding places_of
  only d e =
      let w : span digit s ≡ next = let l = span-le digit s in let r = run in omega arith in
      let c = cap.high in
      let h = read.stop in
      accepted s number 0 (omega arith) (ap ends (drop_of_length-le s {i = span digit s} (omega arith)) ∙ ends-none) (omega arith) (first-number ∙ ap (numeral 0) (sym (all_digits w e))) (omega arith)

  -- another byte than a point behind the first digits, of which at most 19 are looked at
  pub other : next < length s → (get_or s next 0 ≡ 46 → ⊥) → value_of s ≡ None
  other i n = elim (eq-or-lt_of_le (let r = run in let y : next ≤ span digit s = omega arith in y)) [ inl e ↦ here e | inr g ↦ too_long s (more g (ltb next end) refl (ltb end 19) refl) ]
    where
      here : next ≡ span digit s → value_of s ≡ None
      here e = no_end s (rw (← e, drop-cons s next 0 i) (unfold ends in rw (ne_eqb (get_or s next 0) 46 n) refl))

      more : next < span digit s → (t : Bool) → ltb next end ≡ t → (u : Bool) → ltb end 19 ≡ u → 20 ≤ span digit s + (length s - suc (span digit s))
      more g true h u k = absurd (let z = at-end (ltb-true next end h) in let y : ⊥ = omega arith in y)
      more g false h true k = absurd (let w = cap.whole (ltb-true end 19 k) in let z = ltb-false next end h in let y : ⊥ = omega arith in y)
      more g false h false k = let z = ltb-false next end h in let x = ltb-false end 19 k in let l = read.stop in let y = span-le digit s in omega arith

  -- a point behind the first digits, and what is read behind it
  module _ (inside : next < length s) (point : get_or s next 0 ≡ 46) where
    whole : span digit s ≡ next
    whole = let z : span digit (drop next s) ≡ 0 = span-at-no digit s next inside (rw point (unfold digit within in refl)) in let r = run in omega arith

    behind : drop (span digit s) s ≡ 46 ∷ drop (next + 1) s
    behind = rw (whole, drop-cons s next 0 inside, point, add-one) refl

    module _ (end₂ number₂ scale₂ next₂ : ℕ) (cap₂ : Capped (length s) 20 end₂) (read₂ : Read s (next + 1) end₂ number number₂ scale₂ next₂) where
      -- something else than digits behind the point, or too many of them
      pub more : (next₂ ≡ length s → ⊥) → value_of s ≡ None
      unfolding ends
      more n = go (ltb next₂ end₂) refl (ltb end₂ 20) refl
        where
          stuck : next₂ < end₂ → value_of s ≡ None
          stuck h =
              let r = read₂.whole h in
              let l = length-drop (next + 1) s in
              no_end s (rw behind (ne_eqb (span digit (drop (next + 1) s)) (length (drop (next + 1) s)) (λ e. n (omega arith))))

          go : (t : Bool) → ltb next₂ end₂ ≡ t → (u : Bool) → ltb end₂ 20 ≡ u → value_of s ≡ None
          go true h u k = stuck (ltb-true next₂ end₂ h)
          go false h true k = absurd (n (let w = cap₂.whole (ltb-true end₂ 20 k) in let z = ltb-false next₂ end₂ h in let l = read₂.stop in omega arith))
          go false h false k = too_long s (let x = ltb-false end₂ 20 k in let z = ltb-false next₂ end₂ h in let l = read₂.stop in let c = cap₂.low in let w = whole in omega arith)

      all_read : next₂ ≡ length s → number₂ ≡ numeral 0 (digits_of s)
      unfolding digits_of
      all_read e =
          let l = length-drop (next + 1) s in
          read₂.number_is
          ∙ ap (numeral number) (take_all (next₂ - (next + 1)) (drop (next + 1) s) (omega arith))
          ∙ ap (λ (k : ℕ). numeral k (drop (next + 1) s)) first-number
          ∙ sym (numeral-append 0 (take next s) (drop (next + 1) s))
          ∙ ap (λ (k : ℕ). numeral 0 (take next s ++ drop k s)) (add-one next)
          ∙ ap (λ (k : ℕ). numeral 0 (take k s ++ drop (suc k) s)) (sym whole)

      -- digits behind the point up to the end
      pub pointed : 0 < next → next₂ ≡ length s → value_of s ≡ Some (round binary64 false number₂ (10 ^ (length s - next - 1)))
      unfolding ends places_of
      pointed d e =
          let w = whole in
          let f : span digit (drop next₂ s) ≡ 0 = span-at-end digit s next₂ (omega arith) in
          let r = read₂.rest in
          let l = length-drop (next + 1) s in
          let c = cap₂.high in
          let h = read₂.stop in
          accepted s number₂ (length s - next - 1) (omega arith) (rw behind (eq-eqb (span digit (drop (next + 1) s)) (length (drop (next + 1) s)) (omega arith))) (omega arith) (all_read e) (omega arith)
