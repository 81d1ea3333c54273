-- Reading digits one by one: what holds before each of them, and that it gives what Scan.antt says at the end. Assumes nothing.
use Rattle.std.proofs.Common.{◌≡◌, ℕ, suc, ◌+◌, ◌-◌, ◌*◌, ◌^◌, ◌<◌, ◌≤◌, true, false, List, [], ◌∷◌, ◌++◌, length, get_or, take, drop, sym, refl, ap, ◌∙◌, lt_of_lt_of_le, add-sub_of_le, add-one, arith, length-drop, get_or-drop, take-suc, le-leb}
use native.Mathlib.Nat.{pow-succ', sub_self}
use borrow.Author.Tests.{lt-leb}
use Rattle.sifc_word.specs.Base.{within, span}
use Rattle.sifc_word.specs.BaseLaws.{and-false, span-at-yes, span-at-no}
use Rattle.sifc_lex.specs.Lex.{digit}
use Rattle.sifc_value.specs.Value.{numeral}
use Rattle.sifc_value.specs.Decimal.{ten-le}
use Rattle.sifc_value.specs.Scan.{Read}

-- ---- digits as numbers
pub is_digit : (b : ℕ) → 48 ≤ b → b ≤ 57 → digit b ≡ true
unfolding digit within
is_digit b l h = simp (le-leb 48 b l, le-leb b 57 h)

pub below-digit : (b : ℕ) → b < 48 → digit b ≡ false
unfolding digit within
below-digit b h = simp (lt-leb 48 b h)

pub above-digit : (b : ℕ) → 57 < b → digit b ≡ false
unfolding digit within
above-digit b h = simp (lt-leb b 57 h, and-false)

pub numeral-append : (n : ℕ) (xs ys : List ℕ) → numeral n (xs ++ ys) ≡ numeral (numeral n xs) ys
unfolding numeral
numeral-append n [] ys = refl
numeral-append n (b ∷ xs) ys = numeral-append (n * 10 + (b - 48)) xs ys

-- ---- before each digit
pub record Scanned (s : List ℕ) (from end before number scale next : ℕ) : Type 0 where
  pub start : from ≤ next
  pub stop : next ≤ end
  pub number_is : number ≡ numeral before (take (next - from) (drop from s))
  pub scale-is : scale ≡ 10 ^ (next - from)
  pub small : number < 10 ^ (19 - (end - next))
  pub rest : next + span digit (drop next s) ≡ from + span digit (drop from s)

pub scanned-none : (s : List ℕ) (from end before : ℕ) → from ≤ end → before < 10 ^ (19 - (end - from)) → Scanned s from end before before 1 from
unfolding numeral
scanned-none s from end before h l =
    record { start = omega arith; stop = h; number_is = rw (sub_self from) refl; scale-is = rw (sub_self from) refl; small = l; rest = refl }

module _ (s : List ℕ) (from end before number scale next : ℕ) (z : Scanned s from end before number scale next) (more : next < end) (most : end - from ≤ 19) where
  -- one more digit fits, in the number and in its scale
  pub room : number * 10 + 10 ≤ 10000000000000000000
  room =
      let a : number < 10 ^ (19 - (end - next)) = z.small in
      let b : 10 ^ (19 - (end - next)) ≤ 10 ^ 18 = ten-le (19 - (end - next)) 18 (omega arith) in
      let c : suc number ≤ 10 ^ 18 = lt_of_lt_of_le a b in
      omega arith

  pub scale-room : scale * 10 ≤ 10000000000000000000
  scale-room =
      let a : 10 ^ (next - from) ≤ 10 ^ 18 = ten-le (next - from) 18 (let l = z.start in let h = z.stop in omega arith) in
      let b : scale ≡ 10 ^ (next - from) = z.scale-is in
      omega arith

  module _ (inside : end ≤ length s) (low : 48 ≤ get_or s next 0) (high : get_or s next 0 ≤ 57) where
    digit_at : get_or (drop from s) (next - from) 0 ≡ get_or s next 0
    digit_at = get_or-drop from s (next - from) 0 ∙ ap (λ (k : ℕ). get_or s k 0) (add-sub_of_le z.start)

    in_rest : next - from < length (drop from s)
    in_rest = let l = length-drop from s in let h = z.start in omega arith

    number_more : number * 10 + (get_or s next 0 - 48) ≡ numeral before (take (suc (next - from)) (drop from s))
    unfolding numeral
    number_more =
        ap (λ (n : ℕ). n * 10 + (get_or s next 0 - 48)) z.number_is
        ∙ ap (λ (b : ℕ). numeral (numeral before (take (next - from) (drop from s))) (b ∷ [])) (sym digit_at)
        ∙ sym (numeral-append before (take (next - from) (drop from s)) (get_or (drop from s) (next - from) 0 ∷ []))
        ∙ ap (numeral before) (sym (take-suc (drop from s) (next - from) 0 in_rest))

    small-more : number * 10 + (get_or s next 0 - 48) < 10 ^ (19 - (end - (next + 1)))
    small-more =
        let a : number < 10 ^ (19 - (end - next)) = z.small in
        let b : 10 ^ suc (19 - (end - next)) ≡ 10 * 10 ^ (19 - (end - next)) = pow-succ' 10 (19 - (end - next)) in
        let e : 19 - (end - (next + 1)) ≡ suc (19 - (end - next)) = let h = z.start in omega arith in
        rw (e, b) (omega arith)

    pub scanned-more : Scanned s from end before (number * 10 + (get_or s next 0 - 48)) (scale * 10) (next + 1)
    scanned-more =
        let e : next + 1 - from ≡ suc (next - from) = let h = z.start in omega arith in
        let t : scale * 10 ≡ 10 ^ suc (next - from) = ap (λ (n : ℕ). n * 10) z.scale-is ∙ (let p = pow-succ' 10 (next - from) in omega arith) in
        let r : span digit (drop next s) ≡ suc (span digit (drop (suc next) s)) = span-at-yes digit s next (lt_of_lt_of_le more inside) (is_digit (get_or s next 0) low high) in
        let y : next + span digit (drop next s) ≡ from + span digit (drop from s) = z.rest in
        let h = z.start in
        record { start = omega arith; stop = omega arith; number_is = rw e number_more; scale-is = rw e t; small = small-more; rest = rw add-one (omega arith) }

-- ---- at the end: at a byte that is no digit, or at the last index
read-end : (s : List ℕ) (from end before number scale next : ℕ) → Scanned s from end before number scale next → (next < end → next ≡ from + span digit (drop from s)) → Read s from end before number scale next
read-end s from end before number scale next z w =
    record { start = z.start; stop = z.stop; number_is = z.number_is; scale-is = z.scale-is; small = z.small; rest = z.rest; whole = w }

pub read_all : (s : List ℕ) (from end before number scale next : ℕ) → Scanned s from end before number scale next → end ≤ next → Read s from end before number scale next
read_all s from end before number scale next z h = read-end s from end before number scale next z (λ l. absurd (let y : ⊥ = omega arith in y))

pub read-stop : (s : List ℕ) (from end before number scale next : ℕ) → Scanned s from end before number scale next → next < length s → digit (get_or s next 0) ≡ false → Read s from end before number scale next
read-stop s from end before number scale next z h d =
    let y : span digit (drop next s) ≡ 0 = span-at-no digit s next h d in
    read-end s from end before number scale next z (λ l. let r = z.rest in omega arith)
