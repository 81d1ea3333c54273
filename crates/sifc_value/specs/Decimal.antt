-- Whole numbers over powers of ten, rounded: the short way for small numbers, whose floats are exact, and the long way by a quotient of 54 bits or more.
-- Assumes nothing.
use Rattle.std.specs.Prelude.{◌≡◌, ℕ, zero, suc, ◌+◌, ◌-◌, ◌*◌, ◌/◌, ◌^◌, ◌<◌, ◌≤◌, Bool, true, false, not, ◌&&◌, T, replicate, pos, ◌==◌, ◌≢◌, slice_index, refl, Float}
use Rattle.std.proofs.Common.{sym, ap, ◌∙◌, le_trans, lt_of_lt_of_le, lt_of_le_of_lt, mul-one, mul_comm, mul_assoc, mul_left_comm, mul_right_comm, mul-le-mul_left, mul-le-mul_right, div-le_self, add-zero, arith, lit<, lit≤, eqb→eq, pow-add, pow_pos, pow_mono, shl_lt}
use Rattle.std.proofs.Math.Nat.{mul-mul-mul_comm, pow-succ', pow-le-pow_right}
use Rattle.std.specs.Int.Count.{count_trailing_zeros}
use Rattle.std.proofs.Math.Pow.{pow-lt}
use Rattle.std.specs.Float.{nan, inf, fin}
use Rattle.std.specs.Float.Ieee.{binary64, up, down, size, odd, div, round, of_int, of_bits, of_fields, nan_bits}
use Rattle.std.specs.Float.Ieee.Digits.{size-le}
use Rattle.std.specs.Float.Ieee.Exact.{HasValue, round_exact}
use Rattle.std.specs.Float.Ieee.Back.{round_whole}
use Rattle.std.specs.Float.Ieee.Scale.{grid, overflow, round_same, normal_of_fraction}
use Rattle.sifc_word.specs.BaseLaws.{and_left, and_right, every, every-at}
use Rattle.sifc_value.specs.Remainder.{round-odd}
use Rattle.sifc_value.specs.Quotient.{quotient, scaled, grid-le}

-- ---- powers of ten
pub ten-split : (p : ℕ) → 10 ^ p ≡ 5 ^ p * 2 ^ p
ten-split zero = refl
ten-split (suc p) =
    pow-succ' 10 p ∙ ap (λ (z : ℕ). 10 * z) (ten-split p) ∙ mul-mul-mul_comm 5 2 (5 ^ p) (2 ^ p) ∙ ap (λ (z : ℕ). z * (2 * 2 ^ p)) (sym (pow-succ' 5 p)) ∙ ap (λ (z : ℕ). 5 ^ suc p * z) (sym (pow-succ' 2 p))

pub ten-pos : (p : ℕ) → 0 < 10 ^ p
ten-pos p = pow-le-pow_right {n = 10} (lit< tt) {i = 0} {j = p} (omega arith)

pub ten-le : (p q : ℕ) → p ≤ q → 10 ^ p ≤ 10 ^ q
ten-le p q h = pow-le-pow_right (lit< tt) h

five-le : (p : ℕ) → p ≤ 18 → 5 ^ p ≤ 5 ^ 18
five-le p h = pow-le-pow_right (lit< tt) h

-- ---- the short way: a whole number up to 2 ^ 53 and a power of ten up to 10 ^ 18 are floats exactly, so their quotient is rounded once
ten-held : (p : ℕ) → p ≤ 18 → HasValue (round binary64 false (10 ^ p) 1) false (10 ^ p) 1
ten-held p h =
    round_exact binary64 false (10 ^ p) 1 (5 ^ p) (p + 1074) (pow_pos 0) (lt_of_le_of_lt (five-le p h) (lit< tt))
    (lt_of_lt_of_le (shl_lt 53 (p + 1074) (lt_of_le_of_lt (five-le p h) (lit< tt))) (pow_mono {i = 53 + (p + 1074)} {j = 2098} (omega arith)))
    (ap (λ (z : ℕ). z * 2 ^ 1074) (ten-split p) ∙ mul_assoc (5 ^ p) (2 ^ p) (2 ^ 1074) ∙ ap (λ (z : ℕ). 5 ^ p * z) (sym (pow-add 2 p 1074)) ∙ sym (mul-one (5 ^ p * 2 ^ (p + 1074))))

pub short-way : (m d p : ℕ) → m ≤ 2 ^ 53 → p ≤ 18 → d ≡ 10 ^ p → div binary64 (of_int binary64 (pos m)) (of_int binary64 (pos d)) ≡ round binary64 false m (10 ^ p)
unfolding of_int
short-way m d p M P e =
    ap (λ (z : ℕ). div binary64 (round binary64 false m 1) (round binary64 false z 1)) e
    ∙ quotient binary64 (round binary64 false m 1) (round binary64 false (10 ^ p) 1) m 1 (10 ^ p) 1 (pow_pos 0) (pow_pos 0) (ten-pos p) (round_whole binary64 false m M) (ten-held p P)
    ∙ ap (λ (z : ℕ). round binary64 false z (10 ^ p * 1)) (mul-one m)
    ∙ ap (λ (z : ℕ). round binary64 false m z) (mul-one (10 ^ p))

-- ---- the long way: w * c + r is m * 2 ^ t, with c = 5 ^ p, and n is 2 * w with an odd last bit where r is above 0
-- the last bit that stands for a remainder
unfoldable pub bit : ℕ → ℕ
bit zero = 0
bit (suc r) = 1

pub bit_le : (r : ℕ) → bit r ≤ 1
unfolding bit
bit_le zero = omega arith
bit_le (suc r) = omega arith

pub bit-some : (r : ℕ) → (r ≢ 0) → bit r ≡ 1
unfolding bit
bit-some zero h = absurd (h refl)
bit-some (suc r) h = refl

rounded-bit : (c w r : ℕ) → r < c → 2 ^ 53 ≤ w → round binary64 false ((w * c + r) * 2) c ≡ round binary64 false (2 * w + bit r) 1
unfolding bit
rounded-bit c w zero R W =
    round_same binary64 false ((w * c + 0) * 2) c (2 * w + 0) 1 R (pow_pos 0)
    (mul-one ((w * c + 0) * 2) ∙ ap (λ (z : ℕ). z * 2) (add-zero (w * c)) ∙ mul_right_comm w c 2 ∙ ap (λ (z : ℕ). z * c) (mul_comm w 2 ∙ sym (add-zero (2 * w))))
rounded-bit c w (suc r) R W = round-odd binary64 c w (suc r) R (omega arith) W

-- m * 2 ^ (t + 1 + p) over 10 ^ p is (w * c + r) * 2 over c
same-fraction : (m p t k : ℕ) → k ≡ m * 2 ^ t → m * 2 ^ (t + 1 + p) * 5 ^ p ≡ k * 2 * 10 ^ p
same-fraction m p t k e =
    let a : 2 ^ (t + 1 + p) ≡ 2 ^ t * 2 * 2 ^ p = pow-add 2 (t + 1) p ∙ ap (λ (z : ℕ). z * 2 ^ p) (pow-add 2 t 1) in
    let b : m * (2 ^ t * 2 * 2 ^ p) * 5 ^ p ≡ m * 2 ^ t * 2 * (5 ^ p * 2 ^ p) = simp (mul_assoc, mul_comm, mul_left_comm) in
    ap (λ (z : ℕ). m * z * 5 ^ p) a ∙ b ∙ ap (λ (z : ℕ). z * 2 * (5 ^ p * 2 ^ p)) (sym e) ∙ ap (λ (z : ℕ). k * 2 * z) (sym (ten-split p))

-- m / 10 ^ p is in the normal range
normal : (m p : ℕ) → 0 < m → p ≤ 18 → 53 ≤ size (m * 2 ^ 1074 / 10 ^ p)
normal m p M P =
    normal_of_fraction binary64 m (10 ^ p) (ten-pos p)
    (le_trans (mul-le-mul_left (2 ^ 52) (ten-le p 18 P)) (le_trans (lit≤ {m = 2 ^ 52 * 10 ^ 18} {n = 1 * 2 ^ 1074} tt) (mul-le-mul_right (2 ^ 1074) M)))

-- and m * 2 ^ e / c is no infinity
finite-below : (m c e : ℕ) → m < 2 ^ 64 → e ≤ 128 → grid binary64 (m * 2 ^ e) c < overflow binary64
finite-below m c e M E =
    let n = m * 2 ^ e * 2 ^ 1074 in
    let lt : n / c < 2 ^ (64 + e + 1074) = lt_of_le_of_lt (div-le_self n c) (shl_lt (64 + e) 1074 (shl_lt 64 e M)) in
    let z : size (n / c) ≤ 64 + e + 1074 = size-le (n / c) (64 + e + 1074) lt in
    lt_of_le_of_lt (grid-le binary64 (m * 2 ^ e) c) (pow-lt {i = 53 + (size (n / c) - 53)} {j = 2098} (omega arith))

pub long-way : (m p w r t : ℕ) (y : Float) → 0 < m → m < 2 ^ 64 → p ≤ 18 → t ≤ 66 → w * 5 ^ p + r ≡ m * 2 ^ t → r < 5 ^ p → 2 ^ 53 ≤ w → HasValue y false (2 ^ (t + 1 + p)) 1
    → div binary64 (of_int binary64 (pos (2 * w + bit r))) y ≡ round binary64 false m (10 ^ p)
unfolding of_int
long-way m p w r t y M M' P Q e R W Y =
    scaled binary64 (round binary64 false (2 * w + bit r) 1) y m (10 ^ p) (t + 1 + p) (ten-pos p) (normal m p M P) (finite-below m (10 ^ p) (t + 1 + p) M' (omega arith))
    (sym
    (round_same binary64 false (m * 2 ^ (t + 1 + p)) (10 ^ p) ((w * 5 ^ p + r) * 2) (5 ^ p) (ten-pos p) (above r (5 ^ p) R) (same-fraction m p t (w * 5 ^ p + r) e)
    ∙ rounded-bit (5 ^ p) w r R W))
    Y
  where
    above : (a b : ℕ) → a < b → 0 < b
    above a b h = omega arith

-- ---- the bits of a power of two: the exponent's field alone. One computed test for every exponent below 128
is_power : Float → ℕ → Bool
is_power nan e = false
is_power (inf s) e = false
is_power (fin s m g) e = not s && m * up g * 1 == 2 ^ e * down g

power-of : (x : Float) (e : ℕ) → T (is_power x e) → HasValue x false (2 ^ e) 1
unfolding is_power
power-of nan e t = absurd t
power-of (inf s) e t = absurd t
power-of (fin true m g) e t = absurd t
power-of (fin false m g) e t = (refl, eqb→eq (m * up g * 1) (2 ^ e * down g) t)

abbrev pub power_bits : ℕ → ℕ
power_bits e = (1023 + e) * 4503599627370496

power-right : ℕ → ℕ → Bool
power-right e x = is_power (of_bits binary64 (power_bits e)) e && not (nan_bits binary64 (power_bits e))

power-tests : T (every power-right 0 (replicate 128 0))
unfolding every power-right is_power of_bits of_fields odd count_trailing_zeros nan_bits
power-tests = tt

module _ (e : ℕ) (small : e < 128) where
  right : T (power-right e (slice_index (replicate 128 0) e))
  right = every-at power-right (replicate 128 0) power-tests e small

  pub power-held : HasValue (of_bits binary64 (power_bits e)) false (2 ^ e) 1
  unfolding power-right
  power-held = power-of (of_bits binary64 (power_bits e)) e (and_left (is_power (of_bits binary64 (power_bits e)) e) (not (nan_bits binary64 (power_bits e))) right)

  pub power-number : T (not (nan_bits binary64 (power_bits e)))
  unfolding power-right
  power-number = and_right (is_power (of_bits binary64 (power_bits e)) e) (not (nan_bits binary64 (power_bits e))) right
