-- The bits of a quotient, step by step: what Steps.antt says of a step and of three of them. Assumes nothing.
use Rattle.std.proofs.Common.{◌≡◌, ℕ, ◌+◌, ◌*◌, ◌/◌, ◌%◌, ◌^◌, ◌<◌, ◌≤◌, sym, refl, ap, ◌∙◌, le_of_eq, lt_of_lt_of_le, mod-lt, mul_assoc, mul_comm, div-lt_iff_lt-mul, add-mul, mul-lt-mul_of_pos_right, div-add-mod', le-div_iff_mul-le, mul_right_comm, arith, lit<, pow-add}
use native.Mathlib.Nat.{pow-le-pow_right}
use Rattle.sifc_value.specs.Steps.{Holds, Stepped, Deeper}

above : (a b : ℕ) → a < b → 0 < b
above a b h = omega arith

-- the bits that a step works out are below its factor
pub part-lt : (five rest factor : ℕ) → rest < five → 0 < factor → rest * factor / five < factor
part-lt five rest factor h p = (div-lt_iff_lt-mul (above rest five h)).1 (lt_of_lt_of_le (mul-lt-mul_of_pos_right h p) (le_of_eq (mul_comm five factor)))

pub stepped : (five whole rest shift factor bits : ℕ) → rest < five → 0 < factor
    → Stepped five whole rest shift factor bits (whole * factor + rest * factor / five) (rest * factor % five) (shift + bits)
stepped five whole rest shift factor bits h p =
    let q = rest * factor / five in
    let a : (whole * factor + q) * five ≡ whole * factor * five + q * five = add-mul (whole * factor) q five in
    let b : q * five + rest * factor % five ≡ rest * factor = div-add-mod' (rest * factor) five in
    let c : (whole * five + rest) * factor ≡ whole * five * factor + rest * factor = add-mul (whole * five) rest factor in
    let d : whole * five * factor ≡ whole * factor * five = mul_right_comm whole five factor in
    let l : q < factor = part-lt five rest factor h p in
    record { equal = omega arith; less = mod-lt (rest * factor) (above rest five h); low = omega arith; high = omega arith; shifted = refl }

-- a step by 2 to the power of its bits keeps the number
keeps : (five whole rest shift factor bits whole' rest' shift' : ℕ) → Stepped five whole rest shift factor bits whole' rest' shift' → factor ≡ 2 ^ bits
    → (n : ℕ) → Holds five whole rest shift n → Holds five whole' rest' shift' n
keeps five whole rest shift factor bits whole' rest' shift' z e n h =
    z.equal ∙ ap (λ (x : ℕ). x * factor) h ∙ ap (λ (x : ℕ). n * 2 ^ shift * x) e ∙ mul_assoc n (2 ^ shift) (2 ^ bits) ∙ ap (λ (x : ℕ). n * x) (sym (pow-add 2 shift bits)) ∙ ap (λ (x : ℕ). n * 2 ^ x) (sym z.shifted)

module _ (five whole rest shift whole' rest' shift' : ℕ) where
  -- 22 bits more, where the whole part has at most 41
  pub deep-far : Stepped five whole rest shift 4194304 22 whole' rest' shift' → whole < 2 ^ 41 → Deeper five whole rest shift whole' rest' shift'
  deep-far z w =
      let l = z.low in
      let h = z.high in
      let t = z.shifted in
      record { keeps = keeps five whole rest shift 4194304 22 whole' rest' shift' z refl; less = z.less; fits = omega arith; shifted = omega arith; once = λ g. omega arith; twice = λ g. omega arith; thrice = λ g. omega arith }

  -- 10 bits more, where it has 42 to 53
  pub deep-near : Stepped five whole rest shift 1024 10 whole' rest' shift' → 2 ^ 41 ≤ whole → whole < 2 ^ 53 → Deeper five whole rest shift whole' rest' shift'
  deep-near z w u =
      let l = z.low in
      let h = z.high in
      let t = z.shifted in
      record { keeps = keeps five whole rest shift 1024 10 whole' rest' shift' z refl; less = z.less; fits = omega arith; shifted = omega arith; once = λ g. omega arith; twice = λ g. omega arith; thrice = λ g. omega arith }

-- ---- the first quotient, by a power of five from 5 to 5 ^ 18
pub record First (m five : ℕ) : Type 0 where
  pub some : 0 < five
  pub below : five < 2 ^ 42
  pub low : 2 ^ 11 ≤ m / five
  pub high : m / five < 2 ^ 63

pub first : (m p five : ℕ) → five ≡ 5 ^ p → 1 ≤ p → p ≤ 18 → 2 ^ 53 < m → m < 2 ^ 64 → First m five
first m p five e l h a b =
    let lo : 5 ^ 1 ≤ 5 ^ p = pow-le-pow_right {n = 5} (lit< tt) {i = 1} {j = p} l in
    let hi : 5 ^ p ≤ 5 ^ 18 = pow-le-pow_right {n = 5} (lit< tt) {i = p} {j = 18} h in
    let P : 0 < five = omega arith in
    record { some = P; below = omega arith; low = (le-div_iff_mul-le P).1 (omega arith); high = (div-lt_iff_lt-mul P).1 (omega arith) }
