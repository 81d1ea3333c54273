-- Quotients of floats whose values are known: the quotient of two values is their exact quotient, rounded once; and dividing a rounded value by a power of two
-- gives what rounding the smaller fraction gives, in the normal range. Nothing here is about literals. Assumes nothing.
use Rattle.std.specs.Prelude.{◌≡◌, ℕ, ◌+◌, ◌-◌, ◌*◌, ◌/◌, ◌%◌, ◌^◌, ◌<◌, ◌≤◌, Bool, false, cond, T, ℤ, ◌≢◌, refl}
use Rattle.std.proofs.Common.{sym, ap, ◌∙◌, subst, inl, inr, le_trans, le_of_eq, lt_irrefl, lt_of_le_of_lt, eq-or-lt_of_le, mul-one, one-mul, mul_comm, mul_assoc, mul_left_comm, mul_right_comm, mul-le-mul_left, mul-le-mul_right, mul-pos, ne_eqb, lit<, pow-add, pow_pos}
use Prim.Native.Nat.{compare}
use Rattle.std.proofs.Math.Nat.{eq_of_mul-eq-mul_right, div-div-eq-div-mul}
use lib.Ieee.{Float, nan, inf, fin, Format, binary32, binary64, prec, low, up, down, unlike, size, hid, top, fits, div, round, to_bits}
use Rattle.std.specs.Float.Ieee.Bits.{of_bits-to_bits}
use Rattle.std.specs.Float.Ieee.Fits.{down_pos, nearest-le, kept-lt, round-fits}
use Rattle.std.specs.Float.Ieee.Exact.{HasValue, round_exact}
use Rattle.std.specs.Float.Ieee.Nearest.{div_same}
use Rattle.std.specs.Float.Ieee.Order.{drop, kept}
use Rattle.std.specs.Float.Ieee.Positive.{first_pos}
use Rattle.std.specs.Float.Ieee.Scale.{grid, overflow, round_same, round_val, grid_scale}

-- ---- a value of a format is written in one way, since its bit pattern goes by its sign and its size alone
cross : (a m n c : ℕ) → 0 < c → (d e : ℕ) → m * c ≡ a * d → n * c ≡ a * e → m * e ≡ n * d
cross a m n c C d e h k =
    eq_of_mul-eq-mul_right c C (m * e) (n * d)
    (mul_right_comm m e c ∙ ap (λ (z : ℕ). z * e) h ∙ mul_right_comm a d e ∙ ap (λ (z : ℕ). z * d) (sym k) ∙ mul_right_comm n c d)

pattern : Format → Bool → ℕ → ℕ
pattern f s n = cond s (top f) 0 + (size n - prec f) * hid f + n / 2 ^ (size n - prec f)

same-pattern : (f : Format) (s t : Bool) (m n : ℕ) (e g : ℤ) → s ≡ t → m * up e * down g ≡ n * up g * down e → to_bits f (fin s m e) ≡ to_bits f (fin t n g)
unfolding to_bits pattern
same-pattern f s t m n e g z h =
    let l = 2 ^ low f in
    let d : m * up e * l / down e ≡ n * up g * l / down g =
    div_same (m * up e * l) (down e) (n * up g * l) (down g) (down_pos e) (down_pos g) (mul_right_comm (m * up e) l (down g) ∙ ap (λ (x : ℕ). x * l) h ∙ mul_right_comm (n * up g) (down e) l) in
    ap (λ (x : Bool). pattern f x (m * up e * l / down e)) z ∙ ap (λ (x : ℕ). pattern f t x) d

pub one_way : (f : Format) (x y : Float) (s : Bool) (a c : ℕ) → 0 < c → T (fits f x) → T (fits f y) → HasValue x s a c → HasValue y s a c → x ≡ y
one_way f nan y s a c C p q v w = absurd v
one_way f (inf t) y s a c C p q v w = absurd v
one_way f (fin t m e) nan s a c C p q v w = absurd w
one_way f (fin t m e) (inf u) s a c C p q v w = absurd w
one_way f (fin t m e) (fin u n g) s a c C p q v w =
    sym (of_bits-to_bits f (fin t m e) p)
    ∙ ap (lib.Ieee.of_bits f) (same-pattern f t u m n e g (v.0 ∙ sym w.0) (cross a (m * up e) (n * up g) c C (down e) (down g) v.1 w.1))
    ∙ of_bits-to_bits f (fin u n g) q

-- ---- the quotient of two values is the exact quotient, rounded
shuffle : (m p a e n q b d : ℕ) → m * p ≡ a * e → n * q ≡ b * d → m * d * (b * p) ≡ a * q * (n * e)
shuffle m p a e n q b d h k =
    let l : m * d * (b * p) ≡ m * p * (b * d) = simp (mul_assoc, mul_comm, mul_left_comm) in
    let r : a * e * (n * q) ≡ a * q * (n * e) = simp (mul_assoc, mul_comm, mul_left_comm) in
    l ∙ ap (λ (z : ℕ). z * (b * d)) h ∙ ap (λ (z : ℕ). a * e * z) (sym k) ∙ r

not-zero : (n u : ℕ) → 0 < n * u → n ≢ 0
not-zero n u h e = lt_irrefl 0 (subst (λ (x : ℕ). 0 < x) e (first_pos n u h))

pub quotient : (f : Format) (x y : Float) (a p b q : ℕ) → 0 < p → 0 < q → 0 < b → HasValue x false a p → HasValue y false b q → div f x y ≡ round f false (a * q) (b * p)
unfolding div
quotient f nan y a p b q P Q B v w = absurd v
quotient f (inf t) y a p b q P Q B v w = absurd v
quotient f (fin s m e) nan a p b q P Q B v w = absurd w
quotient f (fin s m e) (inf u) a p b q P Q B v w = absurd w
quotient f (fin s m e) (fin t n d) a p b q P Q B v w =
    let M = m * up e * down d in
    let N = n * up d * down e in
    let N+ : 0 < n * up d = first_pos (n * up d) q (subst (λ (z : ℕ). 0 < z) (sym w.1) (mul-pos B (down_pos d))) in
    rw (ne_eqb n 0 (not-zero n (up d) N+))
    (ap (λ (z : Bool). round f (unlike z t) M N) v.0
    ∙ ap (λ (z : Bool). round f (unlike false z) M N) w.0
    ∙ round_same f false M N (a * q) (b * p) (mul-pos N+ (down_pos e)) (mul-pos B P) (shuffle (m * up e) p a (down e) (n * up d) q b (down d) v.1 w.1))

-- ---- what `round` keeps is a value of the format, so rounding it again changes nothing
kept-le : (p n den : ℕ) → kept p n den ≤ 2 ^ p
kept-le p n den =
    let k = drop p n den in
    let u = den * 2 ^ k in
    le_trans (nearest-le (n / u) (compare (n % u * 2) u)) (subst (λ (x : ℕ). x < 2 ^ p) (div-div-eq-div-mul n den (2 ^ k)) (kept-lt p (n / den)))

-- so the rounded value is below a power of two by the number of its digits
pub grid-le : (f : Format) (a c : ℕ) → grid f a c ≤ 2 ^ (prec f + drop (prec f) (a * 2 ^ low f) c)
grid-le f a c =
    let k = drop (prec f) (a * 2 ^ low f) c in
    le_trans (mul-le-mul_right (2 ^ k) (kept-le (prec f) (a * 2 ^ low f) c)) (le_of_eq (sym (pow-add 2 (prec f) k)))

again : (f : Format) (m k : ℕ) → m ≤ 2 ^ prec f → m * 2 ^ k < overflow f → HasValue (round f false (m * 2 ^ k) (2 ^ low f)) false (m * 2 ^ k) (2 ^ low f)
again f m k h o =
    elim (eq-or-lt_of_le h) [
      | inl e ↦
          let w : m * 2 ^ k ≡ 1 * 2 ^ (prec f + k) = ap (λ (z : ℕ). z * 2 ^ k) e ∙ sym (pow-add 2 (prec f) k) ∙ sym (one-mul (2 ^ (prec f + k))) in
          round_exact f false (m * 2 ^ k) (2 ^ low f) 1 (prec f + k) (pow_pos (low f)) (one-lt f) (subst (λ (z : ℕ). z < overflow f) w o) (ap (λ (z : ℕ). z * 2 ^ low f) w)
      | inr l ↦ round_exact f false (m * 2 ^ k) (2 ^ low f) m k (pow_pos (low f)) l o refl
    ]
  where
    one-lt : (g : Format) → 1 < 2 ^ prec g
    one-lt binary32 = lit< tt
    one-lt binary64 = lit< tt

-- ---- dividing by a power of two: x is the rounded 2 ^ e times a / b, y is 2 ^ e, and x / y is the rounded a / b
lowered : (g l e : ℕ) → g * 2 ^ e * 1 * 2 ^ l ≡ g * (2 ^ e * 2 ^ l)
lowered g l e = ap (λ (z : ℕ). z * 2 ^ l) (mul-one (g * 2 ^ e)) ∙ mul_assoc g (2 ^ e) (2 ^ l)

up_le : (g e : ℕ) → g ≤ g * 2 ^ e
up_le g e = le_trans (le_of_eq (sym (mul-one g))) (mul-le-mul_left g (pow_pos e))

pub scaled : (f : Format) (x y : Float) (a b e : ℕ) → 0 < b → prec f ≤ size (a * 2 ^ low f / b) → grid f (a * 2 ^ e) b < overflow f
    → x ≡ round f false (a * 2 ^ e) b → HasValue y false (2 ^ e) 1 → div f x y ≡ round f false a b
scaled f x y a b e B N O X Y =
    let l = 2 ^ low f in
    let g = grid f a b in
    let G : grid f (a * 2 ^ e) b ≡ g * 2 ^ e = grid_scale f a b e B N in
    let O' : g * 2 ^ e < overflow f = subst (λ (z : ℕ). z < overflow f) G O in
    let small : g < overflow f = lt_of_le_of_lt (up_le g e) O' in
    let vx : HasValue x false (g * 2 ^ e) l = subst (λ (z : Float). HasValue z false (g * 2 ^ e) l) (sym X) (subst (λ (z : ℕ). HasValue (round f false (a * 2 ^ e) b) false z l) G (round_val f (a * 2 ^ e) b O)) in
    let is : div f x y ≡ round f false g l =
    quotient f x y (g * 2 ^ e) l (2 ^ e) 1 (pow_pos (low f)) (pow_pos 0) (pow_pos e) vx Y
    ∙ round_same f false (g * 2 ^ e * 1) (2 ^ e * l) g l (mul-pos (pow_pos e) (pow_pos (low f))) (pow_pos (low f)) (lowered g (low f) e) in
    is ∙ one_way f (round f false g l) (round f false a b) false g l (pow_pos (low f)) (round-fits f false g l) (round-fits f false a b)
    (again f (kept (prec f) (a * l) b) (drop (prec f) (a * l) b) (kept-le (prec f) (a * l) b) small) (round_val f a b small)
