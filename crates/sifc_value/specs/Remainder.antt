-- Rounding a quotient that is not whole: only its whole part counts, and that something is left. So an odd last bit in place of the remainder rounds the same.
-- Nothing here is about literals. Assumes nothing.
use Rattle.std.specs.Prelude.{◌≡◌, ℕ, suc, ◌+◌, ◌-◌, ◌*◌, ◌/◌, ◌%◌, ◌^◌, ◌<◌, ◌≤◌, Bool, true, false, not, T, nat_lt, refl}
use Rattle.std.proofs.Common.{sym, ap, ◌∙◌, subst, le_trans, le_of_eq, le_of_lt, le_antisymm, lt_irrefl, lt_of_lt_of_le, lt_of_le_of_lt, lt_of_not-le, not-le_of_lt, one-mul, mul_comm, mul_assoc, mul_left_comm, mul-le-mul_right, mul-lt-mul_of_pos_right, add-mul, suc-mul, le-div_iff_mul-le, div-lt_iff_lt-mul, div-add-mod', mod-lt, arith, le→leb, eqb→eq, ltb→lt, nltb→le, pow-add, pow_pos, pow_mono}
use Prim.Native.Nat.{compare, Ordering}
use Rattle.std.proofs.Math.Nat.{div-div-eq-div-mul, pow-succ'}
use Rattle.std.proofs.Math.Dec.{is_le, compare_is_eq}
use Rattle.std.proofs.Math.Arith.{mod-mul, lt→nleb}
use Rattle.std.specs.Float.{Format}
use Rattle.std.specs.Float.Ieee.{prec, low, size, nearest, units, round}
use Rattle.std.specs.Float.Ieee.Digits.{size-lt, size-le, size_reaches}
use Rattle.std.specs.Float.Ieee.Fits.{round_is}
use Rattle.std.specs.Float.Ieee.Nearest.{closest}

-- ---- what `compare` answers
order_lt : (a b : ℕ) → a < b → compare a b ≡ Ordering.lt
order_lt a b h = go (compare a b) (le→leb a b (le_of_lt h)) (λ t. lt_irrefl b (subst (λ (x : ℕ). x < b) (eqb→eq a b t) h))
  where
    go : (o : Ordering) → T (is_le o) → (T (compare_is_eq o) → ⊥) → o ≡ Ordering.lt
    go Ordering.lt l e = refl
    go Ordering.eq l e = absurd (e tt)
    go Ordering.gt l e = absurd l

order-gt : (a b : ℕ) → b < a → compare a b ≡ Ordering.gt
order-gt a b h = go (compare a b) (lt→nleb a b h)
  where
    go : (o : Ordering) → T (not (is_le o)) → o ≡ Ordering.gt
    go Ordering.lt l = absurd l
    go Ordering.eq l = absurd l
    go Ordering.gt l = refl

-- ---- a number strictly between q * B and (q + 1) * B, rounded to a multiple of 2 * H * B: q alone decides
-- below the half where the remainder of q is below H, above it otherwise
side : Bool → Ordering
side true = Ordering.lt
side false = Ordering.gt

under : (r x H B : ℕ) → r < H → x < B → (r * B + x) * 2 < 2 * H * B
under r x H B h l =
    let a : suc r * B ≤ H * B = mul-le-mul_right B h in
    let b : suc r * B ≡ r * B + B = suc-mul r B in
    let c : 2 * H * B ≡ 2 * (H * B) = mul_assoc 2 H B in
    omega arith

over : (r x H B : ℕ) → H ≤ r → 0 < x → 2 * H * B < (r * B + x) * 2
over r x H B h l =
    let a : H * B ≤ r * B = mul-le-mul_right B h in
    let c : 2 * H * B ≡ 2 * (H * B) = mul_assoc 2 H B in
    omega arith

on-side : (r x H B : ℕ) → 0 < x → x < B → compare ((r * B + x) * 2) (2 * H * B) ≡ side (nat_lt r H)
unfolding side
on-side r x H B l u = go (nat_lt r H) (ltb→lt r H) (nltb→le r H)
  where
    go : (b : Bool) → (T b → r < H) → (T (not b) → H ≤ r) → compare ((r * B + x) * 2) (2 * H * B) ≡ side b
    go true f g = order_lt ((r * B + x) * 2) (2 * H * B) (under r x H B (f tt) u)
    go false f g = order-gt ((r * B + x) * 2) (2 * H * B) (over r x H B (g tt) l)

above : (q B a x : ℕ) → q * B < a → q * B + x ≡ a → 0 < x
above q B a x h e = omega arith

twice-pos : (H : ℕ) → 0 < H → 0 < 2 * H
twice-pos H h = omega arith

first_pos : (q B a : ℕ) → q * B < a → a < suc q * B → 0 < B
first_pos q B a l u = let e : suc q * B ≡ q * B + B = suc-mul q B in omega arith

between : (a B q H : ℕ) → 0 < H → q * B < a → a < suc q * B → closest a (2 * H * B) ≡ nearest (q / (2 * H)) (side (nat_lt (q % (2 * H)) H))
between a B q H P l u =
    let B+ : 0 < B = first_pos q B a l u in
    let d : a / B ≡ q = le_antisymm (le-of-lt-suc ((div-lt_iff_lt-mul B+).1 u)) ((le-div_iff_mul-le B+).1 (le_of_lt l)) in
    let w : a / (2 * H * B) ≡ q / (2 * H) = ap (λ (z : ℕ). a / z) (mul_comm (2 * H) B) ∙ sym (div-div-eq-div-mul a B (2 * H)) ∙ ap (λ (z : ℕ). z / (2 * H)) d in
    let r : a % (2 * H * B) ≡ q % (2 * H) * B + a % B = mod-mul a (twice-pos H P) B+ ∙ ap (λ (z : ℕ). z % (2 * H) * B + a % B) d in
    let x : 0 < a % B = above q B a (a % B) l (ap (λ (z : ℕ). z * B + a % B) (sym d) ∙ div-add-mod' a B) in
    let o : compare (a % (2 * H * B) * 2) (2 * H * B) ≡ side (nat_lt (q % (2 * H)) H) = ap (λ (z : ℕ). compare (z * 2) (2 * H * B)) r ∙ on-side (q % (2 * H)) (a % B) H B x (mod-lt a B+) in
    ap (λ (z : ℕ). nearest z (compare (a % (2 * H * B) * 2) (2 * H * B))) w ∙ ap (λ (z : Ordering). nearest (q / (2 * H)) z) o
  where
    le-of-lt-suc : {m n : ℕ} → m < suc n → m ≤ n
    le-of-lt-suc h = omega arith

-- ---- how many digits a number in that range has, where B is a power of two
size-gt : (n j : ℕ) → 2 ^ j ≤ n → j < size n
size-gt n j h = lt_of_not-le (λ (g : size n ≤ j). not-le_of_lt (lt_of_lt_of_le (size-lt n) (pow_mono g)) h)

join : (z h x : ℕ) → 0 < z → x ≤ z + h → z - 1 + h < x → x ≡ z + h
join z h x Z a b = omega arith

pred_lt : (z : ℕ) → 0 < z → z - 1 < z
pred_lt z h = omega arith

size-block : (q h w : ℕ) → 0 < size q → q * 2 ^ h ≤ w → w < suc q * 2 ^ h → size w ≡ size q + h
size-block q h w Z l u =
    let z = size q in
    let hi : w < 2 ^ (z + h) = lt_of_lt_of_le u (le_trans (mul-le-mul_right (2 ^ h) (size-lt q)) (le_of_eq (sym (pow-add 2 z h)))) in
    let lo : 2 ^ (z - 1 + h) ≤ w = le_trans (le_of_eq (pow-add 2 (z - 1) h)) (le_trans (mul-le-mul_right (2 ^ h) (size_reaches q (z - 1) (pred_lt z Z))) l) in
    join z h (size w) Z (size-le w (z + h) hi) (size-gt w (z - 1 + h) lo)

-- ---- `round` of a fraction num / c that lies strictly between 2 * q and 2 * q + 2, where q has more digits than the format keeps
-- how many digits of q are dropped, but for one
extra : Format → ℕ → ℕ
extra f q = size q - suc (prec f)

bare : Format → ℕ → ℕ
bare f q = nearest (q / (2 * 2 ^ extra f q)) (side (nat_lt (q % (2 * 2 ^ extra f q)) (2 ^ extra f q)))

split : (z p h : ℕ) → p < z → z + h - p ≡ suc (z - suc p) + h
split z p h l = omega arith

unit : (c j h : ℕ) → c * 2 ^ (suc j + h) ≡ 2 * 2 ^ j * (c * 2 ^ h)
unit c j h = ap (λ (z : ℕ). c * z) (pow-add 2 (suc j) h ∙ ap (λ (z : ℕ). z * 2 ^ h) (pow-succ' 2 j)) ∙ mul_left_comm c (2 * 2 ^ j) (2 ^ h)

positive : (z p : ℕ) → p < z → 0 < z
positive z p l = omega arith

round-between : (f : Format) (num c q : ℕ) → 0 < c → 2 ^ prec f ≤ q
    → q * (c * 2 ^ suc (low f)) < num * 2 ^ low f → num * 2 ^ low f < suc q * (c * 2 ^ suc (low f))
    → round f false num c ≡ units f false (bare f q) (size q + suc (low f) - prec f)
unfolding extra bare
round-between f num c q C Q l u =
    let h = suc (low f) in
    let j = size q - suc (prec f) in
    let n = num * 2 ^ low f in
    let Z : prec f < size q = size-gt q (prec f) Q in
    let lo : q * 2 ^ h ≤ n / c = (le-div_iff_mul-le C).1 (le_trans (le_of_eq (mul_assoc q (2 ^ h) c ∙ ap (λ (z : ℕ). q * z) (mul_comm (2 ^ h) c))) (le_of_lt l)) in
    let hi : n / c < suc q * 2 ^ h = (div-lt_iff_lt-mul C).1 (lt_of_lt_of_le u (le_of_eq (ap (λ (z : ℕ). suc q * z) (mul_comm c (2 ^ h)) ∙ sym (mul_assoc (suc q) (2 ^ h) c)))) in
    let k : size (n / c) - prec f ≡ size q + h - prec f = ap (λ (z : ℕ). z - prec f) (size-block q h (n / c) (positive (size q) (prec f) Z) lo hi) in
    let w : c * 2 ^ (size q + h - prec f) ≡ 2 * 2 ^ j * (c * 2 ^ h) = ap (λ (z : ℕ). c * 2 ^ z) (split (size q) (prec f) h Z) ∙ unit c j h in
    round_is f false num c
    ∙ ap (λ (z : ℕ). units f false (closest n (c * 2 ^ z)) z) k
    ∙ ap (λ (z : ℕ). units f false (closest n z) (size q + h - prec f)) w
    ∙ ap (λ (z : ℕ). units f false z (size q + h - prec f)) (between n (c * 2 ^ h) q (2 ^ j) (pow_pos j) l u)

-- ---- the law: a whole part q and a remainder r above 0 round as 2 * q + 1 does, both doubled
scaled-lt : (a b l : ℕ) → a < b → a * 2 ^ suc l < b * 2 * 2 ^ l
scaled-lt a b l h = lt_of_lt_of_le (mul-lt-mul_of_pos_right h (pow_pos (suc l))) (le_of_eq (ap (λ (z : ℕ). b * z) (pow-succ' 2 l) ∙ sym (mul_assoc b 2 (2 ^ l))))

scaled-gt : (a b l : ℕ) → a < b → a * 2 * 2 ^ l < b * 2 ^ suc l
scaled-gt a b l h = lt_of_le_of_lt (le_of_eq (mul_assoc a 2 (2 ^ l) ∙ ap (λ (z : ℕ). a * z) (sym (pow-succ' 2 l)))) (mul-lt-mul_of_pos_right h (pow_pos (suc l)))

next_up : (q c r : ℕ) → r < c → q * c + r < suc q * c
next_up q c r h = let e : suc q * c ≡ q * c + c = suc-mul q c in omega arith

more : (n r : ℕ) → 0 < r → n < n + r
more n r h = omega arith

some : (r c : ℕ) → r < c → 0 < c
some r c h = omega arith

odd-lo : (q l : ℕ) → q * (1 * 2 ^ suc l) < (2 * q + 1) * 2 ^ l
odd-lo q l =
    let a : q * (1 * 2 ^ suc l) ≡ 2 * q * 2 ^ l = ap (λ (z : ℕ). q * z) (one-mul (2 ^ suc l) ∙ pow-succ' 2 l) ∙ sym (mul_assoc q 2 (2 ^ l)) ∙ ap (λ (z : ℕ). z * 2 ^ l) (mul_comm q 2) in
    let b : (2 * q + 1) * 2 ^ l ≡ 2 * q * 2 ^ l + 1 * 2 ^ l = add-mul (2 * q) 1 (2 ^ l) in
    let p : 0 < 2 ^ l = pow_pos l in
    omega arith

odd-hi : (q l : ℕ) → (2 * q + 1) * 2 ^ l < suc q * (1 * 2 ^ suc l)
odd-hi q l =
    let a : suc q * (1 * 2 ^ suc l) ≡ suc q * 2 * 2 ^ l = ap (λ (z : ℕ). suc q * z) (one-mul (2 ^ suc l) ∙ pow-succ' 2 l) ∙ sym (mul_assoc (suc q) 2 (2 ^ l)) in
    let b : (2 * q + 1) * 2 ^ l < suc q * 2 * 2 ^ l = mul-lt-mul_of_pos_right (step q) (pow_pos l) in
    omega arith
  where
    step : (n : ℕ) → 2 * n + 1 < suc n * 2
    step n = omega arith

pub round-odd : (f : Format) (c q r : ℕ) → r < c → 0 < r → 2 ^ prec f ≤ q → round f false ((q * c + r) * 2) c ≡ round f false (2 * q + 1) 1
round-odd f c q r R S Q =
    round-between f ((q * c + r) * 2) c q (some r c R) Q
    (lt_of_le_of_lt (le_of_eq (sym (mul_assoc q c (2 ^ suc (low f))))) (scaled-lt (q * c) (q * c + r) (low f) (more (q * c) r S)))
    (lt_of_lt_of_le (scaled-gt (q * c + r) (suc q * c) (low f) (next_up q c r R)) (le_of_eq (mul_assoc (suc q) c (2 ^ suc (low f)))))
    ∙ sym (round-between f (2 * q + 1) 1 q (pow_pos 0) Q (odd-lo q (low f)) (odd-hi q (low f)))
