-- The tests on a token's kind.
use Rattle.std.specs.Prelude.{ℕ, suc, ◌+◌, ◌≤◌, ◌<◌, ◌≡◌, ◌⊎◌, refl, Bool, true, false, ◌||◌, eqb}
use Rattle.std.proofs.Common.{arith, sym, ap, ◌∙◌, inl, inr, ne_eqb, eqb→eq}
use Rattle.std.proofs.lemmas.Bool.{eqb-false}
use Rattle.sifc_word.specs.Base.{if◌then◌otherwise◌, member}
use Rattle.sifc_def.specs.Expr.{looseness, is_unary, is_literal}

-- one of two numbers in a row
pub either : (a k : ℕ) → a ≤ k → k < a + 2 → (k ≡ a) ⊎ (k ≡ suc a)
either a k h l = which (eqb k a) refl
  where
    which : (b : Bool) → eqb k a ≡ b → (k ≡ a) ⊎ (k ≡ suc a)
    which true e = inl (eqb→eq k a (rw e tt))
    which false e = let ne : k ≡ a → ⊥ = eqb-false k a e in inr (omega (arith, ne, h, l))

pub loose-none : (k : ℕ) → (k ≡ 18 → ⊥) → (k ≡ 16 → ⊥) → (k ≡ 17 → ⊥) → (k ≡ 14 → ⊥) → (k ≡ 15 → ⊥) → (k ≡ 9 → ⊥) → (k ≡ 23 → ⊥) → (k ≡ 10 → ⊥) → (k ≡ 24 → ⊥) → (k ≡ 26 → ⊥) → (k ≡ 22 → ⊥) → (k ≡ 27 → ⊥) → (k ≡ 28 → ⊥) → 0 ≡ looseness k
unfolding looseness member if◌then◌otherwise◌
loose-none k a b c d e f g h i j l m n =
    rw (ne_eqb k 18 a, ne_eqb k 16 b, ne_eqb k 17 c, ne_eqb k 14 d, ne_eqb k 15 e, ne_eqb k 9 f, ne_eqb k 23 g, ne_eqb k 10 h, ne_eqb k 24 i, ne_eqb k 26 j, ne_eqb k 22 l, ne_eqb k 27 m, ne_eqb k 28 n) refl

pub not-literal : (k : ℕ) → (k ≡ 32 → ⊥) → (k ≡ 33 → ⊥) → (k ≡ 44 → ⊥) → (k ≡ 45 → ⊥) → false ≡ is_literal k
unfolding is_literal member
not-literal k a b c d = rw (ne_eqb k 32 a, ne_eqb k 33 b, ne_eqb k 44 c, ne_eqb k 45 d) refl

or-false : (b : Bool) → b ≡ b || false
or-false true = refl
or-false false = refl

-- the last of the four kinds decides
pub last-literal : (k : ℕ) → (k ≡ 32 → ⊥) → (k ≡ 33 → ⊥) → (k ≡ 44 → ⊥) → eqb k 45 ≡ is_literal k
unfolding is_literal member
last-literal k a b c = rw (ne_eqb k 32 a, ne_eqb k 33 b, ne_eqb k 44 c) (or-false (eqb k 45))

-- ── of Eof ──

pub literal-eof : is_literal 47 ≡ false
unfolding is_literal member
literal-eof = refl

pub unary-eof : is_unary 47 ≡ false
unfolding is_unary
unary-eof = refl

pub loose-eof : {n k : ℕ} → (n ≡ 0 → ⊥) → looseness k ≡ n → k ≡ 47 → ⊥
unfolding looseness if◌then◌otherwise◌ member
loose-eof {n} {k} f e h = f (sym e ∙ ap looseness h)
