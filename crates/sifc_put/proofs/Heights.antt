-- How loosely a node binds, by its kind.
use Prim.Native.Nat.{ℕ, ◌%◌}
use mathlib.Core.Path.{◌≡◌, refl, sym, ◌∙◌}
use mathlib.Core.Logic.{◌⊎◌, inl, inr}
use lib.ListN.{get_or}
use borrow.Author.Tests.{eq-eqb, ne_eqb}
use Rattle.sifc_word.specs.Base.{if◌then◌otherwise◌, member}
use Rattle.sifc_def.specs.Expr.{looseness}
use Rattle.sifc_put.specs.declared.write.Writer.{Writer}
use Rattle.sifc_put.specs.Place.{token_of}
use Rattle.sifc_put.specs.Post.{height_at, height_of, kind_of}

module _ (p : Writer) where
  -- two operands: by the operator's token
  pub of-binary : {r : ℕ} → kind_of p ≡ 22 → r ≡ looseness (get_or p.tree.words.now (token_of p.tree.loads.now p.node) 0 % 64) → r ≡ height_of p
  unfolding height_at if◌then◌otherwise◌
  of-binary {r} k f = f ∙ sym (rw (eq-eqb (kind_of p) 22 k) refl)

  -- assignments and table accesses
  pub of-eight : {k : ℕ} → k ≡ kind_of p → (k ≡ 15) ⊎ (((k ≡ 15 → ⊥) × (k ≡ 19)) ⊎ ((k ≡ 15 → ⊥) × (k ≡ 19 → ⊥) × (k ≡ 21))) → 8 ≡ height_of p
  unfolding height_at if◌then◌otherwise◌ member
  of-eight e (inl k) = rw (sym e ∙ k) refl
  of-eight e (inr (inl k)) = rw (sym e ∙ k.1) refl
  of-eight e (inr (inr k)) = rw (sym e ∙ k.2) refl

  -- the rest
  pub of_none : {k : ℕ} → k ≡ kind_of p → (k ≡ 22 → ⊥) → (k ≡ 15 → ⊥) → (k ≡ 19 → ⊥) → (k ≡ 21 → ⊥) → 0 ≡ height_of p
  unfolding height_at if◌then◌otherwise◌ member
  of_none {k} e a b c d =
      rw (ne_eqb (kind_of p) 22 (λ x. a (e ∙ x)), ne_eqb (kind_of p) 15 (λ x. b (e ∙ x)), ne_eqb (kind_of p) 19 (λ x. c (e ∙ x)), ne_eqb (kind_of p) 21 (λ x. d (e ∙ x))) refl
