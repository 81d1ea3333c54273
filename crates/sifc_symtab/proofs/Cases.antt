-- Two numbers are equal or not, and one is below the other or not.
use Prim.Native.Nat.{ℕ, ◌≤◌, ◌<◌}
use mathlib.Core.Path.{◌≡◌, refl}
use mathlib.Core.Bool.{Bool, true, false}
use borrow.Author.Tests.{eqb-true, eqb-false, ltb-true, ltb-false}
use lib.Dec.{eqb, ltb}

-- x is y or not
pub by-eq : {A : Type 0} (x y : ℕ) → (x ≡ y → A) → ((x ≡ y → ⊥) → A) → A
by-eq {A} x y f g = go (eqb x y) refl
  where
    go : (b : Bool) → eqb x y ≡ b → A
    go true e = f (eqb-true x y e)
    go false e = g (eqb-false x y e)

-- x is below y or not
pub by-lt : {A : Type 0} (x y : ℕ) → (x < y → A) → (y ≤ x → A) → A
by-lt {A} x y f g = go (ltb x y) refl
  where
    go : (b : Bool) → ltb x y ≡ b → A
    go true e = f (ltb-true x y e)
    go false e = g (ltb-false x y e)
