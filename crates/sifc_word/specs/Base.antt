-- Small tests and lists that every part of the definition uses.
use Rattle.std.specs.Prelude.{ℕ, suc, List, [], ◌∷◌, Bool, true, false, ◌&&◌, ◌||◌, eqb, leb, take, drop}

infixr 15 if◌then◌otherwise◌
-- shut: a proof that steps through a branch opens it by name
unfoldable pub if◌then◌otherwise◌ : {A : Type 0} → Bool → A → A → A
if◌then◌otherwise◌ true a b = a
if◌then◌otherwise◌ false a b = b

-- lo ≤ b ≤ hi
unfoldable pub within : ℕ → ℕ → ℕ → Bool
within lo hi b = leb lo b && leb b hi

unfoldable pub member : ℕ → List ℕ → Bool
member x [] = false
member x (y ∷ ys) = eqb x y || member x ys

-- byte for byte
unfoldable pub same : List ℕ → List ℕ → Bool
same [] [] = true
same [] (y ∷ ys) = false
same (x ∷ xs) [] = false
same (x ∷ xs) (y ∷ ys) = eqb x y && same xs ys

-- how many bytes at the front pass the test
unfoldable pub span : (ℕ → Bool) → List ℕ → ℕ
span p [] = 0
span p (b ∷ bs) = elim (p b) [ true ↦ suc (span p bs) | false ↦ 0 ]

-- the len bytes from off on
abbrev pub part : ℕ → ℕ → List ℕ → List ℕ
part off len s = take len (drop off s)
