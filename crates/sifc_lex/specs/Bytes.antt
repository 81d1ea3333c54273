-- The kind of a sign as the code answers it, and the greatest byte of a script.
use Rattle.std.specs.Prelude.{ℕ, zero, suc, List, [], ◌∷◌, Option, Some, None, ltb}
use Rattle.sifc_word.specs.Base.{if◌then◌otherwise◌}

-- a kind, where 0 is none
abbrev pub kind_if_any : ℕ → Option ℕ
kind_if_any zero = None
kind_if_any (suc k) = Some (suc k)

-- the greatest of m and the bytes s
unfoldable pub greatest_from : ℕ → List ℕ → ℕ
greatest_from m [] = m
greatest_from m (b ∷ bs) = greatest_from (if ltb m b then b otherwise m) bs
