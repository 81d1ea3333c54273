-- Number values: document 02, ask 1. A literal is digits over a power of ten in whole numbers, and its value is that fraction, rounded to the nearest f64, ties to even.
use Rattle.std.specs.Prelude.{◌≡◌, ℕ, suc, ◌+◌, ◌-◌, ◌*◌, ◌^◌, Bool, true, false, ◌&&◌, List, [], ◌∷◌, ◌++◌, length, take, drop, pos, ◌==◌, nat_lt, Float, Option, Some, None}
use Rattle.std.specs.Float.{fin, binary64}
use Rattle.std.specs.Float.Ieee.{round}
use Rattle.sifc_word.specs.Base.{if◌then◌otherwise◌, span}
use Rattle.sifc_lex.specs.Lex.{digit}

-- the digits of a literal, the point that may stand behind the first ones left out
unfoldable pub digits_of : List ℕ → List ℕ
unfolding span digit
digits_of s = take (span digit s) s ++ drop (suc (span digit s)) s

-- how many of them stand behind the point
unfoldable pub places_of : List ℕ → ℕ
unfolding span digit
places_of s = length s - suc (span digit s)

-- the digits as a whole number, behind those that n has already
unfoldable pub numeral : ℕ → List ℕ → ℕ
numeral n [] = n
numeral n (b ∷ bs) = numeral (n * 10 + (b - 48)) bs

-- how many digits count: all of them, leading zeros too
unfoldable pub counted : List ℕ → ℕ
unfolding digits_of
counted s = length (digits_of s)

-- what may follow the first digits: nothing, or a point and only digits
unfoldable pub ends : List ℕ → Bool
unfolding span digit
ends [] = true
ends (b ∷ bs) = b == 46 && span digit bs == length bs

-- "one or more digits with at most one point after the first of them", up to 19 digits, leading zeros counted
unfoldable pub literal : List ℕ → Bool
unfolding span digit ends counted
literal s = nat_lt 0 (span digit s) && ends (drop (span digit s) s) && nat_lt (counted s) 20

-- the value call: the value, or nothing where the bytes are no literal
unfoldable pub value_of : List ℕ → Option Float
unfolding literal numeral digits_of places_of if◌then◌otherwise◌
value_of s = if literal s then Some (round binary64 false (numeral 0 (digits_of s)) (10 ^ places_of s)) otherwise None

-- its answer in numbers: the refusal's number, 0 for none and 12 for bytes that are no literal, and the value, +0 where there is none
pub record Told : Type 0 where
  pub number : ℕ
  pub value : Float

abbrev pub told : ℕ → Float → Told
told n x = record { number = n; value = x }

unfoldable pub told_value : Option Float → Told
told_value (Some x) = told 0 x
told_value None = told 12 (fin false 0 (pos 0))

-- what the call for hosts promises: what it says of a literal
abbrev pub ValueSaid : List ℕ → Told → Type 0
ValueSaid s said = said ≡ told_value (value_of s)
