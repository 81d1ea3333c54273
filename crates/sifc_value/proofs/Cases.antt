-- Worked values: the literals of document 02's ask 1 with the bits of their values, and bytes that are no literal, by the definition alone.
use Rattle.std.specs.Prelude.{ℕ, Bool, true, false, ◌&&◌, T, List, [], ◌∷◌, ◌==◌, Option, Some, None, Float}
use Rattle.std.specs.Int.Count.{count_trailing_zeros}
use Rattle.std.specs.Float.{binary64}
use Rattle.std.specs.Float.Ieee.{round, to_bits, size, span as digit_span, climb, units, odd}
use Rattle.sifc_word.specs.Base.{if◌then◌otherwise◌, span, within}
use Rattle.sifc_lex.specs.Lex.{digit}
use Rattle.sifc_value.specs.Value.{digits_of, counted, places_of, numeral, ends, literal, value_of}

-- the answer is a number with these bits; it is none
has_bits : ℕ → Option Float → Bool
has_bits b (Some x) = to_bits binary64 x == b
has_bits b None = false

has_none : Option Float → Bool
has_none (Some x) = false
has_none None = true

pub record Case : Type 0 where
  pub bytes : List ℕ
  pub bits : ℕ

abbrev case : List ℕ → ℕ → Case
case s b = record { bytes = s; bits = b }

-- `0`, `5.`, `007.50`, `0.1`, `9007199254740993`, `9007199254740993.001`, `9007199254740995`, `4503599627370497.5`, `4503599627370498.5`, `9999999999999999999`, `0.000000000000000001`, `0000000000000000001`, `0.25`
pub values : List Case
values =
    case (48 ∷ []) 0x0 ∷
    case (53 ∷ 46 ∷ []) 0x4014000000000000 ∷
    case (48 ∷ 48 ∷ 55 ∷ 46 ∷ 53 ∷ 48 ∷ []) 0x401E000000000000 ∷
    case (48 ∷ 46 ∷ 49 ∷ []) 0x3FB999999999999A ∷
    case (57 ∷ 48 ∷ 48 ∷ 55 ∷ 49 ∷ 57 ∷ 57 ∷ 50 ∷ 53 ∷ 52 ∷ 55 ∷ 52 ∷ 48 ∷ 57 ∷ 57 ∷ 51 ∷ []) 0x4340000000000000 ∷
    case (57 ∷ 48 ∷ 48 ∷ 55 ∷ 49 ∷ 57 ∷ 57 ∷ 50 ∷ 53 ∷ 52 ∷ 55 ∷ 52 ∷ 48 ∷ 57 ∷ 57 ∷ 51 ∷ 46 ∷ 48 ∷ 48 ∷ 49 ∷ []) 0x4340000000000001 ∷
    case (57 ∷ 48 ∷ 48 ∷ 55 ∷ 49 ∷ 57 ∷ 57 ∷ 50 ∷ 53 ∷ 52 ∷ 55 ∷ 52 ∷ 48 ∷ 57 ∷ 57 ∷ 53 ∷ []) 0x4340000000000002 ∷
    case (52 ∷ 53 ∷ 48 ∷ 51 ∷ 53 ∷ 57 ∷ 57 ∷ 54 ∷ 50 ∷ 55 ∷ 51 ∷ 55 ∷ 48 ∷ 52 ∷ 57 ∷ 55 ∷ 46 ∷ 53 ∷ []) 0x4330000000000002 ∷
    case (52 ∷ 53 ∷ 48 ∷ 51 ∷ 53 ∷ 57 ∷ 57 ∷ 54 ∷ 50 ∷ 55 ∷ 51 ∷ 55 ∷ 48 ∷ 52 ∷ 57 ∷ 56 ∷ 46 ∷ 53 ∷ []) 0x4330000000000002 ∷
    case (57 ∷ 57 ∷ 57 ∷ 57 ∷ 57 ∷ 57 ∷ 57 ∷ 57 ∷ 57 ∷ 57 ∷ 57 ∷ 57 ∷ 57 ∷ 57 ∷ 57 ∷ 57 ∷ 57 ∷ 57 ∷ 57 ∷ []) 0x43E158E460913D00 ∷
    case (48 ∷ 46 ∷ 48 ∷ 48 ∷ 48 ∷ 48 ∷ 48 ∷ 48 ∷ 48 ∷ 48 ∷ 48 ∷ 48 ∷ 48 ∷ 48 ∷ 48 ∷ 48 ∷ 48 ∷ 48 ∷ 48 ∷ 49 ∷ []) 0x3C32725DD1D243AC ∷
    case (48 ∷ 48 ∷ 48 ∷ 48 ∷ 48 ∷ 48 ∷ 48 ∷ 48 ∷ 48 ∷ 48 ∷ 48 ∷ 48 ∷ 48 ∷ 48 ∷ 48 ∷ 48 ∷ 48 ∷ 48 ∷ 49 ∷ []) 0x3FF0000000000000 ∷
    case (48 ∷ 46 ∷ 50 ∷ 53 ∷ []) 0x3FD0000000000000 ∷
    []

-- nothing, `00000000000000000001`, `.5`, `5..`, `5.5.`, `1e5`, `+1`, `1_0`, `5 `, ` 5`, `-5`, `12345678901234567890`, `.`
pub no_values : List (List ℕ)
no_values =
    ([]) ∷
    (48 ∷ 48 ∷ 48 ∷ 48 ∷ 48 ∷ 48 ∷ 48 ∷ 48 ∷ 48 ∷ 48 ∷ 48 ∷ 48 ∷ 48 ∷ 48 ∷ 48 ∷ 48 ∷ 48 ∷ 48 ∷ 48 ∷ 49 ∷ []) ∷
    (46 ∷ 53 ∷ []) ∷
    (53 ∷ 46 ∷ 46 ∷ []) ∷
    (53 ∷ 46 ∷ 53 ∷ 46 ∷ []) ∷
    (49 ∷ 101 ∷ 53 ∷ []) ∷
    (43 ∷ 49 ∷ []) ∷
    (49 ∷ 95 ∷ 48 ∷ []) ∷
    (53 ∷ 32 ∷ []) ∷
    (32 ∷ 53 ∷ []) ∷
    (45 ∷ 53 ∷ []) ∷
    (49 ∷ 50 ∷ 51 ∷ 52 ∷ 53 ∷ 54 ∷ 55 ∷ 56 ∷ 57 ∷ 48 ∷ 49 ∷ 50 ∷ 51 ∷ 52 ∷ 53 ∷ 54 ∷ 55 ∷ 56 ∷ 57 ∷ 48 ∷ []) ∷
    (46 ∷ []) ∷
    []

pub right : List Case → Bool
right [] = true
right (c ∷ cs) = has_bits c.bits (value_of c.bytes) && right cs

pub refused : List (List ℕ) → Bool
refused [] = true
refused (s ∷ ss) = has_none (value_of s) && refused ss

-- each has the value, or the refusal, of the list
pub marked-values : T (right values && refused no_values)
unfolding right refused values no_values has_bits has_none value_of literal ends counted digits_of places_of numeral if◌then◌otherwise◌ span digit within round size digit_span climb units odd count_trailing_zeros to_bits
marked-values = tt
