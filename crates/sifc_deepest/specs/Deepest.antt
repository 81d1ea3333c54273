-- Document 02, ask 14: the deepest script of a length. "For a length of n bytes, 1 to 255, give a script with the greatest number of counted calls active (as in
-- TooDeep), and that number." That the number is the greatest is shown in Depth.antt.
use Rattle.std.specs.Prelude.{ℕ, ◌≡◌, ◌+◌, ◌*◌, List, eqb, ltb, length, replicate, Option, Some, None}
use Rattle.sifc_word.specs.Base.{if◌then◌otherwise◌}
use Rattle.sifc_tokens.specs.Tokens.{padded}

-- the byte of `(`
abbrev pub opening : ℕ
opening = 40

-- the length from which on a script can be refusal 6
abbrev pub longest : ℕ
longest = 255

-- "It is 3 × n + 3"
abbrev pub depth_of : ℕ → ℕ
depth_of n = 3 * n + 3

-- "n opening parentheses are the script to give"
abbrev pub openings : ℕ → List ℕ
openings n = replicate n opening

-- an answer, the depth or none for "NoLength", and the buffer afterwards
pub record DeepestCall : Type 0 where
  pub answer : Option ℕ
  pub script : List ℕ

abbrev pub deepest_called : Option ℕ → List ℕ → DeepestCall
deepest_called x b = record { answer = x; script = b }

-- The call: from a length and the lent buffer to the answer and the buffer as it leaves it. "20 NoLength, at entry, for n of 0 or over 255 or a buffer shorter than
-- n; nothing is touched." After a success the buffer is 0 past the script.
unfoldable pub deepest_call : ℕ → List ℕ → DeepestCall
unfolding if◌then◌otherwise◌ padded
deepest_call n b =
    if eqb n 0 then deepest_called None b
    otherwise if ltb longest n then deepest_called None b
    otherwise if ltb (length b) n then deepest_called None b
    otherwise deepest_called (Some (depth_of n)) (padded (openings n) (length b))

-- ── the answer in numbers, as a host sees it ──

-- the depth, and the number of the refusal; what is not said is 0. Kind and offset of a refusal are 0
pub record DeepestNumbers : Type 0 where
  pub depth : ℕ
  pub number : ℕ

abbrev pub deepest_answer : ℕ → ℕ → DeepestNumbers
deepest_answer d n = record { depth = d; number = n }

abbrev pub deepest_numbers : Option ℕ → DeepestNumbers
deepest_numbers (Some d) = deepest_answer d 0
deepest_numbers None = deepest_answer 0 20

-- the numbers, and the buffer as it is
pub record DeepestTold : Type 0 where
  pub answer : DeepestNumbers
  pub script : List ℕ

abbrev pub deepest_told : DeepestNumbers → List ℕ → DeepestTold
deepest_told n b = record { answer = n; script = b }

unfoldable pub told_deepest : DeepestCall → DeepestTold
told_deepest c = deepest_told (deepest_numbers c.answer) c.script

-- what the call for hosts promises: what it says and leaves, of the length and the lent buffer
abbrev pub DeepestSaid : ℕ → List ℕ → DeepestNumbers → List ℕ → Type 0
DeepestSaid n lent said left = deepest_told said left ≡ told_deepest (deepest_call n lent)
