-- The bits of a quotient, worked out a few at a time: what a step keeps and what it gains.
use Rattle.std.specs.Prelude.{◌≡◌, ℕ, ◌+◌, ◌*◌, ◌^◌, ◌<◌, ◌≤◌}

-- whole * five + rest is n times 2 to the power of shift
abbrev pub Holds : ℕ → ℕ → ℕ → ℕ → ℕ → Type 0
Holds five whole rest shift n = whole * five + rest ≡ n * 2 ^ shift

-- one step by `factor`, which is 2 to the power of `bits`
pub record Stepped (five whole rest shift factor bits whole' rest' shift' : ℕ) : Type 0 where
  pub equal : whole' * five + rest' ≡ (whole * five + rest) * factor
  pub less : rest' < five
  pub low : whole * factor ≤ whole'
  pub high : whole' < whole * factor + factor
  pub shifted : shift' ≡ shift + bits

-- what three steps need: nothing is lost, and from 12 bits on they reach 34, 52 and 54
pub record Deeper (five whole rest shift whole' rest' shift' : ℕ) : Type 0 where
  pub keeps : (n : ℕ) → Holds five whole rest shift n → Holds five whole' rest' shift' n
  pub less : rest' < five
  pub fits : whole' < 2 ^ 63
  pub shifted : shift' ≤ shift + 22
  pub once : 2 ^ 11 ≤ whole → 2 ^ 33 ≤ whole'
  pub twice : 2 ^ 33 ≤ whole → 2 ^ 51 ≤ whole'
  pub thrice : 2 ^ 51 ≤ whole → 2 ^ 53 ≤ whole'
