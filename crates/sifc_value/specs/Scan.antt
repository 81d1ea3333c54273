-- What reading digits out of a literal gives.
use Rattle.std.specs.Prelude.{◌≡◌, ℕ, ◌+◌, ◌-◌, ◌^◌, ◌<◌, ◌≤◌, List, take, drop}
use Rattle.sifc_word.specs.Base.{span}
use Rattle.sifc_lex.specs.Lex.{digit}
use Rattle.sifc_value.specs.Value.{numeral}

-- the digits of s from an index up to another: either all of a run, or up to the end
pub record Read (s : List ℕ) (from end before number scale next : ℕ) : Type 0 where
  pub start : from ≤ next
  pub stop : next ≤ end
  pub number_is : number ≡ numeral before (take (next - from) (drop from s))
  pub scale-is : scale ≡ 10 ^ (next - from)
  pub small : number < 10 ^ (19 - (end - next))
  pub rest : next + span digit (drop next s) ≡ from + span digit (drop from s)
  pub whole : next < end → next ≡ from + span digit (drop from s)
