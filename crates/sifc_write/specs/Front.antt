-- What writing a tree promises: the text in its buffer.
use Rattle.std.specs.Prelude.{ℕ, ◌≡◌, List, ltb, length, Err, Ok}
use Rattle.sifc_err.specs.declared.Refusal.TheVariants.{TextFull}
use Rattle.sifc_word.specs.Base.{if◌then◌otherwise◌}
use Rattle.sifc_tokens.specs.Tokens.{padded, zeroed}
use Rattle.sifc_def.specs.Answer.{Texting}
use Rattle.sifc_put.specs.Post.{Lang}

-- an answer, and the buffer afterwards
pub record Buffered : Type 0 where
  pub answer : Texting
  pub text : List ℕ

abbrev pub buffered : Texting → List ℕ → Buffered
buffered r t = record { answer = r; text = t }

-- the text w at the front of the buffer t and zeros behind it; refusal 11 and zeros where it is longer
unfoldable pub fitted : List ℕ → List ℕ → Buffered
fitted w t = if ltb (length t) (length w) then buffered (Err TextFull) (zeroed t) otherwise buffered (Ok (length w)) (padded w (length t))

-- Whatever thing of the kind ends before hi, its bytes are put so.
pub record Fronts (L : Lang) (t : List ℕ) (hi : ℕ) (r : Texting) (t' : List ℕ) : Type 0 where
  pub does : (x : L.T) (lo : ℕ) → L.S x lo hi → buffered r t' ≡ fitted (L.P x) t
