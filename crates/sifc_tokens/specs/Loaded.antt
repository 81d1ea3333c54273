-- What the loop over the turns leaves: the tokens in the front of the two arrays, or that they are too short.
use Rattle.std.specs.Prelude.{ℕ, Result, Ok, Err, ◌-◌, ◌≤◌, ◌<◌, ◌≡◌, List, length, take, drop, replicate}
use Rattle.sifc_err.specs.declared.Ending.{Ending}
use Rattle.sifc_err.specs.declared.Refusal.{Refusal}
use Rattle.sifc_err.specs.declared.Refusal.TheVariants.{TokensFull}
use Rattle.sifc_lex.specs.declared.lex.Ended.{Ended}
use Rattle.sifc_lex.specs.Lex.{lex, ending, end_at}
use Rattle.sifc_tokens.specs.Tokens.{offs_of, words_of}

pub record Held (s : List ℕ) (n : ℕ) (e : Ending) (at : ℕ) (offs words : List ℕ) : Type 0 where
  pub count : n ≡ length (lex s)
  pub ends : e ≡ ending s
  pub place : at ≡ end_at s
  pub at-offs : take n offs ≡ offs_of (lex s)
  pub at_words : take n words ≡ words_of (lex s)

abbrev pub LoadedBy : List ℕ → Result Ended Refusal → List ℕ → List ℕ → Type 0
LoadedBy s (Ok e) offs words = Held s e.count e.ending e.at offs words
LoadedBy s (Err r) offs words = (r ≡ TokensFull) × (length offs < length (lex s))

pub record Loaded (s offs words : List ℕ) (r : Result Ended Refusal) (offs' words' : List ℕ) : Type 0 where
  pub long-offs : length offs' ≡ length offs
  pub long-words : length words' ≡ length words
  pub by : LoadedBy s r offs' words'

-- how many elements of the arrays an answer uses
abbrev pub used_by : Result Ended Refusal → ℕ
used_by (Ok e) = e.count
used_by (Err r) = 0

-- an array of which n elements are used: those past them are 0
pub record Used (n : ℕ) (a : List ℕ) : Type 0 where
  pub fits : n ≤ length a
  pub past : drop n a ≡ replicate (length a - n) 0
