-- What the walk over all declarations may assume of what it is lent, and what its small functions promise.
use Rattle.std.specs.Prelude.{ℕ, ◌<◌, ◌≡◌, List, Bool, true, length, Result, Ok, Err as Stopped}
use Rattle.sifc_err.specs.declared.Refusal.{Refusal}
use Rattle.sifc_lex.specs.Lex.{lex}
use Rattle.sifc_word.specs.Kind.{LexPanic}
use Rattle.sifc_def.specs.Why.{Why}
use Rattle.sifc_err.specs.ParseErr.{continuable_of}
use Rattle.sifc_def.specs.Walk.{End, end}
use Rattle.sifc_symtab.specs.Table.{Holds}
use Rattle.sifc_symtab.specs.Toks.{toks_of}
use Rattle.sifc_step.specs.declared.walk.Limits.{Limits}
use Rattle.sifc_step.specs.declared.walk.Parser.{Parser}
use Rattle.sifc_step.specs.declared.walk.Walked.{Walked}
use Rattle.sifc_step.specs.Abs.{Walk, walk_of, kind_at, Tokens}
use Rattle.sifc_step.specs.Book.{last_of}
use Rattle.sifc_block.specs.declared.book.Book.{Book}

-- the tokens are those of the script, and each pair of arrays is even
pub record Starts (s os ks hs ls ps rs : List ℕ) (l : Limits) : Type 0 where
  pub toks : Tokens os ks
  pub lexed : toks_of os ks ≡ lex s
  pub short : length s < 65536
  pub even : length hs ≡ length ls
  pub even-errors : length ps ≡ length rs
  pub room : l.errors ≡ length ps

-- "Only TknMismatch and FnParmCntExceeded end the reading."
abbrev pub does_go_on : Why → Bool
does_go_on w = continuable_of w

abbrev pub start_walk : Walk
start_walk = record { at = 0; nodes = 0; symbols = 0; level = 0; errors = 0; check = true }

-- nothing read yet, no panic in front and no symbol in the table
pub record Started (p : Parser) (b : Book) : Type 0 where
  pub starts : Starts p.script.now p.offs.now p.words.now p.head.now p.load.now b.places.now b.reasons.now p.lim
  pub new : walk_of p ≡ start_walk
  pub calm : kind_at p.words.now 0 ≡ LexPanic → ⊥
  pub holds : Holds p.script.now p.offs.now p.words.now p.symbols.now 0

-- how a walk ends, in the definition
abbrev pub ended : Result Walked Refusal → Result End Refusal
ended (Ok w) = Ok (end w.flag (last_of w.last))
ended (Stopped f) = Stopped f
