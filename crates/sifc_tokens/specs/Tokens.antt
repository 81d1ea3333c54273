-- Document 01, "What is lent" and "Where a call says no": the answer of the tokens call and what it leaves in the two lent arrays.
use Rattle.std.specs.Prelude.{ℕ, ⊤, Result, Ok, Err, ◌+◌, ◌-◌, ◌*◌, List, ◌++◌, map, not, eqb, ltb, length, replicate}
use Rattle.sifc_err.specs.declared.Token.{Token}
use Rattle.sifc_err.specs.declared.Ending.{Ending}
use Rattle.sifc_err.specs.declared.Ending.TheVariants.{TrueEnd, UnknownChar, UnterminatedString, Panic}
use Rattle.sifc_err.specs.Refusal.{number_of, kind_of, offset_of}
use Rattle.sifc_lex.specs.declared.lex.Ended.{Ended}
use Rattle.sifc_err.specs.declared.Refusal.{Refusal}
use Rattle.sifc_err.specs.declared.Refusal.TheVariants.{LongScript, NotAscii, TokensFull}
use Rattle.sifc_word.specs.Base.{if◌then◌otherwise◌, span}
use Rattle.sifc_lex.specs.Lex.{ascii, lex, ending, end_at}

-- "Tokens: offset; kind + 64 × length (Str with its quotes)."
abbrev pub token_word : Token → ℕ
token_word t = t.kind + 64 * t.len

unfoldable pub offs_of : List Token → List ℕ
offs_of ts = map (λ (t : Token). t.off) ts

unfoldable pub words_of : List Token → List ℕ
words_of ts = map token_word ts

-- "All lent elements past the used part are 0": n elements in all
unfoldable pub padded : List ℕ → ℕ → List ℕ
padded used n = used ++ replicate (n - length used) 0

-- an array set to 0
unfoldable pub zeroed : List ℕ → List ℕ
zeroed a = replicate (length a) 0

-- Lexing into two arrays of one length, of a script that the entry tests let pass: 4 TokensFull where the tokens are more than the arrays hold.
pub record LexCall : Type 0 where
  pub answer : Result Ended Refusal
  pub offs : List ℕ
  pub words : List ℕ

abbrev pub lex_called : Result Ended Refusal → List ℕ → List ℕ → LexCall
lex_called a offs words = record { answer = a; offs = offs; words = words }

abbrev pub ended_with : ℕ → Ending → ℕ → Ended
ended_with n e o = record { count = n; ending = e; at = o }

unfoldable pub lex_call : List ℕ → List ℕ → List ℕ → LexCall
unfolding if◌then◌otherwise◌ lex ending end_at offs_of words_of padded zeroed
lex_call script offs words =
    if ltb (length offs) (length (lex script)) then lex_called (Err TokensFull) (zeroed offs) (zeroed words)
    otherwise lex_called (Ok (ended_with (length (lex script)) (ending script) (end_at script))) (padded (offs_of (lex script)) (length offs)) (padded (words_of (lex script)) (length words))

-- what the tests of entry answer: nothing, or a refusal
abbrev pub Checked : Type 0
Checked = Result ⊤ Refusal

abbrev pub passed : Checked
passed = Ok tt

-- "entry: 1 LongScript, over 65,535 bytes; 2 NotAscii, a byte of 128 or more; the first one's offset"
unfoldable pub check_of : List ℕ → Checked
unfolding if◌then◌otherwise◌ span ascii
check_of script =
    if ltb 65535 (length script) then Err LongScript
    otherwise if ltb (span ascii script) (length script) then Err (NotAscii (span ascii script))
    otherwise passed

-- What the tokens call answers, in this paper's numbers: the token count, or number, kind and offset of a refusal; the others are 0.
pub record Answer : Type 0 where
  pub count : ℕ
  pub number : ℕ
  pub kind : ℕ
  pub offset : ℕ

abbrev pub answer_of : Result ℕ Refusal → Answer
answer_of (Ok n) = record { count = n; number = 0; kind = 0; offset = 0 }
answer_of (Err r) = record { count = 0; number = number_of r; kind = kind_of r; offset = offset_of r }

-- the answer, and what the two arrays hold at exit
pub record TokensCall : Type 0 where
  pub answer : Answer
  pub offs : List ℕ
  pub words : List ℕ

abbrev pub tokens_called : Answer → List ℕ → List ℕ → TokensCall
tokens_called a offs words = record { answer = a; offs = offs; words = words }

abbrev pub refusal : ℕ → ℕ → ℕ → Answer
refusal n k o = record { count = 0; number = n; kind = k; offset = o }

abbrev pub counted : ℕ → Answer
counted n = record { count = n; number = 0; kind = 0; offset = 0 }

-- "The tokens call refuses every lexing panic with 5", its kind and its offset: of n tokens in the arrays that end at an offset.
unfoldable pub by_ending : Ending → ℕ → ℕ → List ℕ → List ℕ → TokensCall
unfolding zeroed
by_ending TrueEnd n at offs words = tokens_called (counted n) offs words
by_ending UnknownChar n at offs words = tokens_called (counted n) offs words
by_ending UnterminatedString n at offs words = tokens_called (counted n) offs words
by_ending (Panic k) n at offs words = tokens_called (refusal 5 k at) (zeroed offs) (zeroed words)

-- The call behind the tests on the script: 3 Uneven, 4 TokensFull, 5 SourceFault, or the tokens. "1 to 3 touch nothing; the others set every
-- lent output to 0."
unfoldable pub after_entry : List ℕ → List ℕ → List ℕ → TokensCall
unfolding if◌then◌otherwise◌ by_ending lex ending end_at offs_of words_of padded zeroed
after_entry script offs words =
    if not (eqb (length offs) (length words)) then tokens_called (refusal 3 0 0) offs words
    otherwise if ltb (length offs) (length (lex script)) then tokens_called (refusal 4 0 0) (zeroed offs) (zeroed words)
    otherwise by_ending (ending script) (length (lex script)) (end_at script) (padded (offs_of (lex script)) (length offs)) (padded (words_of (lex script)) (length words))

-- The tokens call, down the table of refusals.
unfoldable pub tokens_call : List ℕ → List ℕ → List ℕ → TokensCall
unfolding if◌then◌otherwise◌ after_entry ascii span
tokens_call script offs words =
    if ltb 65535 (length script) then tokens_called (refusal 1 0 0) offs words
    otherwise if ltb (span ascii script) (length script) then tokens_called (refusal 2 0 (span ascii script)) offs words
    otherwise after_entry script offs words
