-- The answers of the calls, as a host sees them in numbers.
use Rattle.std.specs.Prelude.{ℕ, ◌≡◌, List, [], ◌∷◌, Option as Maybe, None, Some}
use Rattle.std.proofs.Math.Option.{Option, none, some}
use Rattle.sifc_err.specs.declared.Token.{Token}
use Rattle.sifc_err.specs.declared.parse_err.ParseErrTy.{ParseErrTy}
use Rattle.sifc_err.specs.ParseErr.{values_in}
use Rattle.sifc_tokens.specs.Tokens.{Answer, tokens_called, tokens_call}
use Rattle.sifc_def.specs.Answer.{Early, Reading}
use Rattle.sifc_def.specs.Read.{Arrays, ReadNumbers, read_numbers, TextNumbers, text_numbers, Called, called, reading, Written, text_call, bit}

abbrev pub answer : ℕ → ℕ → ℕ → ℕ → Answer
answer c n k o = record { count = c; number = n; kind = k; offset = o }

-- ── the error that ended a reading ──

-- the offset of the token that a reason carries
abbrev pub offset_in : Option Token → ℕ
offset_in none = 0
offset_in (some t) = t.off

abbrev pub first_of : List ℕ → ℕ
first_of [] = 0
first_of (n ∷ ns) = n

abbrev pub token_offset : Maybe (ParseErrTy Token) → ℕ
token_offset t = offset_in (values_in t).token

-- the expected kind or the count that a reason carries
abbrev pub first_value : Maybe (ParseErrTy Token) → ℕ
first_value t = first_of (values_in t).numbers

-- line, column, the reason's number, the offset of the token that it carries, and its first value; all 0 where none ended it
pub record EarlyNumbers : Type 0 where
  pub line : ℕ
  pub pos : ℕ
  pub number : ℕ
  pub offset : ℕ
  pub value : ℕ

abbrev pub early_numbers : ℕ → ℕ → ℕ → ℕ → ℕ → EarlyNumbers
early_numbers l p n o v = record { line = l; pos = p; number = n; offset = o; value = v }

abbrev pub early_of : Early → EarlyNumbers
early_of None = early_numbers 0 0 0 0 0
early_of (Some e) = early_numbers e.line e.pos (values_in e.ty).number (token_offset e.ty) (first_value e.ty)

-- ── the reading call ──

pub record ReadAnswer : Type 0 where
  pub tokens : ℕ
  pub nodes : ℕ
  pub errors : ℕ
  pub flag : ℕ
  pub early : EarlyNumbers
  pub number : ℕ
  pub kind : ℕ
  pub offset : ℕ

abbrev pub read_answer : ℕ → ℕ → ℕ → ℕ → EarlyNumbers → ℕ → ℕ → ℕ → ReadAnswer
read_answer t m e f y n k o = record { tokens = t; nodes = m; errors = e; flag = f; early = y; number = n; kind = k; offset = o }

abbrev pub told_of : ReadNumbers → ReadAnswer
told_of n = read_answer n.tokens n.nodes n.errors (bit n.flag) (early_of n.early) n.number n.kind n.offset

-- a reading's answer in numbers, and the arrays as they are
unfoldable pub told : Called Reading → Called ReadAnswer
told c = called (told_of (read_numbers c.answer)) c.arrays

-- ── the text call ──

abbrev pub text_answer : ℕ → ℕ → ℕ → ℕ → TextNumbers
text_answer c n k o = record { count = c; number = n; kind = k; offset = o }

-- a text call's answer in numbers, with the arrays and the buffer as they are
pub record TextTold : Type 0 where
  pub answer : TextNumbers
  pub arrays : Arrays
  pub text : List ℕ

abbrev pub text_told : TextNumbers → Arrays → List ℕ → TextTold
text_told n a t = record { answer = n; arrays = a; text = t }

unfoldable pub told_text : Written → TextTold
told_text w = text_told (text_numbers w.answer) w.arrays w.text

-- ── what the calls for hosts promise: what they answer and leave, of the script and what they are lent ──

abbrev pub TokensSaid : List ℕ → List ℕ → List ℕ → Answer → List ℕ → List ℕ → Type 0
TokensSaid s offs words said offs_left words_left = tokens_called said offs_left words_left ≡ tokens_call s offs words

abbrev pub ReadingSaid : List ℕ → Arrays → ReadAnswer → Arrays → Type 0
ReadingSaid s lent said left = called said left ≡ told (reading s lent)

-- the text call has its buffer beside the arrays
abbrev pub TextSaid : List ℕ → Arrays → List ℕ → TextNumbers → Arrays → List ℕ → Type 0
TextSaid s lent buffer said left text = text_told said left text ≡ told_text (text_call s lent buffer)
