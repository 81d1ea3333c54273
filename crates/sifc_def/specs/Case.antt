-- How a case is written: a script, and what the papers say of it. `ran` is what the definitions give.
use Rattle.std.specs.Prelude.{ℕ, suc, ◌+◌, ◌-◌, ◌*◌, ◌/◌, ◌%◌, List, [], ◌∷◌, map, Bool, length, replicate, get_or, Err, None, Ok, Some}
use Prim.Native.String.{String}
use Rattle.sifc_err.specs.declared.Token.{Token}
use Rattle.sifc_err.specs.declared.Refusal.{Refusal}
use Rattle.sifc_err.specs.ParseErr.{values_in}
use Rattle.sifc_tokens.specs.declared.place.Place.{Place}
use Rattle.sifc_word.specs.Kind.{Eof}
use Rattle.sifc_lex.specs.Lex.{token, lex}
use Rattle.sifc_tokens.specs.Place.{place_of, place}
use Rattle.sifc_tokens.specs.Tokens.{offs_of, words_of, padded, zeroed}
use Rattle.sifc_def.specs.Answer.{Early, Reading, Texting}
use Rattle.sifc_def.specs.Ascii.{ascii}
use Rattle.sifc_def.specs.State.{Node}
use Rattle.sifc_def.specs.Read.{Arrays, Called, called, Written, cleared_arrays, head_word, reading, text_call}

-- arrays for so many tokens, nodes, symbols and errors: not of zeros, so that what is cleared shows
abbrev pub lent_of : ℕ → ℕ → ℕ → ℕ → Arrays
lent_of t k y e =
    record {
      offs = replicate t 9;
      words = replicate t 9;
      heads = replicate k 9;
      loads = replicate k 9;
      symbols = replicate (4 * y) 9;
      places = replicate e 9;
      reasons = replicate e 9;
    }

abbrev pub lent : Arrays
lent = lent_of 40 40 10 9

-- a listed error: line, column, reason number, and what it carries, as Error.antt packs it
pub record Listed : Type 0 where
  pub line : ℕ
  pub column : ℕ
  pub number : ℕ
  pub first : ℕ
  pub second : ℕ

abbrev pub listed : ℕ → ℕ → ℕ → ℕ → ℕ → Listed
listed l p n a b = record { line = l; column = p; number = n; first = a; second = b }

-- the whole answer and all arrays of a reading in `lent` with these tokens, nodes, errors, flag and ending error
abbrev pub answers : List Token → List Node → List Listed → Bool → Early → Called Reading
answers ts ns es f e =
    called (Ok (record { tokens = length ts; nodes = length ns; errors = length es; flag = f; early = e })) (record {
      offs = padded (offs_of ts) 40;
      words = padded (words_of ts) 40;
      heads = padded (map head_word ns) 40;
      loads = padded (map (λ (n : Node). n.pay) ns) 40;
      symbols = zeroed lent.symbols;
      places = padded (map (λ (x : Listed). 65536 * (x.line - 1) + x.column) es) 9;
      reasons = padded (map (λ (x : Listed). x.number + 16 * x.first + 1048576 * x.second) es) 9;
    })

abbrev pub refuses : Refusal → Called Reading
refuses r = called (Err r) (cleared_arrays lent)

-- a reading in short: a refusal, or the node count, the errors, the flag, and the place and number of the ending error
pub data Short : Type 0 where
  no : Refusal → Short
  ok : ℕ → List Listed → Bool → Short
  early : ℕ → List Listed → ℕ → ℕ → ℕ → Short

-- `reads`: a reading in `lent`. `says`: a reading with room for so many nodes, symbols and errors, in short. `writes`: a text call with a buffer of so many
-- bytes, its answer and the text. `ends`: the place of the script's last token.
pub data Case : Type 0 where
  reads : String → Called Reading → Case
  says : ℕ → ℕ → ℕ → List ℕ → Short → Case
  writes : ℕ → String → Texting → String → Case
  ends : String → ℕ → ℕ → Case

pub data Result : Type 0 where
  read : Called Reading → Result
  short : Short → Result
  text : Texting → List ℕ → Result
  stands : Place → Result

unfoldable pub errors : ℕ → List ℕ → List ℕ → List Listed
errors n [] ws = []
errors ℕ.zero (p ∷ ps) ws = []
errors (suc n) (p ∷ ps) [] = []
errors (suc n) (p ∷ ps) (w ∷ ws) = listed (suc (p / 65536)) (p % 65536) (w % 16) (w / 16 % 65536) (w / 1048576) ∷ errors n ps ws

unfoldable pub short_end : ℕ → List Listed → Bool → Early → Short
short_end n es f None = ok n es f
short_end n es f (Some x) = early n es x.line x.pos (values_in x.ty).number

unfoldable pub short_of : Arrays → Reading → Short
unfolding errors short_end
short_of a (Err r) = no r
short_of a (Ok m) = short_end m.nodes (errors m.errors a.places a.reasons) m.flag m.early

unfoldable pub last_place : List ℕ → Place
unfolding lex place_of
last_place s = place_of s (get_or (lex s) (length (lex s) - 1) (token Eof 0 0)).off

-- a call leaves its text, or zeros
unfoldable pub text_left : ℕ → Texting → String → List ℕ
unfolding padded
text_left n (Ok m) t = padded (ascii t) n
text_left n (Err r) t = replicate n 0

unfoldable pub ran : Case → Result
unfolding reading text_call last_place short_of
ran (reads s x) = read (reading (ascii s) lent)
ran (says k y e s x) = let r : Called Reading = reading s (lent_of 2000 k y e) in short (short_of r.arrays r.answer)
ran (writes n s x t) = let w : Written = text_call (ascii s) (lent_of 200 200 50 50) (replicate n 9) in text w.answer w.text
ran (ends s l p) = stands (last_place (ascii s))

unfoldable pub said : Case → Result
unfolding text_left offs_of words_of padded zeroed
said (reads s x) = read x
said (says k y e s x) = short x
said (writes n s x t) = text x (text_left n x t)
said (ends s l p) = stands (place l p)
