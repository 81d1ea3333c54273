-- The calls' answers and what they leave in the lent arrays: reading, and canonical text.
use Rattle.std.specs.Prelude.{ℕ, ◌+◌, ◌*◌, ◌/◌, List, map, reverse, Bool, true, false, ◌&&◌, eqb, ltb, length, Err, None, Ok, Some}
use Rattle.std.proofs.Math.Option.{Option, none, some}
use Rattle.sifc_err.specs.declared.Token.{Token}
use Rattle.sifc_err.specs.declared.Ending.{Ending}
use Rattle.sifc_err.specs.declared.Ending.TheVariants.{TrueEnd, UnknownChar, UnterminatedString, Panic}
use Rattle.sifc_err.specs.declared.Refusal.{Refusal}
use Rattle.sifc_err.specs.declared.Refusal.TheVariants.{Uneven, TokensFull, Flagged, TextFull}
use Rattle.sifc_err.specs.Refusal.{number_of, kind_of, offset_of}
use Rattle.sifc_word.specs.Base.{if◌then◌otherwise◌}
use Rattle.sifc_lex.specs.Lex.{lex, ending}
use Rattle.sifc_tokens.specs.Tokens.{Checked, passed, offs_of, words_of, padded, zeroed, check_of}
use Rattle.sifc_def.specs.declared.Err.{Err as WalkErr}
use Rattle.sifc_def.specs.Answer.{Early, Reading, Texting}
use Rattle.sifc_def.specs.declared.Summary.{Summary}
use Rattle.sifc_def.specs.Error.{parse_err, err_place, err_reason}
use Rattle.sifc_def.specs.Label.{has_token, scope_of, text_of, labels}
use Rattle.sifc_def.specs.State.{Node, Ctx, Out, done, fail, refuse}
use Rattle.sifc_def.specs.Text.{text}
use Rattle.sifc_def.specs.Walk.{End, walk}

-- "a 769th call of `block`, `assign_expr`, `unary_expr` or `fn_call_expr` would be active"
abbrev pub depth_limit : ℕ
depth_limit = 768

-- "Symbols take four lent words each."
abbrev pub words_per_symbol : ℕ
words_per_symbol = 4

-- ── what is lent ──

-- two arrays for the tokens, two for the tree, the symbol words, two for the errors
pub record Arrays : Type 0 where
  pub offs : List ℕ
  pub words : List ℕ
  pub heads : List ℕ
  pub loads : List ℕ
  pub symbols : List ℕ
  pub places : List ℕ
  pub reasons : List ℕ

-- how many tokens, nodes, symbols and errors there is room for
pub record Rooms : Type 0 where
  pub tokens : ℕ
  pub nodes : ℕ
  pub symbols : ℕ
  pub errors : ℕ

abbrev pub rooms_of : Arrays → Rooms
rooms_of a = record { tokens = length a.offs; nodes = length a.heads; symbols = length a.symbols / words_per_symbol; errors = length a.places }

-- "the others set every lent output to 0 or blank"
abbrev pub cleared_arrays : Arrays → Arrays
cleared_arrays a =
    record {
      offs = zeroed a.offs;
      words = zeroed a.words;
      heads = zeroed a.heads;
      loads = zeroed a.loads;
      symbols = zeroed a.symbols;
      places = zeroed a.places;
      reasons = zeroed a.reasons;
    }

-- ── entry: refusals 1 to 3 ──

-- no "two parallel arrays differ in length"
unfoldable pub even : Arrays → Bool
even a = eqb (length a.offs) (length a.words) && (eqb (length a.heads) (length a.loads) && eqb (length a.places) (length a.reasons))

unfoldable pub entry : List ℕ → Arrays → Checked
entry s a = elim (check_of s) [ Err r ↦ Err r | Ok _ ↦ if even a then passed otherwise Err Uneven ]

-- ── the token list and the walk: refusals 4 to 9 ──

-- What a reading finds: its tokens, its nodes and its errors in order, has_err, and the error that ended it.
pub record Found : Type 0 where
  pub toks : List Token
  pub nodes : List Node
  pub errs : List WalkErr
  pub flag : Bool
  pub early : Option WalkErr

pub data Outcome : Type 0 where
  found : Found → Outcome
  refused : Refusal → Outcome

abbrev pub fault_of : Ending → ℕ
fault_of TrueEnd = 0
fault_of UnknownChar = 0
fault_of UnterminatedString = 0
fault_of (Panic k) = k

abbrev pub ctx_of : Rooms → List ℕ → Ctx
ctx_of r s = record { script = s; toks = lex s; fault = fault_of (ending s); node_room = r.nodes; sym_room = r.symbols; err_room = r.errors }

-- a walk does not fail (WalkLaws.antt), its declarations do
unfoldable pub ended : List Token → Out End → Outcome
ended ts (done e s) = found (record { toks = ts; nodes = reverse s.nodes; errs = reverse s.errs; flag = e.flag; early = e.early })
ended ts (fail e s) = found (record { toks = ts; nodes = reverse s.nodes; errs = reverse s.errs; flag = true; early = some e })
ended ts (refuse r) = refused r

-- "more tokens than the arrays hold, Eof or a lexing panic counted as one"
unfoldable pub read : Rooms → List ℕ → Outcome
read r s = elim (ltb r.tokens (length (lex s))) [ true ↦ refused TokensFull | false ↦ ended (lex s) (walk (ctx_of r s) depth_limit) ]

-- ── the reading call ──

abbrev pub bit : Bool → ℕ
bit true = 1
bit false = 0

-- "kind + 32 × flag + 64 × children"
abbrev pub head_word : Node → ℕ
head_word n = n.kind + 32 * bit n.flag + 64 * n.kids

-- an answer, and the arrays afterwards
pub record Called (A : Type 0) : Type 0 where
  pub answer : A
  pub arrays : Arrays

abbrev pub called : {A : Type 0} → A → Arrays → Called A
called x a = record { answer = x; arrays = a }

module _ (c : Ctx) where
  abbrev pub early_of : Option WalkErr → Early
  early_of none = None
  early_of (some e) = Some (parse_err c e)

  abbrev pub summary : Found → Summary
  summary f = record { tokens = length f.toks; nodes = length f.nodes; errors = length f.errs; flag = f.flag; early = early_of f.early }

  abbrev pub filled : Found → Arrays → Arrays
  filled f a =
      record {
        offs = padded (offs_of f.toks) (length a.offs);
        words = padded (words_of f.toks) (length a.words);
        heads = padded (map head_word f.nodes) (length a.heads);
        loads = padded (map (λ (n : Node). n.pay) f.nodes) (length a.loads);
        symbols = zeroed a.symbols;
        places = padded (map (err_place c) f.errs) (length a.places);
        reasons = padded (map (err_reason c) f.errs) (length a.reasons);
      }

unfoldable pub answered : List ℕ → Arrays → Outcome → Called Reading
answered s a (found f) = called (Ok (summary (ctx_of (rooms_of a) s) f)) (filled (ctx_of (rooms_of a) s) f a)
answered s a (refused r) = called (Err r) (cleared_arrays a)

-- The reading call: from the script and the lent arrays to the answer and the arrays as it leaves them. "1 to 3 touch nothing".
unfoldable pub reading : List ℕ → Arrays → Called Reading
unfolding even entry ended read answered walk lex ending offs_of words_of padded zeroed check_of parse_err err_place if◌then◌otherwise◌
reading s a = elim (entry s a) [ Err r ↦ called (Err r) a | Ok _ ↦ answered s a (read (rooms_of a) s) ]

-- ── the text call ──

-- an answer, the arrays and the text buffer afterwards
pub record Written : Type 0 where
  pub answer : Texting
  pub arrays : Arrays
  pub text : List ℕ

abbrev pub written : Texting → Arrays → List ℕ → Written
written x a t = record { answer = x; arrays = a; text = t }

-- the canonical text of what was found
unfoldable pub text_found : List ℕ → Found → List ℕ
text_found s f = text (labels s f.toks f.nodes)

-- refusals 10 and 11: "the reading's flag is up", "the text is longer than its buffer"
unfoldable pub texted : List ℕ → Arrays → List ℕ → Outcome → Written
texted s a t (refused r) = written (Err r) (cleared_arrays a) (zeroed t)
texted s a t (found f) =
    if f.flag then written (Err Flagged) (cleared_arrays a) (zeroed t)
    otherwise if ltb (length t) (length (text_found s f)) then written (Err TextFull) (cleared_arrays a) (zeroed t)
    otherwise written (Ok (length (text_found s f))) (filled (ctx_of (rooms_of a) s) f a) (padded (text_found s f) (length t))

-- The text call, with a text buffer. After a success the arrays hold what the reading leaves in them.
unfoldable pub text_call : List ℕ → Arrays → List ℕ → Written
unfolding even entry ended read text_found texted walk lex ending offs_of words_of padded zeroed check_of parse_err err_place text has_token scope_of text_of if◌then◌otherwise◌
text_call s a t = elim (entry s a) [ Err r ↦ written (Err r) a t | Ok _ ↦ texted s a t (read (rooms_of a) s) ]

-- ── the answers in this paper's numbers: "The answer is number, kind, offset, else zeros." ──

pub record ReadNumbers : Type 0 where
  pub tokens : ℕ
  pub nodes : ℕ
  pub errors : ℕ
  pub flag : Bool
  pub early : Early
  pub number : ℕ
  pub kind : ℕ
  pub offset : ℕ

abbrev pub read_numbers : Reading → ReadNumbers
read_numbers (Ok m) = record { tokens = m.tokens; nodes = m.nodes; errors = m.errors; flag = m.flag; early = m.early; number = 0; kind = 0; offset = 0 }
read_numbers (Err r) = record { tokens = 0; nodes = 0; errors = 0; flag = false; early = None; number = number_of r; kind = kind_of r; offset = offset_of r }

pub record TextNumbers : Type 0 where
  pub count : ℕ
  pub number : ℕ
  pub kind : ℕ
  pub offset : ℕ

abbrev pub text_numbers : Texting → TextNumbers
text_numbers (Ok n) = record { count = n; number = 0; kind = 0; offset = 0 }
text_numbers (Err r) = record { count = 0; number = number_of r; kind = kind_of r; offset = offset_of r }
