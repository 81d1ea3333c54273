-- The next token of a script from an offset on, and the tokens that stepping so gives.
use Rattle.std.specs.Prelude.{ℕ, zero, suc, ◌+◌, List, [], ◌∷◌, ltb, length, drop}
use Rattle.sifc_err.specs.declared.Token.{Token}
use Rattle.sifc_lex.specs.declared.lex.Step.{Step}
use Rattle.sifc_lex.specs.declared.lex.Step.TheVariants.{Skip, Word, Stop}
use Rattle.sifc_word.specs.Base.{if◌then◌otherwise◌}
use Rattle.sifc_word.specs.Kind.{Eof}
use Rattle.sifc_lex.specs.Lex.{token, step, end_kind}
use Rattle.sifc_view.specs.declared.next.Lexed.{Lexed}
use Rattle.sifc_view.specs.declared.view.Lexer.{Lexer}

-- a token, and where lexing goes on
abbrev pub lexed : Token → ℕ → Lexed
lexed t n = record { token = t; next = n }

-- what a turn gives, where next is what the bytes that are left from an offset on give: "gives Eof for good"
unfoldable pub on_next : (ℕ → List ℕ → Lexed) → ℕ → List ℕ → Step → Lexed
on_next next off s (Skip n) = next (off + n) (drop n s)
on_next next off s (Word k n) = lexed (token k off n) (off + n)
on_next next off s (Stop n e) = lexed (token (end_kind e) (off + n) 0) off

-- The next token of the bytes s that stand at offset off. The first argument bounds the turns.
unfoldable pub next_from : ℕ → ℕ → List ℕ → Lexed
next_from zero off s = lexed (token Eof off 0) off
next_from (suc f) off s = on_next (next_from f) off s (step s)

-- the same, with turns enough
unfoldable pub next_of : ℕ → List ℕ → Lexed
next_of off s = next_from (suc (length s)) off s

-- an offset past the end stands for the end
unfoldable pub clipped : ℕ → ℕ → ℕ
clipped off n = if ltb n off then n otherwise off

-- of a script, from any offset on
unfoldable pub next_at : List ℕ → ℕ → Lexed
next_at s off = next_of (clipped off (length s)) (drop (clipped off (length s)) s)

-- the tokens that stepping from an offset gives, so many at most: an Eof or a lexing panic is the last
unfoldable pub viewed : ℕ → List ℕ → ℕ → List Token
viewed zero s off = []
viewed (suc f) s off = (next_at s off).token ∷ (if ltb (next_at s off).token.kind Eof then viewed f s (next_at s off).next otherwise [])

-- a token, with the view moved on to where lexing goes on
pub record Stepped : Type 0 where
  pub token : Token
  pub view : Lexer

abbrev pub stepped_to : Token → Lexer → Stepped
stepped_to t v = record { token = t; view = v }

-- what lexing a view answers where l is found at its offset: the token, with the view moved on
abbrev moved_on_by : Lexer → Lexed → Stepped
moved_on_by v l = record { token = l.token; view = record { script = v.script; off = l.next } }

-- what lexing a view answers
unfoldable pub stepped : Lexer → Stepped
stepped v = moved_on_by v (next_at v.script.now v.off)

-- the tokens that lexing a view gives, so many at most, each from the view that the one before answered: an Eof or a lexing panic is the last
unfoldable pub stepping : ℕ → Lexer → List Token
stepping zero v = []
stepping (suc f) v = (stepped v).token ∷ (if ltb (stepped v).token.kind Eof then stepping f (stepped v).view otherwise [])
