-- The two halves meet in the typed program: a script read with the flag down, and any script whose tokens have the words of its print.
use Rattle.std.specs.Prelude.{ℕ, ◌≡◌, refl, List, map, false, not, T, eqb}
use Rattle.std.proofs.Common.{sym, ◌∙◌, subst}
use Rattle.sifc_word.specs.Kind.{LexPanic}
use Rattle.sifc_def.specs.State.{Ctx, St, Out, done, W, word_in, tok_at, word_at}
use Rattle.sifc_def.specs.Label.{Lab}
use Rattle.sifc_def.specs.Walk.{End, walk}
use Rattle.sifc_def.specs.Typed.{Stmts, pr_program, renc_program, OkProgram}
use Rattle.sifc_def.proofs.Round.{Res, labelled}
use Rattle.sifc_def.proofs.Round.Program.{ReadAs, program-read}
use Rattle.sifc_def.proofs.Round.Sound.{Win}
use Rattle.sifc_def.proofs.Round.Sound.Program.{IsProgram, program-is-typed}

-- no lexing panic ends the tokens
abbrev pub Calm : Ctx → Type 0
Calm c = (i : ℕ) → eqb (tok_at c i).kind LexPanic ≡ false

-- the words of a script's tokens
abbrev pub words_of : Ctx → List W
words_of c = map (word_in c.script) c.toks

-- the word of one of the script's tokens
pub record Token' (c : Ctx) (x : W) : Type 0 where
  pub place : ℕ
  pub is : word_at c place ≡ x

-- a typed program whose words are the script's tokens
abbrev pub Typed' : Ctx → End → St → Type 0
Typed' c e s = IsProgram c (Token' c) (λ i. record { place = i; is = refl }) e s

-- a reading that is done with the flag down is a typed program
pub typed-of : (c : Ctx) (depth : ℕ) (e : End) (s : St) → walk c depth ≡ done e s → e.flag ≡ false → Typed' c e s
unfolding Win
typed-of c depth e s w f =
    let h : Win (done e s) (λ e' s'. T (not e'.flag) → Typed' c e' s') = subst (λ (o : Out End). Win o (λ e' s'. T (not e'.flag) → Typed' c e' s')) w (program-is-typed c (Token' c) (λ i. record { place = i; is = refl }) depth) in
    h (rw f tt)

-- AGAIN: whoever reads the print of what was read with the flag down reads the same tree, flag down, unless a refusal 6 to 9 is given. Depth limits and rooms are
-- each reading's own.
pub again : (c c' : Ctx) (depth depth' : ℕ) (e : End) (s : St) (w : walk c depth ≡ done e s) (f : e.flag ≡ false) → Calm c' → words_of c' ≡ pr_program (typed-of c depth e s w f).trees
    → Res (walk c' depth') (ReadAs c' (map (labelled c) s.nodes))
again c c' depth depth' e s w f calm sees =
    let p : Typed' c e s = typed-of c depth e s w f in
    subst (λ (L : List Lab). Res (walk c' depth') (ReadAs c' L)) (sym p.labs) (program-read c' p.trees depth' calm sees p.fit)

-- two programs with the same words have the same labels, as soon as some reading of these words is not refused
pub same-words : (c : Ctx) (depth : ℕ) (e : End) (s : St) (ts us : Stmts) → Calm c → words_of c ≡ pr_program ts → pr_program ts ≡ pr_program us → OkProgram ts → OkProgram us → walk c depth ≡ done e s → renc_program ts ≡ renc_program us
unfolding Res
same-words c depth e s ts us calm sees eq k k' w =
    let a : ReadAs c (renc_program ts) e s = subst (λ (o : Out End). Res o (ReadAs c (renc_program ts))) w (program-read c ts depth calm sees k) in
    let b : ReadAs c (renc_program us) e s = subst (λ (o : Out End). Res o (ReadAs c (renc_program us))) w (program-read c us depth calm (sees ∙ eq) k') in
    sym a.labs ∙ b.labs
