-- The bound on turns never matters; and stepping a view through a script gives the token list of the definition (Lex.antt of sifc_lex).
use Rattle.std.specs.Prelude.{ℕ, zero, suc, min, ◌+◌, ◌-◌, ◌≤◌, ◌<◌, List, [], ◌∷◌, Bool, true, false, ◌≡◌, refl, T, ltb, drop}
use Rattle.std.proofs.Common.{sym, ◌∙◌, not-suc-le-zero, arith, lt-ltb, le-ltb, ltb-true, ltb-false, drop-drop}
use Rattle.std.proofs.Math.Path.{ap, subst}
use Rattle.std.proofs.Math.ListN.{length, length-drop}
use Rattle.sifc_err.specs.declared.Token.{Token}
use Rattle.sifc_err.specs.declared.Ending.{Ending}
use Rattle.sifc_err.specs.declared.Ending.TheVariants.{TrueEnd, UnknownChar, UnterminatedString, Panic}
use Rattle.sifc_lex.specs.declared.lex.Step.{Step}
use Rattle.sifc_lex.specs.declared.lex.Step.TheVariants.{Skip, Word, Stop}
use Rattle.sifc_word.specs.Base.{if◌then◌otherwise◌}
use Rattle.sifc_word.specs.Kind.{Eof}
use Rattle.sifc_lex.specs.Lex.{token, step, end_kind, end_len, ended, on_step, before, lexed as lexed_all, lex}
use Rattle.sifc_lex.proofs.LexLaws.{Fair, fair-step, lex_at, lex_at-turn}
use Rattle.sifc_view.specs.declared.next.Lexed.{Lexed}
use Rattle.sifc_view.specs.declared.view.Lexer.{Lexer}
use Rattle.sifc_view.specs.View.{lexed, on_next, next_from, next_of, clipped, next_at, viewed, stepped, stepping}

-- ── turns ──

-- two ways to go on that agree on fewer bytes agree after a turn
agree : (next next' : ℕ → List ℕ → Lexed) (off : ℕ) (s : List ℕ) → ((o : ℕ) (r : List ℕ) → length r < length s → next o r ≡ next' o r) → (t : Step) → Fair (length s) t → on_next next off s t ≡ on_next next' off s t
unfolding on_next Fair
agree next next' off s h (Skip n) b = let l = length-drop n s in h (off + n) (drop n s) (omega arith)
agree next next' off s h (Word k n) b = refl
agree next next' off s h (Stop n e) b = refl

-- any two bounds that exceed the number of bytes give the same token
enough : (f g off : ℕ) (s : List ℕ) → length s < f → length s < g → next_from f off s ≡ next_from g off s
unfolding next_from
enough zero g off s h k = absurd (not-suc-le-zero h)
enough (suc f) zero off s h k = absurd (not-suc-le-zero k)
enough (suc f) (suc g) off s h k = agree (next_from f) (next_from g) off s (λ o r l. enough f g o r (omega arith) (omega arith)) (step s) (fair-step s)

-- One turn, with no bound on turns to speak of.
pub next-turn : (off : ℕ) (s : List ℕ) → next_of off s ≡ on_next next_of off s (step s)
unfolding next_of next_from
next-turn off s = agree (next_from (length s)) next_of off s (λ o r l. enough (length s) (suc (length r)) o r l (omega arith)) (step s) (fair-step s)

-- ── a turn at an offset of a script ──

-- an offset in the script is itself
pub clipped-in : (off n : ℕ) → off ≤ n → clipped off n ≡ off
unfolding clipped if◌then◌otherwise◌
clipped-in off n h = simp (le-ltb n off h)

-- no offset is past the end
clipped-le : (off n : ℕ) → clipped off n ≤ n
unfolding clipped if◌then◌otherwise◌
clipped-le off n = go (ltb n off) refl
  where
    go : (b : Bool) → ltb n off ≡ b → (if b then n otherwise off) ≤ n
    go true e = omega arith
    go false e = ltb-false n off e

-- from an offset in the script on, nothing is clipped
pub next-in : (s : List ℕ) (off : ℕ) → off ≤ length s → next_at s off ≡ next_of off (drop off s)
unfolding next_at
next-in s off h = ap (λ (k : ℕ). next_of k (drop k s)) (clipped-in off (length s) h)

-- the lesser of an offset and the end
clipped-min : (off n : ℕ) → min off n ≡ clipped off n
unfolding clipped if◌then◌otherwise◌
clipped-min off n = go (ltb n off) refl
  where
    go : (b : Bool) → ltb n off ≡ b → min off n ≡ (if b then n otherwise off)
    go true e = let z = ltb-true n off e in omega arith
    go false e = let z = ltb-false n off e in omega arith

-- where a call begins
pub next_start : (s : List ℕ) (off at : ℕ) → at ≡ min off (length s) → (at ≤ length s) × (next_of at (drop at s) ≡ next_at s off)
unfolding next_at
next_start s off at m = let e : at ≡ clipped off (length s) = m ∙ clipped-min off (length s) in (subst (λ (k : ℕ). k ≤ length s) (sym e) (clipped-le off (length s)), ap (λ (k : ℕ). next_of k (drop k s)) e)

module _ (s : List ℕ) (off : ℕ) where
  -- bytes that are skipped
  pub next-skip : (n : ℕ) → step (drop off s) ≡ Skip n → next_of off (drop off s) ≡ next_of (off + n) (drop (off + n) s)
  unfolding on_next
  next-skip n e = next-turn off (drop off s) ∙ ap (on_next next_of off (drop off s)) e ∙ ap (next_of (off + n)) (drop-drop n off s)

  -- a token
  pub next_word : (k n : ℕ) → step (drop off s) ≡ Word k n → next_of off (drop off s) ≡ lexed (token k off n) (off + n)
  unfolding on_next
  next_word k n e = next-turn off (drop off s) ∙ ap (on_next next_of off (drop off s)) e

  -- the end
  next-stop : (n : ℕ) (x : Ending) → step (drop off s) ≡ Stop n x → next_of off (drop off s) ≡ lexed (token (end_kind x) (off + n) 0) off
  unfolding on_next
  next-stop n x e = next-turn off (drop off s) ∙ ap (on_next next_of off (drop off s)) e

  -- the same, with the kind as it was found
  pub next-stopped : (n k : ℕ) (x : Ending) → k ≡ end_kind x → step (drop off s) ≡ Stop n x → lexed (token k (off + n) 0) off ≡ next_of off (drop off s)
  next-stopped n k x f e = ap (λ (i : ℕ). lexed (token i (off + n) 0) off) f ∙ sym (next-stop n x e)

  -- what is skipped, and a token, lies in the script
  pub skip-in : (n : ℕ) → step (drop off s) ≡ Skip n → off ≤ length s → (0 < n) × (off + n ≤ length s)
  unfolding Fair
  skip-in n e h = let b : (0 < n) × (n ≤ length (drop off s)) = subst (Fair (length (drop off s))) e (fair-step (drop off s)) in (b.0, omega (arith, length-drop off s, b.1))

  -- a token lies in the script, and is not the last
  pub word_in : (k n : ℕ) → step (drop off s) ≡ Word k n → off ≤ length s → (0 < n) × (off + n ≤ length s) × (k < Eof)
  unfolding Fair
  word_in k n e h =
      let b : (0 < n) × (n ≤ length (drop off s)) × (0 < k) × (k ≤ 45) = subst (Fair (length (drop off s))) e (fair-step (drop off s)) in
      (b.0, omega (arith, length-drop off s, b.1), omega (arith, b.3))

  -- and so does the end
  pub stop-in : (n : ℕ) (x : Ending) → step (drop off s) ≡ Stop n x → off ≤ length s → off + n ≤ length s
  unfolding Fair
  stop-in n x e h =
      let b : (n ≤ length (drop off s)) × (end_kind x ≡ 48 → n < length (drop off s)) = subst (Fair (length (drop off s))) e (fair-step (drop off s)) in
      omega (arith, length-drop off s, b.0)

-- no test comes out both ways
never : true ≡ false → ⊥
never e = absurd (subst T e tt)

-- an Eof or a lexing panic
end-last : (x : Ending) → ltb (end_kind x) Eof ≡ false
unfolding end_kind
end-last TrueEnd = refl
end-last UnknownChar = refl
end-last UnterminatedString = refl
end-last (Panic k) = refl

-- ── the token list ──

-- the tokens from a token on, and those after it where it is not the last
abbrev onwards : List ℕ → Lexed → List Token
onwards s l = l.token ∷ (if ltb l.token.kind Eof then (lex_at l.next (drop l.next s)).toks otherwise [])

-- what a view meets: its token begins the list, and if it is not the last the view moves on inside the script
record Meets (s : List ℕ) (off : ℕ) (l : Lexed) : Type 0 where
  toks : (lex_at off (drop off s)).toks ≡ onwards s l
  on : ltb l.token.kind Eof ≡ true → (off < l.next) × (l.next ≤ length s)

-- bytes that are skipped change nothing of what is met
met-later : (s : List ℕ) (off n : ℕ) (l : Lexed) → step (drop off s) ≡ Skip n → Meets s (off + n) l → Meets s off l
unfolding on_step
met-later s off n l e m =
    record {
      toks = ap (λ x. x.toks) (lex_at-turn off (drop off s) ∙ ap (on_step lex_at off (drop off s)) e ∙ ap (lex_at (off + n)) (drop-drop n off s)) ∙ m.toks;
      on = λ t. let b = m.on t in (omega (arith, b.0), b.1);
    }

-- At every offset of a script the next token is so.
meets : (f : ℕ) (s : List ℕ) (off : ℕ) → off ≤ length s → length s - off < f → Meets s off (next_of off (drop off s))
unfolding on_step if◌then◌otherwise◌ ended end_len
meets zero s off h l = absurd (not-suc-le-zero l)
meets (suc f) s off h l = go (step (drop off s)) refl (λ n b c d. meets f s (off + n) b (omega arith))
  where
    go : (t : Step) → step (drop off s) ≡ t → ((n : ℕ) → off + n ≤ length s → 0 < n → length s - off < suc f → Meets s (off + n) (next_of (off + n) (drop (off + n) s))) → Meets s off (next_of off (drop off s))
    go (Skip n) e k = let b = skip-in s off n e h in subst (Meets s off) (sym (next-skip s off n e)) (met-later s off n (next_of (off + n) (drop (off + n) s)) e (k n b.1 b.0 l))
    go (Word w n) e k =
        let b = word_in s off w n e h in
        subst (Meets s off) (sym (next_word s off w n e))
        (record {
          toks = ap (λ x. x.toks) (lex_at-turn off (drop off s) ∙ ap (on_step lex_at off (drop off s)) e ∙ ap (λ r. before (token w off n) (lex_at (off + n) r)) (drop-drop n off s)) ∙ (let q : ltb w Eof ≡ true = lt-ltb w Eof b.2 in simp q);
          on = λ t. (omega (arith, b.0), b.1);
        })
    go (Stop n x) e k =
        subst (Meets s off) (sym (next-stop s off n x e))
        (record {
          toks = ap (λ y. y.toks) (lex_at-turn off (drop off s) ∙ ap (on_step lex_at off (drop off s)) e) ∙ (let q : ltb (end_kind x) Eof ≡ false = end-last x in simp q);
          on = λ t. absurd (never (sym t ∙ end-last x));
        })

-- the tokens after a token that a view meets
further : (f : ℕ) (s : List ℕ) (off : ℕ) (l : Lexed) → Meets s off l → ((o : ℕ) → off < o → o ≤ length s → (lex_at o (drop o s)).toks ≡ viewed f s o)
    → onwards s l ≡ l.token ∷ (if ltb l.token.kind Eof then viewed f s l.next otherwise [])
unfolding if◌then◌otherwise◌
further f s off l m k = ap (λ (ts : List Token). l.token ∷ ts) (go (ltb l.token.kind Eof) refl)
  where
    go : (b : Bool) → ltb l.token.kind Eof ≡ b → (if b then (lex_at l.next (drop l.next s)).toks otherwise []) ≡ (if b then viewed f s l.next otherwise [])
    go true e = let z = m.on e in k l.next z.0 z.1
    go false e = refl

-- from an offset on
viewed-from : (f : ℕ) (s : List ℕ) (off : ℕ) → off ≤ length s → length s - off < f → (lex_at off (drop off s)).toks ≡ viewed f s off
unfolding viewed
viewed-from zero s off h l = absurd (not-suc-le-zero l)
viewed-from (suc f) s off h l =
    let m = meets (suc f) s off h l in
    m.toks ∙ further f s off (next_of off (drop off s)) m (λ o a b. viewed-from f s o b (omega arith))
    ∙ ap (λ (x : Lexed). x.token ∷ (if ltb x.token.kind Eof then viewed f s x.next otherwise [])) (sym (next-in s off h))

-- The token list of a script is what stepping a view from its start gives.
pub lex-viewed : (s : List ℕ) → lex s ≡ viewed (suc (length s)) s 0
unfolding lex lexed_all lex_at
lex-viewed s = viewed-from (suc (length s)) s 0 (omega arith) (omega arith)

-- the view that lexing answers stands where lexing goes on
stepping-viewed : (f : ℕ) (v : Lexer) → stepping f v ≡ viewed f v.script.now v.off
unfolding stepping stepped viewed
stepping-viewed zero v = refl
stepping-viewed (suc f) v =
    ap (λ (ts : List Token). (next_at v.script.now v.off).token ∷ (if ltb (next_at v.script.now v.off).token.kind Eof then ts otherwise [])) (stepping-viewed f (stepped v).view)

-- Lexing a view at a script's start, and then each view that lexing answers, gives the script's token list.
pub lex-stepped : (v : Lexer) → v.off ≡ 0 → lex v.script.now ≡ stepping (suc (length v.script.now)) v
lex-stepped v e = lex-viewed v.script.now ∙ ap (viewed (suc (length v.script.now)) v.script.now) (sym e) ∙ sym (stepping-viewed (suc (length v.script.now)) v)
