-- What the walk needs of the tokens that lexing gives (StepLaws.antt, Toks), with a token's bytes for its worth.
use Rattle.std.specs.Prelude.{ℕ, zero, suc, ◌+◌, ◌≤◌, ◌<◌, List, [], ◌∷◌, Bool, true, false, ◌&&◌, not, ◌⊎◌, ◌≡◌, refl, T, eqb, ltb, length, take, drop}
use Rattle.std.proofs.Common.{inl, inr, subst, arith, T_not, ltb→lt, eqb-true}
use Rattle.std.proofs.lemmas.Bool.{eqb-false}
use Rattle.sifc_err.specs.declared.Token.{Token}
use Rattle.sifc_err.specs.declared.Ending.{Ending}
use Rattle.sifc_err.specs.declared.Ending.TheVariants.{TrueEnd, UnknownChar, UnterminatedString, Panic}
use Rattle.sifc_lex.specs.declared.lex.Step.{Step}
use Rattle.sifc_lex.specs.declared.lex.Step.TheVariants.{Skip, Word, Stop}
use Rattle.sifc_word.specs.Base.{member, same, span}
use Rattle.sifc_word.specs.BaseLaws.{and_left, and_right, if-either, same-lengths, length-span}
use Rattle.sifc_word.specs.Kind.{Var, Fn, For, Eof, LexPanic}
use Rattle.sifc_word.specs.Reserved.{reserved_words, kind_among, name_kind}
use Rattle.sifc_word.specs.Reserved as Reserved
use Rattle.sifc_lex.specs.Lex.{white, digit, letter, alnum, in_line, in_str, Sign, doubles, singles, single_kind, double_kind, one_sign, lex_sign, hash_comment, line_end, slash_comment, next_is, lex_slash, closed, lex_str, pointed, fraction, lex_num, lex_ident, step, end_kind, end_len, Lexed, ended, on_step, lex_from, lexed, lex}
use Rattle.sifc_lex.proofs.LexLaws.{Run, lex-runs}
use Rattle.sifc_lex.proofs.LexLaws.Run.{last, more}
use Rattle.sifc_def.specs.State.{Ctx, token_at}
use Rattle.sifc_def.proofs.OutcomeLaws.{by-test}
use Rattle.sifc_def.proofs.StepLaws.{Toks, Each, clash}

-- a token's length, where it is `var`, `fn` or `for`
abbrev Long : ℕ → ℕ → Type 0
Long k n = T (member k (Var ∷ Fn ∷ For ∷ [])) → 2 ≤ n

abbrev LongStep : Step → Type 0
LongStep (Skip n) = Unit {0}
LongStep (Word k n) = Long k n
LongStep (Stop n e) = Unit {0}

-- no sign of a table is one of the three
no_keyword : List Sign → Bool
no_keyword [] = true
no_keyword (s ∷ ss) = not (member s.kind (Var ∷ Fn ∷ For ∷ [])) && no_keyword ss

single-short : (ss : List Sign) (a : ℕ) → T (no_keyword ss) → T (member (single_kind ss a) (Var ∷ Fn ∷ For ∷ [])) → ⊥
unfolding no_keyword single_kind member
single-short [] a h t = t
single-short (s ∷ ss) a h t =
    by-test (eqb a s.first) s.kind (single_kind ss a) (λ (k : ℕ). T (member k (Var ∷ Fn ∷ For ∷ [])) → ⊥)
    (λ e u. T_not (member s.kind (Var ∷ Fn ∷ For ∷ [])) (and_left (not (member s.kind (Var ∷ Fn ∷ For ∷ []))) (no_keyword ss) h) u)
    (λ e u. single-short ss a (and_right (not (member s.kind (Var ∷ Fn ∷ For ∷ []))) (no_keyword ss) h) u) t

long-one : (a : ℕ) → LongStep (one_sign a)
unfolding one_sign no_keyword singles member
long-one a = if-either LongStep (eqb (single_kind singles a) 0) _ _ (λ e. tt) (λ e t. absurd (single-short singles a tt t))

long-sign : (a : ℕ) (bs : List ℕ) → LongStep (lex_sign a bs)
unfolding lex_sign
long-sign a [] = long-one a
long-sign a (d ∷ bs) = if-either LongStep (eqb (double_kind doubles a d) 0) _ _ (λ e. long-one a) (λ e t. omega arith)

same_length : (a d : List ℕ) → same a d ≡ true → length a ≡ length d
same_length a d e = go (eqb (length a) (length d)) refl
  where
    go : (q : Bool) → eqb (length a) (length d) ≡ q → length a ≡ length d
    go true p = eqb-true (length a) (length d) p
    go false p = absurd (clash e (same-lengths a d (eqb-false (length a) (length d) p)))

-- each reserved word has two bytes or more
long_words : List Reserved.Word → Bool
long_words [] = true
long_words (w ∷ ws) = ltb 1 (length w.word) && long_words ws

among : (ws : List Reserved.Word) (name : List ℕ) → T (long_words ws) → (kind_among ws name ≡ 31) ⊎ (2 ≤ length name)
unfolding kind_among long_words
among [] name h = inl refl
among (w ∷ ws) name h =
    by-test (same w.word name) w.kind (kind_among ws name) (λ (k : ℕ). (k ≡ 31) ⊎ (2 ≤ length name))
    (λ e. inr (let l : length w.word ≡ length name = same_length w.word name e in let m : 1 < length w.word = ltb→lt 1 (length w.word) (and_left (ltb 1 (length w.word)) (long_words ws) h) in omega arith))
    (λ e. among ws name (and_right (ltb 1 (length w.word)) (long_words ws) h))

long-ident : (a : ℕ) (bs : List ℕ) → LongStep (lex_ident a bs)
unfolding lex_ident name_kind long_words reserved_words member
long-ident a bs t = go (among reserved_words (a ∷ take (span alnum bs) bs) tt)
  where
    go : (kind_among reserved_words (a ∷ take (span alnum bs) bs) ≡ 31) ⊎ (2 ≤ length (a ∷ take (span alnum bs) bs)) → 2 ≤ 1 + span alnum bs
    go (inl e) = absurd (subst (λ (k : ℕ). T (member k (Var ∷ Fn ∷ For ∷ []))) e t)
    go (inr l) = omega (arith, length-span alnum bs)

long-line : (n : ℕ) (r : List ℕ) → LongStep (line_end n r)
unfolding line_end
long-line n [] = tt
long-line n (d ∷ r) = tt

long-slash : (bs : List ℕ) → LongStep (lex_slash bs)
unfolding lex_slash slash_comment member
long-slash bs = if-either LongStep (next_is 47 bs) _ _ (λ e. long-line (1 + span in_line bs) (drop (span in_line bs) bs)) (λ e t. absurd t)

long-str : (n : ℕ) (r : List ℕ) → LongStep (closed n r)
unfolding closed member
long-str n [] = tt
long-str n (d ∷ r) = λ t. absurd t

long-pointed : (n : ℕ) (r : List ℕ) → LongStep (pointed n r)
unfolding pointed member
long-pointed n [] = tt
long-pointed n (d ∷ r) = λ t. absurd t

long-fraction : (n : ℕ) (r : List ℕ) → LongStep (fraction n r)
unfolding fraction member
long-fraction n [] = λ t. absurd t
long-fraction n (d ∷ r) = if-either LongStep (eqb d 46) _ _ (λ e. long-pointed (n + 1 + span digit r) (drop (span digit r) r)) (λ e t. absurd t)

long-step : (s : List ℕ) → LongStep (step s)
unfolding step hash_comment lex_str lex_num
long-step [] = tt
long-step (a ∷ bs) =
    if-either LongStep (white a) _ _ (λ e. tt)
    (λ e₁. if-either LongStep (eqb a 35) _ _ (λ e. tt)
    (λ e₂. if-either LongStep (eqb a 47) _ _ (λ e. long-slash bs)
    (λ e₃. if-either LongStep (eqb a 34) _ _ (λ e. long-str (span in_str bs) (drop (span in_str bs) bs))
    (λ e₄. if-either LongStep (digit a) _ _ (λ e. long-fraction (1 + span digit bs) (drop (span digit bs) bs))
    (λ e₅. if-either LongStep (letter a) _ _ (λ e. long-ident a bs) (λ e₆. long-sign a bs))))))

-- ── the token list ──

abbrev LongToken : Token → Type 0
LongToken t = Long t.kind t.len

long-end : (e : Ending) → Long (end_kind e) (end_len e)
unfolding end_kind member
long-end TrueEnd t = absurd t
long-end UnknownChar t = absurd t
long-end UnterminatedString t = absurd t
long-end (Panic k) t = absurd t

long-on : (next : ℕ → List ℕ → Lexed) → ((o : ℕ) (r : List ℕ) → Each LongToken (next o r).toks) → (off : ℕ) (s : List ℕ) (t : Step) → LongStep t → Each LongToken (on_step next off s t).toks
unfolding on_step ended Each
long-on next h off s (Skip n) l = h (off + n) (drop n s)
long-on next h off s (Word k n) l = (l, h (off + n) (drop n s))
long-on next h off s (Stop n e) l = (long-end e, tt)

long-from : (f off : ℕ) (s : List ℕ) → Each LongToken (lex_from f off s).toks
unfolding lex_from ended Each
long-from zero off s = (long-end TrueEnd, tt)
long-from (suc f) off s = long-on (lex_from f) (λ o r. long-from f o r) off s (step s) (long-step s)

-- the bytes of the first i tokens
unfoldable pub worth : List Token → ℕ → ℕ
worth ts zero = 0
worth [] (suc i) = 0
worth (t ∷ ts) (suc i) = t.len + worth ts i

run-some : {n lo : ℕ} {ts : List Token} → Run n lo ts → 0 < length ts
run-some (last a d e k) = omega arith
run-some (more a d e k r) = omega arith

run_ends : {n lo : ℕ} {ts : List Token} → Run n lo ts → (i : ℕ) → i < length ts → eqb (token_at ts i).kind Eof ≡ false → eqb (token_at ts i).kind LexPanic ≡ false → suc i < length ts
run_ends (last {t = t} a d e (inl k)) zero h p q = absurd (eqb-false t.kind Eof p k)
run_ends (last {t = t} a d e (inr k)) zero h p q = absurd (eqb-false t.kind LexPanic q k.0)
run_ends (last a d e k) (suc i) h p q = absurd (omega arith)
run_ends (more a d e k r) zero h p q = omega (arith, run-some r)
run_ends (more a d e k r) (suc i) h p q = omega (arith, run_ends r i (omega arith) p q)

run-gain : {n lo : ℕ} {ts : List Token} → Run n lo ts → (i : ℕ) → suc i < length ts → suc (worth ts i) ≤ worth ts (suc i)
unfolding worth
run-gain (last a d e k) i h = absurd (omega arith)
run-gain (more a d e k r) zero h = omega arith
run-gain (more a d e k r) (suc i) h = omega (arith, run-gain r i (omega arith))

run-gains : {n lo : ℕ} {ts : List Token} → Run n lo ts → Each LongToken ts → (i : ℕ) → suc i < length ts → T (member (token_at ts i).kind (Var ∷ Fn ∷ For ∷ [])) → suc (suc (worth ts i)) ≤ worth ts (suc i)
unfolding worth Each
run-gains (last a d e k) l i h m = absurd (omega arith)
run-gains (more a d e k r) l zero h m = omega (arith, l.0 m)
run-gains (more a d e k r) l (suc i) h m = omega (arith, run-gains r l.1 i (omega arith) m)

run-worth : {n lo : ℕ} {ts : List Token} → Run n lo ts → (i : ℕ) → lo + worth ts i ≤ n
unfolding worth
run-worth (last a d e k) zero = omega arith
run-worth (last a d e k) (suc zero) = omega arith
run-worth (last a d e k) (suc (suc i)) = omega arith
run-worth (more a d e k r) zero = omega arith
run-worth (more a d e k r) (suc i) = omega (arith, run-worth r i)

-- The tokens of a script are as the walk needs them, and are worth at most its bytes.
pub lexed-toks : (c : Ctx) (s : List ℕ) → c.toks ≡ lex s → Toks c (worth (lex s))
unfolding lex lexed
lexed-toks c s e =
    let r : Run (length s) 0 (lex s) = lex-runs s in
    record {
      some = rw e (run-some r);
      ends = rw e (run_ends r);
      gain = rw e (run-gain r);
      gains = rw e (run-gains r (long-from (suc (length s)) 0 s));
    }

pub lexed-worth : (s : List ℕ) (i : ℕ) → worth (lex s) i ≤ length s
lexed-worth s i = omega (arith, run-worth (lex-runs s) i)
