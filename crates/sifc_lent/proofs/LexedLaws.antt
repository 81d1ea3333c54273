-- The tokens of a script, as the walk wants them.
use Rattle.std.specs.Prelude.{ℕ, zero, suc, ◌-◌, ◌<◌, ◌≡◌, ◌⊎◌, List, ◌||◌, T, eqb, length, take, replicate}
use Rattle.std.proofs.Common.{sym, ◌∙◌, subst, inl, inr, arith, take_at}
use Rattle.std.proofs.lemmas.List.{length-map}
use Rattle.sifc_err.specs.declared.Token.{Token}
use Rattle.sifc_word.specs.Kind.{Eof, LexPanic}
use Rattle.sifc_lex.specs.Lex.{lex}
use Rattle.sifc_lex.proofs.LexLaws.{Run, lex-runs, lex-count}
use Rattle.sifc_lex.proofs.LexLaws.Run.{last, more}
use Rattle.sifc_tokens.specs.Tokens.{token_word, offs_of, words_of, padded}
use Rattle.sifc_def.specs.State.{token_at}
use Rattle.sifc_symtab.specs.Toks.{toks_of, SmallKinds, toks-back}
use Rattle.sifc_step.specs.Abs.{kind_at, Tokens}

run_small : {n lo : ℕ} {ts : List Token} → Run n lo ts → (i : ℕ) → i < length ts → (token_at ts i).kind < 64
run_small (last a d e (inl k)) zero h = omega arith
run_small (last a d e (inr k)) zero h = omega (arith, k.0)
run_small (last a d e k) (suc i) h = absurd (omega arith)
run_small (more a d e k r) zero h = omega (arith, k.1)
run_small (more a d e k r) (suc i) h = run_small r i (omega arith)

-- a kind fits its six bits
pub small-kinds : (s : List ℕ) → SmallKinds (lex s)
small-kinds s = run_small (lex-runs s)

-- what the arrays hold stands for the tokens
pub lexed-back : (s : List ℕ) → toks_of (offs_of (lex s)) (words_of (lex s)) ≡ lex s
lexed-back s = toks-back (lex s) (small-kinds s)

pub length-offs : (ts : List Token) → length (offs_of ts) ≡ length ts
unfolding offs_of
length-offs ts = length-map ts (λ (t : Token). t.off)

pub length-words : (ts : List Token) → length (words_of ts) ≡ length ts
unfolding words_of
length-words ts = length-map ts token_word

run-some : {n lo : ℕ} {ts : List Token} → Run n lo ts → 0 < length ts
run-some (last a d e k) = omega arith
run-some (more a d e k r) = omega arith

-- the last token is an Eof or a lexing panic
run-last : {n lo : ℕ} {ts : List Token} → Run n lo ts → (m : ℕ) → suc m ≡ length ts → (kind_at (words_of ts) m ≡ Eof) ⊎ (kind_at (words_of ts) m ≡ LexPanic)
unfolding words_of
run-last (last a d e (inl k)) zero h = inl (omega arith)
run-last (last a d e (inr k)) zero h = inr (omega (arith, k.0))
run-last (last a d e k) (suc m) h = absurd (omega arith)
run-last (more a d e k r) zero h = absurd (omega (arith, run-some r))
run-last (more a d e k r) (suc m) h = run-last r m (omega arith)

one_of : (k : ℕ) → (k ≡ Eof) ⊎ (k ≡ LexPanic) → T (eqb k Eof || eqb k LexPanic)
one_of k (inl e) = subst (λ (x : ℕ). T (eqb x Eof || eqb x LexPanic)) (sym e) tt
one_of k (inr e) = subst (λ (x : ℕ). T (eqb x Eof || eqb x LexPanic)) (sym e) tt

pub lexed-tokens : (s : List ℕ) → length s < 65536 → Tokens (offs_of (lex s)) (words_of (lex s))
lexed-tokens s h =
    let n : length (words_of (lex s)) ≡ length (lex s) = length-words (lex s) in
    let some : 0 < length (lex s) = run-some (lex-runs s) in
    record {
      few = omega (arith, lex-count s);
      even = length-offs (lex s) ∙ sym n;
      ends = one_of _ (run-last (lex-runs s) (length (words_of (lex s)) - 1) (omega arith));
    }

-- the used part of what lexing leaves
pub used-part : (xs : List ℕ) (n m : ℕ) → length xs ≡ n → take n (padded xs m) ≡ xs
unfolding padded
used-part xs n m e = take_at xs (replicate (m - length xs) 0) n e
