-- Laws of the tokens call's answer: its count and its offset are small, so that 32 bits hold them. And of the arrays: what is padded is 0 past its elements.
use Rattle.std.specs.Prelude.{ℕ, zero, suc, ◌+◌, ◌-◌, ◌≤◌, ◌<◌, ◌≡◌, List, ◌++◌, not, eqb, ltb, length, drop, replicate}
use Rattle.std.proofs.Common.{ap, ◌∙◌, arith, not-suc-le-zero, zero-add, ltb-false, length-drop, length-append, drop_at}
use Rattle.std.proofs.lemmas.List.{length-replicate}
use Rattle.sifc_err.specs.declared.Ending.{Ending}
use Rattle.sifc_err.specs.declared.Ending.TheVariants.{TrueEnd, UnknownChar, UnterminatedString, Panic}
use Rattle.sifc_lex.specs.declared.lex.Step.{Step}
use Rattle.sifc_lex.specs.declared.lex.Step.TheVariants.{Skip, Word, Stop}
use Rattle.sifc_word.specs.Base.{span}
use Rattle.sifc_word.specs.BaseLaws.{span-le, if-either}
use Rattle.sifc_lex.specs.Lex.{ascii, Lexed, ended, on_step, step, lex_from, lexed, lex, ending, end_at}
use Rattle.sifc_lex.proofs.LexLaws.{Fair, fair-step, lex-count}
use Rattle.sifc_tokens.specs.Tokens.{padded, zeroed, TokensCall, by_ending, after_entry, tokens_call}
use Rattle.sifc_tokens.specs.Loaded.{Used}

turn-ends : (next : ℕ → List ℕ → Lexed) (off n : ℕ) (s : List ℕ) → off + length s ≡ n → ((o : ℕ) (r : List ℕ) → length r < length s → o + length r ≡ n → (next o r).at ≤ n)
    → (t : Step) → Fair (length s) t → (on_step next off s t).at ≤ n
unfolding on_step Fair ended
turn-ends next off n s e h (Skip k) b = let d = length-drop k s in h (off + k) (drop k s) (omega arith) (omega arith)
turn-ends next off n s e h (Word w k) b = let d = length-drop k s in h (off + k) (drop k s) (omega arith) (omega arith)
turn-ends next off n s e h (Stop k w) b = omega arith

lex_from-ends : (f off n : ℕ) (s : List ℕ) → length s < f → off + length s ≡ n → (lex_from f off s).at ≤ n
unfolding lex_from
lex_from-ends zero off n s h e = absurd (not-suc-le-zero h)
lex_from-ends (suc f) off n s h e = turn-ends (lex_from f) off n s e (λ o r k q. lex_from-ends f o n r (omega arith) q) (step s) (fair-step s)

-- The tokens end in the script or at its end.
pub end_at-le : (s : List ℕ) → end_at s ≤ length s
unfolding end_at lexed
end_at-le s = lex_from-ends (suc (length s)) 0 (length s) s (omega arith) (zero-add (length s))

-- what 32 bits hold
Small : TokensCall → Type 0
Small c = (c.answer.count ≤ 65536) × (c.answer.offset ≤ 65535)

small-ending : (e : Ending) (n at : ℕ) (offs words : List ℕ) → n ≤ 65536 → at ≤ 65535 → Small (by_ending e n at offs words)
unfolding by_ending Small
small-ending TrueEnd n at offs words h k = (h, omega arith)
small-ending UnknownChar n at offs words h k = (h, omega arith)
small-ending UnterminatedString n at offs words h k = (h, omega arith)
small-ending (Panic w) n at offs words h k = (omega arith, k)

small-entry : (s offs words : List ℕ) → length s ≤ 65535 → Small (after_entry s offs words)
unfolding after_entry Small
small-entry s offs words h =
    if-either Small (not (eqb (length offs) (length words))) _ _ (λ q. (omega arith, omega arith))
    (λ q. if-either Small (ltb (length offs) (length (lex s))) _ _ (λ p. (omega arith, omega arith)) (λ p. let c = lex-count s in let a = end_at-le s in small-ending (ending s) (length (lex s)) (end_at s) _ _ (omega arith) (omega arith)))

-- The count is at most 65,536, and the offset at most 65,535.
pub tokens-small : (s offs words : List ℕ) → ((tokens_call s offs words).answer.count ≤ 65536) × ((tokens_call s offs words).answer.offset ≤ 65535)
unfolding tokens_call Small
tokens-small s offs words =
    if-either Small (ltb 65535 (length s)) _ _ (λ q. (omega arith, omega arith))
    (λ q.
    let l = ltb-false 65535 (length s) q in
    if-either Small (ltb (span ascii s) (length s)) _ _ (λ p. let a = span-le ascii s in (omega arith, omega arith)) (λ p. small-entry s offs words l))

-- Of what is padded, as many elements are used as there were.
pub padded-used : (xs : List ℕ) (n m : ℕ) → length xs ≡ n → Used n (padded xs m)
unfolding padded
padded-used xs n m e =
    let l = length-append xs (replicate (m - length xs) 0) in
    let k = length-replicate {A = ℕ} (m - length xs) 0 in
    let rest : m - length xs ≡ length (xs ++ replicate (m - length xs) 0) - n = omega arith in
    record { fits = omega arith; past = drop_at xs (replicate (m - length xs) 0) n e ∙ ap (λ (i : ℕ). replicate i 0) rest }

-- Of an array that is set to 0, none is.
pub zeroed-used : (a : List ℕ) → Used 0 (zeroed a)
unfolding zeroed
zeroed-used a =
    let k = length-replicate {A = ℕ} (length a) 0 in
    let rest : length a ≡ length (replicate {A = ℕ} (length a) 0) - 0 = omega arith in
    record { fits = omega arith; past = ap (λ (i : ℕ). replicate i 0) rest }
