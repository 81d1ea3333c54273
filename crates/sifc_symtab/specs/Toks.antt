-- The tokens that the two lent arrays stand for: "Tokens: offset; kind + 64 × length (Str with its quotes)."
use Rattle.std.specs.Prelude.{ℕ, zero, suc, ◌+◌, ◌*◌, ◌/◌, ◌%◌, ◌≤◌, ◌<◌, ◌≡◌, refl, List, [], ◌∷◌, length, take, get_or}
use Rattle.std.proofs.Common.{sym, ap, ap₂, ◌∙◌, arith, le_of_suc-le-suc, not-suc-le-zero, get_or-take}
use Rattle.std.proofs.Math.ListN.{get_or-eq_default}
use Rattle.sifc_err.specs.declared.Token.{Token}
use Rattle.sifc_word.specs.Kind.{Eof}
use Rattle.sifc_lex.specs.Lex.{token}
use Rattle.sifc_tokens.specs.Tokens.{offs_of, words_of}
use Rattle.sifc_def.specs.State.{token_at}

-- the token of an offset and a token word
abbrev pub token_of : ℕ → ℕ → Token
token_of o w = token (w % 64) o (w / 64)

unfoldable pub toks_of : List ℕ → List ℕ → List Token
toks_of [] ws = []
toks_of (o ∷ os) [] = []
toks_of (o ∷ os) (w ∷ ws) = token_of o w ∷ toks_of os ws

-- as many as the arrays have elements
pub length-toks : (offs words : List ℕ) → length offs ≡ length words → length (toks_of offs words) ≡ length offs
unfolding toks_of
length-toks [] words e = refl
length-toks (o ∷ os) [] e = absurd (let z : ⊥ = omega arith in z)
length-toks (o ∷ os) (w ∷ ws) e = ap suc (length-toks os ws (let z : length os ≡ length ws = omega arith in z))

-- the token at an index
pub toks-at : (offs words : List ℕ) (i : ℕ) → i < length offs → i < length words → token_at (toks_of offs words) i ≡ token_of (get_or offs i 0) (get_or words i 0)
unfolding toks_of
toks-at [] words i h k = absurd (not-suc-le-zero h)
toks-at (o ∷ os) [] i h k = absurd (not-suc-le-zero k)
toks-at (o ∷ os) (w ∷ ws) zero h k = refl
toks-at (o ∷ os) (w ∷ ws) (suc i) h k = toks-at os ws i (le_of_suc-le-suc h) (le_of_suc-le-suc k)

-- none past the end of an array
pub toks-past-offs : (offs words : List ℕ) (i : ℕ) → length offs ≤ i → token_at (toks_of offs words) i ≡ token Eof 0 0
unfolding toks_of
toks-past-offs [] words i h = get_or-eq_default [] (token Eof 0 0) {n = i} (omega arith)
toks-past-offs (o ∷ os) [] i h = get_or-eq_default [] (token Eof 0 0) {n = i} (omega arith)
toks-past-offs (o ∷ os) (w ∷ ws) zero h = absurd (not-suc-le-zero h)
toks-past-offs (o ∷ os) (w ∷ ws) (suc i) h = toks-past-offs os ws i (le_of_suc-le-suc h)

pub toks-past-words : (offs words : List ℕ) (i : ℕ) → length words ≤ i → token_at (toks_of offs words) i ≡ token Eof 0 0
unfolding toks_of
toks-past-words [] words i h = get_or-eq_default [] (token Eof 0 0) {n = i} (omega arith)
toks-past-words (o ∷ os) [] i h = get_or-eq_default [] (token Eof 0 0) {n = i} (omega arith)
toks-past-words (o ∷ os) (w ∷ ws) zero h = absurd (not-suc-le-zero h)
toks-past-words (o ∷ os) (w ∷ ws) (suc i) h = toks-past-words os ws i (le_of_suc-le-suc h)

-- the tokens of the front of both arrays
pub toks-take : (n : ℕ) (offs words : List ℕ) → toks_of (take n offs) (take n words) ≡ take n (toks_of offs words)
unfolding toks_of
toks-take zero offs words = refl
toks-take (suc n) [] words = refl
toks-take (suc n) (o ∷ os) [] = refl
toks-take (suc n) (o ∷ os) (w ∷ ws) = ap (λ (l : List Token). token_of o w ∷ l) (toks-take n os ws)

-- A kind fits its six bits of a token word.
abbrev pub SmallKinds : List Token → Type 0
SmallKinds ts = (i : ℕ) → i < length ts → (token_at ts i).kind < 64

-- What the lexer leaves stands for its tokens.
pub toks-back : (ts : List Token) → SmallKinds ts → toks_of (offs_of ts) (words_of ts) ≡ ts
unfolding toks_of offs_of words_of
toks-back [] h = refl
toks-back (t ∷ ts) h =
    let z : t.kind < 64 = h 0 (omega arith) in
    let k : (t.kind + 64 * t.len) % 64 ≡ t.kind = omega arith in
    let l : (t.kind + 64 * t.len) / 64 ≡ t.len = omega arith in
    ap₂ ◌∷◌ (ap₂ (λ (x y : ℕ). token x t.off y) k l) (toks-back ts (λ i j. h (suc i) (let z : suc i < suc (length ts) = omega arith in z)))

-- Arrays whose front is what the lexer leaves of ts have its token at each of its indices, whatever stands past them.
pub toks-front : (ts : List Token) (n : ℕ) (offs words : List ℕ) → SmallKinds ts → take n offs ≡ offs_of ts → take n words ≡ words_of ts → take n (toks_of offs words) ≡ ts
toks-front ts n offs words h eo ew = sym (toks-take n offs words) ∙ ap₂ toks_of eo ew ∙ toks-back ts h

pub tokens-agree : (ts : List Token) (n : ℕ) (offs words : List ℕ) → SmallKinds ts → take n offs ≡ offs_of ts → take n words ≡ words_of ts
    → (i : ℕ) → i < n → token_at (toks_of offs words) i ≡ token_at ts i
tokens-agree ts n offs words h eo ew i k = sym (get_or-take n (toks_of offs words) i (token Eof 0 0) k) ∙ ap (λ (l : List Token). token_at l i) (toks-front ts n offs words h eo ew)
