-- Laws of lexing that the layers above use: a turn takes a byte or ends, so the bound on turns never matters (`lex_at-turn`); a token
-- list ends in exactly one token of kind 47 or 48, its offsets rise and its parts lie in the script (`lex-runs`), and it has at most one
-- token more than the script has bytes (`lex-count`).
use Rattle.std.specs.Prelude.{ℕ, zero, suc, ◌+◌, ◌≤◌, ◌<◌, ◌≡◌, refl, List, [], ◌∷◌, map, Bool, true, false, ◌&&◌, ◌⊎◌, T, eqb, leb, take, drop, length}
use Rattle.std.proofs.Common.{ap, inl, inr, not-suc-le-zero, zero-add, leb→le, length-drop}
use native.Mathlib.Omega.{arith}
use Rattle.std.proofs.lemmas.Bool.{eqb-false}
use Rattle.sifc_err.specs.declared.Token.{Token}
use Rattle.sifc_err.specs.declared.Ending.{Ending}
use Rattle.sifc_err.specs.declared.Ending.TheVariants.{TrueEnd, UnknownChar, UnterminatedString, Panic}
use Rattle.sifc_lex.specs.declared.lex.Step.{Step}
use Rattle.sifc_lex.specs.declared.lex.Step.TheVariants.{Skip, Word, Stop}
use Rattle.sifc_word.specs.Base.{if◌then◌otherwise◌, span, same}
use Rattle.sifc_word.specs.BaseLaws.{and_left, and_right, span-le, rest_of}
use Rattle.sifc_word.specs.Reserved.{reserved_words, kind_among, name_kind}
use Rattle.sifc_word.specs.Reserved as Reserved
use Rattle.sifc_lex.specs.Lex.{white, digit, letter, alnum, in_line, in_str, Sign, doubles, singles, single_kind, double_kind, one_sign, lex_sign, hash_comment, line_end, slash_comment, closed, lex_str, pointed, fraction, lex_num, lex_ident, next_is, lex_slash, step, end_kind, end_len, Lexed, before, ended, token, on_step, lex_from, lexed, lex}

pos_of_ne_zero : (k : ℕ) → (k ≡ 0 → ⊥) → 0 < k
pos_of_ne_zero zero h = absurd (h refl)
pos_of_ne_zero (suc k) h = omega arith

-- What a turn on m bytes gives: it takes at least one byte and none that is not there; a token's kind is from 1 to 45; a panic stands at a byte.
unfoldable pub Fair : ℕ → Step → Type 0
Fair m (Skip n) = (0 < n) × (n ≤ m)
Fair m (Word k n) = (0 < n) × (n ≤ m) × (0 < k) × (k ≤ 45)
Fair m (Stop n e) = (n ≤ m) × (end_kind e ≡ 48 → n < m)

fair-if : (m : ℕ) (q : Bool) (x y : Step) → Fair m x → Fair m y → Fair m (if q then x otherwise y)
unfolding if◌then◌otherwise◌
fair-if m true x y f g = f
fair-if m false x y f g = g

fair-hash : (bs : List ℕ) → Fair (suc (length bs)) (hash_comment bs)
unfolding hash_comment Fair
fair-hash bs = let h = span-le in_line bs in (omega arith, omega arith)

fair-line_end : (n m : ℕ) (r : List ℕ) → 0 < n → n + length r ≤ suc m → Fair (suc m) (line_end n r)
unfolding line_end Fair end_kind
fair-line_end n m [] h k = (omega arith, λ e. omega arith)
fair-line_end n m (c ∷ r) h k = (h, omega arith)

fair-slash : (bs : List ℕ) → Fair (suc (length bs)) (slash_comment bs)
unfolding slash_comment
fair-slash bs = let h = rest_of in_line bs in fair-line_end (1 + span in_line bs) (length bs) (drop (span in_line bs) bs) (omega arith) (omega arith)

fair-lex_slash : (bs : List ℕ) → Fair (suc (length bs)) (lex_slash bs)
unfolding lex_slash Fair
fair-lex_slash bs = fair-if (suc (length bs)) (next_is 47 bs) _ _ (fair-slash bs) (omega arith, omega arith, omega arith, omega arith)

absurd-kind : {X : Type 0} → ◌≡◌ {A = ℕ} 47 48 → X
absurd-kind e = absurd (let z : ⊥ = omega arith in z)

fair-closed : (n m : ℕ) (r : List ℕ) → n + length r ≤ m → Fair (suc m) (closed n r)
unfolding closed Fair end_kind
fair-closed n m [] k = (omega arith, λ e. absurd-kind e)
fair-closed n m (c ∷ r) k = (omega arith, omega arith, omega arith, omega arith)

fair-str : (bs : List ℕ) → Fair (suc (length bs)) (lex_str bs)
unfolding lex_str
fair-str bs = let h = rest_of in_str bs in fair-closed (span in_str bs) (length bs) (drop (span in_str bs) bs) (omega arith)

fair-pointed : (n m : ℕ) (r : List ℕ) → 0 < n → n + length r ≤ m → Fair m (pointed n r)
unfolding pointed Fair end_kind
fair-pointed n m [] h k = (omega arith, λ e. omega arith)
fair-pointed n m (c ∷ r) h k = (h, omega arith, omega arith, omega arith)

fair-fraction : (n m : ℕ) (r : List ℕ) → 0 < n → n + length r ≤ m → Fair m (fraction n r)
unfolding fraction Fair
fair-fraction n m [] h k = (h, omega arith, omega arith, omega arith)
fair-fraction n m (c ∷ r) h k =
    fair-if m (eqb c 46) _ _ (let e = rest_of digit r in fair-pointed (n + 1 + span digit r) m (drop (span digit r) r) (omega arith) (omega arith))
    (h, omega arith, omega arith, omega arith)

fair-num : (bs : List ℕ) → Fair (suc (length bs)) (lex_num bs)
unfolding lex_num
fair-num bs = let h = rest_of digit bs in fair-fraction (1 + span digit bs) (suc (length bs)) (drop (span digit bs) bs) (omega arith) (omega arith)

-- every kind of a table is from 1 to 45
good_kinds : List ℕ → Bool
good_kinds [] = true
good_kinds (k ∷ ks) = (leb 1 k && leb k 45) && good_kinds ks

good-head : (k : ℕ) (ks : List ℕ) → T (good_kinds (k ∷ ks)) → (0 < k) × (k ≤ 45)
unfolding good_kinds
good-head k ks t =
    let h = and_left (leb 1 k && leb k 45) (good_kinds ks) t in
    (leb→le 1 k (and_left (leb 1 k) (leb k 45) h), leb→le k 45 (and_right (leb 1 k) (leb k 45) h))

good-tail : (k : ℕ) (ks : List ℕ) → T (good_kinds (k ∷ ks)) → T (good_kinds ks)
unfolding good_kinds
good-tail k ks t = and_right (leb 1 k && leb k 45) (good_kinds ks) t

fair-kind : (ws : List Reserved.Word) (name : List ℕ) → T (good_kinds (map (λ (w : Reserved.Word). w.kind) ws)) → (0 < kind_among ws name) × (kind_among ws name ≤ 45)
unfolding kind_among if◌then◌otherwise◌
fair-kind [] name t = (omega arith, omega arith)
fair-kind (w ∷ ws) name t = go (same w.word name) (good-head w.kind _ t) (fair-kind ws name (good-tail w.kind _ t))
  where
    go : (q : Bool) → (0 < w.kind) × (w.kind ≤ 45) → (0 < kind_among ws name) × (kind_among ws name ≤ 45)
        → (0 < (if q then w.kind otherwise kind_among ws name)) × ((if q then w.kind otherwise kind_among ws name) ≤ 45)
    go true h k = h
    go false h k = k

fair-ident : (b : ℕ) (bs : List ℕ) → Fair (suc (length bs)) (lex_ident b bs)
unfolding lex_ident Fair name_kind good_kinds reserved_words
fair-ident b bs =
    let h = span-le alnum bs in
    let k = fair-kind reserved_words (b ∷ take (span alnum bs) bs) tt in
    (omega arith, omega arith, k.0, k.1)

-- a kind out of a table of signs, where it is not 0
sign_kinds : List Sign → List ℕ
sign_kinds ss = map (λ (s : Sign). s.kind) ss

fair-single_kind : (ss : List Sign) (b : ℕ) → T (good_kinds (sign_kinds ss)) → single_kind ss b ≤ 45
unfolding single_kind sign_kinds if◌then◌otherwise◌
fair-single_kind [] b t = omega arith
fair-single_kind (s ∷ ss) b t = go (eqb b s.first) (good-head s.kind _ t) (fair-single_kind ss b (good-tail s.kind _ t))
  where
    go : (q : Bool) → (0 < s.kind) × (s.kind ≤ 45) → single_kind ss b ≤ 45 → (if q then s.kind otherwise single_kind ss b) ≤ 45
    go true h k = h.1
    go false h k = k

fair-double_kind : (ss : List Sign) (b c : ℕ) → T (good_kinds (sign_kinds ss)) → double_kind ss b c ≤ 45
unfolding double_kind sign_kinds if◌then◌otherwise◌
fair-double_kind [] b c t = omega arith
fair-double_kind (s ∷ ss) b c t = go (eqb b s.first && eqb c s.second) (good-head s.kind _ t) (fair-double_kind ss b c (good-tail s.kind _ t))
  where
    go : (q : Bool) → (0 < s.kind) × (s.kind ≤ 45) → double_kind ss b c ≤ 45 → (if q then s.kind otherwise double_kind ss b c) ≤ 45
    go true h k = h.1
    go false h k = k

-- a sign of n bytes out of m, whose kind is k, or what else there is where k is 0
fair-kinded : (k n m : ℕ) (x : Step) → k ≤ 45 → 0 < n → n ≤ m → Fair m x → Fair m (if eqb k 0 then x otherwise Word k n)
unfolding if◌then◌otherwise◌ Fair
fair-kinded k n m x h p l f = go (eqb k 0) refl
  where
    go : (q : Bool) → eqb k 0 ≡ q → Fair m (if q then x otherwise Word k n)
    go true e = f
    go false e = let z = eqb-false k 0 e in (p, l, pos_of_ne_zero k z, h)

fair-one : (b m : ℕ) → Fair (suc m) (one_sign b)
unfolding one_sign good_kinds singles sign_kinds
fair-one b m = fair-kinded (single_kind singles b) 1 (suc m) (Stop 0 UnknownChar) (fair-single_kind singles b tt) (omega arith) (omega arith) (unfold Fair end_kind in (omega arith, λ e. absurd-kind e))

fair-sign : (b : ℕ) (bs : List ℕ) → Fair (suc (length bs)) (lex_sign b bs)
unfolding lex_sign good_kinds doubles sign_kinds
fair-sign b [] = fair-one b 0
fair-sign b (c ∷ bs) = fair-kinded (double_kind doubles b c) 2 (suc (suc (length bs))) (one_sign b) (fair-double_kind doubles b c tt) (omega arith) (omega arith) (fair-one b (suc (length bs)))

pub fair-step : (s : List ℕ) → Fair (length s) (step s)
unfolding step Fair end_kind
fair-step [] = (omega arith, λ e. absurd-kind e)
fair-step (b ∷ bs) =
    fair-if _ (white b) _ _ (omega arith, omega arith)
    (fair-if _ (eqb b 35) _ _ (fair-hash bs)
    (fair-if _ (eqb b 47) _ _ (fair-lex_slash bs)
    (fair-if _ (eqb b 34) _ _ (fair-str bs)
    (fair-if _ (digit b) _ _ (fair-num bs) (fair-if _ (letter b) _ _ (fair-ident b bs) (fair-sign b bs))))))

-- Two ways to go on that agree on fewer bytes agree after a turn.
on_step-agree : (next next' : ℕ → List ℕ → Lexed) (off : ℕ) (s : List ℕ) → ((o : ℕ) (r : List ℕ) → length r < length s → next o r ≡ next' o r)
    → (t : Step) → Fair (length s) t → on_step next off s t ≡ on_step next' off s t
unfolding on_step Fair
on_step-agree next next' off s h (Skip n) b = let l = length-drop n s in h (off + n) (drop n s) (omega arith)
on_step-agree next next' off s h (Word w n) b = let l = length-drop n s in ap (before (token w off n)) (h (off + n) (drop n s) (omega arith))
on_step-agree next next' off s h (Stop n e) b = refl

-- The bound on turns never matters: any two that exceed the number of bytes give the same tokens.
pub lex_from-enough : (f g off : ℕ) (s : List ℕ) → length s < f → length s < g → lex_from f off s ≡ lex_from g off s
unfolding lex_from
lex_from-enough zero g off s h k = absurd (not-suc-le-zero h)
lex_from-enough (suc f) zero off s h k = absurd (not-suc-le-zero k)
lex_from-enough (suc f) (suc g) off s h k = on_step-agree (lex_from f) (lex_from g) off s (λ o r l. lex_from-enough f g o r (omega arith) (omega arith)) (step s) (fair-step s)

-- The tokens of the bytes s at an offset, with turns enough.
unfoldable pub lex_at : ℕ → List ℕ → Lexed
unfolding lex_from
lex_at off s = lex_from (suc (length s)) off s

-- One turn, with no bound on turns to speak of.
pub lex_at-turn : (off : ℕ) (s : List ℕ) → lex_at off s ≡ on_step lex_at off s (step s)
unfolding lex_at
lex_at-turn off s = on_step-agree (lex_from (length s)) lex_at off s (λ o r l. lex_from-enough (length s) (suc (length r)) o r l (omega arith)) (step s) (fair-step s)

-- A token list of a script of n bytes, from offset lo on: each token starts where the one before ends or later, has a byte, lies in the
-- script and has a kind from 1 to 45; the last one, and no other, is an Eof or a panic, with length 0, and a panic stands at a byte.
pub data Run (n : ℕ) : ℕ → List Token → Type 0 where
  last : {lo : ℕ} {t : Token} → lo ≤ t.off → t.off ≤ n → t.len ≡ 0 → (t.kind ≡ 47) ⊎ ((t.kind ≡ 48) × (t.off < n)) → Run n lo (t ∷ [])
  more : {lo : ℕ} {t : Token} {ts : List Token} → lo ≤ t.off → 0 < t.len → t.off + t.len ≤ n → (0 < t.kind) × (t.kind ≤ 45) → Run n (t.off + t.len) ts → Run n lo (t ∷ ts)

ended-kind : (e : Ending) (off n : ℕ) → off ≤ n → (end_kind e ≡ 48 → off < n) → (end_kind e ≡ 47) ⊎ ((end_kind e ≡ 48) × (off < n))
unfolding end_kind
ended-kind TrueEnd off n h k = inl refl
ended-kind UnknownChar off n h k = inl refl
ended-kind UnterminatedString off n h k = inl refl
ended-kind (Panic w) off n h k = inr (refl, k refl)

turn-runs : (next : ℕ → List ℕ → Lexed) (off lo n : ℕ) (s : List ℕ) → lo ≤ off → off + length s ≡ n
    → ((o l : ℕ) (r : List ℕ) → length r < length s → l ≤ o → o + length r ≡ n → Run n l (next o r).toks)
    → (t : Step) → Fair (length s) t → Run n lo (on_step next off s t).toks
unfolding on_step Fair ended end_len
turn-runs next off lo n s l e h (Skip k) b = let d = length-drop k s in h (off + k) lo (drop k s) (omega arith) (omega arith) (omega arith)
turn-runs next off lo n s l e h (Word w k) b = let d = length-drop k s in more {lo = lo} {t = token w off k} l b.0 (omega arith) (b.2, b.3) (h (off + k) (off + k) (drop k s) (omega arith) (omega arith) (omega arith))
turn-runs next off lo n s l e h (Stop k w) b = last {lo = lo} {t = token (end_kind w) (off + k) 0} (omega arith) (omega arith) refl (ended-kind w (off + k) n (omega arith) (λ z. let y : k < length s = b.1 z in omega arith))

lex_from-runs : (f off lo n : ℕ) (s : List ℕ) → length s < f → lo ≤ off → off + length s ≡ n → Run n lo (lex_from f off s).toks
unfolding lex_from
lex_from-runs zero off lo n s h l e = absurd (not-suc-le-zero h)
lex_from-runs (suc f) off lo n s h l e = turn-runs (lex_from f) off lo n s l e (λ o m r k a q. lex_from-runs f o m n r (omega arith) a q) (step s) (fair-step s)

-- The token list of a script is such a list, from its start on.
pub lex-runs : (s : List ℕ) → Run (length s) 0 (lex s)
unfolding lex lexed
lex-runs s = lex_from-runs (suc (length s)) 0 0 (length s) s (omega arith) (omega arith) (zero-add (length s))

run-count : {n lo : ℕ} {ts : List Token} → Run n lo ts → lo + length ts ≤ n + 1
run-count (last a b c d) = omega arith
run-count (more a b c d r) = let h = run-count r in omega arith

-- At most one token more than the script has bytes.
pub lex-count : (s : List ℕ) → length (lex s) ≤ length s + 1
lex-count s = let h = run-count (lex-runs s) in omega arith
