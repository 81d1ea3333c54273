-- Of the tokens that let the parser's calls nest (specs/Signs.antt): a script has no more such tokens than such bytes.
use Rattle.std.specs.Prelude.{ℕ, zero, suc, ◌+◌, ◌≤◌, ◌<◌, List, [], ◌∷◌, Bool, true, false, ◌&&◌, ◌||◌, not, ◌≡◌, refl, T, eqb, length, take, drop}
use Rattle.std.proofs.Common.{sym, subst, arith, eqb-true}
use Rattle.sifc_err.specs.declared.Token.{Token}
use Rattle.sifc_err.specs.declared.Ending.{Ending}
use Rattle.sifc_err.specs.declared.Ending.TheVariants.{TrueEnd, UnknownChar, UnterminatedString, Panic}
use Rattle.sifc_lex.specs.declared.lex.Step.{Step}
use Rattle.sifc_lex.specs.declared.lex.Step.TheVariants.{Skip, Word, Stop}
use Rattle.sifc_word.specs.Base.{same, span}
use Rattle.sifc_word.specs.BaseLaws.{and_left, and_right, if-either}
use Rattle.sifc_word.specs.Kind.{Bang, Minus}
use Rattle.sifc_word.specs.Reserved.{reserved_words, kind_among, name_kind}
use Rattle.sifc_word.specs.Reserved as Reserved
use Rattle.sifc_lex.specs.Lex.{white, digit, letter, alnum, in_line, in_str, Sign, doubles, singles, single_kind, double_kind, one_sign, lex_sign, hash_comment, line_end, slash_comment, next_is, lex_slash, closed, lex_str, pointed, fraction, lex_num, lex_ident, step, end_kind, Lexed, ended, on_step, lex_from, lexed, lex}
use Rattle.sifc_lex.proofs.LexLaws.{Fair, fair-step}
use Rattle.sifc_def.specs.Expr.{is_unary}
use Rattle.sifc_def.specs.Read.{bit}
use Rattle.sifc_def.specs.State.{token_at}
use Rattle.sifc_def.proofs.OutcomeLaws.{by-test}
use Rattle.sifc_deepest.specs.Signs.{nests, opens, signs, nesting, opened}

-- ── tokens that are passed ──

pub opened-more : (ts : List Token) (i : ℕ) → opened ts i ≤ opened ts (suc i)
unfolding opened
opened-more ts zero = omega arith
opened-more [] (suc i) = omega arith
opened-more (t ∷ ts) (suc i) = omega (arith, opened-more ts i)

pub opened-next : (ts : List Token) (i : ℕ) → i < length ts → nests (token_at ts i).kind ≡ true → opened ts (suc i) ≡ suc (opened ts i)
unfolding opened
opened-next [] i h e = absurd (omega arith)
opened-next (t ∷ ts) zero h e = rw e
opened-next (t ∷ ts) (suc i) h e = omega (arith, opened-next ts i (omega arith) e)

pub opened-all : (ts : List Token) (i : ℕ) → opened ts i ≤ nesting ts
unfolding opened nesting
opened-all ts zero = omega arith
opened-all [] (suc i) = omega arith
opened-all (t ∷ ts) (suc i) = omega (arith, opened-all ts i)

-- a kind that was seen to be one of them
pub nests-as : (k m : ℕ) → eqb k m ≡ true → nests m ≡ true → nests k ≡ true
nests-as k m e p = subst (λ (x : ℕ). nests x ≡ true) (sym (eqb-true k m e)) p

pub nests-unary : (k : ℕ) → is_unary k ≡ true → nests k ≡ true
unfolding is_unary nests
nests-unary k e = go (eqb k Bang) refl e
  where
    go : (x : Bool) → eqb k Bang ≡ x → (x || eqb k Minus) ≡ true → nests k ≡ true
    go true p q = nests-as k Bang p refl
    go false p q = nests-as k Minus q refl

-- ── bytes ──

pub signs-few : (s : List ℕ) → signs s ≤ length s
unfolding signs
signs-few [] = omega arith
signs-few (a ∷ s) = omega (arith, bit-small (opens a), signs-few s)
  where
    bit-small : (x : Bool) → bit x ≤ 1
    bit-small true = omega arith
    bit-small false = omega arith

signs-drop : (n : ℕ) (s : List ℕ) → signs (drop n s) ≤ signs s
unfolding signs
signs-drop zero s = omega arith
signs-drop (suc n) [] = omega arith
signs-drop (suc n) (a ∷ s) = omega (arith, signs-drop n s)

-- ── a turn of lexing at a byte: a token that nests begins with one of the bytes ──

abbrev Signed : ℕ → Step → Type 0
Signed a (Skip n) = Unit {0}
Signed a (Word k n) = T (nests k) → T (opens a)
Signed a (Stop n e) = Unit {0}

-- no sign of two bytes nests, and those of one byte that do are the bytes above
no_double : List Sign → Bool
unfolding nests
no_double [] = true
no_double (x ∷ xs) = not (nests x.kind) && no_double xs

as_bytes : List Sign → Bool
unfolding nests opens
as_bytes [] = true
as_bytes (x ∷ xs) = (not (nests x.kind) || opens x.first) && as_bytes xs

none_of : (x : Bool) → T (not x) → T x → ⊥
none_of true h t = h
none_of false h t = t

or-of : (x y : Bool) → T (not x || y) → T x → T y
or-of true y h t = h
or-of false y h t = absurd t

double-plain : (xs : List Sign) (a d : ℕ) → T (no_double xs) → T (nests (double_kind xs a d)) → ⊥
unfolding no_double double_kind nests
double-plain [] a d h t = t
double-plain (x ∷ xs) a d h t =
    by-test (eqb a x.first && eqb d x.second) x.kind (double_kind xs a d) (λ (k : ℕ). T (nests k) → ⊥)
    (λ e u. none_of (nests x.kind) (and_left (not (nests x.kind)) (no_double xs) h) u)
    (λ e u. double-plain xs a d (and_right (not (nests x.kind)) (no_double xs) h) u) t

single-byte : (xs : List Sign) (a : ℕ) → T (as_bytes xs) → T (nests (single_kind xs a)) → T (opens a)
unfolding as_bytes single_kind nests
single-byte [] a h t = absurd t
single-byte (x ∷ xs) a h t =
    by-test (eqb a x.first) x.kind (single_kind xs a) (λ (k : ℕ). T (nests k) → T (opens a))
    (λ e u. subst (λ (y : ℕ). T (opens y)) (sym (eqb-true a x.first e)) (or-of (nests x.kind) (opens x.first) (and_left (not (nests x.kind) || opens x.first) (as_bytes xs) h) u))
    (λ e u. single-byte xs a (and_right (not (nests x.kind) || opens x.first) (as_bytes xs) h) u) t

signed-one : (a : ℕ) → Signed a (one_sign a)
unfolding one_sign as_bytes singles nests opens
signed-one a = if-either (Signed a) (eqb (single_kind singles a) 0) _ _ (λ e. tt) (λ e t. single-byte singles a tt t)

signed-sign : (a : ℕ) (bs : List ℕ) → Signed a (lex_sign a bs)
unfolding lex_sign no_double doubles nests
signed-sign a [] = signed-one a
signed-sign a (d ∷ bs) = if-either (Signed a) (eqb (double_kind doubles a d) 0) _ _ (λ e. signed-one a) (λ e t. absurd (double-plain doubles a d tt t))

-- no reserved word nests
no_word : List Reserved.Word → Bool
unfolding nests
no_word [] = true
no_word (w ∷ ws) = not (nests w.kind) && no_word ws

among-plain : (ws : List Reserved.Word) (name : List ℕ) → T (no_word ws) → T (nests (kind_among ws name)) → ⊥
unfolding no_word kind_among nests
among-plain [] name h t = t
among-plain (w ∷ ws) name h t =
    by-test (same w.word name) w.kind (kind_among ws name) (λ (k : ℕ). T (nests k) → ⊥)
    (λ e u. none_of (nests w.kind) (and_left (not (nests w.kind)) (no_word ws) h) u)
    (λ e u. among-plain ws name (and_right (not (nests w.kind)) (no_word ws) h) u) t

signed-ident : (a : ℕ) (bs : List ℕ) → Signed a (lex_ident a bs)
unfolding lex_ident name_kind no_word reserved_words nests
signed-ident a bs t = absurd (among-plain reserved_words (a ∷ take (span alnum bs) bs) tt t)

signed-line : (a n : ℕ) (r : List ℕ) → Signed a (line_end n r)
unfolding line_end
signed-line a n [] = tt
signed-line a n (d ∷ r) = tt

signed-slash : (a : ℕ) (bs : List ℕ) → Signed a (lex_slash bs)
unfolding lex_slash slash_comment nests
signed-slash a bs = if-either (Signed a) (next_is 47 bs) _ _ (λ e. signed-line a (1 + span in_line bs) (drop (span in_line bs) bs)) (λ e t. absurd t)

signed-str : (a n : ℕ) (r : List ℕ) → Signed a (closed n r)
unfolding closed nests
signed-str a n [] = tt
signed-str a n (d ∷ r) = λ t. absurd t

signed-pointed : (a n : ℕ) (r : List ℕ) → Signed a (pointed n r)
unfolding pointed nests
signed-pointed a n [] = tt
signed-pointed a n (d ∷ r) = λ t. absurd t

signed-fraction : (a n : ℕ) (r : List ℕ) → Signed a (fraction n r)
unfolding fraction nests
signed-fraction a n [] = λ t. absurd t
signed-fraction a n (d ∷ r) = if-either (Signed a) (eqb d 46) _ _ (λ e. signed-pointed a (n + 1 + span digit r) (drop (span digit r) r)) (λ e t. absurd t)

signed-step : (a : ℕ) (bs : List ℕ) → Signed a (step (a ∷ bs))
unfolding step hash_comment lex_str lex_num
signed-step a bs =
    if-either (Signed a) (white a) _ _ (λ e. tt)
    (λ e₁. if-either (Signed a) (eqb a 35) _ _ (λ e. tt)
    (λ e₂. if-either (Signed a) (eqb a 47) _ _ (λ e. signed-slash a bs)
    (λ e₃. if-either (Signed a) (eqb a 34) _ _ (λ e. signed-str a (span in_str bs) (drop (span in_str bs) bs))
    (λ e₄. if-either (Signed a) (digit a) _ _ (λ e. signed-fraction a (1 + span digit bs) (drop (span digit bs) bs))
    (λ e₅. if-either (Signed a) (letter a) _ _ (λ e. signed-ident a bs) (λ e₆. signed-sign a bs))))))

-- ── the token list ──

bit-of : (x y : Bool) → (T x → T y) → bit x ≤ bit y
bit-of true true h = omega arith
bit-of true false h = absurd (h tt)
bit-of false y h = omega arith

-- a token's kind counts for its first byte
word-signs : (k n a : ℕ) (bs : List ℕ) → 0 < n → (T (nests k) → T (opens a)) → bit (nests k) + signs (drop n (a ∷ bs)) ≤ signs (a ∷ bs)
unfolding signs
word-signs k zero a bs h f = absurd (omega arith)
word-signs k (suc n) a bs h f = omega (arith, bit-of (nests k) (opens a) f, signs-drop n bs)

end-signs : (e : Ending) (off m : ℕ) → nesting (ended e off).toks ≤ m
unfolding ended end_kind nesting
end-signs TrueEnd off m = omega arith
end-signs UnknownChar off m = omega arith
end-signs UnterminatedString off m = omega arith
end-signs (Panic k) off m = omega arith

turn-signs : (next : ℕ → List ℕ → Lexed) → ((o : ℕ) (r : List ℕ) → nesting (next o r).toks ≤ signs r) → (off a : ℕ) (bs : List ℕ) (t : Step) → Fair (length (a ∷ bs)) t → Signed a t → nesting (on_step next off (a ∷ bs) t).toks ≤ signs (a ∷ bs)
unfolding on_step nesting Fair
turn-signs next h off a bs (Skip n) f g = omega (arith, h (off + n) (drop n (a ∷ bs)), signs-drop n (a ∷ bs))
turn-signs next h off a bs (Word k n) f g = omega (arith, h (off + n) (drop n (a ∷ bs)), word-signs k n a bs f.0 g)
turn-signs next h off a bs (Stop n e) f g = end-signs e (off + n) (signs (a ∷ bs))

from-signs : (f off : ℕ) (s : List ℕ) → nesting (lex_from f off s).toks ≤ signs s
unfolding lex_from
from-signs zero off s = end-signs TrueEnd off (signs s)
from-signs (suc f) off [] = end-signs TrueEnd (off + 0) (signs [])
from-signs (suc f) off (a ∷ bs) = turn-signs (lex_from f) (λ o r. from-signs f o r) off a bs (step (a ∷ bs)) (fair-step (a ∷ bs)) (signed-step a bs)

-- A script has at most as many tokens that nest as it has such bytes.
pub lexed-signs : (s : List ℕ) → nesting (lex s) ≤ signs s
unfolding lex lexed
lexed-signs s = from-signs (suc (length s)) 0 s
