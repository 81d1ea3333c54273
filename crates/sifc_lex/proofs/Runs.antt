-- The steps of Lex.antt, by how long a run of bytes at the beginning is.
use Prim.Native.Nat.{ℕ, zero, suc, ◌+◌, ◌≤◌, ◌<◌}
use mathlib.Core.Path.{◌≡◌, refl, sym, ap, ap₂, ◌∙◌}
use mathlib.Core.List.{List, [], ◌∷◌}
use mathlib.Core.Bool.{true, false}
use native.Mathlib.Omega.{arith}
use borrow.Author.Tests.{eq-eqb, ne_eqb}
use lib.ListN.{get_or-eq_default, take, drop, length, get_or, drop_of_length-le}
use lib.Seq.{drop-cons}
use Rattle.std.specs.Prelude.{Some, None}
use Rattle.sifc_err.specs.declared.Ending.TheVariants.{TrueEnd, UnknownChar, UnterminatedString, Panic}
use Rattle.sifc_lex.specs.declared.lex.Step.TheVariants.{Skip, Word, Stop}
use Rattle.sifc_word.specs.Base.{if◌then◌otherwise◌, within, span}
use Rattle.sifc_word.specs.BaseLaws.{and-false}
use Rattle.sifc_word.specs.Reserved.{name_kind}
use Rattle.sifc_lex.specs.Lex.{white, letter, step, alnum, digit, in_line, in_str, hash_comment, line_end, slash_comment, next_is, lex_slash, closed, lex_str, pointed, fraction, lex_num, lex_ident, one_sign, singles, single_kind, doubles, double_kind, lex_sign}
use Rattle.sifc_lex.specs.Bytes.{kind_if_any}

-- a comment to the line's end
pub hash-run : (s : List ℕ) (n : ℕ) → n ≡ span in_line s → Skip (1 + n) ≡ hash_comment s
unfolding hash_comment
hash-run s n e = rw e refl

pub slash-more : (s : List ℕ) (n : ℕ) → n ≡ span in_line s → n < length s → Skip (1 + n) ≡ slash_comment s
unfolding slash_comment line_end
slash-more s n e h = rw (← e, drop-cons s n 0 h) refl

pub slash-none : (s : List ℕ) (n : ℕ) → n ≡ span in_line s → length s ≤ n → Stop 0 (Panic 1) ≡ slash_comment s
unfolding slash_comment line_end
slash-none s n e h = rw (← e, drop_of_length-le s h) refl

-- a string
pub str-more : (s : List ℕ) (n : ℕ) → n ≡ span in_str s → n < length s → Word 32 (2 + n) ≡ lex_str s
unfolding lex_str closed
str-more s n e h = rw (← e, drop-cons s n 0 h) refl

pub str-none : (s : List ℕ) (n : ℕ) → n ≡ span in_str s → length s ≤ n → Stop (1 + n) UnterminatedString ≡ lex_str s
unfolding lex_str closed
str-none s n e h = rw (← e, drop_of_length-le s h) refl

-- what follows the digits of a number: nothing, another byte than a point, a point and a byte after the digits behind it, a point and none
frac-none : (k : ℕ) (r : List ℕ) → length r < 1 → Word 33 k ≡ fraction k r
unfolding fraction
frac-none k [] h = refl
frac-none k (c ∷ r) h = absurd (omega arith)

frac-other : (k : ℕ) (r : List ℕ) → 1 ≤ length r → (get_or r 0 0 ≡ 46 → ⊥) → Word 33 k ≡ fraction k r
unfolding fraction if◌then◌otherwise◌
frac-other k [] h n = absurd (omega arith)
frac-other k (c ∷ r) h n = rw (ne_eqb c 46 n) refl

frac-more : (k n : ℕ) (r : List ℕ) → 1 ≤ length r → get_or r 0 0 ≡ 46 → n ≡ span digit (drop 1 r) → n < length (drop 1 r) → Word 33 (k + 1 + n) ≡ fraction k r
unfolding fraction pointed if◌then◌otherwise◌
frac-more k n [] h e f l = absurd (omega arith)
frac-more k n (c ∷ r) h e f l = rw (eq-eqb c 46 e, ← f, drop-cons r n 0 l) refl

frac-fault : (k n : ℕ) (r : List ℕ) → 1 ≤ length r → get_or r 0 0 ≡ 46 → n ≡ span digit (drop 1 r) → length (drop 1 r) ≤ n → Stop 0 (Panic 2) ≡ fraction k r
unfolding fraction pointed if◌then◌otherwise◌
frac-fault k n [] h e f l = absurd (omega arith)
frac-fault k n (c ∷ r) h e f l = rw (eq-eqb c 46 e, ← f, drop_of_length-le r l) refl

pub num-none : (s : List ℕ) (w : ℕ) → w ≡ span digit s → length (drop w s) < 1 → Word 33 (1 + w) ≡ lex_num s
unfolding lex_num
num-none s w e h = rw (← e) (frac-none (1 + w) (drop w s) h)

pub num-whole : (s : List ℕ) (w : ℕ) → w ≡ span digit s → 1 ≤ length (drop w s) → (get_or (drop w s) 0 0 ≡ 46 → ⊥) → Word 33 (1 + w) ≡ lex_num s
unfolding lex_num
num-whole s w e h n = rw (← e) (frac-other (1 + w) (drop w s) h n)

pub num-more : (s : List ℕ) (w n : ℕ) → w ≡ span digit s → 1 ≤ length (drop w s) → get_or (drop w s) 0 0 ≡ 46 → n ≡ span digit (drop 1 (drop w s)) → n < length (drop 1 (drop w s)) → Word 33 (1 + w + 1 + n) ≡ lex_num s
unfolding lex_num
num-more s w n e h p f l = rw (← e) (frac-more (1 + w) n (drop w s) h p f l)

pub num-fault : (s : List ℕ) (w n : ℕ) → w ≡ span digit s → 1 ≤ length (drop w s) → get_or (drop w s) 0 0 ≡ 46 → n ≡ span digit (drop 1 (drop w s)) → length (drop 1 (drop w s)) ≤ n → Stop 0 (Panic 2) ≡ lex_num s
unfolding lex_num
num-fault s w n e h p f l = rw (← e) (frac-fault (1 + w) n (drop w s) h p f l)

-- a name
pub ident-run : (s : List ℕ) (n kind : ℕ) → 0 < length s → n ≡ span alnum (drop 1 s) → kind ≡ name_kind (take (1 + n) s) → Word kind (1 + n) ≡ lex_ident (get_or s 0 0) (drop 1 s)
unfolding lex_ident
ident-run [] n kind h e k = absurd (omega arith)
ident-run (b ∷ s) n kind h e k =
    let z : 1 + n ≡ suc n = omega arith in
    ap₂ Word (k ∙ ap (λ (m : ℕ). name_kind (take m (b ∷ s))) z ∙ ap (λ (m : ℕ). name_kind (b ∷ take m s)) e) (ap (λ (m : ℕ). 1 + m) e)

-- a slash: no next byte, another one, a slash
pub slash-alone : (s : List ℕ) → length s < 1 → Word 17 1 ≡ lex_slash s
unfolding lex_slash next_is if◌then◌otherwise◌
slash-alone [] h = refl
slash-alone (c ∷ s) h = absurd (omega arith)

pub slash-other : (s : List ℕ) → 1 ≤ length s → (get_or s 0 0 ≡ 47 → ⊥) → Word 17 1 ≡ lex_slash s
unfolding lex_slash next_is if◌then◌otherwise◌
slash-other [] h n = absurd (omega arith)
slash-other (c ∷ s) h n = rw (ne_eqb c 47 n) refl

pub slash-two : (s : List ℕ) → 1 ≤ length s → get_or s 0 0 ≡ 47 → slash_comment s ≡ lex_slash s
unfolding lex_slash next_is if◌then◌otherwise◌
slash-two [] h e = absurd (omega arith)
slash-two (c ∷ s) h e = rw (eq-eqb c 47 e) refl

-- what the code answers for a kind: none where it is 0, else the kind
none-is : (k : ℕ) → None ≡ kind_if_any k → k ≡ 0
none-is zero e = refl
none-is (suc k) e = cc

some-is : (k n : ℕ) → Some k ≡ kind_if_any n → (n ≡ k) × (n ≡ 0 → ⊥)
some-is k zero e = cc
some-is k (suc n) e = (cc, λ z. absurd (omega arith))

pub sign-known : (b kind : ℕ) → Some kind ≡ kind_if_any (single_kind singles b) → Word kind 1 ≡ one_sign b
unfolding one_sign if◌then◌otherwise◌
sign-known b kind e = let z = some-is kind (single_kind singles b) e in rw (ne_eqb (single_kind singles b) 0 z.1) (ap (λ (k : ℕ). Word k 1) (sym z.0))

pub sign-unknown : (b : ℕ) → None ≡ kind_if_any (single_kind singles b) → Stop 0 UnknownChar ≡ one_sign b
unfolding one_sign if◌then◌otherwise◌
sign-unknown b e = rw (eq-eqb (single_kind singles b) 0 (none-is (single_kind singles b) e)) refl

-- a sign: no next byte, one that makes no sign of two, one that does
pub none-at : (s : List ℕ) (b : ℕ) → length s ≤ 0 → double_kind doubles b (get_or s 0 0) ≡ 0
unfolding double_kind doubles if◌then◌otherwise◌
none-at s b h = rw (get_or-eq_default s 0 h) (simp (and-false))

pub sign-one : (s : List ℕ) (b : ℕ) → None ≡ kind_if_any (double_kind doubles b (get_or s 0 0)) → one_sign b ≡ lex_sign b s
unfolding lex_sign if◌then◌otherwise◌
sign-one [] b e = refl
sign-one (c ∷ s) b e = rw (eq-eqb (double_kind doubles b c) 0 (none-is (double_kind doubles b c) e)) refl

pub sign-two : (s : List ℕ) (b kind : ℕ) → Some kind ≡ kind_if_any (double_kind doubles b (get_or s 0 0)) → Word kind 2 ≡ lex_sign b s
unfolding lex_sign if◌then◌otherwise◌
sign-two [] b kind e = absurd ((some-is kind (double_kind doubles b 0) e).1 (none-at [] b (omega arith)))
sign-two (c ∷ s) b kind e = let z = some-is kind (double_kind doubles b c) e in rw (ne_eqb (double_kind doubles b c) 0 z.1) (ap (λ (k : ℕ). Word k 2) (sym z.0))

-- One turn on the bytes that are left, arm by arm.
pub turn_end : (s : List ℕ) → length s < 1 → Stop 0 TrueEnd ≡ step s
unfolding step
turn_end [] h = refl
turn_end (c ∷ s) h = absurd (omega arith)

module _ (s : List ℕ) (b : ℕ) (h : 1 ≤ length s) (e : get_or s 0 0 ≡ b) where
  turn-cons : step (b ∷ drop 1 s) ≡ step s
  turn-cons = ap step (ap (λ (x : ℕ). x ∷ drop 1 s) (sym e) ∙ sym (drop-cons s 0 0 h))

  pub turn-white : white b ≡ true → Skip 1 ≡ step s
  unfolding step if◌then◌otherwise◌
  turn-white w = rw (← turn-cons, w) refl

  pub turn-hash : b ≡ 35 → hash_comment (drop 1 s) ≡ step s
  unfolding step white within if◌then◌otherwise◌
  turn-hash f = rw (← turn-cons, f) refl

  pub turn-slash : b ≡ 47 → lex_slash (drop 1 s) ≡ step s
  unfolding step white within if◌then◌otherwise◌
  turn-slash f = rw (← turn-cons, f) refl

  pub turn-str : b ≡ 34 → lex_str (drop 1 s) ≡ step s
  unfolding step white within if◌then◌otherwise◌
  turn-str f = rw (← turn-cons, f) refl

  -- no `#`, `/`, quote or white space
  abbrev pub Plain : Type 0
  Plain = (b ≡ 35 → ⊥) × (b ≡ 47 → ⊥) × (b ≡ 34 → ⊥) × (white b ≡ false)

  pub turn-num : Plain → digit b ≡ true → lex_num (drop 1 s) ≡ step s
  unfolding step if◌then◌otherwise◌
  turn-num p d = rw (← turn-cons, p.3, ne_eqb b 35 p.0, ne_eqb b 47 p.1, ne_eqb b 34 p.2, d) refl

  pub turn-ident : Plain → digit b ≡ false → letter b ≡ true → lex_ident b (drop 1 s) ≡ step s
  unfolding step if◌then◌otherwise◌
  turn-ident p d l = rw (← turn-cons, p.3, ne_eqb b 35 p.0, ne_eqb b 47 p.1, ne_eqb b 34 p.2, d, l) refl

  pub turn-sign : Plain → digit b ≡ false → letter b ≡ false → lex_sign b (drop 1 s) ≡ step s
  unfolding step if◌then◌otherwise◌
  turn-sign p d l = rw (← turn-cons, p.3, ne_eqb b 35 p.0, ne_eqb b 47 p.1, ne_eqb b 34 p.2, d, l) refl
