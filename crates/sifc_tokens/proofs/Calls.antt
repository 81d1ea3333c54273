-- What the calls leave in the arrays, out of what the loop and the clearing leave.
use Prim.Native.Nat.{ℕ, ◌-◌, ◌≤◌, ◌<◌}
use mathlib.Core.Path.{◌≡◌, refl, sym, ap, ap₂, ◌∙◌, subst}
use mathlib.Core.List.{List, ◌++◌}
use mathlib.Core.Bool.{Bool, true, false}
use native.Mathlib.Omega.{arith}
use borrow.Author.Tests.{lt-ltb, le-ltb, ltb-false, eq-eqb, ne_eqb}
use lib.Dec.{ltb}
use lib.ListN.{take, length, replicate, length-take, length-map}
use Rattle.sifc_err.specs.declared.Token.{Token}
use Rattle.sifc_err.specs.declared.Ending.{Ending}
use Rattle.std.specs.Prelude.{⊤, Result, Ok, Err}
use Rattle.sifc_lex.specs.declared.lex.Ended.{Ended}
use Rattle.sifc_err.specs.declared.Refusal.{Refusal}
use Rattle.sifc_err.specs.declared.Refusal.TheVariants.{LongScript, NotAscii, TokensFull}
use Rattle.sifc_word.specs.Base.{if◌then◌otherwise◌, span}
use Rattle.sifc_lex.specs.Lex.{ascii, lex, ending, end_at}
use Rattle.sifc_tokens.specs.Loaded.{Loaded, used_by, Used}
use Rattle.sifc_tokens.specs.Tokens.{offs_of, words_of, token_word, padded, zeroed, ended_with, passed, LexCall, lex_called, lex_call, check_of, answer_of, TokensCall, tokens_called, refusal, by_ending, after_entry, tokens_call}
use Rattle.sifc_tokens.proofs.TokensLaws.{padded-used}

length-offs : (ts : List Token) → length (offs_of ts) ≡ length ts
unfolding offs_of
length-offs ts = length-map ts (λ (t : Token). t.off)

length-words : (ts : List Token) → length (words_of ts) ≡ length ts
unfolding words_of
length-words ts = length-map ts token_word

-- a front of n elements that has n elements lies in the array
front_fits : (a used : List ℕ) (n : ℕ) → take n a ≡ used → n ≡ length used → n ≤ length a
front_fits a used n e k = let l = length-take n a in let z = ap length e in omega arith

-- a front with zeros after it is the padded front
front-padded : (a a' used : List ℕ) (n m : ℕ) → take n a ≡ used → n ≡ length used → length a ≡ m → a' ≡ take n a ++ replicate (length a - n) 0 → a' ≡ padded used m
unfolding padded
front-padded a a' used n m e k l c = c ∙ ap₂ (λ (x : List ℕ) (i : ℕ). x ++ replicate i 0) e (ap₂ (λ (x : ℕ) (y : ℕ). x - y) l k)

-- a front of none is an array set to 0
front-none : (a a' b : List ℕ) → length a ≡ length b → a' ≡ take 0 a ++ replicate (length a - 0) 0 → a' ≡ zeroed b
unfolding zeroed
front-none a a' b l c = c ∙ ap (λ (i : ℕ). replicate i 0) (let z : length a - 0 ≡ length b = omega arith in z)

module _ (s offs words offs' words' : List ℕ) (n at : ℕ) (e : Ending) (l : Loaded s offs words (Ok (ended_with n e at)) offs' words') where
  ended-offs : n ≤ length offs'
  ended-offs = front_fits offs' (offs_of (lex s)) n l.by.at-offs (l.by.count ∙ sym (length-offs (lex s)))

  ended-words : n ≤ length words'
  ended-words = front_fits words' (words_of (lex s)) n l.by.at_words (l.by.count ∙ sym (length-words (lex s)))

  ended-call : (offs'' words'' : List ℕ) → offs'' ≡ take n offs' ++ replicate (length offs' - n) 0 → words'' ≡ take n words' ++ replicate (length words' - n) 0 → lex_called (Ok (ended_with n e at)) offs'' words'' ≡ lex_call s offs words
  unfolding lex_call if◌then◌otherwise◌
  ended-call offs'' words'' co cw =
      let po : offs'' ≡ padded (offs_of (lex s)) (length offs) = front-padded offs' offs'' (offs_of (lex s)) n (length offs) l.by.at-offs (l.by.count ∙ sym (length-offs (lex s))) l.long-offs co in
      let pw : words'' ≡ padded (words_of (lex s)) (length words) = front-padded words' words'' (words_of (lex s)) n (length words) l.by.at_words (l.by.count ∙ sym (length-words (lex s))) l.long-words cw in
      let fits : length (lex s) ≤ length offs = omega (arith, ended-offs, l.by.count, l.long-offs) in
      let pn : n ≡ length (lex s) = l.by.count in
      let pe : e ≡ ending s = l.by.ends in
      let pa : at ≡ end_at s = l.by.place in
      rw (le-ltb (length offs) (length (lex s)) fits) (cc)

full-call : (s offs words offs' words' : List ℕ) → Loaded s offs words (Err TokensFull) offs' words'
    → (offs'' words'' : List ℕ) → offs'' ≡ take 0 offs' ++ replicate (length offs' - 0) 0 → words'' ≡ take 0 words' ++ replicate (length words' - 0) 0 → lex_called (Err TokensFull) offs'' words'' ≡ lex_call s offs words
unfolding lex_call if◌then◌otherwise◌
full-call s offs words offs' words' l offs'' words'' co cw =
    let po : offs'' ≡ zeroed offs = front-none offs' offs'' offs l.long-offs co in
    let pw : words'' ≡ zeroed words = front-none words' words'' words l.long-words cw in
    rw (lt-ltb (length offs) (length (lex s)) (omega (arith, l.by.1, l.long-offs))) (cc)

-- What the loop left, with everything past the used part cleared, is what lexing into the arrays is to leave.
pub used-offs : (s offs words offs' words' : List ℕ) (r : Result Ended Refusal) → Loaded s offs words r offs' words' → used_by r ≤ length offs'
used-offs s offs words offs' words' (Ok e) l = ended-offs s offs words offs' words' e.count e.at e.ending l
used-offs s offs words offs' words' (Err r) l = omega arith

pub used-words : (s offs words offs' words' : List ℕ) (r : Result Ended Refusal) → Loaded s offs words r offs' words' → used_by r ≤ length words'
used-words s offs words offs' words' (Ok e) l = ended-words s offs words offs' words' e.count e.at e.ending l
used-words s offs words offs' words' (Err r) l = omega arith

pub loaded-call : (s offs words offs' words' : List ℕ) (r : Result Ended Refusal) → Loaded s offs words r offs' words'
    → (offs'' words'' : List ℕ) → offs'' ≡ take (used_by r) offs' ++ replicate (length offs' - used_by r) 0 → words'' ≡ take (used_by r) words' ++ replicate (length words' - used_by r) 0
    → lex_called r offs'' words'' ≡ lex_call s offs words
loaded-call s offs words offs' words' (Ok e) l offs'' words'' co cw = ended-call s offs words offs' words' e.count e.at e.ending l offs'' words'' co cw
loaded-call s offs words offs' words' (Err r) l offs'' words'' co cw =
    ap (λ (x : Refusal). lex_called (Err x) offs'' words'') l.by.0 ∙ full-call s offs words offs' words' (record { long-offs = l.long-offs; long-words = l.long-words; by = (refl, l.by.1) }) offs'' words'' co cw

-- The tokens call out of what lexing into the arrays gave.
pub entry-uneven : (s offs words : List ℕ) → (length offs ≡ length words → ⊥) → tokens_called (refusal 3 0 0) offs words ≡ after_entry s offs words
unfolding after_entry if◌then◌otherwise◌
entry-uneven s offs words h = rw (ne_eqb (length offs) (length words) h) refl

absurd-answer : {X : Type 0} (r : Refusal) (e : Ended) → ◌≡◌ {A = Result Ended Refusal} (Err r) (Ok e) → X
absurd-answer r e p = absurd (let z : ⊥ = cc in z)

absurd-check : {X : Type 0} (f : Refusal) → ◌≡◌ {A = Result ⊤ Refusal} (Err f) passed → X
absurd-check f p = absurd (let z : ⊥ = cc in z)

-- the two answers of lexing, and what the tokens call makes of each
abbrev full : List ℕ → List ℕ → List ℕ → LexCall
full s offs words = lex_called (Err TokensFull) (zeroed offs) (zeroed words)

abbrev some : List ℕ → List ℕ → List ℕ → LexCall
some s offs words = lex_called (Ok (ended_with (length (lex s)) (ending s) (end_at s))) (padded (offs_of (lex s)) (length offs)) (padded (words_of (lex s)) (length words))

abbrev too_many : List ℕ → List ℕ → TokensCall
too_many offs words = tokens_called (refusal 4 0 0) (zeroed offs) (zeroed words)

abbrev read_to : List ℕ → List ℕ → List ℕ → TokensCall
read_to s offs words = by_ending (ending s) (length (lex s)) (end_at s) (padded (offs_of (lex s)) (length offs)) (padded (words_of (lex s)) (length words))

module _ (s offs words offs' words' : List ℕ) (r : Result Ended Refusal) (even : length offs ≡ length words) (c : lex_called r offs' words' ≡ lex_call s offs words) where
  pub entry-ended : (e : Ended) → r ≡ Ok e → by_ending e.ending e.count e.at offs' words' ≡ after_entry s offs words
  unfolding after_entry lex_call if◌then◌otherwise◌
  entry-ended e is = rw (eq-eqb (length offs) (length words) even) (go (ltb (length offs) (length (lex s))) c)
    where
      go : (q : Bool) → lex_called r offs' words' ≡ (if q then full s offs words otherwise some s offs words)
          → by_ending e.ending e.count e.at offs' words' ≡ (if q then too_many offs words otherwise read_to s offs words)
      go true d = absurd-answer TokensFull e (sym (ap (λ (x : LexCall). x.answer) d) ∙ is)
      go false d =
          let a : ◌≡◌ {A = Result Ended Refusal} (Ok e) (Ok (ended_with (length (lex s)) (ending s) (end_at s))) = sym is ∙ ap (λ (x : LexCall). x.answer) d in
          let po : offs' ≡ padded (offs_of (lex s)) (length offs) = ap (λ (x : LexCall). x.offs) d in
          let pw : words' ≡ padded (words_of (lex s)) (length words) = ap (λ (x : LexCall). x.words) d in
          cc

  -- and so many elements of the arrays are used
  pub entry-used : (e : Ended) → r ≡ Ok e → Used e.count offs' × Used e.count words'
  unfolding lex_call if◌then◌otherwise◌
  entry-used e is = go (ltb (length offs) (length (lex s))) c
    where
      go : (q : Bool) → lex_called r offs' words' ≡ (if q then full s offs words otherwise some s offs words) → Used e.count offs' × Used e.count words'
      go true d = absurd-answer TokensFull e (sym (ap (λ (x : LexCall). x.answer) d) ∙ is)
      go false d =
          let a : ◌≡◌ {A = Result Ended Refusal} (Ok e) (Ok (ended_with (length (lex s)) (ending s) (end_at s))) = sym is ∙ ap (λ (x : LexCall). x.answer) d in
          let k : length (lex s) ≡ e.count = cc in (
            subst (Used e.count) (sym (ap (λ (x : LexCall). x.offs) d)) (padded-used (offs_of (lex s)) e.count (length offs) (length-offs (lex s) ∙ k)),
            subst (Used e.count) (sym (ap (λ (x : LexCall). x.words) d)) (padded-used (words_of (lex s)) e.count (length words) (length-words (lex s) ∙ k)),
          )

  pub entry-full : (f : Refusal) → r ≡ Err f → tokens_called (answer_of (Err f)) offs' words' ≡ after_entry s offs words
  unfolding after_entry lex_call if◌then◌otherwise◌
  entry-full f is = rw (eq-eqb (length offs) (length words) even) (go (ltb (length offs) (length (lex s))) c)
    where
      go : (q : Bool) → lex_called r offs' words' ≡ (if q then full s offs words otherwise some s offs words)
          → tokens_called (answer_of (Err f)) offs' words' ≡ (if q then too_many offs words otherwise read_to s offs words)
      go true d = ap (λ (x : Refusal). tokens_called (answer_of (Err x)) offs' words') (let g : f ≡ TokensFull = cc (sym is ∙ ap (λ (x : LexCall). x.answer) d) in g) ∙ ap₂ (tokens_called (refusal 4 0 0)) (ap (λ (x : LexCall). x.offs) d) (ap (λ (x : LexCall). x.words) d)
      go false d = absurd-answer f (ended_with (length (lex s)) (ending s) (end_at s)) (sym is ∙ ap (λ (x : LexCall). x.answer) d)

-- The tokens call behind the tests on the script.
pub call-fine : (s offs words : List ℕ) → check_of s ≡ passed → (length s < 65536) × (after_entry s offs words ≡ tokens_call s offs words)
unfolding check_of tokens_call if◌then◌otherwise◌
call-fine s offs words e = go (ltb 65535 (length s)) (ltb (span ascii s) (length s)) refl e
  where
    go : (q p : Bool) → ltb 65535 (length s) ≡ q → (if q then Err LongScript otherwise if p then Err (NotAscii (span ascii s)) otherwise passed) ≡ passed
        → (length s < 65536) × (after_entry s offs words ≡ (if q then tokens_called (refusal 1 0 0) offs words otherwise if p then tokens_called (refusal 2 0 (span ascii s)) offs words otherwise after_entry s offs words))
    go true p h d = absurd-check LongScript d
    go false true h d = absurd-check (NotAscii (span ascii s)) d
    go false false h d = let z = ltb-false 65535 (length s) h in (omega arith, refl)

pub call-refused : (s offs words : List ℕ) (f : Refusal) → check_of s ≡ Err f → tokens_called (answer_of (Err f)) offs words ≡ tokens_call s offs words
unfolding check_of tokens_call if◌then◌otherwise◌
call-refused s offs words f e = go (ltb 65535 (length s)) (ltb (span ascii s) (length s)) e
  where
    go : (q p : Bool) → (if q then Err LongScript otherwise if p then Err (NotAscii (span ascii s)) otherwise passed) ≡ Err f
        → tokens_called (answer_of (Err f)) offs words ≡ (if q then tokens_called (refusal 1 0 0) offs words otherwise if p then tokens_called (refusal 2 0 (span ascii s)) offs words otherwise after_entry s offs words)
    go true p d = ap (λ (x : Refusal). tokens_called (answer_of (Err x)) offs words) (let z : f ≡ LongScript = cc in z)
    go false true d = ap (λ (x : Refusal). tokens_called (answer_of (Err x)) offs words) (let z : f ≡ NotAscii (span ascii s) = cc in z)
    go false false d = absurd-check f (sym d)
