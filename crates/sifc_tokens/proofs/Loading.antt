-- The loop over the turns of lexing: what stands in the arrays so far, and what is left to lex.
use Prim.Native.Nat.{ℕ, ◌+◌, ◌*◌, ◌≤◌, ◌<◌}
use mathlib.Core.Path.{◌≡◌, refl, sym, ap, ◌∙◌, subst}
use mathlib.Core.List.{List, [], ◌∷◌, ◌++◌, append_assoc, append-nil}
use native.Mathlib.Omega.{arith}
use native.Mathlib.Numerals.{add-one}
use lib.ListN.{take, drop, length, set, length-set, length-drop, length-append, length-map}
use lib.Seq.{drop-drop, take-suc-set, length-take-le}
use Rattle.sifc_err.specs.declared.Token.{Token}
use Rattle.sifc_err.specs.declared.Ending.{Ending}
use Rattle.sifc_err.specs.declared.Ending.TheVariants.{TrueEnd, UnknownChar, UnterminatedString, Panic}
use Rattle.sifc_lex.specs.declared.lex.Step.{Step}
use Rattle.sifc_lex.specs.declared.lex.Step.TheVariants.{Skip, Word, Stop}
use Rattle.std.specs.Prelude.{Ok, Err}
use Rattle.sifc_err.specs.declared.Refusal.TheVariants.{TokensFull}
use Rattle.sifc_lex.specs.Lex.{token, Lexed, before, ended, end_kind, end_len, on_step, step, lexed, lex, ending, end_at}
use Rattle.sifc_lex.proofs.LexLaws.{Fair, fair-step, lex_at, lex_at-turn}
use Rattle.sifc_tokens.specs.Tokens.{offs_of, words_of, ended_with}
use Rattle.sifc_tokens.specs.Loaded.{Loaded}

-- n tokens are in the arrays, and the script is lexed up to at
pub record Loading (s offs₀ words₀ offs words : List ℕ) (at n : ℕ) : Type 0 where
  pub in-script : at ≤ length s
  pub in-arrays : n ≤ length offs
  pub long-offs : length offs ≡ length offs₀
  pub long-words : length words ≡ length words₀
  pub even : length offs ≡ length words
  pub all-offs : offs_of (lex s) ≡ take n offs ++ offs_of (lex_at at (drop at s)).toks
  pub all_words : words_of (lex s) ≡ take n words ++ words_of (lex_at at (drop at s)).toks
  pub ends : ending s ≡ (lex_at at (drop at s)).ending
  pub place : end_at s ≡ (lex_at at (drop at s)).at

pub loading-none : (s offs words : List ℕ) → length offs ≡ length words → Loading s offs words offs words 0 0
unfolding lex ending end_at lexed lex_at
loading-none s offs words e = record { in-script = omega arith; in-arrays = omega arith; long-offs = refl; long-words = refl; even = e; all-offs = refl; all_words = refl; ends = refl; place = refl }

-- What a turn at an offset leaves to lex.
onward : (s : List ℕ) (at k : ℕ) → lex_at (at + k) (drop k (drop at s)) ≡ lex_at (at + k) (drop (at + k) s)
onward s at k = ap (lex_at (at + k)) (drop-drop k at s)

skip-turn : (s : List ℕ) (at k : ℕ) → step (drop at s) ≡ Skip k → lex_at at (drop at s) ≡ lex_at (at + k) (drop (at + k) s)
unfolding on_step
skip-turn s at k e = lex_at-turn at (drop at s) ∙ rw e (onward s at k)

word-turn : (s : List ℕ) (at w k : ℕ) → step (drop at s) ≡ Word w k → lex_at at (drop at s) ≡ before (token w at k) (lex_at (at + k) (drop (at + k) s))
unfolding on_step
word-turn s at w k e = lex_at-turn at (drop at s) ∙ rw e (ap (before (token w at k)) (onward s at k))

stop-turn : (s : List ℕ) (at k : ℕ) (w : Ending) → step (drop at s) ≡ Stop k w → lex_at at (drop at s) ≡ ended w (at + k)
unfolding on_step
stop-turn s at k w e = lex_at-turn at (drop at s) ∙ rw e refl

-- The bounds of a turn.
pub fair-at : (s : List ℕ) (at : ℕ) (t : Step) → step (drop at s) ≡ t → Fair (length (drop at s)) t
fair-at s at t e = subst (Fair (length (drop at s))) e (fair-step (drop at s))

pub skip-bounds : (s : List ℕ) (at k : ℕ) → at ≤ length s → step (drop at s) ≡ Skip k → (0 < k) × (at + k ≤ length s)
unfolding Fair
skip-bounds s at k h e = let f = fair-at s at (Skip k) e in let l = length-drop at s in (f.0, omega arith)

pub word-bounds : (s : List ℕ) (at w k : ℕ) → at ≤ length s → step (drop at s) ≡ Word w k → (0 < k) × (at + k ≤ length s) × (w ≤ 45)
unfolding Fair
word-bounds s at w k h e = let f = fair-at s at (Word w k) e in let l = length-drop at s in (f.0, omega arith, f.3)

pub stop-bounds : (s : List ℕ) (at k : ℕ) (w : Ending) → at ≤ length s → step (drop at s) ≡ Stop k w → at + k ≤ length s
unfolding Fair
stop-bounds s at k w h e = let f = fair-at s at (Stop k w) e in let l = length-drop at s in omega arith

pub end-small : (w : Ending) → end_kind w < 64
unfolding end_kind
end-small TrueEnd = omega arith
end-small UnknownChar = omega arith
end-small UnterminatedString = omega arith
end-small (Panic k) = omega arith

-- One element more in the front of an array.
array-more : (all a a' rest : List ℕ) (n v : ℕ) → n < length a → a' ≡ set a n v → all ≡ take n a ++ (v ∷ rest) → all ≡ take (n + 1) a' ++ rest
array-more all a a' rest n v h s e =
    e ∙ sym (append_assoc (take n a) (v ∷ []) rest) ∙ ap (λ (l : List ℕ). l ++ rest) (sym (ap (λ (l : List ℕ). take (n + 1) l) s ∙ ap (λ (m : ℕ). take m (set a n v)) (add-one n) ∙ take-suc-set a n v h))

set_long : (a a' : List ℕ) (n v m : ℕ) → a' ≡ set a n v → length a ≡ m → length a' ≡ m
set_long a a' n v m s e = ap length s ∙ length-set a n v ∙ e

module _ (s offs₀ words₀ offs words : List ℕ) (at n : ℕ) (l : Loading s offs₀ words₀ offs words at n) where
  pub loading-skip : (k : ℕ) → step (drop at s) ≡ Skip k → Loading s offs₀ words₀ offs words (at + k) n
  loading-skip k e =
      let t = skip-turn s at k e in
      record {
        in-script = (skip-bounds s at k l.in-script e).1;
        in-arrays = l.in-arrays;
        long-offs = l.long-offs;
        long-words = l.long-words;
        even = l.even;
        all-offs = l.all-offs ∙ ap (λ (x : Lexed). take n offs ++ offs_of x.toks) t;
        all_words = l.all_words ∙ ap (λ (x : Lexed). take n words ++ words_of x.toks) t;
        ends = l.ends ∙ ap (λ (x : Lexed). x.ending) t;
        place = l.place ∙ ap (λ (x : Lexed). x.at) t;
      }

  pub loading-word : (w k : ℕ) → step (drop at s) ≡ Word w k → n < length offs
      → (offs' words' : List ℕ) → offs' ≡ set offs n at → words' ≡ set words n (w + 64 * k) → Loading s offs₀ words₀ offs' words' (at + k) (n + 1)
  unfolding offs_of words_of
  loading-word w k e h offs' words' eo ew =
      let t = word-turn s at w k e in
      let lo = set_long offs offs' n at (length offs₀) eo l.long-offs in
      let lw = set_long words words' n (w + 64 * k) (length words₀) ew l.long-words in
      record {
        in-script = (word-bounds s at w k l.in-script e).1;
        in-arrays = omega (arith, l.long-offs);
        long-offs = lo;
        long-words = lw;
        even = omega (arith, l.long-offs, l.long-words, l.even);
        all-offs = array-more (offs_of (lex s)) offs offs' _ n at h eo (l.all-offs ∙ ap (λ (x : Lexed). take n offs ++ offs_of x.toks) t);
        all_words = array-more (words_of (lex s)) words words' _ n (w + 64 * k) (omega (arith, l.even)) ew (l.all_words ∙ ap (λ (x : Lexed). take n words ++ words_of x.toks) t);
        ends = l.ends ∙ ap (λ (x : Lexed). x.ending) t;
        place = l.place ∙ ap (λ (x : Lexed). x.at) t;
      }

  -- The arrays are full, and there is a token yet.
  full : (t : Token) (ts : List Token) → (lex_at at (drop at s)).toks ≡ t ∷ ts → length offs ≤ n → length offs < length (lex s)
  unfolding offs_of
  full t ts e h =
      let z : length (offs_of (lex s)) ≡ length (take n offs ++ offs_of (t ∷ ts)) = ap length (l.all-offs ∙ ap (λ (x : List Token). take n offs ++ offs_of x) e) in
      let a = length-append (take n offs) (offs_of (t ∷ ts)) in
      let b = length-take-le n offs l.in-arrays in
      let c = length-map (lex s) (λ (x : Token). x.off) in
      omega arith

  pub full-word : (w k : ℕ) → step (drop at s) ≡ Word w k → length offs ≤ n → Loaded s offs₀ words₀ (Err TokensFull) offs words
  full-word w k e h = record { long-offs = l.long-offs; long-words = l.long-words; by = (refl, full _ _ (ap (λ (x : Lexed). x.toks) (word-turn s at w k e)) h) }

  pub full-stop : (k : ℕ) (w : Ending) → step (drop at s) ≡ Stop k w → length offs ≤ n → Loaded s offs₀ words₀ (Err TokensFull) offs words
  unfolding ended
  full-stop k w e h = record { long-offs = l.long-offs; long-words = l.long-words; by = (refl, full _ _ (ap (λ (x : Lexed). x.toks) (stop-turn s at k w e)) h) }

  pub loading-stop : (k kind : ℕ) (w : Ending) → step (drop at s) ≡ Stop k w → n < length offs → kind ≡ end_kind w
      → (offs' words' : List ℕ) → offs' ≡ set offs n (at + k) → words' ≡ set words n (kind + 64 * 0) → Loaded s offs₀ words₀ (Ok (ended_with (n + 1) w (at + k))) offs' words'
  unfolding offs_of words_of ended end_len
  loading-stop k kind w e h ek offs' words' eo ew =
      let t = stop-turn s at k w e in
      let lo = set_long offs offs' n (at + k) (length offs₀) eo l.long-offs in
      let lw = set_long words words' n (kind + 64 * 0) (length words₀) ew l.long-words in
      let ao : offs_of (lex s) ≡ take (n + 1) offs' = array-more (offs_of (lex s)) offs offs' [] n (at + k) h eo (l.all-offs ∙ ap (λ (x : Lexed). take n offs ++ offs_of x.toks) t) ∙ append-nil (take (n + 1) offs') in
      let aw : words_of (lex s) ≡ take (n + 1) words' = array-more (words_of (lex s)) words words' [] n (kind + 64 * 0) (omega (arith, l.even)) ew
      (l.all_words ∙ ap (λ (x : Lexed). take n words ++ words_of x.toks) t ∙ ap (λ (m : ℕ). take n words ++ ((m + 64 * 0) ∷ [])) (sym ek)) ∙ append-nil (take (n + 1) words') in
      let c = length-map (lex s) (λ (x : Token). x.off) in
      let d = ap length ao in
      let f = length-take-le (n + 1) offs' (omega (arith, l.long-offs)) in
      record { long-offs = lo; long-words = lw; by = record { count = omega arith; ends = sym (l.ends ∙ ap (λ (x : Lexed). x.ending) t); place = sym (l.place ∙ ap (λ (x : Lexed). x.at) t); at-offs = sym ao; at_words = sym aw } }
