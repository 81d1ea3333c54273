-- What clearing leaves of an array, and the tests of entry.
use Rattle.std.specs.Prelude.{Ok, Err}
use Prim.Native.Nat.{ℕ, ◌+◌, ◌-◌, ◌/◌, ◌%◌, ◌≤◌, ◌<◌}
use mathlib.Core.Path.{◌≡◌, refl, sym, ap, ap₂, ◌∙◌}
use mathlib.Core.List.{List, ◌++◌, map, append-nil}
use mathlib.Core.Bool.{Bool, true, false}
use native.Mathlib.Omega.{arith}
use lib.ListN.{length, take, drop, get_or, replicate, length-append, length-drop, length-map}
use lib.Seq.{length-take-le, take_at, drop-length}
use borrow.Rule.Slice.PartMut.{put_mid, Post-is}
use Rattle.sifc_err.specs.declared.Refusal.{Refusal}
use Rattle.sifc_err.specs.declared.Refusal.TheVariants.{Uneven}
use Rattle.sifc_word.specs.Base.{if◌then◌otherwise◌}
use Rattle.sifc_lex.specs.Lex.{token}
use Rattle.sifc_tokens.specs.Tokens.{Checked, passed, padded, zeroed, check_of}
use Rattle.sifc_def.specs.State.{token_at}
use Rattle.sifc_def.specs.Read.{Arrays, even, entry}
use Rattle.sifc_symtab.specs.Toks.{toks_of, toks-at}

-- what is left of a list whose end is filled
pub fill_tail : {X : Type 0} (n : ℕ) (xs ys : List X) (v : X) → n ≤ length xs → ys ≡ replicate (length (take (length xs - n) (drop n xs))) v → put_mid n (length xs - n) xs ys ≡ take n xs ++ replicate (length xs - n) v
fill_tail {X} n xs ys v h e =
    let m : length (take (length xs - n) (drop n xs)) ≡ length xs - n = length-take-le (length xs - n) (drop n xs) (omega (arith, length-drop n xs)) in
    ap (λ (z : List X). take n xs ++ z) (ap₂ (λ (a b : List X). a ++ b) (e ∙ ap (λ (k : ℕ). replicate k v) m) (Post-is n (length xs) xs h ∙ drop-length xs) ∙ append-nil (replicate (length xs - n) v))

pub front_kept : (a a' : List ℕ) (n : ℕ) → n ≤ length a → a' ≡ take n a ++ replicate (length a - n) 0 → a' ≡ padded (take n a) (length a)
unfolding padded
front_kept a a' n h e = e ∙ ap (λ (m : ℕ). take n a ++ replicate (length a - m) 0) (sym (length-take-le n a h))

pub front-none : (a a' : List ℕ) → a' ≡ take 0 a ++ replicate (length a - 0) 0 → a' ≡ zeroed a
unfolding zeroed
front-none a a' e = e ∙ ap (λ (i : ℕ). replicate i 0) (let z : length a - 0 ≡ length a = omega arith in z)

-- the front is made anew before the rest is cleared
pub front-mapped : (f : ℕ → ℕ) (a a' a'' : List ℕ) (n : ℕ) → n ≤ length a → a' ≡ map f (take n a) ++ drop n a → a'' ≡ padded (take n a') (length a') → a'' ≡ padded (map f (take n a)) (length a)
front-mapped f a a' a'' n h e g =
    let l : length (map f (take n a)) ≡ n = length-map (take n a) f ∙ length-take-le n a h in
    let m : length a' ≡ length a = ap length e ∙ length-append (map f (take n a)) (drop n a) ∙ (let z : length (map f (take n a)) + length (drop n a) ≡ length a = omega (arith, length-drop n a) in z) in
    g ∙ ap₂ padded (ap (take n) e ∙ take_at (map f (take n a)) (drop n a) n l) m

-- what the tests of entry come to, by that of the script and that of the lengths
abbrev by_tests : Checked → Bool → Checked
by_tests k b = elim k [ Err r ↦ Err r | Ok _ ↦ if b then passed otherwise Err Uneven ]

entry-is : (s : List ℕ) (a : Arrays) → by_tests (check_of s) (even a) ≡ entry s a
unfolding entry
entry-is s a = refl

pub entry-passed : (s : List ℕ) (a : Arrays) → check_of s ≡ passed → even a ≡ true → passed ≡ entry s a
unfolding if◌then◌otherwise◌
entry-passed s a e f = sym (ap₂ by_tests e f) ∙ entry-is s a

pub entry-uneven : (s : List ℕ) (a : Arrays) → check_of s ≡ passed → even a ≡ false → Err Uneven ≡ entry s a
unfolding if◌then◌otherwise◌
entry-uneven s a e f = sym (ap₂ by_tests e f) ∙ entry-is s a

pub entry-refused : (s : List ℕ) (a : Arrays) (f : Refusal) → check_of s ≡ Err f → Err f ≡ entry s a
entry-refused s a f e = sym (ap (λ (k : Checked). by_tests k (even a)) e) ∙ entry-is s a

-- the token of two words
pub token-in : (os ws : List ℕ) (i o l : ℕ) → i < length os → i < length ws → o ≡ get_or os i 0 → l ≡ get_or ws i 0 / 64 → token (get_or ws i 0 % 64) o l ≡ token_at (toks_of os ws) i
token-in os ws i o l h k eo el = ap₂ (λ (x y : ℕ). token (get_or ws i 0 % 64) x y) eo el ∙ sym (toks-at os ws i h k)
