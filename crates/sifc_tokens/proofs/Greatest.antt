-- The greatest byte of a script, byte by byte; a script whose greatest byte is below 128 is one run of such bytes.
use Prim.Native.Nat.{ℕ, suc, ◌+◌, ◌≤◌, ◌<◌, max}
use mathlib.Core.Path.{◌≡◌, refl, ap, ◌∙◌}
use mathlib.Core.List.{List, [], ◌∷◌}
use mathlib.Core.Bool.{Bool, true, false}
use native.Mathlib.Omega.{arith}
use native.Mathlib.Numerals.{add-one}
use borrow.Author.Tests.{lt-ltb, ltb-true, ltb-false}
use lib.Dec.{ltb}
use lib.ListN.{length, drop, get_or, drop_of_length-le}
use lib.Seq.{drop-cons}
use Rattle.sifc_word.specs.Base.{if◌then◌otherwise◌, span}
use Rattle.sifc_word.specs.BaseLaws.{span-yes, span-no}
use Rattle.sifc_lex.specs.Lex.{ascii}
use Rattle.sifc_lex.specs.Bytes.{greatest_from}

-- the greater of two, as a choice
greater : (m b : ℕ) → max m b ≡ (if ltb m b then b otherwise m)
unfolding if◌then◌otherwise◌
greater m b = go (ltb m b) refl
  where
    go : (t : Bool) → ltb m b ≡ t → max m b ≡ (if t then b otherwise m)
    go true e = let z = ltb-true m b e in omega arith
    go false e = let z = ltb-false m b e in omega arith

-- one byte further
pub one : (s : List ℕ) (i m m' : ℕ) → i < length s → m' ≡ max m (get_or s i 0) → greatest_from m' (drop (i + 1) s) ≡ greatest_from m (drop i s)
unfolding greatest_from
one s i m m' h e = rw (drop-cons s i 0 h, add-one) (ap (λ (k : ℕ). greatest_from k (drop (suc i) s)) (e ∙ greater m (get_or s i 0)))

-- at the end
pub at-end : (s : List ℕ) (i m : ℕ) → length s ≤ i → greatest_from m (drop i s) ≡ m
unfolding greatest_from
at-end s i m h = rw (drop_of_length-le s h) refl

-- the greater of two is neither's better
larger : (m b : ℕ) → (m ≤ (if ltb m b then b otherwise m)) × (b ≤ (if ltb m b then b otherwise m))
unfolding if◌then◌otherwise◌
larger m b = go (ltb m b) refl
  where
    go : (t : Bool) → ltb m b ≡ t → (m ≤ (if t then b otherwise m)) × (b ≤ (if t then b otherwise m))
    go true e = (omega (arith, ltb-true m b e), omega arith)
    go false e = (omega arith, ltb-false m b e)

from_le : (m : ℕ) (s : List ℕ) → m ≤ greatest_from m s
unfolding greatest_from
from_le m [] = omega arith
from_le m (b ∷ bs) = let h = from_le (if ltb m b then b otherwise m) bs in let l = larger m b in omega (arith, h, l.0)

pub all_ascii : (m : ℕ) (s : List ℕ) → greatest_from m s < 128 → span ascii s ≡ length s
unfolding greatest_from span ascii
all_ascii m [] h = refl
all_ascii m (b ∷ bs) h =
    let l = larger m b in
    let f = from_le (if ltb m b then b otherwise m) bs in
    span-yes ascii b bs (lt-ltb b 128 (omega (arith, f, l.1, h))) ∙ ap suc (all_ascii (if ltb m b then b otherwise m) bs h)

-- and one whose greatest byte isn't has a byte that ends the run
pub not_ascii : (m : ℕ) (s : List ℕ) → m < 128 → 128 ≤ greatest_from m s → span ascii s < length s
unfolding greatest_from span ascii if◌then◌otherwise◌
not_ascii m [] h k = omega arith
not_ascii m (b ∷ bs) h k = go (ltb b 128) (ltb m b) refl k (λ n. not_ascii n bs)
  where
    go : (t q : Bool) → ltb b 128 ≡ t → 128 ≤ greatest_from (if q then b otherwise m) bs → ((n : ℕ) → n < 128 → 128 ≤ greatest_from n bs → span ascii bs < length bs) → span ascii (b ∷ bs) < length (b ∷ bs)
    go false q e l f = rw (span-no ascii b bs e) (omega arith)
    go true true e l f = let z = f b (ltb-true b 128 e) l in rw (span-yes ascii b bs e) (omega arith)
    go true false e l f = let z = f m h l in rw (span-yes ascii b bs e) (omega arith)
