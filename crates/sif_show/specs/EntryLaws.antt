-- Laws of entries: a number, one byte at a time, and the bounds of an entry's script.
use Rattle.std.specs.Prelude.{ℕ, ◌+◌, ◌-◌, ◌*◌, ◌%◌, ◌≤◌, ◌<◌, ◌≡◌, refl, List, [], ◌∷◌, Bool, true, false, ◌||◌, leb, length, drop, get_or}
use Rattle.std.proofs.Common.{sym, subst, arith, add-one, le-leb, leb-false, drop_of_length-le, drop-cons}
use Rattle.std.proofs.lemmas.Bool.{lt-leb}
use Rattle.std.specs.Char.{is_ascii_digit}
use Rattle.sifc_word.specs.Base.{if◌then◌otherwise◌, within}
use Rattle.sifc_word.specs.BaseLaws.{and-false}
use Rattle.sif_show.specs.declared.entries.Number.{Number}
use Rattle.sif_show.specs.declared.entries.Entry.{Entry}
use Rattle.sif_show.specs.Entries.{number, entry, goes, number_in, number_at, entry_after, entry_at}

-- A digit goes on a number below 10,000.
pub goes_on : (v b : ℕ) → 48 ≤ b → b ≤ 57 → v ≤ 9999 → goes v b ≡ true
unfolding goes within
goes_on v b h k m = rw (le-leb 48 b h, le-leb b 57 k, le-leb v 9999 m) refl

-- A byte that is no digit, and a number of 10,000 or more end it.
pub goes-none : (v b : ℕ) → is_ascii_digit b ≡ false → goes v b ≡ false
unfolding goes within
goes-none v b h = rw h refl

pub goes-full : (v b : ℕ) → 9999 < v → goes v b ≡ false
unfolding goes
goes-full v b h = rw (lt-leb v 9999 h) (and-false (within 48 57 b))

-- The byte at i goes on the number.
pub number_more : (l : List ℕ) (v i : ℕ) → i < length l → goes v (get_or l i 0) ≡ true → number_in v i (drop i l) ≡ number_in (v * 10 + get_or l i 0 % 16) (i + 1) (drop (i + 1) l)
unfolding number_in if◌then◌otherwise◌
number_more l v i h g = rw (drop-cons l i 0 h, add-one i) (rw (number_in, g) refl)

-- The byte at i ends the number.
pub number-stop : (l : List ℕ) (v i : ℕ) → i < length l → goes v (get_or l i 0) ≡ false → number_in v i (drop i l) ≡ number v i
unfolding number_in if◌then◌otherwise◌
number-stop l v i h g = rw (drop-cons l i 0 h) (rw (number_in, g) refl)

-- The list's end ends the number.
pub number-end : (l : List ℕ) (v i : ℕ) → length l ≤ i → number_in v i (drop i l) ≡ number v i
unfolding number_in
number-end l v i h = rw (drop_of_length-le l h) refl

-- An entry that is cut off: nothing is left behind its number, or less than its script and a newline.
pub entry-none : (l : List ℕ) (n : Number) → length l ≤ n.next → entry_after l n ≡ entry (length l) (length l)
unfolding entry_after if◌then◌otherwise◌
entry-none l n h = rw (le-leb (length l) n.next h) refl

pub entry-cut : (l : List ℕ) (n : Number) → n.next < length l → length l - n.next ≤ n.value → entry_after l n ≡ entry (length l) (length l)
unfolding entry_after if◌then◌otherwise◌
entry-cut l n h k = rw (lt-leb (length l) n.next h, le-leb (length l - n.next) n.value k) refl

-- An entry that is whole.
pub entry_whole : (l : List ℕ) (n : Number) → n.next < length l → n.value < length l - n.next → entry_after l n ≡ entry (n.next + 1) (n.next + 1 + n.value)
unfolding entry_after if◌then◌otherwise◌
entry_whole l n h k = rw (lt-leb (length l) n.next h, lt-leb (length l - n.next) n.value k) refl

-- A script lies in its list.
pub entry-within : (l : List ℕ) (at : ℕ) (e : Entry) → e ≡ entry_at l at → (e.from ≤ e.end) × (e.end ≤ length l)
unfolding entry_at entry_after if◌then◌otherwise◌
entry-within l at e h = subst (λ (x : Entry). (x.from ≤ x.end) × (x.end ≤ length l)) (sym h) (go (leb (length l) n.next) (leb (length l - n.next) n.value) refl refl)
  where
    n : Number
    n = number_at l at

    go : (p q : Bool) → leb (length l) n.next ≡ p → leb (length l - n.next) n.value ≡ q
        → let x = if p || q then entry (length l) (length l) otherwise entry (n.next + 1) (n.next + 1 + n.value) in (x.from ≤ x.end) × (x.end ≤ length l)
    go true q a b = (omega arith, omega arith)
    go false true a b = (omega arith, omega arith)
    go false false a b = let h₁ = leb-false (length l) n.next a in let h₂ = leb-false (length l - n.next) n.value b in (omega arith, omega arith)

-- What stands behind a number is no earlier than it.
number-next : (v i : ℕ) (bs : List ℕ) → i ≤ (number_in v i bs).next
unfolding number_in if◌then◌otherwise◌
number-next v i [] = omega arith
number-next v i (b ∷ bs) = go (goes v b) (number-next (v * 10 + b % 16) (i + 1) bs)
  where
    go : (t : Bool) → i + 1 ≤ (number_in (v * 10 + b % 16) (i + 1) bs).next → i ≤ (if t then number_in (v * 10 + b % 16) (i + 1) bs otherwise number v i).next
    go true h = omega arith
    go false h = omega arith

-- A script ends no earlier than its entry begins.
pub entry-end : (l : List ℕ) (at : ℕ) (e : Entry) → e ≡ entry_at l at → at < length l → at ≤ e.end
unfolding entry_at entry_after number_at if◌then◌otherwise◌
entry-end l at e h k = subst (λ (x : Entry). at ≤ x.end) (sym h) (go (leb (length l) n.next) (leb (length l - n.next) n.value))
  where
    n : Number
    n = number_at l at

    go : (p q : Bool) → at ≤ (if p || q then entry (length l) (length l) otherwise entry (n.next + 1) (n.next + 1 + n.value)).end
    go true q = omega arith
    go false true = omega arith
    go false false = let b : at ≤ n.next = number-next 0 at (drop at l) in omega arith
