-- The hash of a name, byte by byte, and the bucket that it is in.
use Prim.Native.Nat.{ℕ, ◌+◌, ◌*◌, ◌%◌, ◌≤◌, ◌<◌}
use mathlib.Core.Path.{◌≡◌, refl, sym, ap, ◌∙◌}
use mathlib.Core.List.{List, [], ◌∷◌}
use native.Mathlib.Omega.{arith}
use native.Mathlib.Nat.{mod-lt}
use native.Mathlib.Numerals.{add-one}
use lib.ListN.{length, drop, get_or, drop_of_length-le}
use lib.Seq.{drop-cons}
use Rattle.sifc_symtab.specs.Table.{hash_step, hash_from, hash_of, buckets_of}

-- the first i bytes of a name are in the hash
pub record Hashing (s : List ℕ) (h i : ℕ) : Type 0 where
  pub within : i ≤ length s
  pub small : h < 536870912
  pub rest : hash_of s ≡ hash_from h (drop i s)

-- no byte yet
pub hashing-none : (s : List ℕ) → Hashing s 0 0
hashing-none s = record { within = omega arith; small = omega arith; rest = refl }

-- one byte more
pub hashing-more : {s : List ℕ} {h i : ℕ} → Hashing s h i → i < length s → Hashing s (hash_step h (get_or s i 0)) (i + 1)
unfolding hash_from
hashing-more {s} {h} {i} p l = record { within = omega arith; small = omega arith; rest = p.rest ∙ ap (hash_from h) (drop-cons s i 0 l) ∙ rw (add-one i) refl }

-- all bytes
pub hashing-end : {s : List ℕ} {h i : ℕ} → Hashing s h i → length s ≤ i → h ≡ hash_of s
unfolding hash_from
hashing-end {s} {h} {i} p l = sym (p.rest ∙ ap (hash_from h) (drop_of_length-le s l))

-- from a small number on
hash-from-small : (s : List ℕ) (h : ℕ) → h < 536870912 → hash_from h s < 536870912
unfolding hash_from
hash-from-small [] h l = l
hash-from-small (b ∷ bs) h l = hash-from-small bs (hash_step h b) (omega arith)

-- a hash fits 29 bits
pub hash-small : (s : List ℕ) → hash_of s < 536870912
hash-small s = hash-from-small s 0 (omega arith)

-- its bucket is one of the buckets
pub bucket-in : (words symbols : List ℕ) (h : ℕ) → 4 ≤ length symbols → h % buckets_of words symbols < buckets_of words symbols
bucket-in words symbols h l = mod-lt h (let z : 0 < buckets_of words symbols = omega arith in z)

-- and has its words
pub bucket-room : (words symbols : List ℕ) (h B : ℕ) → B ≡ buckets_of words symbols → 4 ≤ length symbols → h % B * 4 + 4 ≤ length symbols
bucket-room words symbols h B e l = rw e (let z = bucket-in words symbols h l in omega arith)
