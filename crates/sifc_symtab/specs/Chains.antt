-- Chains of numbered entries, one for each bucket. In its chain an entry of a higher level stands before one of a lower level, and of one level the older
-- before the newer. A link is an entry's number + 1, or 0 for none.
use Rattle.std.specs.Prelude.{ℕ, suc, ◌+◌, ◌*◌, ◌≤◌, ◌<◌, ◌≡◌}

-- Entry j stands before entry k, of numbers below 65,536: k's level is lower, or it is the same and k is newer.
abbrev pub Before : (ℕ → ℕ) → ℕ → ℕ → Type 0
Before lev j k = 65536 * lev k + j < 65536 * lev j + k

-- m stands before all others that P has
pub record Leads (lev : ℕ → ℕ) (P : ℕ → Type 0) (m : ℕ) : Type 0 where
  pub one : P m
  pub first : (j : ℕ) → P j → 65536 * lev j + m ≤ 65536 * lev m + j

-- l is the link to the first of the entries that P has
pub record First (lev : ℕ → ℕ) (P : ℕ → Type 0) (l : ℕ) : Type 0 where
  pub none : l ≡ 0 → (j : ℕ) → P j → ⊥
  pub some : (m : ℕ) → l ≡ suc m → Leads lev P m

-- entry j, of the first n, is in bucket b
pub record In (n : ℕ) (buc : ℕ → ℕ) (b j : ℕ) : Type 0 where
  pub below : j < n
  pub bucket : buc j ≡ b

-- and stands behind entry k
pub record Behind (n : ℕ) (lev buc : ℕ → ℕ) (k j : ℕ) : Type 0 where
  pub below : j < n
  pub bucket : buc j ≡ buc k
  pub after : Before lev k j

-- The first n entries: a bucket's head is its first entry, and an entry's next the first of those behind it.
pub record Chains (buckets n : ℕ) (lev buc next head : ℕ → ℕ) : Type 0 where
  pub heads : (b : ℕ) → b < buckets → First lev (In n buc b) (head b)
  pub nexts : (k : ℕ) → k < n → First lev (Behind n lev buc k) (next k)
