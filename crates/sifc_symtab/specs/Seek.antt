-- What is looked for among the symbols: the entry of a name that has the highest level between two levels.
use Rattle.std.specs.Prelude.{Option as Found, Some, None, ℕ, suc, ◌+◌, ◌*◌, ◌%◌, ◌≤◌, ◌<◌, min, ◌≡◌, List, Bool, true, false, length}
use Rattle.sifc_word.specs.Base.{same}
use Rattle.sifc_def.specs.State.{Sym}
use Rattle.sifc_symtab.specs.declared.symtab.Spot.{Spot}
use Rattle.sifc_symtab.specs.Chains.{In}
use Rattle.sifc_symtab.specs.Table.{level_at, hash_at, next_at, head_at, hash_of, name_in, token_in, sym_at, buckets_of, bucket_at, linked, with_next, with_head}

-- an entry of the name s, of a level from low to high
pub record Hit (low high : ℕ) (s : List ℕ) (x : Sym) : Type 0 where
  pub above : low ≤ x.level
  pub below : x.level ≤ high
  pub named : same x.name s ≡ true

-- whether the walk along a chain ends at an entry: it is a hit, or its level is too low
pub record Stops (low high : ℕ) (s : List ℕ) (x : Sym) (r : Bool) : Type 0 where
  pub yes : r ≡ true → low ≤ x.level → Hit low high s x
  pub no : r ≡ false → Hit low high s x → ⊥
  pub passed : r ≡ false → low ≤ x.level

-- symbol k has its words, and its name's hash
pub record Hashed (script offs words symbols : List ℕ) (k : ℕ) : Type 0 where
  pub room : k * 4 + 4 ≤ length symbols
  pub one : hash_at symbols k ≡ hash_of (name_in script offs words (token_in symbols k))

-- entry m, which has been passed, is in bucket b, and the link at is its next
pub record Follows (n : ℕ) (lev buc next : ℕ → ℕ) (low b m at : ℕ) : Type 0 where
  pub one : In n buc b m
  pub level : low ≤ lev m
  pub link : at ≡ next m

-- entry j is the one that the link at leads to, or stands behind it
pub record Ahead (lev : ℕ → ℕ) (at j : ℕ) : Type 0 where
  pub on : at ≡ 0 → ⊥
  pub order : (m : ℕ) → at ≡ suc m → 65536 * lev j + m ≤ 65536 * lev m + j

-- A walk along the chain of bucket b stands at the link at, after prev. All hits are still ahead.
pub record Seeking (B n low high b : ℕ) (s : List ℕ) (f : ℕ → Sym) (lev buc next head : ℕ → ℕ) (prev at : ℕ) : Type 0 where
  pub front : prev ≡ 0 → b < B → at ≡ head b
  pub behind : (m : ℕ) → prev ≡ suc m → Follows n lev buc next low b m at
  pub here : (m : ℕ) → at ≡ suc m → In n buc b m
  pub ahead : (j : ℕ) → In n buc b j → Hit low high s (f j) → Ahead lev at j

module _ (script offs words symbols : List ℕ) (n low high h : ℕ) (s : List ℕ) where
  -- the same over the words, in the bucket of the hash h
  abbrev pub Seeks : ℕ → ℕ → Type 0
  Seeks prev at =
      Seeking (buckets_of words symbols) (min n linked) low high (h % buckets_of words symbols) s (sym_at script offs words symbols) (level_at symbols) (bucket_at words symbols) (next_at symbols) (head_at symbols) prev at

  -- where the walk along the chain of the hash h ends
  pub record Sought (r : Spot) : Type 0 where
    pub seeks : Seeks r.prev r.at
    pub stopped : (m : ℕ) → r.at ≡ suc m → low ≤ level_at symbols m → Hit low high s (sym_at script offs words symbols m)

-- r is the hit, among the first k entries, that has the highest level, and is the oldest of that level
pub record Nearest (f : ℕ → Sym) (low high : ℕ) (s : List ℕ) (k r : ℕ) : Type 0 where
  pub below : r < k
  pub hit : Hit low high s (f r)
  pub highest : (j : ℕ) → j < k → Hit low high s (f j) → (f j).level ≤ (f r).level
  pub oldest : (j : ℕ) → j < k → Hit low high s (f j) → (f j).level ≡ (f r).level → r ≤ j

-- the same as an answer: that hit, or none
abbrev pub Finds : (ℕ → Sym) → ℕ → ℕ → List ℕ → ℕ → Found ℕ → Type 0
Finds f low high s k None = (j : ℕ) → j < k → Hit low high s (f j) → ⊥
Finds f low high s k (Some r) = Nearest f low high s k r

-- the symbol that a link leads to, unless its level is below low
pub record FoundAt (symbols : List ℕ) (low at : ℕ) (r : Found ℕ) : Type 0 where
  pub none : at ≡ 0 → r ≡ None
  pub below : (m : ℕ) → at ≡ suc m → level_at symbols m < low → r ≡ None
  pub some : (m : ℕ) → at ≡ suc m → low ≤ level_at symbols m → r ≡ Some m

-- what is found, if anything, is one of the first n entries
abbrev pub Among : ℕ → Found ℕ → Type 0
Among n None = Unit
Among n (Some b) = b < n

-- its level is below entry k's
abbrev pub Lower : (ℕ → Sym) → ℕ → Found ℕ → Type 0
Lower f k None = Unit
Lower f k (Some b) = (f b).level < (f k).level

-- something is found, and its level is entry k's or a higher one
abbrev pub AsHigh : (ℕ → Sym) → ℕ → Found ℕ → Type 0
AsHigh f k None = ⊥
AsHigh f k (Some b) = (f k).level ≤ (f b).level

-- whether entry k is a hit that is better than the one so far
pub record Nearer (f : ℕ → Sym) (low high : ℕ) (s : List ℕ) (best : Found ℕ) (k : ℕ) (r : Bool) : Type 0 where
  pub hit : r ≡ true → Hit low high s (f k)
  pub higher : r ≡ true → Lower f k best
  pub miss : r ≡ false → Hit low high s (f k) → AsHigh f k best

-- ── a new symbol in its chain ──

-- the links fit their words
pub record InsertAt (symbols : List ℕ) (n prev at : ℕ) : Type 0 where
  pub room : n * 4 + 4 ≤ length symbols
  pub few : n < linked
  pub before : prev * 4 ≤ length symbols
  pub after : at < 65536

-- symbol n stands between the links prev and at
pub record Inserts (words symbols : List ℕ) (n h prev at : ℕ) (symbols' : List ℕ) : Type 0 where
  pub front : prev ≡ 0 → symbols' ≡ with_head (with_next symbols n at) (h % buckets_of words symbols) (n + 1)
  pub behind : (m : ℕ) → prev ≡ suc m → symbols' ≡ with_next (with_next symbols n at) m (n + 1)
