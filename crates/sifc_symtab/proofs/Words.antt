-- The parts of the symbols' words after a symbol or a link is written.
use Prim.Native.Nat.{ℕ, ◌+◌, ◌*◌, ◌/◌, ◌%◌, ◌≤◌, ◌<◌}
use mathlib.Core.Path.{◌≡◌, refl, sym, ap, ◌∙◌}
use mathlib.Core.List.{List}
use mathlib.Core.Bool.{true, false}
use native.Mathlib.Omega.{arith}
use lib.ListN.{length, get_or, set, length-set}
use lib.Seq.{get_or-set_same, get_or-set_other}
use Rattle.std.proofs.lemmas.List.{set-get_or}
use Rattle.sifc_word.specs.Base.{if◌then◌otherwise◌}
use Rattle.sifc_def.specs.declared.What.{What}
use Rattle.sifc_def.specs.declared.What.TheVariants.{Placeholder, Function, Variable, Other}
use Rattle.sifc_symtab.specs.Table.{name_in, what_of, tag_of, value_of, level_at, value_at, token_in, tag_at, hash_at, next_at, head_at, sym_at, entered, with_next, with_head, buckets_of, Opens}
use Rattle.sifc_symtab.specs.declared.entry.Entry.{Entry}
use Rattle.sifc_symtab.specs.Entry.{entry_of, written, level_of, hash_in, next_of, head_of, declared_as, followed_by, headed_by}
use Rattle.sifc_symtab.proofs.Cases.{by-eq}

-- the tag and the value say what was stored
pub what-back : (w : What) → what_of (tag_of w) (value_of w) ≡ w
unfolding what_of tag_of value_of if◌then◌otherwise◌
what-back Placeholder = refl
what-back (Function n) = refl
what-back (Variable i false) = refl
what-back (Variable i true) = refl
what-back Other = refl

-- a tag fits three bits
pub tag_small : (w : What) → tag_of w < 8
unfolding tag_of
tag_small Placeholder = omega arith
tag_small (Function n) = omega arith
tag_small (Variable i false) = omega arith
tag_small (Variable i true) = omega arith
tag_small Other = omega arith

-- ── the first three words of symbol k are as they were ──

pub record Kept (a b : List ℕ) (k : ℕ) : Type 0 where
  pub first : get_or b (4 * k) 0 ≡ get_or a (4 * k) 0
  pub second : get_or b (4 * k + 1) 0 ≡ get_or a (4 * k + 1) 0
  pub third : get_or b (4 * k + 2) 0 ≡ get_or a (4 * k + 2) 0

-- twice
pub kept_on : {a b c : List ℕ} {k : ℕ} → Kept a b k → Kept b c k → Kept a c k
kept_on p q = record { first = q.first ∙ p.first; second = q.second ∙ p.second; third = q.third ∙ p.third }

-- the level
pub kept-level : {a b : List ℕ} {k : ℕ} → Kept a b k → level_at b k ≡ level_at a k
unfolding level_at
kept-level p = ap (λ (x : ℕ). x % 65536) p.first

-- the hash
pub kept-hash : {a b : List ℕ} {k : ℕ} → Kept a b k → hash_at b k ≡ hash_at a k
unfolding hash_at
kept-hash p = ap (λ (x : ℕ). x / 8) p.third

-- the symbol
pub kept-sym : (script offs words : List ℕ) {a b : List ℕ} {k : ℕ} → Kept a b k → sym_at script offs words b k ≡ sym_at script offs words a k
unfolding sym_at level_at
kept-sym script offs words p = rw (p.first, p.second, p.third) refl

-- ── a symbol written ──

module _ (symbols : List ℕ) (k level i : ℕ) (w : What) (h : ℕ) where
  -- the words are as many
  pub entered-length : length (entered symbols k level i w h) ≡ length symbols
  unfolding entered
  entered-length = simp length-set

  -- the first word
  one : List ℕ
  one = set symbols (4 * k) (level + 65536 * value_of w)

  -- the second
  two : List ℕ
  two = set one (4 * k + 1) i

  -- a word of another symbol, or a link
  other : (j : ℕ) → (j ≡ 4 * k → ⊥) → (j ≡ 4 * k + 1 → ⊥) → (j ≡ 4 * k + 2 → ⊥) → get_or (entered symbols k level i w h) j 0 ≡ get_or symbols j 0
  unfolding entered one two
  other j a b c =
      get_or-set_other two (4 * k + 2) j (tag_of w + 8 * h) 0 c
      ∙ get_or-set_other one (4 * k + 1) j i 0 b
      ∙ get_or-set_other symbols (4 * k) j (level + 65536 * value_of w) 0 a

  -- the other symbols stay
  pub entered-kept : (j : ℕ) → (j ≡ k → ⊥) → Kept symbols (entered symbols k level i w h) j
  entered-kept j n =
      record {
        first = other (4 * j) (λ e. n (omega arith)) (λ e. omega arith) (λ e. omega arith);
        second = other (4 * j + 1) (λ e. omega arith) (λ e. n (omega arith)) (λ e. omega arith);
        third = other (4 * j + 2) (λ e. omega arith) (λ e. omega arith) (λ e. n (omega arith));
      }

  -- the links stay
  links : (j : ℕ) → get_or (entered symbols k level i w h) (4 * j + 3) 0 ≡ get_or symbols (4 * j + 3) 0
  links j = other (4 * j + 3) (λ e. omega arith) (λ e. omega arith) (λ e. omega arith)

  -- what follows a symbol
  pub entered-next : (j : ℕ) → next_at (entered symbols k level i w h) j ≡ next_at symbols j
  unfolding next_at
  entered-next j = ap (λ (x : ℕ). x % 65536) (links j)

  -- the heads of the buckets
  pub entered-head : (j : ℕ) → head_at (entered symbols k level i w h) j ≡ head_at symbols j
  unfolding head_at
  entered-head j = ap (λ (x : ℕ). x / 65536) (links j)

  module _ (r : k * 4 + 4 ≤ length symbols) (sl : level < 65536) where
    -- the first word
    at_first : get_or (entered symbols k level i w h) (4 * k) 0 ≡ level + 65536 * value_of w
    unfolding entered one two
    at_first =
        get_or-set_other two (4 * k + 2) (4 * k) (tag_of w + 8 * h) 0 (λ e. omega arith)
        ∙ get_or-set_other one (4 * k + 1) (4 * k) i 0 (λ e. omega arith)
        ∙ get_or-set_same symbols (4 * k) (level + 65536 * value_of w) 0 (omega arith)

    -- the second
    at_second : get_or (entered symbols k level i w h) (4 * k + 1) 0 ≡ i
    unfolding entered one two
    at_second = get_or-set_other two (4 * k + 2) (4 * k + 1) (tag_of w + 8 * h) 0 (λ e. omega arith) ∙ get_or-set_same one (4 * k + 1) i 0 (simp length-set (omega arith))

    -- the third
    at-third : get_or (entered symbols k level i w h) (4 * k + 2) 0 ≡ tag_of w + 8 * h
    unfolding entered one two
    at-third = get_or-set_same two (4 * k + 2) (tag_of w + 8 * h) 0 (simp length-set (omega arith))

    -- the level
    pub entered-level : level_at (entered symbols k level i w h) k ≡ level
    unfolding level_at
    entered-level = omega (arith, at_first)

    -- the hash
    pub entered-hash : hash_at (entered symbols k level i w h) k ≡ h
    unfolding hash_at
    entered-hash = omega (arith, at-third, tag_small w)

    -- the name's token
    pub entered-token : token_in (entered symbols k level i w h) k ≡ i
    entered-token = at_second

    -- the tag
    entered-tag : tag_at (entered symbols k level i w h) k ≡ tag_of w
    entered-tag = omega (arith, at-third, tag_small w)

    -- the value
    entered-value : value_at (entered symbols k level i w h) k ≡ value_of w
    entered-value = omega (arith, at_first)

    -- the symbol
    pub entered-sym : (script offs words : List ℕ) → sym_at script offs words (entered symbols k level i w h) k ≡ record { level = level; name = name_in script offs words i; what = w }
    unfolding sym_at
    entered-sym script offs words = rw (entered-level, at_second, entered-tag, entered-value, what-back w) refl

-- ── a link written ──

module _ (symbols : List ℕ) (k v : ℕ) where
  -- the other words stay
  link-kept : (j : ℕ) → Kept symbols (set symbols (4 * k + 3) v) j
  link-kept j =
      record {
        first = get_or-set_other symbols (4 * k + 3) (4 * j) v 0 (λ e. omega arith);
        second = get_or-set_other symbols (4 * k + 3) (4 * j + 1) v 0 (λ e. omega arith);
        third = get_or-set_other symbols (4 * k + 3) (4 * j + 2) v 0 (λ e. omega arith);
      }

  -- the other links stay
  link-other : (j : ℕ) → (j ≡ k → ⊥) → get_or (set symbols (4 * k + 3) v) (4 * j + 3) 0 ≡ get_or symbols (4 * j + 3) 0
  link-other j n = get_or-set_other symbols (4 * k + 3) (4 * j + 3) v 0 (λ e. n (omega arith))

  -- the word of the links
  link_here : k * 4 + 4 ≤ length symbols → get_or (set symbols (4 * k + 3) v) (4 * k + 3) 0 ≡ v
  link_here r = get_or-set_same symbols (4 * k + 3) v 0 (omega arith)

module _ (symbols : List ℕ) (k l : ℕ) where
  -- the words are as many
  pub next-length : length (with_next symbols k l) ≡ length symbols
  unfolding with_next
  next-length = simp length-set

  -- the other words stay
  pub next-kept : (j : ℕ) → Kept symbols (with_next symbols k l) j
  unfolding with_next
  next-kept j = link-kept symbols k (l + 65536 * head_at symbols k) j

  -- what follows another symbol
  pub next-other : (j : ℕ) → (j ≡ k → ⊥) → next_at (with_next symbols k l) j ≡ next_at symbols j
  unfolding with_next next_at
  next-other j n = ap (λ (x : ℕ). x % 65536) (link-other symbols k (l + 65536 * head_at symbols k) j n)

  module _ (r : k * 4 + 4 ≤ length symbols) (s : l < 65536) where
    -- what follows symbol k
    pub next_here : next_at (with_next symbols k l) k ≡ l
    unfolding with_next next_at
    next_here = omega (arith, link_here symbols k (l + 65536 * head_at symbols k) r)

    -- the head in the same word
    head-here : head_at (with_next symbols k l) k ≡ head_at symbols k
    unfolding with_next head_at
    head-here = omega (arith, link_here symbols k (l + 65536 * head_at symbols k) r)

    -- the heads in the others
    head-other : (j : ℕ) → (j ≡ k → ⊥) → head_at (with_next symbols k l) j ≡ head_at symbols j
    unfolding with_next head_at
    head-other j n = ap (λ (x : ℕ). x / 65536) (link-other symbols k (l + 65536 * head_at symbols k) j n)

    -- all heads stay
    pub next-head : (j : ℕ) → head_at (with_next symbols k l) j ≡ head_at symbols j
    next-head j = by-eq j k (λ e. ap (head_at (with_next symbols k l)) e ∙ head-here ∙ ap (head_at symbols) (sym e)) (head-other j)

module _ (symbols : List ℕ) (b l : ℕ) where
  -- the words are as many
  pub head-length : length (with_head symbols b l) ≡ length symbols
  unfolding with_head
  head-length = simp length-set

  -- the other words stay
  pub head-kept : (j : ℕ) → Kept symbols (with_head symbols b l) j
  unfolding with_head
  head-kept j = link-kept symbols b (next_at symbols b + 65536 * l) j

  -- the heads of the other buckets
  pub heads-other : (j : ℕ) → (j ≡ b → ⊥) → head_at (with_head symbols b l) j ≡ head_at symbols j
  unfolding with_head head_at
  heads-other j n = ap (λ (x : ℕ). x / 65536) (link-other symbols b (next_at symbols b + 65536 * l) j n)

  module _ (r : b * 4 + 4 ≤ length symbols) where
    -- the head of bucket b
    pub heads-here : head_at (with_head symbols b l) b ≡ l
    unfolding with_head head_at next_at
    heads-here = omega (arith, link_here symbols b (next_at symbols b + 65536 * l) r)

    -- the next link in the same word
    nexts-here : next_at (with_head symbols b l) b ≡ next_at symbols b
    unfolding with_head next_at
    nexts-here = omega (arith, link_here symbols b (next_at symbols b + 65536 * l) r)

    -- the next links in the others
    nexts-other : (j : ℕ) → (j ≡ b → ⊥) → next_at (with_head symbols b l) j ≡ next_at symbols j
    unfolding with_head next_at
    nexts-other j n = ap (λ (x : ℕ). x % 65536) (link-other symbols b (next_at symbols b + 65536 * l) j n)

    -- all next links stay
    pub head-next : (j : ℕ) → next_at (with_head symbols b l) j ≡ next_at symbols j
    head-next j = by-eq j b (λ e. ap (next_at (with_head symbols b l)) e ∙ nexts-here ∙ ap (next_at symbols) (sym e)) (nexts-other j)

-- ── a symbol's words, read and written ──

module _ (symbols : List ℕ) (k : ℕ) (e : Entry) (p : e ≡ entry_of symbols k) where
  -- the level
  pub level-read : level_of e ≡ level_at symbols k
  unfolding level_at
  level-read = ap level_of p

  -- the name's token
  pub token-read : e.token ≡ token_in symbols k
  token-read = ap (λ (x : Entry). x.token) p

  -- the hash
  pub hash-read : hash_in e ≡ hash_at symbols k
  unfolding hash_at
  hash-read = ap hash_in p

  -- the link to what follows
  pub next-read : next_of e ≡ next_at symbols k
  unfolding next_at
  next-read = ap next_of p

  -- the link to the bucket's first
  pub head-read : head_of e ≡ head_at symbols k
  unfolding head_at
  head-read = ap head_of p

  -- another symbol
  pub declared-write : (level i : ℕ) (w : What) (h : ℕ) (d : Entry) → d ≡ declared_as e level i w h → written symbols k d ≡ entered symbols k level i w h
  unfolding written entered
  declared-write level i w h d q =
      ap (written symbols k) (q ∙ ap (λ (x : Entry). declared_as x level i w h) p)
      ∙ ap (set (entered symbols k level i w h) (4 * k + 3)) (sym (links symbols k level i w h k))
      ∙ set-get_or (entered symbols k level i w h) (4 * k + 3) 0

  -- another link to what follows
  pub next-write : (l : ℕ) (d : Entry) → d ≡ followed_by e l → written symbols k d ≡ with_next symbols k l
  unfolding written with_next head_at
  next-write l d q =
      ap (written symbols k) (q ∙ ap (λ (x : Entry). followed_by x l) p)
      ∙ rw (set-get_or symbols (4 * k) 0, set-get_or symbols (4 * k + 1) 0, set-get_or symbols (4 * k + 2) 0) refl

  -- another link to the bucket's first
  pub head-write : (l : ℕ) (d : Entry) → d ≡ headed_by e l → written symbols k d ≡ with_head symbols k l
  unfolding written with_head next_at
  head-write l d q =
      ap (written symbols k) (q ∙ ap (λ (x : Entry). headed_by x l) p)
      ∙ rw (set-get_or symbols (4 * k) 0, set-get_or symbols (4 * k + 1) 0, set-get_or symbols (4 * k + 2) 0) refl

-- ── no symbols at first ──

-- the heads of the first b buckets are 0
pub record Opening (words was symbols : List ℕ) (b : ℕ) : Type 0 where
  pub long : length symbols ≡ length was
  pub within : b ≤ buckets_of words was
  pub none : (j : ℕ) → j < b → head_at symbols j ≡ 0

-- none yet
pub opening : (words symbols : List ℕ) → Opening words symbols symbols 0
opening words symbols = record { long = refl; within = omega arith; none = λ j h. absurd (let z : ⊥ = omega arith in z) }

-- one bucket more
pub opening-more : {words was symbols : List ℕ} {b : ℕ} → Opening words was symbols b → b < buckets_of words was → Opening words was (set symbols (4 * b + 3) 0) (b + 1)
unfolding head_at
opening-more {words} {was} {symbols} {b} p h =
    record {
      long = simp length-set p.long;
      within = omega arith;
      none = λ j i. by-eq j b
          (λ e. let z = link_here symbols b 0 (omega (arith, p.long)) in ap (λ (x : ℕ). get_or (set symbols (4 * b + 3) 0) (4 * x + 3) 0 / 65536) e ∙ ap (λ (x : ℕ). x / 65536) z)
          (λ e. ap (λ (x : ℕ). x / 65536) (link-other symbols b 0 j e) ∙ p.none j (omega arith));
    }

-- all buckets
pub opening-end : {words was symbols : List ℕ} {b : ℕ} → Opening words was symbols b → buckets_of words was ≤ b → Opens words symbols
opening-end {words} {was} {symbols} {b} p h =
    λ script offs. record {
      room = omega arith;
      hashes = λ k i. absurd (let z : ⊥ = omega arith in z);
      chains = record {
        heads = λ d i. let z = p.none d (omega (arith, p.long)) in record { none = λ e j q. omega (arith, q.below); some = λ m e. absurd (let y : ⊥ = omega arith in y) };
        nexts = λ k i. absurd (let z : ⊥ = omega arith in z);
      };
    }
