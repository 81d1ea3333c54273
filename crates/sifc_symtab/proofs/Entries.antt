-- The answers of store, and that the words hold the table that it leaves.
use Prim.Native.Nat.{ℕ, suc, ◌+◌, ◌*◌, ◌-◌, ◌/◌, ◌%◌, ◌≤◌, ◌<◌, min}
use mathlib.Core.Path.{◌≡◌, refl, sym, ap, ap₂, subst, ◌∙◌}
use mathlib.Core.List.{List, [], ◌∷◌, ◌++◌}
use native.Mathlib.Omega.{arith}
use native.Mathlib.Nat.{zero-add}
use native.Mathlib.Numerals.{add-one}
use borrow.Author.Tests.{le-leb, lt-leb}
use lib.ListN.{length, length-append}
use Rattle.sifc_def.specs.declared.What.{What}
use Rattle.sifc_def.specs.State.{Sym}
use Rattle.sifc_def.specs.Symbols.{put_at}
use Rattle.std.specs.Prelude.{Ok, Err}
use Rattle.sifc_err.specs.declared.Refusal.TheVariants.{SymbolsFull}
use Rattle.sifc_symtab.specs.declared.symtab.Spot.{Spot}
use Rattle.sifc_symtab.specs.Chains.{In, Behind, Chains}
use Rattle.sifc_symtab.specs.Table.{name_in, level_at, token_in, hash_at, next_at, head_at, hash_of, sym_at, listed, syms_of, room_of, entered, with_next, with_head, buckets_of, bucket_at, linked, Holds, Fits, new_table, Stores}
use Rattle.sifc_symtab.specs.Seek.{Hit, Sought, Nearest, InsertAt, Inserts}
use Rattle.sifc_symtab.specs.Laws.{listed-ext, listed-last, length-listed}
use Rattle.sifc_symtab.proofs.Cases.{by-eq, by-lt}
use Rattle.sifc_symtab.proofs.Chains.{Grown, chains-front, chains-behind, chains-same, all-below}
use Rattle.sifc_symtab.proofs.Seek.{same-equal}
use Rattle.sifc_symtab.proofs.Levels.{put-old, put-new}
use Rattle.sifc_symtab.proofs.Hash.{bucket-in}
use Rattle.sifc_symtab.proofs.Words.{Kept, kept_on, kept-level, kept-hash, kept-sym, entered-length, entered-kept, entered-next, entered-head, entered-level, entered-hash, entered-token, entered-sym, next-length, next-kept, next-other, next_here, next-head, head-length, head-kept, heads-other, heads-here, head-next}

-- as many buckets in words of one length
buckets-same : (words a b : List ℕ) → length b ≡ length a → buckets_of words b ≡ buckets_of words a
buckets-same words a b e = ap (λ (x : ℕ). min (x / 4) (length words + 1)) e

-- a symbol is in the same bucket
bucket-same : (words a b : List ℕ) (k : ℕ) → length b ≡ length a → hash_at b k ≡ hash_at a k → bucket_at words b k ≡ bucket_at words a k
bucket-same words a b k e h = ap₂ ◌%◌ h (buckets-same words a b e)

module _ (script offs words symbols : List ℕ) (n level i : ℕ) (w : What) (h : ℕ) (s : List ℕ) (p : Fits script offs words symbols n level i w) (es : s ≡ name_in script offs words i) (eh : h ≡ hash_of s) where
  -- the definition's entry
  entry-is : Sym
  entry-is = record { level = level; name = s; what = w }

  -- what is written has the name
  named : record { level = level; name = name_in script offs words i; what = w } ≡ entry-is
  unfolding entry-is
  named = ap (λ (x : List ℕ). record { level = level; name = x; what = w }) (sym es)

  -- the definition's table, by the name
  table_is : new_table script offs words symbols n level i w ≡ put_at level s w (syms_of script offs words symbols n)
  table_is = ap (λ (x : List ℕ). put_at level x w (syms_of script offs words symbols n)) (sym es)

  -- ── an entry that is there ──

  module _ (k : ℕ) (near : Nearest (sym_at script offs words symbols) level level s n k) where
    -- it is one of the symbols
    l : k < n
    l = near.below

    -- it has its words
    room : k * 4 + 4 ≤ length symbols
    room = omega (arith, l, p.holds.room)

    -- it has the level
    level-old : level_at symbols k ≡ level
    unfolding sym_at
    level-old = omega (arith, near.hit.above, near.hit.below)

    -- and the hash
    hash-old : hash_at symbols k ≡ h
    unfolding sym_at
    hash-old = p.holds.hashes k l ∙ ap hash_of (same-equal (name_in script offs words (token_in symbols k)) s near.hit.named) ∙ sym eh

    -- the words with the entry overwritten
    new : List ℕ
    new = entered symbols k level i w h

    -- all levels stay
    new-level : (j : ℕ) → level_at new j ≡ level_at symbols j
    unfolding new
    new-level j = by-eq j k (λ e. ap (level_at new) e ∙ entered-level symbols k level i w h room p.level-fits ∙ sym (ap (level_at symbols) e ∙ level-old)) (λ e. kept-level (entered-kept symbols k level i w h j e))

    -- and all hashes
    new-hash : (j : ℕ) → hash_at new j ≡ hash_at symbols j
    unfolding new
    new-hash j = by-eq j k (λ e. ap (hash_at new) e ∙ entered-hash symbols k level i w h room p.level-fits ∙ sym (ap (hash_at symbols) e ∙ hash-old)) (λ e. kept-hash (entered-kept symbols k level i w h j e))

    -- the words are as many
    new-length : length new ≡ length symbols
    unfolding new
    new-length = entered-length symbols k level i w h

    -- the table is the definition's
    old-table : put_at level s w (listed (sym_at script offs words symbols) 0 n) ≡ listed (sym_at script offs words new) 0 n
    unfolding new
    old-table =
        put-old (sym_at script offs words symbols) (sym_at script offs words new) level s w n k near (λ j d. kept-sym script offs words (entered-kept symbols k level i w h j d))
        (entered-sym symbols k level i w h room p.level-fits script offs words ∙ (unfold entry-is in named))

    -- the words hold it
    old-holds : Holds script offs words new n
    unfolding new
    old-holds =
        record {
          room = omega (arith, p.holds.room, new-length);
          hashes = λ j q. by-eq j k
              (λ e. ap (hash_at new) e ∙ entered-hash symbols k level i w h room p.level-fits ∙ eh ∙ ap hash_of es ∙ ap (λ (x : ℕ). hash_of (name_in script offs words x)) (sym (ap (token_in new) e ∙ entered-token symbols k level i w h room p.level-fits)))
              (λ e. let y = entered-kept symbols k level i w h j e in kept-hash y ∙ p.holds.hashes j q ∙ ap (λ (x : ℕ). hash_of (name_in script offs words x)) (sym y.second));
          chains = subst (λ (x : ℕ). Chains x (min n linked) (level_at new) (bucket_at words new) (next_at new) (head_at new)) (sym (buckets-same words symbols new new-length))
              (chains-same (buckets_of words symbols) (min n linked) (level_at symbols) (bucket_at words symbols) (next_at symbols) (head_at symbols) (level_at new) (bucket_at words new) (next_at new) (head_at new) p.holds.chains
              (λ j q. new-level j) (λ j q. bucket-same words symbols new j new-length (new-hash j)) (λ j q. entered-next symbols k level i w h j) (λ d q. entered-head symbols k level i w h d));
        }

    -- an entry that is there is overwritten
    pub stored-old : (symbols' : List ℕ) → symbols' ≡ entered symbols k level i w h → Stores script offs words symbols n level i w (Ok n) symbols'
    unfolding syms_of new
    stored-old symbols' c =
        let q = ap length (table_is ∙ old-table) in
        let m = length-listed (sym_at script offs words new) n 0 in
        subst (Stores script offs words symbols n level i w (Ok n)) (sym c)
        (record { room = le-leb _ (room_of symbols) (omega (arith, p.holds.room)); table = sym (table_is ∙ old-table); holds = old-holds })

  -- ── a new one ──

  module _ (miss : (j : ℕ) → j < n → Hit level level s (sym_at script offs words symbols j) → ⊥) where
    -- the definition appends the entry
    new-key : new_table script offs words symbols n level i w ≡ syms_of script offs words symbols n ++ (entry-is ∷ [])
    unfolding syms_of entry-is
    new-key = table_is ∙ put-new (sym_at script offs words symbols) (sym_at script offs words symbols) level s w n miss

    -- which makes one more
    long : length (new_table script offs words symbols n level i w) ≡ n + 1
    unfolding syms_of
    long = ap length new-key ∙ length-append (listed (sym_at script offs words symbols) 0 n) _ ∙ ap (λ (m : ℕ). m + 1) (length-listed (sym_at script offs words symbols) n 0)

    -- no room
    pub stored-full : room_of symbols ≤ n → Stores script offs words symbols n level i w (Err SymbolsFull) symbols
    stored-full f = let z = long in record { is = refl; room = lt-leb _ (room_of symbols) (omega arith); kept = refl }

    module _ (f : n < room_of symbols) where
      -- it has its words
      fits : n * 4 + 4 ≤ length symbols
      fits = omega arith

      -- the words with the new symbol, not yet linked
      one : List ℕ
      one = entered symbols n level i w h

      -- they are as many
      one-length : length one ≡ length symbols
      unfolding one
      one-length = entered-length symbols n level i w h

      -- The words after the links are written.
      module _ (symbols' : List ℕ) (el : length symbols' ≡ length symbols) (kept : (j : ℕ) → Kept one symbols' j) where
        -- the other symbols stay
        kept-old : (j : ℕ) → (j ≡ n → ⊥) → Kept symbols symbols' j
        unfolding one
        kept-old j d = kept_on (entered-kept symbols n level i w h j d) (kept j)

        -- the hash of the new one
        hash-new : hash_at symbols' n ≡ h
        unfolding one
        hash-new = kept-hash (kept n) ∙ entered-hash symbols n level i w h fits p.level-fits

        -- its level
        level-new : level_at symbols' n ≡ level
        unfolding one
        level-new = kept-level (kept n) ∙ entered-level symbols n level i w h fits p.level-fits

        -- the table is the definition's
        appended : syms_of script offs words symbols' (n + 1) ≡ new_table script offs words symbols n level i w
        unfolding syms_of one
        appended =
            let g = sym_at script offs words symbols' in
            ap (listed g 0) (add-one n)
            ∙ listed-last g n 0
            ∙ ap₂ (λ (x : List Sym) (y : Sym). x ++ (y ∷ []))
            (listed-ext g (sym_at script offs words symbols) n 0 (λ j a d. kept-sym script offs words (kept-old j (λ q. omega arith))))
            (ap g (zero-add n) ∙ kept-sym script offs words (kept n) ∙ entered-sym symbols n level i w h fits p.level-fits script offs words ∙ named)
            ∙ sym new-key

        -- every symbol has the hash of its name
        hashes : (j : ℕ) → j < n + 1 → hash_at symbols' j ≡ hash_of (name_in script offs words (token_in symbols' j))
        unfolding one
        hashes j q =
            by-eq j n
            (λ e. ap (hash_at symbols') e ∙ hash-new ∙ eh ∙ ap hash_of es ∙ ap (λ (x : ℕ). hash_of (name_in script offs words x)) (sym (ap (token_in symbols') e ∙ (kept n).second ∙ entered-token symbols n level i w h fits p.level-fits)))
            (λ e. let y = kept-old j e in kept-hash y ∙ p.holds.hashes j (omega arith) ∙ ap (λ (x : ℕ). hash_of (name_in script offs words x)) (sym y.second))

        -- with chains, that is what store answers
        finished : Chains (buckets_of words symbols) (min (n + 1) linked) (level_at symbols') (bucket_at words symbols') (next_at symbols') (head_at symbols')
            → Stores script offs words symbols n level i w (Ok (n + 1)) symbols'
        finished c =
            let z = long in
            record {
              room = le-leb _ (room_of symbols) (omega arith);
              table = appended;
              holds = record {
                room = omega arith;
                hashes = hashes;
                chains = subst (λ (x : ℕ). Chains x (min (n + 1) linked) (level_at symbols') (bucket_at words symbols') (next_at symbols') (head_at symbols')) (sym (buckets-same words symbols symbols' el)) c;
              };
            }

        -- the other symbols stay in their buckets
        bucket-old : (j : ℕ) → (j ≡ n → ⊥) → bucket_at words symbols' j ≡ bucket_at words symbols j
        bucket-old j d = bucket-same words symbols symbols' j el (kept-hash (kept-old j d))

        -- the bucket of the new one
        bucket-new : bucket_at words symbols' n ≡ h % buckets_of words symbols
        bucket-new = ap₂ ◌%◌ hash-new (buckets-same words symbols symbols' el)

        -- what the chains need to know of the entries
        grown : n < linked → Grown n (h % buckets_of words symbols) level (level_at symbols) (bucket_at words symbols) (level_at symbols') (bucket_at words symbols')
        grown z =
            record {
              few = omega arith;
              old-level = λ j q. kept-level (kept-old j (λ e. omega arith));
              old-bucket = λ j q. bucket-old j (λ e. omega arith);
              new-level = level-new;
              new-bucket = bucket-new;
            }

      -- past the linked ones
      pub stored_past : linked ≤ n → Stores script offs words symbols n level i w (Ok (n + 1)) (entered symbols n level i w h)
      unfolding one
      stored_past z =
          let kept : (j : ℕ) → Kept one one j = λ j. record { first = refl; second = refl; third = refl } in
          finished one one-length kept
          (subst (λ (x : ℕ). Chains (buckets_of words symbols) x (level_at one) (bucket_at words one) (next_at one) (head_at one)) (let y : min n linked ≡ min (n + 1) linked = omega arith in y)
          (chains-same (buckets_of words symbols) (min n linked) (level_at symbols) (bucket_at words symbols) (next_at symbols) (head_at symbols) (level_at one) (bucket_at words one) (next_at one) (head_at one) p.holds.chains
          (λ j q. kept-level (kept-old one one-length kept j (λ e. omega arith))) (λ j q. bucket-old one one-length kept j (λ e. omega arith)) (λ j q. entered-next symbols n level i w h j) (λ d q. entered-head symbols n level i w h d)))

      -- in its chain
      module _ (z : n < linked) (t : Spot) (u : Sought script offs words symbols n level level h s t) where
        -- the chains so far
        all : Chains (buckets_of words symbols) n (level_at symbols) (bucket_at words symbols) (next_at symbols) (head_at symbols)
        all = subst (λ (x : ℕ). Chains (buckets_of words symbols) x (level_at symbols) (bucket_at words symbols) (next_at symbols) (head_at symbols)) (let y : min n linked ≡ n = omega arith in y) p.holds.chains

        -- the link at leads to a symbol
        at_in : (m : ℕ) → t.at ≡ suc m → m < n
        at_in m e = let y = (u.seeks.here m e).below in omega arith

        -- the walk has ended at a lower level
        lower : (m : ℕ) → t.at ≡ suc m → level_at symbols m < level
        lower m e = by-lt (level_at symbols m) level (λ y. y) (λ y. absurd (miss m (at_in m e) (u.stopped m e y)))

        -- a link fits
        at_small : t.at < 65536
        at_small = by-eq t.at 0 (λ e. omega arith) (λ e. let y = at_in (t.at - 1) (omega arith) in omega arith)

        -- the link prev leads to a symbol
        prev-in : (m : ℕ) → t.prev ≡ suc m → m < n
        prev-in m e = let y = (u.seeks.behind m e).one.below in omega arith

        -- what insert asks
        pub insert-fits : InsertAt (entered symbols n level i w h) n t.prev t.at
        unfolding one
        insert-fits =
            record {
              room = omega (arith, one-length);
              few = z;
              before = by-eq t.prev 0 (λ e. omega arith) (λ e. let y = prev-in (t.prev - 1) (omega arith) in omega (arith, one-length));
              after = at_small;
            }

        -- the words have room for the new symbol
        fits_one : n * 4 + 4 ≤ length one
        fits_one = omega (arith, one-length)

        -- the new symbol with its next
        two : List ℕ
        two = with_next one n t.at

        -- the words are as many
        two-length : length two ≡ length symbols
        unfolding two
        two-length = next-length one n t.at ∙ one-length

        -- its bucket is one of them
        inside : h % buckets_of words symbols < buckets_of words symbols
        inside = bucket-in words symbols h (omega arith)

        -- as many buckets
        same-buckets : buckets_of words one ≡ buckets_of words symbols
        same-buckets = buckets-same words symbols one one-length

        -- one entry more is linked
        more : suc n ≡ min (n + 1) linked
        more = omega arith

        -- where it is the first of its bucket
        front : t.prev ≡ 0 → Stores script offs words symbols n level i w (Ok (n + 1)) (with_head two (h % buckets_of words symbols) (n + 1))
        unfolding one two
        front e =
            let bk = h % buckets_of words symbols in
            let three = with_head two bk (n + 1) in
            let el : length three ≡ length symbols = head-length two bk (n + 1) ∙ two-length in
            let kept : (j : ℕ) → Kept one three j = λ j. kept_on (next-kept one n t.at j) (head-kept two bk (n + 1) j) in
            let room : bk * 4 + 4 ≤ length two = omega (arith, inside, two-length) in
            let at_head : t.at ≡ head_at symbols bk = u.seeks.front e inside in
            finished three el kept
            (subst (λ (x : ℕ). Chains (buckets_of words symbols) x (level_at three) (bucket_at words three) (next_at three) (head_at three)) more
            (chains-front (buckets_of words symbols) n bk level (level_at symbols) (bucket_at words symbols) (next_at symbols) (head_at symbols) (level_at three) (bucket_at words three) (next_at three) (head_at three) all (grown three el kept z)
            (all-below (level_at symbols) (In n (bucket_at words symbols) bk) (head_at symbols bk) level (all.heads bk inside) (λ j q. omega (arith, q.below)) (λ m q. lower m (at_head ∙ q)))
            (heads-here two bk (n + 1) room ∙ add-one n)
            (λ d q r. heads-other two bk (n + 1) d r ∙ next-head one n t.at fits_one at_small d ∙ entered-head symbols n level i w h d)
            inside
            (head-next two bk (n + 1) room n ∙ next_here one n t.at fits_one at_small ∙ at_head)
            (λ j q. head-next two bk (n + 1) room j ∙ next-other one n t.at j (λ r. omega arith) ∙ entered-next symbols n level i w h j)))

        -- where it stands behind m
        behind : (m : ℕ) → t.prev ≡ suc m → Stores script offs words symbols n level i w (Ok (n + 1)) (with_next two m (n + 1))
        unfolding one two
        behind m e =
            let bk = h % buckets_of words symbols in
            let three = with_next two m (n + 1) in
            let mn : m < n = prev-in m e in
            let fw = u.seeks.behind m e in
            let el : length three ≡ length symbols = next-length two m (n + 1) ∙ two-length in
            let kept : (j : ℕ) → Kept one three j = λ j. kept_on (next-kept one n t.at j) (next-kept two m (n + 1) j) in
            let room : m * 4 + 4 ≤ length two = omega (arith, two-length) in
            let small : n + 1 < 65536 = omega arith in
            finished three el kept
            (subst (λ (x : ℕ). Chains (buckets_of words symbols) x (level_at three) (bucket_at words three) (next_at three) (head_at three)) more
            (chains-behind (buckets_of words symbols) n bk level (level_at symbols) (bucket_at words symbols) (next_at symbols) (head_at symbols) (level_at three) (bucket_at words three) (next_at three) (head_at three) all (grown three el kept z)
            m (record { below = mn; bucket = fw.one.bucket }) fw.level
            (all-below (level_at symbols) (Behind n (level_at symbols) (bucket_at words symbols) m) (next_at symbols m) level (all.nexts m mn) (λ j q. omega (arith, q.below)) (λ j q. lower j (fw.link ∙ q)))
            (λ d q. next-head two m (n + 1) room small d ∙ next-head one n t.at fits_one at_small d ∙ entered-head symbols n level i w h d)
            (next-other two m (n + 1) n (λ q. omega arith) ∙ next_here one n t.at fits_one at_small ∙ fw.link)
            (next_here two m (n + 1) room small ∙ add-one n)
            (λ j q r. next-other two m (n + 1) j r ∙ next-other one n t.at j (λ y. omega arith) ∙ entered-next symbols n level i w h j)))

        -- a new symbol in its chain
        pub stored-linked : (symbols' : List ℕ) → Inserts words (entered symbols n level i w h) n h t.prev t.at symbols' → Stores script offs words symbols n level i w (Ok (n + 1)) symbols'
        unfolding one two
        stored-linked symbols' q =
            by-eq t.prev 0
            (λ e. subst (Stores script offs words symbols n level i w (Ok (n + 1))) (sym (q.front e ∙ ap (λ (x : ℕ). with_head two (h % x) (n + 1)) same-buckets)) (front e))
            (λ e. let m : t.prev ≡ suc (t.prev - 1) = omega arith in subst (Stores script offs words symbols n level i w (Ok (n + 1))) (sym (q.behind (t.prev - 1) m)) (behind (t.prev - 1) m))
