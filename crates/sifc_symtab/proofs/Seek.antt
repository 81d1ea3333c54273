-- The walk along a chain, and what it finds.
use Rattle.std.specs.Prelude.{Option as Found, Some, None}
use Prim.Native.Nat.{ℕ, zero, suc, ◌+◌, ◌*◌, ◌-◌, ◌%◌, ◌≤◌, ◌<◌}
use mathlib.Core.Path.{◌≡◌, refl, sym, ap, subst, ◌∙◌}
use mathlib.Core.List.{List, [], ◌∷◌}
use mathlib.Core.Bool.{Bool, true, false, ◌&&◌}
use native.Mathlib.Omega.{arith}
use borrow.Author.Tests.{eqb-true}
use lib.Dec.{eqb}
use Rattle.sifc_word.specs.Base.{same}
use Rattle.sifc_def.specs.State.{Sym}
use Rattle.sifc_symtab.specs.Chains.{Behind, Chains}
use Rattle.sifc_symtab.specs.Table.{hash_at, hash_of, name_in, token_in, sym_at, buckets_of, bucket_at, linked, Holds}
use Rattle.sifc_symtab.specs.Seek.{Hit, Stops, Hashed, Ahead, Follows, Seeking, Finds, Lower, AsHigh, Nearer}
use Rattle.sifc_symtab.proofs.Cases.{by-eq}

-- the two truth values differ
pub false-true : false ≡ true → ⊥
false-true e = let z : ◌≡◌ {A = ℕ} 0 1 = cc in omega arith

-- ── names ──

-- names that are the same byte for byte are equal
pub same-equal : (a b : List ℕ) → same a b ≡ true → a ≡ b
unfolding same
same-equal [] [] e = refl
same-equal [] (y ∷ ys) e = absurd (false-true e)
same-equal (x ∷ xs) [] e = absurd (false-true e)
same-equal (x ∷ xs) (y ∷ ys) e = go (eqb x y) refl e (same-equal xs ys)
  where
    go : (p : Bool) → eqb x y ≡ p → p && same xs ys ≡ true → (same xs ys ≡ true → xs ≡ ys) → x ∷ xs ≡ y ∷ ys
    go true q h ih = let a = eqb-true x y q in let b = ih h in cc
    go false q h ih = absurd (false-true h)

-- ── whether the walk ends at an entry ──

module _ (low high : ℕ) (s : List ℕ) (x : Sym) where
  -- the level is too low
  pub stops-low : x.level < low → Stops low high s x true
  stops-low h = record { yes = λ e a. absurd (let z : ⊥ = omega arith in z); no = λ e. absurd (false-true (sym e)); passed = λ e. absurd (false-true (sym e)) }

  -- no hit
  pub stops-miss : low ≤ x.level → (Hit low high s x → ⊥) → Stops low high s x false
  stops-miss a m = record { yes = λ e. absurd (false-true e); no = λ e. m; passed = λ e. a }

  -- the level is too high
  pub stops-high : low ≤ x.level → high < x.level → Stops low high s x false
  stops-high a h = stops-miss a (λ t. omega (arith, t.below))

  -- the name decides
  pub stops-name : low ≤ x.level → x.level ≤ high → (r : Bool) → r ≡ same x.name s → Stops low high s x r
  stops-name a b r e = record { yes = λ q z. record { above = a; below = b; named = sym e ∙ q }; no = λ q t. false-true (sym q ∙ e ∙ t.named); passed = λ q. a }

-- another hash is another name's
module _ (script offs words symbols : List ℕ) (k h : ℕ) (s : List ℕ) (p : Hashed script offs words symbols k) (e : h ≡ hash_of s) where
  -- which is no hit
  pub other_name : (low high : ℕ) → (hash_at symbols k ≡ h → ⊥) → Hit low high s (sym_at script offs words symbols k) → ⊥
  unfolding sym_at
  other_name low high n t = n (p.one ∙ ap hash_of (same-equal (name_in script offs words (token_in symbols k)) s t.named) ∙ sym e)

-- ── the walk ──

-- how far a link still reaches: it falls along a chain
unfoldable pub reach : (ℕ → ℕ) → ℕ → ℕ
reach lev zero = 0
reach lev (suc m) = suc (65536 * lev m + (65536 - m))

module _ (B n low high b : ℕ) (s : List ℕ) (f : ℕ → Sym) (lev buc next head : ℕ → ℕ) (c : Chains B n lev buc next head) (few : n ≤ linked) where
  -- at the head of its bucket
  pub seeking-start : b < B → Seeking B n low high b s f lev buc next head 0 (head b)
  seeking-start h =
      record {
        front = λ e z. refl;
        behind = λ m e. absurd (let z : ⊥ = omega arith in z);
        here = λ m e. ((c.heads b h).some m e).one;
        ahead = λ j i x. record { on = λ e. (c.heads b h).none e j i; order = λ m e. ((c.heads b h).some m e).first j i };
      }

  -- where there are no entries
  pub seeking-none : n ≡ 0 → Seeking B n low high b s f lev buc next head 0 0
  seeking-none e =
      record {
        front = λ z h. by-eq (head b) 0 (λ q. sym q) (λ q. absurd (let y = ((c.heads b h).some (head b - 1) (omega arith)).one.below in let x : ⊥ = omega arith in x));
        behind = λ m z. absurd (let x : ⊥ = omega arith in x);
        here = λ m z. absurd (let x : ⊥ = omega arith in x);
        ahead = λ j i x. absurd (let y = i.below in let z : ⊥ = omega arith in z);
      }

  module _ (prev at m : ℕ) (p : Seeking B n low high b s f lev buc next head prev at) (e : at ≡ suc m) where
    -- past an entry
    pub seeking-next : low ≤ lev m → (Hit low high s (f m) → ⊥) → Seeking B n low high b s f lev buc next head at (next m)
    seeking-next a miss =
        let o = p.here m e in
        let nx = c.nexts m o.below in
        record {
          front = λ z. absurd (let x : ⊥ = omega arith in x);
          behind = λ k z. let y : m ≡ k = omega arith in subst (λ (i : ℕ). Follows n lev buc next low b i (next m)) y (record { one = o; level = a; link = refl });
          here = λ k z. let r = (nx.some k z).one in record { below = r.below; bucket = r.bucket ∙ o.bucket };
          ahead = λ j i x.
              let ne : j ≡ m → ⊥ = λ q. miss (subst (λ (k : ℕ). Hit low high s (f k)) q x) in
              let q : Behind n lev buc m j = record { below = i.below; bucket = i.bucket ∙ sym o.bucket; after = omega (arith, (p.ahead j i x).order m e, i.below, o.below) } in
              record { on = λ z. nx.none z j q; order = λ k z. (nx.some k z).first j q };
        }

    -- the next link reaches less far
    pub reach-less : reach lev (next m) < reach lev at
    unfolding reach
    reach-less = subst (λ (i : ℕ). reach lev (next m) < reach lev i) (sym e) (go (next m) refl)
      where
        go : (l : ℕ) → next m ≡ l → reach lev l < reach lev (suc m)
        go zero z = omega arith
        go (suc k) z =
            let o = p.here m e in
            let r = ((c.nexts m o.below).some k z).one in
            omega (arith, r.after, r.below, o.below)

  -- ── what the walk has found ──

  module _ (prev at : ℕ) (r : Found ℕ) (p : Seeking B n low high b s f lev buc next head prev at) (fl : (j : ℕ) → (f j).level ≡ lev j)
      (stopped : (m : ℕ) → at ≡ suc m → low ≤ lev m → Hit low high s (f m)) (hb : (j : ℕ) → j < n → Hit low high s (f j) → buc j ≡ b) where
    -- no hit at all
    finds_none : r ≡ None → ((j : ℕ) → j < n → Hit low high s (f j) → ⊥) → Finds f low high s n r
    finds_none e h = subst (Finds f low high s n) (sym e) h

    -- each hit is still ahead
    ahead_of : (j : ℕ) → j < n → Hit low high s (f j) → Ahead lev at j
    ahead_of j h t = p.ahead j (record { below = h; bucket = hb j h t }) t

    -- at the end of the chain
    pub finds-end : at ≡ 0 → r ≡ None → Finds f low high s n r
    finds-end z e = finds_none e (λ j h t. (ahead_of j h t).on z)

    -- at an entry whose level is too low
    pub finds-low : (m : ℕ) → at ≡ suc m → lev m < low → r ≡ None → Finds f low high s n r
    finds-low m z l e = finds_none e (λ j h t. omega (arith, (ahead_of j h t).order m z, t.above, fl j))

    -- at a hit
    pub finds-here : (m : ℕ) → at ≡ suc m → low ≤ lev m → r ≡ Some m → Finds f low high s n r
    finds-here m z l e =
        subst (Finds f low high s n) (sym e) (record {
          below = (p.here m z).below;
          hit = stopped m z l;
          highest = λ j h t. omega (arith, (ahead_of j h t).order m z, fl j, fl m);
          oldest = λ j h t y. omega (arith, (ahead_of j h t).order m z, fl j, fl m);
        })

-- ── the symbols that are in no chain, one by one ──

module _ (f : ℕ → Sym) (low high : ℕ) (s : List ℕ) (k : ℕ) where
  -- those so far
  earlier : (j : ℕ) → j < k + 1 → (j ≡ k → ⊥) → j < k
  earlier j h e = omega arith

  -- entry k is better
  pub finds-more : (best : Found ℕ) → Finds f low high s k best → Hit low high s (f k) → Lower f k best → Finds f low high s (k + 1) (Some k)
  finds-more best p t better =
      record {
        below = omega arith;
        hit = t;
        highest = λ j i x. by-eq j k (λ q. omega (arith, ap (λ (y : ℕ). (f y).level) q)) (λ q. let z = lower best p better j (earlier j i q) x in omega arith);
        oldest = λ j i x y. by-eq j k (λ q. omega arith) (λ q. let z = lower best p better j (earlier j i q) x in omega arith);
      }
    where
      lower : (o : Found ℕ) → Finds f low high s k o → Lower f k o → (j : ℕ) → j < k → Hit low high s (f j) → (f j).level < (f k).level
      lower None p b j i x = absurd (p j i x)
      lower (Some m) p b j i x = omega (arith, p.highest j i x)

  -- entry k is no better
  pub finds-still : (best : Found ℕ) → Finds f low high s k best → (Hit low high s (f k) → AsHigh f k best) → Finds f low high s (k + 1) best
  finds-still None p miss = λ j i x. by-eq j k (λ q. miss (subst (λ (y : ℕ). Hit low high s (f y)) q x)) (λ q. p j (earlier j i q) x)
  finds-still (Some m) p miss =
      record {
        below = omega (arith, p.below);
        hit = p.hit;
        highest = λ j i x. by-eq j k (λ q. omega (arith, miss (subst (λ (y : ℕ). Hit low high s (f y)) q x), ap (λ (y : ℕ). (f y).level) q)) (λ q. p.highest j (earlier j i q) x);
        oldest = λ j i x y. by-eq j k (λ q. omega (arith, p.below)) (λ q. p.oldest j (earlier j i q) x y);
      }

module _ (f : ℕ → Sym) (low high : ℕ) (s : List ℕ) (k : ℕ) (best : Found ℕ) where
  -- entry k is no better
  pub nearer-miss : (Hit low high s (f k) → AsHigh f k best) → Nearer f low high s best k false
  nearer-miss m = record { hit = λ e. absurd (false-true e); higher = λ e. absurd (false-true e); miss = λ e. m }

  -- entry k is better
  pub nearer-hit : Hit low high s (f k) → Lower f k best → Nearer f low high s best k true
  nearer-hit t h = record { hit = λ e. t; higher = λ e. h; miss = λ e. absurd (false-true (sym e)) }

-- what is left of a hit: its hash, and so its bucket
module _ (script offs words symbols : List ℕ) (n h : ℕ) (s : List ℕ) (p : Holds script offs words symbols n) (e : h ≡ hash_of s) where
  -- a hit is in the bucket of the hash
  pub hit-bucket : (low high j : ℕ) → j < n → Hit low high s (sym_at script offs words symbols j) → bucket_at words symbols j ≡ h % buckets_of words symbols
  unfolding sym_at
  hit-bucket low high j i t =
      ap (λ (x : ℕ). x % buckets_of words symbols) (p.hashes j i ∙ ap hash_of (same-equal (name_in script offs words (token_in symbols j)) s t.named) ∙ sym e)
