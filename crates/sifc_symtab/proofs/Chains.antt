-- A new entry in the chain of its bucket: behind all entries of its level or a higher one, before the others.
use Prim.Native.Nat.{ℕ, suc, ◌+◌, ◌*◌, ◌-◌, ◌≤◌, ◌<◌}
use mathlib.Core.Path.{◌≡◌, sym, ap, subst, ◌∙◌}
use native.Mathlib.Omega.{arith}
use Rattle.sifc_symtab.specs.Chains.{Leads, First, In, Behind, Chains}
use Rattle.sifc_symtab.proofs.Cases.{by-eq, by-lt}

-- ── the first of some entries ──

-- one that P has and that does not stand behind j
record Back (lev : ℕ → ℕ) (P : ℕ → Type 0) (j : ℕ) : Type 0 where
  was : ℕ
  one : P was
  order : 65536 * lev j + was ≤ 65536 * lev was + j

-- more entries have the same first one, if none of the new ones stands before all the old
first-kept : (lev lev' : ℕ → ℕ) (P P' : ℕ → Type 0) (l : ℕ) → First lev P l → ((j : ℕ) → P j → P' j) → ((j : ℕ) → P j → lev' j ≡ lev j) → ((j : ℕ) → P' j → Back lev' P j) → First lev' P' l
first-kept lev lev' P P' l h to same back =
    record {
      none = λ e j p. let b = back j p in h.none e b.was b.one;
      some = λ m e. let r = h.some m e in record {
        one = to m r.one;
        first = λ j p. let b = back j p in omega (arith, r.first b.was b.one, b.order, same m r.one, same b.was b.one);
      };
    }

-- a new entry that stands before all others is the first
first-new : (lev : ℕ → ℕ) (P : ℕ → Type 0) (l n : ℕ) → l ≡ suc n → P n → ((j : ℕ) → P j → 65536 * lev j + n ≤ 65536 * lev n + j) → First lev P l
first-new lev P l n e p f =
    record {
      none = λ z j q. omega arith;
      some = λ m z. let y : n ≡ m = omega arith in subst (Leads lev P) y (record { one = p; first = f });
    }

-- ── one entry more ──

-- the entries stay as they were, and entry n has the level l and is in bucket b
pub record Grown (n b l : ℕ) (lev buc lev' buc' : ℕ → ℕ) : Type 0 where
  pub few : n < 65536
  pub old-level : (j : ℕ) → j < n → lev' j ≡ lev j
  pub old-bucket : (j : ℕ) → j < n → buc' j ≡ buc j
  pub new-level : lev' n ≡ l
  pub new-bucket : buc' n ≡ b

module _ (B n b l : ℕ) (lev buc next head lev' buc' next' head' : ℕ → ℕ) (c : Chains B n lev buc next head) (g : Grown n b l lev buc lev' buc') where
  -- an old entry stays in its bucket
  in-old : (d j : ℕ) → In n buc d j → In (suc n) buc' d j
  in-old d j p = record { below = omega (arith, p.below); bucket = g.old-bucket j p.below ∙ p.bucket }

  -- and an entry of the bucket is an old one, or the new one
  in-back : (d j : ℕ) → In (suc n) buc' d j → (j ≡ n → Back lev' (In n buc d) j) → Back lev' (In n buc d) j
  in-back d j p f = by-eq j n f (λ e. let h : j < n = omega (arith, p.below) in record { was = j; one = record { below = h; bucket = sym (g.old-bucket j h) ∙ p.bucket }; order = omega arith })

  -- the new entry's bucket
  new_in : (d j : ℕ) → j ≡ n → buc' j ≡ d → b ≡ d
  new_in d j e p = sym g.new-bucket ∙ ap buc' (sym e) ∙ p

  -- an old entry stays behind those that it stood behind
  behind-old : (k j : ℕ) → k < n → Behind n lev buc k j → Behind (suc n) lev' buc' k j
  behind-old k j h p =
      record {
        below = omega (arith, p.below);
        bucket = g.old-bucket j p.below ∙ p.bucket ∙ sym (g.old-bucket k h);
        after = omega (arith, p.after, g.old-level j p.below, g.old-level k h);
      }

  -- and an entry behind k is an old one, or the new one
  behind-back : (k j : ℕ) → k < n → Behind (suc n) lev' buc' k j → (j ≡ n → Back lev' (Behind n lev buc k) j) → Back lev' (Behind n lev buc k) j
  behind-back k j h p f =
      by-eq j n f (λ e. let i : j < n = omega (arith, p.below) in
      record {
        was = j;
        one = record { below = i; bucket = sym (g.old-bucket j i) ∙ p.bucket ∙ g.old-bucket k h; after = omega (arith, p.after, g.old-level j i, g.old-level k h) };
        order = omega arith;
      })

  -- Where the new entry is its bucket's first.
  module _ (low : (j : ℕ) → In n buc b j → lev j < l) (eb : head' b ≡ suc n) (eh : (d : ℕ) → d < B → (d ≡ b → ⊥) → head' d ≡ head d) (inside : b < B) (en : next' n ≡ head b)
      (ek : (k : ℕ) → k < n → next' k ≡ next k) where
    -- the bucket begins with the new entry
    front-head : First lev' (In (suc n) buc' b) (head' b)
    front-head =
        first-new lev' (In (suc n) buc' b) (head' b) n eb (record { below = omega arith; bucket = g.new-bucket })
        (λ j p. by-eq j n (λ e. omega (arith, ap lev' e)) (λ e. let h : j < n = omega (arith, p.below) in
        let y = low j (record { below = h; bucket = sym (g.old-bucket j h) ∙ p.bucket }) in omega (arith, g.old-level j h, g.new-level, g.few)))

    -- which its old entries follow
    front-next : First lev' (Behind (suc n) lev' buc' n) (next' n)
    front-next =
        subst (First lev' (Behind (suc n) lev' buc' n)) (sym en)
        (first-kept lev lev' (In n buc b) (Behind (suc n) lev' buc' n) (head b) (c.heads b inside)
        (λ j p. let y = low j p in record { below = omega (arith, p.below); bucket = g.old-bucket j p.below ∙ p.bucket ∙ sym g.new-bucket; after = omega (arith, g.old-level j p.below, g.new-level, g.few) })
        (λ j p. g.old-level j p.below)
        (λ j p. in-back b j (record { below = p.below; bucket = p.bucket ∙ g.new-bucket }) (λ e. absurd (let z : ⊥ = omega (arith, p.after, ap lev' e) in z))))

    -- the chains with the new entry
    pub chains-front : Chains B (suc n) lev' buc' next' head'
    chains-front =
        record {
          heads = λ d h. by-eq d b (λ e. subst (λ (x : ℕ). First lev' (In (suc n) buc' x) (head' x)) (sym e) front-head) (λ e.
              subst (First lev' (In (suc n) buc' d)) (sym (eh d h e))
              (first-kept lev lev' (In n buc d) (In (suc n) buc' d) (head d) (c.heads d h) (in-old d) (λ j p. g.old-level j p.below) (λ j p. in-back d j p (λ q. absurd (e (sym (new_in d j q p.bucket)))))));
          nexts = λ k h. by-eq k n (λ e. subst (λ (x : ℕ). First lev' (Behind (suc n) lev' buc' x) (next' x)) (sym e) front-next) (λ e. let i : k < n = omega arith in
              subst (First lev' (Behind (suc n) lev' buc' k)) (sym (ek k i))
              (first-kept lev lev' (Behind n lev buc k) (Behind (suc n) lev' buc' k) (next k) (c.nexts k i) (λ j p. behind-old k j i p) (λ j p. g.old-level j p.below)
              (λ j p. behind-back k j i p (λ q. absurd (let y = low k (record { below = i; bucket = sym (new_in (buc k) j q (p.bucket ∙ g.old-bucket k i)) }) in
              let z : ⊥ = omega (arith, p.after, ap lev' q, g.old-level k i, g.new-level, g.few) in z)))));
        }

  -- Where it stands behind entry m.
  module _ (m : ℕ) (o : In n buc b m) (high : l ≤ lev m) (low : (j : ℕ) → Behind n lev buc m j → lev j < l) (eh : (d : ℕ) → d < B → head' d ≡ head d) (en : next' n ≡ next m)
      (em : next' m ≡ suc n) (ek : (k : ℕ) → k < n → (k ≡ m → ⊥) → next' k ≡ next k) where
    -- m does not stand behind the new entry
    m-back : (j : ℕ) → j ≡ n → 65536 * lev' j + m ≤ 65536 * lev' m + j
    m-back j e = omega (arith, ap lev' e, g.old-level m o.below, g.new-level, o.below, high)

    -- what followed m follows the new entry
    behind-next : First lev' (Behind (suc n) lev' buc' n) (next' n)
    behind-next =
        subst (First lev' (Behind (suc n) lev' buc' n)) (sym en)
        (first-kept lev lev' (Behind n lev buc m) (Behind (suc n) lev' buc' n) (next m) (c.nexts m o.below)
        (λ j p. let y = low j p in record { below = omega (arith, p.below); bucket = g.old-bucket j p.below ∙ p.bucket ∙ o.bucket ∙ sym g.new-bucket; after = omega (arith, g.old-level j p.below, g.new-level, g.few) })
        (λ j p. g.old-level j p.below)
        (λ j p. by-eq j n (λ e. absurd (let z : ⊥ = omega (arith, p.after, ap lev' e) in z)) (λ e. let i : j < n = omega (arith, p.below) in
        record {
          was = j;
          one = record { below = i; bucket = sym (g.old-bucket j i) ∙ p.bucket ∙ g.new-bucket ∙ sym o.bucket; after = omega (arith, p.after, g.old-level j i, g.new-level, high, o.below) };
          order = omega arith;
        })))

    -- the new entry follows m
    behind-m : First lev' (Behind (suc n) lev' buc' m) (next' m)
    behind-m =
        let mm = g.old-level m o.below in
        let mb = g.old-bucket m o.below in
        first-new lev' (Behind (suc n) lev' buc' m) (next' m) n em (record { below = omega arith; bucket = g.new-bucket ∙ sym o.bucket ∙ sym mb; after = omega (arith, g.new-level, o.below) })
        (λ j p. by-eq j n (λ e. omega (arith, ap lev' e)) (λ e. let i : j < n = omega (arith, p.below) in
        let y = low j (record { below = i; bucket = sym (g.old-bucket j i) ∙ p.bucket ∙ mb; after = omega (arith, p.after, g.old-level j i) }) in
        omega (arith, g.old-level j i, g.new-level, g.few)))

    -- one that stands before the new entry stands before m, or is m
    before-m : (k j : ℕ) → k < n → (k ≡ m → ⊥) → j ≡ n → Behind (suc n) lev' buc' k j → Back lev' (Behind n lev buc k) j
    before-m k j h d e p =
        let kb : buc k ≡ b = sym (new_in (buc k) j e (p.bucket ∙ g.old-bucket k h)) in
        by-lt (65536 * lev m + k) (65536 * lev k + m)
        (λ y. record { was = m; one = record { below = o.below; bucket = o.bucket ∙ sym kb; after = y }; order = m-back j e })
        (λ y. absurd (let x = low k (record { below = h; bucket = kb ∙ sym o.bucket; after = omega (arith, g.few, o.below) }) in
        let z : ⊥ = omega (arith, p.after, ap lev' e, g.old-level k h, g.new-level, g.few) in z))

    -- the chains with the new entry behind m
    pub chains-behind : Chains B (suc n) lev' buc' next' head'
    chains-behind =
        record {
          heads = λ d h.
              subst (First lev' (In (suc n) buc' d)) (sym (eh d h))
              (first-kept lev lev' (In n buc d) (In (suc n) buc' d) (head d) (c.heads d h) (in-old d) (λ j p. g.old-level j p.below)
              (λ j p. in-back d j p (λ q. record { was = m; one = record { below = o.below; bucket = o.bucket ∙ new_in d j q p.bucket }; order = m-back j q })));
          nexts = λ k h. by-eq k n (λ e. subst (λ (x : ℕ). First lev' (Behind (suc n) lev' buc' x) (next' x)) (sym e) behind-next) (λ e. let i : k < n = omega arith in
              by-eq k m (λ q. subst (λ (x : ℕ). First lev' (Behind (suc n) lev' buc' x) (next' x)) (sym q) behind-m) (λ q.
              subst (First lev' (Behind (suc n) lev' buc' k)) (sym (ek k i q))
              (first-kept lev lev' (Behind n lev buc k) (Behind (suc n) lev' buc' k) (next k) (c.nexts k i) (λ j p. behind-old k j i p) (λ j p. g.old-level j p.below)
              (λ j p. behind-back k j i p (λ z. before-m k j i q z p)))));
        }

-- ── the same entries ──

-- chains go by what is known of their entries and buckets
pub chains-same : (B n : ℕ) (lev buc next head lev' buc' next' head' : ℕ → ℕ) → Chains B n lev buc next head → ((j : ℕ) → j < n → lev' j ≡ lev j) → ((j : ℕ) → j < n → buc' j ≡ buc j)
    → ((j : ℕ) → j < n → next' j ≡ next j) → ((d : ℕ) → d < B → head' d ≡ head d) → Chains B n lev' buc' next' head'
chains-same B n lev buc next head lev' buc' next' head' c el eb en eh =
    record {
      heads = λ d h. subst (First lev' (In n buc' d)) (sym (eh d h)) (first-kept lev lev' (In n buc d) (In n buc' d) (head d) (c.heads d h)
          (λ j p. record { below = p.below; bucket = eb j p.below ∙ p.bucket })
          (λ j p. el j p.below)
          (λ j p. record { was = j; one = record { below = p.below; bucket = sym (eb j p.below) ∙ p.bucket }; order = omega arith }));
      nexts = λ k h. subst (First lev' (Behind n lev' buc' k)) (sym (en k h)) (first-kept lev lev' (Behind n lev buc k) (Behind n lev' buc' k) (next k) (c.nexts k h)
          (λ j p. record { below = p.below; bucket = eb j p.below ∙ p.bucket ∙ sym (eb k h); after = omega (arith, p.after, el j p.below, el k h) })
          (λ j p. el j p.below)
          (λ j p. record {
            was = j;
            one = record { below = p.below; bucket = sym (eb j p.below) ∙ p.bucket ∙ eb k h; after = omega (arith, p.after, el j p.below, el k h) };
            order = omega arith;
          }));
    }

-- where the first one's level is below l, so are the others'
pub all-below : (lev : ℕ → ℕ) (P : ℕ → Type 0) (at l : ℕ) → First lev P at → ((j : ℕ) → P j → j < 65536) → ((m : ℕ) → at ≡ suc m → lev m < l) → (j : ℕ) → P j → lev j < l
all-below lev P at l f small low j p =
    by-eq at 0 (λ e. absurd (f.none e j p)) (λ e. let m : at ≡ suc (at - 1) = omega arith in
    let r = f.some (at - 1) m in
    omega (arith, r.first j p, low (at - 1) m, small j p, small (at - 1) r.one))
