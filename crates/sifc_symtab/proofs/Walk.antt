-- The walk along a chain and what follows it, over the symbols' words.
use Rattle.std.specs.Prelude.{Option as Found, Some}
use Prim.Native.Nat.{ℕ, suc, ◌+◌, ◌*◌, ◌-◌, ◌%◌, ◌≤◌, ◌<◌, min}
use mathlib.Core.Path.{◌≡◌, refl, sym, ap, subst, ◌∙◌}
use mathlib.Core.List.{List}
use mathlib.Core.Bool.{Bool, true, false}
use native.Mathlib.Omega.{arith}
use borrow.Author.Tests.{ltb-true, ltb-false}
use lib.Dec.{ltb}
use lib.ListN.{length}
use Rattle.sifc_def.specs.State.{Sym}
use Rattle.sifc_symtab.specs.declared.symtab.Spot.{Spot}
use Rattle.sifc_symtab.specs.Table.{level_at, next_at, head_at, hash_of, sym_at, buckets_of, bucket_at, linked, Holds}
use Rattle.sifc_symtab.specs.Seek.{Hit, Stops, Hashed, Seeks, Sought, Finds, FoundAt, Nearer}
use Rattle.sifc_symtab.proofs.Cases.{by-eq, by-lt}
use Rattle.sifc_symtab.proofs.Hash.{bucket-in}
use Rattle.sifc_symtab.proofs.Seek.{reach, seeking-start, seeking-none, seeking-next, reach-less, finds-end, finds-low, finds-here, hit-bucket, nearer-miss, nearer-hit}

module _ (script offs words symbols : List ℕ) (n low high h : ℕ) (s : List ℕ) (p : Holds script offs words symbols n) (e : h ≡ hash_of s) where
  -- ── the walk ──

  -- no symbols
  pub walk_none : n ≡ 0 → Sought script offs words symbols n low high h s (record { prev = 0; at = 0 })
  walk_none z =
      record {
        seeks = seeking-none (buckets_of words symbols) (min n linked) low high (h % buckets_of words symbols) s (sym_at script offs words symbols) (level_at symbols) (bucket_at words symbols) (next_at symbols) (head_at symbols) p.chains (omega arith) (omega arith);
        stopped = λ m q. absurd (let x : ⊥ = omega arith in x);
      }

  -- at the head of the bucket
  pub walk_start : (B l : ℕ) → B ≡ buckets_of words symbols → l ≡ head_at symbols (h % B) → 0 < n → Seeks script offs words symbols n low high h s 0 l
  walk_start B l eb el z =
      subst (Seeks script offs words symbols n low high h s 0) (sym (el ∙ ap (λ (x : ℕ). head_at symbols (h % x)) eb))
      (seeking-start (buckets_of words symbols) (min n linked) low high (h % buckets_of words symbols) s (sym_at script offs words symbols) (level_at symbols) (bucket_at words symbols) (next_at symbols) (head_at symbols) p.chains (omega arith)
      (bucket-in words symbols h (omega (arith, p.room))))

  module _ (prev at : ℕ) (k : Seeks script offs words symbols n low high h s prev at) where
    module _ (z : 0 < at) where
      -- the number of the symbol there, and its link
      link : at ≡ suc (at - 1)
      link = omega arith

      -- the symbol there is one of them
      pub walk-in : at - 1 < n
      walk-in = let o = (k.here (at - 1) link).below in omega arith

      -- it has its words
      pub walk-room : (at - 1) * 4 + 4 ≤ length symbols
      walk-room = let o = walk-in in omega (arith, p.room)

      -- and its name's hash
      pub walk-hashed : Hashed script offs words symbols (at - 1)
      walk-hashed = record { room = walk-room; one = p.hashes (at - 1) walk-in }

      -- the walk ends there
      pub walk-stop : (r : Bool) → Stops low high s (sym_at script offs words symbols (at - 1)) r → r ≡ true → Sought script offs words symbols n low high h s (record { prev = prev; at = at })
      unfolding sym_at
      walk-stop r t q =
          record {
            seeks = k;
            stopped = λ m y l. let x : at - 1 ≡ m = omega arith in
                subst (λ (i : ℕ). low ≤ level_at symbols i → Hit low high s (sym_at script offs words symbols i)) x (t.yes q) l;
          }

      -- the walk goes on
      pub walk-on : (r : Bool) → Stops low high s (sym_at script offs words symbols (at - 1)) r → r ≡ false → (l : ℕ) → l ≡ next_at symbols (at - 1) → Seeks script offs words symbols n low high h s at l
      unfolding sym_at
      walk-on r t q l el =
          subst (Seeks script offs words symbols n low high h s at) (sym el)
          (seeking-next (buckets_of words symbols) (min n linked) low high (h % buckets_of words symbols) s (sym_at script offs words symbols) (level_at symbols) (bucket_at words symbols) (next_at symbols) (head_at symbols) p.chains (omega arith)
          prev at (at - 1) k link (t.passed q) (t.no q))

      -- the next link reaches less far
      pub walk-less : (l : ℕ) → l ≡ next_at symbols (at - 1) → reach (level_at symbols) l < reach (level_at symbols) at
      walk-less l el =
          subst (λ (x : ℕ). reach (level_at symbols) x < reach (level_at symbols) at) (sym el)
          (reach-less (buckets_of words symbols) (min n linked) low high (h % buckets_of words symbols) s (sym_at script offs words symbols) (level_at symbols) (bucket_at words symbols) (next_at symbols) (head_at symbols) p.chains (omega arith)
          prev at (at - 1) k link)

  -- ── what it has found ──

  module _ (t : Spot) (k : Sought script offs words symbols n low high h s t) where
    -- the link leads to a symbol
    pub spot-room : t.at * 4 ≤ length symbols
    spot-room = by-eq t.at 0 (λ z. omega arith) (λ z. omega (arith, walk-room t.prev t.at k.seeks (omega arith)))

    -- the best of those that are linked
    pub look-start : (r : Found ℕ) → FoundAt symbols low t.at r → Finds (sym_at script offs words symbols) low high s (min n linked) r
    unfolding sym_at
    look-start r f =
        by-eq t.at 0
        (λ z. finds-end (buckets_of words symbols) (min n linked) low high (h % buckets_of words symbols) s (sym_at script offs words symbols) (level_at symbols) (bucket_at words symbols) (next_at symbols) (head_at symbols) p.chains (omega arith)
        t.prev t.at r k.seeks (λ j. refl) k.stopped in-bucket z (f.none z))
        (λ z. let y : t.at ≡ suc (t.at - 1) = omega arith in
        by-lt (level_at symbols (t.at - 1)) low
        (λ x. finds-low (buckets_of words symbols) (min n linked) low high (h % buckets_of words symbols) s (sym_at script offs words symbols) (level_at symbols) (bucket_at words symbols) (next_at symbols) (head_at symbols) p.chains (omega arith)
        t.prev t.at r k.seeks (λ j. refl) k.stopped in-bucket (t.at - 1) y x (f.below (t.at - 1) y x))
        (λ x. finds-here (buckets_of words symbols) (min n linked) low high (h % buckets_of words symbols) s (sym_at script offs words symbols) (level_at symbols) (bucket_at words symbols) (next_at symbols) (head_at symbols) p.chains (omega arith)
        t.prev t.at r k.seeks (λ j. refl) k.stopped in-bucket (t.at - 1) y x (f.some (t.at - 1) y x)))
      where
        in-bucket : (j : ℕ) → j < min n linked → Hit low high s (sym_at script offs words symbols j) → bucket_at words symbols j ≡ h % buckets_of words symbols
        in-bucket j i = hit-bucket script offs words symbols n h s p e low high j (omega arith)

-- by the two levels
pub nearer-by : (f : ℕ → Sym) (low high : ℕ) (s : List ℕ) (k b : ℕ) → Hit low high s (f k) → (x y : ℕ) → x ≡ (f b).level → y ≡ (f k).level → Nearer f low high s (Some b) k (ltb x y)
nearer-by f low high s k b t x y ex ey = go (ltb x y) refl
  where
    go : (r : Bool) → ltb x y ≡ r → Nearer f low high s (Some b) k r
    go true e = let a = ltb-true x y e in nearer-hit f low high s k (Some b) t (omega arith)
    go false e = let a = ltb-false x y e in nearer-miss f low high s k (Some b) (λ z. omega arith)
