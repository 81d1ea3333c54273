-- The nodes of n trees, newest first: each node stands above the trees that are its children. What a reading adds to the nodes is such a list.
use Rattle.std.specs.Prelude.{ℕ, suc, ◌+◌, ◌-◌, ◌<◌, ◌||◌, not, ◌≡◌, T, eqb, leb, length, take, drop}
use mathlib.Core.List.{List, [], ◌∷◌, ◌++◌, append_assoc}
use Rattle.std.proofs.Math.Path.{refl, ap, subst}
use Rattle.std.proofs.Common.{sym, ◌∙◌, arith, length-append, take_at, drop_at}
use Rattle.sifc_def.specs.Ast.{ArrayAccess}
use Rattle.sifc_def.specs.State.{Node, without}

-- what holds of a node by itself: an ArrayAccess has two children, the kind is one of the 24, and the payload is below t
pub record Fit (t : ℕ) (x : Node) : Type 0 where
  pub arity : T (not (eqb x.kind ArrayAccess) || eqb x.kids 2)
  pub known : T (leb x.kind 24)
  pub pay : x.pay < t

pub record Over (t : ℕ) (x : Node) (G : ℕ → Type 0) (n : ℕ) : Type 0 where
  pub fit : Fit t x
  pub older : ℕ
  pub is : n ≡ suc older
  pub under : G (x.kids + older)

unfoldable pub Grove : ℕ → List Node → ℕ → Type 0
Grove t [] n = n ≡ 0
Grove t (x ∷ xs) n = Over t x (Grove t xs) n

pub record Grows (t n : ℕ) (ns ns' : List Node) : Type 0 where
  pub new : List Node
  pub is : ns' ≡ new ++ ns
  pub grove : Grove t new n

-- nodes that were there stay, below the new ones
pub record Kept (ns ns' : List Node) : Type 0 where
  pub new : List Node
  pub is : ns' ≡ new ++ ns

pub kept_same : (ns : List Node) → Kept ns ns
kept_same ns = record { new = []; is = refl }

pub kept_by : {t n : ℕ} {ns ns' : List Node} → Grows t n ns ns' → Kept ns ns'
kept_by g = record { new = g.new; is = g.is }

pub kept-over : {ns ns' : List Node} (x : Node) → Kept ns ns' → Kept ns (x ∷ ns')
kept-over x k = record { new = x ∷ k.new; is = ap (λ (l : List Node). x ∷ l) k.is }

pub kept_then : {ns ns' ns'' : List Node} → Kept ns ns' → Kept ns' ns'' → Kept ns ns''
kept_then {ns} {ns'} {ns''} g h = record { new = h.new ++ g.new; is = h.is ∙ ap (λ (l : List Node). h.new ++ l) g.is ∙ sym (append_assoc h.new g.new ns) }

pub ruleset keeping = (kept_same, kept_by, kept-over, kept_then)

-- the newest node, and what is under it
pub record Top (t n : ℕ) (ns ns' : List Node) : Type 0 where
  pub node : Node
  pub rest : List Node
  pub is : ns' ≡ node ∷ rest
  pub fit : Fit t node
  pub grows : Grows t (node.kids + n) ns rest

grove-append : (t : ℕ) (ys xs : List Node) (m n : ℕ) → Grove t ys m → Grove t xs n → Grove t (ys ++ xs) (m + n)
unfolding Grove
grove-append t [] xs m n g h = subst (λ (k : ℕ). Grove t xs k) (omega (arith, g)) h
grove-append t (y ∷ ys) xs m n g h =
    record {
      fit = g.fit;
      older = g.older + n;
      is = omega (arith, g.is);
      under = subst (λ (k : ℕ). Grove t (ys ++ xs) k) (omega arith) (grove-append t ys xs (y.kids + g.older) n g.under h);
    }

module _ {t : ℕ} where
  pub grows_none : (ns : List Node) → Grows t 0 ns ns
  unfolding Grove
  grows_none ns = record { new = []; is = refl; grove = refl }

  pub grows-as : {n m : ℕ} {ns ns' : List Node} → n ≡ m → Grows t n ns ns' → Grows t m ns ns'
  grows-as e g = record { new = g.new; is = g.is; grove = subst (λ (k : ℕ). Grove t g.new k) e g.grove }

  -- one after the other
  pub grows_then : {n m : ℕ} {ns ns' ns'' : List Node} → Grows t n ns ns' → Grows t m ns' ns'' → Grows t (m + n) ns ns''
  grows_then {n} {m} {ns} {ns'} {ns''} g h =
      record {
        new = h.new ++ g.new;
        is = h.is ∙ ap (λ (l : List Node). h.new ++ l) g.is ∙ sym (append_assoc h.new g.new ns);
        grove = grove-append t h.new g.new m n h.grove g.grove;
      }

  -- a node over the newest trees
  pub grows-over : {n : ℕ} {ns ns' : List Node} (x : Node) (m : ℕ) → Fit t x → n ≡ x.kids + m → Grows t n ns ns' → Grows t (suc m) ns (x ∷ ns')
  unfolding Grove
  grows-over {n} x m fit e g =
      record {
        new = x ∷ g.new;
        is = ap (λ (l : List Node). x ∷ l) g.is;
        grove = record { fit = fit; older = m; is = refl; under = subst (λ (k : ℕ). Grove t g.new k) e g.grove };
      }

  pub top_of : {n : ℕ} {ns ns' : List Node} → Grows t (suc n) ns ns' → Top t n ns ns'
  unfolding Grove
  top_of {n} {ns} {ns'} g = go g.new g.is g.grove
    where
      go : (new : List Node) → ns' ≡ new ++ ns → Grove t new (suc n) → Top t n ns ns'
      go [] e h = absurd (omega (arith, h))
      go (x ∷ xs) e h =
          record {
            node = x;
            rest = xs ++ ns;
            is = e;
            fit = h.fit;
            grows = record { new = xs; is = refl; grove = subst (λ (k : ℕ). Grove t xs k) (omega (arith, h.is)) h.under };
          }

without_at : (ys rest : List Node) (x : Node) → without (length rest) (ys ++ x ∷ rest) ≡ ys ++ rest
unfolding without
without_at ys rest x =
    let l : length (ys ++ x ∷ rest) ≡ length ys + suc (length rest) = length-append ys (x ∷ rest) in
    let a : take (length (ys ++ x ∷ rest) - suc (length rest)) (ys ++ x ∷ rest) ≡ ys = take_at ys (x ∷ rest) (length (ys ++ x ∷ rest) - suc (length rest)) (omega arith) in
    let d : drop (length (ys ++ x ∷ rest) - length rest) (ys ++ x ∷ rest) ≡ rest =
    rw (← append_assoc ys (x ∷ []) rest) (drop_at (ys ++ (x ∷ [])) rest (length ((ys ++ (x ∷ [])) ++ rest) - length rest) (omega (arith, length-append ys (x ∷ []), length-append (ys ++ (x ∷ [])) rest))) in
    rw (a, d) refl

-- The root of the older of two trees is taken away: its two children stand in its place.
pub grows-without : {t : ℕ} {ns ns₁ ns₂ : List Node} (p : Top t 0 ns ns₁) → p.node.kids ≡ 2 → Grows t 1 ns₁ ns₂ → Grows t 3 ns (without (length ns₁ - 1) ns₂) × (suc (length (without (length ns₁ - 1) ns₂)) ≡ length ns₂)
grows-without {t} {ns} {ns₁} {ns₂} p e g =
    let i : ns₂ ≡ g.new ++ p.node ∷ p.rest = g.is ∙ ap (λ (l : List Node). g.new ++ l) p.is in
    let n : length ns₁ - 1 ≡ length p.rest = omega (arith, ap length p.is) in
    let w : without (length ns₁ - 1) ns₂ ≡ g.new ++ p.rest = rw (n, i) (without_at g.new p.rest p.node) in
    rw w (grows-as (omega arith) (grows_then p.grows (record { new = g.new; is = refl; grove = g.grove })), omega (arith, ap length i, length-append g.new p.rest, length-append g.new (p.node ∷ p.rest)))
