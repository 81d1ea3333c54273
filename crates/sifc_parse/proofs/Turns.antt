-- Loops whose turns may list errors, one step of the depth of a block, and steps that list nothing.
use Rattle.std.specs.Prelude.{ℕ, zero, suc, ◌+◌, ◌-◌, ◌≤◌, ◌<◌, ◌≡◌, refl, List, length, Bool, Err as Stopped}
use Rattle.std.proofs.Common.{add-one, sub-one, arith, sym, ap}
use Rattle.std.proofs.Math.Path.{subst}
use Rattle.sifc_err.specs.declared.Refusal.TheVariants.{TooDeep}
use Rattle.sifc_def.specs.State.{Ctx, St, Out, go_on}
use Rattle.sifc_def.specs.Expr.{fuel}
use Rattle.sifc_def.specs.Stmt.{block}
use Rattle.sifc_def.specs.Walk.{walkers}
use Rattle.sifc_symtab.specs.Toks.{length-toks}
use Rattle.sifc_step.specs.declared.walk.Parser.{Parser}
use Rattle.sifc_step.specs.declared.walk.Stop.TheVariants.{Refused}
use Rattle.sifc_step.specs.Abs.{Inp, ctx_at, abs_at, Ready}
use Rattle.sifc_step.proofs.Steps.{begin, kept-same}
use Rattle.sifc_step.proofs.Small.{refuses}
use Rattle.sifc_block.specs.declared.book.Book.{Book}
use Rattle.sifc_block.specs.Lists.{Lists}
use Rattle.sifc_block.proofs.Steps.{Going, listing, quiet, turned}

-- ── where a function begins ──

pub opens : {B : Type 0} (j : ℕ) (f : Ctx → St → Out B) (b : Book) {p : Parser} → Ready p → Going j j (f (ctx_at p)) (f (ctx_at p)) p b p b
opens j f b r = listing b (begin j f r)

-- ── one step of the depth ──

block-below : (c : Ctx) (d : ℕ) (b : Bool) (ns : List ℕ) → (d ≡ 0 → ⊥) → (s : St) → (walkers c d).block b ns s ≡ block c (walkers c (d - 1)) b ns s
unfolding walkers
block-below c zero b ns f s = absurd (f refl)
block-below c (suc d) b ns f s = ap (λ (m : ℕ). block c (walkers c m) b ns s) (sym (sub-one (suc d)))

pub block-step : (j d : ℕ) (body : Bool) (ns : List ℕ) (b : Book) {p : Parser} → Ready p → (d ≡ 0 → ⊥)
    → Going j j ((walkers (ctx_at p) d).block body ns) (block (ctx_at p) (walkers (ctx_at p) (d - 1)) body ns) p b p b
block-step j d body ns b {p} r f = turned (opens j (λ c. (walkers c d).block body ns) b r) (block-below (ctx_at p) d body ns f)

-- no call more may be active
pub block_none : (j d : ℕ) (body : Bool) (ns : List ℕ) (b : Book) (p : Parser) → d ≡ 0 → Lists {A = Unit {0}} j (λ c. (walkers c d).block body ns) p b (Stopped (Refused TooDeep)) p b
unfolding walkers
block_none j d body ns b p e = quiet b (refuses (kept-same p) (λ z E l. ap (λ (m : ℕ). (walkers (ctx_at p) m).block body ns (abs_at E p)) e))

-- the names, by an equal list
pub block-named : {A : Type 0} (d : ℕ) (body : Bool) {ns ms : List ℕ} (K : Unit {0} → St → Out A) {j k : ℕ} {f : St → Out A} {p q : Parser} {b c : Book}
    → Going j k f (λ s. go_on ((walkers (ctx_at p) d).block body ns s) K) p b q c → ns ≡ ms → Going j k f (λ s. go_on ((walkers (ctx_at p) d).block body ms s) K) p b q c
block-named d body K {p = p} g e = turned g (λ s. ap (λ (l : List ℕ). go_on ((walkers (ctx_at p) d).block body l s) K) e)

-- ── loops ──

-- What is left of the turns, `loop` with the fuel f at the parser q and the words c, gives what all of them were to give, `loop₀` at the loop's start.
pub record Turning {A : Type 0} (loop₀ loop : Ctx → ℕ → St → Out A) (p : Parser) (b : Book) (q : Parser) (c : Book) : Type 0 where
  pub f : ℕ
  pub enough : length p.words.now ≤ f + q.at
  pub at : Going 0 0 (λ s. loop₀ (ctx_at p) (fuel (ctx_at p)) s) (λ s. loop (ctx_at p) f s) p b q c

pub turning : {A : Type 0} (loop : Ctx → ℕ → St → Out A) {p : Parser} (b : Book) → Ready p → Turning loop loop p b p b
turning loop {p} b r =
    record {
      f = fuel (ctx_at p);
      enough = omega (arith, length-toks p.offs.now p.words.now r.stands.toks.even, r.stands.toks.even);
      at = opens 0 (λ c s. loop c (fuel c) s) b r;
    }

module _ {A : Type 0} {loop₀ loop : Ctx → ℕ → St → Out A} {p q : Parser} {b c : Book} (t : Turning loop₀ loop p b q c) where
  some_left : t.f ≡ suc (t.f - 1)
  some_left = omega (arith, t.enough, t.at.is.stands.here, ap (λ (I : Inp). length I.words) t.at.kept.inp)

  -- a turn's start
  pub turn-own : Going 0 0 (λ s. loop₀ (ctx_at p) (fuel (ctx_at p)) s) (λ s. loop (ctx_at p) (suc (t.f - 1)) s) p b q c
  turn-own = turned t.at (λ s. ap (λ (m : ℕ). loop (ctx_at p) m s) some_left)

  -- a turn more
  pub onward : {loop' : Ctx → ℕ → St → Out A} {j k : ℕ} {z : Parser} {d : Book} → q.at < z.at
      → Going j k (λ s. loop₀ (ctx_at p) (fuel (ctx_at p)) s) (λ s. loop' (ctx_at p) (t.f - 1) s) p b z d → Turning loop₀ loop' p b z d
  onward on h =
      record {
        f = t.f - 1;
        enough = omega (arith, t.enough, some_left, on);
        at = record { kept = h.kept; book = h.book; left = h.left; is = h.is; on = omega (arith, t.at.on, on) };
      }

  -- a turn that has passed a token leaves fewer
  pub nearer : (z : ℕ) → q.at < z → length p.words.now - z < length p.words.now - q.at
  nearer z on = omega (arith, t.at.is.stands.here, ap (λ (I : Inp). length I.words) t.at.kept.inp, on)

  -- where so many turns have each passed a token
  pub fewer : (n : ℕ) → n ≤ q.at → n < 65536
  fewer n le = omega (arith, t.at.is.stands.here, t.at.is.stands.toks.few, le)

-- the code's n + 1 is the definition's suc n
pub retold : {A : Type 0} (L : Ctx → ℕ → ℕ → St → Out A) (n : ℕ) {loop₀ : Ctx → ℕ → St → Out A} {p q : Parser} {b c : Book} → Turning loop₀ (λ x f. L x f (suc n)) p b q c → Turning loop₀ (λ x f. L x f (n + 1)) p b q c
retold L n {loop₀} {p} {q} {b} {c} t = subst (λ (m : ℕ). Turning loop₀ (λ x f. L x f m) p b q c) (sym (add-one n)) t
