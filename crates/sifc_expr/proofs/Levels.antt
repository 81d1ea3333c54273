-- The levels of binary operators, where they go on after an operand: their laws, and the steps of a level's proof.
use Rattle.std.specs.Prelude.{ℕ, zero, suc, ◌-◌, ◌<◌, ◌≡◌, refl, Bool, true, false, eqb, leb, Ok, ◌&&◌, not}
use Rattle.std.proofs.Common.{arith, sub-one, sym, ap, ◌∙◌, ne_eqb, eq-eqb, le-leb}
use Rattle.std.proofs.lemmas.Bool.{lt-leb}
use Rattle.sifc_word.specs.Base.{if◌then◌otherwise◌}
use Rattle.sifc_def.specs.State.{Ctx, St, Out, done, fail, refuse, Void, go_on, tok_at, consume, push}
use Rattle.sifc_def.specs.Expr.{fuel, looseness, operators, levels}
use Rattle.sifc_def.specs.Walk.{walkers}
use Rattle.sifc_symtab.specs.Toks.{length-toks}
use Rattle.sifc_step.specs.declared.walk.Parser.{Parser}
use Rattle.sifc_step.specs.Abs.{ctx_at, abs_at, here, Ready, Does, passes}
use Rattle.sifc_step.proofs.Steps.{At, begin, by, go, fin, kinded, stood, yes, no, nested, kind-here}
use Rattle.sifc_step.proofs.Loops.{Looping, turn-own}
use Rattle.sifc_step.proofs.Small.{stays, less}
use Rattle.sifc_expr.specs.Rest.{binds_in, rest}

-- ── the laws ──

and-nothing : (o : Out (Unit {0})) → o ≡ go_on o (λ a s. done tt s)
unfolding go_on
and-nothing (done a s) = refl
and-nothing (fail e s) = refl
and-nothing (refuse r) = refl

-- the levels are their first operand and the rest
levels-rest : (c : Ctx) (n : ℕ) (u : Void) (s : St) → levels c n u s ≡ go_on (u s) (λ a. rest c n u)
unfolding levels rest
levels-rest c zero u s = and-nothing (u s)
levels-rest c (suc n) u s =
    ap (λ (o : Out (Unit {0})). go_on o (λ a. operators c (fuel c) (suc n) (levels c n u))) (levels-rest c n u s) ∙ nested (u s) (λ a. rest c n u) (λ a. operators c (fuel c) (suc n) (levels c n u))

pub levels-then : {A : Type 0} (c : Ctx) (n : ℕ) (u : Void) (K : Unit {0} → St → Out A) (s : St) → go_on (levels c n u s) K ≡ go_on (u s) (λ a t. go_on (rest c n u t) K)
levels-then {A} c n u K s = ap (λ (o : Out (Unit {0})). go_on o K) (levels-rest c n u s) ∙ nested (u s) (λ a. rest c n u) K

-- the level n over the level below
rest-step : (c : Ctx) (n : ℕ) (u : Void) → 0 < n → (s : St) → rest c n u s ≡ go_on (rest c (n - 1) u s) (λ a. operators c (fuel c) n (levels c (n - 1) u))
unfolding rest
rest-step c zero u lt s = absurd (omega (arith, lt))
rest-step c (suc n) u lt s = ap (λ (m : ℕ). go_on (rest c m u s) (λ a. operators c (fuel c) (suc n) (levels c m u))) (sym (sub-one (suc n)))

operators-none : (c : Ctx) (f n : ℕ) (next : Void) (s : St) → eqb (looseness (tok_at c s.at).kind) n ≡ false → operators c f n next s ≡ done tt s
unfolding operators go_on if◌then◌otherwise◌
operators-none c zero n next s e = refl
operators-none c (suc f) n next s e = rw e refl

-- no operator of these levels is in front
rest-free : (c : Ctx) (n : ℕ) (u : Void) (s : St) → ((m : ℕ) → m < n → looseness (tok_at c s.at).kind ≡ suc m → ⊥) → rest c n u s ≡ done tt s
unfolding rest go_on
rest-free c zero u s h = refl
rest-free c (suc n) u s h =
    ap (λ (o : Out (Unit {0})). go_on o (λ a. operators c (fuel c) (suc n) (levels c n u))) (rest-free c n u s (λ m lt e. h m (omega arith) e))
    ∙ operators-none c (fuel c) (suc n) (levels c n u) s (ne_eqb _ _ (h n (omega arith)))

binds-at : (k m n : ℕ) → m < n → looseness k ≡ suc m → binds_in n k ≡ true
unfolding binds_in
binds-at k m n lt e = rw (e, ne_eqb (suc m) 0 (λ z. omega arith), le-leb (suc m) n (omega arith)) refl

rest-none : (c : Ctx) (n : ℕ) (u : Void) (s : St) → binds_in n (tok_at c s.at).kind ≡ false → rest c n u s ≡ done tt s
rest-none c n u s e =
    rest-free c n u s (λ m lt z. let y : ◌≡◌ {A = Bool} true false = sym (binds-at _ m n lt z) ∙ e in let v : ◌≡◌ {A = ℕ} 0 1 = cc in omega arith)

-- the code's two tests
pub no_sign : (n k : ℕ) → looseness k ≡ 0 → false ≡ binds_in n k
unfolding binds_in
no_sign n k e = rw e refl

pub some-sign : (n k : ℕ) → (looseness k ≡ 0 → ⊥) → leb (looseness k) n ≡ binds_in n k
unfolding binds_in
some-sign n k f = rw (ne_eqb _ _ f) refl

outside : (l : ℕ) → (not (eqb l 0) && leb l 0) ≡ false
outside zero = refl
outside (suc l) = rw (ne_eqb (suc l) 0 (λ z. omega arith), lt-leb (suc l) 0 (omega arith)) refl

-- what binds within n levels, where there is a level
pub some-level : (n k : ℕ) → binds_in n k ≡ true → 0 < n
unfolding binds_in
some-level zero k e = let v : ◌≡◌ {A = Bool} false true = sym (outside (looseness k)) ∙ e in let w : ◌≡◌ {A = ℕ} 0 1 = cc in omega arith
some-level (suc n) k e = omega arith

-- ── the steps of level n, where d more calls may be active ──

module _ (n d : ℕ) where
  abbrev pub Operand : Ctx → Void
  Operand c = (walkers c d).unary

  abbrev pub Below : Ctx → Void
  Below c = rest c (n - 1) (walkers c d).unary

  abbrev pub Whole : Ctx → Void
  Whole c = rest c n (walkers c d).unary

  -- the loop
  abbrev pub Turns : Ctx → ℕ → Void
  Turns c f = operators c f n (levels c (n - 1) (walkers c d).unary)

  -- what the loop's turns are a part of
  abbrev pub From : Ctx → ℕ → Void
  From c f = rest c n (walkers c d).unary

  module _ {p : Parser} (r : Ready p) where
    -- no operator of the level is in front
    pub free : binds_in n (here p) ≡ false → Does 0 Whole p (Ok tt) p
    free e = stays (λ z E l. rest-none (ctx_at p) n (Operand (ctx_at p)) _ (ap (binds_in n) (kind-here p r) ∙ e))

    module _ (lt : 0 < n) where
      pub starts : At 0 0 (Whole (ctx_at p)) (λ s. go_on (Below (ctx_at p) s) (λ a. Turns (ctx_at p) (fuel (ctx_at p)))) p p
      starts = by (begin 0 Whole r) (λ s. rest-step (ctx_at p) n (Operand (ctx_at p)) lt s)

      -- the level below, before the loop
      pub enters : {q : Parser} → Does 0 Below p (Ok tt) q → Looping From Turns p q
      enters d =
          record {
            f = fuel (ctx_at p);
            enough = omega (arith, length-toks p.offs.now p.words.now r.stands.toks.even, r.stands.toks.even);
            at = go Below (λ a. Turns (ctx_at p) (fuel (ctx_at p))) starts d;
          }

  module _ {p q : Parser} (t : Looping From Turns p q) where
    -- no turn more
    pub ends : (looseness (here q) ≡ n → ⊥) → Does 0 Whole p (Ok tt) q
    unfolding operators
    ends ne = fin Whole (no _ _ (stood _ (kinded _ (turn-own t))) (ne_eqb _ _ ne))

    module _ (on : looseness (here q) ≡ n) where
      -- what is left of a turn: the node, the level below, the operand, the operator
      abbrev pub Node : Ctx → Void
      Node c s = go_on (push c 22 false 2 q.at s) (λ a. Turns c (t.f - 1))

      abbrev pub Rest : Ctx → Void
      Rest c s = go_on (Below c s) (λ a. Node c)

      pub sign : At 0 0 (Whole (ctx_at p)) (λ s. go_on (consume (ctx_at p) s) (λ a u. go_on (levels (ctx_at p) (n - 1) (Operand (ctx_at p)) u) (λ b. Node (ctx_at p)))) p q
      unfolding operators
      sign = yes _ _ (stood _ (kinded _ (turn-own t))) (eq-eqb _ _ on)

      pub signed : {x : Parser} → Does (passes q) (λ c. consume c) q (Ok tt) x → At 0 0 (Whole (ctx_at p)) (λ s. go_on (Operand (ctx_at p) s) (λ a. Rest (ctx_at p))) p x
      signed g = by (go (λ c. consume c) _ sign (less {j = 0} (omega arith) g)) (λ s. levels-then (ctx_at p) (n - 1) (Operand (ctx_at p)) (λ b. Node (ctx_at p)) s)

-- below the first level there is none
none-below : (c : Ctx) (n : ℕ) (u : Void) (s : St) → n ≡ 0 → rest c n u s ≡ done tt s
unfolding rest
none-below c zero u s e = refl
none-below c (suc n) u s e = absurd (omega (arith, e))

pub idle : (n d : ℕ) → n - 1 ≡ 0 → {p : Parser} → Ready p → Does 0 (Below n d) p (Ok tt) p
idle n d e {p} r = stays (λ z E l. none-below (ctx_at p) (n - 1) (Operand n d (ctx_at p)) (abs_at E p) e)
