-- One step of the depth, and small steps of the proofs.
use Rattle.std.specs.Prelude.{ℕ, zero, suc, ◌-◌, ◌<◌, ◌≡◌, refl, Bool, false, length, get_or, Err as Stopped}
use Rattle.std.proofs.Common.{arith, sub-one, sym, ap}
use Rattle.sifc_err.specs.declared.Refusal.TheVariants.{TooDeep}
use Rattle.sifc_def.specs.State.{Node, node, Ctx, St, Out, done, go_on}
use Rattle.sifc_def.specs.Symbols.{set_check}
use Rattle.sifc_def.specs.Expr.{assign_expr, unary_expr, fn_call_expr}
use Rattle.sifc_def.specs.Walk.{walkers}
use Rattle.sifc_step.specs.declared.walk.Parser.{Parser}
use Rattle.sifc_step.specs.declared.walk.Stop.TheVariants.{Refused}
use Rattle.sifc_step.specs.Abs.{Inp, ctx_at, abs_at, Ready, Does}
use Rattle.sifc_step.specs.Small.{newest}
use Rattle.sifc_step.proofs.Steps.{At, begin, by, read, kept-same, kept-on}
use Rattle.sifc_step.proofs.Loops.{Looping}
use Rattle.sifc_step.proofs.Small.{refuses}

assign-below : (c : Ctx) (d : ℕ) → (d ≡ 0 → ⊥) → (s : St) → (walkers c d).assign s ≡ assign_expr c (walkers c (d - 1)) s
unfolding walkers
assign-below c zero f s = absurd (f refl)
assign-below c (suc d) f s = ap (λ (m : ℕ). assign_expr c (walkers c m) s) (sym (sub-one (suc d)))

unary-below : (c : Ctx) (d : ℕ) → (d ≡ 0 → ⊥) → (s : St) → (walkers c d).unary s ≡ unary_expr c (walkers c (d - 1)) s
unfolding walkers
unary-below c zero f s = absurd (f refl)
unary-below c (suc d) f s = ap (λ (m : ℕ). unary_expr c (walkers c m) s) (sym (sub-one (suc d)))

call-below : (c : Ctx) (d : ℕ) → (d ≡ 0 → ⊥) → (s : St) → (walkers c d).call s ≡ fn_call_expr c (walkers c (d - 1)) s
unfolding walkers
call-below c zero f s = absurd (f refl)
call-below c (suc d) f s = ap (λ (m : ℕ). fn_call_expr c (walkers c m) s) (sym (sub-one (suc d)))

module _ {p : Parser} (r : Ready p) (d : ℕ) (f : d ≡ 0 → ⊥) where
  pub assign-step : At 1 1 (walkers (ctx_at p) d).assign (assign_expr (ctx_at p) (walkers (ctx_at p) (d - 1))) p p
  assign-step = by (begin 1 (λ c. (walkers c d).assign) r) (assign-below (ctx_at p) d f)

  pub unary-step : At 1 1 (walkers (ctx_at p) d).unary (unary_expr (ctx_at p) (walkers (ctx_at p) (d - 1))) p p
  unary-step = by (begin 1 (λ c. (walkers c d).unary) r) (unary-below (ctx_at p) d f)

  pub call_step : At 1 1 (walkers (ctx_at p) d).call (fn_call_expr (ctx_at p) (walkers (ctx_at p) (d - 1))) p p
  call_step = by (begin 1 (λ c. (walkers c d).call) r) (call-below (ctx_at p) d f)

-- no call more may be active
module _ (p : Parser) {d : ℕ} (e : d ≡ 0) where
  pub assign-none : Does {A = Unit {0}} 1 (λ c. (walkers c d).assign) p (Stopped (Refused TooDeep)) p
  unfolding walkers
  assign-none = refuses (kept-same p) (λ z E l. ap (λ (m : ℕ). (walkers (ctx_at p) m).assign (abs_at E p)) e)

  pub unary-none : Does {A = Unit {0}} 1 (λ c. (walkers c d).unary) p (Stopped (Refused TooDeep)) p
  unfolding walkers
  unary-none = refuses (kept-same p) (λ z E l. ap (λ (m : ℕ). (walkers (ctx_at p) m).unary (abs_at E p)) e)

  pub call_none : Does {A = Unit {0}} 1 (λ c. (walkers c d).call) p (Stopped (Refused TooDeep)) p
  unfolding walkers
  call_none = refuses (kept-same p) (λ z E l. ap (λ (m : ℕ). (walkers (ctx_at p) m).call (abs_at E p)) e)

-- ── what the code has otherwise than the definition ──

module _ {B : Type 0} {j k : ℕ} {f : St → Out B} {p q : Parser} where
  -- the newest node, which the code has not asked for
  pub unasked : (K : Node → St → Out B) → At j k f (λ s. go_on (done (get_or s.nodes 0 (node 0 false 0 0)) s) K) p q → At j k f (K (newest q)) p q
  unasked K t = read (λ (s : St). get_or s.nodes 0 (node 0 false 0 0)) K t (λ E. refl)

  -- name checking switched
  pub switched : (b : Bool) (K : Unit {0} → St → Out B) → At j k f (λ s. go_on (set_check (ctx_at p) b s) K) p q → At j k f (K tt) p (record q { check = b })
  unfolding go_on set_check
  switched b K t =
      record {
        kept = kept-on t.kept (record { inp = refl; symbols_name = refl; head_name = refl; load_name = refl; symbols = refl; head = refl; load = refl });
        left = λ E l. t.left E l;
        is = record { stands = record { toks = t.is.stands.toks; here = t.is.stands.here; calm = t.is.stands.calm }; even = t.is.even; used = t.is.used; holds = t.is.holds; level = t.is.level; room = t.is.room };
        on = t.on;
        errors = t.errors;
      }

-- a turn that has passed a token leaves fewer
pub nearer : {A : Type 0} {loop₀ loop : Ctx → ℕ → St → Out A} {p q : Parser} → Looping loop₀ loop p q → (z : ℕ) → q.at < z → length p.words.now - z < length p.words.now - q.at
nearer t z on = omega (arith, t.at.is.stands.here, ap (λ (I : Inp). length I.words) t.at.kept.inp, on)
