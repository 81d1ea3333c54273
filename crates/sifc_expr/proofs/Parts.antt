-- What primary_expr and the part after it come to, by the kind in front.
use Rattle.std.specs.Prelude.{ℕ, ◌≡◌, true, false}
use Rattle.std.proofs.Common.{eq-eqb, ne_eqb}
use Rattle.sifc_err.specs.declared.parse_err.ParseErrTy.TheVariants.{InvalidTkn}
use Rattle.sifc_def.specs.State.{Node, done, Void, go_on, consume, throw_past}
use Rattle.sifc_def.specs.Expr.{is_literal, literal, ident_expr, group_expr, at_expr, primary_expr, call_part, dot, index, postfix}
use Rattle.sifc_def.specs.Walk.{walkers}
use Rattle.sifc_step.specs.declared.walk.Parser.{Parser}
use Rattle.sifc_step.specs.Abs.{ctx_at, here, Ready}
use Rattle.sifc_step.proofs.Steps.{At, begin, kinded, stood, yes, no}

abbrev pub Primary : ℕ → Parser → Void
Primary d p = primary_expr (ctx_at p) (walkers (ctx_at p) d)

module _ (d : ℕ) {p : Parser} (r : Ready p) where
  pub of-literal : is_literal (here p) ≡ true → At 1 1 (Primary d p) (literal (ctx_at p) p.at) p p
  unfolding primary_expr
  of-literal e = yes _ _ (stood _ (kinded _ (begin 1 (λ c. primary_expr c (walkers c d)) r))) e

  module _ (a : is_literal (here p) ≡ false) where
    pub of-name : here p ≡ 31 → At 1 1 (Primary d p) (ident_expr (ctx_at p) p.at) p p
    unfolding primary_expr
    of-name e = yes _ _ (no _ _ (stood _ (kinded _ (begin 1 (λ c. primary_expr c (walkers c d)) r))) a) (eq-eqb (here p) 31 e)

    module _ (b : here p ≡ 31 → ⊥) where
      pub of-group : here p ≡ 1 → At 1 1 (Primary d p) (group_expr (ctx_at p) (walkers (ctx_at p) d)) p p
      unfolding primary_expr
      of-group e = yes _ _ (no _ _ (no _ _ (stood _ (kinded _ (begin 1 (λ c. primary_expr c (walkers c d)) r))) a) (ne_eqb (here p) 31 b)) (eq-eqb (here p) 1 e)

      module _ (g : here p ≡ 1 → ⊥) where
        pub of-at : here p ≡ 21 → At 1 1 (Primary d p) (λ s. go_on (consume (ctx_at p) s) (λ x. (walkers (ctx_at p) d).call)) p p
        unfolding primary_expr at_expr
        of-at e = yes _ _ (no _ _ (no _ _ (no _ _ (stood _ (kinded _ (begin 1 (λ c. primary_expr c (walkers c d)) r))) a) (ne_eqb (here p) 31 b)) (ne_eqb (here p) 1 g)) (eq-eqb (here p) 21 e)

        pub of-other : (here p ≡ 21 → ⊥) → At 1 1 (Primary d p) (throw_past (ctx_at p) (InvalidTkn p.at)) p p
        unfolding primary_expr
        of-other e = no _ _ (no _ _ (no _ _ (no _ _ (stood _ (kinded _ (begin 1 (λ c. primary_expr c (walkers c d)) r))) a) (ne_eqb (here p) 31 b)) (ne_eqb (here p) 1 g)) (ne_eqb (here p) 21 e)

-- after the target t
module _ (d : ℕ) (t : Node) {j k : ℕ} {f : Void} {p q : Parser} (w : At j k f (postfix (ctx_at p) (walkers (ctx_at p) d) t) p q) where
  pub then-call : here q ≡ 1 → At j k f (call_part (ctx_at p) (walkers (ctx_at p) d) t q.at) p q
  unfolding postfix
  then-call e = yes _ _ (stood _ (kinded _ w)) (eq-eqb (here q) 1 e)

  module _ (a : here q ≡ 1 → ⊥) where
    pub then-dot : here q ≡ 11 → At j k f (dot (ctx_at p) (walkers (ctx_at p) d) t q.at) p q
    unfolding postfix
    then-dot e = yes _ _ (no _ _ (stood _ (kinded _ w)) (ne_eqb (here q) 1 a)) (eq-eqb (here q) 11 e)

    module _ (b : here q ≡ 11 → ⊥) where
      pub then-index : here q ≡ 5 → At j k f (index (ctx_at p) (walkers (ctx_at p) d) t q.at) p q
      unfolding postfix
      then-index e = yes _ _ (no _ _ (no _ _ (stood _ (kinded _ w)) (ne_eqb (here q) 1 a)) (ne_eqb (here q) 11 b)) (eq-eqb (here q) 5 e)

      pub then-nothing : (here q ≡ 5 → ⊥) → At j k f (λ s. done tt s) p q
      unfolding postfix
      then-nothing e = no _ _ (no _ _ (no _ _ (stood _ (kinded _ w)) (ne_eqb (here q) 1 a)) (ne_eqb (here q) 11 b)) (ne_eqb (here q) 5 e)
