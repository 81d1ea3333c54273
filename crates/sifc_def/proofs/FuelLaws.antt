-- Loop fuel never runs out: with at least as much as there are tokens left, a loop gives what it gives with any more. Each turn takes a token that is not Eof, or
-- ends the loop.
use Prim.Native.Nat.{ℕ, zero, suc, ◌+◌, ◌≤◌}
use Rattle.std.proofs.Math.Option.{Option, none, some}
use Rattle.std.specs.Prelude.{Bool, ◌≡◌, eqb, length}
use Rattle.std.proofs.Math.Bool.{true, false}
use Rattle.std.proofs.Math.Path.{refl}
use native.Mathlib.Omega.{arith}
use Rattle.sifc_word.specs.Base.{if◌then◌otherwise◌}
use Rattle.sifc_word.specs.Kind.{RightBrace, Comma, Eof}
use Rattle.sifc_def.specs.declared.Err.{Err}
use Rattle.sifc_def.specs.Ast.{BinaryExpr}
use Rattle.sifc_def.specs.Error.{continuable}
use Rattle.sifc_def.specs.State.{Ctx, St, M, Void, go_on, consume, optional, push}
use Rattle.sifc_def.specs.Expr.{Rec, operators, separator, param_list}
use Rattle.sifc_def.specs.Stmt.{comma_list, branches, decls}
use Rattle.sifc_def.specs.Walk.{End, end_read, program}
use Rattle.sifc_def.proofs.OutcomeLaws.{Holds, is-done, branch, call, go-on-same, branch_same}
use Rattle.sifc_def.proofs.StepLaws.{Toks, Well, kind_at, well-nodes, other, consume-last, expect-last, push-last}
use Rattle.sifc_def.proofs.ExprLaws.{ItemOf, Item, loose-eof}
use Rattle.sifc_def.proofs.StmtLaws.{Decl, Good, elif-does, else-does, decl-does, right}
use Rattle.sifc_def.proofs.WalkLaws.{Far, FarOf, top-far}

-- the walk has come at least j tokens farther
pub record On (c : Ctx) (j : ℕ) (s s' : St) : Type 0 where
  pub well : Well c s'
  pub on : j + s.at ≤ s'.at

module _ (c : Ctx) (b : ℕ → ℕ) (ts : Toks c b) where
  consume-on : (s : St) → Well c s → eqb (kind_at c s) Eof ≡ false → Holds (consume c s) (λ u s'. On c 1 s s') (λ s'. ⊥)
  consume-on s w e = consume-last c b ts s w e (λ n. record { well = n.well; on = omega arith })

  push-on : (k : ℕ) (g : Bool) (n p : ℕ) (s : St) → Well c s → Holds (push c k g n p s) (λ u s'. On c 0 s s') (λ s'. ⊥)
  push-on k g n p s w = push-last c b ts k g n p s (record { well = well-nodes _ _ w; on = omega arith })

  pub operators-enough : (f g n : ℕ) (next : Void) → Item c b next → (s : St) → Well c s → length c.toks ≤ f + s.at → length c.toks ≤ g + s.at → operators c f (suc n) next s ≡ operators c g (suc n) next s
  unfolding operators go_on
  operators-enough zero g n next h s w l m = absurd (omega (arith, w.here))
  operators-enough (suc f) zero n next h s w l m = absurd (omega (arith, w.here))
  operators-enough (suc f) (suc g) n next h s w l m =
      branch_same _ _ _ _ _ s
      (λ e. go-on-same (consume-on s w (loose-eof c b ts n (kind_at c s) e)) (λ u s₁ x. go-on-same (h s₁ x.well) (λ v s₂ y. go-on-same (push-on BinaryExpr false 2 s.at s₂ y.well) (λ z s₃ t.
      operators-enough f g n next h s₃ t.well (omega arith) (omega arith)))))
      (λ e. refl)

  separator-on : (s : St) → Well c s → Holds (separator c s) (λ u s'. On c 0 s s') (λ s'. Unit {0})
  unfolding separator go_on
  separator-on s w =
      branch _ _ _ s (λ e. expect-last c b ts Comma s w refl tt (λ n p. record { well = n.well; on = omega arith })) (λ e. is-done (record { well = w; on = omega arith }))

  pub params-enough : (j e : ℕ) (item : Void) → ItemOf c b j e item → (f g n : ℕ) (s : St) → Well c s → length c.toks ≤ f + s.at → length c.toks ≤ g + s.at → param_list c item f n s ≡ param_list c item g n s
  unfolding param_list go_on
  params-enough j e item h zero g n s w l m = absurd (omega (arith, w.here))
  params-enough j e item h (suc f) zero n s w l m = absurd (omega (arith, w.here))
  params-enough j e item h (suc f) (suc g) n s w l m =
      branch_same _ _ _ _ _ s (λ p. refl) (λ p. branch_same _ _ _ _ _ s (λ q. refl) (λ q. branch_same _ _ _ _ _ s (λ o. refl)
      (λ o. go-on-same (h s w) (λ u s₁ x. go-on-same (separator-on s₁ x.well) (λ v s₂ y.
      params-enough j e item h f g (suc n) s₂ y.well (omega arith) (omega arith))))))

  optional-on : (k : ℕ) (s : St) → eqb k Eof ≡ false → Well c s → Holds (optional c k s) (λ x s'. On c 0 s s') (λ s'. ⊥)
  unfolding optional go_on
  optional-on k s e w =
      branch _ _ _ s (λ p. call (consume-on s w (other (kind_at c s) k Eof p e)) (λ s' x. x) (λ u s' x. is-done (record { well = x.well; on = omega arith })))
      (λ p. is-done (record { well = w; on = omega arith }))

  pub commas-enough : (close j e : ℕ) (item : Void) → ItemOf c b j e item → (f g n : ℕ) (s : St) → Well c s → length c.toks ≤ f + s.at → length c.toks ≤ g + s.at → comma_list c close item f n s ≡ comma_list c close item g n s
  unfolding comma_list go_on
  commas-enough close j e item h zero g n s w l m = absurd (omega (arith, w.here))
  commas-enough close j e item h (suc f) zero n s w l m = absurd (omega (arith, w.here))
  commas-enough close j e item h (suc f) (suc g) n s w l m =
      branch_same _ _ _ _ _ s (λ p. refl) (λ p. branch_same _ _ _ _ _ s (λ q. refl)
      (λ q. go-on-same (h s w) (λ u s₁ x. go-on-same (optional-on Comma s₁ refl x.well) (λ more s₂ y.
      branch_same more _ _ _ _ s₂ (λ z. commas-enough close j e item h f g (suc n) s₂ y.well (omega arith) (omega arith)) (λ z. refl)))))

  module _ (r : Rec) (good : Good c b r) where
    pub branches-enough : (f g n elses : ℕ) (s : St) → Well c s → length c.toks ≤ f + s.at → length c.toks ≤ g + s.at → branches c r f n elses s ≡ branches c r g n elses s
    unfolding branches go_on
    branches-enough zero g n elses s w l m = absurd (omega (arith, w.here))
    branches-enough (suc f) zero n elses s w l m = absurd (omega (arith, w.here))
    branches-enough (suc f) (suc g) n elses s w l m =
        branch_same _ _ _ _ _ s (λ p. go-on-same (elif-does c b ts r good s w p) (λ u s₁ x. branches-enough f g (suc n) elses s₁ x.well (omega arith) (omega arith)))
        (λ p. branch_same _ _ _ _ _ s (λ q. go-on-same (else-does c b ts r good s w q) (λ u s₁ x. branches-enough f g (suc n) (suc elses) s₁ x.well (omega arith) (omega arith))) (λ q. refl))

    pub decls-enough : (f g n : ℕ) (s : St) → Well c s → length c.toks ≤ f + s.at → length c.toks ≤ g + s.at → decls c r f n s ≡ decls c r g n s
    unfolding decls go_on
    decls-enough zero g n s w l m = absurd (omega (arith, w.here))
    decls-enough (suc f) zero n s w l m = absurd (omega (arith, w.here))
    decls-enough (suc f) (suc g) n s w l m =
        branch_same _ _ _ _ _ s (λ p. refl)
        (λ p. go-on-same (decl-does c b ts r good s w (right c b ts r good (eqb (kind_at c s) RightBrace) (eqb (kind_at c s) Eof) p)) (λ u s₁ x. decls-enough f g (suc n) s₁ x.well (omega arith) (omega arith)))

  pub program-enough : (d : Void) → Decl c b d → (f g n : ℕ) (flag : Bool) (s : St) → Far c b ts n s → length c.toks ≤ f + s.at → length c.toks ≤ g + s.at → program c f d n flag s ≡ program c g d n flag s
  unfolding program go_on FarOf
  program-enough d h zero g n flag s x l m = absurd (omega (arith, x.well.here))
  program-enough d h (suc f) zero n flag s x l m = absurd (omega (arith, x.well.here))
  program-enough d h (suc f) (suc g) n flag s x l m =
      branch_same _ _ _ _ _ s (λ p. refl) (λ p. go-on-same (top-far c b ts d h n s x p) (λ o s₁ y. next o s₁ y.far (λ i q z. program-enough d h f g i q s₁ z (omega (arith, y.on)) (omega (arith, y.on)))))
    where
      next : (o : Option Err) (s₁ : St) → FarOf c b ts n o s₁ → ((i : ℕ) (q : Bool) → Far c b ts i s₁ → program c f d i q s₁ ≡ program c g d i q s₁)
          → (elim o as (λ (x : Option Err). M End) [ none ↦ program c f d (suc n) flag | some z ↦ if continuable c z.why then program c f d n true otherwise end_read c n true (some z) ]) s₁
          ≡ (elim o as (λ (x : Option Err). M End) [ none ↦ program c g d (suc n) flag | some z ↦ if continuable c z.why then program c g d n true otherwise end_read c n true (some z) ]) s₁
      next none s₁ y k = k (suc n) flag y
      next (some z) s₁ y k = branch_same _ _ _ _ _ s₁ (λ p. k n true y) (λ p. refl)
