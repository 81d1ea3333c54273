use Rattle.std.specs.Prelude.{refl}
use Rattle.std.proofs.Common.{arith, ⊎_elim}
use Rattle.sifc_word.specs.Base.{member}
use Rattle.sifc_def.specs.Expr.{is_literal}
use Rattle.sifc_step.proofs.Tests.{either, not-literal}
use Rattle.sifc_step.proofs.step.is_literal.Goals as goal

pub returns-in-32 : goal.returns-in-32
unfolding is_literal member
returns-in-32 c = ⊎_elim (λ e. rw e refl) (λ e. rw e refl) (either 32 c.args.k (omega arith) (omega arith))

pub returns-in-32-2 : goal.returns-in-32-2
unfolding is_literal member
returns-in-32-2 c = ⊎_elim (λ e. rw e refl) (λ e. rw e refl) (either 44 c.args.k (omega arith) (omega arith))

pub returns-in_default : goal.returns-in_default
returns-in_default c = not-literal c.args.k (λ e. let v : ⊥ = omega arith in v) (λ e. let v : ⊥ = omega arith in v) (λ e. let v : ⊥ = omega arith in v) (λ e. let v : ⊥ = omega arith in v)

pub returns-in_default-2 : goal.returns-in_default-2
returns-in_default-2 c = not-literal c.args.k (λ e. let v : ⊥ = omega arith in v) (λ e. let v : ⊥ = omega arith in v) (λ e. let v : ⊥ = omega arith in v) (λ e. let v : ⊥ = omega arith in v)

pub returns-in_default-3 : goal.returns-in_default-3
returns-in_default-3 c = not-literal c.args.k (λ e. let v : ⊥ = omega arith in v) (λ e. let v : ⊥ = omega arith in v) (λ e. let v : ⊥ = omega arith in v) (λ e. let v : ⊥ = omega arith in v)
