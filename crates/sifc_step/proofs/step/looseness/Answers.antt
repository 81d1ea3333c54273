use Rattle.std.specs.Prelude.{refl}
use Rattle.std.proofs.Common.{arith, ⊎_elim}
use Rattle.sifc_word.specs.Base.{if◌then◌otherwise◌, member}
use Rattle.sifc_def.specs.Expr.{looseness}
use Rattle.sifc_step.proofs.Tests.{either, loose-none}
use Rattle.sifc_step.proofs.step.looseness.Goals as goal

pub returns-in-18 : goal.returns-in-18
unfolding looseness member if◌then◌otherwise◌
returns-in-18 c = rw c.in-18.is refl

pub returns-in-22 : goal.returns-in-22
unfolding looseness member if◌then◌otherwise◌
returns-in-22 c = rw c.in-22.is refl

pub returns-in-26 : goal.returns-in-26
unfolding looseness member if◌then◌otherwise◌
returns-in-26 c = rw c.in-26.is refl

pub returns-in-27 : goal.returns-in-27
unfolding looseness member if◌then◌otherwise◌
returns-in-27 c = rw c.in-27.is refl

pub returns-in-28 : goal.returns-in-28
unfolding looseness member if◌then◌otherwise◌
returns-in-28 c = rw c.in-28.is refl

pub returns-in-9 : goal.returns-in-9
unfolding looseness member if◌then◌otherwise◌
returns-in-9 c = ⊎_elim (λ e. rw e refl) (λ e. rw e refl) (either 9 c.args.k (omega arith) (omega arith))

pub returns-in-14 : goal.returns-in-14
unfolding looseness member if◌then◌otherwise◌
returns-in-14 c = ⊎_elim (λ e. rw e refl) (λ e. rw e refl) (either 14 c.args.k (omega arith) (omega arith))

pub returns-in-16 : goal.returns-in-16
unfolding looseness member if◌then◌otherwise◌
returns-in-16 c = ⊎_elim (λ e. rw e refl) (λ e. rw e refl) (either 16 c.args.k (omega arith) (omega arith))

pub returns-in-23 : goal.returns-in-23
unfolding looseness member if◌then◌otherwise◌
returns-in-23 c = ⊎_elim (λ e. rw e refl) (λ e. rw e refl) (either 23 c.args.k (omega arith) (omega arith))

pub returns-in_default : goal.returns-in_default
returns-in_default c = loose-none c.args.k (λ e. let v : ⊥ = omega arith in v) (λ e. let v : ⊥ = omega arith in v) (λ e. let v : ⊥ = omega arith in v) (λ e. let v : ⊥ = omega arith in v) (λ e. let v : ⊥ = omega arith in v) (λ e. let v : ⊥ = omega arith in v) (λ e. let v : ⊥ = omega arith in v) (λ e. let v : ⊥ = omega arith in v) (λ e. let v : ⊥ = omega arith in v) (λ e. let v : ⊥ = omega arith in v) (λ e. let v : ⊥ = omega arith in v) (λ e. let v : ⊥ = omega arith in v) (λ e. let v : ⊥ = omega arith in v)

pub returns-in_default-2 : goal.returns-in_default-2
returns-in_default-2 c = loose-none c.args.k (λ e. let v : ⊥ = omega arith in v) (λ e. let v : ⊥ = omega arith in v) (λ e. let v : ⊥ = omega arith in v) (λ e. let v : ⊥ = omega arith in v) (λ e. let v : ⊥ = omega arith in v) (λ e. let v : ⊥ = omega arith in v) (λ e. let v : ⊥ = omega arith in v) (λ e. let v : ⊥ = omega arith in v) (λ e. let v : ⊥ = omega arith in v) (λ e. let v : ⊥ = omega arith in v) (λ e. let v : ⊥ = omega arith in v) (λ e. let v : ⊥ = omega arith in v) (λ e. let v : ⊥ = omega arith in v)

pub returns-in_default-3 : goal.returns-in_default-3
returns-in_default-3 c = loose-none c.args.k (λ e. let v : ⊥ = omega arith in v) (λ e. let v : ⊥ = omega arith in v) (λ e. let v : ⊥ = omega arith in v) (λ e. let v : ⊥ = omega arith in v) (λ e. let v : ⊥ = omega arith in v) (λ e. let v : ⊥ = omega arith in v) (λ e. let v : ⊥ = omega arith in v) (λ e. let v : ⊥ = omega arith in v) (λ e. let v : ⊥ = omega arith in v) (λ e. let v : ⊥ = omega arith in v) (λ e. let v : ⊥ = omega arith in v) (λ e. let v : ⊥ = omega arith in v) (λ e. let v : ⊥ = omega arith in v)

pub returns-in_default-4 : goal.returns-in_default-4
returns-in_default-4 c = loose-none c.args.k (λ e. let v : ⊥ = omega arith in v) (λ e. let v : ⊥ = omega arith in v) (λ e. let v : ⊥ = omega arith in v) (λ e. let v : ⊥ = omega arith in v) (λ e. let v : ⊥ = omega arith in v) (λ e. let v : ⊥ = omega arith in v) (λ e. let v : ⊥ = omega arith in v) (λ e. let v : ⊥ = omega arith in v) (λ e. let v : ⊥ = omega arith in v) (λ e. let v : ⊥ = omega arith in v) (λ e. let v : ⊥ = omega arith in v) (λ e. let v : ⊥ = omega arith in v) (λ e. let v : ⊥ = omega arith in v)
