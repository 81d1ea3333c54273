-- A kind that is known to be there.
use Rattle.std.specs.Prelude.{ℕ, ◌≡◌, Result}
use Rattle.std.proofs.Common.{◌∙◌, sym}
use Rattle.std.proofs.Math.Path.{subst}
use Rattle.sifc_def.specs.State.{Ctx, St, Out}
use Rattle.sifc_step.specs.declared.walk.Parser.{Parser}
use Rattle.sifc_step.specs.declared.walk.Stop.{Stop}
use Rattle.sifc_step.specs.Abs.{here, Does}
use Rattle.sifc_step.specs.Small.{passes_if}
use Rattle.sifc_step.proofs.Small.{passes-one, passes_if-yes}

pub taken : {A : Type 0} {f : Ctx → St → Out A} {p q : Parser} {x : Result A Stop} (ty : ℕ) → here p ≡ ty → (ty ≡ 47 → ⊥) → Does (passes_if ty p) f p x q → Does 1 f p x q
taken {A} {f} {p} {q} {x} ty e ne d = subst (λ (i : ℕ). Does i f p x q) (passes_if-yes ty p e ∙ passes-one p (λ z. ne (sym e ∙ z))) d
