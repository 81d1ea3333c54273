use Rattle.std.proofs.Common.{sym, ◌∙◌}
use Rattle.sifc_step.proofs.Small.{expect-yes, expect-stops, expect-no}
use Rattle.sifc_step.proofs.walk.Parser.expect.Goals as goal

pub returns-then-kind-ty : goal.returns-then-kind-ty
returns-then-kind-ty c = expect-no c.args.ty (λ e. c.if-kind-ty.true (c.kind.ensures ∙ e))

pub returns-in_err-consume : goal.returns-in_err-consume
returns-in_err-consume c = expect-stops (sym c.kind.ensures ∙ c.if-kind-ty.false) c.in_err-consume.ensures c.from_residual.ensures

pub returns : goal.returns
returns c = expect-yes (sym c.kind.ensures ∙ c.if-kind-ty.false) c.in_ok-consume.ensures
