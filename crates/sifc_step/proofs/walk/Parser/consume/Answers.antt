use Rattle.sifc_step.proofs.Small.{consume-stays, consume-moves, consume-faults}
use Rattle.sifc_step.proofs.walk.Parser.consume.Goals as goal
use Rattle.std.proofs.Common.{sym, ◌∙◌}

pub returns-then-kind-eq-EOF : goal.returns-then-kind-eq-EOF
returns-then-kind-eq-EOF c = consume-stays (sym c.kind.ensures ∙ c.if-kind-eq-EOF.true)

pub returns-then-self-next-eq-LEX_PANIC : goal.returns-then-self-next-eq-LEX_PANIC
returns-then-self-next-eq-LEX_PANIC c = consume-faults (λ e. c.if-kind-eq-EOF.false (c.kind.ensures ∙ e)) c.if-self-next-eq-LEX_PANIC.true

pub returns : goal.returns
returns c = consume-moves (λ e. c.if-kind-eq-EOF.false (c.kind.ensures ∙ e)) c.if-self-next-eq-LEX_PANIC.false
