use Rattle.std.proofs.Common.{arith, sym, ◌∙◌}
use Rattle.sifc_step.proofs.Steps.{kept-on}
use Rattle.sifc_block.proofs.Steps.{book-on}
use Rattle.sifc_program.proofs.Programs.{parsing, at-end, refused-at, parsed, noting, fail-ahead, back-all, back-book, gone-on, few-tokens, given-up, stopped-by}
use Rattle.sifc_program.proofs.program.program.Goals as goal

pub loop-before-init : goal.loop-before-init
loop-before-init c = parsing c.requires

pub loop-before-preserved-in-Ok : goal.loop-before-preserved-in-Ok
loop-before-preserved-in-Ok c = parsed c.loop-before.invariant (λ z. c.loop-before-test.true (c.kind.ensures ∙ z)) c.in-Ok.ensures

pub note_failure-requires : goal.note_failure-requires
note_failure-requires c = noting c.loop-before.invariant (λ z. c.loop-before-test.true (c.kind.ensures ∙ z)) (stopped-by c.in-Err-Failed.ensures c.in-Err-Failed.field-0-is)

pub returns-then-not-goes_on : goal.returns-then-not-goes_on
returns-then-not-goes_on c = (
  given-up c.loop-before.invariant (λ z. c.loop-before-test.true (c.kind.ensures ∙ z)) (stopped-by c.in-Err-Failed.ensures c.in-Err-Failed.field-0-is) c.note_failure.ensures.1 (sym c.goes_on.ensures ∙ c.if-not-goes_on.true) c.end_read.result c.end_read.ensures.0 c.end_read.ensures.1,
  kept-on (back-all c.loop-before.invariant (λ z. c.loop-before-test.true (c.kind.ensures ∙ z)) (stopped-by c.in-Err-Failed.ensures c.in-Err-Failed.field-0-is)) c.end_read.ensures.0.kept,
  back-book c.loop-before.invariant (λ z. c.loop-before-test.true (c.kind.ensures ∙ z)) (stopped-by c.in-Err-Failed.ensures c.in-Err-Failed.field-0-is) c.note_failure.ensures.1,
)

pub loop-before-smaller : goal.loop-before-smaller
loop-before-smaller c = omega (arith, few-tokens c.loop-before.invariant, fail-ahead c.loop-before.invariant (λ z. c.loop-before-test.true (c.kind.ensures ∙ z)) (stopped-by c.in-Err-Failed.ensures c.in-Err-Failed.field-0-is))

pub loop-before-preserved : goal.loop-before-preserved
loop-before-preserved c = gone-on c.loop-before.invariant (λ z. c.loop-before-test.true (c.kind.ensures ∙ z)) (stopped-by c.in-Err-Failed.ensures c.in-Err-Failed.field-0-is) c.note_failure.ensures.1 (sym c.goes_on.ensures ∙ c.if-not-goes_on.false)

pub returns-in-Err-Refused : goal.returns-in-Err-Refused
returns-in-Err-Refused c = (
  refused-at c.loop-before.invariant (λ z. c.loop-before-test.true (c.kind.ensures ∙ z)) (stopped-by c.in-Err-Refused.ensures c.in-Err-Refused.field-0-is),
  kept-on c.loop-before.invariant.kept c.in-Err-Refused.ensures.kept,
  book-on c.loop-before.invariant.kept-book c.in-Err-Refused.ensures.book,
)

pub returns : goal.returns
returns c = (
  at-end c.loop-before.invariant (sym c.kind.ensures ∙ c.loop-before-test.false) c.end_read-2.result c.end_read-2.ensures.0 c.end_read-2.ensures.1,
  kept-on c.loop-before.invariant.kept c.end_read-2.ensures.0.kept,
  c.loop-before.invariant.kept-book,
)
