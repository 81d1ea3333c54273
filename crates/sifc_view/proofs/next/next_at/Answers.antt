use mathlib.Core.Path.{sym, ◌∙◌}
use native.Mathlib.Omega.{arith}
use Rattle.sifc_view.proofs.ViewLaws.{next_start, next-skip, next_word, next-stopped, skip-in, word_in, stop-in}
use Rattle.sifc_view.proofs.next.next_at.Goals as goal

pub loop-n-init : goal.loop-n-init
loop-n-init c = next_start _ _ _ c.min-at.ensures

pub overflow_add-at : goal.overflow_add-at
overflow_add-at c =
    let e = sym c.step_at.ensures ∙ c.in-Skip.is in
    let b = skip-in c.args.script.now c.loop-n.at _ e c.loop-n.invariant.0 in
    record { fits = omega (arith, b.1) }

pub loop-n-smaller : goal.loop-n-smaller
loop-n-smaller c =
    let e = sym c.step_at.ensures ∙ c.in-Skip.is in
    let b = skip-in c.args.script.now c.loop-n.at _ e c.loop-n.invariant.0 in
    omega (arith, b.0, b.1)

pub loop-n-preserved : goal.loop-n-preserved
loop-n-preserved c =
    let e = sym c.step_at.ensures ∙ c.in-Skip.is in
    let b = skip-in c.args.script.now c.loop-n.at _ e c.loop-n.invariant.0 in
    (b.1, sym (next-skip c.args.script.now c.loop-n.at _ e) ∙ c.loop-n.invariant.1)

pub overflow_add-result : goal.overflow_add-result
overflow_add-result c =
    let e = sym c.step_at.ensures ∙ c.in-Word.is in
    let b = word_in c.args.script.now c.loop-n.at _ _ e c.loop-n.invariant.0 in
    record { fits = omega (arith, b.1) }

pub returns-in-Word : goal.returns-in-Word
returns-in-Word c =
    let e = sym c.step_at.ensures ∙ c.in-Word.is in
    sym (next_word c.args.script.now c.loop-n.at _ _ e) ∙ c.loop-n.invariant.1

pub overflow_add-result-in-Stop : goal.overflow_add-result-in-Stop
overflow_add-result-in-Stop c =
    let e = sym c.step_at.ensures ∙ c.in-Stop.is in
    record { fits = omega (arith, stop-in c.args.script.now c.loop-n.at _ _ e c.loop-n.invariant.0) }

pub returns-in-Stop : goal.returns-in-Stop
returns-in-Stop c =
    let e = sym c.step_at.ensures ∙ c.in-Stop.is in
    next-stopped c.args.script.now c.loop-n.at _ _ _ c.end_kind.ensures e ∙ c.loop-n.invariant.1
