use native.Mathlib.Omega.{arith}
use mathlib.Core.Path.{sym, ◌∙◌}
use Rattle.sifc_tokens.proofs.Loading.{loading-none, skip-bounds, word-bounds, stop-bounds, loading-skip, loading-word, loading-stop, end-small, full-word, full-stop}
use Rattle.sifc_tokens.proofs.call.lex_all.Goals as goal

pub loop-k-init : goal.loop-k-init
loop-k-init c = loading-none c.args.script.now c.args.offs.now c.args.words.now c.requires.1

pub step_at-st-requires : goal.step_at-st-requires
step_at-st-requires c = c.loop-k.invariant.in-script

pub overflow_add-at : goal.overflow_add-at
overflow_add-at c =
    let b = skip-bounds c.args.script.now c.loop-k.at _ c.loop-k.invariant.in-script (sym c.step_at-st.ensures ∙ c.in-Skip.is) in
    omega (arith, c.requires.0)

pub loop-k-smaller-in-Skip : goal.loop-k-smaller-in-Skip
loop-k-smaller-in-Skip c =
    let b = skip-bounds c.args.script.now c.loop-k.at _ c.loop-k.invariant.in-script (sym c.step_at-st.ensures ∙ c.in-Skip.is) in
    omega arith

pub loop-k-preserved-in-Skip : goal.loop-k-preserved-in-Skip
loop-k-preserved-in-Skip c = loading-skip c.args.script.now c.args.offs.now c.args.words.now c.loop-k.offs c.loop-k.words c.loop-k.at c.loop-k.n c.loop-k.invariant _ (sym c.step_at-st.ensures ∙ c.in-Skip.is)

pub shape_of-offs-then-offs-n : goal.shape_of-offs-then-offs-n
shape_of-offs-then-offs-n c = c.loop-k.invariant.long-offs

pub shape_of-words-then-offs-n : goal.shape_of-words-then-offs-n
shape_of-words-then-offs-n c = c.loop-k.invariant.long-words

pub returns-then-offs-n : goal.returns-then-offs-n
returns-then-offs-n c = full-word c.args.script.now c.args.offs.now c.args.words.now c.loop-k.offs c.loop-k.words c.loop-k.at c.loop-k.n c.loop-k.invariant _ _ (sym c.step_at-st.ensures ∙ c.in-Word.is) c.if-offs-n.true

pub put-requires : goal.put-requires
put-requires c =
    let b = word-bounds c.args.script.now c.loop-k.at _ _ c.loop-k.invariant.in-script (sym c.step_at-st.ensures ∙ c.in-Word.is) in
    record { n_in_bounds = (c.if-offs-n.false, omega (arith, c.if-offs-n.false, c.loop-k.invariant.even)); kind_bound = (omega arith, omega (arith, c.requires.0), omega (arith, c.requires.0)) }

pub overflow_add-n : goal.overflow_add-n
overflow_add-n c = omega (arith, c.if-offs-n.false, c.loop-k.invariant.long-offs)

pub overflow_add-at-in-Word : goal.overflow_add-at-in-Word
overflow_add-at-in-Word c =
    let b = word-bounds c.args.script.now c.loop-k.at _ _ c.loop-k.invariant.in-script (sym c.step_at-st.ensures ∙ c.in-Word.is) in
    omega (arith, c.requires.0)

pub loop-k-smaller : goal.loop-k-smaller
loop-k-smaller c =
    let b = word-bounds c.args.script.now c.loop-k.at _ _ c.loop-k.invariant.in-script (sym c.step_at-st.ensures ∙ c.in-Word.is) in
    omega arith

pub loop-k-preserved : goal.loop-k-preserved
loop-k-preserved c = loading-word c.args.script.now c.args.offs.now c.args.words.now c.loop-k.offs c.loop-k.words c.loop-k.at c.loop-k.n c.loop-k.invariant _ _ (sym c.step_at-st.ensures ∙ c.in-Word.is) c.if-offs-n.false _ _ c.put.ensures.offs_after c.put.ensures.words_after

pub overflow_add-at-then-n-offs : goal.overflow_add-at-then-n-offs
overflow_add-at-then-n-offs c =
    let b = stop-bounds c.args.script.now c.loop-k.at _ _ c.loop-k.invariant.in-script (sym c.step_at-st.ensures ∙ c.in-Stop.is) in
    omega (arith, c.requires.0)

pub put-requires-then-n-offs : goal.put-requires-then-n-offs
put-requires-then-n-offs c =
    let b = stop-bounds c.args.script.now c.loop-k.at _ _ c.loop-k.invariant.in-script (sym c.step_at-st.ensures ∙ c.in-Stop.is) in
    record { n_in_bounds = (c.if-n-offs.true, omega (arith, c.if-n-offs.true, c.loop-k.invariant.even)); kind_bound = (rw c.end_kind.ensures (end-small _), omega (arith, c.requires.0), omega arith) }

pub overflow_add-result : goal.overflow_add-result
overflow_add-result c = omega (arith, c.if-n-offs.true, c.loop-k.invariant.long-offs)

pub overflow_add-result-then-n-offs : goal.overflow_add-result-then-n-offs
overflow_add-result-then-n-offs c =
    let b = stop-bounds c.args.script.now c.loop-k.at _ _ c.loop-k.invariant.in-script (sym c.step_at-st.ensures ∙ c.in-Stop.is) in
    omega (arith, c.requires.0)

pub shape_of-offs-then-n-offs : goal.shape_of-offs-then-n-offs
shape_of-offs-then-n-offs c = (loading-stop c.args.script.now c.args.offs.now c.args.words.now c.loop-k.offs c.loop-k.words c.loop-k.at c.loop-k.n c.loop-k.invariant _ _ _ (sym c.step_at-st.ensures ∙ c.in-Stop.is) c.if-n-offs.true c.end_kind.ensures _ _ c.put-then-n-offs.ensures.offs_after c.put-then-n-offs.ensures.words_after).long-offs

pub shape_of-words-then-n-offs : goal.shape_of-words-then-n-offs
shape_of-words-then-n-offs c = (loading-stop c.args.script.now c.args.offs.now c.args.words.now c.loop-k.offs c.loop-k.words c.loop-k.at c.loop-k.n c.loop-k.invariant _ _ _ (sym c.step_at-st.ensures ∙ c.in-Stop.is) c.if-n-offs.true c.end_kind.ensures _ _ c.put-then-n-offs.ensures.offs_after c.put-then-n-offs.ensures.words_after).long-words

pub returns-then-n-offs : goal.returns-then-n-offs
returns-then-n-offs c = loading-stop c.args.script.now c.args.offs.now c.args.words.now c.loop-k.offs c.loop-k.words c.loop-k.at c.loop-k.n c.loop-k.invariant _ _ _ (sym c.step_at-st.ensures ∙ c.in-Stop.is) c.if-n-offs.true c.end_kind.ensures _ _ c.put-then-n-offs.ensures.offs_after c.put-then-n-offs.ensures.words_after

pub shape_of-offs-in-Stop : goal.shape_of-offs-in-Stop
shape_of-offs-in-Stop c = c.loop-k.invariant.long-offs

pub shape_of-words-in-Stop : goal.shape_of-words-in-Stop
shape_of-words-in-Stop c = c.loop-k.invariant.long-words

pub returns-in-Stop : goal.returns-in-Stop
returns-in-Stop c = full-stop c.args.script.now c.args.offs.now c.args.words.now c.loop-k.offs c.loop-k.words c.loop-k.at c.loop-k.n c.loop-k.invariant _ _ (sym c.step_at-st.ensures ∙ c.in-Stop.is) c.if-n-offs.false
