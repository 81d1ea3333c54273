use Rattle.std.proofs.Common.{sym, ◌∙◌}
use Rattle.sifc_tokens.proofs.Greatest.{one, at-end}
use Rattle.sifc_tokens.proofs.call.greatest.Goals as goal

pub loop-b-preserved : goal.loop-b-preserved
loop-b-preserved c = one c.args.s.now c.loop-b.b-index c.loop-b.most c.max-most.result c.loop-b-test.true c.max-most.ensures ∙ c.loop-b.invariant

pub returns : goal.returns
returns c = sym (at-end c.args.s.now c.loop-b.b-index c.loop-b.most c.loop-b-test.false) ∙ c.loop-b.invariant
