use Rattle.std.proofs.Common.{◌∙◌, sym, ◌<◌, get_or, arith, add-one}
use Rattle.sifc_word.specs.BaseLaws.{span-at-yes, span-at-no, span-at-end}
use Rattle.sifc_lex.proofs.lex.run.Goals as goal

pub returns-then-not-passes-clause-run : goal.returns-then-not-passes-clause-run
returns-then-not-passes-clause-run g c = λ test h.
    let byte : get_or c.args.s.now c.loop-n.n 0 < 256 = omega (arith, c.type_inv.s c.loop-n.n) in
    let e = sym (h _ _ byte c.passes.ensures) ∙ c.if-not-passes.true in
    let z = span-at-no test c.args.s.now c.loop-n.n c.loop-n-test.true e in
    omega (arith, c.loop-n.invariant test h)

pub loop-n-preserved : goal.loop-n-preserved
loop-n-preserved g c = λ test h.
    let byte : get_or c.args.s.now c.loop-n.n 0 < 256 = omega (arith, c.type_inv.s c.loop-n.n) in
    let e = sym (h _ _ byte c.passes.ensures) ∙ c.if-not-passes.false in
    let z = span-at-yes test c.args.s.now c.loop-n.n c.loop-n-test.true e in
    rw add-one (omega (arith, c.loop-n.invariant test h))

pub returns-clause-run : goal.returns-clause-run
returns-clause-run g c = λ test h.
    let z = span-at-end test c.args.s.now c.loop-n.n c.loop-n-test.false in
    omega (arith, c.loop-n.invariant test h)
