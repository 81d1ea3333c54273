use native.Mathlib.Omega.{arith}
use Prim.Native.Nat.{◌+◌}
use mathlib.Core.Path.{◌≡◌, refl, sym, ap, subst, ◌∙◌}
use Rattle.sifc_lent.specs.Parts.{toks_in}
use Rattle.sifc_record.specs.Record.{blank_from}
use Rattle.sifc_record.proofs.Turn.{Turn, turned, over}
use Rattle.sifc_record.proofs.Lists.{firsts, firsts-more, firsts-none, filled}
use Rattle.sifc_record.proofs.slice.fill.Goals as goal

pub loop-i-init : goal.loop-i-init
loop-i-init c =
    (omega arith, record { front = firsts-none (toks_in c.args.words.toks) c.args.words.places.now c.args.words.reasons.now; back = refl })

pub loop-i-preserved : goal.loop-i-preserved
loop-i-preserved c =
    let ts = toks_in c.args.words.toks in (
      omega (arith, c.loop-i-test.true),
      subst (Turn (firsts ts c.args.words.places.now c.args.words.reasons.now) c.args.errors.now (c.loop-i.i + 1)) (sym c.push.ensures)
          (turned (firsts ts c.args.words.places.now c.args.words.reasons.now) c.args.errors.now c.loop-i.invariant.1 c.record_at-e.result (omega (arith, c.loop-i-test.true, c.loop-i.auto.errors, c.requires.used, c.requires.room))
          (firsts-more ts c.loop-i.i c.args.words.places.now c.args.words.reasons.now c.record_at-e.result (omega (arith, c.loop-i-test.true, c.requires.places)) (omega (arith, c.loop-i-test.true, c.requires.reasons)) c.record_at-e.ensures)),
    )

pub returns : goal.returns
returns c =
    let ts = toks_in c.args.words.toks in
    let e : c.loop-i.i ≡ c.args.n = omega arith in
    c.clear.ensures
    ∙ ap (blank_from c.args.from) (over (firsts ts c.args.words.places.now c.args.words.reasons.now) c.args.errors.now c.loop-i.invariant.1)
    ∙ filled ts c.args.words.places.now c.args.words.reasons.now c.args.n c.args.from c.loop-i.i c.args.errors.now e
