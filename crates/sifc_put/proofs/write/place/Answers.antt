use Rattle.std.specs.Prelude.{◌≡◌, List, ℕ, ◌+◌, refl, set, get_or, length}
use Rattle.std.proofs.Common.{arith, ap, ◌∙◌, sym}
use Rattle.std.proofs.Math.Seq.{paste}
use Rattle.std.proofs.lemmas.List.Edits.{paste_none, paste_more}
use Rattle.sifc_put.proofs.Stores.{paste-whole}
use Rattle.sifc_put.proofs.write.place.Goals as goal

pub loop-i-init : goal.loop-i-init
loop-i-init c = paste_none c.args.part.now 0 c.args.word.now

pub loop-i-preserved : goal.loop-i-preserved
loop-i-preserved c =
    ap (λ (l : List ℕ). set l c.loop-i.i (get_or c.args.word.now c.loop-i.i 0)) c.loop-i.invariant
    ∙ ap (λ (k : ℕ). set (paste c.args.part.now 0 c.args.word.now c.loop-i.i) k (get_or c.args.word.now c.loop-i.i 0)) (let z : c.loop-i.i ≡ 0 + c.loop-i.i = omega arith in z)
    ∙ paste_more c.args.part.now 0 c.args.word.now c.loop-i.i 0 (omega (arith, c.requires, c.loop-i-test.true)) c.loop-i-test.true

pub returns : goal.returns
returns c = c.loop-i.invariant ∙ paste-whole c.args.part.now c.args.word.now c.loop-i.i (omega (arith, c.loop-i-test.false, c.loop-i.auto.i-end)) c.requires
