use Rattle.std.proofs.Common.{Some, sym, ap, ◌∙◌, arith}
use Rattle.sifc_deepest.specs.Deepest.{depth_of, deepest_called}
use Rattle.sifc_deepest.proofs.DeepestLaws.{call-zero, call_long, call-small, call-given}
use Rattle.sifc_deepest.proofs.deepest.Goals as goal
use Rattle.sifc_deepest.proofs.deepest.Goals.{then-n-eq0-via-then-n-eq0, then-n-eq0-via-else-n-eq0+then-n-gt255, then-n-eq0-via-else-n-eq0+else-n-gt255+then-script-n}

pub returns-then-n-eq0 : goal.returns-then-n-eq0
returns-then-n-eq0 c =
    elim c.then-n-eq0.branch [
      | then-n-eq0-via-then-n-eq0 w ↦ sym (call-zero _ _ (omega arith))
      | then-n-eq0-via-else-n-eq0+then-n-gt255 w ↦ sym (call_long _ _ (omega arith))
      | then-n-eq0-via-else-n-eq0+else-n-gt255+then-script-n w ↦ sym (call-small _ _ (omega arith))
    ]

pub returns : goal.returns
returns c = ap (deepest_called (Some (depth_of c.args.n))) c.fill.ensures ∙ sym (call-given c.args.n c.args.script.now (omega arith) (omega arith) (omega arith))
