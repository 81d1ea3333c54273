use Prim.Native.Nat.{ℕ}
use native.Mathlib.Omega.{arith}
use mathlib.Core.Path.{sym, ◌∙◌}
use lib.ListN.{length, length-replicate, get_or-replicate}
use lib.Seq.{ext_get_or}
use Rattle.sifc_write.proofs.write.clear_part.Goals as goal

pub returns : goal.returns
returns c =
    let n = length c.args.part.now in
    ext_get_or {A = ℕ} 0 _ _ (omega (arith, length-replicate {A = ℕ} n 0)) (λ k p. c.loop-x.invariant k (omega arith) ∙ sym (get_or-replicate {A = ℕ} n k 0 0 (omega arith)))
