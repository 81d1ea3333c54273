use Prim.Native.Nat.{◌-◌, ◌≤◌}
use mathlib.Core.Path.{◌≡◌}
use lib.ListN.{length, drop}
use Rattle.sifc_view.specs.View.{next_of, next_at}
use Rattle.sifc_view.proofs.next.next_at.Given as goal

abbrev pub invariant-loop-n : goal.invariant-loop-n
invariant-loop-n l = (l.at ≤ length l.script) × (next_of l.at (drop l.at l.script) ≡ next_at l.script l.off)

abbrev pub decreases-loop-n : goal.decreases-loop-n
decreases-loop-n l = length l.script - l.at
