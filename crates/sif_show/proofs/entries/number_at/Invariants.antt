use Prim.Native.Nat.{◌≤◌, ◌<◌}
use mathlib.Core.Path.{◌≡◌}
use lib.ListN.{length, drop}
use Rattle.sif_show.specs.Entries.{number_in, number_at}
use Rattle.sif_show.proofs.entries.number_at.Given as goal

abbrev pub invariant-loop-i : goal.invariant-loop-i
invariant-loop-i l = (l.value ≤ 100005) × (length l.list < l.from → l.i ≡ l.from) × (number_at l.list l.from ≡ number_in l.value l.i (drop l.i l.list))
