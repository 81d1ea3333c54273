use Prim.Native.Nat.{◌-◌}
use lib.ListN.{length}
use Rattle.sifc_tokens.proofs.Loading.{Loading}
use Rattle.sifc_tokens.proofs.call.lex_all.Given as goal

abbrev pub invariant-loop-k : goal.invariant-loop-k
invariant-loop-k l = Loading l.script l.initial.offs l.initial.words l.offs l.words l.at l.n

abbrev pub decreases-loop-k : goal.decreases-loop-k
decreases-loop-k l = length l.script - l.at
