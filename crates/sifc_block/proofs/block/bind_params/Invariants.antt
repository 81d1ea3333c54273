use Rattle.std.proofs.Common.{◌+◌, ◌-◌, ◌≤◌, ◌≡◌}
use Rattle.sifc_block.specs.Bound.{between}
use Rattle.sifc_block.proofs.Bindings.{Binding}
use Rattle.sifc_block.proofs.block.bind_params.Given as goal

abbrev pub invariant-loop-k : goal.invariant-loop-k
invariant-loop-k l =
    Binding l.tokens.script.now l.tokens.offs.now l.tokens.words.now l.initial.symbols l.stored l.level (between l.load l.first l.count) (between l.load l.k (l.k-end - l.k)) l.symbols l.n
    × (l.k ≤ l.k-end) × (l.k-end ≡ l.first + l.count)
