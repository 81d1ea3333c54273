use Rattle.std.proofs.Common.{◌≡◌, drop}
use Rattle.sifc_lex.specs.Bytes.{greatest_from}
use Rattle.sifc_tokens.proofs.call.greatest.Given as goal

abbrev pub invariant-loop-b : goal.invariant-loop-b
invariant-loop-b l = greatest_from l.most (drop l.b-index l.s) ≡ greatest_from 0 l.s
