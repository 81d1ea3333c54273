use Rattle.sifc_symtab.proofs.Hash.{Hashing}
use Rattle.sifc_symtab.proofs.token.hash_of.Given as goal

abbrev pub invariant-loop-b : goal.invariant-loop-b
invariant-loop-b l = Hashing l.s l.hash l.b-index
