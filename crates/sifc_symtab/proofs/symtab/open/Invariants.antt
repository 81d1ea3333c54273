use Rattle.sifc_symtab.proofs.Words.{Opening}
use Rattle.sifc_symtab.proofs.symtab.open.Given as goal

abbrev pub invariant-loop-b : goal.invariant-loop-b
invariant-loop-b l = Opening l.words l.initial.symbols l.symbols l.b
