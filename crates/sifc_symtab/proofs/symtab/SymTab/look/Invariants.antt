use Prim.Native.Nat.{min}
use Rattle.sifc_symtab.specs.Seek.{Finds}
use Rattle.sifc_symtab.specs.View.{syms}
use Rattle.sifc_symtab.proofs.symtab.SymTab.look.Given as goal

abbrev pub invariant-loop-k : goal.invariant-loop-k
invariant-loop-k l = Finds (syms l.self) l.wanted.low l.wanted.high l.wanted.name.now (min l.self.stored l.k) l.best
