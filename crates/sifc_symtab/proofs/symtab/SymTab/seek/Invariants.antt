use Rattle.sifc_symtab.specs.Table.{level_at}
use Rattle.sifc_symtab.specs.View.{SeeksIn}
use Rattle.sifc_symtab.proofs.Seek.{reach}
use Rattle.sifc_symtab.proofs.symtab.SymTab.seek.Given as goal

abbrev pub invariant-loop-at : goal.invariant-loop-at
invariant-loop-at l = SeeksIn l.self l.wanted l.prev l.at

abbrev pub decreases-loop-at : goal.decreases-loop-at
decreases-loop-at l = reach (level_at l.self.symbols.now) l.at
