use Prim.Native.Nat.{ℕ}
use mathlib.Core.Path.{◌∙◌, ap}
use mathlib.Core.List.{List}
use mathlib.Core.Option.{some}
use Rattle.sifc_def.specs.Symbols.{find}
use Rattle.sifc_symtab.specs.Table.{sym_at, listed, syms_of, found_of}
use Rattle.sifc_symtab.specs.Entry.{what_in}
use Rattle.sifc_symtab.specs.View.{syms}
use Rattle.sifc_symtab.proofs.Levels.{found-best, found_none}
use Rattle.sifc_symtab.proofs.symtab.SymTab.retrieve.Goals as goal

pub returns-clause-found : goal.returns-clause-found
unfolding syms_of sym_at
returns-clause-found c = ap some (c.what.ensures.is ∙ ap what_in c.read.ensures) ∙ found-best (syms c.args.self.now) c.args.self.now.stored c.args.level c.name-name.result.now c.in_ok-k.k c.in_ok-k.ensures ∙ ap (λ (s : List ℕ). find c.args.level s (listed (syms c.args.self.now) 0 c.args.self.now.stored)) c.name-name.ensures

pub returns-in_err-k-clause-found : goal.returns-in_err-k-clause-found
unfolding syms_of sym_at
returns-in_err-k-clause-found c = ap found_of c.from_residual.ensures ∙ found_none (syms c.args.self.now) c.args.self.now.stored c.args.level c.name-name.result.now c.in_err-k.ensures ∙ ap (λ (s : List ℕ). find c.args.level s (listed (syms c.args.self.now) 0 c.args.self.now.stored)) c.name-name.ensures
