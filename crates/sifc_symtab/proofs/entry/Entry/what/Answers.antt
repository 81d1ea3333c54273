use native.Mathlib.Omega.{arith}
use mathlib.Core.Path.{refl, sym}
use Rattle.sifc_word.specs.Base.{if◌then◌otherwise◌}
use Rattle.sifc_symtab.specs.Table.{what_of}
use Rattle.sifc_symtab.proofs.Values.{what-other}
use Rattle.sifc_symtab.proofs.entry.Entry.what.Goals as goal

pub returns-in-0-clause-is : goal.returns-in-0-clause-is
unfolding what_of if◌then◌otherwise◌
returns-in-0-clause-is c = rw c.in-0.is refl

pub returns-in-1-clause-is : goal.returns-in-1-clause-is
unfolding what_of if◌then◌otherwise◌
returns-in-1-clause-is c = rw c.in-1.is refl

pub returns-in-2-clause-is : goal.returns-in-2-clause-is
unfolding what_of if◌then◌otherwise◌
returns-in-2-clause-is c = rw c.in-2.is refl

pub returns-in-3-clause-is : goal.returns-in-3-clause-is
unfolding what_of if◌then◌otherwise◌
returns-in-3-clause-is c = rw c.in-3.is refl

pub returns-in_default-clause-is : goal.returns-in_default-clause-is
returns-in_default-clause-is c = sym (what-other _ _ (omega arith))
