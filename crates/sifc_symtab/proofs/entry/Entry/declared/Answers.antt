use native.Mathlib.Omega.{arith}
use Rattle.sifc_symtab.proofs.Words.{tag_small}
use Rattle.sifc_symtab.proofs.entry.Entry.declared.Goals as goal

pub overflow_cast-result-3 : goal.overflow_cast-result-3
overflow_cast-result-3 c = omega (arith, c.tag_of-tag.ensures, tag_small c.args.what)
