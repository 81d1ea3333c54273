use Rattle.sifc_symtab.proofs.Hash.{hashing-none, hashing-more, hashing-end}
use Rattle.sifc_symtab.proofs.token.hash_of.Goals as goal

pub loop-b-init : goal.loop-b-init
loop-b-init c = hashing-none _

pub loop-b-preserved : goal.loop-b-preserved
loop-b-preserved c = hashing-more c.loop-b.invariant c.loop-b-test.true

pub returns : goal.returns
returns c = hashing-end c.loop-b.invariant c.loop-b-test.false
