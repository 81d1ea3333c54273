use mathlib.Core.Path.{refl}
use lib.ListN.{take-append-drop}
use Rattle.sifc_lent.specs.Parts.{settled_of}
use Rattle.sifc_lent.proofs.PartLaws.{same-arrays}
use Rattle.sifc_lent.proofs.Fronts.{front-mapped}
use Rattle.sifc_read.proofs.finish.settle.Goals as goal

pub returns-clause-settled : goal.returns-clause-settled
unfolding settled_of
returns-clause-settled c = same-arrays (take-append-drop c.args.n c.args.lent.now.offs.now) refl c.keep.ensures c.keep-2.ensures c.clear.ensures (front-mapped _ _ _ _ _ c.requires.within.places c.set_places.ensures c.keep-3.ensures) c.keep-4.ensures
