use Rattle.sifc_lent.specs.Parts.{arrays_of}
use Rattle.sifc_read.proofs.Ends.{finished, refused, settles}
use Rattle.sifc_read.proofs.finish.finish.Goals as goal

pub settle-requires : goal.settle-requires
settle-requires c = settles _ _ (arrays_of c.args.lent.now) c.requires c.in-Ok.is

pub clear_all-requires : goal.clear_all-requires
clear_all-requires c = (c.requires.offs, c.requires.words)

pub returns-in-Ok-clause-answer : goal.returns-in-Ok-clause-answer
returns-in-Ok-clause-answer c = finished _ _ (arrays_of c.args.lent.now) c.in-Ok.is c.settle.ensures.settled c.toks.ensures.offs c.toks.ensures.words c.summary_of.ensures

pub returns-in-Err-clause-answer : goal.returns-in-Err-clause-answer
returns-in-Err-clause-answer c = refused _ _ (arrays_of c.args.lent.now) c.in-Err.is c.clear_all.ensures.cleared
