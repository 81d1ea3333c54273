use Rattle.sifc_lent.specs.Parts.{arrays_of}
use Rattle.sifc_lent.proofs.EntryLaws.{entered-is}
use Rattle.sifc_lent.proofs.Fronts.{front-none}
use Rattle.sifc_text.proofs.Calls.{left_is, texts-is, refused-is}
use Rattle.sifc_text.proofs.call.read_and_write.Goals as goal

pub after_entry-requires : goal.after_entry-requires
after_entry-requires c = entered-is c.args.script.now (arrays_of c.args.lent.now) c.requires

pub write_found-requires : goal.write_found-requires
write_found-requires c = left_is c.args.script.now (arrays_of c.args.lent.now) c.after_entry.ensures.answer c.requires c.after_entry.ensures.kept.long c.in-Ok.is

pub returns-in-Ok-clause-texts : goal.returns-in-Ok-clause-texts
returns-in-Ok-clause-texts c = texts-is c.args.script.now (arrays_of c.args.lent.now) c.after_entry.ensures.answer c.requires c.after_entry.ensures.kept.long c.in-Ok.is c.write_found.ensures.texts

pub returns-in-Err-clause-texts : goal.returns-in-Err-clause-texts
returns-in-Err-clause-texts c = refused-is c.args.script.now (arrays_of c.args.lent.now) c.after_entry.ensures.answer c.args.text.now c.in-Err.is (front-none c.args.text.now _ c.clear_from.ensures)
