use Rattle.sifc_lent.specs.Parts.{arrays_of}
use Rattle.sifc_records.proofs.Calls.{entered, read-on, read-not}
use Rattle.sifc_records.proofs.call.read_words.Goals as goal

pub after_entry-requires : goal.after_entry-requires
after_entry-requires c = entered c.args.script.now (arrays_of c.args.lent.now) c.args.records c.entry_records.ensures c.in-Ok.is

pub returns-in-Ok-clause-told : goal.returns-in-Ok-clause-told
returns-in-Ok-clause-told c = read-on c.args.script.now (arrays_of c.args.lent.now) c.args.records c.entry_records.ensures c.in-Ok.is c.told_of.ensures c.after_entry.ensures.answer

pub returns-in-Err-clause-told : goal.returns-in-Err-clause-told
returns-in-Err-clause-told c = read-not c.args.script.now (arrays_of c.args.lent.now) c.args.records c.entry_records.ensures _ c.in-Err.is
