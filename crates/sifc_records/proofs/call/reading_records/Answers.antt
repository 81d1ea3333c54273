use Rattle.sifc_lent.specs.Parts.{arrays_of}
use Rattle.sifc_records.proofs.Whole.{can-fill, whole}
use Rattle.sifc_records.proofs.call.reading_records.Goals as goal

pub error_words-words-requires : goal.error_words-words-requires
error_words-words-requires c =
    let d = can-fill c.args.script.now (arrays_of c.args.lent.now) c.args.errors.now c.read_words-told.result (arrays_of c.read_words-told.new.lent) c.read_words-told.ensures.told in
    record { offs = d.offs; words = d.words }

pub fill-requires : goal.fill-requires
fill-requires c =
    let w = c.error_words-words.ensures in
    let d = can-fill c.args.script.now (arrays_of c.args.lent.now) c.args.errors.now c.read_words-told.result (arrays_of c.read_words-told.new.lent) c.read_words-told.ensures.told in
    rw (w.places, w.reasons) d.fills

pub returns : goal.returns
returns c =
    let w = c.error_words-words.ensures in
    (c.read_words-told.ensures.kept, whole c.args.script.now (arrays_of c.args.lent.now) c.args.errors.now c.read_words-told.result (arrays_of c.read_words-told.new.lent) c.read_words-told.ensures.told c.fill.ensures w.toks w.places w.reasons)
