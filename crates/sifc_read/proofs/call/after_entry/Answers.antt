use mathlib.Core.Path.{sym}
use lib.ListN.{take-append-drop}
use lib.Seq.{length-take-le}
use Rattle.sifc_lent.specs.Parts.{arrays_of}
use Rattle.sifc_read.proofs.Calls.{loaded, over, in-offs, in_words, starts, fits, walked, none-used, full}
use Rattle.sifc_read.proofs.call.after_entry.Goals as goal

pub clear_all-requires : goal.clear_all-requires
clear_all-requires c = none-used (over _ _ _ c.lex_tokens-lexed.ensures c.in_default.is)

pub returns-in_default-clause-answer : goal.returns-in_default-clause-answer
returns-in_default-clause-answer c = full _ (arrays_of c.args.lent.now) (over _ _ _ c.lex_tokens-lexed.ensures c.in_default.is) c.clear_all.ensures.cleared

pub slice_bounds-parse-end : goal.slice_bounds-parse-end
slice_bounds-parse-end c = in-offs (loaded _ _ _ c.lex_tokens-lexed.ensures c.in-Ok.is) c.lex_tokens-lexed.auto.offs

pub slice_bounds-parse-end-2 : goal.slice_bounds-parse-end-2
slice_bounds-parse-end-2 c = sym (length-take-le _ _ (in-offs (loaded _ _ _ c.lex_tokens-lexed.ensures c.in-Ok.is) c.lex_tokens-lexed.auto.offs))

pub slice_bounds-parse-end-3 : goal.slice_bounds-parse-end-3
slice_bounds-parse-end-3 c = in_words (loaded _ _ _ c.lex_tokens-lexed.ensures c.in-Ok.is) c.lex_tokens-lexed.auto.words c.requires.tokens

pub slice_bounds-parse-end-4 : goal.slice_bounds-parse-end-4
slice_bounds-parse-end-4 c = sym (length-take-le _ _ (in_words (loaded _ _ _ c.lex_tokens-lexed.ensures c.in-Ok.is) c.lex_tokens-lexed.auto.words c.requires.tokens))

pub parse-walked-requires : goal.parse-walked-requires
parse-walked-requires c = starts _ (arrays_of c.args.lent.now) c.requires (loaded _ _ _ c.lex_tokens-lexed.ensures c.in-Ok.is)

pub finish-requires : goal.finish-requires
finish-requires c = fits _ (arrays_of c.args.lent.now) c.requires (loaded _ _ _ c.lex_tokens-lexed.ensures c.in-Ok.is) _ c.fault_of.ensures _ _ _ _ _ _ _ (take-append-drop _ _) (take-append-drop _ _) _ c.parse-walked.auto.head c.parse-walked.auto.load c.parse-walked.auto.symbols c.parse-walked.auto.places c.parse-walked.auto.reasons c.parse-walked.ensures

pub returns-clause-answer : goal.returns-clause-answer
returns-clause-answer c = walked _ (arrays_of c.args.lent.now) c.requires (loaded _ _ _ c.lex_tokens-lexed.ensures c.in-Ok.is) _ c.fault_of.ensures _ _ _ _ _ _ _ (take-append-drop _ _) (take-append-drop _ _) _ c.parse-walked.auto.head c.parse-walked.auto.load c.parse-walked.auto.symbols c.parse-walked.auto.places c.parse-walked.auto.reasons c.parse-walked.ensures c.finish.ensures.answer
