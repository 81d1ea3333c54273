use Rattle.std.proofs.Common.{◌≡◌, ◌∙◌, ap, ℕ, Err, Result, rules}
use Rattle.sifc_err.specs.declared.Refusal.{Refusal}
use Rattle.sifc_tokens.specs.Tokens.{tokens_called, answer_of}
use Rattle.sifc_tokens.proofs.Calls.{entry-uneven, entry-ended, entry-used, entry-full}
use Rattle.sifc_tokens.proofs.call.after_entry.Goals as goal

pub returns-then-offs-words : goal.returns-then-offs-words
returns-then-offs-words c = entry-uneven c.args.script.now c.args.offs.now c.args.words.now c.if-offs-words.true

pub returns-in_err-ended : goal.returns-in_err-ended
returns-in_err-ended c =
    let e : c.from_residual.result ≡ Err c.in_err-ended.field-0.0 = search rules in
    ap (λ (x : Result ℕ Refusal). tokens_called (answer_of x) c.lex_tokens.new.offs c.lex_tokens.new.words) e
    ∙ entry-full c.args.script.now c.args.offs.now c.args.words.now _ _ _ c.if-offs-words.false c.lex_tokens.ensures _ c.in_err-ended.was

pub by_ending-requires : goal.by_ending-requires
by_ending-requires c = entry-used c.args.script.now c.args.offs.now c.args.words.now _ _ _ c.if-offs-words.false c.lex_tokens.ensures _ c.in_ok-ended.was

pub returns : goal.returns
returns c = c.by_ending.ensures ∙ entry-ended c.args.script.now c.args.offs.now c.args.words.now _ _ _ c.if-offs-words.false c.lex_tokens.ensures _ c.in_ok-ended.was
