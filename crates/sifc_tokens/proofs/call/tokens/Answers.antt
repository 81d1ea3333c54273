use Rattle.std.proofs.Common.{◌≡◌, ◌∙◌, ap, sym, ℕ, Err, Result, rules}
use Rattle.sifc_err.specs.declared.Refusal.{Refusal}
use Rattle.sifc_tokens.specs.Tokens.{tokens_called, answer_of}
use Rattle.sifc_tokens.proofs.Calls.{call-fine, call-refused}
use Rattle.sifc_tokens.proofs.call.tokens.Goals as goal

pub returns-in_err-check_script : goal.returns-in_err-check_script
returns-in_err-check_script c =
    let e : c.from_residual.result ≡ Err c.in_err-check_script.field-0.0 = search rules in
    ap (λ (x : Result ℕ Refusal). tokens_called (answer_of x) c.args.offs.now c.args.words.now) e
    ∙ call-refused c.args.script.now c.args.offs.now c.args.words.now _ (sym c.check_script.ensures ∙ c.in_err-check_script.was)

pub after_entry-requires : goal.after_entry-requires
after_entry-requires c = (call-fine c.args.script.now c.args.offs.now c.args.words.now (sym c.check_script.ensures ∙ c.in_ok-check_script.was)).0

pub returns : goal.returns
returns c = c.after_entry.ensures ∙ (call-fine c.args.script.now c.args.offs.now c.args.words.now (sym c.check_script.ensures ∙ c.in_ok-check_script.was)).1
