use Rattle.std.proofs.Common.{Err, ◌≡◌, refl, ◌<◌, ap, ℕ, rules, arith, length, lt-ltb, le-ltb}
use Rattle.sifc_err.specs.declared.Refusal.TheVariants.{NotAscii}
use Rattle.sifc_word.specs.Base.{if◌then◌otherwise◌, span}
use Rattle.sifc_lex.specs.Lex.{ascii}
use Rattle.sifc_tokens.specs.Tokens.{check_of}
use Rattle.sifc_tokens.proofs.Greatest.{all_ascii, not_ascii}
use Rattle.sifc_lex.proofs.Tests.{ascii_is}
use Rattle.sifc_tokens.proofs.call.check_script.Goals as goal

pub returns-then-script-gt65535 : goal.returns-then-script-gt65535
unfolding check_of if◌then◌otherwise◌
returns-then-script-gt65535 c = rw (lt-ltb 65535 (length c.args.script.now) c.if-script-gt65535.true) refl

pub returns-then-greatest-lt128 : goal.returns-then-greatest-lt128
unfolding check_of if◌then◌otherwise◌
returns-then-greatest-lt128 c =
    let s = c.args.script.now in
    let a : span ascii s ≡ length s = all_ascii 0 s (rw c.greatest.ensures at c.if-greatest-lt128.true) in
    rw (le-ltb 65535 (length s) c.if-script-gt65535.false) (rw (le-ltb (span ascii s) (length s) (omega (arith, a))) refl)

pub returns : goal.returns
unfolding check_of if◌then◌otherwise◌
returns c =
    let s = c.args.script.now in
    let f : c.run.result ≡ span ascii s = c.run.ensures.run ascii (λ b r h p. search (rules, ascii_is)) in
    let n : span ascii s < length s = not_ascii 0 s (omega arith) (rw c.greatest.ensures at c.if-greatest-lt128.false) in
    rw (le-ltb 65535 (length s) c.if-script-gt65535.false) (rw (lt-ltb (span ascii s) (length s) n) (ap (λ (k : ℕ). Err (NotAscii k)) f))
