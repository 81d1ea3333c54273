use Rattle.std.proofs.Common.{ap}
use Rattle.sifc_view.specs.View.{Stepped, stepped}
use Rattle.sifc_view.specs.declared.next.Lexed.{Lexed}
use Rattle.sifc_view.proofs.view.Lexer.lex.Goals as goal

pub returns : goal.returns
unfolding stepped
returns c =
    let made : Lexed → Stepped = λ r. record { token = r.token; view = record { script = c.args.self.now.script; off = r.next } } in
    ap made c.next_at-found.ensures
