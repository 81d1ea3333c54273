use Rattle.std.proofs.Common.{ap}
use Rattle.sifc_view.specs.View.{Stepped, stepped}
use Rattle.sifc_view.specs.declared.next.Lexed.{Lexed}
use Rattle.sifc_view.proofs.view.token_from.Goals as goal

pub returns : goal.returns
unfolding stepped
returns c =
    let read : Stepped → Lexed = λ s. record { token = s.token; next = s.view.off } in
    ap read c.lex-token.ensures
