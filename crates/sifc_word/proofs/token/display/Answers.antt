use Rattle.std.proofs.Common.{sym, arith}
use Rattle.sifc_word.proofs.Spelled.{has_none}
use Rattle.sifc_word.proofs.token.display.Goals as goal

pub returns-in_default : goal.returns-in_default
returns-in_default c = sym (has_none c.args.kind (λ a b. omega arith) (λ a b. omega arith))
