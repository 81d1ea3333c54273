use Rattle.sifc_name.proofs.Names.{token-kind-in, token-kind-past}
use Rattle.sifc_name.proofs.name.token_kind.Goals as goal

pub returns-then-i-p : goal.returns-then-i-p
returns-then-i-p c = token-kind-in c.args.p.now c.args.i c.requires c.if-i-p.true

pub returns : goal.returns
returns c = token-kind-past c.args.p.now c.args.i c.if-i-p.false
