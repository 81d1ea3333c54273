use Rattle.std.proofs.Common.{eq-eqb, ◌∙◌}
use Rattle.sifc_name.proofs.Names.{named-not, named-ident, named-str}
use Rattle.sifc_name.proofs.name.is_named.Goals as goal

pub returns-then-target-ne-PRIMARY_EXPR : goal.returns-then-target-ne-PRIMARY_EXPR
returns-then-target-ne-PRIMARY_EXPR c = named-not c.args.p.now c.args.target c.if-target-ne-PRIMARY_EXPR.true

pub returns-then-k-eq-IDENT : goal.returns-then-k-eq-IDENT
returns-then-k-eq-IDENT c =
    eq-eqb _ 31 c.if-k-eq-IDENT.true ∙ named-ident c.args.p.now c.args.target c.if-target-ne-PRIMARY_EXPR.false c.token_kind-k.ensures c.if-k-eq-IDENT.true

pub returns-else-k-eq-IDENT : goal.returns-else-k-eq-IDENT
returns-else-k-eq-IDENT c = named-str c.args.p.now c.args.target c.if-target-ne-PRIMARY_EXPR.false c.token_kind-k.ensures c.if-k-eq-IDENT.false
