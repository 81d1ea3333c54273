use Rattle.std.specs.Prelude.{refl}
use Rattle.std.proofs.Common.{ne_eqb}
use Rattle.sifc_def.specs.Expr.{is_unary}
use Rattle.sifc_step.proofs.step.is_unary.Goals as goal

pub returns-then-k-eq-BANG : goal.returns-then-k-eq-BANG
unfolding is_unary
returns-then-k-eq-BANG c = rw c.if-k-eq-BANG.true refl

pub returns-else-k-eq-BANG : goal.returns-else-k-eq-BANG
unfolding is_unary
returns-else-k-eq-BANG c = rw (ne_eqb c.args.k 13 c.if-k-eq-BANG.false) refl
