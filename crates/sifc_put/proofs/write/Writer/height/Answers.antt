use mathlib.Core.Path.{sym, ◌∙◌}
use Rattle.sifc_put.proofs.Heights.{of-binary, of-eight, of_none}
use Rattle.sifc_put.proofs.write.Writer.height.Goals as goal

pub returns-then-kind-eq-BINARY_EXPR : goal.returns-then-kind-eq-BINARY_EXPR
returns-then-kind-eq-BINARY_EXPR c = of-binary c.args.self.now (sym c.kind-kind.ensures ∙ c.if-kind-eq-BINARY_EXPR.true) c.looseness.ensures

pub returns-then-kind-eq-TABLE_ACCESS : goal.returns-then-kind-eq-TABLE_ACCESS
returns-then-kind-eq-TABLE_ACCESS c = of-eight c.args.self.now c.kind-kind.ensures c.then-kind-eq-TABLE_ACCESS.either

pub returns : goal.returns
returns c = of_none c.args.self.now c.kind-kind.ensures c.if-kind-eq-BINARY_EXPR.false c.if-kind-eq-TABLE_ACCESS.false c.if-kind-eq-ARRAY_MUT_EXPR.false c.if-kind-eq-VAR_ASSIGN_EXPR.false
