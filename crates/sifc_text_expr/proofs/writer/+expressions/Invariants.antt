use Rattle.std.proofs.Common.{◌+◌, ◌*◌}
use Rattle.sifc_put.specs.Post.{one}
use Rattle.sifc_put.proofs.Frame.{Part}
use Rattle.sifc_text_expr.specs.Kinds.{expr_l}
use Rattle.sifc_text_expr.proofs.writer.+expressions.Given as goal

abbrev pub decreases-call : goal.decreases-call
decreases-call l = l.w.now.node * 8 + 3

abbrev pub decreases-element : goal.decreases-element
decreases-element l = l.w.now.node * 8 + 3

abbrev pub decreases-expr : goal.decreases-expr
decreases-expr l = l.w.now.node * 8 + 5

abbrev pub decreases-exprs : goal.decreases-exprs
decreases-exprs l = l.w.now.node * 8 + 7

abbrev pub decreases-linked : goal.decreases-linked
decreases-linked l = l.w.now.node * 8 + 7

abbrev pub decreases-operand : goal.decreases-operand
decreases-operand l = l.w.now.node * 8 + 6

abbrev pub decreases-simple : goal.decreases-simple
decreases-simple l = l.w.now.node * 8 + 4

abbrev pub decreases-subscript : goal.decreases-subscript
decreases-subscript l = l.w.now.node * 8 + 7

abbrev pub decreases-unary : goal.decreases-unary
decreases-unary l = l.w.now.node * 8 + 3

abbrev pub invariant-expr-loop-hi : goal.invariant-expr-loop-hi
invariant-expr-loop-hi l = Part expr_l (one expr_l) l.initial.w l.w

abbrev pub decreases-expr-loop-hi : goal.decreases-expr-loop-hi
decreases-expr-loop-hi l = l.w.node

abbrev pub decreases-exprs-list : goal.decreases-exprs-list
decreases-exprs-list l = l.w.now.node * 8 + 6
