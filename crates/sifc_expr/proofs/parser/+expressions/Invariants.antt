use Rattle.std.proofs.Common.{◌*◌, ◌+◌, ◌-◌, length}
use Rattle.sifc_step.proofs.Loops.{Looping}
use Rattle.sifc_expr.proofs.Levels.{From, Turns}
use Rattle.sifc_expr.proofs.parser.+expressions.Given as goal

abbrev pub decreases-add_or_sub_expr : goal.decreases-add_or_sub_expr
decreases-add_or_sub_expr l = l.depth * 32 + 14

abbrev pub decreases-and_expr : goal.decreases-and_expr
decreases-and_expr l = l.depth * 32 + 23

abbrev pub decreases-assign_expr : goal.decreases-assign_expr
decreases-assign_expr l = l.depth * 32

abbrev pub decreases-level_below : goal.decreases-level_below
decreases-level_below l = l.depth * 32 + 3 * l.n + 3

abbrev pub decreases-call : goal.decreases-call
decreases-call l = l.depth * 32 + 2

abbrev pub decreases-compr_expr : goal.decreases-compr_expr
decreases-compr_expr l = l.depth * 32 + 17

abbrev pub decreases-dot : goal.decreases-dot
decreases-dot l = l.depth * 32 + 1

abbrev pub decreases-equality_expr : goal.decreases-equality_expr
decreases-equality_expr l = l.depth * 32 + 20

abbrev pub decreases-fn_call_expr : goal.decreases-fn_call_expr
decreases-fn_call_expr l = l.depth * 32

abbrev pub decreases-group_expr : goal.decreases-group_expr
decreases-group_expr l = l.depth * 32 + 1

abbrev pub decreases-index : goal.decreases-index
decreases-index l = l.depth * 32 + 1

abbrev pub decreases-level : goal.decreases-level
decreases-level l = l.depth * 32 + 3 * l.n + 4

abbrev pub decreases-mod_expr : goal.decreases-mod_expr
decreases-mod_expr l = l.depth * 32 + 8

abbrev pub decreases-mul_or_div_expr : goal.decreases-mul_or_div_expr
decreases-mul_or_div_expr l = l.depth * 32 + 11

abbrev pub decreases-or_expr : goal.decreases-or_expr
decreases-or_expr l = l.depth * 32 + 26

abbrev pub decreases-call-param_list : goal.decreases-call-param_list
decreases-call-param_list l = l.depth * 32 + 1

abbrev pub decreases-primary_expr : goal.decreases-primary_expr
decreases-primary_expr l = l.depth * 32 + 2

abbrev pub decreases-unary_expr : goal.decreases-unary_expr
decreases-unary_expr l = l.depth * 32 + 3

abbrev pub invariant-level-loop-depth : goal.invariant-level-loop-depth
invariant-level-loop-depth l = Looping (From l.n l.depth) (Turns l.n l.depth) l.fn.p l.p

abbrev pub decreases-level-loop-depth : goal.decreases-level-loop-depth
decreases-level-loop-depth l = length l.fn.p.words.now - l.p.at
