use Rattle.std.proofs.Common.{◌+◌, ◌-◌, ◌*◌}
use Rattle.sifc_put.specs.Post.{one}
use Rattle.sifc_put.proofs.Frame.{Part}
use Rattle.sifc_text_stmt.specs.Kinds.{stmts_l, branches_l}
use Rattle.sifc_text_stmt.proofs.writer.+statements.Given as goal

abbrev pub decreases-block : goal.decreases-block
decreases-block l = l.w.now.node * 4

abbrev pub decreases-branch : goal.decreases-branch
decreases-branch l = l.w.now.node * 4 + 1

abbrev pub decreases-branches : goal.decreases-branches
decreases-branches l = l.w.now.node * 4 + 2

abbrev pub decreases-fn_decl : goal.decreases-fn_decl
decreases-fn_decl l = l.w.now.node * 4

abbrev pub decreases-for_stmt : goal.decreases-for_stmt
decreases-for_stmt l = l.w.now.node * 4

abbrev pub decreases-guarded : goal.decreases-guarded
decreases-guarded l = l.w.now.node * 4 + 1

abbrev pub decreases-if_stmt : goal.decreases-if_stmt
decreases-if_stmt l = l.w.now.node * 4

abbrev pub decreases-stmt : goal.decreases-stmt
decreases-stmt l = l.w.now.node * 4 + 1

abbrev pub decreases-stmts : goal.decreases-stmts
decreases-stmts l = l.w.now.node * 4 + 2

abbrev pub invariant-branches-loop : goal.invariant-branches-loop
invariant-branches-loop l = Part (branches_l l.count) (one (branches_l (l.count - l.counter))) l.initial.w l.w

abbrev pub invariant-stmts-loop : goal.invariant-stmts-loop
invariant-stmts-loop l = Part (stmts_l l.count) (one (stmts_l (l.count - l.counter))) l.initial.w l.w
