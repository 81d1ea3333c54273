use Rattle.std.proofs.Common.{◌*◌, ◌+◌, ◌-◌, ◌≤◌, length}
use Rattle.sifc_def.specs.Stmt.{branches as branches_of, decls as decls_of}
use Rattle.sifc_def.specs.Walk.{walkers}
use Rattle.sifc_parse.proofs.Turns.{Turning}
use Rattle.sifc_parse.proofs.parser.+declarations.Given as goal

abbrev pub decreases-block : goal.decreases-block
decreases-block l = l.depth * 8

abbrev pub decreases-branches : goal.decreases-branches
decreases-branches l = l.depth * 8 + 3

abbrev pub decreases-decl : goal.decreases-decl
decreases-decl l = l.depth * 8 + 6

abbrev pub decreases-decls : goal.decreases-decls
decreases-decls l = l.depth * 8 + 7

abbrev pub decreases-elif_stmt : goal.decreases-elif_stmt
decreases-elif_stmt l = l.depth * 8 + 2

abbrev pub decreases-else_block : goal.decreases-else_block
decreases-else_block l = l.depth * 8 + 2

abbrev pub decreases-fn_decl : goal.decreases-fn_decl
decreases-fn_decl l = l.depth * 8 + 4

abbrev pub decreases-for_stmt : goal.decreases-for_stmt
decreases-for_stmt l = l.depth * 8 + 4

abbrev pub decreases-if_stmt : goal.decreases-if_stmt
decreases-if_stmt l = l.depth * 8 + 4

abbrev pub decreases-stmt : goal.decreases-stmt
decreases-stmt l = l.depth * 8 + 5

abbrev pub invariant-branches-loop-p : goal.invariant-branches-loop-p
invariant-branches-loop-p l = Turning (λ x f. branches_of x (walkers x l.depth) f 0 0) (λ x f. branches_of x (walkers x l.depth) f l.n l.elses) l.fn.p l.fn.book l.p l.book × (l.n + 2 ≤ l.p.at) × (l.elses ≤ l.n)

abbrev pub decreases-branches-loop-p : goal.decreases-branches-loop-p
decreases-branches-loop-p l = length l.fn.p.words.now - l.p.at

abbrev pub invariant-decls-loop-p : goal.invariant-decls-loop-p
invariant-decls-loop-p l = Turning (λ x f. decls_of x (walkers x l.depth) f 0) (λ x f. decls_of x (walkers x l.depth) f l.n) l.fn.p l.fn.book l.p l.book × (l.n ≤ l.p.at)

abbrev pub decreases-decls-loop-p : goal.decreases-decls-loop-p
decreases-decls-loop-p l = length l.fn.p.words.now - l.p.at
