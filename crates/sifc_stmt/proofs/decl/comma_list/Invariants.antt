use Rattle.std.proofs.Common.{◌≤◌, ◌-◌, length}
use Rattle.sifc_def.specs.State.{Ctx, Void}
use Rattle.sifc_def.specs.Stmt.{comma_list}
use Rattle.sifc_step.proofs.Loops.{Looping}
use Rattle.sifc_step.specs.Items.{Reads}
use Rattle.sifc_stmt.proofs.decl.comma_list.Given as goal

abbrev pub invariant-loop-item : goal.invariant-loop-item
invariant-loop-item g l =
    ((def : Ctx → Void) → Reads (goal.F-post g l.item) def → Looping (λ c f. comma_list c l.close (def c) f 0) (λ c f. comma_list c l.close (def c) f l.n) l.initial.p l.p) × (l.n ≤ l.p.at)

abbrev pub decreases-loop-item : goal.decreases-loop-item
decreases-loop-item g l = length l.initial.p.words.now - l.p.at
