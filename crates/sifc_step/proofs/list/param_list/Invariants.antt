use Rattle.std.proofs.Common.{◌≤◌, ◌-◌, length}
use Rattle.sifc_def.specs.State.{Ctx, Void}
use Rattle.sifc_def.specs.Expr.{param_list}
use Rattle.sifc_step.specs.Abs.{Ready}
use Rattle.sifc_step.specs.Items.{Sight, seen, OnlyBuilds, ReadsAs, AppendsAs, Builds}
use Rattle.sifc_step.proofs.Loops.{Looping}
use Rattle.sifc_step.proofs.list.param_list.Given as goal

abbrev pub invariant-loop-item : goal.invariant-loop-item
invariant-loop-item g l =
    ((v : Sight) → (def : Ctx → Void) → ReadsAs v (goal.F-post g l.item) def → Ready (seen v l.initial.p) → Looping (λ c f. param_list c (def c) f 0) (λ c f. param_list c (def c) f l.n) (seen v l.initial.p) (seen v l.p))
    × (l.n ≤ 64)
    × ((v : Sight) → (def : Ctx → Void) → ReadsAs v (goal.F-post g l.item) def → AppendsAs v (goal.F-post g l.item) → Ready (seen v l.initial.p) → l.n ≤ l.p.nodes)
    × (Builds (goal.F-post g l.item) → OnlyBuilds l.initial.p l.p)

abbrev pub decreases-loop-item : goal.decreases-loop-item
decreases-loop-item g l = length l.initial.p.words.now - l.p.at
