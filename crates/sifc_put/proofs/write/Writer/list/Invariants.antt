use Rattle.sifc_put.specs.Post.{one, list_l}
use Rattle.sifc_put.specs.Items.{written_l}
use Rattle.sifc_put.proofs.Frame.{Part}
use Rattle.sifc_put.proofs.write.Writer.list.Given as goal

abbrev pub invariant-loop-left : goal.invariant-loop-left
invariant-loop-left g l =
    let K = written_l (goal.F-pre g l.item) (goal.F-post g l.item) l.initial.self in
    Part (list_l K l.count) (one (list_l K l.left)) l.initial.self l.self
