use Rattle.std.proofs.Common.{sym, ap, ◌∙◌, arith}
use Rattle.sif_show.specs.Entries.{entry_at, entry_after}
use Rattle.sif_show.specs.EntryLaws.{entry-none, entry-cut, entry_whole}
use Rattle.sif_show.proofs.entries.entry_at.Goals as goal
use Rattle.sif_show.proofs.entries.entry_at.Goals.{then-list-start-via-then-list-start, then-list-start-via-else-list-start+then-list-start-2}

pub returns-then-list-start : goal.returns-then-list-start
unfolding entry_at
returns-then-list-start c =
    let list = c.args.list.now in
    elim c.then-list-start.branch [
      | then-list-start-via-then-list-start w ↦ sym (entry-none list _ (omega arith)) ∙ ap (entry_after list) c.number_at-header.ensures
      | then-list-start-via-else-list-start+then-list-start-2 w ↦ sym (entry-cut list _ (omega arith) (omega arith)) ∙ ap (entry_after list) c.number_at-header.ensures
    ]

pub returns : goal.returns
unfolding entry_at
returns c =
    let list = c.args.list.now in
    sym (entry_whole list _ (omega arith) (omega arith)) ∙ ap (entry_after list) c.number_at-header.ensures
