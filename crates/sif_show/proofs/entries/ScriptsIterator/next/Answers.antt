use Rattle.std.proofs.Common.{arith, rules, ◌<◌, ◌-◌, length}
use Rattle.sif_show.specs.EntryLaws.{entry-within, entry-end}
use Rattle.sif_show.proofs.entries.ScriptsIterator.next.Goals as goal

pub slice_bounds-result-count : goal.slice_bounds-result-count
slice_bounds-result-count c = let w = entry-within _ _ _ c.entry_at-entry.ensures in omega arith

pub slice_bounds-result-start : goal.slice_bounds-result-start
slice_bounds-result-start c = let w = entry-within _ _ _ c.entry_at-entry.ensures in omega arith

pub slice_bounds-result-end : goal.slice_bounds-result-end
slice_bounds-result-end c = let w = entry-within _ _ _ c.entry_at-entry.ensures in omega arith

pub returns-clause-goes : goal.returns-clause-goes
returns-clause-goes c =
    let e = entry-end _ _ _ c.entry_at-entry.ensures (omega arith) in
    let a = c.after_newline-self.ensures in
    let less : length c.args.self.now.list.now - c.after_newline-self.result < length c.args.self.now.list.now - c.args.self.now.at = grind arith in
    search rules
