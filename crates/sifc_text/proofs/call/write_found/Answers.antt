use Rattle.sifc_lent.specs.Parts.{arrays_of}
use Rattle.sifc_lent.proofs.Fronts.{front-none}
use Rattle.sifc_text.proofs.Calls.{holds, used, emptied, spot, flagged, wrote, full}
use Rattle.sifc_text.proofs.call.write_found.Goals as goal

pub clear_used-requires : goal.clear_used-requires
clear_used-requires c = used c.args.script.now (arrays_of c.args.lent.now) c.args.m c.requires

pub returns-then-m-clause-texts : goal.returns-then-m-clause-texts
returns-then-m-clause-texts c = flagged c.args.script.now (arrays_of c.args.lent.now) c.args.m c.if-m.true (emptied c.args.script.now (arrays_of c.args.lent.now) c.args.m c.requires c.clear_used.ensures.cleared) (front-none c.args.text.now _ c.clear_from.ensures)

pub tree_of-requires : goal.tree_of-requires
tree_of-requires c = holds c.args.script.now (arrays_of c.args.lent.now) c.args.m c.requires

pub clear_used-requires-in-Err : goal.clear_used-requires-in-Err
clear_used-requires-in-Err c = used c.args.script.now (arrays_of c.args.lent.now) c.args.m c.requires

pub write_tree-requires : goal.write_tree-requires
write_tree-requires c = spot c.args.script.now (arrays_of c.args.lent.now) c.args.m c.requires c.tree_of.ensures c.if-m.false

pub returns-in-Ok-clause-texts : goal.returns-in-Ok-clause-texts
returns-in-Ok-clause-texts c = wrote c.args.script.now (arrays_of c.args.lent.now) c.args.m c.if-m.false c.tree_of.ensures c.write_tree.ensures c.in-Ok.is

pub returns-in-Err-clause-texts : goal.returns-in-Err-clause-texts
returns-in-Err-clause-texts c = full c.args.script.now (arrays_of c.args.lent.now) c.args.m c.if-m.false c.tree_of.ensures c.write_tree.ensures c.in-Err.is (emptied c.args.script.now (arrays_of c.args.lent.now) c.args.m c.requires c.clear_used-in-Err.ensures.cleared)
