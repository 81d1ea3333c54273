use Rattle.std.proofs.Common.{sym, ◌∙◌}
use Rattle.sifc_name.proofs.Names.{found-known, none-known}
use Rattle.sifc_name.proofs.name.sym_exists.Goals as goal

pub returns-then-is_some : goal.returns-then-is_some
returns-then-is_some c = c.if-is_some.true ∙ found-known c.args.p.now c.args.i c.look_up.result c.look_up.ensures (sym c.is_some.ensures ∙ c.if-is_some.true)

pub returns-else-is_some : goal.returns-else-is_some
returns-else-is_some c = c.is_std_lib_fn.ensures ∙ none-known c.args.p.now c.args.i c.look_up.result c.look_up.ensures (sym c.is_some.ensures ∙ c.if-is_some.false) c.name.ensures
