use Rattle.std.specs.Prelude.{[], ◌∷◌}
use Rattle.std.proofs.Common.{arith}
use Rattle.sifc_symtab.specs.Table.{value_of}
use Rattle.sifc_block.proofs.Bindings.{name-fits, binding-from, binding-more, bound-stops, bound-last}
use Rattle.sifc_block.proofs.block.bind_pair.Goals as goal

pub store-requires : goal.store-requires
unfolding value_of
store-requires c = name-fits c.requires.0 c.requires.1 (omega (arith, c.requires.2)) (omega arith)

pub returns-in_err-one : goal.returns-in_err-one
returns-in_err-one c =
    bound-stops (binding-from (c.args.i ∷ c.args.j ∷ []) c.requires.0) c.store.auto.symbols c.from_residual.result c.in_err-one.ensures c.from_residual.ensures

pub store-requires-2 : goal.store-requires-2
unfolding value_of
store-requires-2 c = name-fits c.in_ok-one.ensures.holds c.requires.1 (omega (arith, c.requires.3)) (omega arith)

pub returns : goal.returns
returns c =
    bound-last c.store-2.result (binding-more (binding-from (c.args.i ∷ c.args.j ∷ []) c.requires.0) c.store.auto.symbols c.in_ok-one.ensures) c.store-2.auto.symbols c.store-2.ensures
