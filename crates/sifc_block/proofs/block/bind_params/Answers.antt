use Rattle.std.specs.Prelude.{◌+◌, refl}
use Rattle.std.proofs.Common.{arith}
use Rattle.sifc_symtab.specs.Table.{value_of}
use Rattle.sifc_block.specs.Bound.{between}
use Rattle.sifc_block.proofs.Bindings.{name-fits, binding-over, binding-more, bind-first, bind-end, bound, bound-stops}
use Rattle.sifc_block.proofs.block.bind_params.Goals as goal

pub loop-k-init : goal.loop-k-init
loop-k-init c = (binding-over c.args.load.now c.args.first c.args.count c.requires.0, omega arith, refl)

pub store-requires : goal.store-requires
unfolding value_of
store-requires c = name-fits c.loop-k.invariant.0.holds c.requires.1 (search) (omega arith)

pub returns-in_err-n : goal.returns-in_err-n
returns-in_err-n c =
    bound-stops (bind-first (between c.args.load.now c.args.first c.args.count) c.args.load.now c.loop-k.k (c.args.first + c.args.count) c.loop-k.invariant.0 c.loop-k-test.true) c.store.auto.symbols c.from_residual.result c.in_err-n.ensures c.from_residual.ensures

pub loop-k-preserved : goal.loop-k-preserved
loop-k-preserved c = (
  binding-more (bind-first (between c.args.load.now c.args.first c.args.count) c.args.load.now c.loop-k.k (c.args.first + c.args.count) c.loop-k.invariant.0 c.loop-k-test.true) c.store.auto.symbols c.in_ok-n.ensures,
  omega (arith, c.loop-k-test.true),
  refl,
)

pub returns : goal.returns
returns c = bound (bind-end (between c.args.load.now c.args.first c.args.count) c.args.load.now c.loop-k.k (c.args.first + c.args.count) c.loop-k.invariant.0 (omega (arith, c.loop-k-test.false)))
