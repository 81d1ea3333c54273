use native.Mathlib.Omega.{arith}
use mathlib.Core.Path.{◌∙◌}
use Rattle.sifc_symtab.proofs.Walk.{walk_none, walk_start, walk-hashed, walk-stop, walk-on, walk-less}
use Rattle.sifc_symtab.proofs.Words.{head-read, next-read}
use Rattle.sifc_symtab.proofs.symtab.SymTab.seek.Goals as goal

pub returns-then-self-eq0 : goal.returns-then-self-eq0
returns-then-self-eq0 c = walk_none _ _ _ _ _ _ _ _ _ c.requires c.args.wanted.now.hashed c.if-self-eq0.true

pub loop-at-init : goal.loop-at-init
loop-at-init c = walk_start _ _ _ _ _ _ _ _ _ c.requires c.args.wanted.now.hashed c.buckets.result _ c.buckets.ensures (c.head-at.ensures ∙ head-read _ _ _ c.read.ensures) (omega (arith, c.if-self-eq0.false))

pub stops-requires : goal.stops-requires
stops-requires c = walk-hashed _ _ _ _ _ _ _ _ _ c.requires c.args.wanted.now.hashed c.loop-at.prev c.loop-at.at c.loop-at.invariant (omega (arith, c.loop-at-test.true))

pub loop-at-smaller : goal.loop-at-smaller
loop-at-smaller c = walk-less _ _ _ _ _ _ _ _ _ c.requires c.args.wanted.now.hashed c.loop-at.prev c.loop-at.at c.loop-at.invariant (omega (arith, c.loop-at-test.true)) _ (c.next-at.ensures ∙ next-read _ _ _ c.read-in-loop-at.ensures)

pub loop-at-preserved : goal.loop-at-preserved
loop-at-preserved c = walk-on _ _ _ _ _ _ _ _ _ c.requires c.args.wanted.now.hashed c.loop-at.prev c.loop-at.at c.loop-at.invariant (omega (arith, c.loop-at-test.true)) _ c.stops.ensures c.if-not-stops.true _ (c.next-at.ensures ∙ next-read _ _ _ c.read-in-loop-at.ensures)

pub returns-else-not-stops : goal.returns-else-not-stops
returns-else-not-stops c = walk-stop _ _ _ _ _ _ _ _ _ c.requires c.args.wanted.now.hashed c.loop-at.prev c.loop-at.at c.loop-at.invariant (omega (arith, c.loop-at-test.true)) _ c.stops.ensures c.if-not-stops.false
