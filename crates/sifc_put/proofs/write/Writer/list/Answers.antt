use native.Mathlib.Omega.{arith}
use Rattle.std.proofs.Common.{rules}
use Rattle.sifc_put.proofs.Frame.{spot, put, stop, room}
use Rattle.sifc_put.proofs.Rows.{next-list, no-list}
use Rattle.sifc_put.proofs.Items.{item-writes}
use Rattle.sifc_put.proofs.write.Writer.list.Goals as goal

pub item-requires : goal.item-requires
item-requires g c =
    let c0 = next-list _ c.loop-left.left (λ e. omega (arith, c.loop-left-test.true, e)) c.loop-left.invariant in
    let z = spot c.requires c0 in
    search (rules, z.spans.ready, c.loop-left.invariant.goes)

pub returns-in_err-item : goal.returns-in_err-item
returns-in_err-item g c =
    let c0 = next-list _ c.loop-left.left (λ e. omega (arith, c.loop-left-test.true, e)) c.loop-left.invariant in
    stop c0 (item-writes c.loop-left.invariant.goes (spot c.requires c0) c.in_err-item.ensures) c.from_residual.ensures.0

pub separator-requires : goal.separator-requires
separator-requires g c =
    let c0 = next-list _ c.loop-left.left (λ e. omega (arith, c.loop-left-test.true, e)) c.loop-left.invariant in
    let c1 = put c.requires c0 (item-writes c.loop-left.invariant.goes (spot c.requires c0) c.in_ok-item.ensures) in
    room c.requires c1

pub loop-left-preserved : goal.loop-left-preserved
loop-left-preserved g c =
    let c0 = next-list _ c.loop-left.left (λ e. omega (arith, c.loop-left-test.true, e)) c.loop-left.invariant in
    let c1 = put c.requires c0 (item-writes c.loop-left.invariant.goes (spot c.requires c0) c.in_ok-item.ensures) in
    let c2 = put c.requires c1 c.in_ok-separator.ensures in
    c2

pub returns-in_err-separator : goal.returns-in_err-separator
returns-in_err-separator g c =
    let c0 = next-list _ c.loop-left.left (λ e. omega (arith, c.loop-left-test.true, e)) c.loop-left.invariant in
    let c1 = put c.requires c0 (item-writes c.loop-left.invariant.goes (spot c.requires c0) c.in_ok-item.ensures) in
    stop c1 c.in_err-separator.ensures c.from_residual-in_err-separator.ensures.0

pub returns : goal.returns
returns g c = no-list _ c.loop-left.left (omega (arith, c.loop-left-test.false)) c.loop-left.invariant
