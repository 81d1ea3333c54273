use Rattle.std.proofs.Common.{arith}
use Rattle.sifc_step.proofs.Small.{least, paired}
use Rattle.sifc_step.proofs.Items.{builds-on}
use Rattle.sifc_declare.proofs.Ends.{expect-beside, push-beside, expect-builds, push-builds, pair-first, pair-comma, pair-second, pair-refused, pair-done, pair-stops-any, node-next, past-any, past-expect}
use Rattle.sifc_declare.proofs.ident.ident_pair.Goals as goal

pub returns-in_err-first : goal.returns-in_err-first
returns-in_err-first c =
    let a = c.in_err-first.ensures in
    pair-stops-any c.from_residual.result (record { does = pair-first a.does; alone = a.alone; whatever = λ s ys. pair-first (a.whatever s ys) }) c.from_residual.ensures

pub expect-requires : goal.expect-requires
expect-requires c = (past-any c.requires c.in_ok-first.ensures).ready.stands

pub returns-in_err-expect : goal.returns-in_err-expect
returns-in_err-expect c =
    let a = c.in_ok-first.ensures in
    let b = c.in_err-expect.ensures in
    pair-stops-any c.from_residual-in_err-expect.result (record {
      does = pair-comma a.does (least b.does);
      alone = builds-on c.args.p.now c.ident_node.new.p c.expect.new.self a.alone (expect-builds b);
      whatever = λ s ys. pair-comma (a.whatever s ys) (expect-beside s ys b);
    }) c.from_residual-in_err-expect.ensures

pub ident_node-requires-2 : goal.ident_node-requires-2
ident_node-requires-2 c = past-expect (past-any c.requires c.in_ok-first.ensures) c.in_ok-expect.ensures

pub returns-in_err-second : goal.returns-in_err-second
returns-in_err-second c =
    let a = c.in_ok-first.ensures in
    let b = c.in_ok-expect.ensures in
    let d = c.in_err-second.ensures in
    pair-stops-any c.from_residual-in_err-second.result (record {
      does = pair-second a.does (least b.does) d.does;
      alone = builds-on c.args.p.now c.expect.new.self c.ident_node-2.new.p (builds-on c.args.p.now c.ident_node.new.p c.expect.new.self a.alone (expect-builds b)) d.alone;
      whatever = λ s ys. pair-second (a.whatever s ys) (expect-beside s ys b) (d.whatever s ys);
    }) c.from_residual-in_err-second.ensures

pub push_node-requires : goal.push_node-requires
push_node-requires c = paired (past-any (past-expect (past-any c.requires c.in_ok-first.ensures) c.in_ok-expect.ensures) c.in_ok-second.ensures).ready

pub returns-in_err-push_node : goal.returns-in_err-push_node
returns-in_err-push_node c =
    let a = c.in_ok-first.ensures in
    let b = c.in_ok-expect.ensures in
    let d = c.in_ok-second.ensures in
    let e = c.in_err-push_node.ensures in
    pair-stops-any c.from_residual-in_err-push_node.result (record {
      does = pair-refused a.does (least b.does) d.does e.does;
      alone = builds-on c.args.p.now c.ident_node-2.new.p c.push_node.new.self (builds-on c.args.p.now c.expect.new.self c.ident_node-2.new.p (builds-on c.args.p.now c.ident_node.new.p c.expect.new.self a.alone (expect-builds b)) d.alone) (push-builds e);
      whatever = λ s ys. pair-refused (a.whatever s ys) (expect-beside s ys b) (d.whatever s ys) (push-beside s ys e);
    }) c.from_residual-in_err-push_node.ensures

pub returns : goal.returns
returns c =
    let m = c.requires in
    let a = c.in_ok-first.ensures in
    let b = c.in_ok-expect.ensures in
    let d = c.in_ok-second.ensures in
    let e = c.in_ok-push_node.ensures in
    let m2 = past-expect (past-any m a) b in (
      record {
        does = pair-done a.does (least b.does) d.does e.does;
        alone = builds-on c.args.p.now c.ident_node-2.new.p c.push_node.new.self (builds-on c.args.p.now c.expect.new.self c.ident_node-2.new.p (builds-on c.args.p.now c.ident_node.new.p c.expect.new.self a.alone (expect-builds b)) d.alone) (push-builds e);
        whatever = λ s ys. pair-done (a.whatever s ys) (expect-beside s ys b) (d.whatever s ys) (push-beside s ys e);
      },
      (
        omega (arith, (node-next m.ready (a.whatever m.script m.symbols)).value, m.ready.stands.here, m.ready.stands.toks.few),
        omega (arith, (node-next m2.ready (d.whatever m2.script m2.symbols)).value, m2.ready.stands.here, m2.ready.stands.toks.few),
      ),
    )
