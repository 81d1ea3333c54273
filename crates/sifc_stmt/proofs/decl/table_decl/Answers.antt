use Rattle.std.specs.Prelude.{refl, false}
use Rattle.std.proofs.Common.{arith, sym}
use Rattle.sifc_def.specs.State.{expect, push}
use Rattle.sifc_def.specs.Symbols.{store}
use Rattle.sifc_def.specs.Stmt.{item_list, table_decl}
use Rattle.sifc_def.specs.Walk.{walkers}
use Rattle.sifc_declare.specs.Promise.{node_and_name}
use Rattle.sifc_def.specs.declared.What.TheVariants.{Other}
use Rattle.sifc_step.specs.Abs.{ctx_at}
use Rattle.sifc_step.proofs.Steps.{begin, go, stop, refused, last, by, nested}
use Rattle.sifc_step.proofs.Small.{conveyed}
use Rattle.sifc_declare.proofs.Ends.{free}
use Rattle.sifc_stmt.proofs.decl.table_decl.Goals as goal

pub returns-in_err-expect : goal.returns-in_err-expect
unfolding table_decl
returns-in_err-expect c =
    let p0 = begin 0 (λ x. table_decl x (walkers x c.args.depth) c.args.i) c.requires.0 in
    conveyed (stop (λ x. expect x 29) _ (λ x. table_decl x (walkers x c.args.depth) c.args.i) p0 (omega arith) c.in_err-expect.ensures.does) c.from_residual.ensures

pub returns-in_err-item_list : goal.returns-in_err-item_list
unfolding table_decl
returns-in_err-item_list c =
    let p0 = begin 0 (λ x. table_decl x (walkers x c.args.depth) c.args.i) c.requires.0 in
    let p1 = go (λ x. expect x 29) _ p0 c.in_ok-expect.ensures.does in
    conveyed (stop (λ x. item_list x (walkers x c.args.depth)) _ (λ x. table_decl x (walkers x c.args.depth) c.args.i) p1 (omega arith) c.in_err-item_list.ensures) c.from_residual-in_err-item_list.ensures

pub returns-in_err-expect-2 : goal.returns-in_err-expect-2
unfolding table_decl
returns-in_err-expect-2 c =
    let p0 = begin 0 (λ x. table_decl x (walkers x c.args.depth) c.args.i) c.requires.0 in
    let p1 = go (λ x. expect x 29) _ p0 c.in_ok-expect.ensures.does in
    let p2 = go (λ x. item_list x (walkers x c.args.depth)) _ p1 c.in_ok-item_list.ensures in
    conveyed (stop (λ x. expect x 30) _ (λ x. table_decl x (walkers x c.args.depth) c.args.i) p2 (omega arith) c.in_err-expect-2.ensures.does) c.from_residual-in_err-expect-2.ensures

pub returns-in_err-declare_other : goal.returns-in_err-declare_other
unfolding table_decl
returns-in_err-declare_other c =
    let p0 = begin 0 (λ x. table_decl x (walkers x c.args.depth) c.args.i) c.requires.0 in
    let p1 = go (λ x. expect x 29) _ p0 c.in_ok-expect.ensures.does in
    let p2 = go (λ x. item_list x (walkers x c.args.depth)) _ p1 c.in_ok-item_list.ensures in
    let p3 = go (λ x. expect x 30) _ p2 c.in_ok-expect-2.ensures.does in
    let p4 = by p3 (λ s. sym (nested (push (ctx_at c.args.p.now) 14 false 1 c.args.i s) (λ u. store (ctx_at c.args.p.now) c.args.i Other) (λ u. expect (ctx_at c.args.p.now) 7))) in
    conveyed (refused (λ x. node_and_name x 78 c.args.i) _ (λ x. table_decl x (walkers x c.args.depth) c.args.i) p4 c.in_err-declare_other.ensures.does refl) c.from_residual-in_err-declare_other.ensures

pub declare_other-requires : goal.declare_other-requires
unfolding table_decl
declare_other-requires c =
    let p0 = begin 0 (λ x. table_decl x (walkers x c.args.depth) c.args.i) c.requires.0 in
    let p1 = go (λ x. expect x 29) _ p0 c.in_ok-expect.ensures.does in
    let p2 = go (λ x. item_list x (walkers x c.args.depth)) _ p1 c.in_ok-item_list.ensures in
    let p3 = go (λ x. expect x 30) _ p2 c.in_ok-expect-2.ensures.does in
    (free p3.is, c.requires.1)

pub returns : goal.returns
unfolding table_decl
returns c =
    let p0 = begin 0 (λ x. table_decl x (walkers x c.args.depth) c.args.i) c.requires.0 in
    let p1 = go (λ x. expect x 29) _ p0 c.in_ok-expect.ensures.does in
    let p2 = go (λ x. item_list x (walkers x c.args.depth)) _ p1 c.in_ok-item_list.ensures in
    let p3 = go (λ x. expect x 30) _ p2 c.in_ok-expect-2.ensures.does in
    let p4 = by p3 (λ s. sym (nested (push (ctx_at c.args.p.now) 14 false 1 c.args.i s) (λ u. store (ctx_at c.args.p.now) c.args.i Other) (λ u. expect (ctx_at c.args.p.now) 7))) in
    let p5 = go (λ x. node_and_name x 78 c.args.i) _ p4 c.in_ok-declare_other.ensures.does in
    last (λ x. expect x 7) (λ x. table_decl x (walkers x c.args.depth) c.args.i) p5 (omega arith) c.expect-3.ensures.does
