use Rattle.std.specs.Prelude.{None}
use Rattle.std.proofs.Common.{rules, length, ◌-◌, false, true, arith, refl, sym, ap, ◌∙◌, eq-eqb, ne_eqb}
use Rattle.sifc_err.specs.declared.parse_err.ParseErrTy.TheVariants.{InvalidTkn}
use Rattle.sifc_def.specs.State.{consume, expect, push, throw_past}
use Rattle.sifc_def.specs.Expr.{fuel, looseness, is_unary, is_literal, assign_to, param_list, call_named, literal, ident_expr, assign_expr, unary_expr, group_expr, primary_expr, call_part, dot, index, fn_call_expr}
use Rattle.sifc_def.specs.Walk.{walkers}
use Rattle.sifc_step.specs.Abs.{Inp}
use Rattle.sifc_step.specs.Small.{node_of, accesses}
use Rattle.sifc_step.proofs.Steps.{begin, by, go, stop, refused, last, fin, kinded, stood, aimed, numbered, yes, no, not-eof}
use Rattle.sifc_step.proofs.Small.{conveyed, passes-one}
use Rattle.sifc_step.proofs.Items.{reads}
use Rattle.sifc_step.proofs.Loops.{onward}
use Rattle.sifc_step.proofs.Tests.{literal-eof}
use Rattle.sifc_expr.specs.Rest.{rest}
use Rattle.sifc_expr.proofs.Depth.{nearer, assign-step, unary-step, call_step, assign-none, unary-none, call_none, unasked, switched}
use Rattle.sifc_expr.proofs.Levels.{levels-then, some-level, Operand, Below, Whole, free, starts, enters, ends, sign, signed, idle}
use Rattle.sifc_expr.proofs.Parts.{of-literal, of-name, of-group, of-at, of-other, then-call, then-dot, then-index, then-nothing}
use Rattle.sifc_expr.proofs.parser.+expressions.Goals as goal

pub assign_expr-returns-then-depth-eq0 : goal.assign_expr-returns-then-depth-eq0
assign_expr-returns-then-depth-eq0 t c =
    assign-none _ c.if-depth-eq0.true

pub assign_expr-returns-in_err-unary_expr : goal.assign_expr-returns-in_err-unary_expr
unfolding assign_expr
assign_expr-returns-in_err-unary_expr t c =
    let p0 = by (assign-step c.requires c.args.depth c.if-depth-eq0.false) (λ s. levels-then _ 7 _ _ s) in
    conveyed (stop (λ x. (walkers x (c.args.depth - 1)).unary) _ (λ x. (walkers x c.args.depth).assign) p0 (omega arith) c.in_err-unary_expr.ensures) c.from_residual.ensures

pub assign_expr-returns-in_err-or_expr : goal.assign_expr-returns-in_err-or_expr
unfolding assign_expr
assign_expr-returns-in_err-or_expr t c =
    let p0 = by (assign-step c.requires c.args.depth c.if-depth-eq0.false) (λ s. levels-then _ 7 _ _ s) in
    let p1 = go (λ x. (walkers x (c.args.depth - 1)).unary) _ p0 c.in_ok-unary_expr.ensures in
    conveyed (stop (λ x. rest x 7 (walkers x (c.args.depth - 1)).unary) _ (λ x. (walkers x c.args.depth).assign) p1 (omega arith) c.in_err-or_expr.ensures) c.from_residual-in_err-or_expr.ensures

pub assign_expr-returns-then-kind-ne-EQ : goal.assign_expr-returns-then-kind-ne-EQ
unfolding assign_expr
assign_expr-returns-then-kind-ne-EQ t c =
    let p0 = by (assign-step c.requires c.args.depth c.if-depth-eq0.false) (λ s. levels-then _ 7 _ _ s) in
    let p1 = go (λ x. (walkers x (c.args.depth - 1)).unary) _ p0 c.in_ok-unary_expr.ensures in
    let p2 = go (λ x. rest x 7 (walkers x (c.args.depth - 1)).unary) _ p1 c.in_ok-or_expr.ensures in
    let p3 = stood _ (kinded _ (numbered _ (unasked _ p2))) in
    fin (λ x. (walkers x c.args.depth).assign) (no _ _ p3 (ne_eqb _ _ (λ z. c.if-kind-ne-EQ.true (c.kind.ensures ∙ z))))

pub assign_expr-returns-in_err-consume : goal.assign_expr-returns-in_err-consume
unfolding assign_expr
assign_expr-returns-in_err-consume t c =
    let p0 = by (assign-step c.requires c.args.depth c.if-depth-eq0.false) (λ s. levels-then _ 7 _ _ s) in
    let p1 = go (λ x. (walkers x (c.args.depth - 1)).unary) _ p0 c.in_ok-unary_expr.ensures in
    let p2 = go (λ x. rest x 7 (walkers x (c.args.depth - 1)).unary) _ p1 c.in_ok-or_expr.ensures in
    let p3 = yes _ _ (stood _ (kinded _ (numbered _ (aimed c.top-target.result _ p2 c.top-target.ensures)))) (eq-eqb _ _ (sym c.kind.ensures ∙ c.if-kind-ne-EQ.false)) in
    conveyed (refused (λ x. consume x) _ (λ x. (walkers x c.args.depth).assign) p3 c.in_err-consume.ensures.does refl) c.from_residual-in_err-consume.ensures

pub assign_expr-returns-in_err-assign_expr : goal.assign_expr-returns-in_err-assign_expr
unfolding assign_expr
assign_expr-returns-in_err-assign_expr t c =
    let p0 = by (assign-step c.requires c.args.depth c.if-depth-eq0.false) (λ s. levels-then _ 7 _ _ s) in
    let p1 = go (λ x. (walkers x (c.args.depth - 1)).unary) _ p0 c.in_ok-unary_expr.ensures in
    let p2 = go (λ x. rest x 7 (walkers x (c.args.depth - 1)).unary) _ p1 c.in_ok-or_expr.ensures in
    let p3 = yes _ _ (stood _ (kinded _ (numbered _ (aimed c.top-target.result _ p2 c.top-target.ensures)))) (eq-eqb _ _ (sym c.kind.ensures ∙ c.if-kind-ne-EQ.false)) in
    let p4 = go (λ x. consume x) _ p3 c.in_ok-consume.ensures.does in
    conveyed (stop (λ x. (walkers x (c.args.depth - 1)).assign) _ (λ x. (walkers x c.args.depth).assign) p4 (omega arith) c.in_err-assign_expr.ensures) c.from_residual-in_err-assign_expr.ensures

pub assign_expr-returns : goal.assign_expr-returns
unfolding assign_expr
assign_expr-returns t c =
    let p0 = by (assign-step c.requires c.args.depth c.if-depth-eq0.false) (λ s. levels-then _ 7 _ _ s) in
    let p1 = go (λ x. (walkers x (c.args.depth - 1)).unary) _ p0 c.in_ok-unary_expr.ensures in
    let p2 = go (λ x. rest x 7 (walkers x (c.args.depth - 1)).unary) _ p1 c.in_ok-or_expr.ensures in
    let p3 = yes _ _ (stood _ (kinded _ (numbered _ (aimed c.top-target.result _ p2 c.top-target.ensures)))) (eq-eqb _ _ (sym c.kind.ensures ∙ c.if-kind-ne-EQ.false)) in
    let p4 = go (λ x. consume x) _ p3 c.in_ok-consume.ensures.does in
    let p5 = go (λ x. (walkers x (c.args.depth - 1)).assign) _ p4 c.in_ok-assign_expr.ensures in
    last (λ x. assign_to x (node_of c.top-target.result) (c.or_expr.new.p.nodes - 1) c.or_expr.new.p.at) (λ x. (walkers x c.args.depth).assign) p5 (omega arith) c.assign_to.ensures

pub level_below-returns-in_default : goal.level_below-returns-in_default
level_below-returns-in_default t c =
    idle c.args.n c.args.depth (omega (arith, c.requires.1)) c.requires.0

pub call-returns-in_err-consume : goal.call-returns-in_err-consume
unfolding call_part
call-returns-in_err-consume t c =
    let p0 = begin 0 (λ x. call_part x (walkers x c.args.depth) (node_of c.args.target) c.args.p.now.at) c.requires in
    conveyed (refused (λ x. consume x) _ (λ x. call_part x (walkers x c.args.depth) (node_of c.args.target) c.args.p.now.at) p0 c.in_err-consume.ensures.does refl) c.from_residual.ensures

pub call-param_list-requires : goal.call-param_list-requires
unfolding call_part
call-param_list-requires t c =
    let p0 = begin 0 (λ x. call_part x (walkers x c.args.depth) (node_of c.args.target) c.args.p.now.at) c.requires in
    let p1 = go (λ x. consume x) _ p0 c.in_ok-consume.ensures.does in
    record {
      sight = None;
      ready = p1.is;
      callable = λ q r. search rules;
      item = λ x. (walkers x c.args.depth).assign;
      reads = reads (λ p q r z x. search rules);
    }

pub call-expect-requires : goal.call-expect-requires
unfolding call_part
call-expect-requires t c =
    let p0 = begin 0 (λ x. call_part x (walkers x c.args.depth) (node_of c.args.target) c.args.p.now.at) c.requires in
    let p1 = go (λ x. consume x) _ p0 c.in_ok-consume.ensures.does in
    let p2 = go (λ x. param_list x (walkers x c.args.depth).assign (fuel x) 0) _ p1 (c.in_ok-n.ensures.does None _ (reads (λ p q r z x. search rules)) p1.is) in
    p2.is.stands

pub call-call_named-requires : goal.call-call_named-requires
unfolding call_part
call-call_named-requires t c =
    let p0 = begin 0 (λ x. call_part x (walkers x c.args.depth) (node_of c.args.target) c.args.p.now.at) c.requires in
    let p1 = go (λ x. consume x) _ p0 c.in_ok-consume.ensures.does in
    let p2 = go (λ x. param_list x (walkers x c.args.depth).assign (fuel x) 0) _ p1 (c.in_ok-n.ensures.does None _ (reads (λ p q r z x. search rules)) p1.is) in
    let p3 = go (λ x. expect x 2) _ p2 c.in_ok-expect.ensures.does in
    (p3.is, omega (arith, c.requires.stands.here, ap (λ (I : Inp). length I.words) p3.kept.inp), c.in_ok-n.ensures.few)

pub call-returns-in_err-n : goal.call-returns-in_err-n
unfolding call_part
call-returns-in_err-n t c =
    let p0 = begin 0 (λ x. call_part x (walkers x c.args.depth) (node_of c.args.target) c.args.p.now.at) c.requires in
    let p1 = go (λ x. consume x) _ p0 c.in_ok-consume.ensures.does in
    conveyed (stop (λ x. param_list x (walkers x c.args.depth).assign (fuel x) 0) _ (λ x. call_part x (walkers x c.args.depth) (node_of c.args.target) c.args.p.now.at) p1 (omega arith) (c.in_err-n.ensures.does None _ (reads (λ p q r z x. search rules)) p1.is)) c.from_residual-in_err-n.ensures

pub call-returns-in_err-expect : goal.call-returns-in_err-expect
unfolding call_part
call-returns-in_err-expect t c =
    let p0 = begin 0 (λ x. call_part x (walkers x c.args.depth) (node_of c.args.target) c.args.p.now.at) c.requires in
    let p1 = go (λ x. consume x) _ p0 c.in_ok-consume.ensures.does in
    let p2 = go (λ x. param_list x (walkers x c.args.depth).assign (fuel x) 0) _ p1 (c.in_ok-n.ensures.does None _ (reads (λ p q r z x. search rules)) p1.is) in
    conveyed (stop (λ x. expect x 2) _ (λ x. call_part x (walkers x c.args.depth) (node_of c.args.target) c.args.p.now.at) p2 (omega arith) c.in_err-expect.ensures.does) c.from_residual-in_err-expect.ensures

pub call-returns : goal.call-returns
unfolding call_part
call-returns t c =
    let p0 = begin 0 (λ x. call_part x (walkers x c.args.depth) (node_of c.args.target) c.args.p.now.at) c.requires in
    let p1 = go (λ x. consume x) _ p0 c.in_ok-consume.ensures.does in
    let p2 = go (λ x. param_list x (walkers x c.args.depth).assign (fuel x) 0) _ p1 (c.in_ok-n.ensures.does None _ (reads (λ p q r z x. search rules)) p1.is) in
    let p3 = go (λ x. expect x 2) _ p2 c.in_ok-expect.ensures.does in
    last (λ x. call_named x (node_of c.args.target) c.args.p.now.at c.in_ok-n.n) (λ x. call_part x (walkers x c.args.depth) (node_of c.args.target) c.args.p.now.at) p3 (omega arith) c.call_named.ensures

pub dot-returns-in_err-consume : goal.dot-returns-in_err-consume
unfolding dot
dot-returns-in_err-consume t c =
    let p0 = begin 0 (λ x. dot x (walkers x c.args.depth) (node_of c.args.target) c.args.p.now.at) c.requires in
    conveyed (refused (λ x. consume x) _ (λ x. dot x (walkers x c.args.depth) (node_of c.args.target) c.args.p.now.at) p0 c.in_err-consume.ensures.does refl) c.from_residual.ensures

pub dot-returns-in_err-assign_expr : goal.dot-returns-in_err-assign_expr
unfolding dot
dot-returns-in_err-assign_expr t c =
    let p0 = begin 0 (λ x. dot x (walkers x c.args.depth) (node_of c.args.target) c.args.p.now.at) c.requires in
    let p1 = switched false _ (go (λ x. consume x) _ p0 c.in_ok-consume.ensures.does) in
    conveyed (stop (λ x. (walkers x c.args.depth).assign) _ (λ x. dot x (walkers x c.args.depth) (node_of c.args.target) c.args.p.now.at) p1 (omega arith) c.in_err-assign_expr.ensures) c.from_residual-in_err-assign_expr.ensures

pub dot-returns-in_err-end_dot : goal.dot-returns-in_err-end_dot
unfolding dot
dot-returns-in_err-end_dot t c =
    let p0 = begin 0 (λ x. dot x (walkers x c.args.depth) (node_of c.args.target) c.args.p.now.at) c.requires in
    let p1 = switched false _ (go (λ x. consume x) _ p0 c.in_ok-consume.ensures.does) in
    let p2 = switched true _ (go (λ x. (walkers x c.args.depth).assign) _ p1 c.in_ok-assign_expr.ensures) in
    conveyed (last (λ x. accesses c.args.target 143 4 c.args.p.now.at x) (λ x. dot x (walkers x c.args.depth) (node_of c.args.target) c.args.p.now.at) p2 (omega arith) c.in_err-end_dot.ensures.does) c.from_residual-in_err-end_dot.ensures

pub dot-returns : goal.dot-returns
unfolding dot
dot-returns t c =
    let p0 = begin 0 (λ x. dot x (walkers x c.args.depth) (node_of c.args.target) c.args.p.now.at) c.requires in
    let p1 = switched false _ (go (λ x. consume x) _ p0 c.in_ok-consume.ensures.does) in
    let p2 = switched true _ (go (λ x. (walkers x c.args.depth).assign) _ p1 c.in_ok-assign_expr.ensures) in
    last (λ x. accesses c.args.target 143 4 c.args.p.now.at x) (λ x. dot x (walkers x c.args.depth) (node_of c.args.target) c.args.p.now.at) p2 (omega arith) c.in_ok-end_dot.ensures.does

pub index-returns-in_err-consume : goal.index-returns-in_err-consume
unfolding index
index-returns-in_err-consume t c =
    let p0 = begin 0 (λ x. index x (walkers x c.args.depth) (node_of c.args.target) c.args.p.now.at) c.requires in
    conveyed (refused (λ x. consume x) _ (λ x. index x (walkers x c.args.depth) (node_of c.args.target) c.args.p.now.at) p0 c.in_err-consume.ensures.does refl) c.from_residual.ensures

pub index-returns-in_err-assign_expr : goal.index-returns-in_err-assign_expr
unfolding index
index-returns-in_err-assign_expr t c =
    let p0 = begin 0 (λ x. index x (walkers x c.args.depth) (node_of c.args.target) c.args.p.now.at) c.requires in
    let p1 = go (λ x. consume x) _ p0 c.in_ok-consume.ensures.does in
    conveyed (stop (λ x. (walkers x c.args.depth).assign) _ (λ x. index x (walkers x c.args.depth) (node_of c.args.target) c.args.p.now.at) p1 (omega arith) c.in_err-assign_expr.ensures) c.from_residual-in_err-assign_expr.ensures

pub index-returns-in_err-expect : goal.index-returns-in_err-expect
unfolding index
index-returns-in_err-expect t c =
    let p0 = begin 0 (λ x. index x (walkers x c.args.depth) (node_of c.args.target) c.args.p.now.at) c.requires in
    let p1 = go (λ x. consume x) _ p0 c.in_ok-consume.ensures.does in
    let p2 = go (λ x. (walkers x c.args.depth).assign) _ p1 c.in_ok-assign_expr.ensures in
    conveyed (stop (λ x. expect x 6) _ (λ x. index x (walkers x c.args.depth) (node_of c.args.target) c.args.p.now.at) p2 (omega arith) c.in_err-expect.ensures.does) c.from_residual-in_err-expect.ensures

pub index-returns-in_err-end_index : goal.index-returns-in_err-end_index
unfolding index
index-returns-in_err-end_index t c =
    let p0 = begin 0 (λ x. index x (walkers x c.args.depth) (node_of c.args.target) c.args.p.now.at) c.requires in
    let p1 = go (λ x. consume x) _ p0 c.in_ok-consume.ensures.does in
    let p2 = go (λ x. (walkers x c.args.depth).assign) _ p1 c.in_ok-assign_expr.ensures in
    let p3 = go (λ x. expect x 6) _ p2 c.in_ok-expect.ensures.does in
    conveyed (last (λ x. accesses c.args.target 146 5 c.args.p.now.at x) (λ x. index x (walkers x c.args.depth) (node_of c.args.target) c.args.p.now.at) p3 (omega arith) c.in_err-end_index.ensures.does) c.from_residual-in_err-end_index.ensures

pub index-returns : goal.index-returns
unfolding index
index-returns t c =
    let p0 = begin 0 (λ x. index x (walkers x c.args.depth) (node_of c.args.target) c.args.p.now.at) c.requires in
    let p1 = go (λ x. consume x) _ p0 c.in_ok-consume.ensures.does in
    let p2 = go (λ x. (walkers x c.args.depth).assign) _ p1 c.in_ok-assign_expr.ensures in
    let p3 = go (λ x. expect x 6) _ p2 c.in_ok-expect.ensures.does in
    last (λ x. accesses c.args.target 146 5 c.args.p.now.at x) (λ x. index x (walkers x c.args.depth) (node_of c.args.target) c.args.p.now.at) p3 (omega arith) c.in_ok-end_index.ensures.does

pub fn_call_expr-returns-then-depth-eq0 : goal.fn_call_expr-returns-then-depth-eq0
fn_call_expr-returns-then-depth-eq0 t c =
    call_none _ c.if-depth-eq0.true

pub fn_call_expr-returns-in_err-primary_expr : goal.fn_call_expr-returns-in_err-primary_expr
unfolding fn_call_expr
fn_call_expr-returns-in_err-primary_expr t c =
    let p0 = call_step c.requires c.args.depth c.if-depth-eq0.false in
    conveyed (stop (λ x. primary_expr x (walkers x (c.args.depth - 1))) _ (λ x. (walkers x c.args.depth).call) p0 (omega arith) c.in_err-primary_expr.ensures) c.from_residual.ensures

pub fn_call_expr-returns-then-k-eq-LEFT_PAREN : goal.fn_call_expr-returns-then-k-eq-LEFT_PAREN
unfolding fn_call_expr
fn_call_expr-returns-then-k-eq-LEFT_PAREN t c =
    let p0 = call_step c.requires c.args.depth c.if-depth-eq0.false in
    let p1 = aimed c.top-target.result _ (go (λ x. primary_expr x (walkers x (c.args.depth - 1))) _ p0 c.in_ok-primary_expr.ensures) c.top-target.ensures in
    last (λ x. call_part x (walkers x (c.args.depth - 1)) (node_of c.top-target.result) c.primary_expr.new.p.at) (λ x. (walkers x c.args.depth).call) (then-call (c.args.depth - 1) (node_of c.top-target.result) p1 (sym c.kind-k.ensures ∙ c.if-k-eq-LEFT_PAREN.true)) (omega arith) c.call.ensures

pub fn_call_expr-returns-then-k-eq-PERIOD : goal.fn_call_expr-returns-then-k-eq-PERIOD
unfolding fn_call_expr
fn_call_expr-returns-then-k-eq-PERIOD t c =
    let p0 = call_step c.requires c.args.depth c.if-depth-eq0.false in
    let p1 = aimed c.top-target.result _ (go (λ x. primary_expr x (walkers x (c.args.depth - 1))) _ p0 c.in_ok-primary_expr.ensures) c.top-target.ensures in
    last (λ x. dot x (walkers x (c.args.depth - 1)) (node_of c.top-target.result) c.primary_expr.new.p.at) (λ x. (walkers x c.args.depth).call) (then-dot (c.args.depth - 1) (node_of c.top-target.result) p1 (λ z. c.if-k-eq-LEFT_PAREN.false (c.kind-k.ensures ∙ z)) (sym c.kind-k.ensures ∙ c.if-k-eq-PERIOD.true)) (omega arith) c.dot.ensures

pub fn_call_expr-returns-then-k-eq-LEFT_BRACKET : goal.fn_call_expr-returns-then-k-eq-LEFT_BRACKET
unfolding fn_call_expr
fn_call_expr-returns-then-k-eq-LEFT_BRACKET t c =
    let p0 = call_step c.requires c.args.depth c.if-depth-eq0.false in
    let p1 = aimed c.top-target.result _ (go (λ x. primary_expr x (walkers x (c.args.depth - 1))) _ p0 c.in_ok-primary_expr.ensures) c.top-target.ensures in
    last (λ x. index x (walkers x (c.args.depth - 1)) (node_of c.top-target.result) c.primary_expr.new.p.at) (λ x. (walkers x c.args.depth).call) (then-index (c.args.depth - 1) (node_of c.top-target.result) p1 (λ z. c.if-k-eq-LEFT_PAREN.false (c.kind-k.ensures ∙ z)) (λ z. c.if-k-eq-PERIOD.false (c.kind-k.ensures ∙ z)) (sym c.kind-k.ensures ∙ c.if-k-eq-LEFT_BRACKET.true)) (omega arith) c.index.ensures

pub fn_call_expr-returns : goal.fn_call_expr-returns
unfolding fn_call_expr
fn_call_expr-returns t c =
    let p0 = call_step c.requires c.args.depth c.if-depth-eq0.false in
    let p1 = aimed c.top-target.result _ (go (λ x. primary_expr x (walkers x (c.args.depth - 1))) _ p0 c.in_ok-primary_expr.ensures) c.top-target.ensures in
    fin (λ x. (walkers x c.args.depth).call) (then-nothing (c.args.depth - 1) (node_of c.top-target.result) p1 (λ z. c.if-k-eq-LEFT_PAREN.false (c.kind-k.ensures ∙ z)) (λ z. c.if-k-eq-PERIOD.false (c.kind-k.ensures ∙ z)) (λ z. c.if-k-eq-LEFT_BRACKET.false (c.kind-k.ensures ∙ z)))

pub group_expr-returns-in_err-consume : goal.group_expr-returns-in_err-consume
unfolding group_expr
group_expr-returns-in_err-consume t c =
    let p0 = begin 1 (λ x. group_expr x (walkers x c.args.depth)) c.requires in
    conveyed (refused (λ x. consume x) _ (λ x. group_expr x (walkers x c.args.depth)) p0 c.in_err-consume.ensures.does refl) c.from_residual.ensures

pub group_expr-returns-in_err-assign_expr : goal.group_expr-returns-in_err-assign_expr
unfolding group_expr
group_expr-returns-in_err-assign_expr t c =
    let p0 = begin 1 (λ x. group_expr x (walkers x c.args.depth)) c.requires in
    let p1 = go (λ x. consume x) _ p0 c.in_ok-consume.ensures.does in
    conveyed (stop (λ x. (walkers x c.args.depth).assign) _ (λ x. group_expr x (walkers x c.args.depth)) p1 (omega arith) c.in_err-assign_expr.ensures) c.from_residual-in_err-assign_expr.ensures

pub group_expr-returns : goal.group_expr-returns
unfolding group_expr
group_expr-returns t c =
    let p0 = begin 1 (λ x. group_expr x (walkers x c.args.depth)) c.requires in
    let p1 = go (λ x. consume x) _ p0 c.in_ok-consume.ensures.does in
    let p2 = go (λ x. (walkers x c.args.depth).assign) _ p1 c.in_ok-assign_expr.ensures in
    last (λ x. expect x 2) (λ x. group_expr x (walkers x c.args.depth)) p2 (omega arith) c.expect.ensures.does

pub level-returns-then-not-binds : goal.level-returns-then-not-binds
level-returns-then-not-binds t c =
    free c.args.n c.args.depth c.requires.0 (sym c.binds.ensures ∙ c.if-not-binds.true)

pub level-returns-in_err-level_below : goal.level-returns-in_err-level_below
level-returns-in_err-level_below t c =
    conveyed (stop (Below c.args.n c.args.depth) _ (Whole c.args.n c.args.depth) (starts c.args.n c.args.depth c.requires.0 (some-level c.args.n _ (sym c.binds.ensures ∙ c.if-not-binds.false))) (omega arith) c.in_err-level_below.ensures) c.from_residual.ensures

pub level-loop-depth-init : goal.level-loop-depth-init
level-loop-depth-init t c =
    enters c.args.n c.args.depth c.requires.0 (some-level c.args.n _ (sym c.binds.ensures ∙ c.if-not-binds.false)) c.in_ok-level_below.ensures

pub level-returns-then-looseness-n : goal.level-returns-then-looseness-n
level-returns-then-looseness-n t c =
    ends c.args.n c.args.depth c.loop-depth.invariant (λ z. c.if-looseness-n.true (c.looseness.ensures ∙ ap looseness c.kind.ensures ∙ z))

pub level-returns-in_err-consume : goal.level-returns-in_err-consume
level-returns-in_err-consume t c =
    conveyed (refused (λ x. consume x) _ (Whole c.args.n c.args.depth) (sign c.args.n c.args.depth c.loop-depth.invariant (ap looseness (sym c.kind.ensures) ∙ sym c.looseness.ensures ∙ c.if-looseness-n.false)) c.in_err-consume.ensures.does refl) c.from_residual-in_err-consume.ensures

pub level-returns-in_err-unary_expr : goal.level-returns-in_err-unary_expr
level-returns-in_err-unary_expr t c =
    let s1 = signed c.args.n c.args.depth c.loop-depth.invariant (ap looseness (sym c.kind.ensures) ∙ sym c.looseness.ensures ∙ c.if-looseness-n.false) c.in_ok-consume.ensures.does in
    conveyed (stop (Operand c.args.n c.args.depth) _ (Whole c.args.n c.args.depth) s1 (omega arith) c.in_err-unary_expr.ensures) c.from_residual-in_err-unary_expr.ensures

pub level-returns-in_err-level_below-2 : goal.level-returns-in_err-level_below-2
level-returns-in_err-level_below-2 t c =
    let s1 = signed c.args.n c.args.depth c.loop-depth.invariant (ap looseness (sym c.kind.ensures) ∙ sym c.looseness.ensures ∙ c.if-looseness-n.false) c.in_ok-consume.ensures.does in
    let s2 = go (Operand c.args.n c.args.depth) _ s1 c.in_ok-unary_expr.ensures in
    conveyed (stop (Below c.args.n c.args.depth) _ (Whole c.args.n c.args.depth) s2 (omega arith) c.in_err-level_below-2.ensures) c.from_residual-in_err-level_below-2.ensures

pub level-returns-in_err-push_node : goal.level-returns-in_err-push_node
level-returns-in_err-push_node t c =
    let s1 = signed c.args.n c.args.depth c.loop-depth.invariant (ap looseness (sym c.kind.ensures) ∙ sym c.looseness.ensures ∙ c.if-looseness-n.false) c.in_ok-consume.ensures.does in
    let s2 = go (Operand c.args.n c.args.depth) _ s1 c.in_ok-unary_expr.ensures in
    let s3 = go (Below c.args.n c.args.depth) _ s2 c.in_ok-level_below-2.ensures in
    conveyed (refused (λ x. push x 22 false 2 c.loop-depth.p.at) _ (Whole c.args.n c.args.depth) s3 c.in_err-push_node.ensures.does refl) c.from_residual-in_err-push_node.ensures

pub level-loop-depth-smaller : goal.level-loop-depth-smaller
level-loop-depth-smaller t c =
    let s1 = signed c.args.n c.args.depth c.loop-depth.invariant (ap looseness (sym c.kind.ensures) ∙ sym c.looseness.ensures ∙ c.if-looseness-n.false) c.in_ok-consume.ensures.does in
    let s2 = go (Operand c.args.n c.args.depth) _ s1 c.in_ok-unary_expr.ensures in
    let s3 = go (Below c.args.n c.args.depth) _ s2 c.in_ok-level_below-2.ensures in
    let s4 = go (λ x. push x 22 false 2 c.loop-depth.p.at) _ s3 c.in_ok-push_node.ensures.does in
    nearer c.loop-depth.invariant _ (omega (arith, (c.in_ok-consume.ensures.does.fine c.loop-depth.invariant.at.is).on, (c.in_ok-unary_expr.ensures.fine s1.is).on, (c.in_ok-level_below-2.ensures.fine s2.is).on, (c.in_ok-push_node.ensures.does.fine s3.is).on))

pub level-loop-depth-preserved : goal.level-loop-depth-preserved
level-loop-depth-preserved t c =
    let s1 = signed c.args.n c.args.depth c.loop-depth.invariant (ap looseness (sym c.kind.ensures) ∙ sym c.looseness.ensures ∙ c.if-looseness-n.false) c.in_ok-consume.ensures.does in
    let s2 = go (Operand c.args.n c.args.depth) _ s1 c.in_ok-unary_expr.ensures in
    let s3 = go (Below c.args.n c.args.depth) _ s2 c.in_ok-level_below-2.ensures in
    let s4 = go (λ x. push x 22 false 2 c.loop-depth.p.at) _ s3 c.in_ok-push_node.ensures.does in
    onward c.loop-depth.invariant (omega (arith, (c.in_ok-consume.ensures.does.fine c.loop-depth.invariant.at.is).on, (c.in_ok-unary_expr.ensures.fine s1.is).on, (c.in_ok-level_below-2.ensures.fine s2.is).on, (c.in_ok-push_node.ensures.does.fine s3.is).on)) s4

pub primary_expr-returns-in_err-literal : goal.primary_expr-returns-in_err-literal
primary_expr-returns-in_err-literal t c =
    conveyed (last (λ x. literal x c.args.p.now.at) (λ x. primary_expr x (walkers x c.args.depth)) (of-literal c.args.depth c.requires (ap is_literal (sym c.kind-k.ensures) ∙ sym c.is_literal.ensures ∙ c.if-is_literal.true)) (omega (arith, passes-one c.args.p.now (not-eof is_literal (ap is_literal (sym c.kind-k.ensures) ∙ sym c.is_literal.ensures ∙ c.if-is_literal.true) literal-eof))) c.in_err-literal.ensures.does) c.from_residual.ensures

pub primary_expr-returns-then-is_literal : goal.primary_expr-returns-then-is_literal
primary_expr-returns-then-is_literal t c =
    last (λ x. literal x c.args.p.now.at) (λ x. primary_expr x (walkers x c.args.depth)) (of-literal c.args.depth c.requires (ap is_literal (sym c.kind-k.ensures) ∙ sym c.is_literal.ensures ∙ c.if-is_literal.true)) (omega (arith, passes-one c.args.p.now (not-eof is_literal (ap is_literal (sym c.kind-k.ensures) ∙ sym c.is_literal.ensures ∙ c.if-is_literal.true) literal-eof))) c.in_ok-literal.ensures.does

pub primary_expr-returns-then-k-eq-IDENT : goal.primary_expr-returns-then-k-eq-IDENT
primary_expr-returns-then-k-eq-IDENT t c =
    last (λ x. ident_expr x c.args.p.now.at) (λ x. primary_expr x (walkers x c.args.depth)) (of-name c.args.depth c.requires (ap is_literal (sym c.kind-k.ensures) ∙ sym c.is_literal.ensures ∙ c.if-is_literal.false) (sym c.kind-k.ensures ∙ c.if-k-eq-IDENT.true)) (omega arith) c.ident_expr.ensures

pub primary_expr-returns-then-k-eq-LEFT_PAREN : goal.primary_expr-returns-then-k-eq-LEFT_PAREN
primary_expr-returns-then-k-eq-LEFT_PAREN t c =
    last (λ x. group_expr x (walkers x c.args.depth)) (λ x. primary_expr x (walkers x c.args.depth)) (of-group c.args.depth c.requires (ap is_literal (sym c.kind-k.ensures) ∙ sym c.is_literal.ensures ∙ c.if-is_literal.false) (λ z. c.if-k-eq-IDENT.false (c.kind-k.ensures ∙ z)) (sym c.kind-k.ensures ∙ c.if-k-eq-LEFT_PAREN.true)) (omega arith) c.group_expr.ensures

pub primary_expr-returns-then-k-ne-AT : goal.primary_expr-returns-then-k-ne-AT
primary_expr-returns-then-k-ne-AT t c =
    last (λ x. throw_past x (InvalidTkn c.args.p.now.at)) (λ x. primary_expr x (walkers x c.args.depth)) (of-other c.args.depth c.requires (ap is_literal (sym c.kind-k.ensures) ∙ sym c.is_literal.ensures ∙ c.if-is_literal.false) (λ z. c.if-k-eq-IDENT.false (c.kind-k.ensures ∙ z)) (λ z. c.if-k-eq-LEFT_PAREN.false (c.kind-k.ensures ∙ z)) (λ z. c.if-k-ne-AT.true (c.kind-k.ensures ∙ z))) (omega arith) c.throw_past.ensures.does

pub primary_expr-returns-in_err-consume : goal.primary_expr-returns-in_err-consume
primary_expr-returns-in_err-consume t c =
    conveyed (refused (λ x. consume x) _ (λ x. primary_expr x (walkers x c.args.depth)) (of-at c.args.depth c.requires (ap is_literal (sym c.kind-k.ensures) ∙ sym c.is_literal.ensures ∙ c.if-is_literal.false) (λ z. c.if-k-eq-IDENT.false (c.kind-k.ensures ∙ z)) (λ z. c.if-k-eq-LEFT_PAREN.false (c.kind-k.ensures ∙ z)) (sym c.kind-k.ensures ∙ c.if-k-ne-AT.false)) c.in_err-consume.ensures.does refl) c.from_residual-in_err-consume.ensures

pub primary_expr-returns : goal.primary_expr-returns
primary_expr-returns t c =
    let p1 = go (λ x. consume x) _ (of-at c.args.depth c.requires (ap is_literal (sym c.kind-k.ensures) ∙ sym c.is_literal.ensures ∙ c.if-is_literal.false) (λ z. c.if-k-eq-IDENT.false (c.kind-k.ensures ∙ z)) (λ z. c.if-k-eq-LEFT_PAREN.false (c.kind-k.ensures ∙ z)) (sym c.kind-k.ensures ∙ c.if-k-ne-AT.false)) c.in_ok-consume.ensures.does in
    last (λ x. (walkers x c.args.depth).call) (λ x. primary_expr x (walkers x c.args.depth)) p1 (omega arith) c.fn_call_expr.ensures

pub unary_expr-returns-then-depth-eq0 : goal.unary_expr-returns-then-depth-eq0
unary_expr-returns-then-depth-eq0 t c =
    unary-none _ c.if-depth-eq0.true

pub unary_expr-returns : goal.unary_expr-returns
unfolding unary_expr
unary_expr-returns t c =
    let p0 = stood _ (kinded _ (unary-step c.requires c.args.depth c.if-depth-eq0.false)) in
    last (λ x. (walkers x (c.args.depth - 1)).call) (λ x. (walkers x c.args.depth).unary) (no _ _ p0 (ap is_unary (sym c.kind.ensures) ∙ sym c.is_unary.ensures ∙ c.if-is_unary.false)) (omega arith) c.fn_call_expr.ensures

pub unary_expr-returns-in_err-consume : goal.unary_expr-returns-in_err-consume
unfolding unary_expr
unary_expr-returns-in_err-consume t c =
    let p0 = stood _ (kinded _ (unary-step c.requires c.args.depth c.if-depth-eq0.false)) in
    let p1 = yes _ _ p0 (ap is_unary (sym c.kind.ensures) ∙ sym c.is_unary.ensures ∙ c.if-is_unary.true) in
    conveyed (refused (λ x. consume x) _ (λ x. (walkers x c.args.depth).unary) p1 c.in_err-consume.ensures.does refl) c.from_residual.ensures

pub unary_expr-returns-in_err-unary_expr : goal.unary_expr-returns-in_err-unary_expr
unfolding unary_expr
unary_expr-returns-in_err-unary_expr t c =
    let p0 = stood _ (kinded _ (unary-step c.requires c.args.depth c.if-depth-eq0.false)) in
    let p1 = yes _ _ p0 (ap is_unary (sym c.kind.ensures) ∙ sym c.is_unary.ensures ∙ c.if-is_unary.true) in
    let p2 = go (λ x. consume x) _ p1 c.in_ok-consume.ensures.does in
    conveyed (stop (λ x. (walkers x (c.args.depth - 1)).unary) _ (λ x. (walkers x c.args.depth).unary) p2 (omega arith) c.in_err-unary_expr.ensures) c.from_residual-in_err-unary_expr.ensures

pub unary_expr-returns-in_err-push_node : goal.unary_expr-returns-in_err-push_node
unfolding unary_expr
unary_expr-returns-in_err-push_node t c =
    let p0 = stood _ (kinded _ (unary-step c.requires c.args.depth c.if-depth-eq0.false)) in
    let p1 = yes _ _ p0 (ap is_unary (sym c.kind.ensures) ∙ sym c.is_unary.ensures ∙ c.if-is_unary.true) in
    let p2 = go (λ x. consume x) _ p1 c.in_ok-consume.ensures.does in
    let p3 = go (λ x. (walkers x (c.args.depth - 1)).unary) _ p2 c.in_ok-unary_expr.ensures in
    conveyed (last (λ x. push x 23 false 1 c.args.p.now.at) (λ x. (walkers x c.args.depth).unary) p3 (omega arith) c.in_err-push_node.ensures.does) c.from_residual-in_err-push_node.ensures

pub unary_expr-returns-then-is_unary : goal.unary_expr-returns-then-is_unary
unfolding unary_expr
unary_expr-returns-then-is_unary t c =
    let p0 = stood _ (kinded _ (unary-step c.requires c.args.depth c.if-depth-eq0.false)) in
    let p1 = yes _ _ p0 (ap is_unary (sym c.kind.ensures) ∙ sym c.is_unary.ensures ∙ c.if-is_unary.true) in
    let p2 = go (λ x. consume x) _ p1 c.in_ok-consume.ensures.does in
    let p3 = go (λ x. (walkers x (c.args.depth - 1)).unary) _ p2 c.in_ok-unary_expr.ensures in
    last (λ x. push x 23 false 1 c.args.p.now.at) (λ x. (walkers x c.args.depth).unary) p3 (omega arith) c.in_ok-push_node.ensures.does
