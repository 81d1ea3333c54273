use native.Mathlib.Omega.{arith}
use Rattle.std.proofs.Common.{rules}
use mathlib.Core.Path.{sym, ◌∙◌}
use Prim.Native.Nat.{◌-◌}
use Rattle.sifc_put.specs.Post.{inp_of}
use Rattle.sifc_put.proofs.Frame.{spot, put, here, end, stop}
use Rattle.sifc_put.proofs.Items.{items-at, items-written}
use Rattle.sifc_text_expr.specs.Kinds.{expr_l}
use Rattle.sifc_text_expr.proofs.Roots.{readable, root, root-head}
use Rattle.sifc_text_expr.proofs.Forms.{counts_target, bare-part, closed-part, prim-part, one-part, chain-part, call-part, subscript-part, index-part, element-part, dot-part, set-part, joined-part, two-part, left-part}
use Rattle.sifc_text_expr.proofs.writer.+expressions.Goals as goal

pub call-children-count-requires : goal.call-children-count-requires
call-children-count-requires t c = root-head c.args.w.now c.requires.0

pub call-overflow_sub-count : goal.call-overflow_sub-count
call-overflow_sub-count t c = omega (arith, c.children-count.ensures, counts_target (inp_of c.args.w.now) c.args.w.now.node c.requires.1 c.requires.0.tree c.requires.0.lo c.requires.0.spans)

pub call-overflow_sub-w : goal.call-overflow_sub-w
call-overflow_sub-w t c = omega (arith, (root c.args.w.now c.requires.0).some)

pub call-returns-in_err-put_sign : goal.call-returns-in_err-put_sign
call-returns-in_err-put_sign t c =
    let c0 = call-part c.args.w.now c.requires.1 c.children-count.ensures in
    stop c0 c.in_err-put_sign.ensures c.from_residual.ensures.0

pub call-exprs-requires : goal.call-exprs-requires
call-exprs-requires t c =
    let c0 = call-part c.args.w.now c.requires.1 c.children-count.ensures in
    let c1 = put c.requires.0 c0 c.in_ok-put_sign.ensures in
    (omega (arith, c.decreases, (root c.args.w.now c.requires.0).some, c.in_ok-put_sign.ensures.goes.node), spot c.requires.0 c1)

pub call-returns-in_err-exprs : goal.call-returns-in_err-exprs
call-returns-in_err-exprs t c =
    let c0 = call-part c.args.w.now c.requires.1 c.children-count.ensures in
    let c1 = put c.requires.0 c0 c.in_ok-put_sign.ensures in
    stop c1 c.in_err-exprs.ensures c.from_residual-in_err-exprs.ensures.0

pub call-returns-in_err-put_sign-2 : goal.call-returns-in_err-put_sign-2
call-returns-in_err-put_sign-2 t c =
    let c0 = call-part c.args.w.now c.requires.1 c.children-count.ensures in
    let c1 = put c.requires.0 c0 c.in_ok-put_sign.ensures in
    let c2 = put c.requires.0 c1 c.in_ok-exprs.ensures in
    stop c2 c.in_err-put_sign-2.ensures c.from_residual-in_err-put_sign-2.ensures.0

pub call-leaf-requires : goal.call-leaf-requires
call-leaf-requires t c =
    let c0 = call-part c.args.w.now c.requires.1 c.children-count.ensures in
    let c1 = put c.requires.0 c0 c.in_ok-put_sign.ensures in
    let c2 = put c.requires.0 c1 c.in_ok-exprs.ensures in
    let c3 = put c.requires.0 c2 c.in_ok-put_sign-2.ensures in
    here c.requires.0 c3

pub call-returns : goal.call-returns
call-returns t c =
    let c0 = call-part c.args.w.now c.requires.1 c.children-count.ensures in
    let c1 = put c.requires.0 c0 c.in_ok-put_sign.ensures in
    let c2 = put c.requires.0 c1 c.in_ok-exprs.ensures in
    let c3 = put c.requires.0 c2 c.in_ok-put_sign-2.ensures in
    end c.requires.0 c3 c.leaf.ensures

pub element-overflow_sub-w : goal.element-overflow_sub-w
element-overflow_sub-w t c = omega (arith, (root c.args.w.now c.requires.0).some)

pub element-expr-requires : goal.element-expr-requires
element-expr-requires t c =
    let c0 = element-part c.args.w.now c.requires.1 in
    (omega (arith, c.decreases, (root c.args.w.now c.requires.0).some), spot c.requires.0 c0)

pub element-returns-in_err-expr : goal.element-returns-in_err-expr
element-returns-in_err-expr t c =
    let c0 = element-part c.args.w.now c.requires.1 in
    stop c0 c.in_err-expr.ensures c.from_residual.ensures.0

pub element-returns-in_err-put_sign : goal.element-returns-in_err-put_sign
element-returns-in_err-put_sign t c =
    let c0 = element-part c.args.w.now c.requires.1 in
    let c1 = put c.requires.0 c0 c.in_ok-expr.ensures in
    stop c1 c.in_err-put_sign.ensures c.from_residual-in_err-put_sign.ensures.0

pub element-subscript-requires : goal.element-subscript-requires
element-subscript-requires t c =
    let c0 = element-part c.args.w.now c.requires.1 in
    let c1 = put c.requires.0 c0 c.in_ok-expr.ensures in
    let c2 = put c.requires.0 c1 c.in_ok-put_sign.ensures in
    (omega (arith, c.decreases, (root c.args.w.now c.requires.0).some, c.in_ok-expr.ensures.goes.node, c.in_ok-put_sign.ensures.goes.node), here c.requires.0 c2)

pub element-returns : goal.element-returns
element-returns t c =
    let c0 = element-part c.args.w.now c.requires.1 in
    let c1 = put c.requires.0 c0 c.in_ok-expr.ensures in
    let c2 = put c.requires.0 c1 c.in_ok-put_sign.ensures in
    end c.requires.0 c2 c.subscript.ensures

pub expr-kind-requires : goal.expr-kind-requires
expr-kind-requires t c = root-head c.loop-hi.w (here c.requires c.loop-hi.invariant)

pub expr-height-n-requires : goal.expr-height-n-requires
expr-height-n-requires t c = root c.loop-hi.w (here c.requires c.loop-hi.invariant)

pub expr-overflow_sub-w : goal.expr-overflow_sub-w
expr-overflow_sub-w t c = omega (arith, (root c.loop-hi.w (here c.requires c.loop-hi.invariant)).some)

pub expr-operand-requires : goal.expr-operand-requires
expr-operand-requires t c =
    let c0 = two-part c.loop-hi.w c.loop-hi.invariant c.kind.ensures c.loop-hi-test.true c.height-n.ensures in
    (omega (arith, c.decreases, (root c.loop-hi.w (here c.requires c.loop-hi.invariant)).some, c.loop-hi.invariant.goes.node), spot c.requires c0)

pub expr-returns-in_err-operand : goal.expr-returns-in_err-operand
expr-returns-in_err-operand t c =
    let c0 = two-part c.loop-hi.w c.loop-hi.invariant c.kind.ensures c.loop-hi-test.true c.height-n.ensures in
    stop c0 c.in_err-operand.ensures c.from_residual.ensures.0

pub expr-put_token-requires : goal.expr-put_token-requires
expr-put_token-requires t c =
    let c0 = two-part c.loop-hi.w c.loop-hi.invariant c.kind.ensures c.loop-hi-test.true c.height-n.ensures in
    let c1 = put c.requires c0 c.in_ok-operand.ensures in
    spot c.requires c1

pub expr-returns-in_err-put_token : goal.expr-returns-in_err-put_token
expr-returns-in_err-put_token t c =
    let c0 = two-part c.loop-hi.w c.loop-hi.invariant c.kind.ensures c.loop-hi-test.true c.height-n.ensures in
    let c1 = put c.requires c0 c.in_ok-operand.ensures in
    stop c1 c.in_err-put_token.ensures c.from_residual-in_err-put_token.ensures.0

pub expr-height-requires : goal.expr-height-requires
expr-height-requires t c =
    let c0 = two-part c.loop-hi.w c.loop-hi.invariant c.kind.ensures c.loop-hi-test.true c.height-n.ensures in
    let c1 = put c.requires c0 c.in_ok-operand.ensures in
    let c2 = put c.requires c1 c.in_ok-put_token.ensures in
    readable (inp_of c.put_token.new.self) (here c.requires c2).tree (here c.requires c2).lo c.put_token.new.self.node (here c.requires c2).spans

pub expr-operand-requires-then-n-height : goal.expr-operand-requires-then-n-height
expr-operand-requires-then-n-height t c =
    let c0 = two-part c.loop-hi.w c.loop-hi.invariant c.kind.ensures c.loop-hi-test.true c.height-n.ensures in
    let c1 = put c.requires c0 c.in_ok-operand.ensures in
    let c2 = put c.requires c1 c.in_ok-put_token.ensures in
    (omega (arith, c.decreases, (root c.loop-hi.w (here c.requires c.loop-hi.invariant)).some, c.loop-hi.invariant.goes.node, c.in_ok-operand.ensures.goes.node, c.in_ok-put_token.ensures.goes.node), here c.requires c2)

pub expr-returns-then-n-height : goal.expr-returns-then-n-height
expr-returns-then-n-height t c =
    let c0 = two-part c.loop-hi.w c.loop-hi.invariant c.kind.ensures c.loop-hi-test.true c.height-n.ensures in
    let c1 = put c.requires c0 c.in_ok-operand.ensures in
    let c2 = put c.requires c1 c.in_ok-put_token.ensures in
    end c.requires c2 c.operand-then-n-height.ensures

pub expr-loop-hi-smaller : goal.expr-loop-hi-smaller
expr-loop-hi-smaller t c = omega (arith, (root c.loop-hi.w (here c.requires c.loop-hi.invariant)).some, c.in_ok-operand.ensures.goes.node, c.in_ok-put_token.ensures.goes.node)

pub expr-loop-hi-preserved : goal.expr-loop-hi-preserved
expr-loop-hi-preserved t c =
    let c0 = two-part c.loop-hi.w c.loop-hi.invariant c.kind.ensures c.loop-hi-test.true c.height-n.ensures in
    let c1 = put c.requires c0 c.in_ok-operand.ensures in
    let c2 = put c.requires c1 c.in_ok-put_token.ensures in
    left-part c.put_token.new.self c2 c.height.ensures c.if-n-height.false

pub exprs-list-requires : goal.exprs-list-requires
exprs-list-requires t c = items-at {K = expr_l} c.requires (record { ready = λ p g z. search (rules, g.node, c.decreases); writes = λ p q r z d. search rules })

pub exprs-returns : goal.exprs-returns
exprs-returns t c = items-written {K = expr_l} c.requires (record { ready = λ p g z. search (rules, g.node, c.decreases); writes = λ p q r z d. search rules }) c.list.ensures

pub linked-expr-requires : goal.linked-expr-requires
linked-expr-requires t c =
    let c0 = joined-part c.args.w.now c.args.sign in
    (omega (arith, c.decreases), spot c.requires c0)

pub linked-returns-in_err-expr : goal.linked-returns-in_err-expr
linked-returns-in_err-expr t c =
    let c0 = joined-part c.args.w.now c.args.sign in
    stop c0 c.in_err-expr.ensures c.from_residual.ensures.0

pub linked-returns-in_err-put_sign : goal.linked-returns-in_err-put_sign
linked-returns-in_err-put_sign t c =
    let c0 = joined-part c.args.w.now c.args.sign in
    let c1 = put c.requires c0 c.in_ok-expr.ensures in
    stop c1 c.in_err-put_sign.ensures c.from_residual-in_err-put_sign.ensures.0

pub linked-leaf-requires : goal.linked-leaf-requires
linked-leaf-requires t c =
    let c0 = joined-part c.args.w.now c.args.sign in
    let c1 = put c.requires c0 c.in_ok-expr.ensures in
    let c2 = put c.requires c1 c.in_ok-put_sign.ensures in
    here c.requires c2

pub linked-returns : goal.linked-returns
linked-returns t c =
    let c0 = joined-part c.args.w.now c.args.sign in
    let c1 = put c.requires c0 c.in_ok-expr.ensures in
    let c2 = put c.requires c1 c.in_ok-put_sign.ensures in
    end c.requires c2 c.leaf.ensures

pub operand-height-requires : goal.operand-height-requires
operand-height-requires t c = readable (inp_of c.args.w.now) c.requires.tree c.requires.lo c.args.w.now.node c.requires.spans

pub operand-returns-then-height-below : goal.operand-returns-then-height-below
operand-returns-then-height-below t c = end c.requires (bare-part c.args.w.now c.args.below c.height.ensures c.if-height-below.true) c.expr.ensures

pub operand-returns-in_err-put_sign : goal.operand-returns-in_err-put_sign
operand-returns-in_err-put_sign t c =
    let c0 = closed-part c.args.w.now c.args.below c.height.ensures c.if-height-below.false in
    stop c0 c.in_err-put_sign.ensures c.from_residual.ensures.0

pub operand-expr-requires-2 : goal.operand-expr-requires-2
operand-expr-requires-2 t c =
    let c0 = closed-part c.args.w.now c.args.below c.height.ensures c.if-height-below.false in
    let c1 = put c.requires c0 c.in_ok-put_sign.ensures in
    (omega (arith, c.decreases, c.in_ok-put_sign.ensures.goes.node), spot c.requires c1)

pub operand-returns-in_err-expr : goal.operand-returns-in_err-expr
operand-returns-in_err-expr t c =
    let c0 = closed-part c.args.w.now c.args.below c.height.ensures c.if-height-below.false in
    let c1 = put c.requires c0 c.in_ok-put_sign.ensures in
    stop c1 c.in_err-expr.ensures c.from_residual-in_err-expr.ensures.0

pub operand-returns : goal.operand-returns
operand-returns t c =
    let c0 = closed-part c.args.w.now c.args.below c.height.ensures c.if-height-below.false in
    let c1 = put c.requires c0 c.in_ok-put_sign.ensures in
    let c2 = put c.requires c1 c.in_ok-expr.ensures in
    end c.requires c2 c.put_sign-2.ensures

pub simple-kind-kind-requires : goal.simple-kind-kind-requires
simple-kind-kind-requires t c = root-head c.args.w.now c.requires.0

pub simple-leaf-requires : goal.simple-leaf-requires
simple-leaf-requires t c = here c.requires.0 (prim-part c.args.w.now c.kind-kind.ensures c.if-kind-eq-PRIMARY_EXPR.true)

pub simple-returns-then-kind-eq-PRIMARY_EXPR : goal.simple-returns-then-kind-eq-PRIMARY_EXPR
simple-returns-then-kind-eq-PRIMARY_EXPR t c = end c.requires.0 (prim-part c.args.w.now c.kind-kind.ensures c.if-kind-eq-PRIMARY_EXPR.true) c.leaf.ensures

pub simple-overflow_sub-w : goal.simple-overflow_sub-w
simple-overflow_sub-w t c = omega (arith, (root c.args.w.now c.requires.0).some)

pub simple-subscript-requires : goal.simple-subscript-requires
simple-subscript-requires t c =
    let c0 = subscript-part c.args.w.now c.kind-kind.ensures c.if-kind-eq-ARRAY_ACCESS.true in
    (omega (arith, c.decreases, (root c.args.w.now c.requires.0).some), here c.requires.0 c0)

pub simple-returns-then-kind-eq-ARRAY_ACCESS : goal.simple-returns-then-kind-eq-ARRAY_ACCESS
simple-returns-then-kind-eq-ARRAY_ACCESS t c =
    let c0 = subscript-part c.args.w.now c.kind-kind.ensures c.if-kind-eq-ARRAY_ACCESS.true in
    end c.requires.0 c0 c.subscript.ensures

pub simple-linked-requires : goal.simple-linked-requires
simple-linked-requires t c =
    let c0 = dot-part c.args.w.now c.kind-kind.ensures c.if-kind-eq-TABLE_ACCESS.true in
    (omega (arith, c.decreases, (root c.args.w.now c.requires.0).some), here c.requires.0 c0)

pub simple-returns-then-kind-eq-TABLE_ACCESS : goal.simple-returns-then-kind-eq-TABLE_ACCESS
simple-returns-then-kind-eq-TABLE_ACCESS t c =
    let c0 = dot-part c.args.w.now c.kind-kind.ensures c.if-kind-eq-TABLE_ACCESS.true in
    end c.requires.0 c0 c.linked.ensures

pub simple-linked-requires-2 : goal.simple-linked-requires-2
simple-linked-requires-2 t c =
    let c0 = set-part c.args.w.now c.kind-kind.ensures (λ e. c.requires.1 (sym c.kind-kind.ensures ∙ e)) c.if-kind-eq-PRIMARY_EXPR.false c.if-kind-eq-UNARY_EXPR.false c.if-kind-eq-FN_CALL_EXPR.false c.if-kind-eq-ARRAY_ACCESS.false c.if-kind-eq-ARRAY_MUT_EXPR.false c.if-kind-eq-TABLE_ACCESS.false in
    (omega (arith, c.decreases, (root c.args.w.now c.requires.0).some), here c.requires.0 c0)

pub simple-returns : goal.simple-returns
simple-returns t c =
    let c0 = set-part c.args.w.now c.kind-kind.ensures (λ e. c.requires.1 (sym c.kind-kind.ensures ∙ e)) c.if-kind-eq-PRIMARY_EXPR.false c.if-kind-eq-UNARY_EXPR.false c.if-kind-eq-FN_CALL_EXPR.false c.if-kind-eq-ARRAY_ACCESS.false c.if-kind-eq-ARRAY_MUT_EXPR.false c.if-kind-eq-TABLE_ACCESS.false in
    end c.requires.0 c0 c.linked-2.ensures

pub subscript-returns-in_err-put_sign : goal.subscript-returns-in_err-put_sign
subscript-returns-in_err-put_sign t c =
    let c0 = index-part c.args.w.now in
    stop c0 c.in_err-put_sign.ensures c.from_residual.ensures.0

pub subscript-expr-requires : goal.subscript-expr-requires
subscript-expr-requires t c =
    let c0 = index-part c.args.w.now in
    let c1 = put c.requires c0 c.in_ok-put_sign.ensures in
    (omega (arith, c.decreases, c.in_ok-put_sign.ensures.goes.node), spot c.requires c1)

pub subscript-returns-in_err-expr : goal.subscript-returns-in_err-expr
subscript-returns-in_err-expr t c =
    let c0 = index-part c.args.w.now in
    let c1 = put c.requires c0 c.in_ok-put_sign.ensures in
    stop c1 c.in_err-expr.ensures c.from_residual-in_err-expr.ensures.0

pub subscript-returns-in_err-put_sign-2 : goal.subscript-returns-in_err-put_sign-2
subscript-returns-in_err-put_sign-2 t c =
    let c0 = index-part c.args.w.now in
    let c1 = put c.requires c0 c.in_ok-put_sign.ensures in
    let c2 = put c.requires c1 c.in_ok-expr.ensures in
    stop c2 c.in_err-put_sign-2.ensures c.from_residual-in_err-put_sign-2.ensures.0

pub subscript-leaf-requires : goal.subscript-leaf-requires
subscript-leaf-requires t c =
    let c0 = index-part c.args.w.now in
    let c1 = put c.requires c0 c.in_ok-put_sign.ensures in
    let c2 = put c.requires c1 c.in_ok-expr.ensures in
    let c3 = put c.requires c2 c.in_ok-put_sign-2.ensures in
    here c.requires c3

pub subscript-returns : goal.subscript-returns
subscript-returns t c =
    let c0 = index-part c.args.w.now in
    let c1 = put c.requires c0 c.in_ok-put_sign.ensures in
    let c2 = put c.requires c1 c.in_ok-expr.ensures in
    let c3 = put c.requires c2 c.in_ok-put_sign-2.ensures in
    end c.requires c3 c.leaf.ensures

pub unary-overflow_sub-w : goal.unary-overflow_sub-w
unary-overflow_sub-w t c = omega (arith, (root c.args.w.now c.requires.0).some)

pub unary-kind-requires : goal.unary-kind-requires
unary-kind-requires t c =
    let c0 = one-part c.args.w.now c.requires.1 in
    let s = spot c.requires.0 c0 in
    let r = readable (inp_of c.args.w.now) s.tree s.lo (c.args.w.now.node - 1) s.spans in
    record { some = r.some; in_heads = r.in_heads }

pub unary-unary-requires : goal.unary-unary-requires
unary-unary-requires t c =
    let c0 = chain-part c.args.w.now c.requires.1 c.kind.ensures c.if-kind-eq-UNARY_EXPR.true in
    (omega (arith, c.decreases, (root c.args.w.now c.requires.0).some), (spot c.requires.0 c0, sym c.kind.ensures ∙ c.if-kind-eq-UNARY_EXPR.true))

pub unary-returns-in_err-unary : goal.unary-returns-in_err-unary
unary-returns-in_err-unary t c =
    let c0 = chain-part c.args.w.now c.requires.1 c.kind.ensures c.if-kind-eq-UNARY_EXPR.true in
    stop c0 c.in_err-unary.ensures c.from_residual.ensures.0

pub unary-put_token-requires : goal.unary-put_token-requires
unary-put_token-requires t c =
    let c0 = chain-part c.args.w.now c.requires.1 c.kind.ensures c.if-kind-eq-UNARY_EXPR.true in
    let c1 = put c.requires.0 c0 c.in_ok-unary.ensures in
    here c.requires.0 c1

pub unary-returns-then-kind-eq-UNARY_EXPR : goal.unary-returns-then-kind-eq-UNARY_EXPR
unary-returns-then-kind-eq-UNARY_EXPR t c =
    let c0 = chain-part c.args.w.now c.requires.1 c.kind.ensures c.if-kind-eq-UNARY_EXPR.true in
    let c1 = put c.requires.0 c0 c.in_ok-unary.ensures in
    end c.requires.0 c1 c.put_token.ensures

pub unary-operand-requires : goal.unary-operand-requires
unary-operand-requires t c =
    let c0 = one-part c.args.w.now c.requires.1 in
    (omega (arith, c.decreases, (root c.args.w.now c.requires.0).some), spot c.requires.0 c0)

pub unary-returns-in_err-operand : goal.unary-returns-in_err-operand
unary-returns-in_err-operand t c =
    let c0 = one-part c.args.w.now c.requires.1 in
    stop c0 c.in_err-operand.ensures c.from_residual-in_err-operand.ensures.0

pub unary-put_token-requires-2 : goal.unary-put_token-requires-2
unary-put_token-requires-2 t c =
    let c0 = one-part c.args.w.now c.requires.1 in
    let c1 = put c.requires.0 c0 c.in_ok-operand.ensures in
    here c.requires.0 c1

pub unary-returns : goal.unary-returns
unary-returns t c =
    let c0 = one-part c.args.w.now c.requires.1 in
    let c1 = put c.requires.0 c0 c.in_ok-operand.ensures in
    end c.requires.0 c1 c.put_token-2.ensures
