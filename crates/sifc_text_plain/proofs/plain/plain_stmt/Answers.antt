use native.Mathlib.Omega.{arith}
use Rattle.sifc_put.specs.Post.{inp_of}
use Rattle.sifc_put.proofs.Frame.{spot, put, here, end, stop}
use Rattle.sifc_text_plain.proofs.Forms.{head, plain-root, var-part, bodied-part, return-part, led-part, word-part, done-part}
use Rattle.sifc_text_plain.proofs.plain.plain_stmt.Goals as goal

pub kind-kind-requires : goal.kind-kind-requires
kind-kind-requires c = head c.args.w.now (plain-root (inp_of c.args.w.now) c.requires.tree c.requires.lo c.args.w.now.node c.requires.spans)

pub var_decl-requires : goal.var_decl-requires
var_decl-requires c = here c.requires (var-part c.args.w.now c.kind-kind.ensures c.if-kind-eq-VAR_DECL.true)

pub returns-then-kind-eq-VAR_DECL : goal.returns-then-kind-eq-VAR_DECL
returns-then-kind-eq-VAR_DECL c = end c.requires (var-part c.args.w.now c.kind-kind.ensures c.if-kind-eq-VAR_DECL.true) c.var_decl.ensures

pub children-exprs-requires : goal.children-exprs-requires
children-exprs-requires c = head c.args.w.now (plain-root (inp_of c.args.w.now) c.requires.tree c.requires.lo c.args.w.now.node c.requires.spans)

pub overflow_sub-w : goal.overflow_sub-w
overflow_sub-w c = omega (arith, (plain-root (inp_of c.args.w.now) c.requires.tree c.requires.lo c.args.w.now.node c.requires.spans).some)

pub returns-in_err-put_sign : goal.returns-in_err-put_sign
returns-in_err-put_sign c =
    let c0 = bodied-part c.args.w.now c.kind-kind.ensures c.if-kind-eq-VAR_DECL.false in
    stop c0 c.in_err-put_sign.ensures c.from_residual.ensures.0

pub returns-then-exprs-eq0 : goal.returns-then-exprs-eq0
returns-then-exprs-eq0 c =
    let s0 = bodied-part c.args.w.now c.kind-kind.ensures c.if-kind-eq-VAR_DECL.false in
    let s1 = put c.requires s0 c.in_ok-put_sign.ensures in
    let c0 = return-part c.args.w.now c.put_sign.new.self c.children-exprs.ensures s1 c.if-exprs-eq0.true in
    end c.requires c0 c.keyword.ensures

pub expr-requires : goal.expr-requires
expr-requires c =
    let s0 = bodied-part c.args.w.now c.kind-kind.ensures c.if-kind-eq-VAR_DECL.false in
    let s1 = put c.requires s0 c.in_ok-put_sign.ensures in
    let c0 = led-part c.args.w.now c.put_sign.new.self c.children-exprs.ensures s1 c.if-exprs-eq0.false in
    spot c.requires c0

pub returns-in_err-expr : goal.returns-in_err-expr
returns-in_err-expr c =
    let s0 = bodied-part c.args.w.now c.kind-kind.ensures c.if-kind-eq-VAR_DECL.false in
    let s1 = put c.requires s0 c.in_ok-put_sign.ensures in
    let c0 = led-part c.args.w.now c.put_sign.new.self c.children-exprs.ensures s1 c.if-exprs-eq0.false in
    stop c0 c.in_err-expr.ensures c.from_residual-in_err-expr.ensures.0

pub returns : goal.returns
returns c =
    let s0 = bodied-part c.args.w.now c.kind-kind.ensures c.if-kind-eq-VAR_DECL.false in
    let s1 = put c.requires s0 c.in_ok-put_sign.ensures in
    let c0 = led-part c.args.w.now c.put_sign.new.self c.children-exprs.ensures s1 c.if-exprs-eq0.false in
    let c1 = put c.requires c0 c.in_ok-expr.ensures in
    let c2 = word-part c.args.w.now c.expr.new.w c1 c.kind-kind.ensures c.if-kind-ne-RETURN_STMT.false in
    end c.requires c2 c.keyword-2.ensures

pub returns-then-kind-ne-RETURN_STMT : goal.returns-then-kind-ne-RETURN_STMT
returns-then-kind-ne-RETURN_STMT c =
    let s0 = bodied-part c.args.w.now c.kind-kind.ensures c.if-kind-eq-VAR_DECL.false in
    let s1 = put c.requires s0 c.in_ok-put_sign.ensures in
    let c0 = led-part c.args.w.now c.put_sign.new.self c.children-exprs.ensures s1 c.if-exprs-eq0.false in
    let c1 = put c.requires c0 c.in_ok-expr.ensures in
    done-part c.args.w.now c.expr.new.w c1 c.kind-kind.ensures c.if-kind-ne-RETURN_STMT.true
