use native.Mathlib.Omega.{arith}
use Rattle.sifc_put.specs.Post.{inp_of}
use Rattle.sifc_put.proofs.Frame.{spot, put, end, stop}
use Rattle.sifc_text_plain.proofs.Forms.{head, var-root, declared-part, unset-part, set-part}
use Rattle.sifc_text_plain.proofs.plain.var_decl.Goals as goal

pub children-values-requires : goal.children-values-requires
children-values-requires c = head c.args.w.now (var-root (inp_of c.args.w.now) c.requires.tree c.requires.lo c.args.w.now.node c.requires.spans)

pub overflow_sub-w : goal.overflow_sub-w
overflow_sub-w c = omega (arith, (var-root (inp_of c.args.w.now) c.requires.tree c.requires.lo c.args.w.now.node c.requires.spans).some)

pub returns-in_err-put_sign : goal.returns-in_err-put_sign
returns-in_err-put_sign c =
    let c0 = declared-part c.args.w.now in
    stop c0 c.in_err-put_sign.ensures c.from_residual.ensures.0

pub put_token-requires : goal.put_token-requires
put_token-requires c =
    let s0 = declared-part c.args.w.now in
    let s1 = put c.requires s0 c.in_ok-put_sign.ensures in
    let c0 = unset-part c.args.w.now c.put_sign.new.self c.children-values.ensures s1 c.if-values-eq0.true in
    spot c.requires c0

pub returns-in_err-put_token : goal.returns-in_err-put_token
returns-in_err-put_token c =
    let s0 = declared-part c.args.w.now in
    let s1 = put c.requires s0 c.in_ok-put_sign.ensures in
    let c0 = unset-part c.args.w.now c.put_sign.new.self c.children-values.ensures s1 c.if-values-eq0.true in
    stop c0 c.in_err-put_token.ensures c.from_residual-in_err-put_token.ensures.0

pub returns-then-values-eq0 : goal.returns-then-values-eq0
returns-then-values-eq0 c =
    let s0 = declared-part c.args.w.now in
    let s1 = put c.requires s0 c.in_ok-put_sign.ensures in
    let c0 = unset-part c.args.w.now c.put_sign.new.self c.children-values.ensures s1 c.if-values-eq0.true in
    let c1 = put c.requires c0 c.in_ok-put_token.ensures in
    end c.requires c1 c.keyword.ensures

pub value-requires : goal.value-requires
value-requires c =
    let s0 = declared-part c.args.w.now in
    let s1 = put c.requires s0 c.in_ok-put_sign.ensures in
    let c0 = set-part c.args.w.now c.put_sign.new.self c.children-values.ensures s1 c.if-values-eq0.false in
    spot c.requires c0

pub returns-in_err-value : goal.returns-in_err-value
returns-in_err-value c =
    let s0 = declared-part c.args.w.now in
    let s1 = put c.requires s0 c.in_ok-put_sign.ensures in
    let c0 = set-part c.args.w.now c.put_sign.new.self c.children-values.ensures s1 c.if-values-eq0.false in
    stop c0 c.in_err-value.ensures c.from_residual-in_err-value.ensures.0

pub returns-in_err-put_sign-2 : goal.returns-in_err-put_sign-2
returns-in_err-put_sign-2 c =
    let s0 = declared-part c.args.w.now in
    let s1 = put c.requires s0 c.in_ok-put_sign.ensures in
    let c0 = set-part c.args.w.now c.put_sign.new.self c.children-values.ensures s1 c.if-values-eq0.false in
    let c1 = put c.requires c0 c.in_ok-value.ensures in
    stop c1 c.in_err-put_sign-2.ensures c.from_residual-in_err-put_sign-2.ensures.0

pub put_token-requires-2 : goal.put_token-requires-2
put_token-requires-2 c =
    let s0 = declared-part c.args.w.now in
    let s1 = put c.requires s0 c.in_ok-put_sign.ensures in
    let c0 = set-part c.args.w.now c.put_sign.new.self c.children-values.ensures s1 c.if-values-eq0.false in
    let c1 = put c.requires c0 c.in_ok-value.ensures in
    let c2 = put c.requires c1 c.in_ok-put_sign-2.ensures in
    spot c.requires c2

pub returns-in_err-put_token-2 : goal.returns-in_err-put_token-2
returns-in_err-put_token-2 c =
    let s0 = declared-part c.args.w.now in
    let s1 = put c.requires s0 c.in_ok-put_sign.ensures in
    let c0 = set-part c.args.w.now c.put_sign.new.self c.children-values.ensures s1 c.if-values-eq0.false in
    let c1 = put c.requires c0 c.in_ok-value.ensures in
    let c2 = put c.requires c1 c.in_ok-put_sign-2.ensures in
    stop c2 c.in_err-put_token-2.ensures c.from_residual-in_err-put_token-2.ensures.0

pub returns : goal.returns
returns c =
    let s0 = declared-part c.args.w.now in
    let s1 = put c.requires s0 c.in_ok-put_sign.ensures in
    let c0 = set-part c.args.w.now c.put_sign.new.self c.children-values.ensures s1 c.if-values-eq0.false in
    let c1 = put c.requires c0 c.in_ok-value.ensures in
    let c2 = put c.requires c1 c.in_ok-put_sign-2.ensures in
    let c3 = put c.requires c2 c.in_ok-put_token-2.ensures in
    end c.requires c3 c.keyword-2.ensures
