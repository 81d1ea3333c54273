use native.Mathlib.Omega.{arith}
use mathlib.Core.Path.{◌∙◌}
use Rattle.sifc_put.specs.Post.{inp_of}
use Rattle.sifc_put.proofs.Frame.{spot, put, end, stop}
use Rattle.sifc_text_plain.proofs.Forms.{head, array-list, array-root, bare-part, array-part}
use Rattle.sifc_text_plain.proofs.plain.array.Goals as goal

pub children-lists-requires : goal.children-lists-requires
children-lists-requires c = head c.args.w.now (array-root (inp_of c.args.w.now) c.requires.tree c.requires.lo c.args.w.now.node c.requires.spans)

pub overflow_sub-w : goal.overflow_sub-w
overflow_sub-w c = omega (arith, (array-root (inp_of c.args.w.now) c.requires.tree c.requires.lo c.args.w.now.node c.requires.spans).some)

pub returns-in_err-put_sign : goal.returns-in_err-put_sign
returns-in_err-put_sign c =
    let c0 = bare-part c.args.w.now c.children-lists.ensures c.if-lists-eq0.true in
    stop c0 c.in_err-put_sign.ensures c.from_residual.ensures.0

pub returns-then-lists-eq0 : goal.returns-then-lists-eq0
returns-then-lists-eq0 c =
    let c0 = bare-part c.args.w.now c.children-lists.ensures c.if-lists-eq0.true in
    let c1 = put c.requires c0 c.in_ok-put_sign.ensures in
    end c.requires c1 c.put_sign-then-lists-eq0.ensures

pub children-count-requires : goal.children-count-requires
children-count-requires c = record { some = (array-list (inp_of c.args.w.now) c.requires.tree c.requires.lo c.args.w.now.node c.requires.spans (λ e. c.if-lists-eq0.false (c.children-lists.ensures ∙ e))).some; in_heads = (array-list (inp_of c.args.w.now) c.requires.tree c.requires.lo c.args.w.now.node c.requires.spans (λ e. c.if-lists-eq0.false (c.children-lists.ensures ∙ e))).in_heads }

pub overflow_sub-w-2 : goal.overflow_sub-w-2
overflow_sub-w-2 c = omega (arith, (array-list (inp_of c.args.w.now) c.requires.tree c.requires.lo c.args.w.now.node c.requires.spans (λ e. c.if-lists-eq0.false (c.children-lists.ensures ∙ e))).some)

pub returns-in_err-put_sign-2 : goal.returns-in_err-put_sign-2
returns-in_err-put_sign-2 c =
    let c0 = array-part c.args.w.now c.children-lists.ensures c.if-lists-eq0.false c.children-count.ensures in
    stop c0 c.in_err-put_sign-2.ensures c.from_residual-in_err-put_sign-2.ensures.0

pub exprs-requires : goal.exprs-requires
exprs-requires c =
    let c0 = array-part c.args.w.now c.children-lists.ensures c.if-lists-eq0.false c.children-count.ensures in
    let c1 = put c.requires c0 c.in_ok-put_sign-2.ensures in
    spot c.requires c1

pub returns-in_err-exprs : goal.returns-in_err-exprs
returns-in_err-exprs c =
    let c0 = array-part c.args.w.now c.children-lists.ensures c.if-lists-eq0.false c.children-count.ensures in
    let c1 = put c.requires c0 c.in_ok-put_sign-2.ensures in
    stop c1 c.in_err-exprs.ensures c.from_residual-in_err-exprs.ensures.0

pub returns : goal.returns
returns c =
    let c0 = array-part c.args.w.now c.children-lists.ensures c.if-lists-eq0.false c.children-count.ensures in
    let c1 = put c.requires c0 c.in_ok-put_sign-2.ensures in
    let c2 = put c.requires c1 c.in_ok-exprs.ensures in
    end c.requires c2 c.put_sign-3.ensures
