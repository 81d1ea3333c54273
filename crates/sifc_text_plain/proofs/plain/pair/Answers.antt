use Rattle.sifc_put.proofs.Frame.{put, here, end, stop}
use Rattle.sifc_text_plain.proofs.Forms.{pair-part}
use Rattle.sifc_text_plain.proofs.plain.pair.Goals as goal

pub returns-in_err-leaf : goal.returns-in_err-leaf
returns-in_err-leaf c =
    let c0 = pair-part c.args.w.now in
    stop c0 c.in_err-leaf.ensures c.from_residual.ensures.0

pub returns-in_err-put_sign : goal.returns-in_err-put_sign
returns-in_err-put_sign c =
    let c0 = pair-part c.args.w.now in
    let c1 = put c.requires c0 c.in_ok-leaf.ensures in
    stop c1 c.in_err-put_sign.ensures c.from_residual-in_err-put_sign.ensures.0

pub leaf-requires-2 : goal.leaf-requires-2
leaf-requires-2 c =
    let c0 = pair-part c.args.w.now in
    let c1 = put c.requires c0 c.in_ok-leaf.ensures in
    let c2 = put c.requires c1 c.in_ok-put_sign.ensures in
    here c.requires c2

pub returns : goal.returns
returns c =
    let c0 = pair-part c.args.w.now in
    let c1 = put c.requires c0 c.in_ok-leaf.ensures in
    let c2 = put c.requires c1 c.in_ok-put_sign.ensures in
    end c.requires c2 c.leaf-2.ensures
