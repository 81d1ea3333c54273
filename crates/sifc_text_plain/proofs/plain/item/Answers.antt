use Rattle.sifc_put.proofs.Frame.{put, end, stop}
use Rattle.sifc_text_plain.proofs.Forms.{item-part}
use Rattle.sifc_text_plain.proofs.plain.item.Goals as goal

pub returns-in_err-keyword : goal.returns-in_err-keyword
returns-in_err-keyword c =
    let c0 = item-part c.args.w.now in
    let c1 = put c.requires c0 c.in_ok-expr.ensures in
    stop c1 c.in_err-keyword.ensures c.from_residual-in_err-keyword.ensures.0

pub returns : goal.returns
returns c =
    let c0 = item-part c.args.w.now in
    let c1 = put c.requires c0 c.in_ok-expr.ensures in
    let c2 = put c.requires c1 c.in_ok-keyword.ensures in
    end c.requires c2 c.put_token.ensures
