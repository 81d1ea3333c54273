use Rattle.sifc_put.proofs.Frame.{spot, put, end, stop}
use Rattle.sifc_text_plain.proofs.Forms.{table-part}
use Rattle.sifc_text_plain.proofs.plain.table.Goals as goal

pub returns-in_err-keyword : goal.returns-in_err-keyword
returns-in_err-keyword c =
    let c0 = table-part c.args.w.now c.children-count.ensures in
    stop c0 c.in_err-keyword.ensures c.from_residual.ensures.0

pub items-requires : goal.items-requires
items-requires c =
    let c0 = table-part c.args.w.now c.children-count.ensures in
    let c1 = put c.requires c0 c.in_ok-keyword.ensures in
    spot c.requires c1

pub returns-in_err-items : goal.returns-in_err-items
returns-in_err-items c =
    let c0 = table-part c.args.w.now c.children-count.ensures in
    let c1 = put c.requires c0 c.in_ok-keyword.ensures in
    stop c1 c.in_err-items.ensures c.from_residual-in_err-items.ensures.0

pub returns : goal.returns
returns c =
    let c0 = table-part c.args.w.now c.children-count.ensures in
    let c1 = put c.requires c0 c.in_ok-keyword.ensures in
    let c2 = put c.requires c1 c.in_ok-items.ensures in
    end c.requires c2 c.keyword-2.ensures
