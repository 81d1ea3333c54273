use Rattle.sifc_put.specs.Post.{inp_of}
use Rattle.sifc_put.proofs.Frame.{here, end}
use Rattle.sifc_text_plain.proofs.Forms.{head, value-root, array-value-part, table-value-part, expr-value-part}
use Rattle.sifc_text_plain.proofs.plain.value.Goals as goal

pub kind-kind-requires : goal.kind-kind-requires
kind-kind-requires c = head c.args.w.now (value-root (inp_of c.args.w.now) c.requires.tree c.requires.lo c.args.w.now.node c.requires.spans)

pub array-requires : goal.array-requires
array-requires c = here c.requires (array-value-part c.args.w.now c.kind-kind.ensures c.if-kind-eq-ARRAY.true)

pub returns-then-kind-eq-ARRAY : goal.returns-then-kind-eq-ARRAY
returns-then-kind-eq-ARRAY c = end c.requires (array-value-part c.args.w.now c.kind-kind.ensures c.if-kind-eq-ARRAY.true) c.array.ensures

pub table-requires : goal.table-requires
table-requires c = here c.requires (table-value-part c.args.w.now c.kind-kind.ensures c.if-kind-eq-TABLE.true)

pub returns-then-kind-eq-TABLE : goal.returns-then-kind-eq-TABLE
returns-then-kind-eq-TABLE c = end c.requires (table-value-part c.args.w.now c.kind-kind.ensures c.if-kind-eq-TABLE.true) c.table.ensures

pub expr-requires : goal.expr-requires
expr-requires c = here c.requires (expr-value-part c.args.w.now c.kind-kind.ensures c.if-kind-eq-ARRAY.false c.if-kind-eq-TABLE.false)

pub returns : goal.returns
returns c = end c.requires (expr-value-part c.args.w.now c.kind-kind.ensures c.if-kind-eq-ARRAY.false c.if-kind-eq-TABLE.false) c.expr.ensures
