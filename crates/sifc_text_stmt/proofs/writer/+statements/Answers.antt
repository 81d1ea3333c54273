use native.Mathlib.Omega.{arith}
use Prim.Native.Nat.{◌+◌, ◌-◌}
use Rattle.sifc_put.specs.Post.{inp_of}
use Rattle.sifc_put.proofs.Frame.{spot, put, here, end, stop}
use Rattle.sifc_put.proofs.Rows.{next-row, no_row}
use Rattle.sifc_text_plain.proofs.Forms.{head}
use Rattle.sifc_text_stmt.specs.Kinds.{stmt_l, branch_l}
use Rattle.sifc_text_stmt.proofs.Forms.{stmt-root, branch-root, two-kids, block-part, braced-part, plain-part, elif-part, else-part, if-part, for-part, fn-part, named-part}
use Rattle.sifc_text_stmt.proofs.writer.+statements.Goals as goal

pub block-returns-in_err-put_sign : goal.block-returns-in_err-put_sign
block-returns-in_err-put_sign t c =
    let c0 = braced-part c.args.w.now c.children-count.ensures in
    stop c0 c.in_err-put_sign.ensures c.from_residual.ensures.0

pub block-stmts-requires : goal.block-stmts-requires
block-stmts-requires t c =
    let c0 = braced-part c.args.w.now c.children-count.ensures in
    let c1 = put c.requires c0 c.in_ok-put_sign.ensures in
    (omega (arith, c.decreases, c.requires.spans.top.some, c.in_ok-put_sign.ensures.goes.node), spot c.requires c1)

pub block-returns-in_err-stmts : goal.block-returns-in_err-stmts
block-returns-in_err-stmts t c =
    let c0 = braced-part c.args.w.now c.children-count.ensures in
    let c1 = put c.requires c0 c.in_ok-put_sign.ensures in
    stop c1 c.in_err-stmts.ensures c.from_residual-in_err-stmts.ensures.0

pub block-returns : goal.block-returns
block-returns t c =
    let c0 = braced-part c.args.w.now c.children-count.ensures in
    let c1 = put c.requires c0 c.in_ok-put_sign.ensures in
    let c2 = put c.requires c1 c.in_ok-stmts.ensures in
    end c.requires c2 c.put_sign-2.ensures

pub branch-kind-requires : goal.branch-kind-requires
branch-kind-requires t c = head c.args.w.now (branch-root (inp_of c.args.w.now) c.requires.tree c.requires.lo c.args.w.now.node c.requires.spans)

pub branch-overflow_sub-w : goal.branch-overflow_sub-w
branch-overflow_sub-w t c = omega (arith, (branch-root (inp_of c.args.w.now) c.requires.tree c.requires.lo c.args.w.now.node c.requires.spans).some)

pub branch-guarded-requires : goal.branch-guarded-requires
branch-guarded-requires t c =
    let c0 = elif-part c.args.w.now c.kind.ensures c.if-kind-eq-ELIF_STMT.true in
    (omega (arith, c.decreases, (branch-root (inp_of c.args.w.now) c.requires.tree c.requires.lo c.args.w.now.node c.requires.spans).some), spot c.requires c0)

pub branch-returns-in_err-guarded : goal.branch-returns-in_err-guarded
branch-returns-in_err-guarded t c =
    let c0 = elif-part c.args.w.now c.kind.ensures c.if-kind-eq-ELIF_STMT.true in
    stop c0 c.in_err-guarded.ensures c.from_residual.ensures.0

pub branch-returns-then-kind-eq-ELIF_STMT : goal.branch-returns-then-kind-eq-ELIF_STMT
branch-returns-then-kind-eq-ELIF_STMT t c =
    let c0 = elif-part c.args.w.now c.kind.ensures c.if-kind-eq-ELIF_STMT.true in
    let c1 = put c.requires c0 c.in_ok-guarded.ensures in
    end c.requires c1 c.keyword.ensures

pub branch-block-requires : goal.branch-block-requires
branch-block-requires t c =
    let c0 = else-part c.args.w.now c.kind.ensures c.if-kind-eq-ELIF_STMT.false in
    (omega (arith, c.decreases), spot c.requires c0)

pub branch-returns-in_err-block : goal.branch-returns-in_err-block
branch-returns-in_err-block t c =
    let c0 = else-part c.args.w.now c.kind.ensures c.if-kind-eq-ELIF_STMT.false in
    stop c0 c.in_err-block.ensures c.from_residual-in_err-block.ensures.0

pub branch-returns : goal.branch-returns
branch-returns t c =
    let c0 = else-part c.args.w.now c.kind.ensures c.if-kind-eq-ELIF_STMT.false in
    let c1 = put c.requires c0 c.in_ok-block.ensures in
    end c.requires c1 c.keyword-2.ensures

pub branches-branch-w-requires : goal.branches-branch-w-requires
branches-branch-w-requires t c =
    let c0 = next-row branch_l (c.args.count - c.loop.counter) (c.args.count - (c.loop.counter + 1)) (omega (arith, c.loop-test.true)) c.loop.invariant in
    (omega (arith, c.decreases, c.loop.invariant.goes.node), spot c.requires c0)

pub branches-returns-in_err-branch : goal.branches-returns-in_err-branch
branches-returns-in_err-branch t c =
    let c0 = next-row branch_l (c.args.count - c.loop.counter) (c.args.count - (c.loop.counter + 1)) (omega (arith, c.loop-test.true)) c.loop.invariant in
    stop c0 c.in_err-branch.ensures c.from_residual.ensures.0

pub branches-loop-preserved : goal.branches-loop-preserved
branches-loop-preserved t c =
    let c0 = next-row branch_l (c.args.count - c.loop.counter) (c.args.count - (c.loop.counter + 1)) (omega (arith, c.loop-test.true)) c.loop.invariant in
    let c1 = put c.requires c0 c.in_ok-branch.ensures in
    c1

pub branches-returns : goal.branches-returns
branches-returns t c = no_row branch_l (c.args.count - c.loop.counter) (omega (arith, c.loop-test.false)) c.loop.invariant

pub stmts-stmt-requires : goal.stmts-stmt-requires
stmts-stmt-requires t c =
    let c0 = next-row stmt_l (c.args.count - c.loop.counter) (c.args.count - (c.loop.counter + 1)) (omega (arith, c.loop-test.true)) c.loop.invariant in
    (omega (arith, c.decreases, c.loop.invariant.goes.node), spot c.requires c0)

pub stmts-returns-in_err-stmt : goal.stmts-returns-in_err-stmt
stmts-returns-in_err-stmt t c =
    let c0 = next-row stmt_l (c.args.count - c.loop.counter) (c.args.count - (c.loop.counter + 1)) (omega (arith, c.loop-test.true)) c.loop.invariant in
    stop c0 c.in_err-stmt.ensures c.from_residual.ensures.0

pub stmts-loop-preserved : goal.stmts-loop-preserved
stmts-loop-preserved t c =
    let c0 = next-row stmt_l (c.args.count - c.loop.counter) (c.args.count - (c.loop.counter + 1)) (omega (arith, c.loop-test.true)) c.loop.invariant in
    let c1 = put c.requires c0 c.in_ok-stmt.ensures in
    c1

pub stmts-returns : goal.stmts-returns
stmts-returns t c = no_row stmt_l (c.args.count - c.loop.counter) (omega (arith, c.loop-test.false)) c.loop.invariant

pub fn_decl-overflow_sub-w : goal.fn_decl-overflow_sub-w
fn_decl-overflow_sub-w t c = omega (arith, (stmt-root (inp_of c.args.w.now) c.requires.0.tree c.requires.0.lo c.args.w.now.node c.requires.0.spans).some)

pub fn_decl-block-requires : goal.fn_decl-block-requires
fn_decl-block-requires t c =
    let c0 = fn-part c.args.w.now c.requires.1 in
    (omega (arith, c.decreases, (stmt-root (inp_of c.args.w.now) c.requires.0.tree c.requires.0.lo c.args.w.now.node c.requires.0.spans).some), spot c.requires.0 c0)

pub fn_decl-returns-in_err-block : goal.fn_decl-returns-in_err-block
fn_decl-returns-in_err-block t c =
    let c0 = fn-part c.args.w.now c.requires.1 in
    stop c0 c.in_err-block.ensures c.from_residual.ensures.0

pub fn_decl-returns-in_err-put_sign : goal.fn_decl-returns-in_err-put_sign
fn_decl-returns-in_err-put_sign t c =
    let c0 = fn-part c.args.w.now c.requires.1 in
    let c1 = put c.requires.0 c0 c.in_ok-block.ensures in
    stop c1 c.in_err-put_sign.ensures c.from_residual-in_err-put_sign.ensures.0

pub fn_decl-children-count-requires : goal.fn_decl-children-count-requires
fn_decl-children-count-requires t c =
    let c0 = fn-part c.args.w.now c.requires.1 in
    let c1 = put c.requires.0 c0 c.in_ok-block.ensures in
    let c2 = put c.requires.0 c1 c.in_ok-put_sign.ensures in
    let s = here c.requires.0 c2 in
    record { some = s.spans.1.top.some; in_heads = s.spans.1.top.in_heads }

pub fn_decl-overflow_sub-w-2 : goal.fn_decl-overflow_sub-w-2
fn_decl-overflow_sub-w-2 t c =
    let c0 = fn-part c.args.w.now c.requires.1 in
    let c1 = put c.requires.0 c0 c.in_ok-block.ensures in
    let c2 = put c.requires.0 c1 c.in_ok-put_sign.ensures in
    let s = here c.requires.0 c2 in
    omega (arith, s.spans.1.top.some)

pub fn_decl-names-requires : goal.fn_decl-names-requires
fn_decl-names-requires t c =
    let s0 = fn-part c.args.w.now c.requires.1 in
    let s1 = put c.requires.0 s0 c.in_ok-block.ensures in
    let s2 = put c.requires.0 s1 c.in_ok-put_sign.ensures in
    let c0 = named-part c.args.w.now.node c.put_sign.new.self s2 c.children-count.ensures in
    spot c.requires.0 c0

pub fn_decl-returns-in_err-names : goal.fn_decl-returns-in_err-names
fn_decl-returns-in_err-names t c =
    let s0 = fn-part c.args.w.now c.requires.1 in
    let s1 = put c.requires.0 s0 c.in_ok-block.ensures in
    let s2 = put c.requires.0 s1 c.in_ok-put_sign.ensures in
    let c0 = named-part c.args.w.now.node c.put_sign.new.self s2 c.children-count.ensures in
    stop c0 c.in_err-names.ensures c.from_residual-in_err-names.ensures.0

pub fn_decl-returns-in_err-put_sign-2 : goal.fn_decl-returns-in_err-put_sign-2
fn_decl-returns-in_err-put_sign-2 t c =
    let s0 = fn-part c.args.w.now c.requires.1 in
    let s1 = put c.requires.0 s0 c.in_ok-block.ensures in
    let s2 = put c.requires.0 s1 c.in_ok-put_sign.ensures in
    let c0 = named-part c.args.w.now.node c.put_sign.new.self s2 c.children-count.ensures in
    let c1 = put c.requires.0 c0 c.in_ok-names.ensures in
    stop c1 c.in_err-put_sign-2.ensures c.from_residual-in_err-put_sign-2.ensures.0

pub fn_decl-put_token-requires : goal.fn_decl-put_token-requires
fn_decl-put_token-requires t c =
    let s0 = fn-part c.args.w.now c.requires.1 in
    let s1 = put c.requires.0 s0 c.in_ok-block.ensures in
    let s2 = put c.requires.0 s1 c.in_ok-put_sign.ensures in
    let c0 = named-part c.args.w.now.node c.put_sign.new.self s2 c.children-count.ensures in
    let c1 = put c.requires.0 c0 c.in_ok-names.ensures in
    let c2 = put c.requires.0 c1 c.in_ok-put_sign-2.ensures in
    spot c.requires.0 c2

pub fn_decl-returns-in_err-put_token : goal.fn_decl-returns-in_err-put_token
fn_decl-returns-in_err-put_token t c =
    let s0 = fn-part c.args.w.now c.requires.1 in
    let s1 = put c.requires.0 s0 c.in_ok-block.ensures in
    let s2 = put c.requires.0 s1 c.in_ok-put_sign.ensures in
    let c0 = named-part c.args.w.now.node c.put_sign.new.self s2 c.children-count.ensures in
    let c1 = put c.requires.0 c0 c.in_ok-names.ensures in
    let c2 = put c.requires.0 c1 c.in_ok-put_sign-2.ensures in
    stop c2 c.in_err-put_token.ensures c.from_residual-in_err-put_token.ensures.0

pub fn_decl-returns : goal.fn_decl-returns
fn_decl-returns t c =
    let s0 = fn-part c.args.w.now c.requires.1 in
    let s1 = put c.requires.0 s0 c.in_ok-block.ensures in
    let s2 = put c.requires.0 s1 c.in_ok-put_sign.ensures in
    let c0 = named-part c.args.w.now.node c.put_sign.new.self s2 c.children-count.ensures in
    let c1 = put c.requires.0 c0 c.in_ok-names.ensures in
    let c2 = put c.requires.0 c1 c.in_ok-put_sign-2.ensures in
    let c3 = put c.requires.0 c2 c.in_ok-put_token.ensures in
    end c.requires.0 c3 c.keyword.ensures

pub for_stmt-overflow_sub-w : goal.for_stmt-overflow_sub-w
for_stmt-overflow_sub-w t c = omega (arith, (stmt-root (inp_of c.args.w.now) c.requires.0.tree c.requires.0.lo c.args.w.now.node c.requires.0.spans).some)

pub for_stmt-guarded-requires : goal.for_stmt-guarded-requires
for_stmt-guarded-requires t c =
    let c0 = for-part c.args.w.now c.requires.1 in
    (omega (arith, c.decreases, (stmt-root (inp_of c.args.w.now) c.requires.0.tree c.requires.0.lo c.args.w.now.node c.requires.0.spans).some), spot c.requires.0 c0)

pub for_stmt-returns-in_err-guarded : goal.for_stmt-returns-in_err-guarded
for_stmt-returns-in_err-guarded t c =
    let c0 = for-part c.args.w.now c.requires.1 in
    stop c0 c.in_err-guarded.ensures c.from_residual.ensures.0

pub for_stmt-returns-in_err-keyword : goal.for_stmt-returns-in_err-keyword
for_stmt-returns-in_err-keyword t c =
    let c0 = for-part c.args.w.now c.requires.1 in
    let c1 = put c.requires.0 c0 c.in_ok-guarded.ensures in
    stop c1 c.in_err-keyword.ensures c.from_residual-in_err-keyword.ensures.0

pub for_stmt-pair-requires : goal.for_stmt-pair-requires
for_stmt-pair-requires t c =
    let c0 = for-part c.args.w.now c.requires.1 in
    let c1 = put c.requires.0 c0 c.in_ok-guarded.ensures in
    let c2 = put c.requires.0 c1 c.in_ok-keyword.ensures in
    spot c.requires.0 c2

pub for_stmt-returns-in_err-pair : goal.for_stmt-returns-in_err-pair
for_stmt-returns-in_err-pair t c =
    let c0 = for-part c.args.w.now c.requires.1 in
    let c1 = put c.requires.0 c0 c.in_ok-guarded.ensures in
    let c2 = put c.requires.0 c1 c.in_ok-keyword.ensures in
    stop c2 c.in_err-pair.ensures c.from_residual-in_err-pair.ensures.0

pub for_stmt-returns : goal.for_stmt-returns
for_stmt-returns t c =
    let c0 = for-part c.args.w.now c.requires.1 in
    let c1 = put c.requires.0 c0 c.in_ok-guarded.ensures in
    let c2 = put c.requires.0 c1 c.in_ok-keyword.ensures in
    let c3 = put c.requires.0 c2 c.in_ok-pair.ensures in
    end c.requires.0 c3 c.keyword-2.ensures

pub if_stmt-children-count-requires : goal.if_stmt-children-count-requires
if_stmt-children-count-requires t c = head c.args.w.now (stmt-root (inp_of c.args.w.now) c.requires.0.tree c.requires.0.lo c.args.w.now.node c.requires.0.spans)

pub if_stmt-overflow_sub-count : goal.if_stmt-overflow_sub-count
if_stmt-overflow_sub-count t c = omega (arith, c.children-count.ensures, two-kids (inp_of c.args.w.now) c.requires.0.tree c.requires.0.lo c.args.w.now.node c.requires.0.spans c.requires.1)

pub if_stmt-overflow_sub-w : goal.if_stmt-overflow_sub-w
if_stmt-overflow_sub-w t c = omega (arith, (stmt-root (inp_of c.args.w.now) c.requires.0.tree c.requires.0.lo c.args.w.now.node c.requires.0.spans).some)

pub if_stmt-branches-requires : goal.if_stmt-branches-requires
if_stmt-branches-requires t c =
    let c0 = if-part c.args.w.now c.requires.0 c.requires.1 c.children-count.ensures in
    (omega (arith, c.decreases, (stmt-root (inp_of c.args.w.now) c.requires.0.tree c.requires.0.lo c.args.w.now.node c.requires.0.spans).some), spot c.requires.0 c0)

pub if_stmt-returns-in_err-branches : goal.if_stmt-returns-in_err-branches
if_stmt-returns-in_err-branches t c =
    let c0 = if-part c.args.w.now c.requires.0 c.requires.1 c.children-count.ensures in
    stop c0 c.in_err-branches.ensures c.from_residual.ensures.0

pub if_stmt-guarded-requires : goal.if_stmt-guarded-requires
if_stmt-guarded-requires t c =
    let c0 = if-part c.args.w.now c.requires.0 c.requires.1 c.children-count.ensures in
    let c1 = put c.requires.0 c0 c.in_ok-branches.ensures in
    (omega (arith, c.decreases, (stmt-root (inp_of c.args.w.now) c.requires.0.tree c.requires.0.lo c.args.w.now.node c.requires.0.spans).some, c.in_ok-branches.ensures.goes.node), spot c.requires.0 c1)

pub if_stmt-returns-in_err-guarded : goal.if_stmt-returns-in_err-guarded
if_stmt-returns-in_err-guarded t c =
    let c0 = if-part c.args.w.now c.requires.0 c.requires.1 c.children-count.ensures in
    let c1 = put c.requires.0 c0 c.in_ok-branches.ensures in
    stop c1 c.in_err-guarded.ensures c.from_residual-in_err-guarded.ensures.0

pub if_stmt-returns : goal.if_stmt-returns
if_stmt-returns t c =
    let c0 = if-part c.args.w.now c.requires.0 c.requires.1 c.children-count.ensures in
    let c1 = put c.requires.0 c0 c.in_ok-branches.ensures in
    let c2 = put c.requires.0 c1 c.in_ok-guarded.ensures in
    end c.requires.0 c2 c.keyword.ensures

pub stmt-kind-kind-requires : goal.stmt-kind-kind-requires
stmt-kind-kind-requires t c = head c.args.w.now (stmt-root (inp_of c.args.w.now) c.requires.tree c.requires.lo c.args.w.now.node c.requires.spans)

pub stmt-block-requires : goal.stmt-block-requires
stmt-block-requires t c = (omega (arith, c.decreases), here c.requires (block-part c.args.w.now c.kind-kind.ensures c.if-kind-eq-BLOCK.true))

pub stmt-returns-then-kind-eq-BLOCK : goal.stmt-returns-then-kind-eq-BLOCK
stmt-returns-then-kind-eq-BLOCK t c = end c.requires (block-part c.args.w.now c.kind-kind.ensures c.if-kind-eq-BLOCK.true) c.block.ensures

pub stmt-plain_stmt-requires : goal.stmt-plain_stmt-requires
stmt-plain_stmt-requires t c = here c.requires (plain-part c.args.w.now c.kind-kind.ensures c.if-kind-eq-BLOCK.false c.if-kind-eq-IF_STMT.false c.if-kind-eq-FOR_STMT.false c.if-kind-eq-FN_DECL.false)

pub stmt-returns : goal.stmt-returns
stmt-returns t c = end c.requires (plain-part c.args.w.now c.kind-kind.ensures c.if-kind-eq-BLOCK.false c.if-kind-eq-IF_STMT.false c.if-kind-eq-FOR_STMT.false c.if-kind-eq-FN_DECL.false) c.plain_stmt.ensures
