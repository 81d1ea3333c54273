use Rattle.std.specs.Prelude.{suc, ◌+◌, ◌-◌, refl, [], ◌∷◌, map, reverse, take, eqb, true, false, ◌||◌}
use Rattle.std.proofs.Common.{arith, sym, ap, ◌∙◌, eq-eqb, ne_eqb}
use Rattle.sifc_err.specs.declared.parse_err.ParseErrTy.TheVariants.{ExpectedIdent}
use Rattle.sifc_def.specs.declared.What.TheVariants.{Placeholder, Function}
use Rattle.sifc_def.specs.State.{Node, St, consume, expect, ident, push}
use Rattle.sifc_def.specs.Symbols.{init_scope, store}
use Rattle.sifc_def.specs.Expr.{fuel, param_list}
use Rattle.sifc_def.specs.Stmt.{bind as bind_of, param, ident_pair, end_if, var_decl, fn_decl, elif_stmt, else_block, branches as branches_of, if_stmt, for_stmt, ret_stmt, expr_stmt, stmt as stmt_of, decl as decl_of, decls as decls_of, block as block_of}
use Rattle.sifc_def.specs.Walk.{walkers}
use Rattle.sifc_symtab.specs.Table.{value_of}
use Rattle.sifc_step.proofs.Steps.{begin, refused}
use Rattle.sifc_step.proofs.Small.{named, pushed-as, fits, paired}
use Rattle.sifc_step.proofs.Told.{name-next}
use Rattle.sifc_stmt.proofs.Taken.{taken}
use Rattle.sifc_block.specs.Bound.{names_of, end_block, between}
use Rattle.sifc_block.proofs.Steps.{conveyed, quiet, goes, stops, lasts, ends, reads, kind-of, if-yes, if-no, booked}
use Rattle.sifc_block.proofs.Ends.{amid}
use Rattle.sifc_declare.proofs.Ends.{midst}
use Rattle.sifc_parse.proofs.Turns.{opens, block-step, block_none, block-named, turning, turn-own, onward, retold}
use Rattle.sifc_parse.proofs.Inside.{passed, brace, expect-level, moved-nodes, scope-nodes, push-nodes, nodes-more, names-kept, names-same, names-fit, bound-as, here-few}
use Rattle.sifc_parse.proofs.parser.+declarations.Goals.{branches-in-40+in_ok-elif_stmt-in-40, branches-in-41+in_ok-else_block-in-41}
use Rattle.sifc_parse.proofs.parser.+declarations.Goals as goal

pub block-returns-then-depth-eq0 : goal.block-returns-then-depth-eq0
block-returns-then-depth-eq0 t c =
    record { does = λ j le f. block_none j c.args.depth c.args.body (names_of c.args.names c.args.p.now.load.now) c.args.book.now c.args.p.now c.if-depth-eq0.true }

pub block-returns-in_err-expect : goal.block-returns-in_err-expect
unfolding block_of
block-returns-in_err-expect t c =
    record {
      does = λ j le f.
          let h = brace j c.args.p.now le f in
          let g0 = block-step j c.args.depth c.args.body (names_of c.args.names c.args.p.now.load.now) c.args.book.now c.requires.0 c.if-depth-eq0.false in
          conveyed (stops (λ x. expect x 3) _ (λ x. (walkers x c.args.depth).block c.args.body (names_of c.args.names c.args.p.now.load.now)) g0 h (quiet c.args.book.now (c.in_err-expect.ensures.does))) c.from_residual.ensures;
    }

pub block-init_scope-requires : goal.block-init_scope-requires
unfolding block_of
block-init_scope-requires t c =
    let g0 = block-step 0 c.args.depth c.args.body (names_of c.args.names c.args.p.now.load.now) c.args.book.now c.requires.0 c.if-depth-eq0.false in
    let g1 = goes (λ x. expect x 3) _ g0 (quiet c.args.book.now (c.in_ok-expect.ensures.does)) in
    omega (arith, g1.is.level, here-few c.expect.new.self g1.is)

pub block-bind-requires : goal.block-bind-requires
unfolding block_of
block-bind-requires t c =
    let g0 = block-step 0 c.args.depth c.args.body (names_of c.args.names c.args.p.now.load.now) c.args.book.now c.requires.0 c.if-depth-eq0.false in
    let g1 = goes (λ x. expect x 3) _ g0 (quiet c.args.book.now (c.in_ok-expect.ensures.does)) in
    let g2 = goes (λ x. init_scope x) _ g1 (quiet c.args.book.now (c.init_scope.ensures.does (expect-level 3 (λ z. omega arith) c.in_ok-expect.ensures.does c.requires.0))) in
    (g2.is, names-fit c.args.names c.args.p.now c.init_scope.new.self c.requires.0 g2.kept c.requires.2)

pub block-decls-requires : goal.block-decls-requires
unfolding block_of
block-decls-requires t c =
    let g0 = block-step 0 c.args.depth c.args.body (names_of c.args.names c.args.p.now.load.now) c.args.book.now c.requires.0 c.if-depth-eq0.false in
    let g1 = goes (λ x. expect x 3) _ g0 (quiet c.args.book.now (c.in_ok-expect.ensures.does)) in
    let g2 = goes (λ x. init_scope x) _ g1 (quiet c.args.book.now (c.init_scope.ensures.does (expect-level 3 (λ z. omega arith) c.in_ok-expect.ensures.does c.requires.0))) in
    let e = names-same c.args.names c.args.p.now c.init_scope.new.self (scope-nodes c.init_scope.ensures ∙ moved-nodes c.args.p.now c.expect.new.self c.in_ok-expect.ensures.alone) c.requires.2 in
    let g3 = goes (λ x. bind_of x (names_of c.args.names c.args.p.now.load.now)) _ g2 (quiet c.args.book.now (bound-as e c.in_ok-bind.ensures.0)) in
    (omega (arith, c.decreases), (g3.is, booked c.requires.1 g3))

pub block-end_block-requires : goal.block-end_block-requires
unfolding block_of
block-end_block-requires t c =
    let g0 = block-step 0 c.args.depth c.args.body (names_of c.args.names c.args.p.now.load.now) c.args.book.now c.requires.0 c.if-depth-eq0.false in
    let g1 = goes (λ x. expect x 3) _ g0 (quiet c.args.book.now (c.in_ok-expect.ensures.does)) in
    let g2 = goes (λ x. init_scope x) _ g1 (quiet c.args.book.now (c.init_scope.ensures.does (expect-level 3 (λ z. omega arith) c.in_ok-expect.ensures.does c.requires.0))) in
    let e = names-same c.args.names c.args.p.now c.init_scope.new.self (scope-nodes c.init_scope.ensures ∙ moved-nodes c.args.p.now c.expect.new.self c.in_ok-expect.ensures.alone) c.requires.2 in
    let g3 = goes (λ x. bind_of x (names_of c.args.names c.args.p.now.load.now)) _ g2 (quiet c.args.book.now (bound-as e c.in_ok-bind.ensures.0)) in
    let g4 = goes (λ x. decls_of x (walkers x (c.args.depth - 1)) (fuel x) 0) _ g3 c.in_ok-n.ensures.does in
    (amid g4.is, c.in_ok-n.ensures.few)

pub block-returns-in_err-bind : goal.block-returns-in_err-bind
unfolding block_of
block-returns-in_err-bind t c =
    record {
      does = λ j le f.
          let h = brace j c.args.p.now le f in
          let g0 = block-step j c.args.depth c.args.body (names_of c.args.names c.args.p.now.load.now) c.args.book.now c.requires.0 c.if-depth-eq0.false in
          let g1 = goes (λ x. expect x 3) _ g0 (quiet c.args.book.now (c.in_ok-expect.ensures.does)) in
          let g2 = goes (λ x. init_scope x) _ g1 (quiet c.args.book.now (c.init_scope.ensures.does (expect-level 3 (λ z. omega arith) c.in_ok-expect.ensures.does c.requires.0))) in
          let e = names-same c.args.names c.args.p.now c.init_scope.new.self (scope-nodes c.init_scope.ensures ∙ moved-nodes c.args.p.now c.expect.new.self c.in_ok-expect.ensures.alone) c.requires.2 in
          conveyed (stops (λ x. bind_of x (names_of c.args.names c.args.p.now.load.now)) _ (λ x. (walkers x c.args.depth).block c.args.body (names_of c.args.names c.args.p.now.load.now)) g2 (omega (arith, h)) (quiet c.args.book.now (bound-as e c.in_err-bind.ensures.0))) c.from_residual-in_err-bind.ensures;
    }

pub block-returns-in_err-n : goal.block-returns-in_err-n
unfolding block_of
block-returns-in_err-n t c =
    record {
      does = λ j le f.
          let h = brace j c.args.p.now le f in
          let g0 = block-step j c.args.depth c.args.body (names_of c.args.names c.args.p.now.load.now) c.args.book.now c.requires.0 c.if-depth-eq0.false in
          let g1 = goes (λ x. expect x 3) _ g0 (quiet c.args.book.now (c.in_ok-expect.ensures.does)) in
          let g2 = goes (λ x. init_scope x) _ g1 (quiet c.args.book.now (c.init_scope.ensures.does (expect-level 3 (λ z. omega arith) c.in_ok-expect.ensures.does c.requires.0))) in
          let e = names-same c.args.names c.args.p.now c.init_scope.new.self (scope-nodes c.init_scope.ensures ∙ moved-nodes c.args.p.now c.expect.new.self c.in_ok-expect.ensures.alone) c.requires.2 in
          let g3 = goes (λ x. bind_of x (names_of c.args.names c.args.p.now.load.now)) _ g2 (quiet c.args.book.now (bound-as e c.in_ok-bind.ensures.0)) in
          conveyed (stops (λ x. decls_of x (walkers x (c.args.depth - 1)) (fuel x) 0) _ (λ x. (walkers x c.args.depth).block c.args.body (names_of c.args.names c.args.p.now.load.now)) g3 (omega (arith, h)) c.in_err-n.ensures.does) c.from_residual-in_err-n.ensures;
    }

pub block-returns : goal.block-returns
unfolding block_of
block-returns t c =
    record {
      does = λ j le f.
          let h = brace j c.args.p.now le f in
          let g0 = block-step j c.args.depth c.args.body (names_of c.args.names c.args.p.now.load.now) c.args.book.now c.requires.0 c.if-depth-eq0.false in
          let g1 = goes (λ x. expect x 3) _ g0 (quiet c.args.book.now (c.in_ok-expect.ensures.does)) in
          let g2 = goes (λ x. init_scope x) _ g1 (quiet c.args.book.now (c.init_scope.ensures.does (expect-level 3 (λ z. omega arith) c.in_ok-expect.ensures.does c.requires.0))) in
          let e = names-same c.args.names c.args.p.now c.init_scope.new.self (scope-nodes c.init_scope.ensures ∙ moved-nodes c.args.p.now c.expect.new.self c.in_ok-expect.ensures.alone) c.requires.2 in
          let g3 = goes (λ x. bind_of x (names_of c.args.names c.args.p.now.load.now)) _ g2 (quiet c.args.book.now (bound-as e c.in_ok-bind.ensures.0)) in
          let g4 = goes (λ x. decls_of x (walkers x (c.args.depth - 1)) (fuel x) 0) _ g3 c.in_ok-n.ensures.does in
          lasts (λ x. end_block x c.args.body c.in_ok-n.n) (λ x. (walkers x c.args.depth).block c.args.body (names_of c.args.names c.args.p.now.load.now)) g4 (omega (arith, h)) (quiet c.decls.new.book c.end_block.ensures.does);
    }

pub branches-loop-p-init : goal.branches-loop-p-init
branches-loop-p-init t c =
    (turning (λ x f. branches_of x (walkers x c.args.depth) f 0 0) c.args.book.now c.requires.0, omega (arith, c.requires.2), omega arith)

pub branches-returns-in_err-elif_stmt-in-40 : goal.branches-returns-in_err-elif_stmt-in-40
unfolding branches_of
branches-returns-in_err-elif_stmt-in-40 t c =
    let g0 = kind-of _ (turn-own c.loop-p.invariant.0) in
    let g1 = if-yes _ _ g0 (eq-eqb _ _ (sym c.kind.ensures ∙ c.in-40.is)) in
    conveyed (stops (λ x. elif_stmt x (walkers x c.args.depth)) _ (λ x. branches_of x (walkers x c.args.depth) (fuel x) 0 0) g1 (omega arith) c.in_err-elif_stmt-in-40.ensures) c.from_residual.ensures

pub branches-returns-in_err-else_block-in-41 : goal.branches-returns-in_err-else_block-in-41
unfolding branches_of
branches-returns-in_err-else_block-in-41 t c =
    let g0 = kind-of _ (turn-own c.loop-p.invariant.0) in
    let g1 = if-no _ _ g0 (ne_eqb _ _ (λ z. omega (arith, c.kind.ensures, c.in-41.is, z))) in
    let g2 = if-yes _ _ g1 (eq-eqb _ _ (sym c.kind.ensures ∙ c.in-41.is)) in
    conveyed (stops (λ x. else_block x (walkers x c.args.depth)) _ (λ x. branches_of x (walkers x c.args.depth) (fuel x) 0 0) g2 (omega arith) c.in_err-else_block-in-41.ensures) c.from_residual-in_err-else_block-in-41.ensures

pub branches-loop-p-preserved : goal.branches-loop-p-preserved
unfolding branches_of
branches-loop-p-preserved t c =
    let g0 = kind-of _ (turn-own c.loop-p.invariant.0) in
    elim c.match-kind.branch [
      | branches-in-40+in_ok-elif_stmt-in-40 w ↦
          let g1 = if-yes _ _ g0 (eq-eqb _ _ (sym c.kind.ensures ∙ w.in-40.is)) in
          let g2 = goes (λ x. elif_stmt x (walkers x c.args.depth)) _ g1 w.in_ok-elif_stmt-in-40.ensures in
          let on = (w.in_ok-elif_stmt-in-40.ensures.fine g1.is).on in
          rw (w.p-is, w.book-is, w.elses-is) (retold (λ x f n. branches_of x (walkers x c.args.depth) f n c.loop-p.elses) c.loop-p.n (onward c.loop-p.invariant.0 {loop' = λ x f. branches_of x (walkers x c.args.depth) f (suc c.loop-p.n) c.loop-p.elses} (omega (arith, on)) g2), omega (arith, c.loop-p.invariant.1, on), omega (arith, c.loop-p.invariant.2))
      | branches-in-41+in_ok-else_block-in-41 w ↦
          let g1 = if-no _ _ g0 (ne_eqb _ _ (λ z. omega (arith, c.kind.ensures, w.in-41.is, z))) in
          let g2 = if-yes _ _ g1 (eq-eqb _ _ (sym c.kind.ensures ∙ w.in-41.is)) in
          let g3 = goes (λ x. else_block x (walkers x c.args.depth)) _ g2 w.in_ok-else_block-in-41.ensures in
          let on = (w.in_ok-else_block-in-41.ensures.fine g2.is).on in
          rw (w.p-is, w.book-is, w.elses-is) (retold (λ x f n. branches_of x (walkers x c.args.depth) f n (c.loop-p.elses + 1)) c.loop-p.n (retold (λ x f m. branches_of x (walkers x c.args.depth) f (suc c.loop-p.n) m) c.loop-p.elses (onward c.loop-p.invariant.0 {loop' = λ x f. branches_of x (walkers x c.args.depth) f (suc c.loop-p.n) (suc c.loop-p.elses)} (omega (arith, on)) g3)), omega (arith, c.loop-p.invariant.1, on), omega (arith, c.loop-p.invariant.2))
    ]

pub branches-returns-in_default : goal.branches-returns-in_default
unfolding branches_of
branches-returns-in_default t c =
    let g0 = kind-of _ (turn-own c.loop-p.invariant.0) in
    let g1 = if-no _ _ g0 (ne_eqb _ _ (λ z. let e = c.kind.ensures ∙ z in omega (arith, e))) in
    let g2 = if-no _ _ g1 (ne_eqb _ _ (λ z. let e = c.kind.ensures ∙ z in omega (arith, e))) in
    lasts (λ x. end_if x c.loop-p.n c.loop-p.elses) (λ x. branches_of x (walkers x c.args.depth) (fuel x) 0 0) g2 (omega arith) c.end_if.ensures.does

pub decl-returns-then-k-eq-VAR : goal.decl-returns-then-k-eq-VAR
unfolding decl_of
decl-returns-then-k-eq-VAR t c =
    let g0 = kind-of _ (opens 1 (λ x. decl_of x (walkers x c.args.depth)) c.args.book.now c.requires.0) in
    lasts (λ x. var_decl x (walkers x c.args.depth)) (λ x. decl_of x (walkers x c.args.depth)) (if-yes _ _ g0 (eq-eqb _ _ (sym c.kind-k.ensures ∙ c.if-k-eq-VAR.true))) (omega arith) (quiet c.args.book.now (c.var_decl.ensures))

pub decl-returns-then-k-eq-FN : goal.decl-returns-then-k-eq-FN
unfolding decl_of
decl-returns-then-k-eq-FN t c =
    let g0 = kind-of _ (opens 1 (λ x. decl_of x (walkers x c.args.depth)) c.args.book.now c.requires.0) in
    let g1 = if-no _ _ g0 (ne_eqb _ _ (λ z. c.if-k-eq-VAR.false (c.kind-k.ensures ∙ z))) in
    lasts (λ x. fn_decl x (walkers x c.args.depth)) (λ x. decl_of x (walkers x c.args.depth)) (if-yes _ _ g1 (eq-eqb _ _ (sym c.kind-k.ensures ∙ c.if-k-eq-FN.true))) (omega arith) (c.fn_decl.ensures)

pub decl-returns : goal.decl-returns
unfolding decl_of
decl-returns t c =
    let g0 = kind-of _ (opens 1 (λ x. decl_of x (walkers x c.args.depth)) c.args.book.now c.requires.0) in
    let g1 = if-no _ _ g0 (ne_eqb _ _ (λ z. c.if-k-eq-VAR.false (c.kind-k.ensures ∙ z))) in
    let g2 = if-no _ _ g1 (ne_eqb _ _ (λ z. c.if-k-eq-FN.false (c.kind-k.ensures ∙ z))) in
    lasts (λ x. stmt_of x (walkers x c.args.depth)) (λ x. decl_of x (walkers x c.args.depth)) g2 (omega arith) (c.stmt.ensures)

pub decls-loop-p-init : goal.decls-loop-p-init
decls-loop-p-init t c =
    (turning (λ x f. decls_of x (walkers x c.args.depth) f 0) c.args.book.now c.requires.0, omega arith)

pub decls-returns-in_err-decl-clause-does : goal.decls-returns-in_err-decl-clause-does
unfolding decls_of
decls-returns-in_err-decl-clause-does t c =
    let g0 = kind-of _ (turn-own c.loop-p.invariant.0) in
    let g1 = if-no _ _ g0 (ap (λ k. eqb k 4 || eqb k 47) (sym c.kind.ensures) ∙ sym c.ends_decls.ensures ∙ c.loop-p-test.true) in
    conveyed (stops (λ x. decl_of x (walkers x c.args.depth)) _ (λ x. decls_of x (walkers x c.args.depth) (fuel x) 0) g1 (omega arith) c.in_err-decl.ensures) c.from_residual.ensures

pub decls-loop-p-preserved : goal.decls-loop-p-preserved
unfolding decls_of
decls-loop-p-preserved t c =
    let g0 = kind-of _ (turn-own c.loop-p.invariant.0) in
    let g1 = if-no _ _ g0 (ap (λ k. eqb k 4 || eqb k 47) (sym c.kind.ensures) ∙ sym c.ends_decls.ensures ∙ c.loop-p-test.true) in
    let g2 = goes (λ x. decl_of x (walkers x c.args.depth)) _ g1 c.in_ok-decl.ensures in
    (retold (λ x f n. decls_of x (walkers x c.args.depth) f n) c.loop-p.n (onward c.loop-p.invariant.0 {loop' = λ x f. decls_of x (walkers x c.args.depth) f (suc c.loop-p.n)} (omega (arith, (c.in_ok-decl.ensures.fine g1.is).on)) g2), omega (arith, c.loop-p.invariant.1, (c.in_ok-decl.ensures.fine g1.is).on))

pub decls-returns-clause-does : goal.decls-returns-clause-does
unfolding decls_of
decls-returns-clause-does t c =
    let g0 = kind-of _ (turn-own c.loop-p.invariant.0) in
    let g1 = if-yes _ _ g0 (ap (λ k. eqb k 4 || eqb k 47) (sym c.kind.ensures) ∙ sym c.ends_decls.ensures ∙ c.loop-p-test.false) in
    ends (λ x. decls_of x (walkers x c.args.depth) (fuel x) 0) g1

pub elif_stmt-returns-in_err-consume : goal.elif_stmt-returns-in_err-consume
unfolding elif_stmt
elif_stmt-returns-in_err-consume t c =
    conveyed (quiet c.args.book.now (refused (λ x. consume x) _ (λ x. elif_stmt x (walkers x c.args.depth)) (begin 1 (λ x. elif_stmt x (walkers x c.args.depth)) c.requires.0) c.in_err-consume.ensures.does refl)) c.from_residual.ensures

pub elif_stmt-returns-in_err-expr : goal.elif_stmt-returns-in_err-expr
unfolding elif_stmt
elif_stmt-returns-in_err-expr t c =
    let g0 = opens 1 (λ x. elif_stmt x (walkers x c.args.depth)) c.args.book.now c.requires.0 in
    let g1 = goes (λ x. consume x) _ g0 (quiet c.args.book.now (c.in_ok-consume.ensures.does)) in
    conveyed (stops (λ x. (walkers x c.args.depth).assign) _ (λ x. elif_stmt x (walkers x c.args.depth)) g1 (omega arith) (quiet c.args.book.now (c.in_err-expr.ensures))) c.from_residual-in_err-expr.ensures

pub elif_stmt-returns-in_err-block : goal.elif_stmt-returns-in_err-block
unfolding elif_stmt
elif_stmt-returns-in_err-block t c =
    let g0 = opens 1 (λ x. elif_stmt x (walkers x c.args.depth)) c.args.book.now c.requires.0 in
    let g1 = goes (λ x. consume x) _ g0 (quiet c.args.book.now (c.in_ok-consume.ensures.does)) in
    let g2 = goes (λ x. (walkers x c.args.depth).assign) _ g1 (quiet c.args.book.now (c.in_ok-expr.ensures)) in
    conveyed (stops (λ x. (walkers x c.args.depth).block false []) _ (λ x. elif_stmt x (walkers x c.args.depth)) g2 (omega arith) (c.in_err-block.ensures.does 0 (omega arith) (λ z. refl))) c.from_residual-in_err-block.ensures

pub elif_stmt-push_node-requires : goal.elif_stmt-push_node-requires
unfolding elif_stmt
elif_stmt-push_node-requires t c =
    let g0 = opens 1 (λ x. elif_stmt x (walkers x c.args.depth)) c.args.book.now c.requires.0 in
    let g1 = goes (λ x. consume x) _ g0 (quiet c.args.book.now (c.in_ok-consume.ensures.does)) in
    let g2 = goes (λ x. (walkers x c.args.depth).assign) _ g1 (quiet c.args.book.now (c.in_ok-expr.ensures)) in
    let g3 = goes (λ x. (walkers x c.args.depth).block false []) _ g2 (c.in_ok-block.ensures.does 0 (omega arith) (λ z. refl)) in
    paired g3.is

pub elif_stmt-returns-in_err-push_node : goal.elif_stmt-returns-in_err-push_node
unfolding elif_stmt
elif_stmt-returns-in_err-push_node t c =
    let g0 = opens 1 (λ x. elif_stmt x (walkers x c.args.depth)) c.args.book.now c.requires.0 in
    let g1 = goes (λ x. consume x) _ g0 (quiet c.args.book.now (c.in_ok-consume.ensures.does)) in
    let g2 = goes (λ x. (walkers x c.args.depth).assign) _ g1 (quiet c.args.book.now (c.in_ok-expr.ensures)) in
    let g3 = goes (λ x. (walkers x c.args.depth).block false []) _ g2 (c.in_ok-block.ensures.does 0 (omega arith) (λ z. refl)) in
    conveyed (lasts (λ x. push x 4 false 2 0) (λ x. elif_stmt x (walkers x c.args.depth)) g3 (omega arith) (quiet c.block.new.book (c.in_err-push_node.ensures.does))) c.from_residual-in_err-push_node.ensures

pub elif_stmt-returns : goal.elif_stmt-returns
unfolding elif_stmt
elif_stmt-returns t c =
    let g0 = opens 1 (λ x. elif_stmt x (walkers x c.args.depth)) c.args.book.now c.requires.0 in
    let g1 = goes (λ x. consume x) _ g0 (quiet c.args.book.now (c.in_ok-consume.ensures.does)) in
    let g2 = goes (λ x. (walkers x c.args.depth).assign) _ g1 (quiet c.args.book.now (c.in_ok-expr.ensures)) in
    let g3 = goes (λ x. (walkers x c.args.depth).block false []) _ g2 (c.in_ok-block.ensures.does 0 (omega arith) (λ z. refl)) in
    lasts (λ x. push x 4 false 2 0) (λ x. elif_stmt x (walkers x c.args.depth)) g3 (omega arith) (quiet c.block.new.book (c.in_ok-push_node.ensures.does))

pub else_block-returns-in_err-consume : goal.else_block-returns-in_err-consume
unfolding else_block
else_block-returns-in_err-consume t c =
    conveyed (quiet c.args.book.now (refused (λ x. consume x) _ (λ x. else_block x (walkers x c.args.depth)) (begin 1 (λ x. else_block x (walkers x c.args.depth)) c.requires.0) c.in_err-consume.ensures.does refl)) c.from_residual.ensures

pub else_block-returns : goal.else_block-returns
unfolding else_block
else_block-returns t c =
    let g0 = opens 1 (λ x. else_block x (walkers x c.args.depth)) c.args.book.now c.requires.0 in
    let g1 = goes (λ x. consume x) _ g0 (quiet c.args.book.now (c.in_ok-consume.ensures.does)) in
    lasts (λ x. (walkers x c.args.depth).block false []) (λ x. else_block x (walkers x c.args.depth)) g1 (omega (arith, passed c.args.p.now 41 c.requires.2 (λ z. omega arith))) (c.block.ensures.does 0 (omega arith) (λ z. refl))

pub fn_decl-returns-in_err-expect : goal.fn_decl-returns-in_err-expect
unfolding fn_decl
fn_decl-returns-in_err-expect t c =
    let g0 = opens 1 (λ x. fn_decl x (walkers x c.args.depth)) c.args.book.now c.requires.0 in
    conveyed (stops (λ x. expect x 35) _ (λ x. fn_decl x (walkers x c.args.depth)) g0 (omega arith) (quiet c.args.book.now (taken 35 c.requires.2 (λ z. omega arith) c.in_err-expect.ensures.does))) c.from_residual.ensures

pub fn_decl-returns-in_err-i : goal.fn_decl-returns-in_err-i
unfolding fn_decl
fn_decl-returns-in_err-i t c =
    let g0 = opens 1 (λ x. fn_decl x (walkers x c.args.depth)) c.args.book.now c.requires.0 in
    let g1 = goes (λ x. expect x 35) _ g0 (quiet c.args.book.now (taken 35 c.requires.2 (λ z. omega arith) c.in_ok-expect.ensures.does)) in
    conveyed (stops (λ x. ident x ExpectedIdent) _ (λ x. fn_decl x (walkers x c.args.depth)) g1 (omega arith) (quiet c.args.book.now (named ExpectedIdent c.in_err-i.ensures refl))) c.from_residual-in_err-i.ensures

pub fn_decl-overflow_cast-i : goal.fn_decl-overflow_cast-i
unfolding fn_decl
fn_decl-overflow_cast-i t c =
    let g0 = opens 1 (λ x. fn_decl x (walkers x c.args.depth)) c.args.book.now c.requires.0 in
    let g1 = goes (λ x. expect x 35) _ g0 (quiet c.args.book.now (taken 35 c.requires.2 (λ z. omega arith) c.in_ok-expect.ensures.does)) in
    omega (arith, (name-next ExpectedIdent g1.is c.in_ok-i.ensures refl).value, here-few c.expect.new.self g1.is)

pub fn_decl-store_name-requires : goal.fn_decl-store_name-requires
unfolding fn_decl value_of
fn_decl-store_name-requires t c =
    let g0 = opens 1 (λ x. fn_decl x (walkers x c.args.depth)) c.args.book.now c.requires.0 in
    let g1 = goes (λ x. expect x 35) _ g0 (quiet c.args.book.now (taken 35 c.requires.2 (λ z. omega arith) c.in_ok-expect.ensures.does)) in
    let g2 = goes (λ x. ident x ExpectedIdent) _ g1 (quiet c.args.book.now (named ExpectedIdent c.in_ok-i.ensures refl)) in
    fits g2.is (omega (arith, (name-next ExpectedIdent g1.is c.in_ok-i.ensures refl).value, here-few c.expect.new.self g1.is)) (omega arith)

pub fn_decl-returns-in_err-store_name : goal.fn_decl-returns-in_err-store_name
unfolding fn_decl
fn_decl-returns-in_err-store_name t c =
    let g0 = opens 1 (λ x. fn_decl x (walkers x c.args.depth)) c.args.book.now c.requires.0 in
    let g1 = goes (λ x. expect x 35) _ g0 (quiet c.args.book.now (taken 35 c.requires.2 (λ z. omega arith) c.in_ok-expect.ensures.does)) in
    let g2 = goes (λ x. ident x ExpectedIdent) _ g1 (quiet c.args.book.now (named ExpectedIdent c.in_ok-i.ensures refl)) in
    conveyed (stops (λ x. store x c.in_ok-i.i Placeholder) _ (λ x. fn_decl x (walkers x c.args.depth)) g2 (omega arith) (quiet c.args.book.now (c.in_err-store_name.ensures.does))) c.from_residual-in_err-store_name.ensures

pub fn_decl-expect-requires-2 : goal.fn_decl-expect-requires-2
unfolding fn_decl
fn_decl-expect-requires-2 t c =
    let g0 = opens 1 (λ x. fn_decl x (walkers x c.args.depth)) c.args.book.now c.requires.0 in
    let g1 = goes (λ x. expect x 35) _ g0 (quiet c.args.book.now (taken 35 c.requires.2 (λ z. omega arith) c.in_ok-expect.ensures.does)) in
    let g2 = goes (λ x. ident x ExpectedIdent) _ g1 (quiet c.args.book.now (named ExpectedIdent c.in_ok-i.ensures refl)) in
    let g3 = goes (λ x. store x c.in_ok-i.i Placeholder) _ g2 (quiet c.args.book.now (c.in_ok-store_name.ensures.does)) in
    g3.is.stands

pub fn_decl-returns-in_err-expect-2 : goal.fn_decl-returns-in_err-expect-2
unfolding fn_decl
fn_decl-returns-in_err-expect-2 t c =
    let g0 = opens 1 (λ x. fn_decl x (walkers x c.args.depth)) c.args.book.now c.requires.0 in
    let g1 = goes (λ x. expect x 35) _ g0 (quiet c.args.book.now (taken 35 c.requires.2 (λ z. omega arith) c.in_ok-expect.ensures.does)) in
    let g2 = goes (λ x. ident x ExpectedIdent) _ g1 (quiet c.args.book.now (named ExpectedIdent c.in_ok-i.ensures refl)) in
    let g3 = goes (λ x. store x c.in_ok-i.i Placeholder) _ g2 (quiet c.args.book.now (c.in_ok-store_name.ensures.does)) in
    conveyed (stops (λ x. expect x 1) _ (λ x. fn_decl x (walkers x c.args.depth)) g3 (omega arith) (quiet c.args.book.now (c.in_err-expect-2.ensures.does))) c.from_residual-in_err-expect-2.ensures

pub fn_decl-param_list-requires : goal.fn_decl-param_list-requires
unfolding fn_decl
fn_decl-param_list-requires t c =
    let g0 = opens 1 (λ x. fn_decl x (walkers x c.args.depth)) c.args.book.now c.requires.0 in
    let g1 = goes (λ x. expect x 35) _ g0 (quiet c.args.book.now (taken 35 c.requires.2 (λ z. omega arith) c.in_ok-expect.ensures.does)) in
    let g2 = goes (λ x. ident x ExpectedIdent) _ g1 (quiet c.args.book.now (named ExpectedIdent c.in_ok-i.ensures refl)) in
    let g3 = goes (λ x. store x c.in_ok-i.i Placeholder) _ g2 (quiet c.args.book.now (c.in_ok-store_name.ensures.does)) in
    let g4 = goes (λ x. expect x 1) _ g3 (quiet c.args.book.now (c.in_ok-expect-2.ensures.does)) in
    midst g4.is

pub fn_decl-returns-in_err-n : goal.fn_decl-returns-in_err-n
unfolding fn_decl
fn_decl-returns-in_err-n t c =
    let g0 = opens 1 (λ x. fn_decl x (walkers x c.args.depth)) c.args.book.now c.requires.0 in
    let g1 = goes (λ x. expect x 35) _ g0 (quiet c.args.book.now (taken 35 c.requires.2 (λ z. omega arith) c.in_ok-expect.ensures.does)) in
    let g2 = goes (λ x. ident x ExpectedIdent) _ g1 (quiet c.args.book.now (named ExpectedIdent c.in_ok-i.ensures refl)) in
    let g3 = goes (λ x. store x c.in_ok-i.i Placeholder) _ g2 (quiet c.args.book.now (c.in_ok-store_name.ensures.does)) in
    let g4 = goes (λ x. expect x 1) _ g3 (quiet c.args.book.now (c.in_ok-expect-2.ensures.does)) in
    conveyed (stops (λ x. param_list x (param x) (fuel x) 0) _ (λ x. fn_decl x (walkers x c.args.depth)) g4 (omega arith) (quiet c.args.book.now (c.in_err-n.ensures.0.does))) c.from_residual-in_err-n.ensures

pub fn_decl-push_node-requires : goal.fn_decl-push_node-requires
unfolding fn_decl
fn_decl-push_node-requires t c =
    let g0 = opens 1 (λ x. fn_decl x (walkers x c.args.depth)) c.args.book.now c.requires.0 in
    let g1 = goes (λ x. expect x 35) _ g0 (quiet c.args.book.now (taken 35 c.requires.2 (λ z. omega arith) c.in_ok-expect.ensures.does)) in
    let g2 = goes (λ x. ident x ExpectedIdent) _ g1 (quiet c.args.book.now (named ExpectedIdent c.in_ok-i.ensures refl)) in
    let g3 = goes (λ x. store x c.in_ok-i.i Placeholder) _ g2 (quiet c.args.book.now (c.in_ok-store_name.ensures.does)) in
    let g4 = goes (λ x. expect x 1) _ g3 (quiet c.args.book.now (c.in_ok-expect-2.ensures.does)) in
    let g5 = goes (λ x. param_list x (param x) (fuel x) 0) _ g4 (quiet c.args.book.now (c.in_ok-n.ensures.0.does)) in
    let g6 = reads (λ (s : St). reverse (map (λ (y : Node). y.pay) (take c.in_ok-n.n s.nodes))) _ g5 (λ E. refl) in
    paired g6.is

pub fn_decl-returns-in_err-push_node : goal.fn_decl-returns-in_err-push_node
unfolding fn_decl
fn_decl-returns-in_err-push_node t c =
    let g0 = opens 1 (λ x. fn_decl x (walkers x c.args.depth)) c.args.book.now c.requires.0 in
    let g1 = goes (λ x. expect x 35) _ g0 (quiet c.args.book.now (taken 35 c.requires.2 (λ z. omega arith) c.in_ok-expect.ensures.does)) in
    let g2 = goes (λ x. ident x ExpectedIdent) _ g1 (quiet c.args.book.now (named ExpectedIdent c.in_ok-i.ensures refl)) in
    let g3 = goes (λ x. store x c.in_ok-i.i Placeholder) _ g2 (quiet c.args.book.now (c.in_ok-store_name.ensures.does)) in
    let g4 = goes (λ x. expect x 1) _ g3 (quiet c.args.book.now (c.in_ok-expect-2.ensures.does)) in
    let g5 = goes (λ x. param_list x (param x) (fuel x) 0) _ g4 (quiet c.args.book.now (c.in_ok-n.ensures.0.does)) in
    let g6 = reads (λ (s : St). reverse (map (λ (y : Node). y.pay) (take c.in_ok-n.n s.nodes))) _ g5 (λ E. refl) in
    conveyed (stops (λ x. push x 10 false c.in_ok-n.n 0) _ (λ x. fn_decl x (walkers x c.args.depth)) g6 (omega arith) (quiet c.args.book.now (pushed-as 0 c.head_word.ensures c.in_err-push_node.ensures.does))) c.from_residual-in_err-push_node.ensures

pub fn_decl-expect-requires-3 : goal.fn_decl-expect-requires-3
unfolding fn_decl
fn_decl-expect-requires-3 t c =
    let g0 = opens 1 (λ x. fn_decl x (walkers x c.args.depth)) c.args.book.now c.requires.0 in
    let g1 = goes (λ x. expect x 35) _ g0 (quiet c.args.book.now (taken 35 c.requires.2 (λ z. omega arith) c.in_ok-expect.ensures.does)) in
    let g2 = goes (λ x. ident x ExpectedIdent) _ g1 (quiet c.args.book.now (named ExpectedIdent c.in_ok-i.ensures refl)) in
    let g3 = goes (λ x. store x c.in_ok-i.i Placeholder) _ g2 (quiet c.args.book.now (c.in_ok-store_name.ensures.does)) in
    let g4 = goes (λ x. expect x 1) _ g3 (quiet c.args.book.now (c.in_ok-expect-2.ensures.does)) in
    let g5 = goes (λ x. param_list x (param x) (fuel x) 0) _ g4 (quiet c.args.book.now (c.in_ok-n.ensures.0.does)) in
    let g6 = reads (λ (s : St). reverse (map (λ (y : Node). y.pay) (take c.in_ok-n.n s.nodes))) _ g5 (λ E. refl) in
    let g7 = goes (λ x. push x 10 false c.in_ok-n.n 0) _ g6 (quiet c.args.book.now (pushed-as 0 c.head_word.ensures c.in_ok-push_node.ensures.does)) in
    g7.is.stands

pub fn_decl-returns-in_err-expect-3 : goal.fn_decl-returns-in_err-expect-3
unfolding fn_decl
fn_decl-returns-in_err-expect-3 t c =
    let g0 = opens 1 (λ x. fn_decl x (walkers x c.args.depth)) c.args.book.now c.requires.0 in
    let g1 = goes (λ x. expect x 35) _ g0 (quiet c.args.book.now (taken 35 c.requires.2 (λ z. omega arith) c.in_ok-expect.ensures.does)) in
    let g2 = goes (λ x. ident x ExpectedIdent) _ g1 (quiet c.args.book.now (named ExpectedIdent c.in_ok-i.ensures refl)) in
    let g3 = goes (λ x. store x c.in_ok-i.i Placeholder) _ g2 (quiet c.args.book.now (c.in_ok-store_name.ensures.does)) in
    let g4 = goes (λ x. expect x 1) _ g3 (quiet c.args.book.now (c.in_ok-expect-2.ensures.does)) in
    let g5 = goes (λ x. param_list x (param x) (fuel x) 0) _ g4 (quiet c.args.book.now (c.in_ok-n.ensures.0.does)) in
    let g6 = reads (λ (s : St). reverse (map (λ (y : Node). y.pay) (take c.in_ok-n.n s.nodes))) _ g5 (λ E. refl) in
    let g7 = goes (λ x. push x 10 false c.in_ok-n.n 0) _ g6 (quiet c.args.book.now (pushed-as 0 c.head_word.ensures c.in_ok-push_node.ensures.does)) in
    conveyed (stops (λ x. expect x 2) _ (λ x. fn_decl x (walkers x c.args.depth)) g7 (omega arith) (quiet c.args.book.now (c.in_err-expect-3.ensures.does))) c.from_residual-in_err-expect-3.ensures

pub fn_decl-block-requires : goal.fn_decl-block-requires
unfolding fn_decl
fn_decl-block-requires t c =
    let g0 = opens 1 (λ x. fn_decl x (walkers x c.args.depth)) c.args.book.now c.requires.0 in
    let g1 = goes (λ x. expect x 35) _ g0 (quiet c.args.book.now (taken 35 c.requires.2 (λ z. omega arith) c.in_ok-expect.ensures.does)) in
    let g2 = goes (λ x. ident x ExpectedIdent) _ g1 (quiet c.args.book.now (named ExpectedIdent c.in_ok-i.ensures refl)) in
    let g3 = goes (λ x. store x c.in_ok-i.i Placeholder) _ g2 (quiet c.args.book.now (c.in_ok-store_name.ensures.does)) in
    let g4 = goes (λ x. expect x 1) _ g3 (quiet c.args.book.now (c.in_ok-expect-2.ensures.does)) in
    let g5 = goes (λ x. param_list x (param x) (fuel x) 0) _ g4 (quiet c.args.book.now (c.in_ok-n.ensures.0.does)) in
    let g6 = reads (λ (s : St). reverse (map (λ (y : Node). y.pay) (take c.in_ok-n.n s.nodes))) _ g5 (λ E. refl) in
    let g7 = goes (λ x. push x 10 false c.in_ok-n.n 0) _ g6 (quiet c.args.book.now (pushed-as 0 c.head_word.ensures c.in_ok-push_node.ensures.does)) in
    let g8 = goes (λ x. expect x 2) _ g7 (quiet c.args.book.now (c.in_ok-expect-3.ensures.does)) in
    let g9 = block-named c.args.depth true _ g8 (names-kept c.in_ok-n.n c.param_list.new.p c.expect-3.new.self (moved-nodes c.push_node.new.self c.expect-3.new.self c.in_ok-expect-3.ensures.alone ∙ push-nodes 10 false c.in_ok-n.n 0 g6.is (pushed-as 0 c.head_word.ensures c.in_ok-push_node.ensures.does)) c.in_ok-n.ensures.1.1) in
    (omega (arith, c.decreases), (g9.is, booked c.requires.1 g9, omega (arith, nodes-more c.param_list.new.p c.expect-3.new.self (moved-nodes c.push_node.new.self c.expect-3.new.self c.in_ok-expect-3.ensures.alone ∙ push-nodes 10 false c.in_ok-n.n 0 g6.is (pushed-as 0 c.head_word.ensures c.in_ok-push_node.ensures.does)), c.in_ok-n.ensures.1.1)))

pub fn_decl-returns-in_err-block : goal.fn_decl-returns-in_err-block
unfolding fn_decl
fn_decl-returns-in_err-block t c =
    let g0 = opens 1 (λ x. fn_decl x (walkers x c.args.depth)) c.args.book.now c.requires.0 in
    let g1 = goes (λ x. expect x 35) _ g0 (quiet c.args.book.now (taken 35 c.requires.2 (λ z. omega arith) c.in_ok-expect.ensures.does)) in
    let g2 = goes (λ x. ident x ExpectedIdent) _ g1 (quiet c.args.book.now (named ExpectedIdent c.in_ok-i.ensures refl)) in
    let g3 = goes (λ x. store x c.in_ok-i.i Placeholder) _ g2 (quiet c.args.book.now (c.in_ok-store_name.ensures.does)) in
    let g4 = goes (λ x. expect x 1) _ g3 (quiet c.args.book.now (c.in_ok-expect-2.ensures.does)) in
    let g5 = goes (λ x. param_list x (param x) (fuel x) 0) _ g4 (quiet c.args.book.now (c.in_ok-n.ensures.0.does)) in
    let g6 = reads (λ (s : St). reverse (map (λ (y : Node). y.pay) (take c.in_ok-n.n s.nodes))) _ g5 (λ E. refl) in
    let g7 = goes (λ x. push x 10 false c.in_ok-n.n 0) _ g6 (quiet c.args.book.now (pushed-as 0 c.head_word.ensures c.in_ok-push_node.ensures.does)) in
    let g8 = goes (λ x. expect x 2) _ g7 (quiet c.args.book.now (c.in_ok-expect-3.ensures.does)) in
    let g9 = block-named c.args.depth true _ g8 (names-kept c.in_ok-n.n c.param_list.new.p c.expect-3.new.self (moved-nodes c.push_node.new.self c.expect-3.new.self c.in_ok-expect-3.ensures.alone ∙ push-nodes 10 false c.in_ok-n.n 0 g6.is (pushed-as 0 c.head_word.ensures c.in_ok-push_node.ensures.does)) c.in_ok-n.ensures.1.1) in
    conveyed (stops (λ x. (walkers x c.args.depth).block true (between c.expect-3.new.self.load.now (c.param_list.new.p.nodes - c.in_ok-n.n) c.in_ok-n.n)) _ (λ x. fn_decl x (walkers x c.args.depth)) g9 (omega arith) (c.in_err-block.ensures.does 0 (omega arith) (λ z. refl))) c.from_residual-in_err-block.ensures

pub fn_decl-push_node-requires-2 : goal.fn_decl-push_node-requires-2
unfolding fn_decl
fn_decl-push_node-requires-2 t c =
    let g0 = opens 1 (λ x. fn_decl x (walkers x c.args.depth)) c.args.book.now c.requires.0 in
    let g1 = goes (λ x. expect x 35) _ g0 (quiet c.args.book.now (taken 35 c.requires.2 (λ z. omega arith) c.in_ok-expect.ensures.does)) in
    let g2 = goes (λ x. ident x ExpectedIdent) _ g1 (quiet c.args.book.now (named ExpectedIdent c.in_ok-i.ensures refl)) in
    let g3 = goes (λ x. store x c.in_ok-i.i Placeholder) _ g2 (quiet c.args.book.now (c.in_ok-store_name.ensures.does)) in
    let g4 = goes (λ x. expect x 1) _ g3 (quiet c.args.book.now (c.in_ok-expect-2.ensures.does)) in
    let g5 = goes (λ x. param_list x (param x) (fuel x) 0) _ g4 (quiet c.args.book.now (c.in_ok-n.ensures.0.does)) in
    let g6 = reads (λ (s : St). reverse (map (λ (y : Node). y.pay) (take c.in_ok-n.n s.nodes))) _ g5 (λ E. refl) in
    let g7 = goes (λ x. push x 10 false c.in_ok-n.n 0) _ g6 (quiet c.args.book.now (pushed-as 0 c.head_word.ensures c.in_ok-push_node.ensures.does)) in
    let g8 = goes (λ x. expect x 2) _ g7 (quiet c.args.book.now (c.in_ok-expect-3.ensures.does)) in
    let g9 = block-named c.args.depth true _ g8 (names-kept c.in_ok-n.n c.param_list.new.p c.expect-3.new.self (moved-nodes c.push_node.new.self c.expect-3.new.self c.in_ok-expect-3.ensures.alone ∙ push-nodes 10 false c.in_ok-n.n 0 g6.is (pushed-as 0 c.head_word.ensures c.in_ok-push_node.ensures.does)) c.in_ok-n.ensures.1.1) in
    let g10 = goes (λ x. (walkers x c.args.depth).block true (between c.expect-3.new.self.load.now (c.param_list.new.p.nodes - c.in_ok-n.n) c.in_ok-n.n)) _ g9 (c.in_ok-block.ensures.does 0 (omega arith) (λ z. refl)) in
    paired g10.is

pub fn_decl-returns-in_err-push_node-2 : goal.fn_decl-returns-in_err-push_node-2
unfolding fn_decl
fn_decl-returns-in_err-push_node-2 t c =
    let g0 = opens 1 (λ x. fn_decl x (walkers x c.args.depth)) c.args.book.now c.requires.0 in
    let g1 = goes (λ x. expect x 35) _ g0 (quiet c.args.book.now (taken 35 c.requires.2 (λ z. omega arith) c.in_ok-expect.ensures.does)) in
    let g2 = goes (λ x. ident x ExpectedIdent) _ g1 (quiet c.args.book.now (named ExpectedIdent c.in_ok-i.ensures refl)) in
    let g3 = goes (λ x. store x c.in_ok-i.i Placeholder) _ g2 (quiet c.args.book.now (c.in_ok-store_name.ensures.does)) in
    let g4 = goes (λ x. expect x 1) _ g3 (quiet c.args.book.now (c.in_ok-expect-2.ensures.does)) in
    let g5 = goes (λ x. param_list x (param x) (fuel x) 0) _ g4 (quiet c.args.book.now (c.in_ok-n.ensures.0.does)) in
    let g6 = reads (λ (s : St). reverse (map (λ (y : Node). y.pay) (take c.in_ok-n.n s.nodes))) _ g5 (λ E. refl) in
    let g7 = goes (λ x. push x 10 false c.in_ok-n.n 0) _ g6 (quiet c.args.book.now (pushed-as 0 c.head_word.ensures c.in_ok-push_node.ensures.does)) in
    let g8 = goes (λ x. expect x 2) _ g7 (quiet c.args.book.now (c.in_ok-expect-3.ensures.does)) in
    let g9 = block-named c.args.depth true _ g8 (names-kept c.in_ok-n.n c.param_list.new.p c.expect-3.new.self (moved-nodes c.push_node.new.self c.expect-3.new.self c.in_ok-expect-3.ensures.alone ∙ push-nodes 10 false c.in_ok-n.n 0 g6.is (pushed-as 0 c.head_word.ensures c.in_ok-push_node.ensures.does)) c.in_ok-n.ensures.1.1) in
    let g10 = goes (λ x. (walkers x c.args.depth).block true (between c.expect-3.new.self.load.now (c.param_list.new.p.nodes - c.in_ok-n.n) c.in_ok-n.n)) _ g9 (c.in_ok-block.ensures.does 0 (omega arith) (λ z. refl)) in
    conveyed (stops (λ x. push x 9 false 2 c.in_ok-i.i) _ (λ x. fn_decl x (walkers x c.args.depth)) g10 (omega arith) (quiet c.block.new.book (c.in_err-push_node-2.ensures.does))) c.from_residual-in_err-push_node-2.ensures

pub fn_decl-store_name-requires-2 : goal.fn_decl-store_name-requires-2
unfolding fn_decl value_of
fn_decl-store_name-requires-2 t c =
    let g0 = opens 1 (λ x. fn_decl x (walkers x c.args.depth)) c.args.book.now c.requires.0 in
    let g1 = goes (λ x. expect x 35) _ g0 (quiet c.args.book.now (taken 35 c.requires.2 (λ z. omega arith) c.in_ok-expect.ensures.does)) in
    let g2 = goes (λ x. ident x ExpectedIdent) _ g1 (quiet c.args.book.now (named ExpectedIdent c.in_ok-i.ensures refl)) in
    let g3 = goes (λ x. store x c.in_ok-i.i Placeholder) _ g2 (quiet c.args.book.now (c.in_ok-store_name.ensures.does)) in
    let g4 = goes (λ x. expect x 1) _ g3 (quiet c.args.book.now (c.in_ok-expect-2.ensures.does)) in
    let g5 = goes (λ x. param_list x (param x) (fuel x) 0) _ g4 (quiet c.args.book.now (c.in_ok-n.ensures.0.does)) in
    let g6 = reads (λ (s : St). reverse (map (λ (y : Node). y.pay) (take c.in_ok-n.n s.nodes))) _ g5 (λ E. refl) in
    let g7 = goes (λ x. push x 10 false c.in_ok-n.n 0) _ g6 (quiet c.args.book.now (pushed-as 0 c.head_word.ensures c.in_ok-push_node.ensures.does)) in
    let g8 = goes (λ x. expect x 2) _ g7 (quiet c.args.book.now (c.in_ok-expect-3.ensures.does)) in
    let g9 = block-named c.args.depth true _ g8 (names-kept c.in_ok-n.n c.param_list.new.p c.expect-3.new.self (moved-nodes c.push_node.new.self c.expect-3.new.self c.in_ok-expect-3.ensures.alone ∙ push-nodes 10 false c.in_ok-n.n 0 g6.is (pushed-as 0 c.head_word.ensures c.in_ok-push_node.ensures.does)) c.in_ok-n.ensures.1.1) in
    let g10 = goes (λ x. (walkers x c.args.depth).block true (between c.expect-3.new.self.load.now (c.param_list.new.p.nodes - c.in_ok-n.n) c.in_ok-n.n)) _ g9 (c.in_ok-block.ensures.does 0 (omega arith) (λ z. refl)) in
    let g11 = goes (λ x. push x 9 false 2 c.in_ok-i.i) _ g10 (quiet c.block.new.book (c.in_ok-push_node-2.ensures.does)) in
    fits g11.is (omega (arith, (name-next ExpectedIdent g1.is c.in_ok-i.ensures refl).value, here-few c.expect.new.self g1.is)) (omega (arith, c.in_ok-n.ensures.1.0))

pub fn_decl-returns-in_err-store_name-2 : goal.fn_decl-returns-in_err-store_name-2
unfolding fn_decl
fn_decl-returns-in_err-store_name-2 t c =
    let g0 = opens 1 (λ x. fn_decl x (walkers x c.args.depth)) c.args.book.now c.requires.0 in
    let g1 = goes (λ x. expect x 35) _ g0 (quiet c.args.book.now (taken 35 c.requires.2 (λ z. omega arith) c.in_ok-expect.ensures.does)) in
    let g2 = goes (λ x. ident x ExpectedIdent) _ g1 (quiet c.args.book.now (named ExpectedIdent c.in_ok-i.ensures refl)) in
    let g3 = goes (λ x. store x c.in_ok-i.i Placeholder) _ g2 (quiet c.args.book.now (c.in_ok-store_name.ensures.does)) in
    let g4 = goes (λ x. expect x 1) _ g3 (quiet c.args.book.now (c.in_ok-expect-2.ensures.does)) in
    let g5 = goes (λ x. param_list x (param x) (fuel x) 0) _ g4 (quiet c.args.book.now (c.in_ok-n.ensures.0.does)) in
    let g6 = reads (λ (s : St). reverse (map (λ (y : Node). y.pay) (take c.in_ok-n.n s.nodes))) _ g5 (λ E. refl) in
    let g7 = goes (λ x. push x 10 false c.in_ok-n.n 0) _ g6 (quiet c.args.book.now (pushed-as 0 c.head_word.ensures c.in_ok-push_node.ensures.does)) in
    let g8 = goes (λ x. expect x 2) _ g7 (quiet c.args.book.now (c.in_ok-expect-3.ensures.does)) in
    let g9 = block-named c.args.depth true _ g8 (names-kept c.in_ok-n.n c.param_list.new.p c.expect-3.new.self (moved-nodes c.push_node.new.self c.expect-3.new.self c.in_ok-expect-3.ensures.alone ∙ push-nodes 10 false c.in_ok-n.n 0 g6.is (pushed-as 0 c.head_word.ensures c.in_ok-push_node.ensures.does)) c.in_ok-n.ensures.1.1) in
    let g10 = goes (λ x. (walkers x c.args.depth).block true (between c.expect-3.new.self.load.now (c.param_list.new.p.nodes - c.in_ok-n.n) c.in_ok-n.n)) _ g9 (c.in_ok-block.ensures.does 0 (omega arith) (λ z. refl)) in
    let g11 = goes (λ x. push x 9 false 2 c.in_ok-i.i) _ g10 (quiet c.block.new.book (c.in_ok-push_node-2.ensures.does)) in
    conveyed (lasts (λ x. store x c.in_ok-i.i (Function c.in_ok-n.n)) (λ x. fn_decl x (walkers x c.args.depth)) g11 (omega arith) (quiet c.block.new.book (c.in_err-store_name-2.ensures.does))) c.from_residual-in_err-store_name-2.ensures

pub fn_decl-returns : goal.fn_decl-returns
unfolding fn_decl
fn_decl-returns t c =
    let g0 = opens 1 (λ x. fn_decl x (walkers x c.args.depth)) c.args.book.now c.requires.0 in
    let g1 = goes (λ x. expect x 35) _ g0 (quiet c.args.book.now (taken 35 c.requires.2 (λ z. omega arith) c.in_ok-expect.ensures.does)) in
    let g2 = goes (λ x. ident x ExpectedIdent) _ g1 (quiet c.args.book.now (named ExpectedIdent c.in_ok-i.ensures refl)) in
    let g3 = goes (λ x. store x c.in_ok-i.i Placeholder) _ g2 (quiet c.args.book.now (c.in_ok-store_name.ensures.does)) in
    let g4 = goes (λ x. expect x 1) _ g3 (quiet c.args.book.now (c.in_ok-expect-2.ensures.does)) in
    let g5 = goes (λ x. param_list x (param x) (fuel x) 0) _ g4 (quiet c.args.book.now (c.in_ok-n.ensures.0.does)) in
    let g6 = reads (λ (s : St). reverse (map (λ (y : Node). y.pay) (take c.in_ok-n.n s.nodes))) _ g5 (λ E. refl) in
    let g7 = goes (λ x. push x 10 false c.in_ok-n.n 0) _ g6 (quiet c.args.book.now (pushed-as 0 c.head_word.ensures c.in_ok-push_node.ensures.does)) in
    let g8 = goes (λ x. expect x 2) _ g7 (quiet c.args.book.now (c.in_ok-expect-3.ensures.does)) in
    let g9 = block-named c.args.depth true _ g8 (names-kept c.in_ok-n.n c.param_list.new.p c.expect-3.new.self (moved-nodes c.push_node.new.self c.expect-3.new.self c.in_ok-expect-3.ensures.alone ∙ push-nodes 10 false c.in_ok-n.n 0 g6.is (pushed-as 0 c.head_word.ensures c.in_ok-push_node.ensures.does)) c.in_ok-n.ensures.1.1) in
    let g10 = goes (λ x. (walkers x c.args.depth).block true (between c.expect-3.new.self.load.now (c.param_list.new.p.nodes - c.in_ok-n.n) c.in_ok-n.n)) _ g9 (c.in_ok-block.ensures.does 0 (omega arith) (λ z. refl)) in
    let g11 = goes (λ x. push x 9 false 2 c.in_ok-i.i) _ g10 (quiet c.block.new.book (c.in_ok-push_node-2.ensures.does)) in
    lasts (λ x. store x c.in_ok-i.i (Function c.in_ok-n.n)) (λ x. fn_decl x (walkers x c.args.depth)) g11 (omega arith) (quiet c.block.new.book (c.in_ok-store_name-2.ensures.does))

pub for_stmt-returns-in_err-expect : goal.for_stmt-returns-in_err-expect
unfolding for_stmt
for_stmt-returns-in_err-expect t c =
    let g0 = opens 1 (λ x. for_stmt x (walkers x c.args.depth)) c.args.book.now c.requires.0 in
    conveyed (stops (λ x. expect x 42) _ (λ x. for_stmt x (walkers x c.args.depth)) g0 (omega arith) (quiet c.args.book.now (taken 42 c.requires.2 (λ z. omega arith) c.in_err-expect.ensures.does))) c.from_residual.ensures

pub for_stmt-ident_pair-requires : goal.for_stmt-ident_pair-requires
unfolding for_stmt
for_stmt-ident_pair-requires t c =
    let g0 = opens 1 (λ x. for_stmt x (walkers x c.args.depth)) c.args.book.now c.requires.0 in
    let g1 = goes (λ x. expect x 42) _ g0 (quiet c.args.book.now (taken 42 c.requires.2 (λ z. omega arith) c.in_ok-expect.ensures.does)) in
    midst g1.is

pub for_stmt-returns-in_err-i : goal.for_stmt-returns-in_err-i
unfolding for_stmt
for_stmt-returns-in_err-i t c =
    let g0 = opens 1 (λ x. for_stmt x (walkers x c.args.depth)) c.args.book.now c.requires.0 in
    let g1 = goes (λ x. expect x 42) _ g0 (quiet c.args.book.now (taken 42 c.requires.2 (λ z. omega arith) c.in_ok-expect.ensures.does)) in
    conveyed (stops (λ x. ident_pair x) _ (λ x. for_stmt x (walkers x c.args.depth)) g1 (omega arith) (quiet c.args.book.now (c.in_err-i.ensures.0.does))) c.from_residual-in_err-i.ensures

pub for_stmt-returns-in_err-expect-2 : goal.for_stmt-returns-in_err-expect-2
unfolding for_stmt
for_stmt-returns-in_err-expect-2 t c =
    let g0 = opens 1 (λ x. for_stmt x (walkers x c.args.depth)) c.args.book.now c.requires.0 in
    let g1 = goes (λ x. expect x 42) _ g0 (quiet c.args.book.now (taken 42 c.requires.2 (λ z. omega arith) c.in_ok-expect.ensures.does)) in
    let g2 = goes (λ x. ident_pair x) _ g1 (quiet c.args.book.now (c.in_ok-i.ensures.0.does)) in
    conveyed (stops (λ x. expect x 43) _ (λ x. for_stmt x (walkers x c.args.depth)) g2 (omega arith) (quiet c.args.book.now (c.in_err-expect-2.ensures.does))) c.from_residual-in_err-expect-2.ensures

pub for_stmt-returns-in_err-expr : goal.for_stmt-returns-in_err-expr
unfolding for_stmt
for_stmt-returns-in_err-expr t c =
    let g0 = opens 1 (λ x. for_stmt x (walkers x c.args.depth)) c.args.book.now c.requires.0 in
    let g1 = goes (λ x. expect x 42) _ g0 (quiet c.args.book.now (taken 42 c.requires.2 (λ z. omega arith) c.in_ok-expect.ensures.does)) in
    let g2 = goes (λ x. ident_pair x) _ g1 (quiet c.args.book.now (c.in_ok-i.ensures.0.does)) in
    let g3 = goes (λ x. expect x 43) _ g2 (quiet c.args.book.now (c.in_ok-expect-2.ensures.does)) in
    conveyed (stops (λ x. (walkers x c.args.depth).assign) _ (λ x. for_stmt x (walkers x c.args.depth)) g3 (omega arith) (quiet c.args.book.now (c.in_err-expr.ensures))) c.from_residual-in_err-expr.ensures

pub for_stmt-block-requires : goal.for_stmt-block-requires
unfolding for_stmt
for_stmt-block-requires t c =
    let g0 = opens 1 (λ x. for_stmt x (walkers x c.args.depth)) c.args.book.now c.requires.0 in
    let g1 = goes (λ x. expect x 42) _ g0 (quiet c.args.book.now (taken 42 c.requires.2 (λ z. omega arith) c.in_ok-expect.ensures.does)) in
    let g2 = goes (λ x. ident_pair x) _ g1 (quiet c.args.book.now (c.in_ok-i.ensures.0.does)) in
    let g3 = goes (λ x. expect x 43) _ g2 (quiet c.args.book.now (c.in_ok-expect-2.ensures.does)) in
    let g4 = goes (λ x. (walkers x c.args.depth).assign) _ g3 (quiet c.args.book.now (c.in_ok-expr.ensures)) in
    (omega (arith, c.decreases), (g4.is, booked c.requires.1 g4, c.in_ok-i.ensures.1))

pub for_stmt-returns-in_err-block : goal.for_stmt-returns-in_err-block
unfolding for_stmt
for_stmt-returns-in_err-block t c =
    let g0 = opens 1 (λ x. for_stmt x (walkers x c.args.depth)) c.args.book.now c.requires.0 in
    let g1 = goes (λ x. expect x 42) _ g0 (quiet c.args.book.now (taken 42 c.requires.2 (λ z. omega arith) c.in_ok-expect.ensures.does)) in
    let g2 = goes (λ x. ident_pair x) _ g1 (quiet c.args.book.now (c.in_ok-i.ensures.0.does)) in
    let g3 = goes (λ x. expect x 43) _ g2 (quiet c.args.book.now (c.in_ok-expect-2.ensures.does)) in
    let g4 = goes (λ x. (walkers x c.args.depth).assign) _ g3 (quiet c.args.book.now (c.in_ok-expr.ensures)) in
    conveyed (stops (λ x. (walkers x c.args.depth).block false (c.in_ok-i.i ∷ c.in_ok-i.j ∷ [])) _ (λ x. for_stmt x (walkers x c.args.depth)) g4 (omega arith) (c.in_err-block.ensures.does 0 (omega arith) (λ z. refl))) c.from_residual-in_err-block.ensures

pub for_stmt-push_node-requires : goal.for_stmt-push_node-requires
unfolding for_stmt
for_stmt-push_node-requires t c =
    let g0 = opens 1 (λ x. for_stmt x (walkers x c.args.depth)) c.args.book.now c.requires.0 in
    let g1 = goes (λ x. expect x 42) _ g0 (quiet c.args.book.now (taken 42 c.requires.2 (λ z. omega arith) c.in_ok-expect.ensures.does)) in
    let g2 = goes (λ x. ident_pair x) _ g1 (quiet c.args.book.now (c.in_ok-i.ensures.0.does)) in
    let g3 = goes (λ x. expect x 43) _ g2 (quiet c.args.book.now (c.in_ok-expect-2.ensures.does)) in
    let g4 = goes (λ x. (walkers x c.args.depth).assign) _ g3 (quiet c.args.book.now (c.in_ok-expr.ensures)) in
    let g5 = goes (λ x. (walkers x c.args.depth).block false (c.in_ok-i.i ∷ c.in_ok-i.j ∷ [])) _ g4 (c.in_ok-block.ensures.does 0 (omega arith) (λ z. refl)) in
    paired g5.is

pub for_stmt-returns-in_err-push_node : goal.for_stmt-returns-in_err-push_node
unfolding for_stmt
for_stmt-returns-in_err-push_node t c =
    let g0 = opens 1 (λ x. for_stmt x (walkers x c.args.depth)) c.args.book.now c.requires.0 in
    let g1 = goes (λ x. expect x 42) _ g0 (quiet c.args.book.now (taken 42 c.requires.2 (λ z. omega arith) c.in_ok-expect.ensures.does)) in
    let g2 = goes (λ x. ident_pair x) _ g1 (quiet c.args.book.now (c.in_ok-i.ensures.0.does)) in
    let g3 = goes (λ x. expect x 43) _ g2 (quiet c.args.book.now (c.in_ok-expect-2.ensures.does)) in
    let g4 = goes (λ x. (walkers x c.args.depth).assign) _ g3 (quiet c.args.book.now (c.in_ok-expr.ensures)) in
    let g5 = goes (λ x. (walkers x c.args.depth).block false (c.in_ok-i.i ∷ c.in_ok-i.j ∷ [])) _ g4 (c.in_ok-block.ensures.does 0 (omega arith) (λ z. refl)) in
    conveyed (lasts (λ x. push x 5 false 3 0) (λ x. for_stmt x (walkers x c.args.depth)) g5 (omega arith) (quiet c.block.new.book (c.in_err-push_node.ensures.does))) c.from_residual-in_err-push_node.ensures

pub for_stmt-returns : goal.for_stmt-returns
unfolding for_stmt
for_stmt-returns t c =
    let g0 = opens 1 (λ x. for_stmt x (walkers x c.args.depth)) c.args.book.now c.requires.0 in
    let g1 = goes (λ x. expect x 42) _ g0 (quiet c.args.book.now (taken 42 c.requires.2 (λ z. omega arith) c.in_ok-expect.ensures.does)) in
    let g2 = goes (λ x. ident_pair x) _ g1 (quiet c.args.book.now (c.in_ok-i.ensures.0.does)) in
    let g3 = goes (λ x. expect x 43) _ g2 (quiet c.args.book.now (c.in_ok-expect-2.ensures.does)) in
    let g4 = goes (λ x. (walkers x c.args.depth).assign) _ g3 (quiet c.args.book.now (c.in_ok-expr.ensures)) in
    let g5 = goes (λ x. (walkers x c.args.depth).block false (c.in_ok-i.i ∷ c.in_ok-i.j ∷ [])) _ g4 (c.in_ok-block.ensures.does 0 (omega arith) (λ z. refl)) in
    lasts (λ x. push x 5 false 3 0) (λ x. for_stmt x (walkers x c.args.depth)) g5 (omega arith) (quiet c.block.new.book (c.in_ok-push_node.ensures.does))

pub if_stmt-returns-in_err-expect : goal.if_stmt-returns-in_err-expect
unfolding if_stmt
if_stmt-returns-in_err-expect t c =
    let g0 = opens 1 (λ x. if_stmt x (walkers x c.args.depth)) c.args.book.now c.requires.0 in
    conveyed (stops (λ x. expect x 39) _ (λ x. if_stmt x (walkers x c.args.depth)) g0 (omega arith) (quiet c.args.book.now (taken 39 c.requires.2 (λ z. omega arith) c.in_err-expect.ensures.does))) c.from_residual.ensures

pub if_stmt-returns-in_err-expr : goal.if_stmt-returns-in_err-expr
unfolding if_stmt
if_stmt-returns-in_err-expr t c =
    let g0 = opens 1 (λ x. if_stmt x (walkers x c.args.depth)) c.args.book.now c.requires.0 in
    let g1 = goes (λ x. expect x 39) _ g0 (quiet c.args.book.now (taken 39 c.requires.2 (λ z. omega arith) c.in_ok-expect.ensures.does)) in
    conveyed (stops (λ x. (walkers x c.args.depth).assign) _ (λ x. if_stmt x (walkers x c.args.depth)) g1 (omega arith) (quiet c.args.book.now (c.in_err-expr.ensures))) c.from_residual-in_err-expr.ensures

pub if_stmt-returns-in_err-block : goal.if_stmt-returns-in_err-block
unfolding if_stmt
if_stmt-returns-in_err-block t c =
    let g0 = opens 1 (λ x. if_stmt x (walkers x c.args.depth)) c.args.book.now c.requires.0 in
    let g1 = goes (λ x. expect x 39) _ g0 (quiet c.args.book.now (taken 39 c.requires.2 (λ z. omega arith) c.in_ok-expect.ensures.does)) in
    let g2 = goes (λ x. (walkers x c.args.depth).assign) _ g1 (quiet c.args.book.now (c.in_ok-expr.ensures)) in
    conveyed (stops (λ x. (walkers x c.args.depth).block false []) _ (λ x. if_stmt x (walkers x c.args.depth)) g2 (omega arith) (c.in_err-block.ensures.does 0 (omega arith) (λ z. refl))) c.from_residual-in_err-block.ensures

pub if_stmt-branches-requires : goal.if_stmt-branches-requires
unfolding if_stmt
if_stmt-branches-requires t c =
    let g0 = opens 2 (λ x. if_stmt x (walkers x c.args.depth)) c.args.book.now c.requires.0 in
    let g1 = goes (λ x. expect x 39) _ g0 (quiet c.args.book.now (taken 39 c.requires.2 (λ z. omega arith) c.in_ok-expect.ensures.does)) in
    let g2 = goes (λ x. (walkers x c.args.depth).assign) _ g1 (quiet c.args.book.now (c.in_ok-expr.ensures)) in
    let g3 = goes (λ x. (walkers x c.args.depth).block false []) _ g2 (c.in_ok-block.ensures.does 0 (omega arith) (λ z. refl)) in
    (omega (arith, c.decreases), (g3.is, booked c.requires.1 g3, omega (arith, g3.on)))

pub if_stmt-returns : goal.if_stmt-returns
unfolding if_stmt
if_stmt-returns t c =
    let g0 = opens 1 (λ x. if_stmt x (walkers x c.args.depth)) c.args.book.now c.requires.0 in
    let g1 = goes (λ x. expect x 39) _ g0 (quiet c.args.book.now (taken 39 c.requires.2 (λ z. omega arith) c.in_ok-expect.ensures.does)) in
    let g2 = goes (λ x. (walkers x c.args.depth).assign) _ g1 (quiet c.args.book.now (c.in_ok-expr.ensures)) in
    let g3 = goes (λ x. (walkers x c.args.depth).block false []) _ g2 (c.in_ok-block.ensures.does 0 (omega arith) (λ z. refl)) in
    lasts (λ x. branches_of x (walkers x c.args.depth) (fuel x) 0 0) (λ x. if_stmt x (walkers x c.args.depth)) g3 (omega arith) (c.branches.ensures)

pub stmt-returns-then-k-eq-IF : goal.stmt-returns-then-k-eq-IF
unfolding stmt_of
stmt-returns-then-k-eq-IF t c =
    let g0 = kind-of _ (opens 1 (λ x. stmt_of x (walkers x c.args.depth)) c.args.book.now c.requires.0) in
    lasts (λ x. if_stmt x (walkers x c.args.depth)) (λ x. stmt_of x (walkers x c.args.depth)) (if-yes _ _ g0 (eq-eqb _ _ (sym c.kind-k.ensures ∙ c.if-k-eq-IF.true))) (omega arith) (c.if_stmt.ensures)

pub stmt-returns-then-k-eq-FOR : goal.stmt-returns-then-k-eq-FOR
unfolding stmt_of
stmt-returns-then-k-eq-FOR t c =
    let g0 = kind-of _ (opens 1 (λ x. stmt_of x (walkers x c.args.depth)) c.args.book.now c.requires.0) in
    let g1 = if-no _ _ g0 (ne_eqb _ _ (λ z. c.if-k-eq-IF.false (c.kind-k.ensures ∙ z))) in
    lasts (λ x. for_stmt x (walkers x c.args.depth)) (λ x. stmt_of x (walkers x c.args.depth)) (if-yes _ _ g1 (eq-eqb _ _ (sym c.kind-k.ensures ∙ c.if-k-eq-FOR.true))) (omega arith) (c.for_stmt.ensures)

pub stmt-returns-then-k-eq-RETURN : goal.stmt-returns-then-k-eq-RETURN
unfolding stmt_of
stmt-returns-then-k-eq-RETURN t c =
    let g0 = kind-of _ (opens 1 (λ x. stmt_of x (walkers x c.args.depth)) c.args.book.now c.requires.0) in
    let g1 = if-no _ _ g0 (ne_eqb _ _ (λ z. c.if-k-eq-IF.false (c.kind-k.ensures ∙ z))) in
    let g2 = if-no _ _ g1 (ne_eqb _ _ (λ z. c.if-k-eq-FOR.false (c.kind-k.ensures ∙ z))) in
    lasts (λ x. ret_stmt x (walkers x c.args.depth)) (λ x. stmt_of x (walkers x c.args.depth)) (if-yes _ _ g2 (eq-eqb _ _ (sym c.kind-k.ensures ∙ c.if-k-eq-RETURN.true))) (omega arith) (quiet c.args.book.now (c.ret_stmt.ensures))

pub stmt-returns-then-k-eq-LEFT_BRACE : goal.stmt-returns-then-k-eq-LEFT_BRACE
unfolding stmt_of
stmt-returns-then-k-eq-LEFT_BRACE t c =
    let g0 = kind-of _ (opens 1 (λ x. stmt_of x (walkers x c.args.depth)) c.args.book.now c.requires.0) in
    let g1 = if-no _ _ g0 (ne_eqb _ _ (λ z. c.if-k-eq-IF.false (c.kind-k.ensures ∙ z))) in
    let g2 = if-no _ _ g1 (ne_eqb _ _ (λ z. c.if-k-eq-FOR.false (c.kind-k.ensures ∙ z))) in
    let g3 = if-no _ _ g2 (ne_eqb _ _ (λ z. c.if-k-eq-RETURN.false (c.kind-k.ensures ∙ z))) in
    lasts (λ x. (walkers x c.args.depth).block false []) (λ x. stmt_of x (walkers x c.args.depth)) (if-yes _ _ g3 (eq-eqb _ _ (sym c.kind-k.ensures ∙ c.if-k-eq-LEFT_BRACE.true))) (omega arith) (c.block.ensures.does 1 (omega arith) (λ z. absurd (z (sym c.kind-k.ensures ∙ c.if-k-eq-LEFT_BRACE.true))))

pub stmt-returns : goal.stmt-returns
unfolding stmt_of
stmt-returns t c =
    let g0 = kind-of _ (opens 1 (λ x. stmt_of x (walkers x c.args.depth)) c.args.book.now c.requires.0) in
    let g1 = if-no _ _ g0 (ne_eqb _ _ (λ z. c.if-k-eq-IF.false (c.kind-k.ensures ∙ z))) in
    let g2 = if-no _ _ g1 (ne_eqb _ _ (λ z. c.if-k-eq-FOR.false (c.kind-k.ensures ∙ z))) in
    let g3 = if-no _ _ g2 (ne_eqb _ _ (λ z. c.if-k-eq-RETURN.false (c.kind-k.ensures ∙ z))) in
    let g4 = if-no _ _ g3 (ne_eqb _ _ (λ z. c.if-k-eq-LEFT_BRACE.false (c.kind-k.ensures ∙ z))) in
    lasts (λ x. expr_stmt x (walkers x c.args.depth)) (λ x. stmt_of x (walkers x c.args.depth)) g4 (omega arith) (quiet c.args.book.now (c.expr_stmt.ensures))
