-- What holds of the listed errors wherever a walk is: there is room for them, and a message is not 0. So an error's two words say which error it is. Each step of
-- the walk keeps this, in the order of the definition: State.antt, Symbols.antt, Expr.antt, Stmt.antt and Walk.antt of sifc_def.
use Prim.Native.Nat.{ℕ, zero, suc, ◌-◌, ◌≤◌, ◌<◌}
use mathlib.Core.List.{List, [], ◌∷◌}
use Rattle.std.proofs.Math.Option.{Option, none, some}
use Rattle.std.specs.Prelude.{Bool, ◌≡◌, length}
use Rattle.std.proofs.Math.Bool.{true, false}
use Rattle.std.proofs.Common.{arith}
use Rattle.std.proofs.Math.Dec.{eqb, leb, ltb}
use borrow.Author.Tests.{ltb-true}
use Rattle.sifc_word.specs.Base.{if◌then◌otherwise◌}
use Rattle.sifc_word.specs.Kind.{Eof, LexPanic}
use Rattle.sifc_def.specs.declared.Err.{Err}
use Rattle.sifc_def.specs.Why.{Why}
use Rattle.sifc_err.specs.declared.parse_err.ParseErrTy.TheVariants.{InvalidIdent, InvalidTkn, InvalidTknMsg, InvalidAssign, InvalidForStmt, InvalidIfStmt, TknMismatch, FnParmCntExceeded, WrongFnParmCnt, UndeclSym, UnassignedVar, ExpectedIdent}
use Rattle.sifc_def.specs.declared.What.{What}
use Rattle.sifc_def.specs.declared.What.TheVariants.{Placeholder, Function, Variable, Other}
use Rattle.sifc_def.specs.Error.{continuable}
use Rattle.sifc_def.specs.State.{Node, Ctx, St, Out, done, fail, refuse, M, Void, go_on, tok_at, name_at, err, panic_at, arrive, consume, list, raise, add_error_w_pos, add_error, throw, throw_past, expect, optional, match_ident, or_throw, ident, push, set_nodes}
use Rattle.sifc_def.specs.Symbols.{put_at, retrieve, store, set_level, init_scope, close_scope, set_check}
use Rattle.sifc_def.specs.Expr.{Rec, operators, levels, assign_var, assign_token, assign_array, assign_nothing, assign_to, separator, param_list, single, call_counted, call_declared, call_name, call_named, literal, known, check_name, ident_expr, assign_expr, unary_expr, group_expr, at_expr, primary_expr, call_part, dot, index, postfix, fn_call_expr}
use Rattle.sifc_def.specs.Stmt.{bind, with_return, ident_node, param, ident_pair, declare_var, array_nodes, end_if, comma_list, array_decl, table_item, item_list, table_decl, initial, var_decl, fn_decl, elif_stmt, else_block, branches, if_stmt, for_stmt, ret_stmt, expr_stmt, stmt, decl, decls, block}
use Rattle.sifc_def.specs.Walk.{End, start, walkers, give_up, settled, top_decl, end_read, program, walk}
use Rattle.sifc_def.proofs.OutcomeLaws.{Holds, by-test, is-done, is-fail, is-refused, call}
use Rattle.sifc_def.proofs.StepLaws.{Each}

-- a message has a number from 1 on
abbrev pub Spoken : Why → Type 0
Spoken (InvalidIdent i) = Unit {0}
Spoken (InvalidTkn i) = Unit {0}
Spoken (InvalidTknMsg m) = 0 < m
Spoken (InvalidAssign i) = Unit {0}
Spoken InvalidForStmt = Unit {0}
Spoken InvalidIfStmt = Unit {0}
Spoken (TknMismatch k i) = Unit {0}
Spoken (FnParmCntExceeded n) = Unit {0}
Spoken (WrongFnParmCnt n m) = Unit {0}
Spoken (UndeclSym i) = Unit {0}
Spoken (UnassignedVar i) = Unit {0}
Spoken (ExpectedIdent i) = Unit {0}

module _ (c : Ctx) where
  pub record Listed (es : List Err) : Type 0 where
    pub room : length es ≤ c.err_room
    pub spoken : Each (λ (e : Err). Spoken e.why) es

  -- a step keeps it, whatever it comes to
  pub record Keeps {A : Type 0} (m : M A) : Type 0 where
    pub keeps : (s : St) → Listed s.errs → Holds (m s) (λ a s'. Listed s'.errs) (λ s'. Listed s'.errs)

  -- ── what steps are made of ──

  -- a value, the errors as they were
  plain : {A : Type 0} (f : St → A) (g : St → St) → ((s : St) → Listed s.errs → Listed (g s).errs) → Keeps (λ s. done (f s) (g s))
  plain f g h = record { keeps = λ s l. is-done (h s l) }

  reads : {A : Type 0} (f : St → A) → Keeps (λ s. done (f s) s)
  reads f = record { keeps = λ s l. is-done l }

  step : {A B : Type 0} {m : M A} {f : A → M B} → Keeps m → ((a : A) → Keeps (f a)) → Keeps (λ s. go_on (m s) f)
  step k h = record { keeps = λ s l. call (k.keeps s l) (λ s' l'. l') (λ a s' l'. (h a).keeps s' l') }

  -- one of two, at each state
  by : {A : Type 0} (b : St → Bool) (m k : M A) → ((s : St) → Listed s.errs → b s ≡ true → Holds (m s) (λ a s'. Listed s'.errs) (λ s'. Listed s'.errs)) → Keeps k → Keeps (λ s. if b s then m s otherwise k s)
  by b m k h g = record { keeps = λ s l. by-test (b s) (m s) (k s) (λ (o : Out _). Holds o (λ a s'. Listed s'.errs) (λ s'. Listed s'.errs)) (λ e. h s l e) (λ e. g.keeps s l) }

  either : {A : Type 0} (b : Bool) {m k : M A} → Keeps m → Keeps k → Keeps (if◌then◌otherwise◌ {A = M A} b m k)
  either b {m} {k} g h = by-test b m k (λ (x : M _). Keeps x) (λ e. g) (λ e. h)

  refuses : {A : Type 0} (m : M A) → ((s : St) → Holds (m s) (λ a s'. Listed s'.errs) (λ s'. Listed s'.errs)) → Keeps m
  refuses m h = record { keeps = λ s l. h s }

  -- ── State.antt ──

  panic-keeps : {A : Type 0} (k i : ℕ) → Keeps (panic_at c {A = A} k i)
  unfolding panic_at
  panic-keeps k i = refuses (panic_at c k i) (λ s. is-refused)

  arrive-keeps : Keeps (arrive c)
  unfolding arrive
  arrive-keeps = by (λ s. eqb (tok_at c s.at).kind LexPanic) _ _ (λ s l e. is-refused) (reads _)

  consume-keeps : Keeps (consume c)
  unfolding consume
  consume-keeps = by (λ s. eqb (tok_at c s.at).kind Eof) _ _ (λ s l e. is-done l) (record { keeps = λ s l. arrive-keeps.keeps _ l })

  -- an error is listed where there is room for it
  list-keeps : (e : Err) → Spoken e.why → Keeps (list c e)
  unfolding list Each
  list-keeps e p =
      by (λ s. ltb (length s.errs) c.err_room) _ _ (λ s l q. is-done (record { room = ltb-true (length s.errs) c.err_room q; spoken = (p, l.spoken) })) (refuses _ (λ s. is-refused))

  raise-keeps : {A : Type 0} (e : Err) → Keeps (raise c {A = A} e)
  unfolding raise
  raise-keeps e = record { keeps = λ s l. is-fail l }

  add-at-keeps : (i : ℕ) (w : Why) → Spoken w → Keeps (add_error_w_pos c i w)
  unfolding add_error_w_pos
  add-at-keeps i w p = step (list-keeps (err i w) p) (λ u. reads _)

  add-keeps : (w : Why) → Spoken w → Keeps (add_error c w)
  unfolding add_error
  add-keeps w p = step (reads _) (λ i. add-at-keeps i w p)

  throw-keeps : {A : Type 0} (w : Why) → Spoken w → Keeps (throw c {A = A} w)
  unfolding throw
  throw-keeps w p = step (add-keeps w p) (λ e. raise-keeps e)

  throw-past-keeps : {A : Type 0} (w : Why) → Spoken w → Keeps (throw_past c {A = A} w)
  unfolding throw_past
  throw-past-keeps w p = step (add-keeps w p) (λ e. step consume-keeps (λ u. raise-keeps e))

  expect-keeps : (k : ℕ) → Keeps (expect c k)
  unfolding expect
  expect-keeps k = step (reads _) (λ k'. step (reads _) (λ i. either (eqb k' k) consume-keeps (raise-keeps _)))

  optional-keeps : (k : ℕ) → Keeps (optional c k)
  unfolding optional
  optional-keeps k = step (reads _) (λ k'. either (eqb k' k) (step consume-keeps (λ u. reads _)) (reads _))

  match-ident-keeps : Keeps (match_ident c)
  unfolding match_ident
  match-ident-keeps = step (reads _) (λ k. step (reads _) (λ i. either _ (step consume-keeps (λ u. reads _)) (step (add-keeps (InvalidIdent i) tt) (λ e. reads _))))

  or-throw-keeps : (w : Why) → Spoken w → (o : Option ℕ) → Keeps (or_throw c w o)
  unfolding or_throw
  or-throw-keeps w p (some i) = reads _
  or-throw-keeps w p none = throw-keeps w p

  ident-keeps : (w : ℕ → Why) → ((i : ℕ) → Spoken (w i)) → Keeps (ident c w)
  unfolding ident
  ident-keeps w p = step (reads _) (λ i. step match-ident-keeps (λ o. or-throw-keeps (w i) (p i) o))

  push-keeps : (k : ℕ) (f : Bool) (n p : ℕ) → Keeps (push c k f n p)
  unfolding push
  push-keeps k f n p = by (λ s. ltb (length s.nodes) c.node_room) _ _ (λ s l e. is-done l) (refuses _ (λ s. is-refused))

  set-nodes-keeps : (f : List Node → List Node) → Keeps (set_nodes c f)
  unfolding set_nodes
  set-nodes-keeps f = plain _ _ (λ s l. l)

  -- ── Symbols.antt ──

  retrieve-keeps : (n : List ℕ) → Keeps (retrieve c n)
  unfolding retrieve
  retrieve-keeps n = reads _

  store_keeps : (i : ℕ) (w : What) → Keeps (store c i w)
  unfolding store
  store_keeps i w = by (λ s. leb (length (put_at s.level (name_at c i) w s.syms)) c.sym_room) _ _ (λ s l e. is-done l) (refuses _ (λ s. is-refused))

  set-level-keeps : (l : ℕ) → Keeps (set_level c l)
  unfolding set_level
  set-level-keeps l = plain _ _ (λ s h. h)

  init-scope-keeps : Keeps (init_scope c)
  unfolding init_scope
  init-scope-keeps = step (reads _) (λ l. set-level-keeps (suc l))

  close-scope-keeps : Keeps (close_scope c)
  unfolding close_scope
  close-scope-keeps = step (reads _) (λ l. set-level-keeps (l - 1))

  set-check-keeps : (b : Bool) → Keeps (set_check c b)
  unfolding set_check
  set-check-keeps b = plain _ _ (λ s h. h)

  -- ── Expr.antt ──

  operators-keeps : (f n : ℕ) {next : Void} → Keeps next → Keeps (operators c f n next)
  unfolding operators
  operators-keeps zero n h = reads _
  operators-keeps (suc f) n h = step (reads _) (λ k. step (reads _) (λ i. either _ (step consume-keeps (λ u. step h (λ u. step (push-keeps _ _ _ _) (λ u. operators-keeps f n h)))) (reads _)))

  levels-keeps : (n : ℕ) {u : Void} → Keeps u → Keeps (levels c n u)
  unfolding levels
  levels-keeps zero h = h
  levels-keeps (suc n) h = step (levels-keeps n h) (λ u. operators-keeps _ _ (levels-keeps n h))

  assign-var-keeps : (i : ℕ) (o : Option What) → Keeps (assign_var c i o)
  unfolding assign_var
  assign-var-keeps i none = throw-keeps _ tt
  assign-var-keeps i (some Placeholder) = throw-keeps _ tt
  assign-var-keeps i (some (Function n)) = throw-keeps _ tt
  assign-var-keeps i (some (Variable t g)) = push-keeps _ _ _ _
  assign-var-keeps i (some Other) = throw-keeps _ tt

  assign-token-keeps : (i : ℕ) → Keeps (assign_token c i)
  unfolding assign_token
  assign-token-keeps i = either _ (step (retrieve-keeps _) (λ w. assign-var-keeps i w)) (throw-keeps _ tt)

  assign-array-keeps : (n : ℕ) → Keeps (assign_array c n)
  unfolding assign_array
  assign-array-keeps n = step (set-nodes-keeps _) (λ u. push-keeps _ _ _ _)

  assign-nothing-keeps : (i : ℕ) → Keeps (assign_nothing c i)
  unfolding assign_nothing
  assign-nothing-keeps i = step (add-at-keeps i _ tt) (λ e. raise-keeps e)

  assign-to-keeps : (x : Node) (n op : ℕ) → Keeps (assign_to c x n op)
  unfolding assign_to
  assign-to-keeps x n op = either _ (assign-token-keeps _) (either _ (assign-array-keeps n) (assign-nothing-keeps op))

  separator-keeps : Keeps (separator c)
  unfolding separator
  separator-keeps = step (reads _) (λ k. either _ (expect-keeps _) (reads _))

  param-list-keeps : (item : Void) → Keeps item → (f n : ℕ) → Keeps (param_list c item f n)
  unfolding param_list
  param-list-keeps item h zero n = reads _
  param-list-keeps item h (suc f) n =
      step (reads _) (λ k. either _ (reads _) (either _ (throw-keeps _ tt) (either _ (throw-keeps _ (omega arith)) (step h (λ u. step separator-keeps (λ u. param-list-keeps item h f (suc n)))))))

  single-keeps : (x : Node) (k i : ℕ) → Keeps (single c x k i)
  unfolding single
  single-keeps x k i = either _ (reads _) (panic-keeps k i)

  call-counted-keeps : (want n : ℕ) → Keeps (call_counted c want n)
  unfolding call_counted
  call-counted-keeps want n = either _ (push-keeps _ _ _ _) (throw-keeps _ tt)

  call-declared-keeps : (i n : ℕ) (o : Option What) → Keeps (call_declared c i n o)
  unfolding call_declared
  call-declared-keeps i n none = throw-past-keeps _ tt
  call-declared-keeps i n (some Placeholder) = push-keeps _ _ _ _
  call-declared-keeps i n (some (Function m)) = call-counted-keeps m n
  call-declared-keeps i n (some (Variable t g)) = call-counted-keeps 0 n
  call-declared-keeps i n (some Other) = call-counted-keeps 0 n

  call-name-keeps : (i n : ℕ) (o : Option What) → Keeps (call_name c i n o)
  unfolding call_name
  call-name-keeps i n o = either _ (push-keeps _ _ _ _) (call-declared-keeps i n o)

  call-named-keeps : (x : Node) (i n : ℕ) → Keeps (call_named c x i n)
  unfolding call_named
  call-named-keeps x i n = either _ (step (retrieve-keeps _) (λ w. call-name-keeps _ n w)) (panic-keeps 3 i)

  literal-keeps : (i : ℕ) → Keeps (literal c i)
  unfolding literal
  literal-keeps i = step (push-keeps _ _ _ _) (λ u. consume-keeps)

  known-keeps : (i : ℕ) (o : Option What) → Keeps (known c i o)
  unfolding known
  known-keeps i (some w) = reads _
  known-keeps i none = either _ (reads _) (throw-past-keeps _ tt)

  check-name-keeps : (i : ℕ) → Keeps (check_name c i)
  unfolding check_name
  check-name-keeps i = step (reads _) (λ b. either b (step (retrieve-keeps _) (λ w. known-keeps i w)) (reads _))

  ident-expr-keeps : (i : ℕ) → Keeps (ident_expr c i)
  unfolding ident_expr
  ident-expr-keeps i = step (check-name-keeps i) (λ u. literal-keeps i)

  -- the counted calls keep it
  pub record AllKeep (r : Rec) : Type 0 where
    pub block : (b : Bool) (ns : List ℕ) → Keeps (r.block b ns)
    pub assign : Keeps r.assign
    pub unary : Keeps r.unary
    pub call : Keeps r.call

  module _ (r : Rec) (h : AllKeep r) where
    assign-keeps : Keeps (assign_expr c r)
    unfolding assign_expr
    assign-keeps = step (levels-keeps 7 h.unary) (λ u. step (reads _) (λ x. step (reads _) (λ n. step (reads _) (λ k. step (reads _) (λ op. either _ (step consume-keeps (λ u. step h.assign (λ u. assign-to-keeps x _ op))) (reads _))))))

    unary-keeps : Keeps (unary_expr c r)
    unfolding unary_expr
    unary-keeps = step (reads _) (λ k. step (reads _) (λ i. either _ (step consume-keeps (λ u. step h.unary (λ u. push-keeps _ _ _ _))) h.call))

    group-keeps : Keeps (group_expr c r)
    unfolding group_expr
    group-keeps = step consume-keeps (λ u. step h.assign (λ u. expect-keeps _))

    at-keeps : Keeps (at_expr c r)
    unfolding at_expr
    at-keeps = step consume-keeps (λ u. h.call)

    primary-keeps : Keeps (primary_expr c r)
    unfolding primary_expr
    primary-keeps = step (reads _) (λ k. step (reads _) (λ i. either _ (literal-keeps i) (either _ (ident-expr-keeps i) (either _ group-keeps (either _ at-keeps (throw-past-keeps _ tt))))))

    call-part-keeps : (x : Node) (i : ℕ) → Keeps (call_part c r x i)
    unfolding call_part
    call-part-keeps x i = step consume-keeps (λ u. step (param-list-keeps _ h.assign _ 0) (λ n. step (expect-keeps _) (λ u. call-named-keeps x i n)))

    dot-keeps : (x : Node) (i : ℕ) → Keeps (dot c r x i)
    unfolding dot
    dot-keeps x i = step consume-keeps (λ u. step (set-check-keeps false) (λ u. step h.assign (λ u. step (set-check-keeps true) (λ u. step (single-keeps x 4 i) (λ u. push-keeps _ _ _ _)))))

    index-keeps : (x : Node) (i : ℕ) → Keeps (index c r x i)
    unfolding index
    index-keeps x i = step consume-keeps (λ u. step h.assign (λ u. step (expect-keeps _) (λ u. step (single-keeps x 5 i) (λ u. push-keeps _ _ _ _))))

    postfix-keeps : (x : Node) → Keeps (postfix c r x)
    unfolding postfix
    postfix-keeps x = step (reads _) (λ k. step (reads _) (λ i. either _ (call-part-keeps x i) (either _ (dot-keeps x i) (either _ (index-keeps x i) (reads _)))))

    fn-call-keeps : Keeps (fn_call_expr c r)
    unfolding fn_call_expr
    fn-call-keeps = step primary-keeps (λ u. step (reads _) (λ x. postfix-keeps x))

  -- ── Stmt.antt ──

  bind-keeps : (is : List ℕ) → Keeps (bind c is)
  unfolding bind
  bind-keeps [] = reads _
  bind-keeps (i ∷ is) = step (store_keeps i Other) (λ u. bind-keeps is)

  with-return-keeps : (b : Bool) (n : ℕ) → Keeps (with_return c b n)
  unfolding with_return
  with-return-keeps false n = reads _
  with-return-keeps true n = step (reads _) (λ x. either _ (reads _) (step (push-keeps _ _ _ _) (λ u. reads _)))

  ident-node-keeps : Keeps (ident_node c)
  unfolding ident_node
  ident-node-keeps = step (ident-keeps _ (λ i. tt)) (λ i. step (push-keeps _ _ _ _) (λ u. reads _))

  param-keeps : Keeps (param c)
  unfolding param
  param-keeps = step ident-node-keeps (λ i. reads _)

  ident-pair-keeps : Keeps (ident_pair c)
  unfolding ident_pair
  ident-pair-keeps = step ident-node-keeps (λ i. step (expect-keeps _) (λ u. step ident-node-keeps (λ j. step (push-keeps _ _ _ _) (λ u. reads _))))

  declare-var-keeps : (i n : ℕ) → Keeps (declare_var c i n)
  unfolding declare_var
  declare-var-keeps i n = step (reads _) (λ g. step (push-keeps _ _ _ _) (λ u. store_keeps i _))

  array-nodes-keeps : (i n : ℕ) → Keeps (array_nodes c i n)
  unfolding array_nodes
  array-nodes-keeps i n = either _ (push-keeps _ _ _ _) (step (push-keeps _ _ _ _) (λ u. push-keeps _ _ _ _))

  end-if-keeps : (n elses : ℕ) → Keeps (end_if c n elses)
  unfolding end_if
  end-if-keeps n elses = step (either _ (step (add-keeps InvalidIfStmt tt) (λ e. reads _)) (reads _)) (λ u. push-keeps _ _ _ _)

  comma-list-keeps : (close : ℕ) (item : Void) → Keeps item → (f n : ℕ) → Keeps (comma_list c close item f n)
  unfolding comma_list
  comma-list-keeps close item h zero n = reads _
  comma-list-keeps close item h (suc f) n =
      step (reads _) (λ k. either _ (reads _) (either _ (throw-keeps _ (omega arith)) (step h (λ u. step (optional-keeps _) (λ b. either b (comma-list-keeps close item h f (suc n)) (reads _))))))

  module _ (r : Rec) (h : AllKeep r) where
    array-decl-keeps : (i : ℕ) → Keeps (array_decl c r i)
    unfolding array_decl
    array-decl-keeps i = step (expect-keeps _) (λ u. step (comma-list-keeps _ _ h.assign _ 0) (λ n. step (expect-keeps _) (λ u. step (expect-keeps _) (λ u. step (array-nodes-keeps i n) (λ u. store_keeps i Other)))))

    table-item-keeps : Keeps (table_item c r)
    unfolding table_item
    table-item-keeps = step (ident-keeps _ (λ i. omega arith)) (λ key. step (expect-keeps _) (λ u. step h.assign (λ u. push-keeps _ _ _ _)))

    item-list-keeps : Keeps (item_list c r)
    unfolding item_list
    item-list-keeps = step (comma-list-keeps _ _ table-item-keeps _ 0) (λ n. push-keeps _ _ _ _)

    table-decl-keeps : (i : ℕ) → Keeps (table_decl c r i)
    unfolding table_decl
    table-decl-keeps i = step (expect-keeps _) (λ u. step item-list-keeps (λ u. step (expect-keeps _) (λ u. step (push-keeps _ _ _ _) (λ u. step (store_keeps i Other) (λ u. expect-keeps _)))))

    initial-keeps : (i : ℕ) → Keeps (initial c r i)
    unfolding initial
    initial-keeps i = step (reads _) (λ k. either _ (array-decl-keeps i) (either _ (table-decl-keeps i) (step h.assign (λ u. expect-keeps _))))

    var-decl-keeps : Keeps (var_decl c r)
    unfolding var_decl
    var-decl-keeps =
        step (expect-keeps _) (λ u. step (ident-keeps _ (λ i. tt)) (λ i. step (reads _) (λ k. either _ (step consume-keeps (λ u. step (initial-keeps i) (λ u. declare-var-keeps i 1)))
        (either _ (step consume-keeps (λ u. declare-var-keeps i 0)) (throw-keeps _ (omega arith))))))

    fn-decl-keeps : Keeps (fn_decl c r)
    unfolding fn_decl
    fn-decl-keeps =
        step (expect-keeps _) (λ u. step (ident-keeps _ (λ i. tt)) (λ i. step (store_keeps i Placeholder) (λ u. step (expect-keeps _) (λ u. step (param-list-keeps _ param-keeps _ 0) (λ n. step (reads _) (λ names.
        step (push-keeps _ _ _ _) (λ u. step (expect-keeps _) (λ u. step (h.block true names) (λ u. step (push-keeps _ _ _ _) (λ u. store_keeps i (Function n)))))))))))

    elif-keeps : Keeps (elif_stmt c r)
    unfolding elif_stmt
    elif-keeps = step consume-keeps (λ u. step h.assign (λ u. step (h.block false []) (λ u. push-keeps _ _ _ _)))

    else-keeps : Keeps (else_block c r)
    unfolding else_block
    else-keeps = step consume-keeps (λ u. h.block false [])

    branches-keeps : (f n elses : ℕ) → Keeps (branches c r f n elses)
    unfolding branches
    branches-keeps zero n elses = end-if-keeps n elses
    branches-keeps (suc f) n elses =
        step (reads _) (λ k. either _ (step elif-keeps (λ u. branches-keeps f (suc n) elses)) (either _ (step else-keeps (λ u. branches-keeps f (suc n) (suc elses))) (end-if-keeps n elses)))

    if-keeps : Keeps (if_stmt c r)
    unfolding if_stmt
    if-keeps = step (expect-keeps _) (λ u. step h.assign (λ u. step (h.block false []) (λ u. branches-keeps _ 0 0)))

    for-keeps : Keeps (for_stmt c r)
    unfolding for_stmt
    for-keeps = step (expect-keeps _) (λ u. step ident-pair-keeps (λ names. step (expect-keeps _) (λ u. step h.assign (λ u. step (h.block false names) (λ u. push-keeps _ _ _ _)))))

    ret_keeps : Keeps (ret_stmt c r)
    unfolding ret_stmt
    ret_keeps = step (expect-keeps _) (λ u. step (reads _) (λ k. either _ (step consume-keeps (λ u. push-keeps _ _ _ _)) (step h.assign (λ u. step (expect-keeps _) (λ u. push-keeps _ _ _ _)))))

    expr-stmt-keeps : Keeps (expr_stmt c r)
    unfolding expr_stmt
    expr-stmt-keeps = step h.assign (λ u. step (expect-keeps _) (λ u. push-keeps _ _ _ _))

    stmt-keeps : Keeps (stmt c r)
    unfolding stmt
    stmt-keeps = step (reads _) (λ k. either _ if-keeps (either _ for-keeps (either _ ret_keeps (either _ (h.block false []) expr-stmt-keeps))))

    decl-keeps : Keeps (decl c r)
    unfolding decl
    decl-keeps = step (reads _) (λ k. either _ var-decl-keeps (either _ fn-decl-keeps stmt-keeps))

    decls-keeps : (f n : ℕ) → Keeps (decls c r f n)
    unfolding decls
    decls-keeps zero n = reads _
    decls-keeps (suc f) n = step (reads _) (λ k. either _ (reads _) (step decl-keeps (λ u. decls-keeps f (suc n))))

    block-keeps : (b : Bool) (ns : List ℕ) → Keeps (block c r b ns)
    unfolding block
    block-keeps b ns =
        step (expect-keeps _) (λ u. step init-scope-keeps (λ u. step (bind-keeps ns) (λ u. step (decls-keeps _ 0) (λ n. step (expect-keeps _) (λ u. step (reads _) (λ l. step close-scope-keeps (λ u. step (with-return-keeps b n) (λ m. push-keeps _ _ _ _))))))))

  -- ── Walk.antt ──

  walkers-keep : (d : ℕ) → AllKeep (walkers c d)
  unfolding walkers
  walkers-keep zero = record { block = λ b ns. refuses _ (λ s. is-refused); assign = refuses _ (λ s. is-refused); unary = refuses _ (λ s. is-refused); call = refuses _ (λ s. is-refused) }
  walkers-keep (suc d) =
      let h : AllKeep (walkers c d) = walkers-keep d in
      record { block = block-keeps (walkers c d) h; assign = assign-keeps (walkers c d) h; unary = unary-keeps (walkers c d) h; call = fn-call-keeps (walkers c d) h }

  settled-keeps : (n : ℕ) {o : Out (Unit {0})} → Holds o (λ a s'. Listed s'.errs) (λ s'. Listed s'.errs) → Holds (settled c n o) (λ a s'. Listed s'.errs) (λ s'. Listed s'.errs)
  unfolding settled give_up set_nodes go_on
  settled-keeps n {o = done a s} h = is-done h.holds
  settled-keeps n {o = fail e s} h = is-done h.holds
  settled-keeps n {o = refuse r} h = is-refused

  top-keeps : (d : Void) → Keeps d → Keeps (top_decl c d)
  unfolding top_decl
  top-keeps d h = step (reads _) (λ n. record { keeps = λ s l. settled-keeps n (h.keeps s l) })

  end-read-keeps : (n : ℕ) (flag : Bool) (early : Option Err) → Keeps (end_read c n flag early)
  unfolding end_read
  end-read-keeps n flag early = step (push-keeps _ _ _ _) (λ u. reads _)

  program-keeps : (f : ℕ) (d : Void) → Keeps d → (n : ℕ) (flag : Bool) → Keeps (program c f d n flag)
  unfolding program
  program-keeps zero d h n flag = end-read-keeps n flag none
  program-keeps (suc f) d h n flag = step (reads _) (λ k. either _ (end-read-keeps n flag none) (step (top-keeps d h) (λ o. next o (λ m g. program-keeps f d h m g))))
    where
      next : (o : Option Err) → ((m : ℕ) (g : Bool) → Keeps {A = End} (program c f d m g)) → Keeps {A = End} (elim o as (λ (x : Option Err). M End) [ none ↦ program c f d (suc n) flag | some e ↦ if continuable c e.why then program c f d n true otherwise end_read c n true (some e) ])
      next none k = k (suc n) flag
      next (some e) k = either _ (k n true) (end-read-keeps n true (some e))

  -- What a walk lists has room, and its messages are not 0.
  pub walk-lists : (depth : ℕ) → Holds (walk c depth) (λ e s. Listed s.errs) (λ s. Listed s.errs)
  unfolding walk Each
  walk-lists depth = (step arrive-keeps (λ u. program-keeps (suc (length c.toks)) (decl c (walkers c depth)) (decl-keeps (walkers c depth) (walkers-keep depth)) 0 false)).keeps start (record { room = omega arith; spoken = tt })
