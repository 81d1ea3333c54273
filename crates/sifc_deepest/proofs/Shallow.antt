-- No more than 3 * n + 3 counted calls are active in a walk over tokens of which n nest: at that limit no step of a walk is refusal 6. A step is followed by how many
-- tokens that nest it has passed at least. With j passed, `assign_expr` needs three calls for each one that is left and three more, `unary_expr` one less, `fn_call_expr` and
-- `block` two less: `assign_expr` calls `unary_expr` and that calls `fn_call_expr` at the same token, every other call comes after a token that nests. The steps stand in the
-- order of the definition: State.antt, Symbols.antt, Expr.antt, Stmt.antt and Walk.antt of sifc_def.
use Prim.Native.Nat.{ℕ, zero, suc, ◌+◌, ◌*◌, ◌≤◌, ◌<◌}
use mathlib.Core.List.{List, [], ◌∷◌}
use Rattle.std.proofs.Math.Option.{Option, none, some}
use Rattle.std.specs.Prelude.{Bool, ◌≡◌, length}
use Rattle.std.proofs.Math.Bool.{true, false}
use Rattle.std.proofs.Math.Path.{refl}
use Rattle.std.proofs.Common.{arith}
use Rattle.std.proofs.Math.Dec.{eqb}
use Rattle.sifc_err.specs.declared.Refusal.{Refusal}
use Rattle.sifc_err.specs.declared.Refusal.TheVariants.{LongScript, NotAscii, Uneven, TokensFull, SourceFault, TooDeep, NodesFull, SymbolsFull, ErrorsFull, Flagged, TextFull}
use Rattle.sifc_word.specs.Base.{if◌then◌otherwise◌}
use Rattle.sifc_word.specs.Kind.{LeftParen, LeftBrace, LeftBracket, Period, Eq, At, Eof, LexPanic}
use Rattle.sifc_def.specs.declared.Err.{Err}
use Rattle.sifc_def.specs.Why.{Why}
use Rattle.sifc_def.specs.declared.What.{What}
use Rattle.sifc_def.specs.declared.What.TheVariants.{Placeholder, Function, Variable, Other}
use Rattle.sifc_def.specs.Error.{continuable}
use Rattle.sifc_def.specs.State.{Node, Ctx, St, Out, done, fail, refuse, M, Void, go_on, tok_at, panic_at, arrive, consume, list, raise, add_error_w_pos, add_error, throw, throw_past, expect, optional, match_ident, or_throw, ident, push, set_nodes}
use Rattle.sifc_def.specs.Symbols.{retrieve, store, set_level, init_scope, close_scope, set_check}
use Rattle.sifc_def.specs.Expr.{Rec, operators, levels, assign_var, assign_token, assign_array, assign_nothing, assign_to, separator, param_list, single, call_counted, call_declared, call_name, call_named, literal, known, check_name, ident_expr, assign_expr, unary_expr, group_expr, at_expr, primary_expr, call_part, dot, index, postfix, fn_call_expr}
use Rattle.sifc_def.specs.Stmt.{bind, with_return, ident_node, param, ident_pair, declare_var, array_nodes, end_if, comma_list, array_decl, table_item, item_list, table_decl, initial, var_decl, fn_decl, elif_stmt, else_block, branches, if_stmt, for_stmt, ret_stmt, expr_stmt, stmt, decl, decls, block}
use Rattle.sifc_def.specs.Walk.{End, start, walkers, give_up, settled, top_decl, end_read, program, walk}
use Rattle.sifc_def.proofs.OutcomeLaws.{by-test}
use Rattle.sifc_def.proofs.StepLaws.{Toks, clash, kind_at, moved, not-eof}
use Rattle.sifc_deepest.specs.Signs.{nests, nesting, opened}
use Rattle.sifc_deepest.proofs.SignsLaws.{opened-more, opened-next, opened-all, nests-as, nests-unary}

-- any refusal but 6
abbrev pub NotDeep : Refusal → Type 0
NotDeep LongScript = Unit {0}
NotDeep (NotAscii i) = Unit {0}
NotDeep Uneven = Unit {0}
NotDeep TokensFull = Unit {0}
NotDeep (SourceFault k i) = Unit {0}
NotDeep TooDeep = ⊥
NotDeep NodesFull = Unit {0}
NotDeep SymbolsFull = Unit {0}
NotDeep ErrorsFull = Unit {0}
NotDeep Flagged = Unit {0}
NotDeep TextFull = Unit {0}

abbrev ShallowOf : {A : Type 0} → (ℕ → Type 0) → Out A → Type 0
ShallowOf P (done a s) = P s.at
ShallowOf P (fail e s) = P s.at
ShallowOf P (refuse r) = NotDeep r

-- An outcome that is not refusal 6, and stands at a token of which P holds.
pub record Shallow {A : Type 0} (P : ℕ → Type 0) (o : Out A) : Type 0 where
  pub shallow : ShallowOf P o

module _ {A : Type 0} {P : ℕ → Type 0} where
  is_at : {a : A} {s : St} → P s.at → Shallow P (done a s)
  is_at p = record { shallow = p }

  -- a call and what comes after it
  follow : {B : Type 0} {o : Out B} {f : B → M A} → Shallow P o → ((a : B) (s : St) → P s.at → Shallow P (f a s)) → Shallow P (go_on o f)
  unfolding go_on
  follow {o = done a s} h k = k a s h.shallow
  follow {o = fail e s} h k = record { shallow = h.shallow }
  follow {o = refuse r} h k = record { shallow = h.shallow }

  -- what holds of the token may be weakened
  weaken : {Q : ℕ → Type 0} {o : Out A} → ((i : ℕ) → Q i → P i) → Shallow Q o → Shallow P o
  weaken {o = done a s} g h = record { shallow = g s.at h.shallow }
  weaken {o = fail e s} g h = record { shallow = g s.at h.shallow }
  weaken {o = refuse r} g h = record { shallow = h.shallow }

  -- a branch
  fork : (b : Bool) (m k : M A) (s : St) → (b ≡ true → Shallow P (m s)) → (b ≡ false → Shallow P (k s)) → Shallow P (if◌then◌otherwise◌ {A = M A} b m k s)
  fork b m k s f g = by-test b m k (λ (x : M A). Shallow P (x s)) f g

module _ (c : Ctx) (b : ℕ → ℕ) (ts : Toks c b) where
  -- token i is there, is no lexing panic, and j tokens that nest or more are passed
  pub record On (j i : ℕ) : Type 0 where
    pub far : j ≤ opened c.toks i
    pub here : i < length c.toks
    pub calm : eqb (tok_at c i).kind LexPanic ≡ false

  -- a step from such a token stays at such tokens, and is not refusal 6
  abbrev pub Stays : {A : Type 0} → ℕ → M A → Type 0
  Stays j m = (s : St) → On j s.at → Shallow (On j) (m s)

  -- one token less passed
  lower : {A : Type 0} {j : ℕ} {o : Out A} → Shallow (On (suc j)) o → Shallow (On j) o
  lower h = weaken (λ i o. record { far = omega (arith, o.far); here = o.here; calm = o.calm }) h

  -- the next token, behind k tokens that nest
  past : {j : ℕ} (s : St) → On j s.at → eqb (kind_at c s) Eof ≡ false → (k : ℕ) → k ≤ opened c.toks (suc s.at) → Shallow (On k) (consume c s)
  unfolding consume arrive
  past s o e k h =
      by-test (eqb (kind_at c s) Eof) _ _ (Shallow (On k)) (λ p. absurd (clash p e))
      (λ p. by-test (eqb (kind_at c (moved s)) LexPanic) _ _ (Shallow (On k)) (λ q. record { shallow = tt })
      (λ q. is_at (record { far = h; here = ts.ends s.at o.here e o.calm; calm = q })))

  -- what follows a token that nests has one more behind it
  beyond : {A : Type 0} {j : ℕ} {m : M A} (s : St) → On j s.at → nests (kind_at c s) ≡ true → Stays (suc j) m → Shallow (On j) (go_on (consume c s) (λ u. m))
  unfolding nests
  beyond {j = j} s o e h =
      lower (follow (past s o (not-eof nests (kind_at c s) e refl) (suc j) (omega (arith, o.far, opened-next c.toks s.at o.here e))) (λ u s' o'. h s' o'))

  module _ {j : ℕ} where
    -- ── State.antt and Symbols.antt ──

    -- a step that leaves the token, or is another refusal than 6
    rests : {A : Type 0} (q : Bool) (a : A) (s : St) (r : Refusal) → On j s.at → NotDeep r → Shallow (On j) (if q then done a s otherwise refuse r)
    rests q a s r o n = by-test q _ _ (Shallow (On j)) (λ p. is_at o) (λ p. record { shallow = n })

    panic-stays : {A : Type 0} (k i : ℕ) → Stays {A = A} j (panic_at c k i)
    unfolding panic_at
    panic-stays k i s o = record { shallow = tt }

    arrive-stays : Stays j (arrive c)
    unfolding arrive
    arrive-stays s o = by-test (eqb (kind_at c s) LexPanic) _ _ (Shallow (On j)) (λ p. record { shallow = tt }) (λ p. is_at o)

    consume-stays : Stays j (consume c)
    unfolding consume
    consume-stays s o = go (eqb (kind_at c s) Eof) refl
      where
        go : (q : Bool) → eqb (kind_at c s) Eof ≡ q → Shallow (On j) (consume c s)
        go true e = by-test (eqb (kind_at c s) Eof) _ _ (Shallow (On j)) (λ p. is_at o) (λ p. absurd (clash e p))
        go false e = past s o e j (omega (arith, o.far, opened-more c.toks s.at))

    list-stays : (e : Err) → Stays j (list c e)
    unfolding list
    list-stays e s o = rests _ _ _ _ o tt

    push-stays : (k : ℕ) (f : Bool) (n p : ℕ) → Stays j (push c k f n p)
    unfolding push
    push-stays k f n p s o = rests _ _ _ _ o tt

    store-stays : (i : ℕ) (w : What) → Stays j (store c i w)
    unfolding store
    store-stays i w s o = rests _ _ _ _ o tt

    raise-stays : {A : Type 0} (e : Err) → Stays {A = A} j (raise c e)
    unfolding raise
    raise-stays e s o = record { shallow = o }

    add-at-stays : (i : ℕ) (w : Why) → Stays j (add_error_w_pos c i w)
    unfolding add_error_w_pos
    add-at-stays i w s o = search (follow, is_at, list-stays)

    add-stays : (w : Why) → Stays j (add_error c w)
    unfolding add_error
    add-stays w s o = search (follow, is_at, add-at-stays)

    ruleset basic = (follow, is_at, fork, panic-stays, consume-stays, list-stays, push-stays, store-stays, raise-stays, add-at-stays, add-stays)

    throw-stays : {A : Type 0} (w : Why) → Stays {A = A} j (throw c w)
    unfolding throw
    throw-stays w s o = search basic

    throw-past-stays : {A : Type 0} (w : Why) → Stays {A = A} j (throw_past c w)
    unfolding throw_past
    throw-past-stays w s o = search basic

    expect-stays : (k : ℕ) → Stays j (expect c k)
    unfolding expect
    expect-stays k s o = search basic

    optional-stays : (k : ℕ) → Stays j (optional c k)
    unfolding optional
    optional-stays k s o = search basic

    match-ident-stays : Stays j (match_ident c)
    unfolding match_ident
    match-ident-stays s o = search basic depth 7

    or-throw-stays : (w : Why) (x : Option ℕ) → Stays j (or_throw c w x)
    unfolding or_throw
    or-throw-stays w (some i) s o = is_at o
    or-throw-stays w none s o = throw-stays w s o

    ident-stays : (w : ℕ → Why) → Stays j (ident c w)
    unfolding ident
    ident-stays w s o = search (basic, match-ident-stays, or-throw-stays)

    ruleset steps = (basic, throw-stays, throw-past-stays, expect-stays, optional-stays, ident-stays)

    -- ── Expr.antt, what calls no counted call ──

    operators-stays : (f n : ℕ) {next : Void} → Stays j next → Stays j (operators c f n next)
    unfolding operators
    operators-stays zero n h s o = is_at o
    operators-stays (suc f) n h s o = search (steps, operators-stays f n h) depth 8

    levels-stays : (n : ℕ) {u : Void} → Stays j u → Stays j (levels c n u)
    unfolding levels
    levels-stays zero h s o = h s o
    levels-stays (suc n) h s o = follow (levels-stays n h s o) (λ u s' o'. operators-stays _ _ (levels-stays n h) s' o')

    assign-var-stays : (i : ℕ) (w : Option What) → Stays j (assign_var c i w)
    unfolding assign_var
    assign-var-stays i none = throw-stays _
    assign-var-stays i (some Placeholder) = throw-stays _
    assign-var-stays i (some (Function n)) = throw-stays _
    assign-var-stays i (some (Variable t g)) = push-stays _ _ _ _
    assign-var-stays i (some Other) = throw-stays _

    assign-to-stays : (x : Node) (n op : ℕ) → Stays j (assign_to c x n op)
    unfolding assign_to assign_token assign_array assign_nothing set_nodes retrieve
    assign-to-stays x n op s o = search (steps, assign-var-stays) depth 7

    separator-stays : Stays j (separator c)
    unfolding separator
    separator-stays s o = search steps

    param-list-stays : {item : Void} → Stays j item → (f n : ℕ) → Stays j (param_list c item f n)
    unfolding param_list
    param-list-stays h zero n s o = is_at o
    param-list-stays h (suc f) n s o = search (steps, separator-stays, param-list-stays h f (suc n)) depth 8

    single-stays : (x : Node) (k i : ℕ) → Stays j (single c x k i)
    unfolding single
    single-stays x k i s o = search steps

    call-counted-stays : (want n : ℕ) → Stays j (call_counted c want n)
    unfolding call_counted
    call-counted-stays want n s o = search steps

    call-declared-stays : (i n : ℕ) (w : Option What) → Stays j (call_declared c i n w)
    unfolding call_declared
    call-declared-stays i n none = throw-past-stays _
    call-declared-stays i n (some Placeholder) = push-stays _ _ _ _
    call-declared-stays i n (some (Function m)) = call-counted-stays m n
    call-declared-stays i n (some (Variable t g)) = call-counted-stays 0 n
    call-declared-stays i n (some Other) = call-counted-stays 0 n

    call-named-stays : (x : Node) (i n : ℕ) → Stays j (call_named c x i n)
    unfolding call_named call_name retrieve
    call-named-stays x i n s o = search (steps, call-declared-stays) depth 7

    known-stays : (i : ℕ) (w : Option What) → Stays j (known c i w)
    unfolding known
    known-stays i (some w) s o = is_at o
    known-stays i none s o = search steps

    literal-stays : (i : ℕ) → Stays j (literal c i)
    unfolding literal
    literal-stays i s o = search steps

    ident-expr-stays : (i : ℕ) → Stays j (ident_expr c i)
    unfolding ident_expr check_name retrieve
    ident-expr-stays i s o = search (steps, known-stays, literal-stays) depth 8

  -- ── Expr.antt, the counted calls ──

  -- assign_expr calls unary_expr at its token, and itself after an `=`
  assign-stays : {j : ℕ} (r : Rec) → Stays j r.unary → Stays (suc j) r.assign → Stays j (assign_expr c r)
  unfolding assign_expr go_on nests
  assign-stays r un ex s o =
      follow (levels-stays 7 un s o) (λ u s₁ o₁.
      fork _ _ _ s₁ (λ e. beyond s₁ o₁ (nests-as (kind_at c s₁) Eq e refl) (λ s₂ o₂. search (steps, assign-to-stays))) (λ e. is_at o₁))

  -- unary_expr calls fn_call_expr at its token, and itself after a sign
  unary-stays : {j : ℕ} (r : Rec) → Stays j r.call → Stays (suc j) r.unary → Stays j (unary_expr c r)
  unfolding unary_expr go_on
  unary-stays r ca un s o =
      fork _ _ _ s (λ e. beyond s o (nests-unary (kind_at c s) e) (λ s₁ o₁. search steps)) (λ e. ca s o)

  -- fn_call_expr makes every call after a sign
  module _ {j : ℕ} (r : Rec) (ex : Stays (suc j) r.assign) (ca : Stays (suc j) r.call) where
    group-stays : (s : St) → On j s.at → eqb (kind_at c s) LeftParen ≡ true → Shallow (On j) (group_expr c r s)
    unfolding group_expr nests
    group-stays s o e = beyond s o (nests-as (kind_at c s) LeftParen e refl) (λ s₁ o₁. search steps)

    at-stays : (s : St) → On j s.at → eqb (kind_at c s) At ≡ true → Shallow (On j) (at_expr c r s)
    unfolding at_expr nests
    at-stays s o e = beyond s o (nests-as (kind_at c s) At e refl) ca

    primary-stays : Stays j (primary_expr c r)
    unfolding primary_expr go_on
    primary-stays s o =
        fork _ _ _ s (λ e. literal-stays _ s o)
        (λ e₁. fork _ _ _ s (λ e. ident-expr-stays _ s o)
        (λ e₂. fork _ _ _ s (λ e. group-stays s o e)
        (λ e₃. fork _ _ _ s (λ e. at-stays s o e)
        (λ e₄. throw-past-stays _ s o))))

    call-part-stays : (x : Node) (i : ℕ) (s : St) → On j s.at → eqb (kind_at c s) LeftParen ≡ true → Shallow (On j) (call_part c r x i s)
    unfolding call_part nests
    call-part-stays x i s o e = beyond s o (nests-as (kind_at c s) LeftParen e refl) (λ s₁ o₁. search (steps, param-list-stays, call-named-stays) depth 7)

    dot-stays : (x : Node) (i : ℕ) (s : St) → On j s.at → eqb (kind_at c s) Period ≡ true → Shallow (On j) (dot c r x i s)
    unfolding dot set_check nests
    dot-stays x i s o e = beyond s o (nests-as (kind_at c s) Period e refl) (λ s₁ o₁. search (steps, single-stays) depth 8)

    index_stays : (x : Node) (i : ℕ) (s : St) → On j s.at → eqb (kind_at c s) LeftBracket ≡ true → Shallow (On j) (index c r x i s)
    unfolding index nests
    index_stays x i s o e = beyond s o (nests-as (kind_at c s) LeftBracket e refl) (λ s₁ o₁. search (steps, single-stays) depth 7)

    postfix-stays : (x : Node) → Stays j (postfix c r x)
    unfolding postfix go_on
    postfix-stays x s o =
        fork _ _ _ s (λ e. call-part-stays x _ s o e) (λ e₁. fork _ _ _ s (λ e. dot-stays x _ s o e) (λ e₂. fork _ _ _ s (λ e. index_stays x _ s o e) (λ e₃. is_at o)))

    call_stays : Stays j (fn_call_expr c r)
    unfolding fn_call_expr go_on
    call_stays s o = follow (primary-stays s o) (λ u s₁ o₁. postfix-stays _ s₁ o₁)

  -- ── Stmt.antt ──

  module _ {j : ℕ} where
    bind-stays : (is : List ℕ) → Stays j (bind c is)
    unfolding bind
    bind-stays [] s o = is_at o
    bind-stays (i ∷ is) s o = follow (store-stays i Other s o) (λ u s' o'. bind-stays is s' o')

    with-return-stays : (body : Bool) (n : ℕ) → Stays j (with_return c body n)
    unfolding with_return
    with-return-stays false n s o = is_at o
    with-return-stays true n s o = search steps

    ident-node-stays : Stays j (ident_node c)
    unfolding ident_node
    ident-node-stays s o = search steps

    ident-pair-stays : Stays j (ident_pair c)
    unfolding ident_pair
    ident-pair-stays s o = search (steps, ident-node-stays) depth 7

    param-stays : Stays j (param c)
    unfolding param
    param-stays s o = search (steps, ident-node-stays)

    declare-var-stays : (i n : ℕ) → Stays j (declare_var c i n)
    unfolding declare_var
    declare-var-stays i n s o = search steps

    array-nodes-stays : (i n : ℕ) → Stays j (array_nodes c i n)
    unfolding array_nodes
    array-nodes-stays i n s o = search steps

    end-if-stays : (n elses : ℕ) → Stays j (end_if c n elses)
    unfolding end_if
    end-if-stays n elses s o = search steps

    comma-list-stays : (close : ℕ) {item : Void} → Stays j item → (f n : ℕ) → Stays j (comma_list c close item f n)
    unfolding comma_list go_on
    comma-list-stays close h zero n s o = is_at o
    comma-list-stays close h (suc f) n s o =
        fork _ _ _ s (λ p. is_at o) (λ p. fork _ _ _ s (λ q. throw-stays _ s o)
        (λ q. follow (h s o) (λ u s₁ o₁. follow (optional-stays _ s₁ o₁) (λ more s₂ o₂. fork more _ _ s₂ (λ z. comma-list-stays close h f (suc n) s₂ o₂) (λ z. is_at o₂)))))

  -- where assign_expr and block may be called, everything that is made of them may be
  module _ {j : ℕ} (r : Rec) (ex : Stays j r.assign) (bl : (body : Bool) (names : List ℕ) → Stays j (r.block body names)) where
    array-decl-stays : (i : ℕ) → Stays j (array_decl c r i)
    unfolding array_decl
    array-decl-stays i s o = search (steps, comma-list-stays, array-nodes-stays) depth 8

    table-item-stays : Stays j (table_item c r)
    unfolding table_item
    table-item-stays s o = search steps

    table-decl-stays : (i : ℕ) → Stays j (table_decl c r i)
    unfolding table_decl item_list
    table-decl-stays i s o = search (steps, comma-list-stays, table-item-stays) depth 8

    initial-stays : (i : ℕ) → Stays j (initial c r i)
    unfolding initial
    initial-stays i s o = search (steps, array-decl-stays, table-decl-stays)

    var-decl-stays : Stays j (var_decl c r)
    unfolding var_decl
    var-decl-stays s o = search (steps, initial-stays, declare-var-stays) depth 8

    fn-decl-stays : Stays j (fn_decl c r)
    unfolding fn_decl
    fn-decl-stays s o = search (steps, param-list-stays, param-stays) depth 13

    branches-stays : (f n elses : ℕ) → Stays j (branches c r f n elses)
    unfolding branches elif_stmt else_block
    branches-stays zero n elses s o = end-if-stays n elses s o
    branches-stays (suc f) n elses s o = search (steps, end-if-stays, branches-stays f (suc n) elses, branches-stays f (suc n) (suc elses)) depth 8

    if-stays : Stays j (if_stmt c r)
    unfolding if_stmt
    if-stays s o = search (steps, branches-stays)

    for-stays : Stays j (for_stmt c r)
    unfolding for_stmt
    for-stays s o = search (steps, ident-pair-stays) depth 8

    ret-stays : Stays j (ret_stmt c r)
    unfolding ret_stmt
    ret-stays s o = search steps depth 7

    expr-stmt-stays : Stays j (expr_stmt c r)
    unfolding expr_stmt
    expr-stmt-stays s o = search steps

    decl-stays : Stays j (decl c r)
    unfolding decl stmt
    decl-stays s o = search (steps, var-decl-stays, fn-decl-stays, if-stays, for-stays, ret-stays, expr-stmt-stays) depth 9

    decls-stays : (f n : ℕ) → Stays j (decls c r f n)
    unfolding decls
    decls-stays zero n s o = is_at o
    decls-stays (suc f) n s o = search (steps, decl-stays, decls-stays f (suc n))

  -- what follows an expected kind that nests has one more behind it
  opens : {A : Type 0} {j : ℕ} {m : M A} (k : ℕ) → nests k ≡ true → Stays (suc j) m → Stays j (λ s. go_on (expect c k s) (λ u. m))
  unfolding expect raise go_on
  opens {j = j} {m = m} k e h s o =
      by-test (eqb (kind_at c s) k) (consume c) _ (λ (x : Void). Shallow (On j) (go_on (x s) (λ u. m))) (λ p. beyond s o (nests-as (kind_at c s) k p e) h) (λ p. record { shallow = o })

  -- block makes every call after its `{`
  block-stays : {j : ℕ} (r : Rec) → Stays (suc j) r.assign → ((body : Bool) (names : List ℕ) → Stays (suc j) (r.block body names)) → (body : Bool) (names : List ℕ) → Stays j (block c r body names)
  unfolding block init_scope close_scope set_level nests
  block-stays r ex bl body names = opens LeftBrace refl (λ s o. search (steps, bind-stays, decls-stays r ex bl, with-return-stays) depth 13)

  -- ── Walk.antt ──

  -- what the counted calls need where so many more may be active
  pub record Deep (d : ℕ) : Type 0 where
    pub assign : {j : ℕ} → 3 * nesting c.toks + 3 ≤ d + 3 * j → Stays j (walkers c d).assign
    pub unary : {j : ℕ} → 3 * nesting c.toks + 3 ≤ 1 + d + 3 * j → Stays j (walkers c d).unary
    pub call : {j : ℕ} → 3 * nesting c.toks + 3 ≤ 2 + d + 3 * j → Stays j (walkers c d).call
    pub block : {j : ℕ} → 3 * nesting c.toks + 3 ≤ 2 + d + 3 * j → (body : Bool) (names : List ℕ) → Stays j ((walkers c d).block body names)

  -- where none may be active, more tokens that nest would be passed than there are
  walkers-deep : (d : ℕ) → Deep d
  unfolding walkers
  walkers-deep zero =
      record {
        assign = λ h s o. absurd (omega (arith, o.far, opened-all c.toks s.at));
        unary = λ h s o. absurd (omega (arith, o.far, opened-all c.toks s.at));
        call = λ h s o. absurd (omega (arith, o.far, opened-all c.toks s.at));
        block = λ h body names s o. absurd (omega (arith, o.far, opened-all c.toks s.at));
      }
  walkers-deep (suc d) =
      let g : Deep d = walkers-deep d in
      record {
        assign = λ h. assign-stays (walkers c d) (g.unary (omega arith)) (g.assign (omega arith));
        unary = λ h. unary-stays (walkers c d) (g.call (omega arith)) (g.unary (omega arith));
        call = λ h. call_stays (walkers c d) (g.assign (omega arith)) (g.call (omega arith));
        block = λ h. block-stays (walkers c d) (g.assign (omega arith)) (g.block (omega arith));
      }

  settled-stays : {j : ℕ} (n : ℕ) {x : Out (Unit {0})} → Shallow (On j) x → Shallow (On j) (settled c n x)
  unfolding settled give_up set_nodes go_on
  settled-stays n {x = done a s} h = is_at h.shallow
  settled-stays n {x = fail e s} h = is_at h.shallow
  settled-stays n {x = refuse r} h = record { shallow = h.shallow }

  end-read-stays : {j : ℕ} (n : ℕ) (flag : Bool) (early : Option Err) → Stays j (end_read c n flag early)
  unfolding end_read
  end-read-stays n flag early s o = search steps

  program-stays : {j : ℕ} (f : ℕ) {d : Void} → Stays j d → (n : ℕ) (flag : Bool) → Stays j (program c f d n flag)
  unfolding program top_decl
  program-stays zero h n flag s o = end-read-stays n flag none s o
  program-stays {j} (suc f) {d} h n flag s o = search (steps, end-read-stays, settled-stays, next (λ m g. program-stays f h m g)) depth 8
    where
      next : ((m : ℕ) (g : Bool) → Stays {A = End} j (program c f d m g)) → (x : Option Err) → Stays {A = End} j (elim x as (λ (y : Option Err). M End) [ none ↦ program c f d (suc n) flag | some e ↦ if continuable c e.why then program c f d n true otherwise end_read c n true (some e) ])
      next k none s' o' = k (suc n) flag s' o'
      next k (some e) s' o' = fork _ _ _ s' (λ p. k n true s' o') (λ p. end-read-stays n true (some e) s' o')

  -- A walk at a limit of three for each token that nests, and three more, is not refusal 6.
  pub walk-shallow : (d : ℕ) → 3 * nesting c.toks + 3 ≤ d → Shallow (On 0) (walk c d)
  unfolding walk arrive go_on
  walk-shallow d h =
      by-test (eqb (kind_at c start) LexPanic) _ _ (λ (x : Out (Unit {0})). Shallow (On 0) (go_on x (λ u. program c (suc (length c.toks)) (decl c (walkers c d)) 0 false))) (λ e. record { shallow = tt })
      (λ e. program-stays (suc (length c.toks)) (decl-stays (walkers c d) ((walkers-deep d).assign (omega arith)) ((walkers-deep d).block (omega arith))) 0 false start (record { far = omega arith; here = ts.some; calm = e }))
