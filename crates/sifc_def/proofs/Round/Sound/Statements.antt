-- Soundness of declarations and statements: whatever the walk reads without failing is a declaration that the writer writes.
use Prim.Native.Nat.{ℕ, zero, suc, ◌+◌, ◌-◌, ◌≤◌}
use Rattle.std.proofs.Math.Path.{◌≡◌, refl, sym, ap, subst, subst₂}
use Rattle.std.proofs.Common.{ap₂, ◌∙◌, add-zero}
use mathlib.Core.List.{List, [], ◌∷◌, ◌++◌, map, append_assoc, reverse}
use Rattle.std.specs.Prelude.{Bool, ◌&&◌, ◌||◌, not, T, ltb, take}
use Rattle.std.proofs.Math.Bool.{true, false}
use native.Mathlib.Omega.{arith}
use Rattle.std.proofs.Math.Nat.{zero-add}
use Rattle.std.proofs.Math.Dec.{eqb}
use Rattle.std.proofs.Math.ListN.{length, length-map}
use Rattle.sifc_word.specs.Base.{if◌then◌otherwise◌, member}
use Rattle.sifc_word.specs.Kind.{LeftParen, RightParen, LeftBrace, RightBrace, Semicolon, Eq, Comma, Ident, Var, Fn, Return, If, Elif, Else, For, In as InKind, Eof}
use Rattle.sifc_def.specs.Why.{Why}
use Rattle.sifc_err.specs.declared.parse_err.ParseErrTy.TheVariants.{InvalidIfStmt, ExpectedIdent}
use Rattle.sifc_def.specs.declared.What.TheVariants.{Placeholder, Function}
use Rattle.sifc_def.specs.Ast.{Block, IfStmt, ElifStmt, ForStmt, ReturnStmt, ExprStmt, VarDecl, FnDecl, FnParams, IdentPair}
use Rattle.sifc_def.specs.State.{Node, node, Sym, Ctx, St, Void, go_on, ◌>>◌, ok, W, tok_at, word_at, name_at, consume, add_error_w_pos, add_error, list, expect, ident, push}
use Rattle.sifc_def.specs.Symbols.{put_at, store, set_level, init_scope, close_scope}
use Rattle.sifc_def.specs.Label.{Lab, has_token, scope_of, text_of}
use Rattle.sifc_def.specs.Walk.{walkers}
use Rattle.sifc_def.specs.Expr.{Rec, fuel, param_list}
use Rattle.sifc_def.specs.declared.Err.{Err}
use Rattle.sifc_def.specs.State.{err}
use Rattle.sifc_def.specs.Stmt.{bind, with_return, ident_node, param, ident_pair, declare_var, end_if, initial, var_decl, fn_decl, elif_stmt, else_block, branches, if_stmt, for_stmt, ret_stmt, expr_stmt as expr_part, stmt, decl, decls, block as block_part}
use Rattle.sifc_def.specs.Typed.{Expr, Stmt, var_none, var_expr, var_array, var_table, func, block, cond, loop, ret, ret_expr, expr_stmt, Stmts, stop, next, Branches, no_branch, elif_of, else_of, counted, many_branches, bare, said, prim_lab, block_lab, renc, renc_array, global_at, renc_s, renc_ss, renc_bs, seen, Ok, is_return, returns, returns_last, bound, declared, inside, env_s, env_ss, env_bs, OkS, OkSs, OkBs, Said, SaidS, SaidSs, SaidBs}
use Rattle.sifc_def.proofs.Round.{and_l, and_r, erased, Stands, Made, made_none, made_then, made-push, top_of}
use Rattle.sifc_def.proofs.Round.Statements.Blocks.{prim_node, loads-prims, block_labs, in-level, levelled}
use Rattle.sifc_def.proofs.Round.Sound.{Win, win-then, win-map, win-if, win-when, made_at, made-from, pushed, Kept, throw-sound, consume-sound, expect-sound, push-sound, top-kind}
use Rattle.sifc_def.proofs.Round.Sound.Parts.{Named, ident-sound, store-sound, bind-sound, Declared, declare-sound, Expressed, ReadsExpr, expr-sound, Valued, initial-sound, NameNode, ident_node-sound, Params, params-sound}

-- ── the return that is inserted ──

-- one more at the end
snoc : Stmts → Stmt → Stmts
snoc stop t = next t stop
snoc (next u ts) t = next u (snoc ts t)

-- it is one more
snoc-counted : (ts : Stmts) (t : Stmt) → counted (snoc ts t) ≡ suc (counted ts)
unfolding snoc counted
snoc-counted stop t = refl
snoc-counted (next u ts) t = ap suc (snoc-counted ts t)

-- an inserted return has the newest label
snoc-labels : (ts : Stmts) (l : ℕ) → renc_ss l (snoc ts ret) ≡ bare ReturnStmt false 0 ∷ renc_ss l ts
unfolding snoc renc_ss
snoc-labels stop l = refl
snoc-labels (next u ts) l = ap (λ (xs : List Lab). xs ++ renc_s l u) (snoc-labels ts l)

-- an inserted return leaves the names
snoc-names : (ts : Stmts) (l : ℕ) (E : List Sym) → env_ss l E (snoc ts ret) ≡ env_ss l E ts
unfolding snoc env_ss
snoc-names stop l E = refl
snoc-names (next u ts) l E = snoc-names ts l (env_s l E u)

-- an inserted return is Ok
snoc-fit : (ts : Stmts) (l : ℕ) (E : List Sym) → OkSs l E ts → OkSs l E (snoc ts ret)
unfolding snoc OkSs
snoc-fit stop l E k = (tt, tt)
snoc-fit (next u ts) l E k = (k.0, snoc-fit ts l (env_s l E u) k.1)

-- an inserted return has no word of the script
snoc-words : (Good : W → Type 0) (ts : Stmts) → SaidSs Good ts → SaidSs Good (snoc ts ret)
unfolding snoc SaidSs
snoc-words Good stop k = (tt, tt)
snoc-words Good (next u ts) k = (k.0, snoc-words Good ts k.1)

-- with an inserted return a list ends in one
snoc-returns : (ts : Stmts) → T (returns (snoc ts ret))
unfolding snoc returns is_return
snoc-returns stop = tt
snoc-returns (next u ts) = last u ts
  where
    last : (u' : Stmt) (ts' : Stmts) → T (returns_last u' (snoc ts' ret))
    last u' stop = tt
    last u' (next v ts') = last v ts'

-- the newest label of a list of declarations is the last one's: if it is a return, the list ends in one
record Tops (t : Stmt) (ts : Stmts) (l : ℕ) : Type 0 where
  head' : Lab
  others : List Lab
  is : renc_ss l (next t ts) ≡ head' ∷ others
  ends' : T (eqb head'.kind ReturnStmt) → T (returns_last t ts)

-- every list of declarations has its newest label
tops : (t : Stmt) (ts : Stmts) (l : ℕ) → Tops t ts l
unfolding returns is_return renc_s
tops (var_none x) stop l = record { head' = said VarDecl (global_at l) 0 x; others = []; is = refl; ends' = λ t. t }
tops (var_expr x e) stop l = record { head' = said VarDecl (global_at l) 1 x; others = renc e; is = refl; ends' = λ t. t }
tops (var_array x es) stop l = record { head' = said VarDecl (global_at l) 1 x; others = renc_array x es; is = refl; ends' = λ t. t }
tops (var_table x is) stop l = record { head' = said VarDecl (global_at l) 1 x; others = _; is = refl; ends' = λ t. t }
tops (func x ns ss) stop l = record { head' = said FnDecl false 2 x; others = _; is = refl; ends' = λ t. t }
tops (block ss) stop l = record { head' = block_lab (counted ss) (suc l); others = _; is = refl; ends' = λ t. t }
tops (cond e ss bs) stop l = record { head' = bare IfStmt false (2 + many_branches bs); others = _; is = refl; ends' = λ t. t }
tops (loop x y e ss) stop l = record { head' = bare ForStmt false 3; others = _; is = refl; ends' = λ t. t }
tops ret stop l = record { head' = bare ReturnStmt false 0; others = []; is = refl; ends' = λ t. tt }
tops (ret_expr e) stop l = record { head' = bare ReturnStmt false 1; others = renc e; is = refl; ends' = λ t. tt }
tops (expr_stmt e) stop l = record { head' = bare ExprStmt false 1; others = renc e; is = refl; ends' = λ t. t }
tops t (next u ts) l =
    let q : Tops u ts l = tops u ts l in
    record { head' = q.head'; others = q.others ++ renc_s l t; is = ap (λ (xs : List Lab). xs ++ renc_s l t) q.is; ends' = q.ends' }

-- a body whose newest node is a return ends in one
ends-in-return : (c : Ctx) (ts : Stmts) (l m : ℕ) (ns ns' : List Node) → m ≡ counted ts → Made c (renc_ss l ts) ns ns' → T (ltb 0 m && eqb (top_of ns').kind ReturnStmt) → T (returns ts)
unfolding counted returns
ends-in-return c stop l m ns ns' em md t = absurd (subst (λ (k : ℕ). T (ltb 0 k)) em (and_l (ltb 0 m) _ t))
ends-in-return c (next u ts) l m ns ns' em md t =
    let q : Tops u ts l = tops u ts l in
    let md₁ : Made c (q.head' ∷ q.others) ns ns' = subst (λ (xs : List Lab). Made c xs ns ns') q.is md in
    q.ends' (subst (λ (k : ℕ). T (eqb k ReturnStmt)) (top-kind c md₁) (and_r (ltb 0 m) _ t))

module _ (c : Ctx) (Good : W → Type 0) (good : (i : ℕ) → Good (word_at c i)) where
  -- a declaration was read, over the nodes ns
  pub record Declares (l : ℕ) (E : List Sym) (ns : List Node) (s : St) : Type 0 where
    pub tree : Stmt
    pub fit : OkS l E tree
    pub words : SaidS Good tree
    pub made : Made c (renc_s l tree) ns s.nodes
    pub inn : Stands c l (env_s l E tree) true s

  -- a block was read in which the names xs are bound; a function's body ends in a return
  pub record Blocked (body : Bool) (xs : List W) (l : ℕ) (E : List Sym) (ns : List Node) (s : St) : Type 0 where
    pub trees : Stmts
    pub ended : T (not body || returns trees)
    pub fit : OkSs (suc l) (bound (suc l) xs E) trees
    pub words : SaidSs Good trees
    pub made : Made c (block_labs c (suc l) trees) ns s.nodes
    pub inn : Stands c l (env_ss (suc l) (bound (suc l) xs E) trees) true s

  -- the words of tokens
  abbrev pub spoken : List ℕ → List W
  spoken is = map (λ (i : ℕ). word_at c i) is

  -- what a declaration is read by: expressions and blocks one level deeper
  pub record Sounds (r : Rec) : Type 0 where
    pub expr : ReadsExpr c Good good r.assign
    pub block : (body : Bool) (is : List ℕ) (l : ℕ) (E : List Sym) (s : St) → Stands c l E true s → Win (r.block body is s) (λ u. Blocked body (spoken is) l E s.nodes)

  module _ (r : Rec) (so : Sounds r) where
    -- ── variables ──

    -- var_decl reads a variable
    var-sound : (l : ℕ) (E : List Sym) (s : St) → Stands c l E true s → Win (var_decl c r s) (λ u. Declares l E s.nodes)
    unfolding var_decl renc_s env_s OkS SaidS if◌then◌otherwise◌ go_on
    var-sound l E s h =
        let Q : Unit {0} → St → Type 0 = λ u. Declares l E s.nodes in
        win-then (expect c Var s) _ (λ u. Kept c l E true s.nodes) Q (expect-sound c Var s h)
        (λ u s₁ k₁.
        win-then (ident c ExpectedIdent s₁) _ (Named c l E true s₁.nodes) Q (ident-sound c ExpectedIdent s₁ k₁.inn)
        (λ i s₂ k₂.
        let e₂ : s₂.nodes ≡ s.nodes = k₂.kept.same_nodes ∙ k₁.same_nodes in
        win-if (eqb (tok_at c s₂.at).kind Eq) _ _ s₂ Q
        (λ t.
        win-then (consume c s₂) _ (λ u. Kept c l E true s₂.nodes) Q (consume-sound c s₂ k₂.kept.inn)
        (λ u s₃ k₃.
        win-then (initial c r i s₃) _ (λ u. Valued c Good good (word_at c i) l E s₃.nodes) Q (initial-sound c Good good r so.expr i l E s₃ k₂.kind k₃.inn)
        (λ u s₄ v.
        win-map (declare_var c i 1 s₄) (λ u. Declared c l (declared l (word_at c i) v.names) (said VarDecl (global_at l) 1 (word_at c i) ∷ v.labs) s.nodes) Q
        (declare-sound c i 1 l v.names v.labs s.nodes s₄ k₂.kind (made-from (k₃.same_nodes ∙ e₂) v.made) v.inn)
        (λ u s₅ d.
        record {
          tree = v.stmt;
          fit = v.fit;
          words = v.words;
          made = subst (λ (xs : List Lab). Made c xs s.nodes s₅.nodes) (sym v.renc-eq) d.made;
          inn = subst (λ (ys : List Sym). Stands c l ys true s₅) (sym v.env-eq) d.inn;
        }))))
        (λ t. win-if (eqb (tok_at c s₂.at).kind Semicolon) _ _ s₂ Q
        (λ t₁.
        win-then (consume c s₂) _ (λ u. Kept c l E true s₂.nodes) Q (consume-sound c s₂ k₂.kept.inn)
        (λ u s₃ k₃.
        win-map (declare_var c i 0 s₃) (λ u. Declared c l (declared l (word_at c i) E) (said VarDecl (global_at l) 0 (word_at c i) ∷ []) s.nodes) Q
        (declare-sound c i 0 l E [] s.nodes s₃ k₂.kind (made_at (k₃.same_nodes ∙ e₂) made_none) k₃.inn)
        (λ u s₄ d. record { tree = var_none (word_at c i); fit = k₂.kind; words = good i; made = d.made; inn = d.inn })))
        (λ t₁. throw-sound c _ s₂ Q))))

    -- ── functions ──

    -- fn_decl reads a function
    fn-sound : (l : ℕ) (E : List Sym) (s : St) → Stands c l E true s → Win (fn_decl c r s) (λ u. Declares l E s.nodes)
    unfolding fn_decl inside erased renc_s env_s OkS SaidS scope_of text_of has_token member if◌then◌otherwise◌ go_on
    fn-sound l E s h =
        let Q : Unit {0} → St → Type 0 = λ u. Declares l E s.nodes in
        win-then (expect c Fn s) _ (λ u. Kept c l E true s.nodes) Q (expect-sound c Fn s h)
        (λ u s₁ k₁.
        win-then (ident c ExpectedIdent s₁) _ (Named c l E true s₁.nodes) Q (ident-sound c ExpectedIdent s₁ k₁.inn)
        (λ i s₂ k₂.
        let x : W = word_at c i in
        let E₁ : List Sym = put_at l (name_at c i) Placeholder E in
        win-then (store c i Placeholder s₂) _ (λ u. Kept c l E₁ true s₂.nodes) Q
        (store-sound c i Placeholder Placeholder s₂ refl (λ j g e. absurd (let z : ◌≡◌ {A = ℕ} 0 1 = cc in let y : ⊥ = omega arith in y)) k₂.kept.inn)
        (λ u s₃ k₃.
        win-then (expect c LeftParen s₃) _ (λ u. Kept c l E₁ true s₃.nodes) Q (expect-sound c LeftParen s₃ k₃.inn)
        (λ u s₄ k₄.
        win-then (param_list c (param c) (fuel c) 0 s₄) _ (Params c Good good l E₁ 0 s₄.nodes) Q (params-sound c Good good (fuel c) 0 l E₁ s₄ (omega arith) k₄.inn)
        (λ m s₅ ps.
        let xs : List W = spoken ps.toks in
        let ex : length xs ≡ length ps.toks = length-map ps.toks (λ (j : ℕ). word_at c j) in
        let em₀ : m ≡ length ps.toks = ps.num ∙ zero-add (length ps.toks) in
        let em : m ≡ length xs = em₀ ∙ sym ex in
        let names : List ℕ = reverse (map (λ (y : Node). y.pay) (take m s₅.nodes)) in
        let en : names ≡ ps.toks = ap (λ (ns : List Node). reverse (map (λ (y : Node). y.pay) (take m ns))) ps.nodes ∙ loads-prims ps.toks s₄.nodes m em₀ in
        let e₄ : s₄.nodes ≡ s.nodes = k₄.same_nodes ∙ k₃.same_nodes ∙ k₂.kept.same_nodes ∙ k₁.same_nodes in
        win-then (push c FnParams false m 0 s₅) _ (λ u s₆. s₆ ≡ pushed FnParams false m 0 s₅) Q (push-sound c FnParams false m 0 s₅ (λ u s₆. s₆ ≡ pushed FnParams false m 0 s₅) refl)
        (λ u s₆ e₆.
        rw e₆
        (win-then (expect c RightParen (pushed FnParams false m 0 s₅)) _ (λ u. Kept c l E₁ true (node FnParams false m 0 ∷ s₅.nodes)) Q (expect-sound c RightParen (pushed FnParams false m 0 s₅) ps.inn)
        (λ u s₇ k₇.
        win-then (r.block true names s₇) _ (λ u. Blocked true xs l E₁ s₇.nodes) Q
        (subst (λ (is : List ℕ). Win (r.block true names s₇) (λ u. Blocked true (spoken is) l E₁ s₇.nodes)) en (so.block true names l E₁ s₇ k₇.inn))
        (λ u s₈ bl.
        let E₂ : List Sym = env_ss (suc l) (bound (suc l) xs E₁) bl.trees in
        win-then (push c FnDecl false 2 i s₈) _ (λ u s₉. s₉ ≡ pushed FnDecl false 2 i s₈) Q (push-sound c FnDecl false 2 i s₈ (λ u s₉. s₉ ≡ pushed FnDecl false 2 i s₈) refl)
        (λ u s₉ e₉.
        rw e₉
        (win-map (store c i (Function m) (pushed FnDecl false 2 i s₈)) (λ u. Kept c l (put_at l (name_at c i) (Function (length xs)) E₂) true (node FnDecl false 2 i ∷ s₈.nodes)) Q
        (store-sound c i (Function m) (Function (length xs)) (pushed FnDecl false 2 i s₈) (ap (λ (z : ℕ). Function z) em) (λ j g e. absurd (let z : ◌≡◌ {A = ℕ} 0 1 = cc in let y : ⊥ = omega arith in y)) bl.inn)
        (λ u s₁₀ k₁₀.
        record {
          tree = func x xs bl.trees;
          fit = (k₂.kind, ps.fit, subst (λ (z : ℕ). z ≤ 64) em ps.few, bl.ended, bl.fit);
          words = (good i, ps.words, bl.words);
          made =
              made_at k₁₀.same_nodes
              (made-push refl
              (made_then (made_at k₇.same_nodes (made-push (ap (λ (z : ℕ). bare FnParams false z) em) (made-from e₄ ps.made))) bl.made));
          inn = k₁₀.inn;
        }))))))))))))

    -- ── if ──

    -- an error is listed, and nothing else changes
    list-sound : (e : Err) {l : ℕ} {E : List Sym} {b : Bool} (s : St) → Stands c l E b s → Win (list c e s) (λ u. Kept c l E b s.nodes)
    unfolding list Win
    list-sound e {l} {E} {b} s h = win-when (ltb (length s.errs) c.err_room) _ _ (λ u. Kept c l E b s.nodes) (λ t. record { inn = h; same_nodes = refl }) (λ t. tt)

    -- an error is listed, and nothing else changes
    add-sound : (why : Why) {l : ℕ} {E : List Sym} {b : Bool} (s : St) → Stands c l E b s → Win (add_error c why s) (λ e. Kept c l E b s.nodes)
    unfolding add_error add_error_w_pos Win go_on
    add-sound why {l} {E} {b} s h = win-then (list c (err s.at why) s) _ (λ u. Kept c l E b s.nodes) (λ e. Kept c l E b s.nodes) (list-sound (err s.at why) s h) (λ u s₁ k. k)

    -- the end of an `if`, with two `else` or not
    end_if-sound : (n elses l : ℕ) (E : List Sym) (L : List Lab) (ns : List Node) (s : St) → Made c L ns s.nodes → Stands c l E true s → Win (end_if c n elses s) (λ u. Declared c l E (bare IfStmt false (2 + n) ∷ L) ns)
    unfolding end_if Win scope_of text_of has_token member if◌then◌otherwise◌ go_on
    end_if-sound n elses l E L ns s md h =
        let Q : Unit {0} → St → Type 0 = λ u. Declared c l E (bare IfStmt false (2 + n) ∷ L) ns in
        win-then (if◌then◌otherwise◌ {A = Void} (ltb 1 elses) (add_error c InvalidIfStmt >> ok) ok s) _ (λ u. Kept c l E true s.nodes) Q
        (win-if (ltb 1 elses) _ _ s (λ u. Kept c l E true s.nodes)
        (λ t. win-then (add_error c InvalidIfStmt s) _ (λ e. Kept c l E true s.nodes) (λ u. Kept c l E true s.nodes) (add-sound InvalidIfStmt s h) (λ e s₁ k. k))
        (λ t. record { inn = h; same_nodes = refl }))
        (λ u s₁ k. push-sound c IfStmt false (2 + n) 0 s₁ Q (record { made = made-push refl (made_at k.same_nodes md); inn = k.inn }))

    -- a condition and its block
    record Guarded (l : ℕ) (E : List Sym) (ns : List Node) (s : St) : Type 0 where
      expr : Expr
      trees : Stmts
      fit : Ok (seen l E) true expr
      fits : OkSs (suc l) E trees
      said' : Said Good expr
      words : SaidSs Good trees
      made : Made c (block_labs c (suc l) trees ++ renc expr) ns s.nodes
      inn : Stands c l (env_ss (suc l) E trees) true s

    -- a condition and its block are read
    guarded-sound : (f : Void) (l : ℕ) (E : List Sym) (ns : List Node) (s : St) (Q : Unit {0} → St → Type 0) → s.nodes ≡ ns → Stands c l E true s
        → ((s₁ : St) → Guarded l E ns s₁ → Win (f s₁) Q) → Win (go_on (r.assign s) (λ u. r.block false [] >> f)) Q
    unfolding bound go_on
    guarded-sound f l E ns s Q en h g =
        win-then (r.assign s) _ (λ u. Expressed c Good good l E s.nodes) Q (so.expr l E s h)
        (λ u s₁ e.
        win-then (r.block false [] s₁) _ (λ u. Blocked false [] l E s₁.nodes) Q (so.block false [] l E s₁ e.inn)
        (λ u s₂ b. g s₂ (record { expr = e.expr; trees = b.trees; fit = e.fit; fits = b.fit; said' = e.words; words = b.words; made = made-from en (made_then e.made b.made); inn = b.inn })))

    -- the further branches and the end of an `if`, over what was read of it
    record Branched (n l : ℕ) (E : List Sym) (L : List Lab) (ns : List Node) (s : St) : Type 0 where
      trees : Branches
      fit : OkBs l E trees
      words : SaidBs Good trees
      made : Made c (bare IfStmt false (2 + (n + many_branches trees)) ∷ (renc_bs l trees ++ L)) ns s.nodes
      inn : Stands c l (env_bs l E trees) true s

    -- no further branch
    no-branch : (n elses l : ℕ) (E : List Sym) (L : List Lab) (ns : List Node) (s : St) → Made c L ns s.nodes → Stands c l E true s → Win (end_if c n elses s) (λ u. Branched n l E L ns)
    unfolding OkBs SaidBs renc_bs env_bs many_branches
    no-branch n elses l E L ns s md h =
        win-map (end_if c n elses s) (λ u. Declared c l E (bare IfStmt false (2 + n) ∷ L) ns) (λ u. Branched n l E L ns) (end_if-sound n elses l E L ns s md h)
        (λ u s₁ d. record { trees = no_branch; fit = tt; words = tt; made = subst (λ (k : ℕ). Made c (bare IfStmt false (2 + k) ∷ L) ns s₁.nodes) (sym (add-zero n)) d.made; inn = d.inn })

    -- an elif was read
    record ElifRead (l : ℕ) (E : List Sym) (ns : List Node) (s : St) : Type 0 where
      expr : Expr
      trees : Stmts
      fit : Ok (seen l E) true expr
      fits : OkSs (suc l) E trees
      said' : Said Good expr
      words : SaidSs Good trees
      made : Made c (bare ElifStmt false 2 ∷ (block_labs c (suc l) trees ++ renc expr)) ns s.nodes
      inn : Stands c l (env_ss (suc l) E trees) true s

    -- an elif is read
    elif-sound : (l : ℕ) (E : List Sym) (s : St) → Stands c l E true s → Win (elif_stmt c r s) (λ u. ElifRead l E s.nodes)
    unfolding elif_stmt scope_of text_of has_token member if◌then◌otherwise◌
    elif-sound l E s h =
        let Q : Unit {0} → St → Type 0 = λ u. ElifRead l E s.nodes in
        win-then (consume c s) _ (λ u. Kept c l E true s.nodes) Q (consume-sound c s h)
        (λ u s₁ k₁.
        guarded-sound (push c ElifStmt false 2 0) l E s.nodes s₁ Q k₁.same_nodes k₁.inn
        (λ s₂ g. push-sound c ElifStmt false 2 0 s₂ Q (record { expr = g.expr; trees = g.trees; fit = g.fit; fits = g.fits; said' = g.said'; words = g.words; made = made-push refl g.made; inn = g.inn })))

    -- an else was read
    else-sound : (l : ℕ) (E : List Sym) (s : St) → Stands c l E true s → Win (else_block c r s) (λ u. Blocked false [] l E s.nodes)
    unfolding else_block
    else-sound l E s h =
        win-then (consume c s) _ (λ u. Kept c l E true s.nodes) (λ u. Blocked false [] l E s.nodes) (consume-sound c s h)
        (λ u s₁ k₁.
        win-map (r.block false [] s₁) (λ u. Blocked false [] l E s₁.nodes) (λ u. Blocked false [] l E s.nodes) (so.block false [] l E s₁ k₁.inn)
        (λ u s₂ b. record { trees = b.trees; ended = b.ended; fit = b.fit; words = b.words; made = made-from k₁.same_nodes b.made; inn = b.inn }))

    -- the loop of if_stmt reads branches
    branches-sound : (f n elses l : ℕ) (E : List Sym) (L : List Lab) (ns : List Node) (s : St) → Made c L ns s.nodes → Stands c l E true s → Win (branches c r f n elses s) (λ u. Branched n l E L ns)
    unfolding branches bound OkBs SaidBs renc_bs env_bs many_branches if◌then◌otherwise◌ go_on
    branches-sound zero n elses l E L ns s md h = no-branch n elses l E L ns s md h
    branches-sound (suc f) n elses l E L ns s md h =
        let Q : Unit {0} → St → Type 0 = λ u. Branched n l E L ns in
        win-if (eqb (tok_at c s.at).kind Elif) _ _ s Q
        (λ t.
        win-then (elif_stmt c r s) _ (λ u. ElifRead l E s.nodes) Q (elif-sound l E s h)
        (λ u s₁ e.
        let X : List Lab = bare ElifStmt false 2 ∷ (block_labs c (suc l) e.trees ++ renc e.expr) in
        let E₁ : List Sym = env_ss (suc l) E e.trees in
        win-map (branches c r f (suc n) elses s₁) (λ u. Branched (suc n) l E₁ (X ++ L) ns) Q (branches-sound f (suc n) elses l E₁ (X ++ L) ns s₁ (made_then md e.made) e.inn)
        (λ u s₂ q.
        record {
          trees = elif_of e.expr e.trees q.trees;
          fit = (e.fit, e.fits, q.fit);
          words = (e.said', e.words, q.words);
          made = subst₂ (λ (m : ℕ) (ls : List Lab). Made c (bare IfStmt false m ∷ ls) ns s₂.nodes) (omega arith) (sym (append_assoc (renc_bs l q.trees) X L)) q.made;
          inn = q.inn;
        })))
        (λ t. win-if (eqb (tok_at c s.at).kind Else) _ _ s Q
        (λ t₁.
        win-then (else_block c r s) _ (λ u. Blocked false [] l E s.nodes) Q (else-sound l E s h)
        (λ u s₁ e.
        let X : List Lab = block_labs c (suc l) e.trees in
        let E₁ : List Sym = env_ss (suc l) E e.trees in
        win-map (branches c r f (suc n) (suc elses) s₁) (λ u. Branched (suc n) l E₁ (X ++ L) ns) Q (branches-sound f (suc n) (suc elses) l E₁ (X ++ L) ns s₁ (made_then md e.made) e.inn)
        (λ u s₂ q.
        record {
          trees = else_of e.trees q.trees;
          fit = (e.fit, q.fit);
          words = (e.words, q.words);
          made = subst₂ (λ (m : ℕ) (ls : List Lab). Made c (bare IfStmt false m ∷ ls) ns s₂.nodes) (omega arith) (sym (append_assoc (renc_bs l q.trees) X L)) q.made;
          inn = q.inn;
        })))
        (λ t₁. no-branch n elses l E L ns s md h))

    -- if_stmt reads an `if`
    if-sound : (l : ℕ) (E : List Sym) (s : St) → Stands c l E true s → Win (if_stmt c r s) (λ u. Declares l E s.nodes)
    unfolding if_stmt renc_s env_s OkS SaidS
    if-sound l E s h =
        let Q : Unit {0} → St → Type 0 = λ u. Declares l E s.nodes in
        win-then (expect c If s) _ (λ u. Kept c l E true s.nodes) Q (expect-sound c If s h)
        (λ u s₁ k₁.
        guarded-sound (branches c r (fuel c) 0 0) l E s.nodes s₁ Q k₁.same_nodes k₁.inn
        (λ s₂ g.
        let L : List Lab = block_labs c (suc l) g.trees ++ renc g.expr in
        win-map (branches c r (fuel c) 0 0 s₂) (λ u. Branched 0 l (env_ss (suc l) E g.trees) L s.nodes) Q (branches-sound (fuel c) 0 0 l (env_ss (suc l) E g.trees) L s.nodes s₂ g.made g.inn)
        (λ u s₃ q.
        record {
          tree = cond g.expr g.trees q.trees;
          fit = (g.fit, g.fits, q.fit);
          words = (g.said', g.words, q.words);
          made = subst (λ (m : ℕ). Made c (bare IfStmt false (2 + m) ∷ (renc_bs l q.trees ++ L)) s.nodes s₃.nodes) (zero-add (many_branches q.trees)) q.made;
          inn = q.inn;
        })))

    -- ── for ──

    -- the two names of a `for`
    record PairRead (l : ℕ) (E : List Sym) (ns : List Node) (is : List ℕ) (s : St) : Type 0 where
      one : ℕ
      two : ℕ
      both : is ≡ one ∷ two ∷ []
      kind₁ : (word_at c one).kind ≡ Ident
      kind₂ : (word_at c two).kind ≡ Ident
      made : Made c (bare IdentPair false 2 ∷ prim_lab (word_at c two) ∷ prim_lab (word_at c one) ∷ []) ns s.nodes
      inn : Stands c l E true s

    -- ident_pair reads two names
    pair-sound : (l : ℕ) (E : List Sym) (s : St) → Stands c l E true s → Win (ident_pair c s) (PairRead l E s.nodes)
    unfolding ident_pair Win scope_of text_of has_token member if◌then◌otherwise◌
    pair-sound l E s h =
        let Q : List ℕ → St → Type 0 = PairRead l E s.nodes in
        win-then (ident_node c s) _ (NameNode c Good good l E s.nodes) Q (ident_node-sound c Good good l E s h)
        (λ i s₁ k₁.
        win-then (expect c Comma s₁) _ (λ u. Kept c l E true s₁.nodes) Q (expect-sound c Comma s₁ k₁.inn)
        (λ u s₂ k₂.
        win-then (ident_node c s₂) _ (NameNode c Good good l E s₂.nodes) Q (ident_node-sound c Good good l E s₂ k₂.inn)
        (λ j s₃ k₃.
        let en : s₃.nodes ≡ prim_node j ∷ prim_node i ∷ s.nodes = k₃.nodes ∙ ap (λ (ns : List Node). prim_node j ∷ ns) (k₂.same_nodes ∙ k₁.nodes) in
        win-then (push c IdentPair false 2 0 s₃) _ (λ u s₄. s₄ ≡ pushed IdentPair false 2 0 s₃) Q (push-sound c IdentPair false 2 0 s₃ (λ u s₄. s₄ ≡ pushed IdentPair false 2 0 s₃) refl)
        (λ u s₄ e₄.
        rw e₄
        (record { one = i; two = j; both = refl; kind₁ = k₁.kind; kind₂ = k₃.kind; made = made-push refl (made_at en (made-push refl (made-push refl made_none))); inn = k₃.inn })))))

    -- for_stmt reads a `for`
    for-sound : (l : ℕ) (E : List Sym) (s : St) → Stands c l E true s → Win (for_stmt c r s) (λ u. Declares l E s.nodes)
    unfolding for_stmt renc_s env_s OkS SaidS scope_of text_of has_token member if◌then◌otherwise◌
    for-sound l E s h =
        let Q : Unit {0} → St → Type 0 = λ u. Declares l E s.nodes in
        win-then (expect c For s) _ (λ u. Kept c l E true s.nodes) Q (expect-sound c For s h)
        (λ u s₁ k₁.
        win-then (ident_pair c s₁) _ (PairRead l E s₁.nodes) Q (pair-sound l E s₁ k₁.inn)
        (λ is s₂ p.
        win-then (expect c InKind s₂) _ (λ u. Kept c l E true s₂.nodes) Q (expect-sound c InKind s₂ p.inn)
        (λ u s₃ k₃.
        win-then (r.assign s₃) _ (λ u. Expressed c Good good l E s₃.nodes) Q (so.expr l E s₃ k₃.inn)
        (λ u s₄ e.
        let xs : List W = word_at c p.one ∷ word_at c p.two ∷ [] in
        win-then (r.block false is s₄) _ (λ u. Blocked false xs l E s₄.nodes) Q
        (subst (λ (js : List ℕ). Win (r.block false is s₄) (λ u. Blocked false (spoken js) l E s₄.nodes)) p.both (so.block false is l E s₄ e.inn))
        (λ u s₅ b.
        push-sound c ForStmt false 3 0 s₅ Q
        (record {
          tree = loop (word_at c p.one) (word_at c p.two) e.expr b.trees;
          fit = (p.kind₁, p.kind₂, e.fit, b.fit);
          words = (good p.one, good p.two, e.words, b.words);
          made = made-push refl (made_then (made_then (made_at k₃.same_nodes (made-from k₁.same_nodes p.made)) e.made) b.made);
          inn = b.inn;
        }))))))

    -- ── return, expressions, and all of them ──

    -- ret_stmt reads a return
    ret-sound : (l : ℕ) (E : List Sym) (s : St) → Stands c l E true s → Win (ret_stmt c r s) (λ u. Declares l E s.nodes)
    unfolding ret_stmt renc_s env_s OkS SaidS scope_of text_of has_token member if◌then◌otherwise◌ go_on
    ret-sound l E s h =
        let Q : Unit {0} → St → Type 0 = λ u. Declares l E s.nodes in
        win-then (expect c Return s) _ (λ u. Kept c l E true s.nodes) Q (expect-sound c Return s h)
        (λ u s₁ k₁.
        win-if (eqb (tok_at c s₁.at).kind Semicolon) _ _ s₁ Q
        (λ t.
        win-then (consume c s₁) _ (λ u. Kept c l E true s₁.nodes) Q (consume-sound c s₁ k₁.inn)
        (λ u s₂ k₂. push-sound c ReturnStmt false 0 0 s₂ Q (record { tree = ret; fit = tt; words = tt; made = made-push refl (made_at (k₂.same_nodes ∙ k₁.same_nodes) made_none); inn = k₂.inn })))
        (λ t.
        win-then (r.assign s₁) _ (λ u. Expressed c Good good l E s₁.nodes) Q (so.expr l E s₁ k₁.inn)
        (λ u s₂ e.
        win-then (expect c Semicolon s₂) _ (λ u. Kept c l E true s₂.nodes) Q (expect-sound c Semicolon s₂ e.inn)
        (λ u s₃ k₃. push-sound c ReturnStmt false 1 0 s₃ Q (record { tree = ret_expr e.expr; fit = e.fit; words = e.words; made = made-push refl (made_at k₃.same_nodes (made-from k₁.same_nodes e.made)); inn = k₃.inn })))))

    -- expr_stmt reads an expression statement
    expr_stmt-sound : (l : ℕ) (E : List Sym) (s : St) → Stands c l E true s → Win (expr_part c r s) (λ u. Declares l E s.nodes)
    unfolding expr_part renc_s env_s OkS SaidS scope_of text_of has_token member if◌then◌otherwise◌
    expr_stmt-sound l E s h =
        let Q : Unit {0} → St → Type 0 = λ u. Declares l E s.nodes in
        win-then (r.assign s) _ (λ u. Expressed c Good good l E s.nodes) Q (so.expr l E s h)
        (λ u s₂ e.
        win-then (expect c Semicolon s₂) _ (λ u. Kept c l E true s₂.nodes) Q (expect-sound c Semicolon s₂ e.inn)
        (λ u s₃ k₃. push-sound c ExprStmt false 1 0 s₃ Q (record { tree = expr_stmt e.expr; fit = e.fit; words = e.words; made = made-push refl (made_at k₃.same_nodes e.made); inn = k₃.inn })))

    -- a block is a declaration
    plain-sound : (l : ℕ) (E : List Sym) (s : St) → Stands c l E true s → Win (r.block false [] s) (λ u. Declares l E s.nodes)
    unfolding bound renc_s env_s OkS SaidS
    plain-sound l E s h =
        win-map (r.block false [] s) (λ u. Blocked false [] l E s.nodes) (λ u. Declares l E s.nodes) (so.block false [] l E s h)
        (λ u s₁ b. record { tree = block b.trees; fit = b.fit; words = b.words; made = b.made; inn = b.inn })

    -- decl reads a declaration
    decl-sound : (l : ℕ) (E : List Sym) (s : St) → Stands c l E true s → Win (decl c r s) (λ u. Declares l E s.nodes)
    unfolding decl stmt if◌then◌otherwise◌ go_on
    decl-sound l E s h =
        let Q : Unit {0} → St → Type 0 = λ u. Declares l E s.nodes in
        win-if (eqb (tok_at c s.at).kind Var) _ _ s Q (λ t. var-sound l E s h)
        (λ t. win-if (eqb (tok_at c s.at).kind Fn) _ _ s Q (λ t₁. fn-sound l E s h)
        (λ t₁. win-if (eqb (tok_at c s.at).kind If) _ _ s Q (λ t₂. if-sound l E s h)
        (λ t₂. win-if (eqb (tok_at c s.at).kind For) _ _ s Q (λ t₃. for-sound l E s h)
        (λ t₃. win-if (eqb (tok_at c s.at).kind Return) _ _ s Q (λ t₄. ret-sound l E s h)
        (λ t₄. win-if (eqb (tok_at c s.at).kind LeftBrace) _ _ s Q (λ t₅. plain-sound l E s h) (λ t₅. expr_stmt-sound l E s h))))))

    -- ── blocks ──

    -- the declarations of a block, after n
    record Listed (l : ℕ) (E : List Sym) (n : ℕ) (ns : List Node) (m : ℕ) (s : St) : Type 0 where
      trees : Stmts
      num : m ≡ n + counted trees
      fit : OkSs l E trees
      words : SaidSs Good trees
      made : Made c (renc_ss l trees) ns s.nodes
      inn : Stands c l (env_ss l E trees) true s

    -- no more declarations
    no-decl : (l : ℕ) (E : List Sym) (n : ℕ) (s : St) → Stands c l E true s → Listed l E n s.nodes n s
    unfolding counted OkSs SaidSs renc_ss env_ss
    no-decl l E n s h = record { trees = stop; num = omega arith; fit = tt; words = tt; made = made_none; inn = h }

    -- the loop of block reads declarations
    decls-sound : (f n l : ℕ) (E : List Sym) (s : St) → Stands c l E true s → Win (decls c r f n s) (Listed l E n s.nodes)
    unfolding decls counted OkSs SaidSs renc_ss env_ss Win if◌then◌otherwise◌ go_on
    decls-sound zero n l E s h = no-decl l E n s h
    decls-sound (suc f) n l E s h =
        let Q : ℕ → St → Type 0 = Listed l E n s.nodes in
        win-if (eqb (tok_at c s.at).kind RightBrace || eqb (tok_at c s.at).kind Eof) _ _ s Q (λ t. no-decl l E n s h)
        (λ t.
        win-then (decl c r s) _ (λ u. Declares l E s.nodes) Q (decl-sound l E s h)
        (λ u s₁ d.
        win-map (decls c r f (suc n) s₁) (Listed l (env_s l E d.tree) (suc n) s₁.nodes) Q (decls-sound f (suc n) l (env_s l E d.tree) s₁ d.inn)
        (λ m s₂ q.
        record {
          trees = next d.tree q.trees;
          num = q.num ∙ omega arith;
          fit = (d.fit, q.fit);
          words = (d.words, q.words);
          made = made_then d.made q.made;
          inn = q.inn;
        })))

    -- a function's body gets its return
    record Finished (body : Bool) (l : ℕ) (E : List Sym) (ns : List Node) (L : ℕ) (m : ℕ) (s : St) : Type 0 where
      trees : Stmts
      num : m ≡ counted trees
      ended : T (not body || returns trees)
      fit : OkSs l E trees
      words : SaidSs Good trees
      made : Made c (renc_ss l trees) ns s.nodes
      inn : Stands c L (env_ss l E trees) true s

    -- a body that ends in no return gets one
    finish-sound : (body : Bool) (l L : ℕ) (E : List Sym) (ns : List Node) (ts : Stmts) (m : ℕ) (s : St) → m ≡ counted ts → OkSs l E ts → SaidSs Good ts → Made c (renc_ss l ts) ns s.nodes → Stands c L (env_ss l E ts) true s
        → Win (with_return c body m s) (Finished body l E ns L)
    unfolding with_return Win scope_of text_of has_token member if◌then◌otherwise◌ go_on
    finish-sound false l L E ns ts m s em k w md h = record { trees = ts; num = em; ended = tt; fit = k; words = w; made = md; inn = h }
    finish-sound true l L E ns ts m s em k w md h =
        let Q : ℕ → St → Type 0 = Finished true l E ns L in
        win-if (ltb 0 m && eqb (top_of s.nodes).kind ReturnStmt) _ _ s Q
        (λ t. record { trees = ts; num = em; ended = ends-in-return c ts l m ns s.nodes em md t; fit = k; words = w; made = md; inn = h })
        (λ t.
        win-then (push c ReturnStmt false 0 0 s) _ (λ u s₁. s₁ ≡ pushed ReturnStmt false 0 0 s) Q (push-sound c ReturnStmt false 0 0 s (λ u s₁. s₁ ≡ pushed ReturnStmt false 0 0 s) refl)
        (λ u s₁ e₁.
        rw e₁
        (record {
          trees = snoc ts ret;
          num = ap suc em ∙ sym (snoc-counted ts ret);
          ended = snoc-returns ts;
          fit = snoc-fit ts l E k;
          words = snoc-words Good ts w;
          made = subst (λ (xs : List Lab). Made c xs ns (node ReturnStmt false 0 0 ∷ s.nodes)) (sym (snoc-labels ts l)) (made-push refl md);
          inn = subst (λ (ys : List Sym). Stands c L ys true s) (sym (snoc-names ts l E)) h;
        })))

    -- block reads a block
    block-sound : (body : Bool) (is : List ℕ) (l : ℕ) (E : List Sym) (s : St) → Stands c l E true s → Win (block_part c r body is s) (λ u. Blocked body (spoken is) l E s.nodes)
    unfolding block_part init_scope close_scope set_level scope_of text_of has_token member if◌then◌otherwise◌ go_on
    block-sound body is l E s h =
        let Q : Unit {0} → St → Type 0 = λ u. Blocked body (spoken is) l E s.nodes in
        let E₁ : List Sym = bound (suc l) (spoken is) E in
        win-then (expect c LeftBrace s) _ (λ u. Kept c l E true s.nodes) Q (expect-sound c LeftBrace s h)
        (λ u s₁ k₁.
        let s₂ : St = levelled (suc s₁.level) s₁ in
        win-then (bind c is s₂) _ (λ u. Kept c (suc l) E₁ true s₁.nodes) Q (bind-sound c is (suc l) E true s₂ (in-level (suc l) (suc s₁.level) (ap suc k₁.inn.level) k₁.inn))
        (λ u s₃ k₃.
        win-then (decls c r (fuel c) 0 s₃) _ (Listed (suc l) E₁ 0 s₃.nodes) Q (decls-sound (fuel c) 0 (suc l) E₁ s₃ k₃.inn)
        (λ m s₄ q.
        win-then (expect c RightBrace s₄) _ (λ u. Kept c (suc l) (env_ss (suc l) E₁ q.trees) true s₄.nodes) Q (expect-sound c RightBrace s₄ q.inn)
        (λ u s₅ k₅.
        let s₆ : St = levelled (s₅.level - 1) s₅ in
        win-then (with_return c body m s₆) _ (Finished body (suc l) E₁ s.nodes l) Q
        (finish-sound body (suc l) l E₁ s.nodes q.trees m s₆ (q.num ∙ zero-add (counted q.trees)) q.fit q.words (made_at k₅.same_nodes (made-from (k₃.same_nodes ∙ k₁.same_nodes) q.made))
        (in-level l (s₅.level - 1) (let z : s₅.level ≡ suc l = k₅.inn.level in omega arith) k₅.inn))
        (λ n s₇ f.
        push-sound c Block false n s₅.level s₇ Q
        (record {
          trees = f.trees;
          ended = f.ended;
          fit = f.fit;
          words = f.words;
          made = made-push (ap₂ (λ (a : ℕ) (z : ℕ). block_lab a z) f.num k₅.inn.level) f.made;
          inn = f.inn;
        }))))))

  -- SOUND, declarations: what a walk reads by at any depth
  pub all_sound : (d : ℕ) → Sounds (walkers c d)
  unfolding walkers Win
  all_sound zero = record { expr = expr-sound c Good good zero; block = λ body is l E s h. tt }
  all_sound (suc d) = record { expr = expr-sound c Good good (suc d); block = block-sound (walkers c d) (all_sound d) }

  -- SOUND, declarations: a declaration that the definition reads, done, is a typed tree that is Ok, with these labels
  pub declaration-sound : (d l : ℕ) (E : List Sym) (s : St) → Stands c l E true s → Win (decl c (walkers c d) s) (λ u. Declares l E s.nodes)
  declaration-sound d l E s h = decl-sound (walkers c d) (all_sound d) l E s h
