-- Completeness of declarations and statements, the rest: variables, functions, if and for, and every declaration.
use Prim.Native.Nat.{ℕ, zero, suc, ◌+◌, ◌≤◌}
use Rattle.std.proofs.Math.Path.{◌≡◌, refl, sym, ap, ap₂, subst, subst₂}
use Rattle.std.proofs.Common.{◌∙◌, add-zero, not-suc-le-zero}
use mathlib.Core.List.{List, [], ◌∷◌, ◌++◌, map, append_assoc, reverse, reverse_aux}
use Rattle.std.specs.Prelude.{Bool, ltb, take}
use Rattle.std.proofs.Math.Bool.{true, false, not}
use native.Mathlib.Omega.{arith}
use Rattle.std.proofs.Math.Nat.{zero-add}
use Rattle.std.proofs.Math.Dec.{T, eqb}
use Rattle.std.proofs.Math.ListN.{length}
use Rattle.std.proofs.lemmas.List.{length-map}
use Rattle.sifc_word.specs.Base.{if◌then◌otherwise◌, member}
use Rattle.sifc_word.specs.Kind.{LeftParen, RightParen, LeftBracket, Semicolon, Eq, Comma, DoubleLeftBracket, Ident, Var, Fn, If, Elif, Else, For, In as InKind, Eof}
use Rattle.sifc_def.specs.Why.{Why}
use Rattle.sifc_err.specs.declared.parse_err.ParseErrTy.TheVariants.{InvalidIfStmt, ExpectedIdent}
use Rattle.sifc_def.specs.declared.What.TheVariants.{Placeholder, Function}
use Rattle.sifc_def.specs.Ast.{IfStmt, ElifStmt, ForStmt, VarDecl, FnDecl, FnParams, IdentPair, ItemList, Table, PrimaryExpr}
use Rattle.sifc_def.specs.State.{Node, Sym, Ctx, St, M, Void, go_on, ◌>>◌, ok, W, name_of, word_at, add_error_w_pos, add_error, list, push}
use Rattle.sifc_def.specs.Symbols.{put_at, store}
use Rattle.sifc_def.specs.Label.{Lab, has_token, scope_of, text_of}
use Rattle.sifc_def.specs.Walk.{walkers}
use Rattle.sifc_def.specs.Expr.{fuel, separator, param_list}
use Rattle.sifc_def.specs.declared.Err.{Err}
use Rattle.sifc_def.specs.State.{err}
use Rattle.sifc_def.specs.Stmt.{ident_node, param, ident_pair, end_if, initial, var_decl, fn_decl, elif_stmt, else_block, branches, if_stmt, for_stmt, stmt, decl}
use Rattle.sifc_def.specs.Typed.{Expr, Exprs, Items, Stmt, var_none, var_expr, var_array, var_table, func, block, cond, loop, ret, ret_expr, expr_stmt, Stmts, stop, next, Branches, no_branch, elif_of, else_of, many_branches, many_items, lp, rp, lb, rb, eq, comma, semi, dlb, drb, lbrace, rbrace, var_word, if_word, for_word, in_word, between_names, pr, prs, pr_names, pr_items, pr_s, pr_ss, pr_bs, bare, said, prim_lab, renc, renc_names, renc_items, renc_array, global_at, renc_s, renc_bs, seen, Ok, Oks, OkItems, OkNames, bound, declared, stored, inside, env_s, env_ss, env_bs, OkS, OkSs, OkBs}
use Rattle.sifc_def.proofs.Round.{not-leb, at-kind, Res, and_then, yes-then, no-else, res-map, erased, Made, made_none, made_then, made-push}
use Rattle.sifc_def.proofs.Round.Steps.{first, Ahead, Got, now, test, later, sees-length, stepped, pushed, listed, consume-eq, expect-eq, ident-eq, push_ok, list-ok}
use Rattle.sifc_def.proofs.Round.Levels.{starters, made-single}
use Rattle.sifc_def.proofs.Round.Levels.Suffixes.{start}
use Rattle.sifc_def.proofs.Round.Statements.{stop-semi, stop-lbrace, read-expr, store-got, declare-ok, array_ok, table-ok, ident_node-eq}
use Rattle.sifc_def.proofs.Round.Statements.Blocks.{prim_node, loads-prims, member-test, Follow, names-length, pr_bs-length, made-empty, Says, AllSay, block_labs, block-ok, plain_ok, to-stmt, expr-says, block-says, ret-says, ret_expr-says}

module _ (c : Ctx) where
  -- ── variables ──

  -- the value that follows `=`, an expression
  initial-expr : (i : ℕ) (e : Expr) (d l : ℕ) (E : List Sym) (rest : List W) (s : St) → Ok (seen l E) true e → Ahead c l E true (pr e (semi ∷ rest)) s → Res (initial c (walkers c d) i s) (λ u. Got c l E true (renc e) rest s.nodes)
  unfolding initial Res member go_on if◌then◌otherwise◌
  initial-expr i e d l E rest s k p =
      let Q : Unit {0} → St → Type 0 = λ u. Got c l E true (renc e) rest s.nodes in
      let m : T (member (first (pr e (semi ∷ rest))).kind starters) = start c l E e true k (semi ∷ rest) in
      no-else _ _ _ s Q (test (λ n. eqb n LeftBracket) false p (member-test (first (pr e (semi ∷ rest))).kind LeftBracket starters m tt))
      (no-else _ _ _ s Q (test (λ n. eqb n DoubleLeftBracket) false p (member-test (first (pr e (semi ∷ rest))).kind DoubleLeftBracket starters m tt))
      (and_then ((walkers c d).assign s) _ (λ u. Got c l E true (renc e) (semi ∷ rest) s.nodes) Q
      (read-expr c e d l E (semi ∷ rest) s k (stop-semi rest) p)
      (λ u s₁ h. rw (expect-eq Semicolon s₁ h.pre refl refl) (record { pre = later h.pre; made = h.made }))))

  -- the value that follows `=`, an array
  initial-array : (i : ℕ) (x : W) (es : Exprs) (d l : ℕ) (E : List Sym) (rest : List W) (s : St) → word_at c i ≡ x → Oks (seen l E) true es → Ahead c l E true (lb ∷ prs es (rb ∷ semi ∷ rest)) s → Res (initial c (walkers c d) i s) (λ u. Got c l (stored l x E) true (renc_array x es) rest s.nodes)
  unfolding initial go_on if◌then◌otherwise◌
  initial-array i x es d l E rest s ew k p = yes-then _ _ _ s _ (test (λ n. eqb n LeftBracket) true p refl) (array_ok c i x es d l E rest s ew k p)

  -- the value that follows `=`, a table
  initial-table : (i : ℕ) (x : W) (is : Items) (d l : ℕ) (E : List Sym) (rest : List W) (s : St) → word_at c i ≡ x → OkItems (seen l E) is → Ahead c l E true (dlb ∷ pr_items is (drb ∷ semi ∷ rest)) s → Res (initial c (walkers c d) i s) (λ u. Got c l (stored l x E) true (said Table false 1 x ∷ bare ItemList false (many_items is) ∷ renc_items is) rest s.nodes)
  unfolding initial go_on if◌then◌otherwise◌
  initial-table i x is d l E rest s ew k p = no-else _ _ _ s _ (test (λ n. eqb n LeftBracket) false p refl) (yes-then _ _ _ s _ (test (λ n. eqb n DoubleLeftBracket) true p refl) (table-ok c i x is d l E rest s ew k p))

  -- a variable whose value is read so
  var-ok : (x : W) (d l : ℕ) (E E₁ : List Sym) (L : List Lab) (ws rest : List W) (s : St) → x.kind ≡ Ident
      → ((s₁ : St) → Ahead c l E true ws s₁ → Res (initial c (walkers c d) (suc s.at) s₁) (λ u. Got c l E₁ true L rest s₁.nodes))
      → Ahead c l E true (var_word ∷ x ∷ eq ∷ ws) s → Res (decl c (walkers c d) s) (λ u. Got c l (declared l x E₁) true (said VarDecl (global_at l) 1 x ∷ L) rest s.nodes)
  unfolding decl var_decl go_on if◌then◌otherwise◌
  var-ok x d l E E₁ L ws rest s xk init p =
      let Q : Unit {0} → St → Type 0 = λ u. Got c l (declared l x E₁) true (said VarDecl (global_at l) 1 x ∷ L) rest s.nodes in
      yes-then _ _ _ s Q (test (λ n. eqb n Var) true p refl)
      (rw (expect-eq Var s p refl refl)
      (rw (ident-eq ExpectedIdent (stepped s) (later p) xk)
      (yes-then _ _ _ (stepped (stepped s)) Q (test (λ n. eqb n Eq) true (later (later p)) refl)
      (rw (consume-eq (stepped (stepped s)) (later (later p)) refl)
      (and_then (initial c (walkers c d) (suc s.at) (stepped (stepped (stepped s)))) _ (λ u. Got c l E₁ true L rest s.nodes) Q
      (init (stepped (stepped (stepped s))) (later (later (later p))))
      (λ u s₁ h. declare-ok c (suc s.at) 1 x s₁ (now (later p)) xk h))))))

  -- a variable without value is read as it is
  var_none-says : (x : W) → Says c (var_none x)
  unfolding Says OkS pr_s env_s renc_s decl var_decl go_on if◌then◌otherwise◌
  var_none-says x d l E rest s k f p =
      let Q : Unit {0} → St → Type 0 = λ u. Got c l (declared l x E) true (said VarDecl (global_at l) 0 x ∷ []) rest s.nodes in
      yes-then _ _ _ s Q (test (λ n. eqb n Var) true p refl)
      (rw (expect-eq Var s p refl refl)
      (rw (ident-eq ExpectedIdent (stepped s) (later p) k)
      (no-else _ _ _ (stepped (stepped s)) Q (test (λ n. eqb n Eq) false (later (later p)) refl)
      (yes-then _ _ _ (stepped (stepped s)) Q (test (λ n. eqb n Semicolon) true (later (later p)) refl)
      (rw (consume-eq (stepped (stepped s)) (later (later p)) refl)
      (declare-ok c (suc s.at) 0 x (stepped (stepped (stepped s))) (now (later p)) k (record { pre = later (later (later p)); made = made_none })))))))

  -- a variable with an expression is read as it is
  var_expr-says : (x : W) (e : Expr) → Says c (var_expr x e)
  unfolding Says OkS pr_s env_s renc_s
  var_expr-says x e d l E rest s k f p = var-ok x d l E E (renc e) (pr e (semi ∷ rest)) rest s k.0 (λ s₁ p₁. initial-expr (suc s.at) e d l E rest s₁ k.1 p₁) p

  -- a variable with an array is read as it is
  var_array-says : (x : W) (es : Exprs) → Says c (var_array x es)
  unfolding Says OkS pr_s env_s renc_s
  var_array-says x es d l E rest s k f p = var-ok x d l E (stored l x E) (renc_array x es) (lb ∷ prs es (rb ∷ semi ∷ rest)) rest s k.0 (λ s₁ p₁. initial-array (suc s.at) x es d l E rest s₁ (now (later p)) k.1 p₁) p

  -- a variable with a table is read as it is
  var_table-says : (x : W) (is : Items) → Says c (var_table x is)
  unfolding Says OkS pr_s env_s renc_s
  var_table-says x is d l E rest s k f p = var-ok x d l E (stored l x E) (said Table false 1 x ∷ bare ItemList false (many_items is) ∷ renc_items is) (dlb ∷ pr_items is (drb ∷ semi ∷ rest)) rest s k.0 (λ s₁ p₁. initial-table (suc s.at) x is d l E rest s₁ (now (later p)) k.1 p₁) p

  -- ── functions ──

  -- parameters were read, after n: their tokens, and their nodes over those that were there
  record Params (xs : List W) (n l : ℕ) (E : List Sym) (rest : List W) (ns : List Node) (m : ℕ) (s : St) : Type 0 where
    num : m ≡ n + length xs
    toks : List ℕ
    spelt : map (λ (i : ℕ). word_at c i) toks ≡ xs
    nodes : s.nodes ≡ reverse_aux (map prim_node toks) ns
    got : Got c l E true (renc_names xs) rest ns s

  -- nothing but the place changed
  record Sepd (l : ℕ) (E : List Sym) (ws : List W) (ns : List Node) (s : St) : Type 0 where
    same_nodes : s.nodes ≡ ns
    pre : Ahead c l E true ws s

  -- a comma, or none before `)`
  sep-names : (xs : List W) (l : ℕ) (E : List Sym) (rest : List W) (s : St) → Ahead c l E true (between_names xs (pr_names xs (rp ∷ rest))) s → Res (separator c s) (λ u. Sepd l E (pr_names xs (rp ∷ rest)) s.nodes)
  unfolding separator between_names pr_names Res go_on if◌then◌otherwise◌
  sep-names [] l E rest s p = no-else _ _ _ s _ (test (λ k. not (eqb k RightParen)) false p refl) (record { same_nodes = refl; pre = p })
  sep-names (x ∷ xs) l E rest s p =
      yes-then _ _ _ s _ (test (λ k. not (eqb k RightParen)) true p refl)
      (rw (expect-eq Comma s p refl refl) (record { same_nodes = refl; pre = later p }))

  -- parameters are read as they are
  params_ok : (xs : List W) (f n l : ℕ) (E : List Sym) (rest : List W) (s : St) → OkNames xs → n + length xs ≤ 64 → length xs ≤ f → Ahead c l E true (pr_names xs (rp ∷ rest)) s
      → Res (param_list c (param c) f n s) (Params xs n l E (rp ∷ rest) s.nodes)
  unfolding param_list param pr_names OkNames renc_names Res go_on if◌then◌otherwise◌
  params_ok [] zero n l E rest s k small len p = record { num = omega arith; toks = []; spelt = refl; nodes = refl; got = record { pre = p; made = made_none } }
  params_ok [] (suc f) n l E rest s k small len p = yes-then _ _ _ s _ (test (λ k. eqb k RightParen) true p refl) (record { num = omega arith; toks = []; spelt = refl; nodes = refl; got = record { pre = p; made = made_none } })
  params_ok (x ∷ xs) zero n l E rest s k small len p = absurd (not-suc-le-zero len)
  params_ok (x ∷ xs) (suc f) n l E rest s k small len p =
      let Q : ℕ → St → Type 0 = Params (x ∷ xs) n l E (rp ∷ rest) s.nodes in
      let s₁ : St = stepped (pushed PrimaryExpr false 0 s.at s) in
      no-else _ _ _ s Q (test (λ k. eqb k RightParen) false p (at-kind (λ n. eqb n RightParen ≡ false) x.kind Ident k.0 refl))
      (no-else _ _ _ s Q (not-leb 64 n (omega arith))
      (no-else _ _ _ s Q (test (λ k. eqb k Eof) false p (at-kind (λ n. eqb n Eof ≡ false) x.kind Ident k.0 refl))
      (and_then (param c s) _ (λ u s₂. s₂ ≡ s₁) Q
      (and_then (ident_node c s) _ (λ i s₂. s₂ ≡ s₁) (λ u s₂. s₂ ≡ s₁) (ident_node-eq c x l E true _ s (λ i s₂. s₂ ≡ s₁) k.0 p refl) (λ i s₂ e. e))
      (λ u s₂ e₂.
      rw e₂
      (and_then (separator c s₁) _ (λ u. Sepd l E (pr_names xs (rp ∷ rest)) s₁.nodes) Q
      (sep-names xs l E rest s₁ (later p))
      (λ u s₃ h₃.
      res-map (param_list c (param c) f (suc n) s₃) (Params xs (suc n) l E (rp ∷ rest) s₃.nodes) Q
      (params_ok xs f (suc n) l E rest s₃ k.1 (omega arith) (omega arith) h₃.pre)
      (λ m s₄ q.
      record {
        num = q.num ∙ omega arith;
        toks = s.at ∷ q.toks;
        spelt = ap₂ (λ (y : W) (ys : List W). y ∷ ys) (now p) q.spelt;
        nodes = q.nodes ∙ ap (λ (ns : List Node). reverse_aux (map prim_node q.toks) ns) h₃.same_nodes;
        got = record { pre = q.got.pre; made = made_then (made-single s p) (subst (λ (ns : List Node). Made c (renc_names xs) ns s₄.nodes) h₃.same_nodes q.got.made) };
      })))))))

  -- as many tokens as words
  spelt-length : (is : List ℕ) (xs : List W) → map (λ (i : ℕ). word_at c i) is ≡ xs → length is ≡ length xs
  spelt-length is xs e = sym (length-map is (λ (i : ℕ). word_at c i)) ∙ ap (λ (ys : List W). length ys) e

  -- a function is read as it is
  func-says : (x : W) (ns : List W) (ss : Stmts) → AllSay c ss → Says c (func x ns ss)
  unfolding Says OkS pr_s env_s renc_s inside decl fn_decl erased scope_of text_of has_token member go_on if◌then◌otherwise◌
  func-says x xs ss all d l E rest s k f p =
      let Q : Unit {0} → St → Type 0 = λ u. Got c l (put_at l (name_of x) (Function (length xs)) (env_ss (suc l) (bound (suc l) xs (put_at l (name_of x) Placeholder E)) ss)) true (said FnDecl false 2 x ∷ (block_labs c (suc l) ss ++ (bare FnParams false (length xs) ∷ renc_names xs))) rest s.nodes in
      let i : ℕ = suc s.at in
      let ew : word_at c i ≡ x = now (later p) in
      let E₁ : List Sym = put_at l (name_of x) Placeholder E in
      let ws : List W = lbrace ∷ pr_ss ss (rbrace ∷ rest) in
      no-else _ _ _ s Q (test (λ n. eqb n Var) false p refl)
      (yes-then _ _ _ s Q (test (λ n. eqb n Fn) true p refl)
      (rw (expect-eq Fn s p refl refl)
      (rw (ident-eq ExpectedIdent (stepped s) (later p) k.0)
      (and_then (store c i Placeholder (stepped (stepped s))) _ (λ u. Got c l E₁ true [] (lp ∷ pr_names xs (rp ∷ ws)) s.nodes) Q
      (store-got c i x Placeholder Placeholder (stepped (stepped s)) ew refl (λ j g e. absurd (let z : ◌≡◌ {A = ℕ} 0 1 = cc in let y : ⊥ = omega arith in y)) (record { pre = later (later p); made = made_none }))
      (λ u s₃ h₃.
      rw (expect-eq LeftParen s₃ h₃.pre refl refl)
      (and_then (param_list c (param c) (fuel c) 0 (stepped s₃)) _ (Params xs 0 l E₁ (rp ∷ ws) s₃.nodes) Q
      (params_ok xs (fuel c) 0 l E₁ ws (stepped s₃) k.1 (let z : length xs ≤ 64 = k.2 in omega arith) (let z = names-length xs (rp ∷ ws) in let y = sees-length (later h₃.pre) in omega arith) (later h₃.pre))
      (λ m s₄ h₄.
      let em : m ≡ length xs = h₄.num ∙ zero-add (length xs) in
      let names : List ℕ = reverse (map (λ (y : Node). y.pay) (take m s₄.nodes)) in
      let en : names ≡ h₄.toks = ap (λ (ns : List Node). reverse (map (λ (y : Node). y.pay) (take m ns))) h₄.nodes ∙ loads-prims h₄.toks s₃.nodes m (em ∙ sym (spelt-length h₄.toks xs h₄.spelt)) in
      let made₄ : Made c (renc_names xs) s.nodes s₄.nodes = subst (λ (ns : List Node). Made c (renc_names xs) ns s₄.nodes) (made-empty h₃.made) h₄.got.made in
      and_then (push c FnParams false m 0 s₄) _ (λ u. Got c l E₁ true (bare FnParams false (length xs) ∷ renc_names xs) (rp ∷ ws) s.nodes) Q
      (push_ok c FnParams false m 0 s₄ (λ u. Got c l E₁ true (bare FnParams false (length xs) ∷ renc_names xs) (rp ∷ ws) s.nodes) (record { pre = h₄.got.pre; made = made-push (ap (λ (z : ℕ). bare FnParams false z) em) made₄ }))
      (λ u s₅ h₅.
      rw (expect-eq RightParen s₅ h₅.pre refl refl)
      (and_then ((walkers c d).block true names (stepped s₅)) _ (λ u. Got c l (env_ss (suc l) (bound (suc l) xs E₁) ss) true (block_labs c (suc l) ss) rest s₅.nodes) Q
      (block-ok c ss all true names xs d l E₁ rest (stepped s₅) k.3 (ap (λ (is : List ℕ). map (λ (j : ℕ). word_at c j) is) en ∙ h₄.spelt) k.4 (later h₅.pre))
      (λ u s₆ h₆.
      and_then (push c FnDecl false 2 i s₆) _ (λ u. Got c l (env_ss (suc l) (bound (suc l) xs E₁) ss) true (said FnDecl false 2 x ∷ (block_labs c (suc l) ss ++ (bare FnParams false (length xs) ∷ renc_names xs))) rest s.nodes) Q
      (push_ok c FnDecl false 2 i s₆ (λ u. Got c l (env_ss (suc l) (bound (suc l) xs E₁) ss) true (said FnDecl false 2 x ∷ (block_labs c (suc l) ss ++ (bare FnParams false (length xs) ∷ renc_names xs))) rest s.nodes) (record { pre = h₆.pre; made = made-push (ap (λ (y : W). said FnDecl false 2 y) ew) (made_then h₅.made h₆.made) }))
      (λ u s₇ h₇. store-got c i x (Function m) (Function (length xs)) s₇ ew (ap (λ (z : ℕ). Function z) em) (λ j g e. absurd (let z : ◌≡◌ {A = ℕ} 0 1 = cc in let y : ⊥ = omega arith in y)) h₇)))))))))))

  -- ── if ──

  -- an error is listed, and the reading goes on
  add_ok : (why : Why) (s : St) (Q : Err → St → Type 0) → Q (err s.at why) (listed (err s.at why) s) → Res (add_error c why s) Q
  unfolding add_error add_error_w_pos Res go_on
  add_ok why s Q h =
      and_then (list c (err s.at why) s) _ (λ u s₁. s₁ ≡ listed (err s.at why) s) Q
      (list-ok c (err s.at why) s (λ u s₁. s₁ ≡ listed (err s.at why) s) refl)
      (λ u s₁ e. rw e h)

  -- a second `else` lists an error, and nothing else changes
  end_if-ok : (n elses : ℕ) (s : St) (l : ℕ) (E : List Sym) (L : List Lab) (rest : List W) (ns : List Node) → Got c l E true L rest ns s → Res (end_if c n elses s) (λ u. Got c l E true (bare IfStmt false (2 + n) ∷ L) rest ns)
  unfolding end_if Res scope_of text_of has_token member go_on if◌then◌otherwise◌
  end_if-ok n elses s l E L rest ns h =
      and_then (if◌then◌otherwise◌ {A = Void} (ltb 1 elses) (add_error c InvalidIfStmt >> ok) ok s) _ (λ u. Got c l E true L rest ns) (λ u. Got c l E true (bare IfStmt false (2 + n) ∷ L) rest ns)
      (go (ltb 1 elses))
      (λ u s₁ h₁. push_ok c IfStmt false (2 + n) 0 s₁ (λ u. Got c l E true (bare IfStmt false (2 + n) ∷ L) rest ns) (record { pre = h₁.pre; made = made-push refl h₁.made }))
    where
      go : (v : Bool) → Res (if◌then◌otherwise◌ {A = Void} v (add_error c InvalidIfStmt >> ok) ok s) (λ u. Got c l E true L rest ns)
      go true =
          and_then (add_error c InvalidIfStmt s) _ (λ e s₁. s₁ ≡ listed (err s.at InvalidIfStmt) s) (λ u. Got c l E true L rest ns)
          (add_ok InvalidIfStmt s (λ e s₁. s₁ ≡ listed (err s.at InvalidIfStmt) s) refl)
          (λ e s₁ q. rw q (record { pre = h.pre; made = h.made }))
      go false = h

  -- a condition and its block
  guarded : (e : Expr) (ss : Stmts) → AllSay c ss → (d l : ℕ) (E : List Sym) (rest : List W) (s : St) (f : M (Unit {0})) (Q : Unit {0} → St → Type 0) → Ok (seen l E) true e → OkSs (suc l) E ss
      → Ahead c l E true (pr e (lbrace ∷ pr_ss ss (rbrace ∷ rest))) s
      → ((s₁ : St) → Got c l (env_ss (suc l) E ss) true (block_labs c (suc l) ss ++ renc e) rest s.nodes s₁ → Res (f s₁) Q)
      → Res (go_on ((walkers c d).assign s) (λ u. (walkers c d).block false [] >> f)) Q
  unfolding go_on
  guarded e ss all d l E rest s f Q k ks p h =
      and_then ((walkers c d).assign s) _ (λ u. Got c l E true (renc e) (lbrace ∷ pr_ss ss (rbrace ∷ rest)) s.nodes) Q
      (read-expr c e d l E (lbrace ∷ pr_ss ss (rbrace ∷ rest)) s k (stop-lbrace (pr_ss ss (rbrace ∷ rest))) p)
      (λ u s₁ h₁.
      and_then ((walkers c d).block false [] s₁) _ (λ u. Got c l (env_ss (suc l) E ss) true (block_labs c (suc l) ss) rest s₁.nodes) Q
      (plain_ok c ss all d l E rest s₁ ks h₁.pre)
      (λ u s₂ h₂. h s₂ (record { pre = h₂.pre; made = made_then h₁.made h₂.made })))

  -- the blocks of each branch are read as they are
  AllBranches : Branches → Type 0
  AllBranches no_branch = Unit {0}
  AllBranches (elif_of e ss bs) = AllSay c ss × AllBranches bs
  AllBranches (else_of ss bs) = AllSay c ss × AllBranches bs

  -- the further branches and the end of an `if`, over what was read of it
  branches-ok : (bs : Branches) → AllBranches bs → (d f n elses l : ℕ) (E : List Sym) (L : List Lab) (rest : List W) (ns : List Node) (s : St) → OkBs l E bs → many_branches bs ≤ f → Follow rest → Got c l E true L (pr_bs bs rest) ns s
      → Res (branches c (walkers c d) f n elses s) (λ u. Got c l (env_bs l E bs) true (bare IfStmt false (2 + (n + many_branches bs)) ∷ (renc_bs l bs ++ L)) rest ns)
  unfolding AllBranches branches elif_stmt else_block pr_bs OkBs env_bs renc_bs many_branches Follow Res scope_of text_of has_token member go_on if◌then◌otherwise◌
  branches-ok no_branch all d zero n elses l E L rest ns s k len f h = rw (add-zero n) (end_if-ok n elses s l E L rest ns h)
  branches-ok no_branch all d (suc fu) n elses l E L rest ns s k len f h =
      no-else _ _ _ s _ (test (λ m. eqb m Elif) false h.pre f.0)
      (no-else _ _ _ s _ (test (λ m. eqb m Else) false h.pre f.1) (rw (add-zero n) (end_if-ok n elses s l E L rest ns h)))
  branches-ok (elif_of e ss bs) all d zero n elses l E L rest ns s k len f h = absurd (not-suc-le-zero len)
  branches-ok (elif_of e ss bs) all d (suc fu) n elses l E L rest ns s k len f h =
      let X : List Lab = bare ElifStmt false 2 ∷ (block_labs c (suc l) ss ++ renc e) in
      let E₁ : List Sym = env_ss (suc l) E ss in
      let N : ℕ = 2 + (n + many_branches (elif_of e ss bs)) in
      let Q : Unit {0} → St → Type 0 = λ u. Got c l (env_bs l E₁ bs) true (bare IfStmt false N ∷ ((renc_bs l bs ++ X) ++ L)) rest ns in
      yes-then _ _ _ s Q (test (λ m. eqb m Elif) true h.pre refl)
      (and_then (elif_stmt c (walkers c d) s) _ (λ u. Got c l E₁ true X (pr_bs bs rest) s.nodes) Q
      (rw (consume-eq s h.pre refl)
      (guarded e ss all.0 d l E (pr_bs bs rest) (stepped s) (push c ElifStmt false 2 0) (λ u. Got c l E₁ true X (pr_bs bs rest) s.nodes) k.0 k.1 (later h.pre)
      (λ s₁ h₁. push_ok c ElifStmt false 2 0 s₁ (λ u. Got c l E₁ true X (pr_bs bs rest) s.nodes) (record { pre = h₁.pre; made = made-push refl h₁.made }))))
      (λ u s₂ h₂.
      res-map (branches c (walkers c d) fu (suc n) elses s₂) (λ u. Got c l (env_bs l E₁ bs) true (bare IfStmt false (2 + (suc n + many_branches bs)) ∷ (renc_bs l bs ++ (X ++ L))) rest ns) Q
      (branches-ok bs all.1 d fu (suc n) elses l E₁ (X ++ L) rest ns s₂ k.2 (omega arith) f (record { pre = h₂.pre; made = made_then h.made h₂.made }))
      (λ u s₃ q. record { pre = q.pre; made = subst₂ (λ (m : ℕ) (ls : List Lab). Made c (bare IfStmt false m ∷ ls) ns s₃.nodes) (omega arith) (sym (append_assoc (renc_bs l bs) X L)) q.made })))
  branches-ok (else_of ss bs) all d zero n elses l E L rest ns s k len f h = absurd (not-suc-le-zero len)
  branches-ok (else_of ss bs) all d (suc fu) n elses l E L rest ns s k len f h =
      let X : List Lab = block_labs c (suc l) ss in
      let E₁ : List Sym = env_ss (suc l) E ss in
      let N : ℕ = 2 + (n + many_branches (else_of ss bs)) in
      let Q : Unit {0} → St → Type 0 = λ u. Got c l (env_bs l E₁ bs) true (bare IfStmt false N ∷ ((renc_bs l bs ++ X) ++ L)) rest ns in
      no-else _ _ _ s Q (test (λ m. eqb m Elif) false h.pre refl)
      (yes-then _ _ _ s Q (test (λ m. eqb m Else) true h.pre refl)
      (and_then (else_block c (walkers c d) s) _ (λ u. Got c l E₁ true X (pr_bs bs rest) s.nodes) Q
      (rw (consume-eq s h.pre refl) (plain_ok c ss all.0 d l E (pr_bs bs rest) (stepped s) k.0 (later h.pre)))
      (λ u s₂ h₂.
      res-map (branches c (walkers c d) fu (suc n) (suc elses) s₂) (λ u. Got c l (env_bs l E₁ bs) true (bare IfStmt false (2 + (suc n + many_branches bs)) ∷ (renc_bs l bs ++ (X ++ L))) rest ns) Q
      (branches-ok bs all.1 d fu (suc n) (suc elses) l E₁ (X ++ L) rest ns s₂ k.1 (omega arith) f (record { pre = h₂.pre; made = made_then h.made h₂.made }))
      (λ u s₃ q. record { pre = q.pre; made = subst₂ (λ (m : ℕ) (ls : List Lab). Made c (bare IfStmt false m ∷ ls) ns s₃.nodes) (omega arith) (sym (append_assoc (renc_bs l bs) X L)) q.made }))))

  -- an `if` is read as it is
  cond-says : (e : Expr) (ss : Stmts) (bs : Branches) → AllSay c ss → AllBranches bs → Says c (cond e ss bs)
  unfolding Says OkS pr_s env_s renc_s stmt if_stmt if◌then◌otherwise◌ go_on
  cond-says e ss bs all allb d l E rest s k f p =
      let E₁ : List Sym = env_ss (suc l) E ss in
      let Q : Unit {0} → St → Type 0 = λ u. Got c l (env_bs l E₁ bs) true (bare IfStmt false (2 + many_branches bs) ∷ (renc_bs l bs ++ (block_labs c (suc l) ss ++ renc e))) rest s.nodes in
      to-stmt c (walkers c d) l E (if_word ∷ pr e (lbrace ∷ pr_ss ss (rbrace ∷ pr_bs bs rest))) s Q p refl refl
      (yes-then _ _ _ s Q (test (λ n. eqb n If) true p refl)
      (rw (expect-eq If s p refl refl)
      (guarded e ss all d l E (pr_bs bs rest) (stepped s) (branches c (walkers c d) (fuel c) 0 0) Q k.0 k.1 (later p)
      (λ s₁ h.
      res-map (branches c (walkers c d) (fuel c) 0 0 s₁) (λ u. Got c l (env_bs l E₁ bs) true (bare IfStmt false (2 + (0 + many_branches bs)) ∷ (renc_bs l bs ++ (block_labs c (suc l) ss ++ renc e))) rest s.nodes) Q
      (branches-ok bs allb d (fuel c) 0 0 l E₁ (block_labs c (suc l) ss ++ renc e) rest s.nodes s₁ k.2 (let z = pr_bs-length bs rest in let y = sees-length h.pre in omega arith) f h)
      (λ u s₂ q. record { pre = q.pre; made = subst (λ (m : ℕ). Made c (bare IfStmt false (2 + m) ∷ (renc_bs l bs ++ (block_labs c (suc l) ss ++ renc e))) s.nodes s₂.nodes) (zero-add (many_branches bs)) q.made })))))

  -- ── for ──

  -- the two names of a `for`
  record Pair (x y : W) (l : ℕ) (E : List Sym) (rest : List W) (ns : List Node) (is : List ℕ) (s : St) : Type 0 where
    spelt : map (λ (i : ℕ). word_at c i) is ≡ x ∷ y ∷ []
    got : Got c l E true (bare IdentPair false 2 ∷ prim_lab y ∷ prim_lab x ∷ []) rest ns s

  -- two names are read as they are
  pair_ok : (x y : W) (l : ℕ) (E : List Sym) (rest : List W) (s : St) → x.kind ≡ Ident → y.kind ≡ Ident → Ahead c l E true (x ∷ comma ∷ y ∷ rest) s → Res (ident_pair c s) (Pair x y l E rest s.nodes)
  unfolding ident_pair Res scope_of text_of has_token member if◌then◌otherwise◌ go_on
  pair_ok x y l E rest s xk yk p =
      let Q : List ℕ → St → Type 0 = Pair x y l E rest s.nodes in
      let s₁ : St = stepped (pushed PrimaryExpr false 0 s.at s) in
      let s₂ : St = stepped s₁ in
      let s₃ : St = stepped (pushed PrimaryExpr false 0 s₂.at s₂) in
      and_then (ident_node c s) _ (λ i s'. (i ≡ s.at) × (s' ≡ s₁)) Q
      (ident_node-eq c x l E true (comma ∷ y ∷ rest) s (λ i s'. (i ≡ s.at) × (s' ≡ s₁)) xk p (refl, refl))
      (λ i s' q.
      rw (q.0, q.1, expect-eq Comma s₁ (later p) refl refl)
      (and_then (ident_node c s₂) _ (λ j s''. (j ≡ s₂.at) × (s'' ≡ s₃)) Q
      (ident_node-eq c y l E true rest s₂ (λ j s''. (j ≡ s₂.at) × (s'' ≡ s₃)) yk (later (later p)) (refl, refl))
      (λ j s'' q₂.
      rw (q₂.0, q₂.1)
      (and_then (push c IdentPair false 2 0 s₃) _ (λ u. Got c l E true (bare IdentPair false 2 ∷ prim_lab y ∷ prim_lab x ∷ []) rest s.nodes) Q
      (push_ok c IdentPair false 2 0 s₃ (λ u. Got c l E true (bare IdentPair false 2 ∷ prim_lab y ∷ prim_lab x ∷ []) rest s.nodes)
      (record { pre = later (later (later p)); made = made-push refl (made-push (ap (λ (z : W). prim_lab z) (now (later (later p)))) (made-single s p)) }))
      (λ u s₄ h. record { spelt = ap₂ (λ (a : W) (b : W). a ∷ b ∷ []) (now p) (now (later (later p))); got = h })))))

  -- a `for` is read as it is
  loop-says : (x y : W) (e : Expr) (ss : Stmts) → AllSay c ss → Says c (loop x y e ss)
  unfolding Says OkS pr_s env_s renc_s stmt for_stmt scope_of text_of has_token member if◌then◌otherwise◌ go_on
  loop-says x y e ss all d l E rest s k f p =
      let E₁ : List Sym = env_ss (suc l) (bound (suc l) (x ∷ y ∷ []) E) ss in
      let P : List Lab = bare IdentPair false 2 ∷ prim_lab y ∷ prim_lab x ∷ [] in
      let ws : List W = lbrace ∷ pr_ss ss (rbrace ∷ rest) in
      let Q : Unit {0} → St → Type 0 = λ u. Got c l E₁ true (bare ForStmt false 3 ∷ (block_labs c (suc l) ss ++ (renc e ++ P))) rest s.nodes in
      to-stmt c (walkers c d) l E (for_word ∷ x ∷ comma ∷ y ∷ in_word ∷ pr e ws) s Q p refl refl
      (no-else _ _ _ s Q (test (λ n. eqb n If) false p refl)
      (yes-then _ _ _ s Q (test (λ n. eqb n For) true p refl)
      (rw (expect-eq For s p refl refl)
      (and_then (ident_pair c (stepped s)) _ (Pair x y l E (in_word ∷ pr e ws) s.nodes) Q
      (pair_ok x y l E (in_word ∷ pr e ws) (stepped s) k.0 k.1 (later p))
      (λ is s₁ h₁.
      rw (expect-eq InKind s₁ h₁.got.pre refl refl)
      (and_then ((walkers c d).assign (stepped s₁)) _ (λ u. Got c l E true (renc e) ws s₁.nodes) Q
      (read-expr c e d l E ws (stepped s₁) k.2 (stop-lbrace (pr_ss ss (rbrace ∷ rest))) (later h₁.got.pre))
      (λ u s₂ h₂.
      and_then ((walkers c d).block false is s₂) _ (λ u. Got c l E₁ true (block_labs c (suc l) ss) rest s₂.nodes) Q
      (block-ok c ss all false is (x ∷ y ∷ []) d l E rest s₂ tt h₁.spelt k.3 h₂.pre)
      (λ u s₃ h₃. push_ok c ForStmt false 3 0 s₃ Q (record { pre = h₃.pre; made = made-push refl (made_then (made_then h₁.got.made h₂.made) h₃.made) })))))))))

  -- ── every declaration ──

  mutual
    unfolding AllSay AllBranches

    -- every declaration is read as it is
    says : (t : Stmt) → Says c t
    says (var_none x) = var_none-says x
    says (var_expr x e) = var_expr-says x e
    says (var_array x es) = var_array-says x es
    says (var_table x is) = var_table-says x is
    says (func x ns ss) = func-says x ns ss (all_say ss)
    says (block ss) = block-says c ss (all_say ss)
    says (cond e ss bs) = cond-says e ss bs (all_say ss) (all-branches bs)
    says (loop x y e ss) = loop-says x y e ss (all_say ss)
    says ret = ret-says c
    says (ret_expr e) = ret_expr-says c e
    says (expr_stmt e) = expr-says c e

    -- every list of declarations is read as it is
    all_say : (ts : Stmts) → AllSay c ts
    all_say stop = tt
    all_say (next t ts) = (says t, all_say ts)

    -- every list of branches is read as it is
    all-branches : (bs : Branches) → AllBranches bs
    all-branches no_branch = tt
    all-branches (elif_of e ss bs) = (all_say ss, all-branches bs)
    all-branches (else_of ss bs) = (all_say ss, all-branches bs)

  -- COMPLETE, declarations: the words of a declaration, and then what no `if` goes on with, are read as that declaration
  pub declaration-read : (t : Stmt) (d l : ℕ) (E : List Sym) (rest : List W) (s : St) → OkS l E t → Follow rest → Ahead c l E true (pr_s t rest) s → Res (decl c (walkers c d) s) (λ u. Got c l (env_s l E t) true (renc_s l t) rest s.nodes)
  unfolding Says
  declaration-read t d l E rest s k f p = says t d l E rest s k f p
