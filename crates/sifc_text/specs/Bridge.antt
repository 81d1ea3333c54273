-- A reading with the flag down leaves a typed program in the arrays, where the writer looks for it.
use Prim.Native.Nat.{ℕ, suc, ◌+◌, ◌-◌}
use Rattle.std.specs.Prelude.{◌≡◌, T, ltb}
use Rattle.std.proofs.Math.Path.{refl, sym, ap}
use Rattle.std.proofs.Common.{◌∙◌}
use mathlib.Core.List.{List, [], ◌∷◌, ◌++◌, reverse, append-nil}
use Rattle.std.proofs.Math.Bool.{false}
use Rattle.std.proofs.Math.ListN.{length, length-reverse}
use Rattle.std.proofs.lemmas.List.{length-map}
use Rattle.sifc_word.specs.Base.{member}
use Rattle.sifc_lex.specs.Lex.{lex}
use Rattle.sifc_word.specs.Reserved.{is_std_lib_fn}
use Rattle.sifc_def.specs.State.{Node, W, name_of}
use Rattle.sifc_def.specs.Ast.{Program, IfStmt, ElifStmt, ForStmt, ReturnStmt, ExprStmt, VarDecl, FnDecl, FnParams, IdentPair, ItemList, TableItem, Table, TableAccess, Array, ArrayItems, ArrayAccess, ArrayMutExpr, FnCallExpr, VarAssignExpr, BinaryExpr, UnaryExpr}
use Rattle.sifc_def.specs.Label.{Lab, has_token, label, labels}
use Rattle.sifc_def.specs.Typed.{Expr, prim, un, bin, call, dot, idx, set, mut, Exprs, nil, more, many, Items, no_item, item, many_items, Stmt, var_none, var_expr, var_array, var_table, func, block, cond, loop, ret, ret_expr, expr_stmt, Stmts, stop, next, counted, Branches, no_branch, elif_of, else_of, many_branches, bare, said, prim_lab, global_at, block_lab, renc, rencs, renc_names, renc_items, renc_array, renc_s, renc_ss, renc_bs, renc_program, Said, Saids, SaidNames, SaidItems, SaidS, SaidSs, SaidBs}
use Rattle.sifc_def.proofs.Canon.Bytes.{Fine}
use Rattle.sifc_put.specs.Place.{Inp, Nothing, Then, Along, Over, Told}
use Rattle.sifc_put.specs.Spans.{Single, Spans, SpansAll, SpansItem, SpansItems, SpansArray, SpansTable, SpansNames, SpansPair, SpansS, SpansSs, SpansBs, SpansBlock, SpansProgram}
use Rattle.sifc_text.specs.Stands.{left, Down, pop, passed, grouped, node_of, carries-of}

module _ (s : List ℕ) (ns : List Node) where
  -- the arrays
  abbrev I : Inp
  I = left s ns

  -- A node over what stands below it.
  over : (x : Lab) (xs : List Lab) (h : ℕ) (S : ℕ → ℕ → Type 0) (lo : ℕ) → T (ltb x.kind 32) → Down s ns (x ∷ xs) h → (Down s ns xs (h - 1) → S lo (h - 1)) → Over (left s ns) x.kind x.kids S lo h
  over x xs h S lo k d f = record { top = node_of x xs k d; below = f (pop d) }

  -- A node with a word, over what stands below it.
  told : (x : Lab) (xs : List Lab) (w : W) (h : ℕ) (S : ℕ → ℕ → Type 0) (lo : ℕ) → T (ltb x.kind 32) → T (has_token x.kind) → x.text ≡ w.text → Fine w → Down s ns (x ∷ xs) h → (Down s ns xs (h - 1) → S lo (h - 1)) → Told (left s ns) x.kind x.kids w S lo h
  told x xs w h S lo k t e g d f = record { top = node_of x xs k d; token = carries-of x xs w t e g d; below = f (pop d) }

  -- Nothing stands from the labels to their end.
  none : (xs : List Lab) (h : ℕ) → Down s ns xs h → Nothing (length xs) h
  none xs h d = sym d.long

  -- A single token.
  one : (x : W) (xs : List Lab) (h : ℕ) → Fine x → Down s ns (prim_lab x ∷ xs) h → Single (left s ns) x (length xs) h
  unfolding has_token member
  one x xs h g d = told (prim_lab x) xs x h Nothing (length xs) tt tt refl g d (none xs (h - 1))

  -- One thing after another.
  then : (xs ys zs : List Lab) (h : ℕ) (A B : ℕ → ℕ → Type 0) → ((k : ℕ) → Down s ns (ys ++ zs) k → A (length zs) k) → (Down s ns (xs ++ (ys ++ zs)) h → B (length (ys ++ zs)) h) → Down s ns ((xs ++ ys) ++ zs) h → Then A B (length zs) h
  then xs ys zs h A B f g d = let e = grouped xs ys zs d in record { mid = length (ys ++ zs); front = f (length (ys ++ zs)) (passed xs (ys ++ zs) e); last = g e }

  -- The two names of a loop.
  span-P : (x y : W) (xs : List Lab) (h : ℕ) → Fine x → Fine y → Down s ns (bare IdentPair false 2 ∷ prim_lab y ∷ prim_lab x ∷ xs) h → SpansPair (left s ns) x y (length xs) h
  span-P x y xs h f g d =
      over (bare IdentPair false 2) (prim_lab y ∷ prim_lab x ∷ xs) h (λ a b. Then (λ c d. Single I x c d) (λ c d. Single I y c d) a b) (length xs) tt d
      (then (prim_lab y ∷ []) (prim_lab x ∷ []) xs (h - 1) (λ c d. Single I x c d) (λ c d. Single I y c d) (λ k z. one x xs k f z) (one y (prim_lab x ∷ xs) (h - 1) g))

  -- A target and an expression below one node.
  pair : (x : W) (e : Expr) (t : Lab) (xs : List Lab) (h : ℕ) → T (ltb t.kind 32) → Fine x → (Down s ns (renc e ++ (prim_lab x ∷ xs)) (h - 1) → Spans (left s ns) e (suc (length xs)) (h - 1))
      → Down s ns (t ∷ ((renc e ++ (prim_lab x ∷ [])) ++ xs)) h → Over (left s ns) t.kind t.kids (λ a b. Then (λ c d. Single (left s ns) x c d) (λ c d. Spans (left s ns) e c d) a b) (length xs) h
  pair x e t xs h k g f d =
      over t ((renc e ++ (prim_lab x ∷ [])) ++ xs) h (λ a b. Then (λ c d. Single I x c d) (λ c d. Spans I e c d) a b) (length xs) k d
      (then (renc e) (prim_lab x ∷ []) xs (h - 1) (λ c d. Single I x c d) (λ c d. Spans I e c d) (λ j z. one x xs j g z) f)

  -- an expression, and expressions one after another
  mutual
    unfolding renc rencs Said Saids Spans SpansAll has_token member

    span-E : (e : Expr) (xs : List Lab) (h : ℕ) → Said Fine e → Down s ns (renc e ++ xs) h → Spans (left s ns) e (length xs) h
    span-E (prim x) xs h g d = one x xs h g d
    span-E (un o e) xs h g d = told (said UnaryExpr false 1 o) (renc e ++ xs) o h (λ a b. Spans I e a b) (length xs) tt tt refl g.0 d (λ z. span-E e xs (h - 1) g.1 z)
    span-E (bin o l r) xs h g d =
        told (said BinaryExpr false 2 o) ((renc r ++ renc l) ++ xs) o h (λ a b. Then (λ c d. Spans I l c d) (λ c d. Spans I r c d) a b) (length xs) tt tt refl g.0 d
        (then (renc r) (renc l) xs (h - 1) (λ c d. Spans I l c d) (λ c d. Spans I r c d) (λ k z. span-E l xs k g.1 z) (λ z. span-E r (renc l ++ xs) (h - 1) g.2 z))
    span-E (call x es) xs h g d =
        over (bare FnCallExpr (is_std_lib_fn (name_of x)) (suc (many es))) ((rencs es ++ (prim_lab x ∷ [])) ++ xs) h (λ a b. Then (λ c d. Single I x c d) (λ c d. SpansAll I es c d) a b) (length xs) tt d
        (then (rencs es) (prim_lab x ∷ []) xs (h - 1) (λ c d. Single I x c d) (λ c d. SpansAll I es c d) (λ k z. one x xs k g.0 z) (λ z. span-Es es (prim_lab x ∷ xs) (h - 1) g.1 z))
    span-E (dot x e) xs h g d = pair x e (bare TableAccess false 2) xs h tt g.0 (λ z. span-E e (prim_lab x ∷ xs) (h - 1) g.1 z) d
    span-E (idx x e) xs h g d = pair x e (bare ArrayAccess false 2) xs h tt g.0 (λ z. span-E e (prim_lab x ∷ xs) (h - 1) g.1 z) d
    span-E (set x b e) xs h g d = pair x e (said VarAssignExpr b 2 x) xs h tt g.0 (λ z. span-E e (prim_lab x ∷ xs) (h - 1) g.1 z) d
    span-E (mut x i e) xs h g d =
        over (bare ArrayMutExpr false 3) ((renc e ++ (renc i ++ (prim_lab x ∷ []))) ++ xs) h (λ a b. Then (λ c d. Then (λ f g. Single I x f g) (λ f g. Spans I i f g) c d) (λ c d. Spans I e c d) a b) (length xs) tt d
        (then (renc e) (renc i ++ (prim_lab x ∷ [])) xs (h - 1) (λ c d. Then (λ f g. Single I x f g) (λ f g. Spans I i f g) c d) (λ c d. Spans I e c d)
        (λ k z. then (renc i) (prim_lab x ∷ []) xs k (λ f g. Single I x f g) (λ f g. Spans I i f g) (λ j y. one x xs j g.0 y) (λ z. span-E i (prim_lab x ∷ xs) k g.1 z) z)
        (λ z. span-E e ((renc i ++ (prim_lab x ∷ [])) ++ xs) (h - 1) g.2 z))

    span-Es : (es : Exprs) (xs : List Lab) (h : ℕ) → Saids Fine es → Down s ns (rencs es ++ xs) h → SpansAll (left s ns) es (length xs) h
    span-Es nil xs h g d = none xs h d
    span-Es (more e es) xs h g d = then (rencs es) (renc e) xs h (λ a b. Spans I e a b) (λ a b. SpansAll I es a b) (λ k z. span-E e xs k g.0 z) (λ z. span-Es es (renc e ++ xs) h g.1 z) d

  -- Names, each a node.
  span-N : (ws : List W) (xs : List Lab) (h : ℕ) → SaidNames Fine ws → Down s ns (renc_names ws ++ xs) h → Along (Single (left s ns)) ws (length xs) h
  unfolding renc_names SaidNames Along
  span-N [] xs h g d = none xs h d
  span-N (x ∷ ws) xs h g d = then (renc_names ws) (prim_lab x ∷ []) xs h (λ a b. Single I x a b) (λ a b. Along (Single I) ws a b) (λ k z. one x xs k g.0 z) (span-N ws (prim_lab x ∷ xs) h g.1) d

  -- The items of a table.
  span-I : (is : Items) (xs : List Lab) (h : ℕ) → SaidItems Fine is → Down s ns (renc_items is ++ xs) h → SpansItems (left s ns) is (length xs) h
  unfolding renc_items SaidItems SpansItems has_token member
  span-I no_item xs h g d = none xs h d
  span-I (item x e is) xs h g d =
      then (renc_items is) (said TableItem false 1 x ∷ renc e) xs h (λ a b. SpansItem I x e a b) (λ a b. SpansItems I is a b)
      (λ k z. told (said TableItem false 1 x) (renc e ++ xs) x k (λ a b. Spans I e a b) (length xs) tt tt refl g.0 z (λ z. span-E e xs (k - 1) g.1 z))
      (span-I is ((said TableItem false 1 x ∷ renc e) ++ xs) h g.2) d

  -- A table.
  span-T : (x : W) (is : Items) (xs : List Lab) (h : ℕ) → SaidItems Fine is → Down s ns ((said Table false 1 x ∷ bare ItemList false (many_items is) ∷ renc_items is) ++ xs) h → SpansTable (left s ns) is (length xs) h
  span-T x is xs h g d =
      over (said Table false 1 x) ((bare ItemList false (many_items is) ∷ renc_items is) ++ xs) h (λ a b. Over I ItemList (many_items is) (λ c d. SpansItems I is c d) a b) (length xs) tt d
      (λ z. over (bare ItemList false (many_items is)) (renc_items is ++ xs) (h - 1) (λ c d. SpansItems I is c d) (length xs) tt z (span-I is xs (h - 1 - 1) g))

  -- An array.
  span-A : (x : W) (es : Exprs) (xs : List Lab) (h : ℕ) → Saids Fine es → Down s ns (renc_array x es ++ xs) h → SpansArray (left s ns) es (length xs) h
  unfolding renc_array SpansArray
  span-A x nil xs h g d = over (said Array false 0 x) xs h Nothing (length xs) tt d (none xs (h - 1))
  span-A x (more e es) xs h g d =
      over (said Array false 1 x) ((bare ArrayItems false (suc (many es)) ∷ rencs (more e es)) ++ xs) h (λ a b. Over I ArrayItems (suc (many es)) (λ c d. SpansAll I (more e es) c d) a b) (length xs) tt d
      (λ z. over (bare ArrayItems false (suc (many es))) (rencs (more e es) ++ xs) (h - 1) (λ c d. SpansAll I (more e es) c d) (length xs) tt z (λ z. span-Es (more e es) xs (h - 1 - 1) g z))

  -- the labels of a block at level l
  abbrev block_of : ℕ → Stmts → List Lab
  block_of l ss = block_lab (counted ss) l ∷ renc_ss l ss

  -- A block.
  blocked : (l : ℕ) (ss : Stmts) (xs : List Lab) (h : ℕ) → (Down s ns (renc_ss l ss ++ xs) (h - 1) → SpansSs (left s ns) ss (length xs) (h - 1)) → Down s ns ((block_lab (counted ss) l ∷ renc_ss l ss) ++ xs) h → SpansBlock (left s ns) ss (length xs) h
  blocked l ss xs h f d = over (block_lab (counted ss) l) (renc_ss l ss ++ xs) h (λ a b. SpansSs I ss a b) (length xs) tt d f

  -- An expression, and then a block.
  guarded : (l : ℕ) (e : Expr) (ss : Stmts) (xs : List Lab) (h : ℕ) → Said Fine e → (Down s ns (renc_ss l ss ++ (renc e ++ xs)) (h - 1) → SpansSs (left s ns) ss (length (renc e ++ xs)) (h - 1))
      → Down s ns (((block_lab (counted ss) l ∷ renc_ss l ss) ++ renc e) ++ xs) h → Then (λ f g. Spans (left s ns) e f g) (λ f g. SpansBlock (left s ns) ss f g) (length xs) h
  guarded l e ss xs h g f d = then (block_of l ss) (renc e) xs h (λ f g. Spans I e f g) (λ f g. SpansBlock I ss f g) (λ j z. span-E e xs j g z) (blocked l ss (renc e ++ xs) h f) d

  -- a statement at level l, statements one after another, and the further branches of an `if`
  mutual
    unfolding renc_s renc_ss renc_bs SaidS SaidSs SaidBs SpansS SpansSs SpansBs has_token member

    span-S : (l : ℕ) (t : Stmt) (xs : List Lab) (h : ℕ) → SaidS Fine t → Down s ns (renc_s l t ++ xs) h → SpansS (left s ns) t (length xs) h
    span-S l (var_none x) xs h g d = told (said VarDecl (global_at l) 0 x) xs x h Nothing (length xs) tt tt refl g d (none xs (h - 1))
    span-S l (var_expr x e) xs h g d = told (said VarDecl (global_at l) 1 x) (renc e ++ xs) x h (λ a b. Spans I e a b) (length xs) tt tt refl g.0 d (λ z. span-E e xs (h - 1) g.1 z)
    span-S l (var_array x es) xs h g d = told (said VarDecl (global_at l) 1 x) (renc_array x es ++ xs) x h (λ a b. SpansArray I es a b) (length xs) tt tt refl g.0 d (span-A x es xs (h - 1) g.1)
    span-S l (var_table x is) xs h g d =
        told (said VarDecl (global_at l) 1 x) ((said Table false 1 x ∷ bare ItemList false (many_items is) ∷ renc_items is) ++ xs) x h (λ a b. SpansTable I is a b) (length xs) tt tt refl g.0 d
        (span-T x is xs (h - 1) g.1)
    span-S l (func x ws ss) xs h g d =
        told (said FnDecl false 2 x) ((block_of (suc l) ss ++ (bare FnParams false (length ws) ∷ renc_names ws)) ++ xs) x h
        (λ a b. Then (λ c d. SpansNames I ws c d) (λ c d. SpansBlock I ss c d) a b) (length xs) tt tt refl g.0 d
        (then (block_of (suc l) ss) (bare FnParams false (length ws) ∷ renc_names ws) xs (h - 1) (λ c d. SpansNames I ws c d) (λ c d. SpansBlock I ss c d)
        (λ k z. over (bare FnParams false (length ws)) (renc_names ws ++ xs) k (λ a b. Along (Single I) ws a b) (length xs) tt z (span-N ws xs (k - 1) g.1))
        (blocked (suc l) ss ((bare FnParams false (length ws) ∷ renc_names ws) ++ xs) (h - 1) (λ z. span-Ss (suc l) ss ((bare FnParams false (length ws) ∷ renc_names ws) ++ xs) (h - 1 - 1) g.2 z)))
    span-S l (block ss) xs h g d = blocked (suc l) ss xs h (λ z. span-Ss (suc l) ss xs (h - 1) g z) d
    span-S l (cond e ss bs) xs h g d =
        over (bare IfStmt false (2 + many_branches bs)) ((renc_bs l bs ++ (block_of (suc l) ss ++ renc e)) ++ xs) h
        (λ a b. Then (λ c d. Then (λ f g. Spans I e f g) (λ f g. SpansBlock I ss f g) c d) (λ c d. SpansBs I bs c d) a b) (length xs) tt d
        (then (renc_bs l bs) (block_of (suc l) ss ++ renc e) xs (h - 1) (λ c d. Then (λ f g. Spans I e f g) (λ f g. SpansBlock I ss f g) c d) (λ c d. SpansBs I bs c d)
        (λ k z. guarded (suc l) e ss xs k g.0 (λ z. span-Ss (suc l) ss (renc e ++ xs) (k - 1) g.1 z) z)
        (λ z. span-Bs l bs ((block_of (suc l) ss ++ renc e) ++ xs) (h - 1) g.2 z))
    span-S l (loop x y e ss) xs h g d =
        over (bare ForStmt false 3) ((block_of (suc l) ss ++ (renc e ++ (bare IdentPair false 2 ∷ prim_lab y ∷ prim_lab x ∷ []))) ++ xs) h
        (λ a b. Then (λ c d. Then (λ f g. SpansPair I x y f g) (λ f g. Spans I e f g) c d) (λ c d. SpansBlock I ss c d) a b) (length xs) tt d
        (then (block_of (suc l) ss) (renc e ++ (bare IdentPair false 2 ∷ prim_lab y ∷ prim_lab x ∷ [])) xs (h - 1)
        (λ c d. Then (λ f g. SpansPair I x y f g) (λ f g. Spans I e f g) c d) (λ c d. SpansBlock I ss c d)
        (λ k z.
        then (renc e) (bare IdentPair false 2 ∷ prim_lab y ∷ prim_lab x ∷ []) xs k (λ f g. SpansPair I x y f g) (λ f g. Spans I e f g)
        (λ j v. span-P x y xs j g.0 g.1 v)
        (λ z. span-E e (bare IdentPair false 2 ∷ prim_lab y ∷ prim_lab x ∷ xs) k g.2 z) z)
        (blocked (suc l) ss ((renc e ++ (bare IdentPair false 2 ∷ prim_lab y ∷ prim_lab x ∷ [])) ++ xs) (h - 1) (λ z. span-Ss (suc l) ss ((renc e ++ (bare IdentPair false 2 ∷ prim_lab y ∷ prim_lab x ∷ [])) ++ xs) (h - 1 - 1) g.3 z)))
    span-S l ret xs h g d = over (bare ReturnStmt false 0) xs h Nothing (length xs) tt d (none xs (h - 1))
    span-S l (ret_expr e) xs h g d = over (bare ReturnStmt false 1) (renc e ++ xs) h (λ a b. Spans I e a b) (length xs) tt d (λ z. span-E e xs (h - 1) g z)
    span-S l (expr_stmt e) xs h g d = over (bare ExprStmt false 1) (renc e ++ xs) h (λ a b. Spans I e a b) (length xs) tt d (λ z. span-E e xs (h - 1) g z)

    span-Ss : (l : ℕ) (ts : Stmts) (xs : List Lab) (h : ℕ) → SaidSs Fine ts → Down s ns (renc_ss l ts ++ xs) h → SpansSs (left s ns) ts (length xs) h
    span-Ss l stop xs h g d = none xs h d
    span-Ss l (next t ts) xs h g d = then (renc_ss l ts) (renc_s l t) xs h (λ a b. SpansS I t a b) (λ a b. SpansSs I ts a b) (λ k z. span-S l t xs k g.0 z) (λ z. span-Ss l ts (renc_s l t ++ xs) h g.1 z) d

    span-Bs : (l : ℕ) (bs : Branches) (xs : List Lab) (h : ℕ) → SaidBs Fine bs → Down s ns (renc_bs l bs ++ xs) h → SpansBs (left s ns) bs (length xs) h
    span-Bs l no_branch xs h g d = none xs h d
    span-Bs l (elif_of e ss bs) xs h g d =
        then (renc_bs l bs) (bare ElifStmt false 2 ∷ (block_of (suc l) ss ++ renc e)) xs h
        (λ a b. Over I ElifStmt 2 (λ c d. Then (λ f g. Spans I e f g) (λ f g. SpansBlock I ss f g) c d) a b) (λ a b. SpansBs I bs a b)
        (λ k z.
        over (bare ElifStmt false 2) ((block_of (suc l) ss ++ renc e) ++ xs) k (λ c d. Then (λ f g. Spans I e f g) (λ f g. SpansBlock I ss f g) c d) (length xs) tt z
        (guarded (suc l) e ss xs (k - 1) g.0 (λ z. span-Ss (suc l) ss (renc e ++ xs) (k - 1 - 1) g.1 z)))
        (λ z. span-Bs l bs ((bare ElifStmt false 2 ∷ (block_of (suc l) ss ++ renc e)) ++ xs) h g.2 z) d
    span-Bs l (else_of ss bs) xs h g d =
        then (renc_bs l bs) (block_of (suc l) ss) xs h (λ a b. SpansBlock I ss a b) (λ a b. SpansBs I bs a b) (λ k z. blocked (suc l) ss xs k (λ z. span-Ss (suc l) ss xs (k - 1) g.0 z) z)
        (λ z. span-Bs l bs (block_of (suc l) ss ++ xs) h g.1 z) d

  -- What a reading with the flag down finds stands in the arrays, as the program that its labels are.
  pub bridge : (ts : Stmts) → SaidSs Fine ts → labels s (lex s) ns ≡ reverse (renc_program ts) → SpansProgram (left s ns) ts 0 (length ns)
  unfolding renc_program
  bridge ts g e =
      let x : Lab = bare Program false (counted ts) in
      let d : Down s ns (bare Program false (counted ts) ∷ (renc_ss 0 ts ++ [])) (length ns) =
      record {
        long = sym (length-map ns (label s (lex s))) ∙ ap length e ∙ length-reverse (renc_program ts) ∙ ap suc (ap length (sym (append-nil (renc_ss 0 ts))));
        rest = [];
        is = e ∙ ap reverse (ap (λ (l : List Lab). x ∷ l) (sym (append-nil (renc_ss 0 ts)))) ∙ sym (append-nil (reverse (x ∷ (renc_ss 0 ts ++ []))));
      } in
      over x (renc_ss 0 ts ++ []) (length ns) (λ a b. SpansSs I ts a b) 0 tt d (λ z. span-Ss 0 ts [] (length ns - 1) g z)
