-- The tree of labels that a typed tree is: the labels of a typed program, oldest first, are read back (`dec`) to it.
use Rattle.std.specs.Prelude.{ℕ, suc, ◌+◌, ◌≡◌, Bool, false, drop, length}
use Rattle.std.proofs.Math.Path.{refl}
use Rattle.std.proofs.Common.{ap, ◌∙◌, zero-add, suc-add, add-suc, add-zero}
use mathlib.Core.List.{List, [], ◌∷◌, ◌++◌, reverse, reverse_aux, reverse_aux-append}
use Rattle.sifc_word.specs.Reserved.{is_std_lib_fn}
use Rattle.sifc_def.specs.Ast.{Program, Block, IfStmt, ElifStmt, ForStmt, ReturnStmt, ExprStmt, VarDecl, FnDecl, FnParams, IdentPair, ItemList, TableItem, Table, TableAccess, Array, ArrayItems, ArrayAccess, ArrayMutExpr, FnCallExpr, VarAssignExpr, BinaryExpr, UnaryExpr, PrimaryExpr}
use Rattle.sifc_def.specs.State.{W, name_of}
use Rattle.sifc_def.specs.Label.{Lab, lab}
use Rattle.sifc_def.specs.Tree.{Tree, tree, Forest, leaf, grow, many as width, gather, dec}
use Rattle.sifc_def.proofs.TreeLaws.{onto}
use Rattle.sifc_def.specs.Typed.{Expr, prim, un, bin, call, dot, idx, set, mut, Exprs, nil, more, Items, no_item, item, Stmt, var_none, var_expr, var_array, var_table, func, block, cond, loop, ret, ret_expr, expr_stmt, Stmts, stop, next, Branches, no_branch, elif_of, else_of, many, many_items, counted, many_branches, bare, said, prim_lab, renc, rencs, renc_names, renc_items, renc_array, global_at, block_lab, renc_s, renc_ss, renc_bs, renc_program}

-- ── the tree of a typed tree ──

-- a node without scope or text, and one with the text of a token
abbrev pub plain_tree : ℕ → Bool → Forest → Tree
plain_tree k f ts = tree k f 0 [] ts

-- a node with the text of a token
abbrev pub said_tree : ℕ → Bool → W → Forest → Tree
said_tree k f x ts = tree k f 0 x.text ts

-- a single token
abbrev pub atom : W → Tree
atom x = said_tree PrimaryExpr false x leaf

-- one child
abbrev pub one : Tree → Forest
one t = grow t leaf

-- two children
abbrev pub two : Tree → Tree → Forest
two t u = grow t (grow u leaf)

-- three
abbrev pub three : Tree → Tree → Tree → Forest
three t u v = grow t (grow u (grow v leaf))

-- an expression, and expressions
unfoldable mutual
  pub tree_e : Expr → Tree
  tree_e (prim x) = atom x
  tree_e (un o e) = said_tree UnaryExpr false o (one (tree_e e))
  tree_e (bin o l r) = said_tree BinaryExpr false o (two (tree_e l) (tree_e r))
  tree_e (call x es) = plain_tree FnCallExpr (is_std_lib_fn (name_of x)) (grow (atom x) (trees_e es))
  tree_e (dot x e) = plain_tree TableAccess false (two (atom x) (tree_e e))
  tree_e (idx x e) = plain_tree ArrayAccess false (two (atom x) (tree_e e))
  tree_e (set x g e) = said_tree VarAssignExpr g x (two (atom x) (tree_e e))
  tree_e (mut x i e) = plain_tree ArrayMutExpr false (three (atom x) (tree_e i) (tree_e e))

  pub trees_e : Exprs → Forest
  trees_e nil = leaf
  trees_e (more e es) = grow (tree_e e) (trees_e es)

-- names
unfoldable pub trees_n : List W → Forest
trees_n [] = leaf
trees_n (x ∷ xs) = grow (atom x) (trees_n xs)

-- the items of a table
unfoldable pub trees_i : Items → Forest
trees_i no_item = leaf
trees_i (item x e is) = grow (said_tree TableItem false x (one (tree_e e))) (trees_i is)

-- "A non-empty Array has one ArrayItems child."
unfoldable pub array_forest : Exprs → Forest
array_forest nil = leaf
array_forest (more e es) = one (plain_tree ArrayItems false (trees_e (more e es)))

-- a block whose inside is level l
abbrev pub block_tree : ℕ → Forest → Tree
block_tree l ts = tree Block false l [] ts

-- a statement at level l, statements, and the branches of an `if`
unfoldable mutual
  pub tree_s : ℕ → Stmt → Tree
  tree_s l (var_none x) = said_tree VarDecl (global_at l) x leaf
  tree_s l (var_expr x e) = said_tree VarDecl (global_at l) x (one (tree_e e))
  tree_s l (var_array x es) = said_tree VarDecl (global_at l) x (one (said_tree Array false x (array_forest es)))
  tree_s l (var_table x is) = said_tree VarDecl (global_at l) x (one (said_tree Table false x (one (plain_tree ItemList false (trees_i is)))))
  tree_s l (func x ns ss) = said_tree FnDecl false x (two (plain_tree FnParams false (trees_n ns)) (block_tree (suc l) (trees_s (suc l) ss)))
  tree_s l (block ss) = block_tree (suc l) (trees_s (suc l) ss)
  tree_s l (cond e ss bs) = plain_tree IfStmt false (grow (tree_e e) (grow (block_tree (suc l) (trees_s (suc l) ss)) (trees_b l bs)))
  tree_s l (loop x y e ss) = plain_tree ForStmt false (three (plain_tree IdentPair false (two (atom x) (atom y))) (tree_e e) (block_tree (suc l) (trees_s (suc l) ss)))
  tree_s l ret = plain_tree ReturnStmt false leaf
  tree_s l (ret_expr e) = plain_tree ReturnStmt false (one (tree_e e))
  tree_s l (expr_stmt e) = plain_tree ExprStmt false (one (tree_e e))

  pub trees_s : ℕ → Stmts → Forest
  trees_s l stop = leaf
  trees_s l (next t ts) = grow (tree_s l t) (trees_s l ts)

  pub trees_b : ℕ → Branches → Forest
  trees_b l no_branch = leaf
  trees_b l (elif_of e ss bs) = grow (plain_tree ElifStmt false (two (tree_e e) (block_tree (suc l) (trees_s (suc l) ss)))) (trees_b l bs)
  trees_b l (else_of ss bs) = grow (block_tree (suc l) (trees_s (suc l) ss)) (trees_b l bs)

-- a program
unfoldable pub tree_program : Stmts → Tree
tree_program ts = plain_tree Program false (trees_s 0 ts)

-- ── reading a node's label back over its children ──

-- one forest, and then another
beside : Forest → Forest → Forest
beside leaf us = us
beside (grow t ts) us = grow t (beside ts us)

-- and then none
beside-leaf : (ts : Forest) → beside ts leaf ≡ ts
unfolding beside
beside-leaf leaf = refl
beside-leaf (grow t ts) = ap (grow t) (beside-leaf ts)

-- The trees of a forest are taken from a stack again.
gather-onto : (ts : Forest) (m : ℕ) (st : List Tree) (us : Forest) → gather (width ts + m) (onto ts st) us ≡ gather m st (beside ts us)
unfolding gather width onto beside
gather-onto leaf m st us = rw zero-add refl
gather-onto (grow t ts) m st us = rw (suc-add, ← add-suc) (gather-onto ts (suc m) (t ∷ st) us)

-- The rest of the stack.
drop-onto : (ts : Forest) (m : ℕ) (st : List Tree) → drop (width ts + m) (onto ts st) ≡ drop m st
unfolding width onto
drop-onto leaf m st = rw zero-add refl
drop-onto (grow t ts) m st = rw (suc-add, ← add-suc) (drop-onto ts (suc m) (t ∷ st))

-- All of them.
taken : (ts : Forest) (st : List Tree) → gather (width ts) (onto ts st) leaf ≡ ts
unfolding gather
taken ts st = rw add-zero at (gather-onto ts 0 st leaf ∙ beside-leaf ts)

-- What is left.
left : (ts : Forest) (st : List Tree) → drop (width ts) (onto ts st) ≡ st
left ts st = rw add-zero at (drop-onto ts 0 st)

-- a label over as many trees as it has children makes one tree of them
node : (k : ℕ) (f : Bool) (l : ℕ) (x : List ℕ) (n : ℕ) (ts : Forest) (r : List Lab) (st : List Tree) → n ≡ width ts
    → dec (lab k f n l x ∷ r) (onto ts st) ≡ dec r (tree k f l x ts ∷ st)
unfolding dec
node k f l x n ts r st e = rw (e, taken ts st, left ts st) refl

-- ── how many children ──

-- Arguments.
width-E : (es : Exprs) → many es ≡ width (trees_e es)
unfolding many width trees_e
width-E nil = refl
width-E (more e es) = ap suc (width-E es)

-- Names.
width-N : (xs : List W) → length xs ≡ width (trees_n xs)
unfolding width trees_n
width-N [] = refl
width-N (x ∷ xs) = ap suc (width-N xs)

-- Items.
width-I : (is : Items) → many_items is ≡ width (trees_i is)
unfolding many_items width trees_i
width-I no_item = refl
width-I (item x e is) = ap suc (width-I is)

-- Declarations.
width-S : (l : ℕ) (ts : Stmts) → counted ts ≡ width (trees_s l ts)
unfolding counted width trees_s
width-S l stop = refl
width-S l (next t ts) = ap suc (width-S l ts)

-- Branches.
width-B : (l : ℕ) (bs : Branches) → many_branches bs ≡ width (trees_b l bs)
unfolding many_branches width trees_b
width-B l no_branch = refl
width-B l (elif_of e ss bs) = ap suc (width-B l bs)
width-B l (else_of ss bs) = ap suc (width-B l bs)

-- ── the labels, oldest first, before the rest r ──

-- Two and n.
two-more : (n : ℕ) → 2 + n ≡ suc (suc n)
two-more n = rw (suc-add, suc-add, zero-add) refl

-- the labels of an expression put its tree on the stack
mutual
  unfolding renc rencs tree_e trees_e dec gather onto width

  dec-E : (e : Expr) (r : List Lab) (st : List Tree) → dec (reverse_aux (renc e) r) st ≡ dec r (tree_e e ∷ st)
  dec-E (prim x) r st = refl
  dec-E (un o e) r st = dec-E e (said UnaryExpr false 1 o ∷ r) st
  dec-E (bin o l m) r st =
      let q : List Lab = said BinaryExpr false 2 o ∷ r in
      rw (reverse_aux-append (renc m) (renc l) q) (dec-E l (reverse_aux (renc m) q) st ∙ dec-E m q (tree_e l ∷ st))
  dec-E (call x es) r st =
      let q : List Lab = bare FnCallExpr (is_std_lib_fn (name_of x)) (suc (many es)) ∷ r in
      rw (reverse_aux-append (rencs es) (prim_lab x ∷ []) q)
      (dec-Es es q (atom x ∷ st) ∙ node FnCallExpr (is_std_lib_fn (name_of x)) 0 [] (suc (many es)) (grow (atom x) (trees_e es)) r st (ap suc (width-E es)))
  dec-E (dot x e) r st = rw (reverse_aux-append (renc e) (prim_lab x ∷ []) (bare TableAccess false 2 ∷ r)) (dec-E e (bare TableAccess false 2 ∷ r) (atom x ∷ st))
  dec-E (idx x e) r st = rw (reverse_aux-append (renc e) (prim_lab x ∷ []) (bare ArrayAccess false 2 ∷ r)) (dec-E e (bare ArrayAccess false 2 ∷ r) (atom x ∷ st))
  dec-E (set x g e) r st = rw (reverse_aux-append (renc e) (prim_lab x ∷ []) (said VarAssignExpr g 2 x ∷ r)) (dec-E e (said VarAssignExpr g 2 x ∷ r) (atom x ∷ st))
  dec-E (mut x i e) r st =
      let q : List Lab = bare ArrayMutExpr false 3 ∷ r in
      rw (reverse_aux-append (renc e) (renc i ++ (prim_lab x ∷ [])) q, reverse_aux-append (renc i) (prim_lab x ∷ []) (reverse_aux (renc e) q))
      (dec-E i (reverse_aux (renc e) q) (atom x ∷ st) ∙ dec-E e q (tree_e i ∷ atom x ∷ st))

  dec-Es : (es : Exprs) (r : List Lab) (st : List Tree) → dec (reverse_aux (rencs es) r) st ≡ dec r (onto (trees_e es) st)
  dec-Es nil r st = refl
  dec-Es (more e es) r st = rw (reverse_aux-append (rencs es) (renc e) r) (dec-E e (reverse_aux (rencs es) r) st ∙ dec-Es es r (tree_e e ∷ st))

-- Names.
dec-N : (xs : List W) (r : List Lab) (st : List Tree) → dec (reverse_aux (renc_names xs) r) st ≡ dec r (onto (trees_n xs) st)
unfolding renc_names trees_n dec gather onto
dec-N [] r st = refl
dec-N (x ∷ xs) r st = rw (reverse_aux-append (renc_names xs) (prim_lab x ∷ []) r) (dec-N xs r (atom x ∷ st))

-- The items of a table.
dec-I : (is : Items) (r : List Lab) (st : List Tree) → dec (reverse_aux (renc_items is) r) st ≡ dec r (onto (trees_i is) st)
unfolding renc_items trees_i dec gather onto
dec-I no_item r st = refl
dec-I (item x e is) r st =
    let q : List Lab = reverse_aux (renc_items is) r in
    rw (reverse_aux-append (renc_items is) (said TableItem false 1 x ∷ renc e) r)
    (dec-E e (said TableItem false 1 x ∷ q) st ∙ dec-I is r (said_tree TableItem false x (one (tree_e e)) ∷ st))

-- An array.
dec-A : (x : W) (es : Exprs) (r : List Lab) (st : List Tree) → dec (reverse_aux (renc_array x es) r) st ≡ dec r (said_tree Array false x (array_forest es) ∷ st)
unfolding renc_array array_forest dec gather
dec-A x nil r st = refl
dec-A x (more e es) r st =
    dec-Es (more e es) (bare ArrayItems false (suc (many es)) ∷ said Array false 1 x ∷ r) st
    ∙ node ArrayItems false 0 [] (suc (many es)) (trees_e (more e es)) (said Array false 1 x ∷ r) st (unfold many in width-E (more e es))

-- the labels of a statement put its tree on the stack
mutual
  unfolding renc_s renc_ss renc_bs tree_s trees_s trees_b dec gather onto width

  dec-S : (l : ℕ) (t : Stmt) (r : List Lab) (st : List Tree) → dec (reverse_aux (renc_s l t) r) st ≡ dec r (tree_s l t ∷ st)
  dec-S l (var_none x) r st = refl
  dec-S l (var_expr x e) r st = dec-E e (said VarDecl (global_at l) 1 x ∷ r) st
  dec-S l (var_array x es) r st = dec-A x es (said VarDecl (global_at l) 1 x ∷ r) st
  dec-S l (var_table x is) r st =
      let q : List Lab = said Table false 1 x ∷ said VarDecl (global_at l) 1 x ∷ r in
      dec-I is (bare ItemList false (many_items is) ∷ q) st ∙ node ItemList false 0 [] (many_items is) (trees_i is) q st (width-I is)
  dec-S l (func x ns ss) r st =
      let q : List Lab = said FnDecl false 2 x ∷ r in
      let p : List Lab = bare FnParams false (length ns) ∷ renc_names ns in
      let b : List Lab = block_lab (counted ss) (suc l) ∷ renc_ss (suc l) ss in
      let z : List Lab = reverse_aux b q in
      rw (reverse_aux-append b p q)
      (dec-N ns (bare FnParams false (length ns) ∷ z) st
      ∙ node FnParams false 0 [] (length ns) (trees_n ns) z st (width-N ns)
      ∙ dec-Ss (suc l) ss (block_lab (counted ss) (suc l) ∷ q) (plain_tree FnParams false (trees_n ns) ∷ st)
      ∙ node Block false (suc l) [] (counted ss) (trees_s (suc l) ss) q (plain_tree FnParams false (trees_n ns) ∷ st) (width-S (suc l) ss))
  dec-S l (block ss) r st =
      dec-Ss (suc l) ss (block_lab (counted ss) (suc l) ∷ r) st
      ∙ node Block false (suc l) [] (counted ss) (trees_s (suc l) ss) r st (width-S (suc l) ss)
  dec-S l (cond e ss bs) r st =
      let q : List Lab = bare IfStmt false (2 + many_branches bs) ∷ r in
      let b : List Lab = block_lab (counted ss) (suc l) ∷ renc_ss (suc l) ss in
      let z : List Lab = reverse_aux (renc_bs l bs) q in
      let B : Tree = block_tree (suc l) (trees_s (suc l) ss) in
      rw (reverse_aux-append (renc_bs l bs) (b ++ renc e) q, reverse_aux-append b (renc e) z)
      (dec-E e (reverse_aux b z) st
      ∙ dec-Ss (suc l) ss (block_lab (counted ss) (suc l) ∷ z) (tree_e e ∷ st)
      ∙ node Block false (suc l) [] (counted ss) (trees_s (suc l) ss) z (tree_e e ∷ st) (width-S (suc l) ss)
      ∙ dec-Bs l bs q (B ∷ tree_e e ∷ st)
      ∙ node IfStmt false 0 [] (2 + many_branches bs) (grow (tree_e e) (grow B (trees_b l bs))) r st (two-more (many_branches bs) ∙ ap (λ (n : ℕ). suc (suc n)) (width-B l bs)))
  dec-S l (loop x y e ss) r st =
      let q : List Lab = bare ForStmt false 3 ∷ r in
      let b : List Lab = block_lab (counted ss) (suc l) ∷ renc_ss (suc l) ss in
      let p : List Lab = bare IdentPair false 2 ∷ prim_lab y ∷ prim_lab x ∷ [] in
      let P : Tree = plain_tree IdentPair false (two (atom x) (atom y)) in
      rw (reverse_aux-append b (renc e ++ p) q, reverse_aux-append (renc e) p (reverse_aux b q))
      (dec-E e (reverse_aux b q) (P ∷ st)
      ∙ dec-Ss (suc l) ss (block_lab (counted ss) (suc l) ∷ q) (tree_e e ∷ P ∷ st)
      ∙ node Block false (suc l) [] (counted ss) (trees_s (suc l) ss) q (tree_e e ∷ P ∷ st) (width-S (suc l) ss))
  dec-S l ret r st = refl
  dec-S l (ret_expr e) r st = dec-E e (bare ReturnStmt false 1 ∷ r) st
  dec-S l (expr_stmt e) r st = dec-E e (bare ExprStmt false 1 ∷ r) st

  dec-Ss : (l : ℕ) (ts : Stmts) (r : List Lab) (st : List Tree) → dec (reverse_aux (renc_ss l ts) r) st ≡ dec r (onto (trees_s l ts) st)
  dec-Ss l stop r st = refl
  dec-Ss l (next t ts) r st = rw (reverse_aux-append (renc_ss l ts) (renc_s l t) r) (dec-S l t (reverse_aux (renc_ss l ts) r) st ∙ dec-Ss l ts r (tree_s l t ∷ st))

  dec-Bs : (l : ℕ) (bs : Branches) (r : List Lab) (st : List Tree) → dec (reverse_aux (renc_bs l bs) r) st ≡ dec r (onto (trees_b l bs) st)
  dec-Bs l no_branch r st = refl
  dec-Bs l (elif_of e ss bs) r st =
      let b : List Lab = block_lab (counted ss) (suc l) ∷ renc_ss (suc l) ss in
      let q : List Lab = bare ElifStmt false 2 ∷ reverse_aux (renc_bs l bs) r in
      let B : Tree = block_tree (suc l) (trees_s (suc l) ss) in
      rw (reverse_aux-append (renc_bs l bs) (bare ElifStmt false 2 ∷ (b ++ renc e)) r, reverse_aux-append b (renc e) q)
      (dec-E e (reverse_aux b q) st
      ∙ dec-Ss (suc l) ss (block_lab (counted ss) (suc l) ∷ q) (tree_e e ∷ st)
      ∙ node Block false (suc l) [] (counted ss) (trees_s (suc l) ss) q (tree_e e ∷ st) (width-S (suc l) ss)
      ∙ dec-Bs l bs r (plain_tree ElifStmt false (two (tree_e e) B) ∷ st))
  dec-Bs l (else_of ss bs) r st =
      let b : List Lab = block_lab (counted ss) (suc l) ∷ renc_ss (suc l) ss in
      let z : List Lab = reverse_aux (renc_bs l bs) r in
      rw (reverse_aux-append (renc_bs l bs) b r)
      (dec-Ss (suc l) ss (block_lab (counted ss) (suc l) ∷ z) st
      ∙ node Block false (suc l) [] (counted ss) (trees_s (suc l) ss) z st (width-S (suc l) ss)
      ∙ dec-Bs l bs r (block_tree (suc l) (trees_s (suc l) ss) ∷ st))

-- The labels of a typed program, oldest first, are those of its tree.
pub program-decoded : (ts : Stmts) → dec (reverse (renc_program ts)) [] ≡ tree_program ts ∷ []
unfolding renc_program tree_program
program-decoded ts =
    dec-Ss 0 ts (bare Program false (counted ts) ∷ []) []
    ∙ node Program false 0 [] (counted ts) (trees_s 0 ts) [] [] (width-S 0 ts)
    ∙ unfold dec in refl
