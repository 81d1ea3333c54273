-- The kinds of a typed program's labels are kinds of nodes: below 32, so that a node's first word tells its kind.
use Rattle.std.specs.Prelude.{ℕ, suc, T, ltb}
use mathlib.Core.List.{List, [], ◌∷◌, ◌++◌, reverse, reverse_aux}
use Rattle.sifc_def.specs.State.{W}
use Rattle.sifc_def.specs.Label.{Lab}
use Rattle.sifc_def.specs.Typed.{Expr, prim, un, bin, call, dot, idx, set, mut, Exprs, nil, more, Items, no_item, item, Stmt, var_none, var_expr, var_array, var_table, func, block, cond, loop, ret, ret_expr, expr_stmt, Stmts, stop, next, Branches, no_branch, elif_of, else_of, renc, rencs, renc_names, renc_items, renc_array, renc_s, renc_ss, renc_bs, renc_program}

-- every kind is below 32
unfoldable pub Small : List Lab → Type 0
Small [] = Unit {0}
Small (x ∷ xs) = T (ltb x.kind 32) × Small xs

-- One list after another.
small-append : (xs ys : List Lab) → Small xs → Small ys → Small (xs ++ ys)
unfolding Small
small-append [] ys h k = k
small-append (x ∷ xs) ys h k = (h.0, small-append xs ys h.1 k)

-- A list reversed.
small-reverse : (xs ys : List Lab) → Small xs → Small ys → Small (reverse_aux xs ys)
unfolding Small
small-reverse [] ys h k = k
small-reverse (x ∷ xs) ys h k = small-reverse xs (x ∷ ys) h.1 (h.0, k)

-- the labels of an expression, and of expressions
mutual
  unfolding Small renc rencs

  small-E : (e : Expr) → Small (renc e)
  small-E (prim x) = (tt, tt)
  small-E (un o e) = (tt, small-E e)
  small-E (bin o l r) = (tt, small-append (renc r) (renc l) (small-E r) (small-E l))
  small-E (call x es) = (tt, small-append (rencs es) _ (small-Es es) (tt, tt))
  small-E (dot x e) = (tt, small-append (renc e) _ (small-E e) (tt, tt))
  small-E (idx x e) = (tt, small-append (renc e) _ (small-E e) (tt, tt))
  small-E (set x g e) = (tt, small-append (renc e) _ (small-E e) (tt, tt))
  small-E (mut x i e) = (tt, small-append (renc e) _ (small-E e) (small-append (renc i) _ (small-E i) (tt, tt)))

  small-Es : (es : Exprs) → Small (rencs es)
  small-Es nil = tt
  small-Es (more e es) = small-append (rencs es) (renc e) (small-Es es) (small-E e)

-- Names.
small-N : (ns : List W) → Small (renc_names ns)
unfolding Small renc_names
small-N [] = tt
small-N (x ∷ ns) = small-append (renc_names ns) _ (small-N ns) (tt, tt)

-- The items of a table.
small-I : (is : Items) → Small (renc_items is)
unfolding Small renc_items
small-I no_item = tt
small-I (item x e is) = small-append (renc_items is) _ (small-I is) (tt, small-E e)

-- An array.
small-A : (x : W) (es : Exprs) → Small (renc_array x es)
unfolding Small renc_array
small-A x nil = (tt, tt)
small-A x (more e es) = (tt, (tt, small-Es (more e es)))

-- the labels of a statement, of statements and of the branches of an `if`
mutual
  unfolding Small renc_s renc_ss renc_bs

  small-S : (l : ℕ) (t : Stmt) → Small (renc_s l t)
  small-S l (var_none x) = (tt, tt)
  small-S l (var_expr x e) = (tt, small-E e)
  small-S l (var_array x es) = (tt, small-A x es)
  small-S l (var_table x is) = (tt, (tt, (tt, small-I is)))
  small-S l (func x ns ss) = (tt, (tt, small-append (renc_ss (suc l) ss) _ (small-Ss (suc l) ss) (tt, small-N ns)))
  small-S l (block ss) = (tt, small-Ss (suc l) ss)
  small-S l (cond e ss bs) = (tt, small-append (renc_bs l bs) _ (small-Bs l bs) (tt, small-append (renc_ss (suc l) ss) _ (small-Ss (suc l) ss) (small-E e)))
  small-S l (loop x y e ss) = (tt, (tt, small-append (renc_ss (suc l) ss) _ (small-Ss (suc l) ss) (small-append (renc e) _ (small-E e) (tt, (tt, (tt, tt))))))
  small-S l ret = (tt, tt)
  small-S l (ret_expr e) = (tt, small-E e)
  small-S l (expr_stmt e) = (tt, small-E e)

  small-Ss : (l : ℕ) (ts : Stmts) → Small (renc_ss l ts)
  small-Ss l stop = tt
  small-Ss l (next t ts) = small-append (renc_ss l ts) _ (small-Ss l ts) (small-S l t)

  small-Bs : (l : ℕ) (bs : Branches) → Small (renc_bs l bs)
  small-Bs l no_branch = tt
  small-Bs l (elif_of e ss bs) = small-append (renc_bs l bs) _ (small-Bs l bs) (tt, (tt, small-append (renc_ss (suc l) ss) _ (small-Ss (suc l) ss) (small-E e)))
  small-Bs l (else_of ss bs) = small-append (renc_bs l bs) _ (small-Bs l bs) (tt, small-Ss (suc l) ss)

-- The labels of a typed program, oldest first.
pub small-program : (ts : Stmts) → Small (reverse (renc_program ts))
unfolding Small renc_program
small-program ts = small-reverse (renc_program ts) [] (tt, small-Ss 0 ts) tt
