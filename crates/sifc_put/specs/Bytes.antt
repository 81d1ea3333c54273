-- The bytes of words, each with a space after it, and that the prints of Typed.antt only put words before the rest.
use Rattle.std.specs.Prelude.{ℕ, ◌≡◌, refl, List, [], ◌∷◌, ◌++◌, Bool, true, false}
use Rattle.std.proofs.Common.{sym, ap, ◌∙◌, append_assoc}
use Rattle.sifc_def.specs.State.{W}
use Rattle.sifc_def.specs.Typed.{Expr, prim, un, bin, call, dot, idx, set, mut, Exprs, nil, more, Items, no_item, item, Stmt, var_none, var_expr, var_array, var_table, func, block, cond, loop, ret, ret_expr, expr_stmt, Stmts, stop, next, Branches, no_branch, elif_of, else_of, wrap, between, between_names, between_items, pr, prs, pr_names, pr_items, pr_s, pr_ss, pr_bs}

-- a word and a space
abbrev pub worded : W → List ℕ
worded w = w.text ++ (32 ∷ [])

unfoldable pub spaced : List W → List ℕ
spaced [] = []
spaced (w ∷ ws) = worded w ++ spaced ws

-- The bytes of one row of words after another.
pub spaced-append : (xs ys : List W) → spaced (xs ++ ys) ≡ spaced xs ++ spaced ys
unfolding spaced
spaced-append [] ys = refl
spaced-append (x ∷ xs) ys = ap (λ (b : List ℕ). worded x ++ b) (spaced-append xs ys) ∙ sym (append_assoc (worded x) (spaced xs) (spaced ys))

-- ── prints ──

-- f only puts words before the rest
pub record Puts (f : List W → List W) : Type 0 where
  pub before : (r : List W) → f r ≡ f [] ++ r

-- Nothing is put.
puts_none : Puts (λ r. r)
puts_none = record { before = λ r. refl }

-- A word, and then a print.
puts_word : {x : W} {f : List W → List W} → Puts f → Puts (λ r. x ∷ f r)
puts_word {x} h = record { before = λ r. ap (λ (z : List W). x ∷ z) (h.before r) }

-- A print, and then another.
puts-both : {f g : List W → List W} → Puts f → Puts g → Puts (λ r. f (g r))
puts-both {f} {g} h k =
    record {
      before = λ r.
          h.before (g r)
          ∙ ap (λ (z : List W). f [] ++ z) (k.before r)
          ∙ sym (append_assoc (f []) (g []) r)
          ∙ ap (λ (z : List W). z ++ r) (sym (h.before (g [])));
    }

-- A print, and then a word.
puts-last : {x : W} {f : List W → List W} → Puts f → Puts (λ r. f (x ∷ r))
puts-last h = puts-both h (puts_word puts_none)

-- Bare, or in parentheses.
pub puts-wrap : (q : Bool) {f : List W → List W} → Puts f → Puts (wrap q f)
unfolding wrap
puts-wrap true h = h
puts-wrap false h = puts_word (puts-last h)

-- A comma, where another argument follows.
puts-between : (es : Exprs) {f : List W → List W} → Puts f → Puts (λ r. between es (f r))
unfolding between
puts-between nil h = h
puts-between (more e es) h = puts_word h

-- A comma, where another name follows.
puts-between_names : (ns : List W) {f : List W → List W} → Puts f → Puts (λ r. between_names ns (f r))
unfolding between_names
puts-between_names [] h = h
puts-between_names (x ∷ ns) h = puts_word h

-- A comma, where another item follows.
puts-between_items : (is : Items) {f : List W → List W} → Puts f → Puts (λ r. between_items is (f r))
unfolding between_items
puts-between_items no_item h = h
puts-between_items (item x e is) h = puts_word h

-- the print of an expression, and of expressions
mutual
  unfolding pr prs

  pub puts-E : (e : Expr) → Puts (pr e)
  puts-E (prim x) = puts_word puts_none
  puts-E (un o e) = puts_word (puts-wrap _ (puts-E e))
  puts-E (bin o l r) = puts-both (puts-wrap _ (puts-E l)) (puts_word (puts-wrap _ (puts-E r)))
  puts-E (call x es) = puts_word (puts_word (puts-last (puts-Es es)))
  puts-E (dot x e) = puts_word (puts_word (puts-E e))
  puts-E (idx x e) = puts_word (puts_word (puts-last (puts-E e)))
  puts-E (set x g e) = puts_word (puts_word (puts-E e))
  puts-E (mut x i e) = puts_word (puts_word (puts-both (puts-E i) (puts_word (puts_word (puts-E e)))))

  pub puts-Es : (es : Exprs) → Puts (prs es)
  puts-Es nil = puts_none
  puts-Es (more e es) = puts-both (puts-E e) (puts-between es (puts-Es es))

-- Names.
pub puts-N : (ns : List W) → Puts (pr_names ns)
unfolding pr_names
puts-N [] = puts_none
puts-N (x ∷ ns) = puts_word (puts-between_names ns (puts-N ns))

-- The items of a table.
pub puts-I : (is : Items) → Puts (pr_items is)
unfolding pr_items
puts-I no_item = puts_none
puts-I (item x e is) = puts_word (puts_word (puts-both (puts-E e) (puts-between_items is (puts-I is))))

-- the print of a statement, of statements and of the branches of an `if`
mutual
  unfolding pr_s pr_ss pr_bs

  pub puts-S : (t : Stmt) → Puts (pr_s t)
  puts-S (var_none x) = puts_word (puts_word (puts_word puts_none))
  puts-S (var_expr x e) = puts_word (puts_word (puts_word (puts-last (puts-E e))))
  puts-S (var_array x es) = puts_word (puts_word (puts_word (puts_word (puts-both (puts-Es es) (puts_word (puts_word puts_none))))))
  puts-S (var_table x is) = puts_word (puts_word (puts_word (puts_word (puts-both (puts-I is) (puts_word (puts_word puts_none))))))
  puts-S (func x ns ss) = puts_word (puts_word (puts_word (puts-both (puts-N ns) (puts_word (puts_word (puts-last (puts-Ss ss)))))))
  puts-S (block ss) = puts_word (puts-last (puts-Ss ss))
  puts-S (cond e ss bs) = puts_word (puts-both (puts-E e) (puts_word (puts-both (puts-Ss ss) (puts_word (puts-Bs bs)))))
  puts-S (loop x y e ss) = puts_word (puts_word (puts_word (puts_word (puts_word (puts-both (puts-E e) (puts_word (puts-last (puts-Ss ss))))))))
  puts-S ret = puts_word (puts_word puts_none)
  puts-S (ret_expr e) = puts_word (puts-last (puts-E e))
  puts-S (expr_stmt e) = puts-last (puts-E e)

  pub puts-Ss : (ts : Stmts) → Puts (pr_ss ts)
  puts-Ss stop = puts_none
  puts-Ss (next t ts) = puts-both (puts-S t) (puts-Ss ts)

  pub puts-Bs : (bs : Branches) → Puts (pr_bs bs)
  puts-Bs no_branch = puts_none
  puts-Bs (elif_of e ss bs) = puts_word (puts-both (puts-E e) (puts_word (puts-both (puts-Ss ss) (puts_word (puts-Bs bs)))))
  puts-Bs (else_of ss bs) = puts_word (puts_word (puts-both (puts-Ss ss) (puts_word (puts-Bs bs))))

-- the bytes of a print alone
abbrev pub bytes_of : (List W → List W) → List ℕ
bytes_of f = spaced (f [])

-- The bytes of a print before the rest.
pub spaced-puts : {f : List W → List W} → Puts f → (r : List W) → spaced (f r) ≡ bytes_of f ++ spaced r
spaced-puts {f} h r = ap spaced (h.before r) ∙ spaced-append (f []) r
