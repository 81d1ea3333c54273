-- What a reading finds does not depend on how much room it is given: two walks over one script, with rooms of their own, come to the same, unless one of them
-- is refused for its rooms.
use Prim.Native.Nat.{ℕ, zero, suc, ◌-◌}
use Rattle.std.specs.Prelude.{◌≡◌, refl, Bool, T, eqb, leb, ltb, length}
use mathlib.Core.List.{List, [], ◌∷◌}
use Rattle.std.proofs.Math.Option.{Option, none, some}
use Rattle.std.proofs.Math.Bool.{true, false}
use Rattle.sifc_err.specs.declared.Token.{Token}
use Rattle.sifc_err.specs.declared.Refusal.{Refusal}
use Rattle.sifc_err.specs.declared.Refusal.TheVariants.{NodesFull, SymbolsFull, ErrorsFull}
use Rattle.sifc_err.specs.Refusal.{number_of}
use Rattle.sifc_word.specs.Base.{if◌then◌otherwise◌, member}
use Rattle.sifc_def.specs.declared.Err.{Err}
use Rattle.sifc_def.specs.Why.{Why}
use Rattle.sifc_def.specs.declared.What.{What}
use Rattle.sifc_def.specs.declared.What.TheVariants.{Placeholder, Function, Variable, Other}
use Rattle.sifc_def.specs.State.{Node, Ctx, St, Out, done, fail, refuse, M, Void, go_on, name_at, panic_at, arrive, consume, list, raise, add_error_w_pos, add_error, throw, throw_past, expect, optional, match_ident, or_throw, ident, push, set_nodes}
use Rattle.sifc_def.specs.Symbols.{put_at, retrieve, store, set_level, init_scope, close_scope, set_check}
use Rattle.sifc_def.specs.Expr.{Rec, fuel, operators, levels, assign_var, assign_token, assign_array, assign_nothing, assign_to, separator, param_list, single, call_counted, call_declared, call_name, is_named, call_named, literal, known, check_name, ident_expr, assign_expr, unary_expr, group_expr, at_expr, primary_expr, call_part, dot, index, postfix, fn_call_expr}
use Rattle.sifc_def.specs.Stmt.{bind, with_return, ident_node, param, ident_pair, declare_var, array_nodes, end_if, comma_list, array_decl, table_item, item_list, table_decl, initial, var_decl, fn_decl, elif_stmt, else_block, branches, if_stmt, for_stmt, ret_stmt, expr_stmt, stmt, decl, decls, block}
use Rattle.sifc_def.specs.Error.{continuable}
use Rattle.sifc_def.specs.Walk.{End, start, walkers, give_up, settled, top_decl, end_read, program, walk}

-- a refusal for room: NodesFull, SymbolsFull, ErrorsFull
unfoldable pub for_room : Refusal → Bool
for_room r = member (number_of r) (7 ∷ 8 ∷ 9 ∷ [])

-- two outcomes that are the same, unless one is refused for room
pub data Alike {A : Type 0} : Out A → Out A → Type 0 where
  same_out : (o : Out A) → Alike o o
  left_out : (r : Refusal) (o : Out A) → T (for_room r) → Alike (refuse r) o
  right-out : (r : Refusal) (o : Out A) → T (for_room r) → Alike o (refuse r)

-- two steps that are alike in every state
pub record Likes {A : Type 0} (m m' : M A) : Type 0 where
  pub at : (s : St) → Alike (m s) (m' s)

-- What goes on alike from alike outcomes is alike.
alike-go : {A B : Type 0} {o o' : Out A} (f f' : A → M B) → Alike o o' → ((a : A) → Likes (f a) (f' a)) → Alike (go_on o f) (go_on o' f')
unfolding go_on
alike-go f f' (same_out (done a s)) h = (h a).at s
alike-go f f' (same_out (fail e s)) h = same_out (fail e s)
alike-go f f' (same_out (refuse r)) h = same_out (refuse r)
alike-go f f' (left_out r o t) h = left_out r (go_on o f') t
alike-go f f' (right-out r o t) h = right-out r (go_on o f) t

-- A step is like itself.
like : {A : Type 0} (m : M A) → Likes m m
like m = record { at = λ s. same_out (m s) }

-- `←`
onward : {A B : Type 0} {m m' : M A} {f f' : A → M B} → Likes m m' → ((a : A) → Likes (f a) (f' a)) → Likes (λ s. go_on (m s) f) (λ s. go_on (m' s) f')
onward {m} {m'} {f} {f'} h k = record { at = λ s. alike-go f f' (h.at s) k }

-- Either branch.
either : {A : Type 0} (b : Bool) {m m' k k' : M A} → Likes m m' → Likes k k' → Likes (if b then m otherwise k) (if b then m' otherwise k')
unfolding if◌then◌otherwise◌
either true h g = h
either false h g = g

-- a test on the state, and a refusal for room where it fails
room : {A : Type 0} (b b' : Bool) (o : Out A) (r : Refusal) → T (for_room r) → Alike (if b then o otherwise refuse r) (if b' then o otherwise refuse r)
unfolding if◌then◌otherwise◌
room true true o r t = same_out o
room true false o r t = right-out r o t
room false true o r t = left_out r o t
room false false o r t = same_out (refuse r)

-- the context of a script, its tokens and its lexing panic, with rooms
abbrev pub given : List ℕ → List Token → ℕ → ℕ → ℕ → ℕ → Ctx
given s ts w n y e = record { script = s; toks = ts; fault = w; node_room = n; sym_room = y; err_room = e }

-- the definition of the walk, one step open
walk_is : (c : Ctx) (depth : ℕ) → walk c depth ≡ go_on (arrive c start) (λ a. program c (suc (fuel c)) (decl c (walkers c depth)) 0 false)
unfolding walk
walk_is c depth = refl

-- two records of counted calls that are alike
record LikeRec (r r' : Rec) : Type 0 where
  block : (b : Bool) (is : List ℕ) → Likes (r.block b is) (r'.block b is)
  assign : Likes r.assign r'.assign
  unary : Likes r.unary r'.unary
  call : Likes r.call r'.call

module _ (script : List ℕ) (ts : List Token) (w n y e n' y' e' : ℕ) where
  abbrev c : Ctx
  c = given script ts w n y e

  abbrev c' : Ctx
  c' = given script ts w n' y' e'

  -- Each l-f below says of the step f of the definition that it is alike in the two contexts.

  -- ── the small steps ──

  l-panic_at : {A : Type 0} (k i : ℕ) → Likes {A = A} (panic_at c k i) (panic_at c' k i)
  unfolding panic_at
  l-panic_at k i = like _

  l-arrive : Likes (arrive c) (arrive c')
  unfolding arrive
  l-arrive = like _

  l-consume : Likes (consume c) (consume c')
  unfolding consume arrive
  l-consume = like _

  l-list : (x : Err) → Likes (list c x) (list c' x)
  unfolding list for_room member
  l-list x = record { at = λ s. room (ltb (length s.errs) e) (ltb (length s.errs) e') _ ErrorsFull tt }

  l-raise : {A : Type 0} (x : Err) → Likes {A = A} (raise c x) (raise c' x)
  unfolding raise
  l-raise x = like _

  l-add_error_w_pos : (i : ℕ) (why : Why) → Likes (add_error_w_pos c i why) (add_error_w_pos c' i why)
  unfolding add_error_w_pos
  l-add_error_w_pos i why = onward (l-list _) (λ a. like _)

  l-add_error : (why : Why) → Likes (add_error c why) (add_error c' why)
  unfolding add_error
  l-add_error why = onward (like _) (λ i. l-add_error_w_pos i why)

  l-throw : {A : Type 0} (why : Why) → Likes {A = A} (throw c why) (throw c' why)
  unfolding throw
  l-throw why = onward (l-add_error why) (λ x. l-raise x)

  l-throw_past : {A : Type 0} (why : Why) → Likes {A = A} (throw_past c why) (throw_past c' why)
  unfolding throw_past
  l-throw_past why = onward (l-add_error why) (λ x. onward l-consume (λ a. l-raise x))

  l-expect : (k : ℕ) → Likes (expect c k) (expect c' k)
  unfolding expect
  l-expect k = onward (like _) (λ k'. onward (like _) (λ i. either (eqb k' k) l-consume (l-raise _)))

  l-optional : (k : ℕ) → Likes (optional c k) (optional c' k)
  unfolding optional
  l-optional k = onward (like _) (λ k'. either (eqb k' k) (onward l-consume (λ a. like _)) (like _))

  l-match_ident : Likes (match_ident c) (match_ident c')
  unfolding match_ident
  l-match_ident = onward (like _) (λ k. onward (like _) (λ i. either _ (onward l-consume (λ a. like _)) (onward (l-add_error _) (λ a. like _))))

  l-or_throw : (why : Why) (x : Option ℕ) → Likes (or_throw c why x) (or_throw c' why x)
  unfolding or_throw
  l-or_throw why (some i) = like _
  l-or_throw why none = l-throw why

  l-ident : (why : ℕ → Why) → Likes (ident c why) (ident c' why)
  unfolding ident
  l-ident why = onward (like _) (λ i. onward l-match_ident (λ x. l-or_throw (why i) x))

  l-push : (k : ℕ) (f : Bool) (m p : ℕ) → Likes (push c k f m p) (push c' k f m p)
  unfolding push for_room member
  l-push k f m p = record { at = λ s. room (ltb (length s.nodes) n) (ltb (length s.nodes) n') _ NodesFull tt }

  l-set_nodes : (f : List Node → List Node) → Likes (set_nodes c f) (set_nodes c' f)
  unfolding set_nodes
  l-set_nodes f = like _

  l-retrieve : (x : List ℕ) → Likes (retrieve c x) (retrieve c' x)
  unfolding retrieve
  l-retrieve x = like _

  l-store : (i : ℕ) (x : What) → Likes (store c i x) (store c' i x)
  unfolding store for_room member
  l-store i x = record { at = λ s. room (leb (length (put_at s.level (name_at c i) x s.syms)) y) (leb (length (put_at s.level (name_at c i) x s.syms)) y') _ SymbolsFull tt }

  l-init_scope : Likes (init_scope c) (init_scope c')
  unfolding init_scope set_level
  l-init_scope = like _

  l-close_scope : Likes (close_scope c) (close_scope c')
  unfolding close_scope set_level
  l-close_scope = like _

  l-set_check : (b : Bool) → Likes (set_check c b) (set_check c' b)
  unfolding set_check
  l-set_check b = like _

  -- ── expressions ──

  l-operators : (f m : ℕ) (next next' : Void) → Likes next next' → Likes (operators c f m next) (operators c' f m next')
  unfolding operators
  l-operators zero m next next' h = like _
  l-operators (suc f) m next next' h =
      onward (like _) (λ k. onward (like _) (λ i. either _ (onward l-consume (λ a. onward h (λ a. onward (l-push _ _ _ _) (λ a. l-operators f m next next' h)))) (like _)))

  l-levels : (m : ℕ) (u u' : Void) → Likes u u' → Likes (levels c m u) (levels c' m u')
  unfolding levels
  l-levels zero u u' h = h
  l-levels (suc m) u u' h = onward (l-levels m u u' h) (λ a. l-operators _ (suc m) (levels c m u) (levels c' m u') (l-levels m u u' h))

  l-assign_var : (i : ℕ) (x : Option What) → Likes (assign_var c i x) (assign_var c' i x)
  unfolding assign_var
  l-assign_var i none = l-throw _
  l-assign_var i (some Placeholder) = l-throw _
  l-assign_var i (some (Function m)) = l-throw _
  l-assign_var i (some (Variable t g)) = l-push _ _ _ _
  l-assign_var i (some Other) = l-throw _

  l-assign_token : (i : ℕ) → Likes (assign_token c i) (assign_token c' i)
  unfolding assign_token
  l-assign_token i = either _ (onward (l-retrieve _) (λ x. l-assign_var i x)) (l-throw _)

  l-assign_array : (m : ℕ) → Likes (assign_array c m) (assign_array c' m)
  unfolding assign_array
  l-assign_array m = onward (l-set_nodes _) (λ a. l-push _ _ _ _)

  l-assign_nothing : (i : ℕ) → Likes (assign_nothing c i) (assign_nothing c' i)
  unfolding assign_nothing
  l-assign_nothing i = onward (l-add_error_w_pos _ _) (λ x. l-raise x)

  l-assign_to : (t : Node) (m op : ℕ) → Likes (assign_to c t m op) (assign_to c' t m op)
  unfolding assign_to
  l-assign_to t m op = either _ (l-assign_token _) (either _ (l-assign_array m) (l-assign_nothing op))

  l-separator : Likes (separator c) (separator c')
  unfolding separator
  l-separator = onward (like _) (λ k. either _ (l-expect _) (like _))

  l-param_list : (f : ℕ) (item item' : Void) (m : ℕ) → Likes item item' → Likes (param_list c item f m) (param_list c' item' f m)
  unfolding param_list
  l-param_list zero item item' m h = like _
  l-param_list (suc f) item item' m h =
      onward (like _) (λ k. either _ (like _) (either _ (l-throw _) (either _ (l-throw _) (onward h (λ a. onward l-separator (λ a. l-param_list f item item' (suc m) h))))))

  l-single : (t : Node) (k i : ℕ) → Likes (single c t k i) (single c' t k i)
  unfolding single
  l-single t k i = either _ (like _) (l-panic_at k i)

  l-call_counted : (want m : ℕ) → Likes (call_counted c want m) (call_counted c' want m)
  unfolding call_counted
  l-call_counted want m = either _ (l-push _ _ _ _) (l-throw _)

  l-call_declared : (i m : ℕ) (x : Option What) → Likes (call_declared c i m x) (call_declared c' i m x)
  unfolding call_declared
  l-call_declared i m none = l-throw_past _
  l-call_declared i m (some Placeholder) = l-push _ _ _ _
  l-call_declared i m (some (Function j)) = l-call_counted j m
  l-call_declared i m (some (Variable t g)) = l-call_counted 0 m
  l-call_declared i m (some Other) = l-call_counted 0 m

  l-call_name : (i m : ℕ) (x : Option What) → Likes (call_name c i m x) (call_name c' i m x)
  unfolding call_name
  l-call_name i m x = either _ (l-push _ _ _ _) (l-call_declared i m x)

  l-call_named : (t : Node) (i m : ℕ) → Likes (call_named c t i m) (call_named c' t i m)
  unfolding call_named is_named
  l-call_named t i m = either _ (onward (l-retrieve _) (λ x. l-call_name _ m x)) (l-panic_at 3 i)

  l-literal : (i : ℕ) → Likes (literal c i) (literal c' i)
  unfolding literal
  l-literal i = onward (l-push _ _ _ _) (λ a. l-consume)

  l-known : (i : ℕ) (x : Option What) → Likes (known c i x) (known c' i x)
  unfolding known
  l-known i (some x) = like _
  l-known i none = either _ (like _) (l-throw_past _)

  l-check_name : (i : ℕ) → Likes (check_name c i) (check_name c' i)
  unfolding check_name
  l-check_name i = onward (like _) (λ b. either b (onward (l-retrieve _) (λ x. l-known i x)) (like _))

  l-ident_expr : (i : ℕ) → Likes (ident_expr c i) (ident_expr c' i)
  unfolding ident_expr
  l-ident_expr i = onward (l-check_name i) (λ a. l-literal i)

  -- ── the bindings, nodes and ends of statements ──

  l-bind : (is : List ℕ) → Likes (bind c is) (bind c' is)
  unfolding bind
  l-bind [] = like _
  l-bind (i ∷ is) = onward (l-store i Other) (λ a. l-bind is)

  l-with_return : (b : Bool) (m : ℕ) → Likes (with_return c b m) (with_return c' b m)
  unfolding with_return
  l-with_return false m = like _
  l-with_return true m = onward (like _) (λ t. either _ (like _) (onward (l-push _ _ _ _) (λ a. like _)))

  l-ident_node : Likes (ident_node c) (ident_node c')
  unfolding ident_node
  l-ident_node = onward (l-ident _) (λ i. onward (l-push _ _ _ _) (λ a. like _))

  l-param : Likes (param c) (param c')
  unfolding param
  l-param = onward l-ident_node (λ a. like _)

  l-ident_pair : Likes (ident_pair c) (ident_pair c')
  unfolding ident_pair
  l-ident_pair = onward l-ident_node (λ i. onward (l-expect _) (λ a. onward l-ident_node (λ j. onward (l-push _ _ _ _) (λ a. like _))))

  l-declare_var : (i m : ℕ) → Likes (declare_var c i m) (declare_var c' i m)
  unfolding declare_var
  l-declare_var i m = onward (like _) (λ g. onward (l-push _ _ _ _) (λ a. l-store i _))

  l-array_nodes : (i m : ℕ) → Likes (array_nodes c i m) (array_nodes c' i m)
  unfolding array_nodes
  l-array_nodes i m = either _ (l-push _ _ _ _) (onward (l-push _ _ _ _) (λ a. l-push _ _ _ _))

  l-end_if : (m elses : ℕ) → Likes (end_if c m elses) (end_if c' m elses)
  unfolding end_if
  l-end_if m elses = onward (either _ (onward (l-add_error _) (λ a. like _)) (like _)) (λ a. l-push _ _ _ _)

  module _ (r r' : Rec) (h : LikeRec r r') where
    -- ── expressions over the counted calls ──

    l-assign_expr : Likes (assign_expr c r) (assign_expr c' r')
    unfolding assign_expr
    l-assign_expr =
        onward (l-levels 7 r.unary r'.unary h.unary)
        (λ a. onward (like _) (λ t. onward (like _) (λ m. onward (like _) (λ k. onward (like _) (λ op. either _ (onward l-consume (λ a. onward h.assign (λ a. l-assign_to t (m - 1) op))) (like _))))))

    l-unary_expr : Likes (unary_expr c r) (unary_expr c' r')
    unfolding unary_expr
    l-unary_expr = onward (like _) (λ k. onward (like _) (λ i. either _ (onward l-consume (λ a. onward h.unary (λ a. l-push _ _ _ _))) h.call))

    l-group_expr : Likes (group_expr c r) (group_expr c' r')
    unfolding group_expr
    l-group_expr = onward l-consume (λ a. onward h.assign (λ a. l-expect _))

    l-at_expr : Likes (at_expr c r) (at_expr c' r')
    unfolding at_expr
    l-at_expr = onward l-consume (λ a. h.call)

    l-primary_expr : Likes (primary_expr c r) (primary_expr c' r')
    unfolding primary_expr
    l-primary_expr =
        onward (like _) (λ k. onward (like _) (λ i. either _ (l-literal i) (either _ (l-ident_expr i) (either _ l-group_expr (either _ l-at_expr (l-throw_past _))))))

    l-call_part : (t : Node) (i : ℕ) → Likes (call_part c r t i) (call_part c' r' t i)
    unfolding call_part
    l-call_part t i = onward l-consume (λ a. onward (l-param_list _ r.assign r'.assign 0 h.assign) (λ m. onward (l-expect _) (λ a. l-call_named t i m)))

    l-dot : (t : Node) (i : ℕ) → Likes (dot c r t i) (dot c' r' t i)
    unfolding dot
    l-dot t i =
        onward l-consume (λ a. onward (l-set_check false) (λ a. onward h.assign (λ a. onward (l-set_check true) (λ a. onward (l-single t 4 i) (λ a. l-push _ _ _ _)))))

    l-index : (t : Node) (i : ℕ) → Likes (index c r t i) (index c' r' t i)
    unfolding index
    l-index t i = onward l-consume (λ a. onward h.assign (λ a. onward (l-expect _) (λ a. onward (l-single t 5 i) (λ a. l-push _ _ _ _))))

    l-postfix : (t : Node) → Likes (postfix c r t) (postfix c' r' t)
    unfolding postfix
    l-postfix t = onward (like _) (λ k. onward (like _) (λ i. either _ (l-call_part t i) (either _ (l-dot t i) (either _ (l-index t i) (like _)))))

    l-fn_call_expr : Likes (fn_call_expr c r) (fn_call_expr c' r')
    unfolding fn_call_expr
    l-fn_call_expr = onward l-primary_expr (λ a. onward (like _) (λ t. l-postfix t))

    -- ── statements over the counted calls ──

    l-comma_list : (close f m : ℕ) (x x' : Void) → Likes x x' → Likes (comma_list c close x f m) (comma_list c' close x' f m)
    unfolding comma_list
    l-comma_list close zero m x x' y = like _
    l-comma_list close (suc f) m x x' y =
        onward (like _)
        (λ k. either _ (like _) (either _ (l-throw _) (onward y (λ a. onward (l-optional _) (λ more. either more (l-comma_list close f (suc m) x x' y) (like _))))))

    l-array_decl : (i : ℕ) → Likes (array_decl c r i) (array_decl c' r' i)
    unfolding array_decl
    l-array_decl i =
        onward (l-expect _)
        (λ a. onward (l-comma_list _ _ 0 r.assign r'.assign h.assign) (λ m. onward (l-expect _) (λ a. onward (l-expect _) (λ a. onward (l-array_nodes i m) (λ a. l-store i _)))))

    l-table_item : Likes (table_item c r) (table_item c' r')
    unfolding table_item
    l-table_item = onward (l-ident _) (λ key. onward (l-expect _) (λ a. onward h.assign (λ a. l-push _ _ _ _)))

    l-item_list : Likes (item_list c r) (item_list c' r')
    unfolding item_list
    l-item_list = onward (l-comma_list _ _ 0 (table_item c r) (table_item c' r') l-table_item) (λ m. l-push _ _ _ _)

    l-table_decl : (i : ℕ) → Likes (table_decl c r i) (table_decl c' r' i)
    unfolding table_decl
    l-table_decl i =
        onward (l-expect _) (λ a. onward l-item_list (λ a. onward (l-expect _) (λ a. onward (l-push _ _ _ _) (λ a. onward (l-store i _) (λ a. l-expect _)))))

    l-initial : (i : ℕ) → Likes (initial c r i) (initial c' r' i)
    unfolding initial
    l-initial i = onward (like _) (λ k. either _ (l-array_decl i) (either _ (l-table_decl i) (onward h.assign (λ a. l-expect _))))

    l-var_decl : Likes (var_decl c r) (var_decl c' r')
    unfolding var_decl
    l-var_decl =
        onward (l-expect _)
        (λ a.
        onward (l-ident _)
        (λ i.
        onward (like _)
        (λ k. either _ (onward l-consume (λ a. onward (l-initial i) (λ a. l-declare_var i 1))) (either _ (onward l-consume (λ a. l-declare_var i 0)) (l-throw _)))))

    l-fn_decl : Likes (fn_decl c r) (fn_decl c' r')
    unfolding fn_decl
    l-fn_decl =
        onward (l-expect _)
        (λ a.
        onward (l-ident _)
        (λ i.
        onward (l-store i _)
        (λ a.
        onward (l-expect _)
        (λ a.
        onward (l-param_list _ (param c) (param c') 0 l-param)
        (λ m.
        onward (like _)
        (λ names.
        onward (l-push _ _ _ _) (λ a. onward (l-expect _) (λ a. onward (h.block true names) (λ a. onward (l-push _ _ _ _) (λ a. l-store i _))))))))))

    l-elif_stmt : Likes (elif_stmt c r) (elif_stmt c' r')
    unfolding elif_stmt
    l-elif_stmt = onward l-consume (λ a. onward h.assign (λ a. onward (h.block false []) (λ a. l-push _ _ _ _)))

    l-else_block : Likes (else_block c r) (else_block c' r')
    unfolding else_block
    l-else_block = onward l-consume (λ a. h.block false [])

    l-branches : (f m elses : ℕ) → Likes (branches c r f m elses) (branches c' r' f m elses)
    unfolding branches
    l-branches zero m elses = l-end_if m elses
    l-branches (suc f) m elses =
        onward (like _)
        (λ k. either _ (onward l-elif_stmt (λ a. l-branches f (suc m) elses)) (either _ (onward l-else_block (λ a. l-branches f (suc m) (suc elses))) (l-end_if m elses)))

    l-if_stmt : Likes (if_stmt c r) (if_stmt c' r')
    unfolding if_stmt
    l-if_stmt = onward (l-expect _) (λ a. onward h.assign (λ a. onward (h.block false []) (λ a. l-branches _ 0 0)))

    l-for_stmt : Likes (for_stmt c r) (for_stmt c' r')
    unfolding for_stmt
    l-for_stmt =
        onward (l-expect _)
        (λ a. onward l-ident_pair (λ names. onward (l-expect _) (λ a. onward h.assign (λ a. onward (h.block false names) (λ a. l-push _ _ _ _)))))

    l-ret_stmt : Likes (ret_stmt c r) (ret_stmt c' r')
    unfolding ret_stmt
    l-ret_stmt =
        onward (l-expect _)
        (λ a. onward (like _) (λ k. either _ (onward l-consume (λ a. l-push _ _ _ _)) (onward h.assign (λ a. onward (l-expect _) (λ a. l-push _ _ _ _)))))

    l-expr_stmt : Likes (expr_stmt c r) (expr_stmt c' r')
    unfolding expr_stmt
    l-expr_stmt = onward h.assign (λ a. onward (l-expect _) (λ a. l-push _ _ _ _))

    l-stmt : Likes (stmt c r) (stmt c' r')
    unfolding stmt
    l-stmt = onward (like _) (λ k. either _ l-if_stmt (either _ l-for_stmt (either _ l-ret_stmt (either _ (h.block false []) l-expr_stmt))))

    l-decl : Likes (decl c r) (decl c' r')
    unfolding decl
    l-decl = onward (like _) (λ k. either _ l-var_decl (either _ l-fn_decl l-stmt))

    l-decls : (f m : ℕ) → Likes (decls c r f m) (decls c' r' f m)
    unfolding decls
    l-decls zero m = like _
    l-decls (suc f) m = onward (like _) (λ k. either _ (like _) (onward l-decl (λ a. l-decls f (suc m))))

    l-block : (b : Bool) (is : List ℕ) → Likes (block c r b is) (block c' r' b is)
    unfolding block
    l-block b is =
        onward (l-expect _)
        (λ a.
        onward l-init_scope
        (λ a.
        onward (l-bind is)
        (λ a.
        onward (l-decls _ 0)
        (λ m. onward (l-expect _) (λ a. onward (like _) (λ scope. onward l-close_scope (λ a. onward (l-with_return b m) (λ m'. l-push _ _ _ _))))))))

  -- ── the walk ──

  -- The counted calls.
  l-walkers : (d : ℕ) → LikeRec (walkers c d) (walkers c' d)
  unfolding walkers
  l-walkers zero = record { block = λ b is. like _; assign = like _; unary = like _; call = like _ }
  l-walkers (suc d) =
      let h : LikeRec (walkers c d) (walkers c' d) = l-walkers d in
      record {
        block = λ b is. l-block (walkers c d) (walkers c' d) h b is;
        assign = l-assign_expr (walkers c d) (walkers c' d) h;
        unary = l-unary_expr (walkers c d) (walkers c' d) h;
        call = l-fn_call_expr (walkers c d) (walkers c' d) h;
      }

  -- The match on a result.
  l-settled : (m : ℕ) {o o' : Out (Unit {0})} → Alike o o' → Alike (settled c m o) (settled c' m o')
  unfolding settled give_up set_nodes go_on
  l-settled m (same_out (done a s)) = same_out _
  l-settled m (same_out (fail x s)) = same_out _
  l-settled m (same_out (refuse x)) = same_out _
  l-settled m (left_out x o t) = left_out x _ t
  l-settled m (right-out x o t) = right-out x _ t

  l-top_decl : (d d' : Void) → Likes d d' → Likes (top_decl c d) (top_decl c' d')
  unfolding top_decl
  l-top_decl d d' h = onward (like _) (λ m. record { at = λ s. l-settled m (h.at s) })

  l-end_read : (m : ℕ) (flag : Bool) (early : Option Err) → Likes (end_read c m flag early) (end_read c' m flag early)
  unfolding end_read
  l-end_read m flag early = onward (l-push _ _ _ _) (λ a. like _)

  l-program : (f : ℕ) (d d' : Void) (m : ℕ) (flag : Bool) → Likes d d' → Likes (program c f d m flag) (program c' f d' m flag)
  unfolding program
  l-program zero d d' m flag h = l-end_read m flag none
  l-program (suc f) d d' m flag h =
      onward (like _)
      (λ k.
      either _ (l-end_read m flag none)
      (onward (l-top_decl d d' h)
      (λ x. elim x as (λ k.
      Likes
      (elim k as (λ z. M End) [ none ↦ program c f d (suc m) flag | some e ↦ if continuable c e.why then program c f d m true otherwise end_read c m true (some e) ])
      (elim k as (λ z. M End) [ none ↦ program c' f d' (suc m) flag | some e ↦ if continuable c' e.why then program c' f d' m true otherwise end_read c' m true (some e) ])) [
        | none ↦ l-program f d d' (suc m) flag h
        | some e ↦ either _ (l-program f d d' m true h) (l-end_read m true (some e))
      ])))

  -- Two walks of one script with rooms of their own come to the same, or one is refused for room.
  pub walk-alike : (depth : ℕ) → Alike (walk c depth) (walk c' depth)
  walk-alike depth =
      rw (walk_is c depth, walk_is c' depth)
      ((onward l-arrive (λ a. l-program _ (decl c (walkers c depth)) (decl c' (walkers c' depth)) 0 false (l-decl (walkers c depth) (walkers c' depth) (l-walkers depth)))).at start)
