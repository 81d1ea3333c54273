-- Where the typed trees of Typed.antt stand in the arrays: as the labels of that file have them, children first.
use Rattle.std.specs.Prelude.{ℕ, suc, ◌+◌, List, length}
use Rattle.sifc_def.specs.State.{W}
use Rattle.sifc_def.specs.Ast.{Program, Block, IfStmt, ElifStmt, ForStmt, ReturnStmt, ExprStmt, VarDecl, FnDecl, FnParams, IdentPair, ItemList, TableItem, Table, TableAccess, Array, ArrayItems, ArrayAccess, ArrayMutExpr, FnCallExpr, VarAssignExpr, BinaryExpr, UnaryExpr, PrimaryExpr}
use Rattle.sifc_def.specs.Typed.{Expr, prim, un, bin, call, dot, idx, set, mut, Exprs, nil, more, many, Items, no_item, item, many_items, Stmt, var_none, var_expr, var_array, var_table, func, block, cond, loop, ret, ret_expr, expr_stmt, Stmts, stop, next, counted, Branches, no_branch, elif_of, else_of, many_branches}
use Rattle.sifc_put.specs.Place.{Inp, Nothing, Then, Along, Over, Told}

-- a single token, as an operand, a target, a parameter or a loop's name
abbrev pub Single : Inp → W → ℕ → ℕ → Type 0
Single I x lo hi = Told I PrimaryExpr 0 x Nothing lo hi

-- an expression, and expressions one after another
unfoldable mutual
  pub Spans : Inp → Expr → ℕ → ℕ → Type 0
  Spans I (prim x) lo hi = Single I x lo hi
  Spans I (un o e) lo hi = Told I UnaryExpr 1 o (λ a b. Spans I e a b) lo hi
  Spans I (bin o l r) lo hi = Told I BinaryExpr 2 o (λ a b. Then (λ c d. Spans I l c d) (λ c d. Spans I r c d) a b) lo hi
  Spans I (call x es) lo hi = Over I FnCallExpr (suc (many es)) (λ a b. Then (λ c d. Single I x c d) (λ c d. SpansAll I es c d) a b) lo hi
  Spans I (dot x e) lo hi = Over I TableAccess 2 (λ a b. Then (λ c d. Single I x c d) (λ c d. Spans I e c d) a b) lo hi
  Spans I (idx x e) lo hi = Over I ArrayAccess 2 (λ a b. Then (λ c d. Single I x c d) (λ c d. Spans I e c d) a b) lo hi
  Spans I (set x g e) lo hi = Over I VarAssignExpr 2 (λ a b. Then (λ c d. Single I x c d) (λ c d. Spans I e c d) a b) lo hi
  Spans I (mut x i e) lo hi = Over I ArrayMutExpr 3 (λ a b. Then (λ c d. Then (λ f g. Single I x f g) (λ f g. Spans I i f g) c d) (λ c d. Spans I e c d) a b) lo hi

  pub SpansAll : Inp → Exprs → ℕ → ℕ → Type 0
  SpansAll I nil lo hi = Nothing lo hi
  SpansAll I (more e es) lo hi = Then (λ a b. Spans I e a b) (λ a b. SpansAll I es a b) lo hi

-- an item of a table: a key and its value
abbrev pub SpansItem : Inp → W → Expr → ℕ → ℕ → Type 0
SpansItem I x e lo hi = Told I TableItem 1 x (λ a b. Spans I e a b) lo hi

unfoldable pub SpansItems : Inp → Items → ℕ → ℕ → Type 0
SpansItems I no_item lo hi = Nothing lo hi
SpansItems I (item x e is) lo hi = Then (λ a b. SpansItem I x e a b) (λ a b. SpansItems I is a b) lo hi

-- an array: "A non-empty Array has one ArrayItems child."
unfoldable pub SpansArray : Inp → Exprs → ℕ → ℕ → Type 0
SpansArray I nil lo hi = Over I Array 0 Nothing lo hi
SpansArray I (more e es) lo hi = Over I Array 1 (λ a b. Over I ArrayItems (suc (many es)) (λ c d. SpansAll I (more e es) c d) a b) lo hi

-- a table
abbrev pub SpansTable : Inp → Items → ℕ → ℕ → Type 0
SpansTable I is lo hi = Over I Table 1 (λ a b. Over I ItemList (many_items is) (λ c d. SpansItems I is c d) a b) lo hi

-- the parameters of a function
abbrev pub SpansNames : Inp → List W → ℕ → ℕ → Type 0
SpansNames I ns lo hi = Over I FnParams (length ns) (λ a b. Along (Single I) ns a b) lo hi

-- the two names of a loop
abbrev pub SpansPair : Inp → W → W → ℕ → ℕ → Type 0
SpansPair I x y lo hi = Over I IdentPair 2 (λ a b. Then (λ c d. Single I x c d) (λ c d. Single I y c d) a b) lo hi

-- a statement, statements one after another, and the further branches of an `if`
unfoldable mutual
  pub SpansS : Inp → Stmt → ℕ → ℕ → Type 0
  SpansS I (var_none x) lo hi = Told I VarDecl 0 x Nothing lo hi
  SpansS I (var_expr x e) lo hi = Told I VarDecl 1 x (λ a b. Spans I e a b) lo hi
  SpansS I (var_array x es) lo hi = Told I VarDecl 1 x (λ a b. SpansArray I es a b) lo hi
  SpansS I (var_table x is) lo hi = Told I VarDecl 1 x (λ a b. SpansTable I is a b) lo hi
  SpansS I (func x ns ss) lo hi = Told I FnDecl 2 x (λ a b. Then (λ c d. SpansNames I ns c d) (λ c d. Over I Block (counted ss) (λ f g. SpansSs I ss f g) c d) a b) lo hi
  SpansS I (block ss) lo hi = Over I Block (counted ss) (λ a b. SpansSs I ss a b) lo hi
  SpansS I (cond e ss bs) lo hi =
      Over I IfStmt (2 + many_branches bs)
      (λ a b. Then (λ c d. Then (λ f g. Spans I e f g) (λ f g. Over I Block (counted ss) (λ p q. SpansSs I ss p q) f g) c d) (λ c d. SpansBs I bs c d) a b) lo hi
  SpansS I (loop x y e ss) lo hi =
      Over I ForStmt 3
      (λ a b. Then (λ c d. Then (λ f g. SpansPair I x y f g) (λ f g. Spans I e f g) c d) (λ c d. Over I Block (counted ss) (λ f g. SpansSs I ss f g) c d) a b) lo hi
  SpansS I ret lo hi = Over I ReturnStmt 0 Nothing lo hi
  SpansS I (ret_expr e) lo hi = Over I ReturnStmt 1 (λ a b. Spans I e a b) lo hi
  SpansS I (expr_stmt e) lo hi = Over I ExprStmt 1 (λ a b. Spans I e a b) lo hi

  pub SpansSs : Inp → Stmts → ℕ → ℕ → Type 0
  SpansSs I stop lo hi = Nothing lo hi
  SpansSs I (next t ts) lo hi = Then (λ a b. SpansS I t a b) (λ a b. SpansSs I ts a b) lo hi

  pub SpansBs : Inp → Branches → ℕ → ℕ → Type 0
  SpansBs I no_branch lo hi = Nothing lo hi
  SpansBs I (elif_of e ss bs) lo hi =
      Then (λ a b. Over I ElifStmt 2 (λ c d. Then (λ f g. Spans I e f g) (λ f g. Over I Block (counted ss) (λ p q. SpansSs I ss p q) f g) c d) a b) (λ a b. SpansBs I bs a b) lo hi
  SpansBs I (else_of ss bs) lo hi = Then (λ a b. Over I Block (counted ss) (λ c d. SpansSs I ss c d) a b) (λ a b. SpansBs I bs a b) lo hi

-- a block
abbrev pub SpansBlock : Inp → Stmts → ℕ → ℕ → Type 0
SpansBlock I ss lo hi = Over I Block (counted ss) (λ a b. SpansSs I ss a b) lo hi

-- a program
abbrev pub SpansProgram : Inp → Stmts → ℕ → ℕ → Type 0
SpansProgram I ts lo hi = Over I Program (counted ts) (λ a b. SpansSs I ts a b) lo hi
