-- Typed trees of the whole grammar: what a reading makes of a script. Each has its words (its print, kind and text of each token), its labels (newest first,
-- as the walk keeps its nodes), what a reading checks of it, and the names that it leaves.
use Rattle.std.specs.Prelude.{ℕ, suc, ◌+◌, ◌≤◌, ◌<◌, ◌≡◌, List, [], ◌∷◌, ◌++◌, Bool, true, false, ◌&&◌, ◌||◌, not, T, eqb, leb, ltb, length}
use Rattle.std.proofs.Math.Option.{Option, none, some}
use Rattle.sifc_word.specs.Kind.{LeftParen, RightParen, LeftBrace, RightBrace, LeftBracket, RightBracket, Semicolon, Eq, Period, Comma, EqArrow, DoubleLeftBracket, DoubleRightBracket, Ident, Str, Var, Fn, Return, If, Elif, Else, For, In, Eof}
use Rattle.sifc_word.specs.Reserved.{is_std_lib_fn}
use Rattle.sifc_def.specs.declared.What.{What}
use Rattle.sifc_def.specs.declared.What.TheVariants.{Placeholder, Function, Variable, Other}
use Rattle.sifc_def.specs.Ascii.{ascii}
use Rattle.sifc_def.specs.Ast.{Program, Block, IfStmt, ElifStmt, ForStmt, ReturnStmt, ExprStmt, VarDecl, FnDecl, FnParams, IdentPair, ItemList, TableItem, Table, TableAccess, Array, ArrayItems, ArrayAccess, ArrayMutExpr, FnCallExpr, VarAssignExpr, BinaryExpr, UnaryExpr, PrimaryExpr}
use Rattle.sifc_def.specs.State.{W, name_of, Sym}
use Rattle.sifc_def.specs.Symbols.{find, put_at}
use Rattle.sifc_def.specs.Expr.{looseness, is_unary, is_literal, fn_param_max_len}
use Rattle.sifc_def.specs.Label.{Lab, lab}

-- ── trees ──

-- A word is a token's kind and text. `set` is an assignment to a variable (is it global), `mut` one to an array's element; `call`, `dot`, `idx` have a single
-- token as their target.
mutual
  pub data Expr : Type 0 where
    prim : W → Expr
    un : W → Expr → Expr
    bin : W → Expr → Expr → Expr
    call : W → Exprs → Expr
    dot : W → Expr → Expr
    idx : W → Expr → Expr
    set : W → Bool → Expr → Expr
    mut : W → Expr → Expr → Expr

  pub data Exprs : Type 0 where
    nil : Exprs
    more : Expr → Exprs → Exprs

-- the items of a table, in source order: a key and its value
pub data Items : Type 0 where
  no_item : Items
  item : W → Expr → Items → Items

-- A function's body holds its last `return ;`, inserted or written. The further branches of an `if` are in source order.
mutual
  pub data Stmt : Type 0 where
    var_none : W → Stmt
    var_expr : W → Expr → Stmt
    var_array : W → Exprs → Stmt
    var_table : W → Items → Stmt
    func : W → List W → Stmts → Stmt
    block : Stmts → Stmt
    cond : Expr → Stmts → Branches → Stmt
    loop : W → W → Expr → Stmts → Stmt
    ret : Stmt
    ret_expr : Expr → Stmt
    expr_stmt : Expr → Stmt

  pub data Stmts : Type 0 where
    stop : Stmts
    next : Stmt → Stmts → Stmts

  pub data Branches : Type 0 where
    no_branch : Branches
    elif_of : Expr → Stmts → Branches → Branches
    else_of : Stmts → Branches → Branches

unfoldable pub many : Exprs → ℕ
many nil = 0
many (more e es) = suc (many es)

unfoldable pub many_items : Items → ℕ
many_items no_item = 0
many_items (item x e is) = suc (many_items is)

unfoldable pub counted : Stmts → ℕ
counted stop = 0
counted (next t ts) = suc (counted ts)

unfoldable pub many_branches : Branches → ℕ
many_branches no_branch = 0
many_branches (elif_of e ss bs) = suc (many_branches bs)
many_branches (else_of ss bs) = suc (many_branches bs)

-- ── words ──

abbrev pub word : ℕ → List ℕ → W
word k t = record { kind = k; text = t }

abbrev pub lp : W
lp = word LeftParen (ascii "(")

abbrev pub rp : W
rp = word RightParen (ascii ")")

abbrev pub lb : W
lb = word LeftBracket (ascii "[")

abbrev pub rb : W
rb = word RightBracket (ascii "]")

abbrev pub eq : W
eq = word Eq (ascii "=")

abbrev pub period : W
period = word Period (ascii ".")

abbrev pub comma : W
comma = word Comma (ascii ",")

abbrev pub semi : W
semi = word Semicolon (ascii ";")

abbrev pub arrow : W
arrow = word EqArrow (ascii "=>")

abbrev pub dlb : W
dlb = word DoubleLeftBracket (ascii "[[")

abbrev pub drb : W
drb = word DoubleRightBracket (ascii "]]")

abbrev pub lbrace : W
lbrace = word LeftBrace (ascii "{")

abbrev pub rbrace : W
rbrace = word RightBrace (ascii "}")

abbrev pub var_word : W
var_word = word Var (ascii "var")

abbrev pub fn_word : W
fn_word = word Fn (ascii "fn")

abbrev pub return_word : W
return_word = word Return (ascii "return")

abbrev pub if_word : W
if_word = word If (ascii "if")

abbrev pub elif_word : W
elif_word = word Elif (ascii "elif")

abbrev pub else_word : W
else_word = word Else (ascii "else")

abbrev pub for_word : W
for_word = word For (ascii "for")

abbrev pub in_word : W
in_word = word In (ascii "in")

abbrev pub eof_word : W
eof_word = word Eof []

-- 8 less the strength of document 01, and 0 for what binds tighter
unfoldable pub height : Expr → ℕ
height (prim x) = 0
height (un o e) = 0
height (bin o l r) = looseness o.kind
height (call x es) = 0
height (dot x e) = 8
height (idx x e) = 0
height (set x g e) = 8
height (mut x i e) = 8

-- bare, or in parentheses
unfoldable pub wrap : Bool → (List W → List W) → List W → List W
wrap true f rest = f rest
wrap false f rest = lp ∷ f (rp ∷ rest)

-- a comma, where another one follows
unfoldable pub between : Exprs → List W → List W
between nil ws = ws
between (more e es) ws = comma ∷ ws

unfoldable pub between_names : List W → List W → List W
between_names [] ws = ws
between_names (x ∷ xs) ws = comma ∷ ws

unfoldable pub between_items : Items → List W → List W
between_items no_item ws = ws
between_items (item x e is) ws = comma ∷ ws

-- the words of a tree, before the rest
unfoldable mutual
  pub pr : Expr → List W → List W
  pr (prim x) rest = x ∷ rest
  pr (un o e) rest = o ∷ wrap (leb (height e) 0) (pr e) rest
  pr (bin o l r) rest = wrap (leb (height l) (looseness o.kind)) (pr l) (o ∷ wrap (ltb (height r) (looseness o.kind)) (pr r) rest)
  pr (call x es) rest = x ∷ lp ∷ prs es (rp ∷ rest)
  pr (dot x e) rest = x ∷ period ∷ pr e rest
  pr (idx x e) rest = x ∷ lb ∷ pr e (rb ∷ rest)
  pr (set x g e) rest = x ∷ eq ∷ pr e rest
  pr (mut x i e) rest = x ∷ lb ∷ pr i (rb ∷ eq ∷ pr e rest)

  pub prs : Exprs → List W → List W
  prs nil rest = rest
  prs (more e es) rest = pr e (between es (prs es rest))

unfoldable pub pr_names : List W → List W → List W
pr_names [] rest = rest
pr_names (x ∷ xs) rest = x ∷ between_names xs (pr_names xs rest)

unfoldable pub pr_items : Items → List W → List W
pr_items no_item rest = rest
pr_items (item x e is) rest = x ∷ arrow ∷ pr e (between_items is (pr_items is rest))

unfoldable mutual
  pub pr_s : Stmt → List W → List W
  pr_s (var_none x) rest = var_word ∷ x ∷ semi ∷ rest
  pr_s (var_expr x e) rest = var_word ∷ x ∷ eq ∷ pr e (semi ∷ rest)
  pr_s (var_array x es) rest = var_word ∷ x ∷ eq ∷ lb ∷ prs es (rb ∷ semi ∷ rest)
  pr_s (var_table x is) rest = var_word ∷ x ∷ eq ∷ dlb ∷ pr_items is (drb ∷ semi ∷ rest)
  pr_s (func x ns ss) rest = fn_word ∷ x ∷ lp ∷ pr_names ns (rp ∷ lbrace ∷ pr_ss ss (rbrace ∷ rest))
  pr_s (block ss) rest = lbrace ∷ pr_ss ss (rbrace ∷ rest)
  pr_s (cond e ss bs) rest = if_word ∷ pr e (lbrace ∷ pr_ss ss (rbrace ∷ pr_bs bs rest))
  pr_s (loop x y e ss) rest = for_word ∷ x ∷ comma ∷ y ∷ in_word ∷ pr e (lbrace ∷ pr_ss ss (rbrace ∷ rest))
  pr_s ret rest = return_word ∷ semi ∷ rest
  pr_s (ret_expr e) rest = return_word ∷ pr e (semi ∷ rest)
  pr_s (expr_stmt e) rest = pr e (semi ∷ rest)

  pub pr_ss : Stmts → List W → List W
  pr_ss stop rest = rest
  pr_ss (next t ts) rest = pr_s t (pr_ss ts rest)

  pub pr_bs : Branches → List W → List W
  pr_bs no_branch rest = rest
  pr_bs (elif_of e ss bs) rest = elif_word ∷ pr e (lbrace ∷ pr_ss ss (rbrace ∷ pr_bs bs rest))
  pr_bs (else_of ss bs) rest = else_word ∷ lbrace ∷ pr_ss ss (rbrace ∷ pr_bs bs rest)

-- the words of a program, a list of declarations: its end stands at the script's end
abbrev pub pr_program : Stmts → List W
pr_program ts = pr_ss ts (eof_word ∷ [])

-- ── labels, newest first ──

-- a node without scope or text, and one with the text of a token
abbrev pub bare : ℕ → Bool → ℕ → Lab
bare k f n = lab k f n 0 []

abbrev pub said : ℕ → Bool → ℕ → W → Lab
said k f n x = lab k f n 0 x.text

abbrev pub prim_lab : W → Lab
prim_lab x = said PrimaryExpr false 0 x

unfoldable mutual
  pub renc : Expr → List Lab
  renc (prim x) = prim_lab x ∷ []
  renc (un o e) = said UnaryExpr false 1 o ∷ renc e
  renc (bin o l r) = said BinaryExpr false 2 o ∷ (renc r ++ renc l)
  renc (call x es) = bare FnCallExpr (is_std_lib_fn (name_of x)) (suc (many es)) ∷ (rencs es ++ (prim_lab x ∷ []))
  renc (dot x e) = bare TableAccess false 2 ∷ (renc e ++ (prim_lab x ∷ []))
  renc (idx x e) = bare ArrayAccess false 2 ∷ (renc e ++ (prim_lab x ∷ []))
  renc (set x g e) = said VarAssignExpr g 2 x ∷ (renc e ++ (prim_lab x ∷ []))
  renc (mut x i e) = bare ArrayMutExpr false 3 ∷ (renc e ++ (renc i ++ (prim_lab x ∷ [])))

  pub rencs : Exprs → List Lab
  rencs nil = []
  rencs (more e es) = rencs es ++ renc e

unfoldable pub renc_names : List W → List Lab
renc_names [] = []
renc_names (x ∷ xs) = renc_names xs ++ (prim_lab x ∷ [])

unfoldable pub renc_items : Items → List Lab
renc_items no_item = []
renc_items (item x e is) = renc_items is ++ (said TableItem false 1 x ∷ renc e)

-- an array, by its items: "A non-empty Array has one ArrayItems child."
unfoldable pub renc_array : W → Exprs → List Lab
renc_array x nil = said Array false 0 x ∷ []
renc_array x (more e es) = said Array false 1 x ∷ bare ArrayItems false (suc (many es)) ∷ rencs (more e es)

-- what stands at level l: is_global of a variable
unfoldable pub global_at : ℕ → Bool
global_at l = eqb l 0

-- a block whose inside is level l, with n declarations
abbrev pub block_lab : ℕ → ℕ → Lab
block_lab n l = lab Block false n l []

-- the labels of what stands at level l
unfoldable mutual
  pub renc_s : ℕ → Stmt → List Lab
  renc_s l (var_none x) = said VarDecl (global_at l) 0 x ∷ []
  renc_s l (var_expr x e) = said VarDecl (global_at l) 1 x ∷ renc e
  renc_s l (var_array x es) = said VarDecl (global_at l) 1 x ∷ renc_array x es
  renc_s l (var_table x is) = said VarDecl (global_at l) 1 x ∷ said Table false 1 x ∷ bare ItemList false (many_items is) ∷ renc_items is
  renc_s l (func x ns ss) = said FnDecl false 2 x ∷ ((block_lab (counted ss) (suc l) ∷ renc_ss (suc l) ss) ++ (bare FnParams false (length ns) ∷ renc_names ns))
  renc_s l (block ss) = block_lab (counted ss) (suc l) ∷ renc_ss (suc l) ss
  renc_s l (cond e ss bs) = bare IfStmt false (2 + many_branches bs) ∷ (renc_bs l bs ++ ((block_lab (counted ss) (suc l) ∷ renc_ss (suc l) ss) ++ renc e))
  renc_s l (loop x y e ss) = bare ForStmt false 3 ∷ ((block_lab (counted ss) (suc l) ∷ renc_ss (suc l) ss) ++ (renc e ++ (bare IdentPair false 2 ∷ prim_lab y ∷ prim_lab x ∷ [])))
  renc_s l ret = bare ReturnStmt false 0 ∷ []
  renc_s l (ret_expr e) = bare ReturnStmt false 1 ∷ renc e
  renc_s l (expr_stmt e) = bare ExprStmt false 1 ∷ renc e

  pub renc_ss : ℕ → Stmts → List Lab
  renc_ss l stop = []
  renc_ss l (next t ts) = renc_ss l ts ++ renc_s l t

  pub renc_bs : ℕ → Branches → List Lab
  renc_bs l no_branch = []
  renc_bs l (elif_of e ss bs) = renc_bs l bs ++ (bare ElifStmt false 2 ∷ ((block_lab (counted ss) (suc l) ∷ renc_ss (suc l) ss) ++ renc e))
  renc_bs l (else_of ss bs) = renc_bs l bs ++ (block_lab (counted ss) (suc l) ∷ renc_ss (suc l) ss)

-- the labels of a program
unfoldable pub renc_program : Stmts → List Lab
renc_program ts = bare Program false (counted ts) ∷ renc_ss 0 ts

-- ── what a reading checks ──

-- name checking after an expression: a `.` ends with it on
unfoldable mutual
  pub ends : Bool → Expr → Bool
  ends b (prim x) = b
  ends b (un o e) = ends b e
  ends b (bin o l r) = ends (ends b l) r
  ends b (call x es) = endss b es
  ends b (dot x e) = true
  ends b (idx x e) = ends b e
  ends b (set x g e) = ends b e
  ends b (mut x i e) = ends (ends b i) e

  pub endss : Bool → Exprs → Bool
  endss b nil = b
  endss b (more e es) = endss (ends b e) es

unfoldable pub is_some : Option What → Bool
is_some none = false
is_some (some x) = true

-- what a name was declared as may be called with n arguments
unfoldable pub wants : Option What → ℕ → Bool
wants none n = false
wants (some Placeholder) n = true
wants (some (Function m)) n = eqb m n
wants (some (Variable i g)) n = eqb 0 n
wants (some Other) n = eqb 0 n

-- by a look-up of names that tells no declaring tokens apart: a variable's index is 0
module _ (look : List ℕ → Option What) where
  -- a single token that may stand as an expression
  unfoldable pub fine : Bool → W → Bool
  fine b x = is_literal x.kind || (eqb x.kind Ident && (not b || (is_some (look (name_of x)) || is_std_lib_fn (name_of x))))

  -- a name or a string that may be called with n arguments
  unfoldable pub callable : W → ℕ → Bool
  callable x n = (eqb x.kind Ident || eqb x.kind Str) && (leb n fn_param_max_len && (is_std_lib_fn (name_of x) || wants (look (name_of x)) n))

  unfoldable mutual
    pub Ok : Bool → Expr → Type 0
    Ok b (prim x) = T (fine b x)
    Ok b (un o e) = T (is_unary o.kind) × Ok b e
    Ok b (bin o l r) = (0 < looseness o.kind) × Ok b l × Ok (ends b l) r
    Ok b (call x es) = T (fine b x) × T (callable x (many es)) × Oks b es
    Ok b (dot x e) = T (fine b x) × Ok false e
    Ok b (idx x e) = T (fine b x) × Ok b e
    Ok b (set x g e) = T (fine b x) × (x.kind ≡ Ident) × (look (name_of x) ≡ some (Variable 0 g)) × Ok b e
    Ok b (mut x i e) = T (fine b x) × Ok b i × Ok (ends b i) e

    pub Oks : Bool → Exprs → Type 0
    Oks b nil = Unit {0}
    Oks b (more e es) = Ok b e × Oks (ends b e) es

  -- the items of a table: a key is a name
  unfoldable pub OkItems : Items → Type 0
  OkItems no_item = Unit {0}
  OkItems (item x e is) = (x.kind ≡ Ident) × Ok true e × OkItems is

-- names that are bound
unfoldable pub OkNames : List W → Type 0
OkNames [] = Unit {0}
OkNames (x ∷ xs) = (x.kind ≡ Ident) × OkNames xs

-- the last one is a return
unfoldable pub is_return : Stmt → Bool
is_return (var_none x) = false
is_return (var_expr x e) = false
is_return (var_array x es) = false
is_return (var_table x is) = false
is_return (func x ns ss) = false
is_return (block ss) = false
is_return (cond e ss bs) = false
is_return (loop x y e ss) = false
is_return ret = true
is_return (ret_expr e) = true
is_return (expr_stmt e) = false

unfoldable mutual
  pub returns : Stmts → Bool
  returns stop = false
  returns (next t ts) = returns_last t ts

  pub returns_last : Stmt → Stmts → Bool
  returns_last t stop = is_return t
  returns_last t (next u ts) = returns_last u ts

-- The names, without their declaring tokens, that stand after a tree: "`close_scope` lowers the level and forgets nothing". Names are checked wherever a statement begins.
unfoldable pub bound : ℕ → List W → List Sym → List Sym
bound l [] E = E
bound l (x ∷ xs) E = bound l xs (put_at l (name_of x) Other E)

-- a variable is declared at level l
unfoldable pub declared : ℕ → W → List Sym → List Sym
declared l x E = put_at l (name_of x) (Variable 0 (global_at l)) E

-- an array or a table stores its name as no variable first
unfoldable pub stored : ℕ → W → List Sym → List Sym
stored l x E = put_at l (name_of x) Other E

-- the names inside a function's body
unfoldable pub inside : ℕ → W → List W → List Sym → List Sym
inside l x ns E = bound (suc l) ns (put_at l (name_of x) Placeholder E)

unfoldable mutual
  pub env_s : ℕ → List Sym → Stmt → List Sym
  env_s l E (var_none x) = declared l x E
  env_s l E (var_expr x e) = declared l x E
  env_s l E (var_array x es) = declared l x (stored l x E)
  env_s l E (var_table x is) = declared l x (stored l x E)
  env_s l E (func x ns ss) = put_at l (name_of x) (Function (length ns)) (env_ss (suc l) (inside l x ns E) ss)
  env_s l E (block ss) = env_ss (suc l) E ss
  env_s l E (cond e ss bs) = env_bs l (env_ss (suc l) E ss) bs
  env_s l E (loop x y e ss) = env_ss (suc l) (bound (suc l) (x ∷ y ∷ []) E) ss
  env_s l E ret = E
  env_s l E (ret_expr e) = E
  env_s l E (expr_stmt e) = E

  pub env_ss : ℕ → List Sym → Stmts → List Sym
  env_ss l E stop = E
  env_ss l E (next t ts) = env_ss l (env_s l E t) ts

  pub env_bs : ℕ → List Sym → Branches → List Sym
  env_bs l E no_branch = E
  env_bs l E (elif_of e ss bs) = env_bs l (env_ss (suc l) E ss) bs
  env_bs l E (else_of ss bs) = env_bs l (env_ss (suc l) E ss) bs

-- the names E, as level l sees them
abbrev pub seen : ℕ → List Sym → List ℕ → Option What
seen l E n = find l n E

unfoldable mutual
  pub OkS : ℕ → List Sym → Stmt → Type 0
  OkS l E (var_none x) = x.kind ≡ Ident
  OkS l E (var_expr x e) = (x.kind ≡ Ident) × Ok (seen l E) true e
  OkS l E (var_array x es) = (x.kind ≡ Ident) × Oks (seen l E) true es
  OkS l E (var_table x is) = (x.kind ≡ Ident) × OkItems (seen l E) is
  OkS l E (func x ns ss) = (x.kind ≡ Ident) × OkNames ns × (length ns ≤ fn_param_max_len) × T (returns ss) × OkSs (suc l) (inside l x ns E) ss
  OkS l E (block ss) = OkSs (suc l) E ss
  OkS l E (cond e ss bs) = Ok (seen l E) true e × OkSs (suc l) E ss × OkBs l (env_ss (suc l) E ss) bs
  OkS l E (loop x y e ss) = (x.kind ≡ Ident) × (y.kind ≡ Ident) × Ok (seen l E) true e × OkSs (suc l) (bound (suc l) (x ∷ y ∷ []) E) ss
  OkS l E ret = Unit {0}
  OkS l E (ret_expr e) = Ok (seen l E) true e
  OkS l E (expr_stmt e) = Ok (seen l E) true e

  pub OkSs : ℕ → List Sym → Stmts → Type 0
  OkSs l E stop = Unit {0}
  OkSs l E (next t ts) = OkS l E t × OkSs l (env_s l E t) ts

  pub OkBs : ℕ → List Sym → Branches → Type 0
  OkBs l E no_branch = Unit {0}
  OkBs l E (elif_of e ss bs) = Ok (seen l E) true e × OkSs (suc l) E ss × OkBs l (env_ss (suc l) E ss) bs
  OkBs l E (else_of ss bs) = OkSs (suc l) E ss × OkBs l (env_ss (suc l) E ss) bs

-- a program: no names yet
abbrev pub OkProgram : Stmts → Type 0
OkProgram ts = OkSs 0 [] ts

-- ── where the words come from ──

-- each word of a tree that is not fixed has the property
module _ (Good : W → Type 0) where
  unfoldable mutual
    pub Said : Expr → Type 0
    Said (prim x) = Good x
    Said (un o e) = Good o × Said e
    Said (bin o l r) = Good o × Said l × Said r
    Said (call x es) = Good x × Saids es
    Said (dot x e) = Good x × Said e
    Said (idx x e) = Good x × Said e
    Said (set x g e) = Good x × Said e
    Said (mut x i e) = Good x × Said i × Said e

    pub Saids : Exprs → Type 0
    Saids nil = Unit {0}
    Saids (more e es) = Said e × Saids es

  unfoldable pub SaidNames : List W → Type 0
  SaidNames [] = Unit {0}
  SaidNames (x ∷ xs) = Good x × SaidNames xs

  unfoldable pub SaidItems : Items → Type 0
  SaidItems no_item = Unit {0}
  SaidItems (item x e is) = Good x × Said e × SaidItems is

  unfoldable mutual
    pub SaidS : Stmt → Type 0
    SaidS (var_none x) = Good x
    SaidS (var_expr x e) = Good x × Said e
    SaidS (var_array x es) = Good x × Saids es
    SaidS (var_table x is) = Good x × SaidItems is
    SaidS (func x ns ss) = Good x × SaidNames ns × SaidSs ss
    SaidS (block ss) = SaidSs ss
    SaidS (cond e ss bs) = Said e × SaidSs ss × SaidBs bs
    SaidS (loop x y e ss) = Good x × Good y × Said e × SaidSs ss
    SaidS ret = Unit {0}
    SaidS (ret_expr e) = Said e
    SaidS (expr_stmt e) = Said e

    pub SaidSs : Stmts → Type 0
    SaidSs stop = Unit {0}
    SaidSs (next t ts) = SaidS t × SaidSs ts

    pub SaidBs : Branches → Type 0
    SaidBs no_branch = Unit {0}
    SaidBs (elif_of e ss bs) = Said e × SaidSs ss × SaidBs bs
    SaidBs (else_of ss bs) = SaidSs ss × SaidBs bs
