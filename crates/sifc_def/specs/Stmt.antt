-- Declarations and statements: decl down to expr_stmt of parser.rs.
use Rattle.std.specs.Prelude.{ℕ, zero, suc, ◌+◌, List, [], ◌∷◌, Bool, true, false, ◌&&◌, ◌||◌, eqb, ltb}
use Rattle.sifc_word.specs.Base.{if◌then◌otherwise◌}
use Rattle.sifc_word.specs.Kind.{LeftParen, RightParen, LeftBrace, RightBrace, LeftBracket, RightBracket, Semicolon, Eq, Comma, EqArrow, DoubleLeftBracket, DoubleRightBracket, Var, Fn, Return, If, Elif, Else, For, In, Eof}
use Rattle.sifc_err.specs.declared.parse_err.ParseErrTy.TheVariants.{InvalidTknMsg, InvalidIfStmt, ExpectedIdent}
use Rattle.sifc_def.specs.declared.What.TheVariants.{Placeholder, Function, Variable, Other}
use Rattle.sifc_def.specs.Ast.{Block, IfStmt, ElifStmt, ForStmt, ReturnStmt, ExprStmt, VarDecl, FnDecl, FnParams, IdentPair, ItemList, TableItem, Table, Array, ArrayItems, PrimaryExpr}
use Rattle.sifc_def.specs.State.{Ctx, M, Void, ◌>>=◌, ◌>>◌, return, ok, when, kind_now, consume, add_error, throw, expect, optional, ident, push, top, loads}
use Rattle.sifc_def.specs.Symbols.{store, level_now, is_global, init_scope, close_scope}
use Rattle.sifc_def.specs.Expr.{Rec, end_of_file, fuel, param_list}

-- the messages "expected either '=' or ';" and "expected identifier" of InvalidTkn
abbrev pub eq_or_semicolon : ℕ
eq_or_semicolon = 1

abbrev pub an_identifier : ℕ
an_identifier = 3

module _ (c : Ctx) where
  -- the bindings of a block, in order
  unfoldable pub bind : List ℕ → Void
  bind [] = ok
  bind (i ∷ is) = do
    store c i Other
    bind is

  -- "a function's Block follows its inserted ReturnStmt": one is inserted where the last of n declarations is none
  unfoldable pub with_return : Bool → ℕ → M ℕ
  with_return false n = return n
  with_return true n = do
    last ← top c
    if ltb 0 n && eqb last.kind ReturnStmt then return n
        otherwise do
          push c ReturnStmt false 0 0
          return (suc n)

  -- a name and its node, the token taken first: a parameter, or one of ident_pair
  unfoldable pub ident_node : M ℕ
  ident_node = do
    i ← ident c ExpectedIdent
    push c PrimaryExpr false 0 i
    return i

  unfoldable pub param : Void
  param = do
    ident_node
    ok

  -- ident_pair: the two names' tokens
  unfoldable pub ident_pair : M (List ℕ)
  ident_pair = do
    i ← ident_node
    expect c Comma
    j ← ident_node
    push c IdentPair false 2 0
    return (i ∷ j ∷ [])

  -- the end of var_decl: token i is declared, with n initial values
  unfoldable pub declare_var : ℕ → ℕ → Void
  declare_var i n = do
    g ← is_global c
    push c VarDecl g n i
    store c i (Variable i g)

  -- the end of array_decl, with n items: "A non-empty Array has one ArrayItems child."
  unfoldable pub array_nodes : ℕ → ℕ → Void
  array_nodes i n =
      if eqb n 0 then push c Array false 0 i
      otherwise do
        push c ArrayItems false n 0
        push c Array false 1 i

  -- the end of if_stmt, with n further branches: "A second else lists InvalidIfStmt once, flag unchanged."
  unfoldable pub end_if : ℕ → ℕ → Void
  end_if n elses = do
    when (ltb 1 elses) (do
      add_error c InvalidIfStmt
      ok)
    push c IfStmt false (2 + n) 0

  -- The loops of array_decl and item_list, up to a closing kind: how many items, after n. "The final comma in the list is optional".
  unfoldable pub comma_list : ℕ → Void → ℕ → ℕ → M ℕ
  comma_list close item zero n = return n
  comma_list close item (suc f) n = do
    k ← kind_now c
    if eqb k close then return n
        otherwise if eqb k Eof then throw c (InvalidTknMsg end_of_file)
        otherwise do
          item
          more ← optional c Comma
          if more then comma_list close item f (suc n) otherwise return (suc n)

module _ (c : Ctx) (r : Rec) where
  -- ── var_decl, array_decl, table_decl, item_list ──

  -- token i is the declared name
  unfoldable pub array_decl : ℕ → Void
  array_decl i = do
    expect c LeftBracket
    n ← comma_list c RightBracket r.assign (fuel c) 0
    expect c RightBracket
    expect c Semicolon
    array_nodes c i n
    store c i Other

  -- "A TableItem counts after its value."
  unfoldable pub table_item : Void
  table_item = do
    key ← ident c (λ i. InvalidTknMsg an_identifier)
    expect c EqArrow
    r.assign
    push c TableItem false 1 key

  -- repeated keys too
  unfoldable pub item_list : Void
  item_list = do
    n ← comma_list c DoubleRightBracket table_item (fuel c) 0
    push c ItemList false n 0

  -- the name is stored before `;` is expected
  unfoldable pub table_decl : ℕ → Void
  table_decl name = do
    expect c DoubleLeftBracket
    item_list
    expect c DoubleRightBracket
    push c Table false 1 name
    store c name Other
    expect c Semicolon

  -- the value of a variable, with the `;`
  unfoldable pub initial : ℕ → Void
  initial i = do
    k ← kind_now c
    if eqb k LeftBracket then array_decl i
        otherwise if eqb k DoubleLeftBracket then table_decl i
        otherwise do
          r.assign
          expect c Semicolon

  unfoldable pub var_decl : Void
  var_decl = do
    expect c Var
    i ← ident c ExpectedIdent
    k ← kind_now c
    if eqb k Eq then
        (do
          consume c
          initial i
          declare_var c i 1)
        otherwise if eqb k Semicolon then
        (do
          consume c
          declare_var c i 0)
        otherwise throw c (InvalidTknMsg eq_or_semicolon)

  -- ── fn_decl ──

  -- the placeholder is stored before the parameters, so that the function can call itself
  unfoldable pub fn_decl : Void
  fn_decl = do
    expect c Fn
    i ← ident c ExpectedIdent
    store c i Placeholder
    expect c LeftParen
    n ← param_list c (param c) (fuel c) 0
    names ← loads c n
    push c FnParams false n 0
    expect c RightParen
    r.block true names
    push c FnDecl false 2 i
    store c i (Function n)

  -- ── if_stmt, for_stmt, ret_stmt, expr_stmt ──

  unfoldable pub elif_stmt : Void
  elif_stmt = do
    consume c
    r.assign
    r.block false []
    push c ElifStmt false 2 0

  unfoldable pub else_block : Void
  else_block = do
    consume c
    r.block false []

  -- the loop of if_stmt, after n branches of which so many are `else`, and what follows it: "If branches keep source order."
  unfoldable pub branches : ℕ → ℕ → ℕ → Void
  branches zero n elses = end_if c n elses
  branches (suc f) n elses = do
    k ← kind_now c
    if eqb k Elif then
        (do
          elif_stmt
          branches f (suc n) elses)
        otherwise if eqb k Else then
        (do
          else_block
          branches f (suc n) (suc elses))
        otherwise end_if c n elses

  unfoldable pub if_stmt : Void
  if_stmt = do
    expect c If
    r.assign
    r.block false []
    branches (fuel c) 0 0

  unfoldable pub for_stmt : Void
  for_stmt = do
    expect c For
    names ← ident_pair c
    expect c In
    r.assign
    r.block false names
    push c ForStmt false 3 0

  unfoldable pub ret_stmt : Void
  ret_stmt = do
    expect c Return
    k ← kind_now c
    if eqb k Semicolon then
        (do
          consume c
          push c ReturnStmt false 0 0)
        otherwise do
          r.assign
          expect c Semicolon
          push c ReturnStmt false 1 0

  unfoldable pub expr_stmt : Void
  expr_stmt = do
    r.assign
    expect c Semicolon
    push c ExprStmt false 1 0

  unfoldable pub stmt : Void
  stmt = do
    k ← kind_now c
    if eqb k If then if_stmt
        otherwise if eqb k For then for_stmt
        otherwise if eqb k Return then ret_stmt
        otherwise if eqb k LeftBrace then r.block false []
        otherwise expr_stmt

  unfoldable pub decl : Void
  decl = do
    k ← kind_now c
    if eqb k Var then var_decl
        otherwise if eqb k Fn then fn_decl
        otherwise stmt

  -- ── block ──

  -- the loop of block: how many declarations, after n
  unfoldable pub decls : ℕ → ℕ → M ℕ
  decls zero n = return n
  decls (suc f) n = do
    k ← kind_now c
    if eqb k RightBrace || eqb k Eof then return n
        otherwise do
          decl
          decls f (suc n)

  -- a function's body or not, with the tokens of the names that are bound in it; the payload is the level inside
  unfoldable pub block : Bool → List ℕ → Void
  block body names = do
    expect c LeftBrace
    init_scope c
    bind c names
    n ← decls (fuel c) 0
    expect c RightBrace
    scope ← level_now c
    close_scope c
    n' ← with_return c body n
    push c Block false n' scope
