-- Expressions: assign_expr down to group_expr of parser.rs, with param_list. Where the Rust expects a kind that it has just seen, the step is `consume`.
use Rattle.std.specs.Prelude.{ℕ, zero, suc, ◌-◌, List, [], ◌∷◌, Bool, true, false, ◌&&◌, ◌||◌, not, eqb, leb, length}
use Rattle.std.proofs.Math.Option.{Option, none, some}
use Rattle.sifc_word.specs.Base.{if◌then◌otherwise◌, member}
use Rattle.sifc_word.specs.Kind.{LeftParen, RightParen, LeftBracket, RightBracket, Eq, Lt, Gt, Period, Comma, Bang, Plus, Minus, Star, Slash, Percent, At, EqEq, LtEq, GtEq, BangEq, AmpAmp, PipePipe, Ident, Str, Val, True, False, Eof}
use Rattle.sifc_word.specs.Reserved.{is_std_lib_fn}
use Rattle.sifc_err.specs.declared.parse_err.ParseErrTy.TheVariants.{InvalidTkn, InvalidTknMsg, InvalidAssign, FnParmCntExceeded, WrongFnParmCnt, UndeclSym}
use Rattle.sifc_def.specs.declared.What.{What}
use Rattle.sifc_def.specs.declared.What.TheVariants.{Placeholder, Function, Variable, Other}
use Rattle.sifc_def.specs.Ast.{TableAccess, ArrayAccess, ArrayMutExpr, FnCallExpr, VarAssignExpr, BinaryExpr, UnaryExpr, PrimaryExpr}
use Rattle.sifc_def.specs.State.{Node, Ctx, M, Void, ◌>>=◌, ◌>>◌, return, ok, when, tok_at, name_at, here, kind_now, panic_at, consume, raise, add_error_w_pos, throw, throw_past, expect, push, top, count, set_nodes, without}
use Rattle.sifc_def.specs.Symbols.{retrieve, checking, set_check}

-- The counted calls of refusal 6, one level deeper: block (is it a function's body, and the tokens of the names bound in it), assign_expr, unary_expr,
-- fn_call_expr.
pub record Rec : Type 0 where
  pub block : Bool → List ℕ → Void
  pub assign : Void
  pub unary : Void
  pub call : Void

-- FN_PARAM_MAX_LEN
abbrev pub fn_param_max_len : ℕ
fn_param_max_len = 64

-- the message "unexpected end of file" of InvalidTkn
abbrev pub end_of_file : ℕ
end_of_file = 2

-- How loosely a binary operator binds, 8 less the strength that document 01 gives it; 0 for what is none. Number n is read by the n-th level from below:
-- mod_expr, mul_or_div_expr, add_or_sub_expr, compr_expr, equality_expr, and_expr, or_expr.
unfoldable pub looseness : ℕ → ℕ
looseness k =
    if eqb k Percent then 1
    otherwise if member k (Star ∷ Slash ∷ []) then 2
    otherwise if member k (Plus ∷ Minus ∷ []) then 3
    otherwise if member k (Lt ∷ LtEq ∷ Gt ∷ GtEq ∷ []) then 4
    otherwise if member k (BangEq ∷ EqEq ∷ []) then 5
    otherwise if eqb k AmpAmp then 6
    otherwise if eqb k PipePipe then 7
    otherwise 0

unfoldable pub is_unary : ℕ → Bool
is_unary k = eqb k Bang || eqb k Minus

unfoldable pub is_literal : ℕ → Bool
is_literal k = member k (Str ∷ Val ∷ True ∷ False ∷ [])

module _ (c : Ctx) where
  -- The turns that a loop can take: each takes a token that is not Eof, or ends the loop.
  abbrev pub fuel : ℕ
  fuel = length c.toks

  -- ── the levels of binary operators ──

  -- the loop of level n over the level below: an operator, the right operand, and the node
  unfoldable pub operators : ℕ → ℕ → Void → Void
  operators zero n next = ok
  operators (suc f) n next = do
    k ← kind_now c
    i ← here c
    if eqb (looseness k) n then
        (do
          consume c
          next
          push c BinaryExpr false 2 i
          operators f n next)
        otherwise ok

  -- the n levels that bind tightest, over unary_expr
  unfoldable pub levels : ℕ → Void → Void
  levels zero u = u
  levels (suc n) u = do
    levels n u
    operators fuel (suc n) (levels n u)

  -- ── assign_expr ──

  -- assignment to the name at token i, by what it was declared as: "VarAssignExpr carries the declaration's token."
  unfoldable pub assign_var : ℕ → Option What → Void
  assign_var i none = throw c (UndeclSym i)
  assign_var i (some Placeholder) = throw c (UndeclSym i)
  assign_var i (some (Function n)) = throw c (UndeclSym i)
  assign_var i (some (Variable t g)) = push c VarAssignExpr g 2 t
  assign_var i (some Other) = throw c (UndeclSym i)

  -- the target is the single token i
  unfoldable pub assign_token : ℕ → Void
  assign_token i =
      if eqb (tok_at c i).kind Ident then
      (do
        w ← retrieve c (name_at c i)
        assign_var i w)
      otherwise throw c (InvalidAssign i)

  -- the target's node is number n: "An ArrayAccess that is assigned to counts until its ArrayMutExpr takes its place"
  unfoldable pub assign_array : ℕ → Void
  assign_array n = do
    set_nodes c (without n)
    push c ArrayMutExpr false 3 0

  -- any other target: the error stands at the `=`, token i
  unfoldable pub assign_nothing : ℕ → Void
  assign_nothing i = do
    e ← add_error_w_pos c i (InvalidAssign i)
    raise c e

  -- the match on the target: its node, that node's number, and the token of `=`
  unfoldable pub assign_to : Node → ℕ → ℕ → Void
  assign_to target n op =
      if eqb target.kind PrimaryExpr then assign_token target.pay
      otherwise if eqb target.kind ArrayAccess then assign_array n
      otherwise assign_nothing op

  -- ── param_list: the arguments of a call, or the parameters of a function ──

  -- a comma, where no `)` stands
  unfoldable pub separator : Void
  separator = do
    k ← kind_now c
    when (not (eqb k RightParen)) (expect c Comma)

  -- how many there are, after n: "a 65th parameter or argument is FnParmCntExceeded(64)"
  unfoldable pub param_list : Void → ℕ → ℕ → M ℕ
  param_list item zero n = return n
  param_list item (suc f) n = do
    k ← kind_now c
    if eqb k RightParen then return n
        otherwise if leb fn_param_max_len n then throw c (FnParmCntExceeded fn_param_max_len)
        otherwise if eqb k Eof then throw c (InvalidTknMsg end_of_file)
        otherwise do
          item
          separator
          param_list item f (suc n)

  -- ── fn_call_expr: the three suffixes, found at token i after the target ──

  -- the target must be a single token: panics 4 and 5
  unfoldable pub single : Node → ℕ → ℕ → Void
  single target kind i = if eqb target.kind PrimaryExpr then ok otherwise panic_at c kind i

  -- a call with n arguments of what has `want` parameters
  unfoldable pub call_counted : ℕ → ℕ → Void
  call_counted want n = if eqb want n then push c FnCallExpr false (suc n) 0 otherwise throw c (WrongFnParmCnt want n)

  -- by what the name at token i was declared as: "A name check that fails in a call, after `)`, skips one token more."
  unfoldable pub call_declared : ℕ → ℕ → Option What → Void
  call_declared i n none = throw_past c (UndeclSym i)
  call_declared i n (some Placeholder) = push c FnCallExpr false (suc n) 0
  call_declared i n (some (Function m)) = call_counted m n
  call_declared i n (some (Variable t g)) = call_counted 0 n
  call_declared i n (some Other) = call_counted 0 n

  -- the name at token i is called: print and range are neither looked for nor counted
  unfoldable pub call_name : ℕ → ℕ → Option What → Void
  call_name i n w = if is_std_lib_fn (name_at c i) then push c FnCallExpr true (suc n) 0 otherwise call_declared i n w

  -- a single token that is a name or a string
  unfoldable pub is_named : Node → Bool
  is_named target = eqb target.kind PrimaryExpr && (eqb (tok_at c target.pay).kind Ident || eqb (tok_at c target.pay).kind Str)

  -- after `)`: panic 3, then the name
  unfoldable pub call_named : Node → ℕ → ℕ → Void
  call_named target i n =
      if is_named target then
      (do
        w ← retrieve c (name_at c target.pay)
        call_name target.pay n w)
      otherwise panic_at c 3 i

  -- ── primary_expr ──

  -- a node for token i, before the token is taken
  unfoldable pub literal : ℕ → Void
  literal i = do
    push c PrimaryExpr false 0 i
    consume c

  -- the name at token i was looked for
  unfoldable pub known : ℕ → Option What → Void
  known i (some w) = ok
  known i none = if is_std_lib_fn (name_at c i) then ok otherwise throw_past c (UndeclSym i)

  -- should_check_sym_tab, sym_exists
  unfoldable pub check_name : ℕ → Void
  check_name i = do
    b ← checking c
    when b (do
      w ← retrieve c (name_at c i)
      known i w)

  -- the arm of Ident
  unfoldable pub ident_expr : ℕ → Void
  ident_expr i = do
    check_name i
    literal i

module _ (c : Ctx) (r : Rec) where
  abbrev pub mod_expr : Void
  mod_expr = levels c 1 r.unary

  abbrev pub mul_or_div_expr : Void
  mul_or_div_expr = levels c 2 r.unary

  abbrev pub add_or_sub_expr : Void
  add_or_sub_expr = levels c 3 r.unary

  abbrev pub compr_expr : Void
  compr_expr = levels c 4 r.unary

  abbrev pub equality_expr : Void
  equality_expr = levels c 5 r.unary

  abbrev pub and_expr : Void
  and_expr = levels c 6 r.unary

  abbrev pub or_expr : Void
  or_expr = levels c 7 r.unary

  -- expr is assign_expr
  unfoldable pub assign_expr : Void
  assign_expr = do
    or_expr
    target ← top c
    n ← count c
    k ← kind_now c
    op ← here c
    when (eqb k Eq) (do
      consume c
      r.assign
      assign_to c target (n - 1) op)

  unfoldable pub unary_expr : Void
  unary_expr = do
    k ← kind_now c
    i ← here c
    if is_unary k then
        (do
          consume c
          r.unary
          push c UnaryExpr false 1 i)
        otherwise r.call

  unfoldable pub group_expr : Void
  group_expr = do
    consume c
    r.assign
    expect c RightParen

  -- the arm of At: "Parentheses or `@` round a single token change nothing"
  unfoldable pub at_expr : Void
  at_expr = do
    consume c
    r.call

  unfoldable pub primary_expr : Void
  primary_expr = do
    k ← kind_now c
    i ← here c
    if is_literal k then literal c i
        otherwise if eqb k Ident then ident_expr c i
        otherwise if eqb k LeftParen then group_expr
        otherwise if eqb k At then at_expr
        otherwise throw_past c (InvalidTkn i)

  -- `(` at token i
  unfoldable pub call_part : Node → ℕ → Void
  call_part target i = do
    consume c
    n ← param_list c r.assign (fuel c) 0
    expect c RightParen
    call_named c target i n

  -- `.`: names are not checked in the expression that follows, and are checked after it
  unfoldable pub dot : Node → ℕ → Void
  dot target i = do
    consume c
    set_check c false
    r.assign
    set_check c true
    single c target 4 i
    push c TableAccess false 2 0

  -- `[`
  unfoldable pub index : Node → ℕ → Void
  index target i = do
    consume c
    r.assign
    expect c RightBracket
    single c target 5 i
    push c ArrayAccess false 2 0

  -- what may follow the target, once
  unfoldable pub postfix : Node → Void
  postfix target = do
    k ← kind_now c
    i ← here c
    if eqb k LeftParen then call_part target i
        otherwise if eqb k Period then dot target i
        otherwise if eqb k LeftBracket then index target i
        otherwise ok

  unfoldable pub fn_call_expr : Void
  fn_call_expr = do
    primary_expr
    target ← top c
    postfix target
