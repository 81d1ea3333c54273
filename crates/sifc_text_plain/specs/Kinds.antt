-- The kinds of things that the writers of declarations and of statements without a block promise.
use Rattle.std.specs.Prelude.{ℕ, List, ◌∷◌, ◌++◌}
use Rattle.sifc_def.specs.State.{W}
use Rattle.sifc_def.specs.Ast.{VarDecl, ReturnStmt, ExprStmt}
use Rattle.sifc_def.specs.Typed.{Expr, Exprs, Items, pr, prs, pr_items, lb, rb, eq, comma, semi, arrow, dlb, drb, var_word, return_word}
use Rattle.sifc_put.specs.Place.{Inp, Nothing, Over, Told}
use Rattle.sifc_put.specs.Post.{Kind, list_l, leaf_l}
use Rattle.sifc_put.specs.Bytes.{worded, bytes_of}
use Rattle.sifc_put.specs.Spans.{Spans, SpansItem, SpansArray, SpansTable, SpansPair}

-- so many names with commas between
abbrev pub names_l : ℕ → Kind
names_l n = list_l leaf_l n

-- the two names of a loop
abbrev pub pair_l : Kind
pair_l = λ I. record { T = W × W; S = λ x a b. SpansPair I x.0 x.1 a b; P = λ x. worded x.0 ++ (worded comma ++ worded x.1) }

-- an item of a table
abbrev pub item_l : Kind
item_l = λ I. record { T = W × Expr; S = λ x a b. SpansItem I x.0 x.1 a b; P = λ x. worded x.0 ++ (worded arrow ++ bytes_of (pr x.1)) }

-- so many items with commas between
abbrev pub items_l : ℕ → Kind
items_l n = list_l item_l n

-- a table, an array
abbrev pub table_l : Kind
table_l = λ I. record { T = Items; S = λ is a b. SpansTable I is a b; P = λ is. bytes_of (λ r. dlb ∷ pr_items is (drb ∷ r)) }

abbrev pub array_l : Kind
array_l = λ I. record { T = Exprs; S = λ es a b. SpansArray I es a b; P = λ es. bytes_of (λ r. lb ∷ prs es (rb ∷ r)) }

-- what a variable is set to
pub data Value : Type 0 where
  expression : Expr → Value
  an_array : Exprs → Value
  a_table : Items → Value

unfoldable pub pr_value : Value → List W → List W
pr_value (expression e) rest = pr e rest
pr_value (an_array es) rest = lb ∷ prs es (rb ∷ rest)
pr_value (a_table is) rest = dlb ∷ pr_items is (drb ∷ rest)

unfoldable pub SpansValue : Inp → Value → ℕ → ℕ → Type 0
SpansValue I (expression e) lo hi = Spans I e lo hi
SpansValue I (an_array es) lo hi = SpansArray I es lo hi
SpansValue I (a_table is) lo hi = SpansTable I is lo hi

abbrev pub value_l : Kind
value_l = λ I. record { T = Value; S = λ v a b. SpansValue I v a b; P = λ v. bytes_of (pr_value v) }

-- the declaration of a variable
pub data Var : Type 0 where
  unset : W → Var
  set_to : W → Value → Var

unfoldable pub pr_var : Var → List W → List W
pr_var (unset x) rest = var_word ∷ x ∷ semi ∷ rest
pr_var (set_to x v) rest = var_word ∷ x ∷ eq ∷ pr_value v (semi ∷ rest)

unfoldable pub SpansVar : Inp → Var → ℕ → ℕ → Type 0
SpansVar I (unset x) lo hi = Told I VarDecl 0 x Nothing lo hi
SpansVar I (set_to x v) lo hi = Told I VarDecl 1 x (λ a b. SpansValue I v a b) lo hi

abbrev pub var_l : Kind
var_l = λ I. record { T = Var; S = λ v a b. SpansVar I v a b; P = λ v. bytes_of (pr_var v) }

-- a statement that holds no block
pub data Plain : Type 0 where
  variable : Var → Plain
  returned : Plain
  return_of : Expr → Plain
  evaluated : Expr → Plain

unfoldable pub pr_plain : Plain → List W → List W
pr_plain (variable v) rest = pr_var v rest
pr_plain returned rest = return_word ∷ semi ∷ rest
pr_plain (return_of e) rest = return_word ∷ pr e (semi ∷ rest)
pr_plain (evaluated e) rest = pr e (semi ∷ rest)

unfoldable pub SpansPlain : Inp → Plain → ℕ → ℕ → Type 0
SpansPlain I (variable v) lo hi = SpansVar I v lo hi
SpansPlain I returned lo hi = Over I ReturnStmt 0 Nothing lo hi
SpansPlain I (return_of e) lo hi = Over I ReturnStmt 1 (λ a b. Spans I e a b) lo hi
SpansPlain I (evaluated e) lo hi = Over I ExprStmt 1 (λ a b. Spans I e a b) lo hi

abbrev pub plain_l : Kind
plain_l = λ I. record { T = Plain; S = λ p a b. SpansPlain I p a b; P = λ p. bytes_of (pr_plain p) }
