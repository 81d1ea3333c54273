-- The kinds of things that the writers of expressions promise.
use Rattle.std.specs.Prelude.{ℕ, [], ◌∷◌, ◌++◌, ltb}
use Rattle.sifc_def.specs.State.{W}
use Rattle.sifc_def.specs.Typed.{Expr, height, wrap, pr}
use Rattle.sifc_put.specs.Place.{Then}
use Rattle.sifc_put.specs.Post.{Kind, list_l}
use Rattle.sifc_put.specs.Bytes.{worded, bytes_of}
use Rattle.sifc_put.specs.Spans.{Single, Spans}

-- an expression
abbrev pub expr_l : Kind
expr_l = λ I. record { T = Expr; S = λ e a b. Spans I e a b; P = λ e. bytes_of (pr e) }

-- an operand, in parentheses unless it binds tighter than `below`
abbrev pub operand_l : ℕ → Kind
operand_l below = λ I. record { T = Expr; S = λ e a b. Spans I e a b; P = λ e. bytes_of (wrap (ltb (height e) below) (pr e)) }

-- so many expressions with commas between
abbrev pub exprs_l : ℕ → Kind
exprs_l n = list_l expr_l n

-- a target and an index in brackets
abbrev pub subscript_l : Kind
subscript_l = λ I. record { T = W × Expr; S = λ x a b. Then (λ c d. Single I x.0 c d) (λ c d. Spans I x.1 c d) a b; P = λ x. worded x.0 ++ ((91 ∷ 32 ∷ []) ++ (bytes_of (pr x.1) ++ (93 ∷ 32 ∷ []))) }

-- a target, a sign and an expression
abbrev pub linked_l : ℕ → Kind
linked_l sign = λ I. record { T = W × Expr; S = λ x a b. Then (λ c d. Single I x.0 c d) (λ c d. Spans I x.1 c d) a b; P = λ x. worded x.0 ++ ((sign ∷ 32 ∷ []) ++ bytes_of (pr x.1)) }
