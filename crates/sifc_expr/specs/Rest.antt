-- What the levels of binary operators do after an operand.
use Rattle.std.specs.Prelude.{ℕ, zero, suc, Bool, ◌&&◌, not, eqb, leb}
use Rattle.sifc_def.specs.State.{Ctx, Void, ◌>>◌, ok}
use Rattle.sifc_def.specs.Expr.{fuel, looseness, operators, levels}

-- a kind of operator that the n tightest levels read
unfoldable pub binds_in : ℕ → ℕ → Bool
binds_in n k = not (eqb (looseness k) 0) && leb (looseness k) n

-- the n tightest levels, over unary_expr, after their first operand
unfoldable pub rest : Ctx → ℕ → Void → Void
rest c zero u = ok
rest c (suc n) u = do
  rest c n u
  operators c (fuel c) (suc n) (levels c n u)
