-- Why a declaration fails, in terms of token indices.
use Rattle.std.specs.Prelude.{ℕ}
use Rattle.sifc_err.specs.declared.parse_err.ParseErrTy.{ParseErrTy}

abbrev pub Why : Type 0
Why = ParseErrTy ℕ
