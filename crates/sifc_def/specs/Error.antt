-- What an error of the walk stands for: a ParseErr, and its two words. "An error is a line, a column and a reason that carries its token, counts or fixed
-- message."
use Rattle.std.specs.Prelude.{ℕ, ◌+◌, ◌-◌, ◌*◌, ◌≤◌, Bool, Some}
use Rattle.sifc_err.specs.declared.parse_err.ParseErr.{ParseErr}
use Rattle.sifc_err.specs.declared.parse_err.ParseErrTy.{ParseErrTy}
use Rattle.sifc_err.specs.declared.Token.{Token}
use Rattle.sifc_err.specs.ParseErr.{values_of, continuable_of, mapped}
use Rattle.sifc_tokens.specs.declared.place.Place.{Place}
use Rattle.sifc_tokens.specs.Place.{place_of}
use Rattle.sifc_def.specs.declared.Err.{Err}
use Rattle.sifc_def.specs.Why.{Why}
use Rattle.sifc_err.specs.declared.parse_err.ParseErrTy.TheVariants.{InvalidIdent, InvalidTkn, InvalidTknMsg, InvalidAssign, InvalidForStmt, InvalidIfStmt, TknMismatch, FnParmCntExceeded, WrongFnParmCnt, UndeclSym, UnassignedVar, ExpectedIdent}
use Rattle.sifc_def.specs.State.{Ctx, tok_at}

-- A token's place in a script of at most 65,535 bytes: the line is at most 65,536, the column at most 65,535.
pub record PlaceFits (q : Place) : Type 0 where
  pub first : 1 ≤ q.line
  pub line : q.line ≤ 65536
  pub pos : q.pos ≤ 65535

module _ (c : Ctx) where
  -- the tokens at their indices
  abbrev pub ty_of : Why → ParseErrTy Token
  ty_of w = mapped (tok_at c) w

  abbrev pub continuable : Why → Bool
  continuable w = continuable_of (ty_of w)

  -- the place of the token at which the error stands
  unfoldable pub place_at : ℕ → Place
  unfolding place_of
  place_at i = place_of c.script (tok_at c i).off

  unfoldable pub parse_err : Err → ParseErr
  unfolding place_at
  parse_err e = record { line = (place_at e.place).line; pos = (place_at e.place).pos; ty = Some (ty_of e.why) }

-- the token or the first count that a reason carries
abbrev pub carried : Why → ℕ
carried (InvalidIdent i) = i
carried (InvalidTkn i) = i
carried (InvalidTknMsg m) = 0
carried (InvalidAssign i) = i
carried InvalidForStmt = 0
carried InvalidIfStmt = 0
carried (TknMismatch k i) = i
carried (FnParmCntExceeded n) = n
carried (WrongFnParmCnt n m) = n
carried (UndeclSym i) = i
carried (UnassignedVar i) = i
carried (ExpectedIdent i) = i

-- its expected kind, message or second count
abbrev pub carried_too : Why → ℕ
carried_too (InvalidIdent i) = 0
carried_too (InvalidTkn i) = 0
carried_too (InvalidTknMsg m) = m
carried_too (InvalidAssign i) = 0
carried_too InvalidForStmt = 0
carried_too InvalidIfStmt = 0
carried_too (TknMismatch k i) = k
carried_too (FnParmCntExceeded n) = 0
carried_too (WrongFnParmCnt n m) = m
carried_too (UndeclSym i) = 0
carried_too (UnassignedVar i) = 0
carried_too (ExpectedIdent i) = 0

module _ (c : Ctx) where
  -- the words of a listed error: where it stands, and why
  unfoldable pub err_place : Err → ℕ
  unfolding place_at
  err_place e = 65536 * ((place_at c e.place).line - 1) + (place_at c e.place).pos

  abbrev pub err_reason : Err → ℕ
  err_reason e = (values_of (ty_of c e.why)).number + 16 * carried e.why + 1048576 * carried_too e.why
