-- parse_err.rs, and document 01: "An error is a line, a column and a reason that carries its token, counts or fixed message."
use Rattle.std.specs.Prelude.{ℕ, List, [], ◌∷◌, Bool, true, false, ◌≡◌, Option as Maybe, Some, None}
use Rattle.std.proofs.Math.Option.{Option, none, some}
use Rattle.sifc_err.specs.declared.parse_err.ParseErrTy.{ParseErrTy}
use Rattle.sifc_err.specs.declared.parse_err.ParseErrTy.TheVariants.{InvalidIdent, InvalidTkn, InvalidTknMsg, InvalidAssign, InvalidForStmt, InvalidIfStmt, TknMismatch, FnParmCntExceeded, WrongFnParmCnt, UndeclSym, UnassignedVar, ExpectedIdent}

-- what a reason says: its number, the token that it carries, and its expected kind, message number or counts
pub record Values (T : Type 0) : Type 0 where
  pub number : ℕ
  pub token : Option T
  pub numbers : List ℕ

abbrev values : {T : Type 0} → ℕ → Option T → List ℕ → Values T
values n t ns = record { number = n; token = t; numbers = ns }

-- the number is the "order of ParseErrTy, from 1"
abbrev pub values_of : {T : Type 0} → ParseErrTy T → Values T
values_of (InvalidIdent t) = values 1 (some t) []
values_of (InvalidTkn t) = values 2 (some t) []
values_of (InvalidTknMsg m) = values 2 none (m ∷ [])
values_of (InvalidAssign t) = values 3 (some t) []
values_of InvalidForStmt = values 4 none []
values_of InvalidIfStmt = values 5 none []
values_of (TknMismatch k t) = values 6 (some t) (k ∷ [])
values_of (FnParmCntExceeded n) = values 7 none (n ∷ [])
values_of (WrongFnParmCnt n m) = values 8 none (n ∷ m ∷ [])
values_of (UndeclSym t) = values 9 (some t) []
values_of (UnassignedVar t) = values 10 (some t) []
values_of (ExpectedIdent t) = values 11 (some t) []

-- the same of a record's reason; a blank record has none
abbrev pub values_in : {T : Type 0} → Maybe (ParseErrTy T) → Values T
values_in None = values 0 none []
values_in (Some y) = values_of y

-- ParseErr::continuable: "Only TknMismatch and FnParmCntExceeded end the reading."
abbrev pub continuable_of : {T : Type 0} → ParseErrTy T → Bool
continuable_of (InvalidIdent t) = true
continuable_of (InvalidTkn t) = true
continuable_of (InvalidTknMsg m) = true
continuable_of (InvalidAssign t) = true
continuable_of InvalidForStmt = true
continuable_of InvalidIfStmt = true
continuable_of (TknMismatch k t) = false
continuable_of (FnParmCntExceeded n) = false
continuable_of (WrongFnParmCnt n m) = true
continuable_of (UndeclSym t) = true
continuable_of (UnassignedVar t) = true
continuable_of (ExpectedIdent t) = true

-- the same reason, with f of the token that it carries
abbrev pub mapped : {T U : Type 0} → (T → U) → ParseErrTy T → ParseErrTy U
mapped f (InvalidIdent t) = InvalidIdent (f t)
mapped f (InvalidTkn t) = InvalidTkn (f t)
mapped f (InvalidTknMsg m) = InvalidTknMsg m
mapped f (InvalidAssign t) = InvalidAssign (f t)
mapped f InvalidForStmt = InvalidForStmt
mapped f InvalidIfStmt = InvalidIfStmt
mapped f (TknMismatch k t) = TknMismatch k (f t)
mapped f (FnParmCntExceeded n) = FnParmCntExceeded n
mapped f (WrongFnParmCnt n m) = WrongFnParmCnt n m
mapped f (UndeclSym t) = UndeclSym (f t)
mapped f (UnassignedVar t) = UnassignedVar (f t)
mapped f (ExpectedIdent t) = ExpectedIdent (f t)

-- the same, where P says what may come of a token
abbrev pub Maps : {T U : Type 0} → (T → U → Type 0) → ParseErrTy T → ParseErrTy U → Type 0
Maps P (InvalidIdent t) r = (u : _) × P t u × (r ≡ InvalidIdent u)
Maps P (InvalidTkn t) r = (u : _) × P t u × (r ≡ InvalidTkn u)
Maps P (InvalidTknMsg m) r = r ≡ InvalidTknMsg m
Maps P (InvalidAssign t) r = (u : _) × P t u × (r ≡ InvalidAssign u)
Maps P InvalidForStmt r = r ≡ InvalidForStmt
Maps P InvalidIfStmt r = r ≡ InvalidIfStmt
Maps P (TknMismatch k t) r = (u : _) × P t u × (r ≡ TknMismatch k u)
Maps P (FnParmCntExceeded n) r = r ≡ FnParmCntExceeded n
Maps P (WrongFnParmCnt n m) r = r ≡ WrongFnParmCnt n m
Maps P (UndeclSym t) r = (u : _) × P t u × (r ≡ UndeclSym u)
Maps P (UnassignedVar t) r = (u : _) × P t u × (r ≡ UnassignedVar u)
Maps P (ExpectedIdent t) r = (u : _) × P t u × (r ≡ ExpectedIdent u)
