-- What the proofs say of the errors' words.
use Rattle.std.specs.Prelude.{ℕ, suc, ◌+◌, ◌*◌, ◌<◌, ◌≡◌, refl, ◌≢◌, List, [], ◌∷◌, length, get_or, set}
use Rattle.std.proofs.Common.{ap, ◌∙◌, arith, get_or-set_same, get_or-set_other}
use Rattle.sifc_err.specs.ParseErr.{values_of}
use Rattle.sifc_def.specs.declared.Err.{Err}
use Rattle.sifc_def.specs.Why.{Why}
use Rattle.sifc_err.specs.declared.parse_err.ParseErrTy.TheVariants.{InvalidIdent, InvalidTkn, InvalidTknMsg, InvalidAssign, InvalidForStmt, InvalidIfStmt, TknMismatch, FnParmCntExceeded, WrongFnParmCnt, UndeclSym, UnassignedVar, ExpectedIdent}
use Rattle.sifc_def.specs.Error.{ty_of, carried, carried_too, err_reason}
use Rattle.sifc_def.specs.State.{Ctx}
use Rattle.sifc_step.specs.Book.{number_in, reason_of, Notes}

pub number_is : (c : Ctx) (w : Why) → (values_of (ty_of c w)).number ≡ number_in w
number_is c (InvalidIdent i) = refl
number_is c (InvalidTkn i) = refl
number_is c (InvalidTknMsg m) = refl
number_is c (InvalidAssign i) = refl
number_is c InvalidForStmt = refl
number_is c InvalidIfStmt = refl
number_is c (TknMismatch k i) = refl
number_is c (FnParmCntExceeded n) = refl
number_is c (WrongFnParmCnt n m) = refl
number_is c (UndeclSym i) = refl
number_is c (UnassignedVar i) = refl
number_is c (ExpectedIdent i) = refl

-- the reason's word is the definition's
pub reason-is : (c : Ctx) (e : Err) → err_reason c e ≡ reason_of e.why
reason-is c e = ap (λ (n : ℕ). n + 16 * carried e.why + 1048576 * carried_too e.why) (number_is c e.why)

pub notes-none : (ps rs : List ℕ) → Notes ps rs []
unfolding Notes
notes-none ps rs = tt

-- words past them do not matter
notes-below : (ps rs : List ℕ) (E : List Err) (n p r : ℕ) → length E < suc n → Notes ps rs E → Notes (set ps n p) (set rs n r) E
unfolding Notes
notes-below ps rs [] n p r h a = tt
notes-below ps rs (e ∷ E) n p r h a =
    let ne : length E ≢ n = λ z. omega arith in
    (get_or-set_other ps n (length E) p 0 ne ∙ a.0, (get_or-set_other rs n (length E) r 0 ne ∙ a.1.0, notes-below ps rs E n p r (omega arith) a.1.1))

-- one error more
pub notes-more : (ps rs : List ℕ) (E : List Err) (e : Err) (n : ℕ) → length E ≡ n → n < length ps → n < length rs → Notes ps rs E → Notes (set ps n e.place) (set rs n (reason_of e.why)) (e ∷ E)
unfolding Notes
notes-more ps rs E e n l hp hr a = (
  ap (λ (m : ℕ). get_or (set ps n e.place) m 0) l ∙ get_or-set_same ps n e.place 0 hp,
  (
    ap (λ (m : ℕ). get_or (set rs n (reason_of e.why)) m 0) l ∙ get_or-set_same rs n (reason_of e.why) 0 hr,
    notes-below ps rs E n e.place (reason_of e.why) (omega arith) a,
  ),
)
