-- The errors in their lent words while a walk goes on, and what a walk over all declarations promises.
use Rattle.std.specs.Prelude.{ℕ, ◌+◌, ◌*◌, ◌≤◌, ◌≡◌, List, [], ◌∷◌, length, get_or, Option as Maybe, Some, None, Result, Ok, Err as Stopped}
use Rattle.std.proofs.Math.Option.{Option, none, some}
use Rattle.sifc_err.specs.declared.Refusal.{Refusal}
use Rattle.sifc_def.specs.declared.Err.{Err}
use Rattle.sifc_def.specs.Why.{Why}
use Rattle.sifc_err.specs.ParseErr.{values_of}
use Rattle.sifc_def.specs.Error.{carried, carried_too}
use Rattle.sifc_def.specs.State.{done, refuse}
use Rattle.sifc_def.specs.Walk.{end, walk}
use Rattle.sifc_def.specs.Read.{depth_limit}
use Rattle.sifc_step.specs.declared.walk.Walked.{Walked}
use Rattle.sifc_step.specs.Abs.{Inp, Mem, Walk, ctx_of, abs, ReadyOf}

-- ── the two words of an error: where it stands, by its token until the walk has ended, and why ──

-- a reason's number, order of ParseErrTy
abbrev pub number_in : Why → ℕ
number_in w = (values_of w).number

abbrev pub reason_of : Why → ℕ
reason_of w = number_in w + 16 * carried w + 1048576 * carried_too w

-- E is what the words hold, newest first
unfoldable pub Notes : List ℕ → List ℕ → List Err → Type 0
Notes ps rs [] = Unit {0}
Notes ps rs (e ∷ E) = (get_or ps (length E) 0 ≡ e.place) × ((get_or rs (length E) 0 ≡ reason_of e.why) × Notes ps rs E)

-- ── a walk over all declarations ──

abbrev pub last_of : Maybe Err → Option Err
last_of None = none
last_of (Some e) = some e

-- the walk of the answer: where it ends
abbrev pub walk_in : Walked → Walk
walk_in w = record { at = w.at; nodes = w.nodes; symbols = w.stored; level = w.level; errors = w.errors; check = w.check }

-- where it ends, as its answer says: E is what was listed, and the words hold it
pub record Ending (I : Inp) (M : Mem) (w : Walked) (M' : Mem) (ps rs : List ℕ) : Type 0 where
  pub listed : List Err
  pub notes : Notes ps rs listed
  pub errors : length listed ≡ w.errors
  pub is : walk (ctx_of I M) depth_limit ≡ done (end w.flag (last_of w.last)) (abs I listed (walk_in w) M')
  pub fine : ReadyOf I M' (walk_in w)
  pub room : w.errors ≤ length ps

-- from the arrays M, parse gives r and leaves M' and the words of the errors
abbrev pub Walks : Inp → Mem → Result Walked Refusal → Mem → List ℕ → List ℕ → Type 0
Walks I M (Ok w) M' ps rs = Ending I M w M' ps rs
Walks I M (Stopped f) M' ps rs = walk (ctx_of I M) depth_limit ≡ refuse f
