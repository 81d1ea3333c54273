-- Functions that list errors and go on: what they promise, beside the parser's state, of the errors' words.
use Rattle.std.specs.Prelude.{ℕ, ◌+◌, ◌≤◌, ◌<◌, ◌≡◌, List, length, set, ltb, Result, Ok, Err as Stopped}
use Rattle.sifc_def.specs.declared.Err.{Err}
use Rattle.sifc_err.specs.declared.parse_err.ParseErrTy.TheVariants.{InvalidIfStmt}
use Rattle.sifc_def.specs.Error.{carried, carried_too}
use Rattle.sifc_def.specs.State.{Ctx, St, Out, Void, ◌>>◌, ok, when, add_error}
use Rattle.sifc_def.specs.Stmt.{end_if}
use Rattle.sifc_step.specs.declared.walk.Parser.{Parser}
use Rattle.sifc_step.specs.declared.walk.Stop.{Stop}
use Rattle.sifc_step.specs.declared.walk.Stop.TheVariants.{Failed, Refused}
use Rattle.sifc_step.specs.Abs.{Inp, inp, Mem, Walk, inp_of, mem_of, walk_of, ctx_at, abs_at, listed_by, with_err, outcome_of, Ready, Fine, Broke, Kept}
use Rattle.sifc_step.specs.Small.{OnlyLists, under, growing}
use Rattle.sifc_step.specs.Book.{Notes}
use Rattle.sifc_block.specs.declared.book.Book.{Book}

-- ── the words of the errors ──

-- E is what they hold, newest first
abbrev pub Holding : Book → List Err → Type 0
Holding b E = Notes b.places.now b.reasons.now E

-- there are as many of both as errors may be listed
abbrev pub Roomy : Parser → Book → Type 0
Roomy p b = (length b.places.now ≡ length b.reasons.now) × (p.lim.errors ≡ length b.places.now)

-- What a function may assume of the words: they hold what was listed, and there are as many as errors may be listed.
pub record Booked (p : Parser) (b : Book) : Type 0 where
  pub errs : List Err
  pub notes : Holding b errs
  pub count : length errs ≡ p.errors
  pub even : length b.places.now ≡ length b.reasons.now
  pub room : p.lim.errors ≡ length b.places.now

-- they are the same memory, and as long
pub record KeptBook (b c : Book) : Type 0 where
  pub places_name : c.places.ghost_name ≡ b.places.ghost_name
  pub reasons_name : c.reasons.ghost_name ≡ b.reasons.ghost_name
  pub places : length c.places.now ≡ length b.places.now
  pub reasons : length c.reasons.now ≡ length b.reasons.now

-- one error is written, as number n
pub record Writes (b : Book) (n place reason : ℕ) (c : Book) : Type 0 where
  pub kept : KeptBook b c
  pub places : c.places.now ≡ set b.places.now n place
  pub reasons : c.reasons.now ≡ set b.reasons.now n reason

-- ── functions that list errors ──

-- how many are listed, n, where m were listed before the error that it fails with
abbrev pub CountOf : {A : Type 0} → Result A Stop → ℕ → ℕ → Type 0
CountOf (Ok a) m n = m ≡ n
CountOf (Stopped (Failed e)) m n = m + listed_by e.why ≡ n
CountOf (Stopped (Refused f)) m n = Unit {0}

-- r, with what the parser q and the errors' words c hold at the end, is the outcome o of what began at p: errs is what is listed then
pub record Told {A : Type 0} (o : Out A) (p : Parser) (r : Result A Stop) (q : Parser) (c : Book) : Type 0 where
  pub errs : List Err
  pub notes : Holding c errs
  pub count : CountOf r (length errs) q.errors
  pub same : outcome_of (inp_of p) errs r (mem_of q) (walk_of q) ≡ o

-- what it leaves, however many errors are listed: lo is how far it has come
abbrev pub NextOf : {A : Type 0} → Inp → Mem → ℕ → Result A Stop → Walk → Type 0
NextOf I M lo (Ok a) w = Fine I M lo w.errors w
NextOf I M lo (Stopped (Failed e)) w = Broke I M lo w.errors w
NextOf I M lo (Stopped (Refused f)) w = Unit {0}

-- from the parser p, where it is ready, and the errors' words b, f gives r and leaves q and c, j tokens farther at least
pub record Lists {A : Type 0} (j : ℕ) (f : Ctx → St → Out A) (p : Parser) (b : Book) (r : Result A Stop) (q : Parser) (c : Book) : Type 0 where
  pub kept : Kept p q
  pub book : KeptBook b c
  pub fine : Ready p → NextOf (inp_of p) (mem_of q) (j + p.at) r (walk_of q)
  pub tells : Ready p → (E : List Err) → length E ≡ p.errors → Holding b E → Told (f (ctx_at p) (abs_at E p)) p r q c

-- ── the second else ──

abbrev pub second_else : Ctx → ℕ → Void
second_else c elses = when (ltb 1 elses) (do
  add_error c InvalidIfStmt
  ok)

-- whatever is read and lent beside
pub record Elses (p : Parser) (b : Book) (elses : ℕ) (r : Result (Unit {0}) Stop) (q : Parser) (c : Book) : Type 0 where
  pub does : Lists 0 (λ x. second_else x elses) p b r q c
  pub alone : OnlyLists p q
  pub whatever : (s os ks : List ℕ) (M : Mem) → Lists 0 (λ x. second_else x elses) (under s os ks M p p) b r (under s os ks M p q) c

-- ── the end of an if statement ──

-- its symbols are as they were
abbrev pub SameSymbols : Parser → Parser → Type 0
SameSymbols p q = q.symbols ≡ p.symbols

-- whatever is read and whatever the symbols are
pub record EndsIf (p : Parser) (b : Book) (n elses : ℕ) (r : Result (Unit {0}) Stop) (q : Parser) (c : Book) : Type 0 where
  pub does : Lists 0 (λ x. end_if x n elses) p b r q c
  pub alone : SameSymbols p q
  pub whatever : (s os ks ys : List ℕ) → Lists 0 (λ x. end_if x n elses) (growing (inp s os ks p.lim) ys p) b r (growing (inp s os ks p.lim) ys q) c

-- ── the errors of a failure ──

-- an error fits its words
pub record Fitting (e : Err) : Type 0 where
  pub place : e.place < 65536
  pub first : carried e.why < 65536
  pub second : carried_too e.why ≤ 64

-- what is assumed of them, where n are listed: an error that was listed fits
pub record Noting (b : Book) (n : ℕ) (e : Err) : Type 0 where
  pub listed : listed_by e.why ≤ n
  pub room : n ≤ length b.places.now
  pub even : length b.places.now ≡ length b.reasons.now
  pub fits : (listed_by e.why ≡ 0 → ⊥) → Fitting e

pub record Noted (b : Book) (n : ℕ) (e : Err) (c : Book) : Type 0 where
  pub kept : KeptBook b c
  pub notes : (E : List Err) → length E + listed_by e.why ≡ n → Holding b E → Holding c (with_err (listed_by e.why) e E)
