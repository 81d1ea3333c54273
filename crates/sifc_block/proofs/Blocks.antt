-- What the proofs of the functions for blocks and listed errors cite, and laws of the names that a block binds.
use Rattle.std.specs.Prelude.{ℕ, suc, ◌+◌, ◌-◌, ◌≤◌, ◌<◌, ◌≡◌, refl, List, [], ◌∷◌, Bool, true, false, length, get_or, set, eqb, Result, Ok, Err as Stopped, IsErr, IsErrAnd, IfOk}
use Rattle.std.proofs.Common.{arith, sym, ap, ◌∙◌, lt-ltb, le-ltb, length-set}
use Rattle.std.proofs.Math.Path.{subst}
use Rattle.sifc_err.specs.declared.Refusal.{Refusal}
use Rattle.sifc_err.specs.declared.Refusal.TheVariants.{ErrorsFull}
use Rattle.sifc_word.specs.Base.{if◌then◌otherwise◌}
use Rattle.sifc_def.specs.declared.Err.{Err}
use Rattle.sifc_def.specs.Why.{Why}
use Rattle.sifc_err.specs.declared.parse_err.ParseErrTy.TheVariants.{InvalidIdent, InvalidTkn, InvalidTknMsg, InvalidAssign, InvalidForStmt, InvalidIfStmt, TknMismatch, FnParmCntExceeded, WrongFnParmCnt, UndeclSym, UnassignedVar, ExpectedIdent}
use Rattle.sifc_def.specs.declared.What.TheVariants.{Other}
use Rattle.sifc_def.specs.State.{Ctx, err, St, Out, done, fail, refuse, go_on, list, add_error_w_pos, add_error, push}
use Rattle.sifc_def.specs.Symbols.{store}
use Rattle.sifc_def.specs.Stmt.{bind, with_return, end_if}
use Rattle.sifc_step.specs.declared.walk.Parser.{Parser}
use Rattle.sifc_step.specs.declared.walk.Stop.{Stop}
use Rattle.sifc_step.specs.declared.walk.Stop.TheVariants.{Refused}
use Rattle.sifc_step.specs.Abs.{inp, mem, kind_in, flag_in, kids_in, ctx_at, listed_by, lifted, Ready, Does, Paired}
use Rattle.sifc_step.specs.Small.{HeadWord, OnlyLists, OnlyDeclares, SameNodes, under, growing, Pushes}
use Rattle.sifc_step.specs.Book.{reason_of}
use Rattle.sifc_step.proofs.Steps.{At, begin, by, fin, kept-same, kept-on}
use Rattle.sifc_step.proofs.Small.{handed, pushed-as}
use Rattle.sifc_step.proofs.Book.{notes-more}
use Rattle.sifc_block.specs.declared.book.Book.{Book}
use Rattle.sifc_block.specs.declared.block.Names.{Names}
use Rattle.sifc_block.specs.declared.block.Names.TheVariants.{Unnamed}
use Rattle.sifc_block.specs.Bound.{between, names_of, NamesFit}
use Rattle.sifc_block.specs.Lists.{Roomy, Writes, Lists, SameSymbols, second_else, Elses, Noting, Noted}
use Rattle.sifc_block.proofs.Steps.{book-same, book-on, listing, ends, given, quiet, goes, stops, lasts}
use Rattle.sifc_block.proofs.Bindings.{between_more, between_none}

-- ── the second else ──

module _ {p : Parser} {b : Book} {elses : ℕ} where
  pub else-none : elses ≤ 1 → Lists 0 (λ c. second_else c elses) p b (Ok tt) p b
  unfolding if◌then◌otherwise◌
  else-none le = given (kept-same p) (book-same b) (λ r. ends (λ c. second_else c elses) (listing b (by (begin 0 (λ c. second_else c elses) r) (λ s. rw (le-ltb 1 elses le) refl))))

  module _ (lt : 1 < elses) where
    pub else-full : p.lim.errors ≤ p.errors → Lists 0 (λ c. second_else c elses) p b (Stopped (Refused ErrorsFull)) p b
    unfolding if◌then◌otherwise◌ add_error add_error_w_pos list go_on
    else-full ge = record {
      kept = kept-same p;
      book = book-same b;
      fine = λ r. tt;
      tells = λ r E e t. record { errs = E; notes = t; count = tt; same = sym (rw (lt-ltb 1 elses lt, e, le-ltb _ _ ge) refl) };
    }

    pub else-listed : p.errors < p.lim.errors → Roomy p b → {c : Book} → Writes b p.errors p.at (reason_of InvalidIfStmt) c → Lists 0 (λ c. second_else c elses) p b (Ok tt) (record p { errors = p.errors + 1 }) c
    unfolding if◌then◌otherwise◌ add_error add_error_w_pos list go_on
    else-listed lw room {c} d = record {
      kept = record { inp = refl; symbols_name = refl; head_name = refl; load_name = refl; symbols = refl; head = refl; load = refl };
      book = d.kept;
      fine = λ r. record { here = r.stands.here; calm = r.stands.calm; used = r.used; holds = r.holds; level = r.level; room = omega (arith, lw); errors = refl; on = omega arith };
      tells = λ r E e t. record {
        errs = err p.at InvalidIfStmt ∷ E;
        notes = rw (d.places, d.reasons) (notes-more b.places.now b.reasons.now E (err p.at InvalidIfStmt) p.errors e (omega (arith, lw, room.1)) (omega (arith, lw, room.0, room.1)) t);
        count = let z : suc (length E) ≡ p.errors + 1 = omega (arith, e) in z;
        same = sym (rw (lt-ltb 1 elses lt, e, lt-ltb _ _ lw) refl);
      };
    }

module _ {p : Parser} {b : Book} {elses : ℕ} where
  pub elses-none : elses ≤ 1 → Elses p b elses (Ok tt) p b
  elses-none le = record { does = else-none le; alone = refl; whatever = λ s os ks M. else-none {p = under s os ks M p p} le }

  module _ (lt : 1 < elses) where
    pub elses-full : p.lim.errors ≤ p.errors → Elses p b elses (Stopped (Refused ErrorsFull)) p b
    elses-full ge = record { does = else-full lt ge; alone = refl; whatever = λ s os ks M. else-full {p = under s os ks M p p} lt ge }

    pub elses-listed : p.errors < p.lim.errors → Roomy p b → {c : Book} → Writes b p.errors p.at (reason_of InvalidIfStmt) c → Elses p b elses (Ok tt) (record p { errors = p.errors + 1 }) c
    elses-listed lw room d = record { does = else-listed lt lw room d; alone = refl; whatever = λ s os ks M. else-listed {p = under s os ks M p p} lt lw room d }

-- the end of an if statement, after the else's error
pub paired-still : (p q : Parser) → OnlyLists p q → Paired p → Paired q
paired-still p q a h = subst Paired (sym a) h

-- ── the errors of a failure ──

by-test : (b : Bool) → elim b [ true ↦ 2 | false ↦ 1 ] ≤ 2
by-test true = omega arith
by-test false = omega arith

most : (y : Why) → listed_by y ≤ 2
most (InvalidIdent i) = omega arith
most (InvalidTkn i) = omega arith
most (InvalidTknMsg q) = by-test (eqb q 3)
most (InvalidAssign i) = omega arith
most InvalidForStmt = omega arith
most InvalidIfStmt = omega arith
most (TknMismatch q i) = omega arith
most (FnParmCntExceeded q) = omega arith
most (WrongFnParmCnt q i) = omega arith
most (UndeclSym i) = omega arith
most (UnassignedVar i) = omega arith
most (ExpectedIdent i) = omega arith

module _ {b : Book} {n : ℕ} {e : Err} (h : Noting b n e) where
  pub noted-none : listed_by e.why ≡ 0 → Noted b n e b
  noted-none z = record { kept = book-same b; notes = λ E l t. rw z t }

  pub noted_one : {m : ℕ} → m ≡ listed_by e.why → (m ≡ 0 → ⊥) → (m ≡ 2 → ⊥) → {a c : Book} → a ≡ b → Writes a (n - 1) e.place (reason_of e.why) c → Noted b n e c
  noted_one {m} em n0 n2 {a} {c} ea da =
      let d : Writes b (n - 1) e.place (reason_of e.why) c = subst (λ (x : Book). Writes x (n - 1) e.place (reason_of e.why) c) ea da in
      let z : listed_by e.why ≡ 1 = omega (arith, em, n0, n2, most e.why) in
      record { kept = d.kept; notes = λ E l t. rw (z, d.places, d.reasons) (notes-more b.places.now b.reasons.now E e (n - 1) (omega (arith, l, z)) (omega (arith, h.room, h.listed, z)) (omega (arith, h.room, h.even, h.listed, z)) t) }

  pub noted-two : {m : ℕ} → m ≡ listed_by e.why → m ≡ 2 → {a d c : Book} → Writes b (n - 1 - 1) e.place (reason_of (InvalidIdent e.place)) d → a ≡ d → Writes a (n - 1) e.place (reason_of e.why) c → Noted b n e c
  noted-two {m} em m2 {a} {d} {c} x ea ya =
      let y : Writes d (n - 1) e.place (reason_of e.why) c = subst (λ (z : Book). Writes z (n - 1) e.place (reason_of e.why) c) ea ya in
      let z : listed_by e.why ≡ 2 = sym em ∙ m2 in
      record {
        kept = book-on x.kept y.kept;
        notes = λ E l t.
            let first = notes-more b.places.now b.reasons.now E (err e.place (InvalidIdent e.place)) (n - 1 - 1) (omega (arith, l, z)) (omega (arith, h.room, h.listed, z)) (omega (arith, h.room, h.even, h.listed, z)) t in
            rw (z, y.places, y.reasons, x.places, x.reasons)
            (notes-more (set b.places.now (n - 1 - 1) e.place) (set b.reasons.now (n - 1 - 1) (reason_of (InvalidIdent e.place))) (err e.place (InvalidIdent e.place) ∷ E) e (n - 1) (omega (arith, l, z)) (simp length-set (omega (arith, h.room, h.listed, z))) (simp length-set (omega (arith, h.room, h.even, h.listed, z))) first);
      }

-- ── the names that a block binds, of one parser; Bindings.antt has the same of any parser that has what a function was lent ──

-- the name of a token that is read where it stood
pub stored-as : {i k : ℕ} {p q : Parser} {x : Result (Unit {0}) Stop} → i ≡ k → Does 0 (λ c. store c i Other) p x q → Does 0 (λ c. store c k Other) p x q
stored-as {p = p} {q = q} {x = x} e d = subst (λ (m : ℕ). Does 0 (λ c. store c m Other) p x q) e d

-- nothing follows
pub and_ok : (o : Out (Unit {0})) → go_on o (λ a s. done tt s) ≡ o
unfolding go_on
and_ok (done tt s) = refl
and_ok (fail e s) = refl
and_ok (refuse r) = refl

-- what is left of the names, ns at the parser q, gives what all of them were to give
abbrev pub Binding : List ℕ → Parser → List ℕ → Parser → Type 0
Binding ns₀ p ns q = At 0 0 (λ s. bind (ctx_at p) ns₀ s) (λ s. bind (ctx_at p) ns s) p q

-- all of them, from the first to the end
pub binding-from : {p : Parser} (a : List ℕ) (first count : ℕ) → Ready p → Binding (between a first count) p (between a first ((first + count) - first)) p
binding-from {p} a first count r =
    subst (λ (m : ℕ). Binding (between a first count) p (between a first m) p) (let z : count ≡ (first + count) - first = omega arith in z) (begin 0 (λ c. bind c (between a first count)) r)

-- the first of the names that are left, and none of them
module _ (ns a : List ℕ) (k end : ℕ) {p q : Parser} (t : Binding ns p (between a k (end - k)) q) where
  pub bind-first : k < end → At 0 0 (λ s. bind (ctx_at p) ns s) (λ s. go_on (store (ctx_at p) (get_or a k 0) Other s) (λ x. bind (ctx_at p) (between a (k + 1) (end - (k + 1))))) p q
  unfolding bind
  bind-first h = by t (λ s. ap (λ (l : List ℕ). bind (ctx_at p) l s) (between_more a k end h))

  pub bind-end : end ≤ k → At 0 0 (λ s. bind (ctx_at p) ns s) (λ s. done tt s) p q
  unfolding bind
  bind-end h = by t (λ s. ap (λ (l : List ℕ). bind (ctx_at p) l s) (between_none a k end h))

-- a name that is stored leaves the nodes' words
pub nodes-still : (p q : Parser) → OnlyDeclares p q → SameNodes p q
nodes-still p q a = (ap (λ (y : Parser). y.head) a, ap (λ (y : Parser). y.load) a)

pub nodes-on : (p q x : Parser) → SameNodes p q → SameNodes q x → SameNodes p x
nodes-on p q x a b = (b.0 ∙ a.0, b.1 ∙ a.1)

-- ── the names, by their case ──

pub names-fit : {n m : Names} (ls : List ℕ) → n ≡ m → NamesFit n ls → NamesFit m ls
names-fit ls e h = subst (λ (x : Names). NamesFit x ls) e h

pub bind-as : {n m : Names} {p q : Parser} {r : Result (Unit {0}) Stop} (ls : List ℕ) → n ≡ m → Does 0 (λ c. bind c (names_of m ls)) p r q → Does 0 (λ c. bind c (names_of n ls)) p r q
bind-as {n} {m} {p} {q} {r} ls e d = subst (λ (x : Names). Does 0 (λ c. bind c (names_of x ls)) p r q) (sym e) d

pub bind-none : {n : Names} {p : Parser} (ls : List ℕ) → Ready p → n ≡ Unnamed → Does 0 (λ c. bind c (names_of n ls)) p (Ok tt) p
unfolding bind
bind-none ls r e = bind-as ls e (fin (λ c. bind c []) (begin 0 (λ c. bind c []) r))

-- ── the inserted return statement ──

pub body_is : {j k : ℕ} {f : St → Out ℕ} {p q : Parser} (b body : Bool) (m : ℕ) → At j k f (λ s. with_return (ctx_at p) body m s) p q → body ≡ b → At j k f (λ s. with_return (ctx_at p) b m s) p q
body_is {p = p} b body m t e = by t (λ s. ap (λ (x : Bool). with_return (ctx_at p) x m s) e)

-- of any definition and one parser; Ends.antt has it of `Returns`
pub return-stops : {f : Ctx → St → Out ℕ} {p q : Parser} {g : Refusal} (x : Result ℕ Refusal) (n : ℕ) → Does 0 f p (Stopped (Refused g)) q → IsErr x × IsErrAnd x (λ h. h ≡ g) → SameSymbols p q → Does 0 f p (lifted x) q × IfOk x (λ m. m ≤ n) × SameSymbols p q
return-stops (Ok a) n d h e = absurd h.1
return-stops (Stopped s) n d h e = (handed (Stopped s) d h, tt, e)

-- ── the end of an if statement ──

-- the code's n + 2 is the definition's 2 + n
pub plus-two : {k r : ℕ} {f : Bool} (n : ℕ) → HeadWord k f (n + 2) r → HeadWord k f (2 + n) r
plus-two {k} {r} {f} n h = subst (λ (m : ℕ). HeadWord k f m r) (let e : n + 2 ≡ 2 + n = omega arith in e) h

-- after the else's error, and with the node
module _ {p : Parser} {b : Book} (n elses : ℕ) where
  pub if-stops : {q : Parser} {c : Book} {s : Stop} → Lists 0 (λ x. second_else x elses) p b (Stopped s) q c → Lists 0 (λ x. end_if x n elses) p b (Stopped s) q c
  unfolding end_if
  if-stops e = given e.kept e.book (λ r. stops (λ x. second_else x elses) _ (λ x. end_if x n elses) (listing b (begin 0 (λ x. end_if x n elses) r)) (omega arith) e)

  pub if-ends : {q z : Parser} {c : Book} {word : ℕ} {x : Result (Unit {0}) Stop} → HeadWord 3 false (2 + n) word → Lists 0 (λ y. second_else y elses) p b (Ok tt) q c
      → Does 0 (λ y. push y (kind_in word) (flag_in word) (kids_in word) 0) q x z → Lists 0 (λ y. end_if y n elses) p b x z c
  unfolding end_if
  if-ends h e d = given (kept-on e.kept d.kept) e.book (λ r.
      lasts (λ y. push y 3 false (2 + n) 0) (λ y. end_if y n elses) (goes (λ y. second_else y elses) _ (listing b (begin 0 (λ y. end_if y n elses) r)) e) (omega arith) (quiet _ (pushed-as 0 h d)))

-- the same, whatever is read and whatever the symbols are
module _ {p : Parser} {b : Book} (n elses : ℕ) where
  pub if-stopped : {q : Parser} {c : Book} {s : Stop} → Elses p b elses (Stopped s) q c → (sc os ks ys : List ℕ) → Lists 0 (λ x. end_if x n elses) (growing (inp sc os ks p.lim) ys p) b (Stopped s) (growing (inp sc os ks p.lim) ys q) c
  if-stopped {q} {c} {s} e sc os ks ys =
      rw (ap (λ (y : Parser). y.head.now) e.alone, ap (λ (y : Parser). y.load.now) e.alone)
      (if-stops n elses (e.whatever sc os ks (mem ys p.head.now p.load.now)))

  pub if-ended : {q z : Parser} {c : Book} {word : ℕ} {x : Result (Unit {0}) Refusal} → HeadWord 3 false (2 + n) word → Elses p b elses (Ok tt) q c → Pushes q word 0 x z → (sc os ks ys : List ℕ)
      → Lists 0 (λ y. end_if y n elses) (growing (inp sc os ks p.lim) ys p) b (lifted x) (growing (inp sc os ks p.lim) ys z) c
  if-ended {q} {z} {c} {word} {x} h e d sc os ks ys = if-ends n elses h (e.whatever sc os ks (mem ys p.head.now p.load.now)) grown
    where
      grown : Does 0 (λ y. push y (kind_in word) (flag_in word) (kids_in word) 0) (under sc os ks (mem ys p.head.now p.load.now) p q) (lifted x) (growing (inp sc os ks p.lim) ys z)
      grown =
          rw (sym (ap (λ (y : Parser). y.lim) e.alone), sym (ap (λ (y : Parser). y.head.now) e.alone), sym (ap (λ (y : Parser). y.load.now) e.alone))
          (d.whatever (inp sc os ks q.lim) ys)
