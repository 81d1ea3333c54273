-- The steps of a proof about a function that lists errors and goes on: those of sifc_step, with the errors' words beside.
use Rattle.std.specs.Prelude.{ℕ, ◌+◌, ◌-◌, ◌≤◌, ◌≡◌, refl, List, length, Bool, true, false, Result, Ok, Err as Stopped, IsErr, IsErrAnd}
use Rattle.std.proofs.Common.{arith, le_trans, sym, ap, ◌∙◌, inl, inr, ⊎_elim}
use Rattle.std.proofs.Math.Path.{subst}
use Rattle.sifc_word.specs.Base.{if◌then◌otherwise◌}
use Rattle.sifc_def.specs.declared.Err.{Err}
use Rattle.sifc_def.specs.State.{Ctx, St, Out, done, go_on, tok_at}
use Rattle.sifc_step.specs.declared.walk.Parser.{Parser}
use Rattle.sifc_step.specs.declared.walk.Stop.{Stop}
use Rattle.sifc_step.specs.declared.walk.Stop.TheVariants.{Failed, Refused}
use Rattle.sifc_step.specs.Abs.{Inp, Mem, Walk, inp_of, mem_of, walk_of, ctx_at, abs, abs_at, outcome_of, here, listed_by, Ready, Fine, Broke, FineOf, Kept, Does}
use Rattle.sifc_step.proofs.Steps.{At, kind-here, length-nodes, kept-on, ctx-kept, ready-after, halts, as-read}
use Rattle.sifc_block.specs.declared.book.Book.{Book}
use Rattle.sifc_block.specs.Lists.{Holding, Roomy, Booked, KeptBook, CountOf, Told, NextOf, Lists}

-- ── what is kept ──

pub book-same : (b : Book) → KeptBook b b
book-same b = record { places_name = refl; reasons_name = refl; places = refl; reasons = refl }

pub book-on : {b c d : Book} → KeptBook b c → KeptBook c d → KeptBook b d
book-on x y = record { places_name = y.places_name ∙ x.places_name; reasons_name = y.reasons_name ∙ x.reasons_name; places = y.places ∙ x.places; reasons = y.reasons ∙ x.reasons }

-- ── a call that lists nothing and goes on ──

next-of : {A : Type 0} (x : Result A Stop) (I : Inp) (M : Mem) (lo n : ℕ) (w : Walk) → FineOf I M lo n x w → NextOf I M lo x w
next-of (Ok a) I M lo n w f = record { here = f.here; calm = f.calm; used = f.used; holds = f.holds; level = f.level; room = f.room; errors = refl; on = f.on }
next-of (Stopped (Failed e)) I M lo n w f = record { here = f.here; calm = f.calm; used = f.used; holds = f.holds; level = f.level; room = f.room; errors = refl; on = f.on }
next-of (Stopped (Refused g)) I M lo n w f = tt

count-of : {A : Type 0} (x : Result A Stop) (I : Inp) (M : Mem) (lo n m : ℕ) (w : Walk) → FineOf I M lo n x w → m ≡ n → CountOf x m w.errors
count-of (Ok a) I M lo n m w f e = e ∙ sym f.errors
count-of (Stopped (Failed y)) I M lo n m w f e = ap (λ (k : ℕ). k + listed_by y.why) e ∙ sym f.errors
count-of (Stopped (Refused g)) I M lo n m w f e = tt

pub quiet : {A : Type 0} {j : ℕ} {f : Ctx → St → Out A} {p q : Parser} {x : Result A Stop} (b : Book) → Does j f p x q → Lists j f p b x q b
quiet {j = j} {p = p} {q = q} {x = x} b d =
    record {
      kept = d.kept;
      book = book-same b;
      fine = λ r. next-of x (inp_of p) (mem_of q) (j + p.at) p.errors (walk_of q) (d.fine r);
      tells = λ r E e t. record { errs = E; notes = t; count = count-of x (inp_of p) (mem_of q) (j + p.at) p.errors (length E) (walk_of q) (d.fine r) e; same = d.same r E e };
    }

-- ── an answer that is an error, passed on by `?` ──

pub conveyed : {A : Type 0} {j : ℕ} {f : Ctx → St → Out A} {p q : Parser} {b c : Book} {s : Stop} {x : Result A Stop}
    → Lists j f p b (Stopped s) q c → IsErr x × IsErrAnd x (λ t. t ≡ s) → Lists j f p b x q c
conveyed {x = Ok a} d h = absurd h.1
conveyed {x = Stopped t} d h = rw h.1 d

-- ── where a function stands ──

-- what is left to do at q, where the words c hold errs, is the outcome o
pub record Left {B : Type 0} (o : Out B) (g : St → Out B) (q : Parser) (c : Book) : Type 0 where
  pub errs : List Err
  pub notes : Holding c errs
  pub count : length errs ≡ q.errors
  pub is : o ≡ g (abs_at errs q)

-- What is left to do at q with the words c, g, gives what the whole, f, gives at p with the words b: of j tokens that have to be passed k are left.
pub record Going {B : Type 0} (j k : ℕ) (f g : St → Out B) (p : Parser) (b : Book) (q : Parser) (c : Book) : Type 0 where
  pub kept : Kept p q
  pub book : KeptBook b c
  pub left : (E : List Err) → length E ≡ p.errors → Holding b E → Left (f (abs_at E p)) g q c
  pub is : Ready q
  pub on : j + p.at ≤ k + q.at

-- from a walk that has listed nothing so far
pub listing : {B : Type 0} {j k : ℕ} {f g : St → Out B} {p q : Parser} (b : Book) → At j k f g p q → Going j k f g p b q b
listing b a = record { kept = a.kept; book = book-same b; left = λ E e t. record { errs = E; notes = t; count = e ∙ sym a.errors; is = a.left E e }; is = a.is; on = a.on }

-- what a call gives, in the context of the whole
gave : {A : Type 0} (m : Ctx → St → Out A) {p q r : Parser} {d : Book} {x : Result A Stop} → Kept p q → (E : List Err) (t : Told (m (ctx_at q) (abs_at E q)) q x r d) → m (ctx_at p) (abs_at E q) ≡ outcome_of (inp_of q) t.errs x (mem_of r) (walk_of r)
gave m {p} {q} k E t = ap (λ (c : Ctx). m c (abs_at E q)) (sym (ctx-kept k)) ∙ sym t.same

module _ {A B : Type 0} {i j k : ℕ} (m : Ctx → St → Out A) (K : A → St → Out B) where
  -- a call that gives a value: what follows goes on from its state
  pub goes : {f : St → Out B} {p q r : Parser} {b c d : Book} {a : A} → Going j k f (λ s. go_on (m (ctx_at p) s) K) p b q c → Lists i m q c (Ok a) r d → Going j (k - i) f (K a) p b r d
  unfolding go_on
  goes {f} {p} {q} {r} {b} {c} {d} {a} t l =
      record {
        kept = kept-on t.kept l.kept;
        book = book-on t.book l.book;
        left = λ E e n.
            let x = t.left E e n in
            let y = l.tells t.is x.errs x.count x.notes in
            record {
              errs = y.errs;
              notes = y.notes;
              count = y.count;
              is = x.is ∙ ap (λ (o : Out A). go_on o K) (gave m t.kept x.errs y ∙ ap (λ (I : Inp). done a (abs I y.errs (walk_of r) (mem_of r))) (sym l.kept.inp));
            };
        is = ready-after t.is l.kept (l.fine t.is);
        on = omega (arith, t.on, (l.fine t.is).on);
      }

farther : {A : Type 0} (x : Result A Stop) (I J : Inp) (N : Mem) (w : Walk) (a b : ℕ) → I ≡ J → a ≤ b → NextOf I N b x w → NextOf J N a x w
farther (Ok v) I J N w a b i h f =
    subst (λ (H : Inp). Fine H N a w.errors w) i (record { here = f.here; calm = f.calm; used = f.used; holds = f.holds; level = f.level; room = f.room; errors = refl; on = le_trans h f.on })
farther (Stopped (Failed y)) I J N w a b i h f =
    subst (λ (H : Inp). Broke H N a w.errors w) i (record {
      here = f.here;
      calm = f.calm;
      used = f.used;
      holds = f.holds;
      level = f.level;
      room = f.room;
      errors = refl;
      on = ⊎_elim (λ z. inl (le_trans h z)) (λ z. inr z) f.on;
    })
farther (Stopped (Refused g)) I J N w a b i h f = tt

free : (A B : Type 0) (s : Stop) (I : Inp) (N : Mem) (w : Walk) (lo : ℕ) → NextOf {A = A} I N lo (Stopped s) w → NextOf {A = B} I N lo (Stopped s) w
free A B (Failed e) I N w lo f = f
free A B (Refused g) I N w lo f = tt

counts : (A B : Type 0) (s : Stop) (m n : ℕ) → CountOf {A = A} (Stopped s) m n → CountOf {A = B} (Stopped s) m n
counts A B (Failed e) m n f = f
counts A B (Refused g) m n f = tt

-- a call that gives none
pub stops : {A B : Type 0} {i j k : ℕ} (m : Ctx → St → Out A) (K : A → St → Out B) (f : Ctx → St → Out B) {p q r : Parser} {b c d : Book} {s : Stop}
    → Going j k (f (ctx_at p)) (λ t. go_on (m (ctx_at p) t) K) p b q c → k ≤ i → Lists i m q c (Stopped s) r d → Lists j f p b (Stopped s) r d
stops {A} {B} {i} {j} {k} m K f {p} {q} {r} {b} {c} {d} {s} t le l =
    record {
      kept = kept-on t.kept l.kept;
      book = book-on t.book l.book;
      fine = λ z. free A B s (inp_of p) (mem_of r) (walk_of r) (j + p.at) (farther {A = A} (Stopped s) (inp_of q) (inp_of p) (mem_of r) (walk_of r) (j + p.at) (i + q.at) t.kept.inp (omega (arith, t.on)) (l.fine t.is));
      tells = λ z E e n.
          let x = t.left E e n in
          let y = l.tells t.is x.errs x.count x.notes in
          record {
            errs = y.errs;
            notes = y.notes;
            count = counts A B s (length y.errs) r.errors y.count;
            same = sym (x.is ∙ ap (λ (o : Out A). go_on o K) (gave m t.kept x.errs y) ∙ halts (inp_of q) y.errs s (mem_of r) (walk_of r) K ∙ as-read {A = B} y.errs (Stopped s) (mem_of r) (walk_of r) t.kept.inp);
          };
    }

-- a last call
pub lasts : {A : Type 0} {i j k : ℕ} (m f : Ctx → St → Out A) {p q r : Parser} {b c d : Book} {x : Result A Stop}
    → Going j k (f (ctx_at p)) (m (ctx_at p)) p b q c → k ≤ i → Lists i m q c x r d → Lists j f p b x r d
lasts {A} {i} {j} {k} m f {p} {q} {r} {b} {c} {d} {x} t le l =
    record {
      kept = kept-on t.kept l.kept;
      book = book-on t.book l.book;
      fine = λ z. farther x (inp_of q) (inp_of p) (mem_of r) (walk_of r) (j + p.at) (i + q.at) t.kept.inp (omega (arith, t.on)) (l.fine t.is);
      tells = λ z E e n.
          let v = t.left E e n in
          let y = l.tells t.is v.errs v.count v.notes in
          record { errs = y.errs; notes = y.notes; count = y.count; same = sym (v.is ∙ gave m t.kept v.errs y ∙ as-read y.errs x (mem_of r) (walk_of r) t.kept.inp) };
    }

-- a value at the end
pub ends : {A : Type 0} {j : ℕ} (f : Ctx → St → Out A) {p q : Parser} {b c : Book} {a : A} → Going j 0 (f (ctx_at p)) (λ s. done a s) p b q c → Lists j f p b (Ok a) q c
ends {A} {j} f {p} {q} {b} {c} {a} t =
    record {
      kept = t.kept;
      book = t.book;
      fine = λ z. subst (λ (I : Inp). Fine I (mem_of q) (j + p.at) q.errors (walk_of q)) t.kept.inp (record {
        here = t.is.stands.here;
        calm = t.is.stands.calm;
        used = t.is.used;
        holds = t.is.holds;
        level = t.is.level;
        room = t.is.room;
        errors = refl;
        on = omega (arith, t.on);
      });
      tells = λ z E e n.
          let x = t.left E e n in
          record { errs = x.errs; notes = x.notes; count = x.count; same = sym (x.is ∙ ap (λ (I : Inp). done a (abs I x.errs (walk_of q) (mem_of q))) t.kept.inp) };
    }

-- what is kept, and the rest of a parser that is ready
pub given : {A : Type 0} {j : ℕ} {f : Ctx → St → Out A} {p q : Parser} {b c : Book} {x : Result A Stop} → Kept p q → KeptBook b c → (Ready p → Lists j f p b x q c) → Lists j f p b x q c
given k l h = record { kept = k; book = l; fine = λ r. (h r).fine r; tells = λ r. (h r).tells r }

module _ {B : Type 0} {j k : ℕ} {f : St → Out B} {p q : Parser} {b c : Book} where
  pub turned : {g h : St → Out B} → Going j k f g p b q c → ((s : St) → g s ≡ h s) → Going j k f h p b q c
  turned t e =
      record {
        kept = t.kept;
        book = t.book;
        left = λ E l n. let x = t.left E l n in record { errs = x.errs; notes = x.notes; count = x.count; is = x.is ∙ e (abs_at x.errs q) };
        is = t.is;
        on = t.on;
      }

  -- what is read off the state
  pub reads : {A : Type 0} (h : St → A) (K : A → St → Out B) {a : A} → Going j k f (λ s. go_on (done (h s) s) K) p b q c → ((E : List Err) → h (abs_at E q) ≡ a) → Going j k f (K a) p b q c
  unfolding go_on
  reads h K t e =
      record {
        kept = t.kept;
        book = t.book;
        left = λ E l n. let x = t.left E l n in record { errs = x.errs; notes = x.notes; count = x.count; is = x.is ∙ ap (λ y. K y (abs_at x.errs q)) (e x.errs) };
        is = t.is;
        on = t.on;
      }

  -- the kind in front
  pub kind-of : (K : ℕ → St → Out B) → Going j k f (λ s. go_on (done (tok_at (ctx_at p) s.at).kind s) K) p b q c → Going j k f (K (here q)) p b q c
  kind-of K t = reads (λ (s : St). (tok_at (ctx_at p) s.at).kind) K t (λ E. ap (λ (x : Ctx). (tok_at x q.at).kind) (sym (ctx-kept t.kept)) ∙ kind-here q t.is)

  -- how many nodes there are
  pub nodes-of : (K : ℕ → St → Out B) → Going j k f (λ s. go_on (done (length s.nodes) s) K) p b q c → Going j k f (K q.nodes) p b q c
  nodes-of K t = reads (λ (s : St). length s.nodes) K t (λ E. length-nodes q.nodes q.head.now q.load.now)

  pub if-yes : {t : Bool} (g h : St → Out B) → Going j k f (if◌then◌otherwise◌ {A = St → Out B} t g h) p b q c → t ≡ true → Going j k f g p b q c
  unfolding if◌then◌otherwise◌
  if-yes g h w e = turned w (λ s. ap (λ (x : Bool). if◌then◌otherwise◌ {A = St → Out B} x g h s) e)

  pub if-no : {t : Bool} (g h : St → Out B) → Going j k f (if◌then◌otherwise◌ {A = St → Out B} t g h) p b q c → t ≡ false → Going j k f h p b q c
  unfolding if◌then◌otherwise◌
  if-no g h w e = turned w (λ s. ap (λ (x : Bool). if◌then◌otherwise◌ {A = St → Out B} x g h s) e)

-- ── the words, where a function stands ──

pub roomy : {p q : Parser} {b c : Book} → Roomy p b → Kept p q → KeptBook b c → Roomy q c
roomy r k l = (l.places ∙ r.0 ∙ sym l.reasons, ap (λ (I : Inp). I.lim.errors) k.inp ∙ r.1 ∙ sym l.places)

pub booked : {B : Type 0} {j k : ℕ} {f g : St → Out B} {p q : Parser} {b c : Book} → Booked p b → Going j k f g p b q c → Booked q c
booked h t =
    let x = t.left h.errs h.count h.notes in
    let r = roomy (h.even, h.room) t.kept t.book in
    record { errs = x.errs; notes = x.notes; count = x.count; even = r.0; room = r.1 }
