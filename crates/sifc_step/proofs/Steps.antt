-- Where a function of the walk stands: what is left to do gives what the whole function is to give. The steps by which the proofs of the walk go on.
use Rattle.std.specs.Prelude.{ℕ, zero, suc, ◌+◌, ◌-◌, ◌≤◌, ◌<◌, ◌≡◌, refl, ◌≢◌, List, [], ◌∷◌, Bool, true, false, ◌||◌, length, get_or, set, T, ltb, eqb, Result, Ok, Err as Stopped}
use Rattle.std.proofs.Common.{add-one, arith, le_trans, sym, ap, ap₂, ◌∙◌, inl, inr, ⊎_elim, get_or-set_same, get_or-set_other, ne_eqb, ltb-true, ltb-false}
use Rattle.std.proofs.Math.Path.{subst}
use Rattle.sifc_err.specs.declared.Refusal.{Refusal}
use Rattle.sifc_err.specs.declared.Token.{Token}
use Rattle.sifc_word.specs.Base.{if◌then◌otherwise◌}
use Rattle.sifc_def.specs.declared.Err.{Err}
use Rattle.sifc_err.specs.declared.parse_err.ParseErrTy.TheVariants.{InvalidIfStmt}
use Rattle.sifc_def.specs.State.{Node, Ctx, St, Out, done, fail, refuse, go_on, tok_at}
use Rattle.sifc_symtab.specs.Toks.{toks-at}
use Rattle.sifc_step.specs.declared.walk.Parser.{Parser}
use Rattle.sifc_step.specs.declared.walk.Target.{Target}
use Rattle.sifc_step.specs.declared.walk.Stop.{Stop}
use Rattle.sifc_step.specs.declared.walk.Stop.TheVariants.{Failed, Refused}
use Rattle.sifc_step.specs.Abs.{Inp, Mem, Rooms, rooms_of, Walk, inp_of, mem_of, walk_of, node_in, nodes_of, ctx, ctx_at, abs, abs_at, outcome_of, kind_at, here, Tokens, ReadyOf, Ready, Fine, Broke, FineOf, Kept, Does, listed_by, StandsAt}
use Rattle.sifc_step.specs.Small.{node_of, newest}

-- ── the tokens that the words stand for ──

pub kind-is : (I : Inp) (n : Rooms) (i : ℕ) → Tokens I.offs I.words → i < length I.words → (tok_at (ctx I n) i).kind ≡ kind_at I.words i
kind-is I n i t h = ap (λ (x : Token). x.kind) (toks-at I.offs I.words i (omega (arith, t.even)) h)

pub off-is : (I : Inp) (n : Rooms) (i : ℕ) → Tokens I.offs I.words → i < length I.words → (tok_at (ctx I n) i).off ≡ get_or I.offs i 0
off-is I n i t h = ap (λ (x : Token). x.off) (toks-at I.offs I.words i (omega (arith, t.even)) h)

pub kind-here : (p : Parser) → Ready p → (tok_at (ctx_at p) p.at).kind ≡ here p
kind-here p r = kind-is (inp_of p) (rooms_of (mem_of p)) p.at r.stands.toks r.stands.here

-- ── the nodes that the words stand for ──

pub length-nodes : (n : ℕ) (hs ls : List ℕ) → length (nodes_of n hs ls) ≡ n
unfolding nodes_of
length-nodes zero hs ls = refl
length-nodes (suc n) hs ls = ap suc (length-nodes n hs ls)

nodes-below : (m n : ℕ) (hs ls : List ℕ) (h t : ℕ) → m ≤ n → nodes_of m (set hs n h) (set ls n t) ≡ nodes_of m hs ls
unfolding nodes_of
nodes-below zero n hs ls h t le = refl
nodes-below (suc m) n hs ls h t le =
    let ne : m ≢ n = λ e. omega arith in
    rw (get_or-set_other hs n m h 0 ne, get_or-set_other ls n m t 0 ne, nodes-below m n hs ls h t (omega arith)) refl

pub nodes-more : (n : ℕ) (hs ls : List ℕ) (h t : ℕ) → n < length hs → n < length ls → nodes_of (n + 1) (set hs n h) (set ls n t) ≡ node_in h t ∷ nodes_of n hs ls
unfolding nodes_of
nodes-more n hs ls h t p q =
    rw (add-one n, get_or-set_same hs n h 0 p, get_or-set_same ls n t 0 q, nodes-below n n hs ls h t (omega arith)) refl

-- ── what is kept ──

pub kept-same : (p : Parser) → Kept p p
kept-same p = record { inp = refl; symbols_name = refl; head_name = refl; load_name = refl; symbols = refl; head = refl; load = refl }

pub kept-on : {p q r : Parser} → Kept p q → Kept q r → Kept p r
kept-on a b =
    record {
      inp = b.inp ∙ a.inp;
      symbols_name = b.symbols_name ∙ a.symbols_name;
      head_name = b.head_name ∙ a.head_name;
      load_name = b.load_name ∙ a.load_name;
      symbols = b.symbols ∙ a.symbols;
      head = b.head ∙ a.head;
      load = b.load ∙ a.load;
    }

pub ctx-kept : {p q : Parser} → Kept p q → ctx_at q ≡ ctx_at p
ctx-kept {p} {q} a =
    ap (λ (I : Inp). ctx I (rooms_of (mem_of q))) a.inp
    ∙ ap₂ (λ (m n : ℕ). ctx (inp_of p) (record { nodes = m; words = n })) a.head a.symbols

-- ── where a walk stands ──

-- What is left to do at q, g, gives what the whole, f, gives at p: of j tokens that have to be passed k are left.
pub record At {B : Type 0} (j k : ℕ) (f g : St → Out B) (p q : Parser) : Type 0 where
  pub kept : Kept p q
  pub left : (E : List Err) → length E ≡ p.errors → f (abs_at E p) ≡ g (abs_at E q)
  pub is : Ready q
  pub on : j + p.at ≤ k + q.at
  pub errors : q.errors ≡ p.errors

pub begin : (j : ℕ) {B : Type 0} (f : Ctx → St → Out B) {p : Parser} → Ready p → At j j (f (ctx_at p)) (f (ctx_at p)) p p
begin j f {p} r = record { kept = kept-same p; left = λ E e. refl; is = r; on = omega arith; errors = refl }

-- what a call gives, in the context of the whole
gave : {A : Type 0} {i : ℕ} (m : Ctx → St → Out A) {p q r : Parser} {x : Result A Stop} → Kept p q → Ready q → Does i m q x r
    → (E : List Err) → length E ≡ q.errors → m (ctx_at p) (abs_at E q) ≡ outcome_of (inp_of q) E x (mem_of r) (walk_of r)
gave m {p} {q} {r} {x} k z d E e = ap (λ (c : Ctx). m c (abs_at E q)) (sym (ctx-kept k)) ∙ sym (d.same z E e)

pub ready-after : {p q : Parser} {lo n : ℕ} → Ready p → Kept p q → Fine (inp_of p) (mem_of q) lo n (walk_of q) → Ready q
ready-after {p} {q} {lo} {n} r k f =
    subst (λ (I : Inp). ReadyOf I (mem_of q) (walk_of q)) (sym k.inp) (record {
      stands = record { toks = r.stands.toks; here = f.here; calm = f.calm };
      even = k.head ∙ r.even ∙ sym k.load;
      used = f.used;
      holds = f.holds;
      level = f.level;
      room = f.room;
    })

-- a call that gives a value: what follows goes on from its state
pub go : {A B : Type 0} {i j k : ℕ} (m : Ctx → St → Out A) (K : A → St → Out B) {f : St → Out B} {p q r : Parser} {a : A}
    → At j k f (λ s. go_on (m (ctx_at p) s) K) p q → Does i m q (Ok a) r → At j (k - i) f (K a) p r
unfolding go_on
go {A} {B} {i} {j} {k} m K {f} {p} {q} {r} {a} t d =
    record {
      kept = kept-on t.kept d.kept;
      left = λ E e. t.left E e ∙ ap (λ (o : Out A). go_on o K) (gave m t.kept t.is d E (e ∙ sym t.errors) ∙ ap (λ (I : Inp). done a (abs I E (walk_of r) (mem_of r))) (sym d.kept.inp));
      is = ready-after t.is d.kept (d.fine t.is);
      on = omega (arith, t.on, (d.fine t.is).on);
      errors = (d.fine t.is).errors ∙ t.errors;
    }

pub farther : {A : Type 0} (x : Result A Stop) (I J : Inp) (N : Mem) (w : Walk) (a b n n' : ℕ) → I ≡ J → a ≤ b → n ≡ n' → FineOf I N b n x w → FineOf J N a n' x w
farther (Ok v) I J N w a b n n' i h e f =
    subst (λ (H : Inp). Fine H N a n' w) i (record { here = f.here; calm = f.calm; used = f.used; holds = f.holds; level = f.level; room = f.room; errors = f.errors ∙ e; on = le_trans h f.on })
farther (Stopped (Failed y)) I J N w a b n n' i h e f =
    subst (λ (H : Inp). Broke H N a (n' + listed_by y.why) w) i (record {
      here = f.here;
      calm = f.calm;
      used = f.used;
      holds = f.holds;
      level = f.level;
      room = f.room;
      errors = f.errors ∙ ap (λ (m : ℕ). m + listed_by y.why) e;
      on = ⊎_elim (λ z. inl (le_trans h z)) (λ z. inr z) f.on;
    })
farther (Stopped (Refused g)) I J N w a b n n' i h e f = tt

-- a call that gives none: the function gives what the call gave
pub halts : {A B : Type 0} (I : Inp) (E : List Err) (s : Stop) (N : Mem) (w : Walk) (K : A → St → Out B) → go_on (outcome_of {A = A} I E (Stopped s) N w) K ≡ outcome_of {A = B} I E (Stopped s) N w
unfolding go_on
halts I E (Failed e) N w K = refl
halts I E (Refused f) N w K = refl

pub as-read : {A : Type 0} {I J : Inp} (E : List Err) (x : Result A Stop) (N : Mem) (w : Walk) → I ≡ J → outcome_of I E x N w ≡ outcome_of J E x N w
as-read E x N w i = ap (λ (H : Inp). outcome_of H E x N w) i

free : (A B : Type 0) (s : Stop) (I : Inp) (N : Mem) (w : Walk) (lo n : ℕ) → FineOf {A = A} I N lo n (Stopped s) w → FineOf {A = B} I N lo n (Stopped s) w
free A B (Failed e) I N w lo n f = f
free A B (Refused g) I N w lo n f = tt

pub stop : {A B : Type 0} {i j k : ℕ} (m : Ctx → St → Out A) (K : A → St → Out B) (f : Ctx → St → Out B) {p q r : Parser} {s : Stop}
    → At j k (f (ctx_at p)) (λ t. go_on (m (ctx_at p) t) K) p q → k ≤ i → Does i m q (Stopped s) r → Does j f p (Stopped s) r
stop {A} {B} {i} {j} {k} m K f {p} {q} {r} {s} t le d =
    record {
      kept = kept-on t.kept d.kept;
      same = λ z E e. sym (t.left E e ∙ ap (λ (o : Out A). go_on o K) (gave m t.kept t.is d E (e ∙ sym t.errors)) ∙ halts (inp_of q) E s (mem_of r) (walk_of r) K
          ∙ as-read {A = B} E (Stopped s) (mem_of r) (walk_of r) t.kept.inp);
      fine = λ z. free A B s (inp_of p) (mem_of r) (walk_of r) (j + p.at) p.errors
          (farther {A = A} (Stopped s) (inp_of q) (inp_of p) (mem_of r) (walk_of r) (j + p.at) (i + q.at) q.errors p.errors t.kept.inp (omega (arith, t.on)) t.errors (d.fine t.is));
    }

-- the same of a refusal, wherever the walk stands
pub refused : {A B : Type 0} {i j k : ℕ} (m : Ctx → St → Out A) (K : A → St → Out B) (f : Ctx → St → Out B) {p q r : Parser} {g : Refusal} {s : Stop}
    → At j k (f (ctx_at p)) (λ t. go_on (m (ctx_at p) t) K) p q → Does i m q (Stopped (Refused g)) r → s ≡ Refused g → Does j f p (Stopped s) r
unfolding go_on
refused {A} {B} {i} {j} {k} m K f {p} {q} {r} {g} {s} t d e =
    rw e (record {
      kept = kept-on t.kept d.kept;
      same = λ z E h. sym (t.left E h ∙ ap (λ (o : Out A). go_on o K) (gave m t.kept t.is d E (h ∙ sym t.errors)));
      fine = λ z. tt;
    })

-- a last call
pub last : {A : Type 0} {i j k : ℕ} (m f : Ctx → St → Out A) {p q r : Parser} {x : Result A Stop}
    → At j k (f (ctx_at p)) (m (ctx_at p)) p q → k ≤ i → Does i m q x r → Does j f p x r
last {A} {i} {j} {k} m f {p} {q} {r} {x} t le d =
    record {
      kept = kept-on t.kept d.kept;
      same = λ z E e. sym (t.left E e ∙ gave m t.kept t.is d E (e ∙ sym t.errors) ∙ as-read E x (mem_of r) (walk_of r) t.kept.inp);
      fine = λ z. farther x (inp_of q) (inp_of p) (mem_of r) (walk_of r) (j + p.at) (i + q.at) q.errors p.errors t.kept.inp (omega (arith, t.on)) t.errors (d.fine t.is);
    }

-- a value at the end
pub fin : {A : Type 0} {j : ℕ} (f : Ctx → St → Out A) {p q : Parser} {a : A} → At j 0 (f (ctx_at p)) (λ s. done a s) p q → Does j f p (Ok a) q
fin {A} {j} f {p} {q} {a} t =
    record {
      kept = t.kept;
      same = λ z E e. sym (t.left E e ∙ ap (λ (I : Inp). done a (abs I E (walk_of q) (mem_of q))) t.kept.inp);
      fine = λ z. subst (λ (I : Inp). Fine I (mem_of q) (j + p.at) p.errors (walk_of q)) t.kept.inp (record {
        here = t.is.stands.here;
        calm = t.is.stands.calm;
        used = t.is.used;
        holds = t.is.holds;
        level = t.is.level;
        room = t.is.room;
        errors = t.errors;
        on = omega (arith, t.on);
      });
    }

module _ {B : Type 0} {j k : ℕ} {f : St → Out B} {p q : Parser} where
  pub by : {g h : St → Out B} → At j k f g p q → ((s : St) → g s ≡ h s) → At j k f h p q
  by t e = record { kept = t.kept; left = λ E l. t.left E l ∙ e (abs_at E q); is = t.is; on = t.on; errors = t.errors }

  -- what is read off the state
  pub read : {A : Type 0} (h : St → A) (K : A → St → Out B) {a : A} → At j k f (λ s. go_on (done (h s) s) K) p q → ((E : List Err) → h (abs_at E q) ≡ a) → At j k f (K a) p q
  unfolding go_on
  read h K t e = record { kept = t.kept; left = λ E l. t.left E l ∙ ap (λ x. K x (abs_at E q)) (e E); is = t.is; on = t.on; errors = t.errors }

  -- the kind in front
  pub kinded : (K : ℕ → St → Out B) → At j k f (λ s. go_on (done (tok_at (ctx_at p) s.at).kind s) K) p q → At j k f (K (here q)) p q
  kinded K t = read (λ (s : St). (tok_at (ctx_at p) s.at).kind) K t (λ E. ap (λ (c : Ctx). (tok_at c q.at).kind) (sym (ctx-kept t.kept)) ∙ kind-here q t.is)

  -- its index
  pub stood : (K : ℕ → St → Out B) → At j k f (λ s. go_on (done s.at s) K) p q → At j k f (K q.at) p q
  stood K t = read (λ (s : St). s.at) K t (λ E. refl)

  -- the newest node, as the code has it
  pub aimed : (x : Target) (K : Node → St → Out B) → At j k f (λ s. go_on (done (get_or s.nodes 0 (record { kind = 0; flag = false; kids = 0; pay = 0 })) s) K) p q → node_of x ≡ newest q
      → At j k f (K (node_of x)) p q
  aimed x K t e = read (λ (s : St). get_or s.nodes 0 (record { kind = 0; flag = false; kids = 0; pay = 0 })) K t (λ E. sym e)

  -- how many nodes there are
  pub numbered : (K : ℕ → St → Out B) → At j k f (λ s. go_on (done (length s.nodes) s) K) p q → At j k f (K q.nodes) p q
  numbered K t = read (λ (s : St). length s.nodes) K t (λ E. length-nodes q.nodes q.head.now q.load.now)

  pub yes : {b : Bool} (g h : St → Out B) → At j k f (if◌then◌otherwise◌ {A = St → Out B} b g h) p q → b ≡ true → At j k f g p q
  unfolding if◌then◌otherwise◌
  yes g h t e = by t (λ s. ap (λ (b : Bool). if◌then◌otherwise◌ {A = St → Out B} b g h s) e)

  pub no : {b : Bool} (g h : St → Out B) → At j k f (if◌then◌otherwise◌ {A = St → Out B} b g h) p q → b ≡ false → At j k f h p q
  unfolding if◌then◌otherwise◌
  no g h t e = by t (λ s. ap (λ (b : Bool). if◌then◌otherwise◌ {A = St → Out B} b g h s) e)

-- a step within a step
pub nested : {A C B : Type 0} (o : Out A) (K : A → St → Out C) (L : C → St → Out B) → go_on (go_on o K) L ≡ go_on o (λ a s. go_on (K a s) L)
unfolding go_on
nested (done a s) K L = refl
nested (fail e s) K L = refl
nested (refuse r) K L = refl

-- a token that is neither Eof nor a panic is not the last
pub not_last : (p : Parser) → StandsAt p → (here p ≡ 47 → ⊥) → p.at + 1 < length p.words.now
not_last p r f = pick_out (ltb (p.at + 1) (length p.words.now)) refl
  where
    either : (k : ℕ) → (k ≡ 47 → ⊥) → (k ≡ 48 → ⊥) → T (eqb k 47 || eqb k 48) → ⊥
    either k a b t = let z : T (false || false) = rw (ne_eqb k 47 a, ne_eqb k 48 b) at t in z

    pick_out : (b : Bool) → ltb (p.at + 1) (length p.words.now) ≡ b → p.at + 1 < length p.words.now
    pick_out true t = ltb-true _ _ t
    pick_out false t =
        let i : length p.words.now - 1 ≡ p.at = omega (arith, ltb-false (p.at + 1) (length p.words.now) t, r.here) in
        absurd (either (here p) f r.calm (subst (λ (m : ℕ). T (eqb (kind_at p.words.now m) 47 || eqb (kind_at p.words.now m) 48)) i r.toks.ends))

-- a kind that passes a test that Eof does not
pub not-eof : (F : ℕ → Bool) {k : ℕ} → F k ≡ true → F 47 ≡ false → k ≡ 47 → ⊥
not-eof F {k} a b e = let z : ◌≡◌ {A = Bool} true false = sym a ∙ ap F e ∙ b in let y : ◌≡◌ {A = ℕ} 0 1 = cc in omega arith

-- any list of so many errors, where only what is no list is wanted
pub blank : ℕ → List Err
blank zero = []
blank (suc n) = record { place = 0; why = InvalidIfStmt } ∷ blank n

pub blanks : (n : ℕ) → length (blank n) ≡ n
unfolding blank
blanks zero = refl
blanks (suc n) = ap suc (blanks n)
