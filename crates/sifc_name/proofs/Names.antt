-- What the proofs of the functions that ask the symbol table cite.
use Rattle.std.specs.Prelude.{Option as Found, Some, None, is_some, ℕ, zero, suc, ◌+◌, ◌-◌, ◌%◌, ◌≤◌, ◌<◌, ◌≡◌, refl, List, [], ◌∷◌, ◌++◌, Bool, true, false, eqb, length, get_or, take, drop, Result, Ok, Err as Stopped}
use Rattle.std.proofs.Common.{add-one, arith, sym, ap, ap₂, ◌∙◌, eqb→eq, eq-eqb, ne_eqb}
use Rattle.std.proofs.Math.Path.{subst}
use Rattle.std.proofs.Math.Option.{Option, none, some}
use Rattle.std.specs.List.{CopiedTo, SameBelow}
use Rattle.sifc_err.specs.declared.Refusal.TheVariants.{SourceFault}
use Rattle.sifc_err.specs.declared.Token.{Token}
use Rattle.sifc_word.specs.Base.{if◌then◌otherwise◌}
use Rattle.sifc_word.specs.Reserved.{is_std_lib_fn}
use Rattle.sifc_def.specs.declared.Err.{Err}
use Rattle.sifc_def.specs.declared.What.{What}
use Rattle.sifc_def.specs.declared.What.TheVariants.{Placeholder, Function, Variable, Other}
use Rattle.sifc_err.specs.declared.parse_err.ParseErrTy.TheVariants.{UndeclSym, WrongFnParmCnt}
use Rattle.sifc_def.specs.State.{Node, Ctx, St, Out, done, refuse, go_on, name_at, panic_at, throw, throw_past, push, set_nodes, without}
use Rattle.sifc_def.specs.Symbols.{find, retrieve}
use Rattle.sifc_def.specs.Expr.{assign_var, is_named, call_counted, call_declared, known, check_name}
use Rattle.sifc_symtab.specs.Toks.{toks-at, toks-past-words}
use Rattle.sifc_symtab.specs.Table.{name_in, value_of, found_of, value_in}
use Rattle.sifc_step.specs.declared.walk.Parser.{Parser}
use Rattle.sifc_step.specs.declared.walk.Target.{Target}
use Rattle.sifc_step.specs.declared.walk.Stop.{Stop}
use Rattle.sifc_step.specs.declared.walk.Stop.TheVariants.{Refused}
use Rattle.sifc_step.specs.Abs.{node_in, nodes_of, ctx_at, abs_at, kind_at, Ready, inp_of, mem_of, rooms_of, Does}
use Rattle.sifc_step.specs.Small.{node_of}
use Rattle.sifc_step.proofs.Steps.{At, off-is, length-nodes, kept-same, ctx-kept}
use Rattle.sifc_step.proofs.Small.{alike, least, refuses, stays}
use Rattle.sifc_name.specs.Name.{kind_of, found_at, Looks, is_known}

-- ── tokens ──

pub token-kind-in : (p : Parser) (i : ℕ) → Ready p → i < length p.words.now → kind_at p.words.now i ≡ kind_of p i
token-kind-in p i r h = sym (ap (λ (x : Token). x.kind) (toks-at p.offs.now p.words.now i (omega (arith, r.stands.toks.even, h)) h))

pub token-kind-past : (p : Parser) (i : ℕ) → length p.words.now ≤ i → 47 ≡ kind_of p i
token-kind-past p i h = sym (ap (λ (x : Token). x.kind) (toks-past-words p.offs.now p.words.now i h))

pub named-not : (p : Parser) (t : Target) → (t.head % 32 ≡ 24 → ⊥) → false ≡ is_named (ctx_at p) (node_of t)
unfolding is_named
named-not p t ne = rw (ne_eqb (t.head % 32) 24 ne) refl

module _ (p : Parser) (t : Target) (h : t.head % 32 ≡ 24) {k : ℕ} (e : k ≡ kind_of p t.load) where
  pub named-ident : k ≡ 31 → true ≡ is_named (ctx_at p) (node_of t)
  unfolding is_named
  named-ident i = rw (eq-eqb (t.head % 32) 24 h, eq-eqb (kind_of p t.load) 31 (sym e ∙ i)) refl

  pub named-str : (k ≡ 31 → ⊥) → eqb k 32 ≡ is_named (ctx_at p) (node_of t)
  unfolding is_named
  named-str ne = rw (eq-eqb (t.head % 32) 24 h, ne_eqb (kind_of p t.load) 31 (λ z. ne (e ∙ z))) (ap (λ (z : ℕ). eqb z 32) e)

-- ── what the symbol table says ──

module _ {B : Type 0} {j k : ℕ} {f : St → Out B} {p q : Parser} where
  -- a look-up
  pub looked : (i : ℕ) {r : Found What} (K : Option What → St → Out B) → At j k f (λ s. go_on (retrieve (ctx_at p) (name_at (ctx_at p) i) s) K) p q → Looks q i r → At j k f (K (found_of r)) p q
  unfolding go_on retrieve
  looked i {r} K t d = record {
    kept = t.kept;
    left = λ E l. t.left E l ∙ ap (λ (o : Option What). K o (abs_at E q)) (ap (λ (c : Ctx). find q.level (name_at c i) (abs_at E q).syms) (sym (ctx-kept t.kept)) ∙ sym d.found);
    is = t.is;
    on = t.on;
    errors = t.errors;
  }

known_is : (c : Ctx) (i : ℕ) (o : Option What) (s : St) → is_known o (name_at c i) ≡ true → known c i o s ≡ done tt s
unfolding known is_known if◌then◌otherwise◌
known_is c i (some w) s e = refl
known_is c i none s e = rw e refl

known-not : (c : Ctx) (i : ℕ) (o : Option What) (s : St) → is_known o (name_at c i) ≡ false → known c i o s ≡ throw_past c (UndeclSym i) s
unfolding known is_known if◌then◌otherwise◌
known-not c i (some w) s e = absurd (let z : ◌≡◌ {A = ℕ} 0 1 = cc in omega arith)
known-not c i none s e = rw e refl

-- a name that is not checked, one that is known, and one that is not
name-skipped : (c : Ctx) (i : ℕ) (s : St) → s.check ≡ false → check_name c i s ≡ done tt s
unfolding check_name go_on if◌then◌otherwise◌
name-skipped c i s e = rw e refl

name-looked : (c : Ctx) (i : ℕ) (s : St) → s.check ≡ true → check_name c i s ≡ known c i (find s.level (name_at c i) s.syms) s
unfolding check_name retrieve go_on if◌then◌otherwise◌
name-looked c i s e = rw e refl

pub found-known : (p : Parser) (i : ℕ) (f : Found What) → Looks p i f → is_some f ≡ true → true ≡ is_known (found_at p i) (name_in p.script.now p.offs.now p.words.now i)
unfolding is_known
found-known p i None d e = absurd (let z : ◌≡◌ {A = ℕ} 0 1 = cc in omega arith)
found-known p i (Some w) d e = ap (λ (o : Option What). is_known o (name_in p.script.now p.offs.now p.words.now i)) d.found

pub none-known : (p : Parser) (i : ℕ) (f : Found What) {nm : List ℕ} → Looks p i f → is_some f ≡ false → nm ≡ name_in p.script.now p.offs.now p.words.now i
    → is_std_lib_fn nm ≡ is_known (found_at p i) (name_in p.script.now p.offs.now p.words.now i)
unfolding is_known
none-known p i (Some w) d e en = absurd (let z : ◌≡◌ {A = ℕ} 0 1 = cc in omega arith)
none-known p i None d e en = ap is_std_lib_fn en ∙ ap (λ (o : Option What). is_known o (name_in p.script.now p.offs.now p.words.now i)) d.found

-- ── a node taken out: those after it move down ──

-- the elements after number `from` and before number `to` stand one lower
pub record Shifts (a : List ℕ) (from to : ℕ) (a' : List ℕ) : Type 0 where
  pub low : (k : ℕ) → k < from → get_or a' k 0 ≡ get_or a k 0
  pub moved : (k : ℕ) → from ≤ k → k + 1 < to → get_or a' k 0 ≡ get_or a (k + 1) 0

-- they do after they are copied to number `from`
pub shifted : {a a' : List ℕ} {from to : ℕ} → CopiedTo a a' (from + 1) from (to - (from + 1)) → SameBelow a a' from → Shifts a from to a'
shifted {a} {a'} {from} {to} c s =
    record {
      low = λ k h. s k 0 h;
      moved = λ k h g. c k 0 h (omega arith) ∙ ap (λ (i : ℕ). get_or a i 0) (let e : from + 1 + (k - from) ≡ k + 1 = omega arith in e);
    }

nodes-same : (m : ℕ) (hs ls hs' ls' : List ℕ) → ((k : ℕ) → k < m → get_or hs' k 0 ≡ get_or hs k 0) → ((k : ℕ) → k < m → get_or ls' k 0 ≡ get_or ls k 0) → nodes_of m hs' ls' ≡ nodes_of m hs ls
unfolding nodes_of
nodes-same zero hs ls hs' ls' f g = refl
nodes-same (suc m) hs ls hs' ls' f g =
    ap₂ ◌∷◌ (ap₂ (λ (h t : ℕ). node_in h t) (f m (omega arith)) (g m (omega arith))) (nodes-same m hs ls hs' ls' (λ k h. f k (omega arith)) (λ k h. g k (omega arith)))

without-newest : (n : ℕ) (x : Node) (xs : List Node) → length xs ≡ n → without n (x ∷ xs) ≡ xs
unfolding without
without-newest n x xs e =
    ap₂ (λ (p q : ℕ). take p (x ∷ xs) ++ drop q (x ∷ xs)) (let z : suc (length xs) - suc n ≡ 0 = omega (arith, e) in z) (let z : suc (length xs) - n ≡ 1 = omega (arith, e) in z)

without-older : (n : ℕ) (x : Node) (xs : List Node) → n < length xs → without n (x ∷ xs) ≡ x ∷ without n xs
unfolding without
without-older n x xs h =
    ap₂ (λ (p q : ℕ). take p (x ∷ xs) ++ drop q (x ∷ xs)) (let z : suc (length xs) - suc n ≡ suc (length xs - suc n) = omega arith in z) (let z : suc (length xs) - n ≡ suc (length xs - n) = omega arith in z)

without-none : (n : ℕ) (xs : List Node) → length xs ≤ n → without n xs ≡ xs
unfolding without
without-none n xs h = ap₂ (λ (p q : ℕ). take p xs ++ drop q xs) (let z : length xs - suc n ≡ 0 = omega arith in z) (let z : length xs - n ≡ 0 = omega arith in z)

fewer-shifts : {a a' : List ℕ} {from : ℕ} (m : ℕ) → Shifts a from (suc (suc m)) a' → Shifts a from (suc m) a'
fewer-shifts m s = record { low = s.low; moved = λ k z y. s.moved k z (omega arith) }

pub nodes-shifted : (m from : ℕ) (hs ls hs' ls' : List ℕ) → from ≤ m → Shifts hs from (suc m) hs' → Shifts ls from (suc m) ls' → nodes_of m hs' ls' ≡ without from (nodes_of (suc m) hs ls)
unfolding nodes_of
nodes-shifted zero from hs ls hs' ls' le f g = sym (without-newest from (node_in (get_or hs 0 0) (get_or ls 0 0)) [] (let z : 0 ≡ from = omega arith in z))
nodes-shifted (suc m) from hs ls hs' ls' le f g = pick (eqb from (suc m)) refl (λ lt. nodes-shifted m from hs ls hs' ls' lt (fewer-shifts m f) (fewer-shifts m g))
  where
    pick : (b : Bool) → eqb from (suc m) ≡ b → (from ≤ m → nodes_of m hs' ls' ≡ without from (nodes_of (suc m) hs ls)) → nodes_of (suc m) hs' ls' ≡ without from (nodes_of (suc (suc m)) hs ls)
    pick true e ih =
        let fm : from ≡ suc m = eqb→eq from (suc m) (rw e tt) in
        nodes-same (suc m) hs ls hs' ls' (λ k h. f.low k (omega arith)) (λ k h. g.low k (omega arith))
        ∙ sym (without-newest from (node_in (get_or hs (suc m) 0) (get_or ls (suc m) 0)) (nodes_of (suc m) hs ls) (length-nodes (suc m) hs ls ∙ sym fm))
    pick false e ih =
        let ne : from ≡ suc m → ⊥ = λ q. let x : ◌≡◌ {A = Bool} true false = sym (eq-eqb from (suc m) q) ∙ e in let v : ◌≡◌ {A = ℕ} 0 1 = cc in omega arith in
        let lt : from ≤ m = omega (arith, ne) in
        ap₂ ◌∷◌ (ap₂ (λ (h t : ℕ). node_in h t) (f.moved m lt (omega arith) ∙ ap (λ (j : ℕ). get_or hs j 0) (add-one m)) (g.moved m lt (omega arith) ∙ ap (λ (j : ℕ). get_or ls j 0) (add-one m))) (ih lt)
        ∙ sym (without-older from (node_in (get_or hs (suc m) 0) (get_or ls (suc m) 0)) (nodes_of (suc m) hs ls) (omega (arith, length-nodes (suc m) hs ls)))

-- the nodes of the definition after the node is taken out
pub taken-out : (p : Parser) (slot : ℕ) (hs ls : List ℕ) → slot < p.nodes → Shifts p.head.now slot p.nodes hs → Shifts p.load.now slot p.nodes ls → nodes_of (p.nodes - 1) hs ls ≡ without slot (nodes_of p.nodes p.head.now p.load.now)
taken-out p slot hs ls lt sh sl =
    let some : p.nodes ≡ suc (p.nodes - 1) = omega arith in
    nodes-shifted (p.nodes - 1) slot p.head.now p.load.now hs ls (omega arith) (subst (λ (m : ℕ). Shifts p.head.now slot m hs) some sh) (subst (λ (m : ℕ). Shifts p.load.now slot m ls) some sl)
    ∙ ap (λ (m : ℕ). without slot (nodes_of m p.head.now p.load.now)) (sym some)

pub none-out : (p : Parser) (slot : ℕ) → p.nodes ≤ slot → nodes_of p.nodes p.head.now p.load.now ≡ without slot (nodes_of p.nodes p.head.now p.load.now)
none-out p slot h = sym (without-none slot (nodes_of p.nodes p.head.now p.load.now) (omega (arith, length-nodes p.nodes p.head.now p.load.now)))

-- ── a call's node, and an assignment's ──

pub called-wrong : {p q : Parser} {want n : ℕ} {s : Stop} → (want ≡ n → ⊥) → Does {A = Unit {0}} 0 (λ c. throw c (WrongFnParmCnt want n)) p (Stopped s) q → Does 0 (λ c. call_counted c want n) p (Stopped s) q
unfolding call_counted if◌then◌otherwise◌
called-wrong {p} {q} {want} {n} ne d = alike (λ c. throw c (WrongFnParmCnt want n)) (λ z E l. sym (rw (ne_eqb want n ne) refl)) d

pub called-right : {p q : Parser} {want n : ℕ} {x : Result (Unit {0}) Stop} → want ≡ n → Does 0 (λ c. push c 20 false (suc n) 0) p x q → Does 0 (λ c. call_counted c want n) p x q
unfolding call_counted if◌then◌otherwise◌
called-right {p} {q} {want} {n} e d = alike (λ c. push c 20 false (suc n) 0) (λ z E l. sym (rw (eq-eqb want n e) refl)) d

-- ── by what was found ──

pub small_at : {f : Found What} {w : What} {t : ℕ} {g : Bool} → value_in f < 65536 → f ≡ Some w → w ≡ Variable t g → t < 65536
unfolding value_of
small_at h e ew = subst (λ (x : Found What). value_in x < 65536) (e ∙ ap Some ew) h

module _ {p q : Parser} (i : ℕ) {f : Found What} where
  pub assign-none : f ≡ None → {s : Stop} → Does {A = Unit {0}} 0 (λ c. throw c (UndeclSym i)) p (Stopped s) q → Does 0 (λ c. assign_var c i (found_of f)) p (Stopped s) q
  unfolding assign_var
  assign-none e d = rw e (alike (λ c. throw c (UndeclSym i)) (λ z E l. refl) d)

  module _ {w : What} (e : f ≡ Some w) where
    pub assign-not : ((t : ℕ) (g : Bool) → w ≡ Variable t g → ⊥) → {s : Stop} → Does {A = Unit {0}} 0 (λ c. throw c (UndeclSym i)) p (Stopped s) q → Does 0 (λ c. assign_var c i (found_of f)) p (Stopped s) q
    unfolding assign_var
    assign-not h {s} d = rw e (pick w h)
      where
        pick : (x : What) → ((t : ℕ) (g : Bool) → x ≡ Variable t g → ⊥) → Does 0 (λ c. assign_var c i (some x)) p (Stopped s) q
        pick Placeholder h = alike (λ c. throw c (UndeclSym i)) (λ z E l. refl) d
        pick (Function n) h = alike (λ c. throw c (UndeclSym i)) (λ z E l. refl) d
        pick (Variable t g) h = absurd (h t g refl)
        pick Other h = alike (λ c. throw c (UndeclSym i)) (λ z E l. refl) d

    pub assign-var : {t : ℕ} {g : Bool} {x : Result (Unit {0}) Stop} → w ≡ Variable t g → Does 0 (λ c. push c 21 g 2 t) p x q → Does 0 (λ c. assign_var c i (found_of f)) p x q
    unfolding assign_var
    assign-var {t} {g} ew d = rw (e, ew) (alike (λ c. push c 21 g 2 t) (λ z E l. refl) d)

  module _ (n : ℕ) {x : Result (Unit {0}) Stop} where
    pub call-none : f ≡ None → Does 1 (λ c. throw_past c (UndeclSym i)) p x q → Does 0 (λ c. call_declared c i n (found_of f)) p x q
    unfolding call_declared
    call-none e d = rw e (alike (λ c. throw_past c (UndeclSym i)) (λ z E l. refl) (least d))

    module _ {w : What} (e : f ≡ Some w) where
      pub call-null : w ≡ Placeholder → Does 0 (λ c. push c 20 false (suc n) 0) p x q → Does 0 (λ c. call_declared c i n (found_of f)) p x q
      unfolding call_declared
      call-null ew d = rw (e, ew) (alike (λ c. push c 20 false (suc n) 0) (λ z E l. refl) d)

      pub call-fn : {m : ℕ} → w ≡ Function m → Does 0 (λ c. call_counted c m n) p x q → Does 0 (λ c. call_declared c i n (found_of f)) p x q
      unfolding call_declared
      call-fn {m} ew d = rw (e, ew) (alike (λ c. call_counted c m n) (λ z E l. refl) d)

      pub call-var : {t : ℕ} {g : Bool} → w ≡ Variable t g → Does 0 (λ c. call_counted c 0 n) p x q → Does 0 (λ c. call_declared c i n (found_of f)) p x q
      unfolding call_declared
      call-var ew d = rw (e, ew) (alike (λ c. call_counted c 0 n) (λ z E l. refl) d)

      pub call-other : w ≡ Other → Does 0 (λ c. call_counted c 0 n) p x q → Does 0 (λ c. call_declared c i n (found_of f)) p x q
      unfolding call_declared
      call-other ew d = rw (e, ew) (alike (λ c. call_counted c 0 n) (λ z E l. refl) d)

-- ── the steps of a name ──

pub panicked : {p : Parser} {j : ℕ} {f : Ctx → St → Out (Unit {0})} (kind i : ℕ) → Ready p → i < length p.words.now
    → ((E : List Err) → length E ≡ p.errors → f (ctx_at p) (abs_at E p) ≡ panic_at (ctx_at p) kind i (abs_at E p)) → Does j f p (Stopped (Refused (SourceFault kind (get_or p.offs.now i 0)))) p
unfolding panic_at
panicked {p} kind i r h d = refuses (kept-same p) (λ z E l. d E l ∙ ap (λ (z : ℕ). refuse (SourceFault kind z)) (off-is (inp_of p) (rooms_of (mem_of p)) i r.stands.toks h))

module _ {B : Type 0} {j k : ℕ} {f : St → Out B} {p : Parser} (i : ℕ) (K : Unit {0} → St → Out B) (t : At j k f (λ s. go_on (check_name (ctx_at p) i s) K) p p) where
  pub unchecked : p.check ≡ false → At j k f (K tt) p p
  unfolding go_on
  unchecked e = record { kept = t.kept; left = λ E l. t.left E l ∙ ap (λ (o : Out (Unit {0})). go_on o K) (name-skipped (ctx_at p) i (abs_at E p) e); is = t.is; on = t.on; errors = t.errors }

  module _ (e : p.check ≡ true) where
    pub checked : true ≡ is_known (found_at p i) (name_in p.script.now p.offs.now p.words.now i) → At j k f (K tt) p p
    unfolding go_on
    checked y = record {
      kept = t.kept;
      left = λ E l. t.left E l ∙ ap (λ (o : Out (Unit {0})). go_on o K) (name-looked (ctx_at p) i (abs_at E p) e ∙ known_is (ctx_at p) i _ (abs_at E p) (sym y));
      is = t.is;
      on = t.on;
      errors = t.errors;
    }

    pub undeclared : false ≡ is_known (found_at p i) (name_in p.script.now p.offs.now p.words.now i) → At j k f (λ s. go_on (throw_past (ctx_at p) (UndeclSym i) s) K) p p
    undeclared y = record {
      kept = t.kept;
      left = λ E l. t.left E l ∙ ap (λ (o : Out (Unit {0})). go_on o K) (name-looked (ctx_at p) i (abs_at E p) e ∙ known-not (ctx_at p) i _ (abs_at E p) (sym y));
      is = t.is;
      on = t.on;
      errors = t.errors;
    }

-- a node taken out, and none
module _ {p : Parser} (r : Ready p) (slot : ℕ) where
  pub takes-none : p.nodes ≤ slot → Does 0 (λ c. set_nodes c (without slot)) p (Ok tt) p
  unfolding set_nodes
  takes-none h = stays (λ z E l. ap (λ (xs : List Node). done tt (record { at = p.at; nodes = xs; syms = (abs_at E p).syms; level = p.level; check = p.check; errs = E })) (sym (none-out p slot h)))

  pub takes-out : (slot < p.nodes) → {hs ls : List ℕ} → Shifts p.head.now slot p.nodes hs → Shifts p.load.now slot p.nodes ls → length hs ≡ length p.head.now → length ls ≡ length p.load.now
      → Does 0 (λ c. set_nodes c (without slot)) p (Ok tt) (record p { head = record (p.head) { now = hs }; load = record (p.load) { now = ls }; nodes = p.nodes - 1 })
  unfolding set_nodes
  takes-out lt {hs} {ls} sh sl lh ll =
      record {
        kept = record { inp = refl; symbols_name = refl; head_name = refl; load_name = refl; symbols = refl; head = lh; load = ll };
        same = λ z E l. ap (λ (xs : List Node). done tt (record { at = p.at; nodes = xs; syms = (abs_at E p).syms; level = p.level; check = p.check; errs = E })) (taken-out p slot hs ls lt sh sl);
        fine = λ z. record { here = r.stands.here; calm = r.stands.calm; used = omega (arith, r.used, lh); holds = r.holds; level = r.level; room = r.room; errors = refl; on = omega arith };
      }
