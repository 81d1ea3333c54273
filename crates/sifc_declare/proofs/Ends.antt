-- What the proofs of the declarations cite.
use Rattle.std.specs.Prelude.{ℕ, suc, ◌≤◌, ◌<◌, ◌≡◌, refl, List, [], ◌∷◌, length, false, eqb, Some, None, Result, Ok, Err as Stopped, IsErr, IsErrAnd, IfOk}
use Rattle.std.proofs.Common.{subst, arith, sym, ap, ◌∙◌, eq-eqb, ne_eqb}
use Rattle.sifc_word.specs.Base.{if◌then◌otherwise◌}
use Rattle.sifc_err.specs.declared.Refusal.{Refusal}
use Rattle.sifc_err.specs.declared.parse_err.ParseErrTy.TheVariants.{ExpectedIdent}
use Rattle.sifc_def.specs.declared.What.{What}
use Rattle.sifc_def.specs.declared.What.TheVariants.{Variable, Other}
use Rattle.sifc_def.specs.Why.{Why}
use Rattle.sifc_def.specs.State.{Node, Ctx, St, Out, M, go_on, expect, ident, push}
use Rattle.sifc_def.specs.Symbols.{store}
use Rattle.sifc_def.specs.Stmt.{ident_node, param, ident_pair, declare_var, array_nodes}
use Rattle.sifc_def.proofs.OutcomeLaws.{Holds, is-done, call}
use Rattle.sifc_step.specs.declared.walk.Parser.{Parser}
use Rattle.sifc_step.specs.declared.walk.Limits.{Limits}
use Rattle.sifc_step.specs.declared.walk.Stop.{Stop}
use Rattle.sifc_step.specs.declared.walk.Stop.TheVariants.{Refused}
use Rattle.sifc_step.specs.Abs.{Inp, inp, Mem, mem, mem_of, Walk, inp_of, kind_in, flag_in, kids_in, ctx_at, abs_at, ReadyOf, Ready, Paired, Kept, among, Does, lifted}
use Rattle.sifc_step.specs.Small.{OnlyGrows, Expects, Pushes, Idents, Puts}
use Rattle.sifc_step.specs.Items.{beside, Sight, seen, OnlyBuilds}
use Rattle.sifc_step.proofs.Steps.{nested, ready-after, begin, by, read, go, stop, refused, last, fin, kept-on, blank, length-nodes}
use Rattle.sifc_step.proofs.Small.{given, least}
use Rattle.sifc_step.proofs.Items.{still-read, still-lent}
use Rattle.sifc_step.proofs.Told.{Any, Named, told, ident-passes, push-grows}
use Rattle.sifc_declare.specs.Promise.{freely, limited, Declares, Midst, DoesAny, listed, node_and_name, array_and_name}

-- a token passed and a node more, which is the token's
abbrev NodedAs : St → ℕ → St → Type 0
NodedAs s i s' = (i ≡ s.at) × (s'.at ≡ suc s.at) × (length s'.nodes ≡ suc (length s.nodes))

node-grows : (c : Ctx) (s : St) → Holds (ident_node c s) (NodedAs s) Any
unfolding ident_node
node-grows c s =
    call (ident-passes c ExpectedIdent s) (λ s' q. q)
    (λ i s' q. call (push-grows c 24 false 0 i s') (λ s'' z. z) (λ a s'' z. is-done (q.0, z.0 ∙ q.1, z.1 ∙ ap (λ (ns : List Node). suc (length ns)) q.2)))

pub record Noded (p : Parser) (i : ℕ) (q : Parser) : Type 0 where
  pub value : i ≡ p.at
  pub at : q.at ≡ suc p.at
  pub nodes : q.nodes ≡ suc p.nodes

-- ── over another script and other symbols ──

-- a parser that is ready is so with its own
pub midst : {p : Parser} → Ready p → Midst p
midst {p} r = record { script = p.script.now; symbols = p.symbols.now; ready = r }

module _ (s ys : List ℕ) where
  pub named-beside : {p q : Parser} {why : Why} {r : Result ℕ Stop} (y : ℕ → Why) → Idents p why r q → y p.at ≡ why → Does 0 (λ c. ident c y) (beside s ys p) r (beside s ys q)
  named-beside {p} {q} {r = r} y d e =
      subst (λ (x : Parser). Does 0 (λ c. ident c y) (beside s ys p) r x) (still-lent s ys p q (ap inp_of d.alone) (ap (λ (x : Parser). x.head) d.alone) (ap (λ (x : Parser). x.load) d.alone))
      (least (d.whatever s (mem ys p.head.now p.load.now) y e))

  pub expect-beside : {p q : Parser} {ty : ℕ} {r : Result (Unit {0}) Stop} → Expects p ty r q → Does 0 (λ c. expect c ty) (beside s ys p) r (beside s ys q)
  expect-beside {p} {q} {ty} {r} d =
      subst (λ (x : Parser). Does 0 (λ c. expect c ty) (beside s ys p) r x) (still-lent s ys p q (ap inp_of d.alone) (ap (λ (x : Parser). x.head) d.alone) (ap (λ (x : Parser). x.load) d.alone))
      (least (d.whatever s (mem ys p.head.now p.load.now)))

  pub push-beside : {p q : Parser} {w t : ℕ} {r : Result (Unit {0}) Refusal} → Pushes p w t r q → Does 0 (λ c. push c (kind_in w) (flag_in w) (kids_in w) t) (beside s ys p) (lifted r) (beside s ys q)
  push-beside {p} {q} {w} {t} {r} d =
      subst (λ (x : Parser). Does 0 (λ c. push c (kind_in w) (flag_in w) (kids_in w) t) (beside s ys p) (lifted r) x) (still-read s ys p q (ap inp_of d.alone)) (d.whatever (inp s p.offs.now p.words.now p.lim) ys)

-- a parser that was ready is so where a value is given
pub past : {A : Type 0} {j : ℕ} {f : Ctx → St → Out A} {p q : Parser} {a : A} → Ready p → Does j f p (Ok a) q → Ready q
past r d = ready-after r d.kept (d.fine r)

pub past-any : {A : Type 0} {f : Ctx → St → Out A} {p q : Parser} {a : A} → Midst p → DoesAny 0 f p (Ok a) q → Midst q
past-any m d = record { script = m.script; symbols = m.symbols; ready = past m.ready (d.whatever m.script m.symbols) }

pub past-expect : {p q : Parser} {ty : ℕ} → Midst p → Expects p ty (Ok tt) q → Midst q
past-expect m d = record { script = m.script; symbols = m.symbols; ready = past m.ready (expect-beside m.script m.symbols d) }

-- the token of a name
pub named-amid : {p q : Parser} {i : ℕ} {why : Why} (y : ℕ → Why) → Midst p → Idents p why (Ok i) q → y p.at ≡ why → i ≡ p.at
named-amid {p} y m d e =
    let o = beside m.script m.symbols p in
    let z = told (Named (abs_at (blank p.errors) o)) m.ready (named-beside m.script m.symbols y d e) (λ E. ident-passes (ctx_at o) y (abs_at E o)) in
    z.0

-- ── what is left as it was ──

pub name-builds : {p q : Parser} {why : Why} {r : Result ℕ Stop} → Idents p why r q → OnlyBuilds p q
name-builds {p} d = subst (λ (x : Parser). OnlyBuilds p x) (sym d.alone) refl

pub expect-builds : {p q : Parser} {ty : ℕ} {r : Result (Unit {0}) Stop} → Expects p ty r q → OnlyBuilds p q
expect-builds {p} d = subst (λ (x : Parser). OnlyBuilds p x) (sym d.alone) refl

pub push-builds : {p q : Parser} {w t : ℕ} {r : Result (Unit {0}) Refusal} → Pushes p w t r q → OnlyBuilds p q
push-builds {p} d = subst (λ (x : Parser). OnlyBuilds p x) (sym d.alone) refl

-- what is lent is the same memory and as long, where it is so seen one way
kept-own : {p q : Parser} (s ys : List ℕ) → OnlyBuilds p q → Kept (beside s ys p) (beside s ys q) → Kept p q
kept-own s ys a k =
    record {
      inp = ap inp_of a;
      symbols_name = ap (λ (x : Parser). x.symbols.ghost_name) a;
      head_name = k.head_name;
      load_name = k.load_name;
      symbols = ap (λ (x : Parser). length x.symbols.now) a;
      head = k.head;
      load = k.load;
    }

kept-beside : {p q : Parser} (s ys : List ℕ) → Kept p q → Kept (beside s ys p) (beside s ys q)
kept-beside s ys k =
    record {
      inp = ap (λ (I : Inp). inp s I.offs I.words I.lim) k.inp;
      symbols_name = k.symbols_name;
      head_name = k.head_name;
      load_name = k.load_name;
      symbols = refl;
      head = k.head;
      load = k.load;
    }

-- what is done however the parser is seen
pub seen-any : {A : Type 0} {f : Ctx → St → Out A} (p q : Parser) {x : Result A Stop} → Midst p → OnlyBuilds p q → ((v : Sight) → Ready (seen v p) → Does 0 f (seen v p) x (seen v q)) → DoesAny 0 f p x q
seen-any p q m a h =
    let k = kept-own {p = p} {q = q} m.script m.symbols a (h (Some (m.script, m.symbols)) m.ready).kept in
    record { does = given k (h None); alone = a; whatever = λ s ys. given (kept-beside s ys k) (h (Some (s, ys))) }

-- and the other way round
pub any-seen : {A : Type 0} {f : Ctx → St → Out A} {p q : Parser} {x : Result A Stop} (v : Sight) → DoesAny 0 f p x q → Does 0 f (seen v p) x (seen v q)
any-seen None d = d.does
any-seen (Some y) d = d.whatever y.0 y.1

-- ── a name and its node, and the same as a parameter ──

module _ {p : Parser} where
  pub node-stops : {q : Parser} {s : Stop} → Does 0 (λ c. ident c ExpectedIdent) p (Stopped s) q → Does 0 (λ c. ident_node c) p (Stopped s) q
  unfolding ident_node
  node-stops d = given d.kept (λ r. stop (λ c. ident c ExpectedIdent) _ (λ c. ident_node c) (begin 0 (λ c. ident_node c) r) (omega arith) d)

  module _ {q z : Parser} {i : ℕ} (d : Does 0 (λ c. ident c ExpectedIdent) p (Ok i) q) where
    pub node-refused : {g : Refusal} → Does 0 (λ c. push c 24 false 0 i) q (Stopped (Refused g)) z → Does 0 (λ c. ident_node c) p (Stopped (Refused g)) z
    unfolding ident_node
    node-refused e = given (kept-on d.kept e.kept) (λ r. refused (λ c. push c 24 false 0 i) _ (λ c. ident_node c) (go (λ c. ident c ExpectedIdent) _ (begin 0 (λ c. ident_node c) r) d) e refl)

    pub node-done : Does 0 (λ c. push c 24 false 0 i) q (Ok tt) z → Does 0 (λ c. ident_node c) p (Ok i) z
    unfolding ident_node
    node-done e = given (kept-on d.kept e.kept) (λ r. fin (λ c. ident_node c) (go (λ c. push c 24 false 0 i) _ (go (λ c. ident c ExpectedIdent) _ (begin 0 (λ c. ident_node c) r) d) e))

  pub param-done : {q : Parser} {i : ℕ} → Does 0 (λ c. ident_node c) p (Ok i) q → Does 0 (λ c. param c) p (Ok tt) q
  unfolding param
  param-done d = given d.kept (λ r. fin (λ c. param c) (go (λ c. ident_node c) _ (begin 0 (λ c. param c) r) d))

  pub param-stops : {q : Parser} {s : Stop} → Does 0 (λ c. ident_node c) p (Stopped s) q → Does 0 (λ c. param c) p (Stopped s) q
  unfolding param
  param-stops d = given d.kept (λ r. stop (λ c. ident_node c) _ (λ c. param c) (begin 0 (λ c. param c) r) (omega arith) d)

-- ── two names ──

module _ {p : Parser} where
  pub pair-first : {q : Parser} {s : Stop} → Does 0 (λ c. ident_node c) p (Stopped s) q → Does 0 (λ c. ident_pair c) p (Stopped s) q
  unfolding ident_pair
  pair-first d = given d.kept (λ r. stop (λ c. ident_node c) _ (λ c. ident_pair c) (begin 0 (λ c. ident_pair c) r) (omega arith) d)

  module _ {q1 : Parser} {i : ℕ} (d1 : Does 0 (λ c. ident_node c) p (Ok i) q1) where
    pub pair-comma : {q : Parser} {s : Stop} → Does 0 (λ c. expect c 12) q1 (Stopped s) q → Does 0 (λ c. ident_pair c) p (Stopped s) q
    unfolding ident_pair
    pair-comma d = given (kept-on d1.kept d.kept) (λ r. stop (λ c. expect c 12) _ (λ c. ident_pair c) (go (λ c. ident_node c) _ (begin 0 (λ c. ident_pair c) r) d1) (omega arith) d)

    module _ {q2 : Parser} (d2 : Does 0 (λ c. expect c 12) q1 (Ok tt) q2) where
      pub pair-second : {q : Parser} {s : Stop} → Does 0 (λ c. ident_node c) q2 (Stopped s) q → Does 0 (λ c. ident_pair c) p (Stopped s) q
      unfolding ident_pair
      pair-second d =
          given (kept-on (kept-on d1.kept d2.kept) d.kept) (λ r. stop (λ c. ident_node c) _ (λ c. ident_pair c) (go (λ c. expect c 12) _ (go (λ c. ident_node c) _ (begin 0 (λ c. ident_pair c) r) d1) d2) (omega arith) d)

      module _ {q3 q4 : Parser} {j : ℕ} (d3 : Does 0 (λ c. ident_node c) q2 (Ok j) q3) where
        pub pair-refused : {g : Refusal} → Does 0 (λ c. push c 11 false 2 0) q3 (Stopped (Refused g)) q4 → Does 0 (λ c. ident_pair c) p (Stopped (Refused g)) q4
        unfolding ident_pair
        pair-refused d =
            given (kept-on (kept-on (kept-on d1.kept d2.kept) d3.kept) d.kept) (λ r.
            refused (λ c. push c 11 false 2 0) _ (λ c. ident_pair c) (go (λ c. ident_node c) _ (go (λ c. expect c 12) _ (go (λ c. ident_node c) _ (begin 0 (λ c. ident_pair c) r) d1) d2) d3) d refl)

        pub pair-done : Does 0 (λ c. push c 11 false 2 0) q3 (Ok tt) q4 → Does 0 (λ c. ident_pair c) p (Ok (i ∷ j ∷ [])) q4
        unfolding ident_pair
        pair-done d =
            given (kept-on (kept-on (kept-on d1.kept d2.kept) d3.kept) d.kept) (λ r.
            fin (λ c. ident_pair c) (go (λ c. push c 11 false 2 0) _ (go (λ c. ident_node c) _ (go (λ c. expect c 12) _ (go (λ c. ident_node c) _ (begin 0 (λ c. ident_pair c) r) d1) d2) d3) d))

-- a parser that lists nothing, before and after a node more
pub free-on : (p q : Parser) → OnlyGrows p q → Paired q → Ready (freely p) → Ready (freely q)
free-on p q a h r =
    subst (λ (y : Parser). Ready (freely y)) (sym a)
    (record { stands = record { toks = r.stands.toks; here = r.stands.here; calm = r.stands.calm }; even = h.0; used = h.1; holds = r.holds; level = r.level; room = r.room })

pub free : {I : Inp} {M : Mem} {w : Walk} → ReadyOf I M w → ReadyOf (inp I.script I.offs I.words (record { errors = w.errors; fault = I.lim.fault })) M w
free r = record { stands = r.stands; even = r.even; used = r.used; holds = r.holds; level = r.level; room = omega arith }

-- an answer that is an error, passed on by `?`
pub conveyed-any : {A : Type 0} {f : Ctx → St → Out A} {p q : Parser} {s : Stop} {x : Result A Stop} → DoesAny 0 f p (Stopped s) q → IsErr x × IsErrAnd x (λ t. t ≡ s) → DoesAny 0 f p x q
conveyed-any {x = Ok a} d h = absurd h.1
conveyed-any {x = Stopped t} d h = rw h.1 d

-- two names of which one is missing
pub pair-stops : {f : Ctx → St → Out (List ℕ)} {p q : Parser} {s : Stop} (x : Result (ℕ × ℕ) Stop)
    → Does 0 f p (Stopped s) q → IsErr x × IsErrAnd x (λ t. t ≡ s) → Does 0 f p (listed x) q × IfOk x (λ y. (y.0 < 65536) × (y.1 < 65536))
pair-stops (Ok a) d h = absurd h.1
pair-stops (Stopped t) d h = (rw h.1 d, tt)

-- the same, whatever the script and the symbols are
pub pair-stops-any : {f : Ctx → St → Out (List ℕ)} {p q : Parser} {s : Stop} (x : Result (ℕ × ℕ) Stop)
    → DoesAny 0 f p (Stopped s) q → IsErr x × IsErrAnd x (λ t. t ≡ s) → DoesAny 0 f p (listed x) q × IfOk x (λ y. (y.0 < 65536) × (y.1 < 65536))
pair-stops-any x d h =
    let z = pair-stops x d.does h in
    (record { does = z.0; alone = d.alone; whatever = λ s ys. (pair-stops x (d.whatever s ys) h).0 }, z.1)

-- how many parameters there are: both bounds
pub few-nodes : (m : ℕ) (x : Result ℕ Stop) → IfOk x (λ n. n ≤ 64) → IfOk x (λ n. n ≤ m) → IfOk x (λ n. (n ≤ 64) × (n ≤ m))
few-nodes m (Ok n) a b = (a, b)
few-nodes m (Stopped s) a b = tt

-- how far the name and its node of a parameter have come
pub node-next : {p q : Parser} {i : ℕ} → Ready p → Does 0 (λ c. ident_node c) p (Ok i) q → Noded p i q
node-next {p} {q} {i} r d =
    let z = told (NodedAs (abs_at (blank p.errors) p)) r d (λ E. node-grows (ctx_at p) (abs_at E p)) in
    record { value = z.0; at = z.1; nodes = sym (length-nodes q.nodes q.head.now q.load.now) ∙ z.2 ∙ ap suc (length-nodes p.nodes p.head.now p.load.now) }

-- ── the nodes of an array and of a table ──

pub array-none : (c : Ctx) (i n : ℕ) (s : St) → n ≡ 0 → array_and_name c i n s ≡ node_and_name c 16 i s
unfolding array_nodes if◌then◌otherwise◌
array-none c i n s e = rw (eq-eqb n 0 e) refl

pub array-some : (c : Ctx) (i n : ℕ) (s : St) → (n ≡ 0 → ⊥) → array_and_name c i n s ≡ go_on (push c 17 false n 0 s) (λ a. node_and_name c 80 i)
unfolding array_nodes if◌then◌otherwise◌
array-some c i n s ne = rw (ne_eqb n 0 ne) (nested (push c 17 false n 0 s) (λ a. push c 16 false 1 i) (λ a. store c i Other))

pub table_step : {A : Type 0} (c : Ctx) (i : ℕ) (s : St) (K : Unit {0} → M A) → go_on (push c 14 false 1 i s) (λ a s'. go_on (store c i Other s') K) ≡ go_on (node_and_name c 78 i s) K
table_step c i s K = sym (nested (push c 14 false 1 i s) (λ a. store c i Other) K)

-- ── a node and a name, whatever the limits are ──

-- with the limits l, a node appended
pub pushed-limited : {p q : Parser} {w t : ℕ} {r : Result (Unit {0}) Refusal} (l : Limits) → Pushes p w t r q → Does 0 (λ c. push c (kind_in w) (flag_in w) (kids_in w) t) (limited l p p) (lifted r) (limited l p q)
pushed-limited {p} {q} l d = rw (ap (λ (y : Parser). y.symbols.now) d.alone) (d.whatever (inp p.script.now p.offs.now p.words.now l) p.symbols.now)

-- and a name stored, after a step that leaves all that is read
pub stored-limited : (p : Parser) {q x : Parser} {i : ℕ} {what : What} {r : Result (Unit {0}) Refusal} (l : Limits) → inp_of q ≡ inp_of p → Puts q i what r x → Does 0 (λ c. store c i what) (limited l p q) (lifted r) (limited l p x)
stored-limited p {q} {x} {i} {what} {r} l e d =
    subst (λ (I : Inp). Does 0 (λ c. store c i what) (among (inp I.script I.offs I.words l) (mem_of q) q) (lifted r) (among (inp I.script I.offs I.words l) (mem_of x) x)) e
    (rw (ap (λ (y : Parser). y.head.now) d.alone, ap (λ (y : Parser). y.load.now) d.alone) (d.whatever l q.head.now q.load.now))

-- a function of this kind that another calls
pub declared-limited : (p : Parser) {q x : Parser} {f : Ctx → St → Out (Unit {0})} {r : Result (Unit {0}) Refusal} (l : Limits) → inp_of q ≡ inp_of p → Declares f q r x → Does 0 f (limited l p q) (lifted r) (limited l p x)
declared-limited p {q} {x} {f} {r} l e d =
    subst (λ (I : Inp). Does 0 f (among (inp I.script I.offs I.words l) (mem_of q) q) (lifted r) (among (inp I.script I.offs I.words l) (mem_of x) x)) e (d.whatever l)

module _ {p : Parser} (i n : ℕ) where
  pub var-stops : {q : Parser} {g : Refusal} → Does 0 (λ c. push c 8 (eqb p.level 0) n i) p (Stopped (Refused g)) q → Does 0 (λ c. declare_var c i n) p (Stopped (Refused g)) q
  unfolding declare_var
  var-stops d = given d.kept (λ r. refused (λ x. push x 8 (eqb p.level 0) n i) _ (λ x. declare_var x i n) (read (λ (s : St). eqb s.level 0) _ (begin 0 (λ x. declare_var x i n) r) (λ E. refl)) d refl)

  pub var-ends : {q z : Parser} {x : Result (Unit {0}) Stop} → Does 0 (λ c. push c 8 (eqb p.level 0) n i) p (Ok tt) q → Does 0 (λ c. store c i (Variable i (eqb p.level 0))) q x z → Does 0 (λ c. declare_var c i n) p x z
  unfolding declare_var
  var-ends d e = given (kept-on d.kept e.kept) (λ r.
      last (λ x. store x i (Variable i (eqb p.level 0))) (λ x. declare_var x i n) (go (λ x. push x 8 (eqb p.level 0) n i) _ (read (λ (s : St). eqb s.level 0) _ (begin 0 (λ x. declare_var x i n) r) (λ E. refl)) d) (omega arith) e)

  pub array-stops : {q : Parser} {g : Refusal} → (n ≡ 0 → ⊥) → Does 0 (λ c. push c 17 false n 0) p (Stopped (Refused g)) q → Does 0 (λ c. array_and_name c i n) p (Stopped (Refused g)) q
  array-stops ne d = given d.kept (λ r. refused (λ x. push x 17 false n 0) _ (λ x. array_and_name x i n) (by (begin 0 (λ x. array_and_name x i n) r) (λ s. array-some _ _ _ s ne)) d refl)

  pub array-ends : {q z : Parser} {x : Result (Unit {0}) Stop} → (n ≡ 0 → ⊥) → Does 0 (λ c. push c 17 false n 0) p (Ok tt) q → Does 0 (λ c. node_and_name c 80 i) q x z → Does 0 (λ c. array_and_name c i n) p x z
  array-ends ne d e = given (kept-on d.kept e.kept) (λ r.
      last (λ x. node_and_name x 80 i) (λ x. array_and_name x i n) (go (λ x. push x 17 false n 0) _ (by (begin 0 (λ x. array_and_name x i n) r) (λ s. array-some _ _ _ s ne)) d) (omega arith) e)

  pub array-empty : {q : Parser} {x : Result (Unit {0}) Stop} → n ≡ 0 → Does 0 (λ c. node_and_name c 16 i) p x q → Does 0 (λ c. array_and_name c i n) p x q
  array-empty e d = given d.kept (λ r. last (λ x. node_and_name x 16 i) (λ x. array_and_name x i n) (by (begin 0 (λ x. array_and_name x i n) r) (λ s. array-none _ _ _ s e)) (omega arith) d)

module _ {p : Parser} (word i : ℕ) where
  pub other-stops : {q : Parser} {g : Refusal} → Does 0 (λ c. push c (kind_in word) (flag_in word) (kids_in word) i) p (Stopped (Refused g)) q → Does 0 (λ c. node_and_name c word i) p (Stopped (Refused g)) q
  other-stops d = given d.kept (λ r. refused (λ x. push x (kind_in word) (flag_in word) (kids_in word) i) _ (λ x. node_and_name x word i) (begin 0 (λ x. node_and_name x word i) r) d refl)

  pub other-ends : {q z : Parser} {x : Result (Unit {0}) Stop} → Does 0 (λ c. push c (kind_in word) (flag_in word) (kids_in word) i) p (Ok tt) q → Does 0 (λ c. store c i Other) q x z → Does 0 (λ c. node_and_name c word i) p x z
  other-ends d e = given (kept-on d.kept e.kept) (λ r.
      last (λ x. store x i Other) (λ x. node_and_name x word i) (go (λ x. push x (kind_in word) (flag_in word) (kids_in word) i) _ (begin 0 (λ x. node_and_name x word i) r) d) (omega arith) e)
