-- What the small functions of the walk promise.
use Rattle.std.specs.Prelude.{ℕ, ◌+◌, ◌-◌, ◌<◌, ◌≡◌, List, ◌∷◌, Bool, true, false, length, get_or, eqb, Result, Ok, Err as Stopped}
use Rattle.sifc_err.specs.declared.Refusal.{Refusal}
use Rattle.sifc_word.specs.Kind.{Eof, Ident}
use Rattle.sifc_def.specs.declared.Err.{Err}
use Rattle.sifc_def.specs.Why.{Why}
use Rattle.sifc_def.specs.declared.What.{What}
use Rattle.sifc_def.specs.State.{Node, node, Ctx, done, refuse, M, Void, go_on, consume, raise, add_error_w_pos, add_error, throw, throw_past, expect, ident, push}
use Rattle.sifc_def.specs.Symbols.{store, init_scope, close_scope}
use Rattle.sifc_def.specs.Expr.{separator, literal, single}
use Rattle.sifc_step.specs.declared.walk.Parser.{Parser}
use Rattle.sifc_step.specs.declared.walk.Stop.{Stop}
use Rattle.sifc_step.specs.declared.walk.Stop.TheVariants.{Failed, Refused}
use Rattle.sifc_step.specs.declared.walk.Target.{Target}
use Rattle.sifc_step.specs.declared.walk.Limits.{Limits}
use Rattle.sifc_step.specs.Abs.{Inp, inp, Mem, mem, kind_in, flag_in, kids_in, node_in, nodes_of, ctx_at, abs_at, here, Paired, passes, among, Does, lifted}

-- ── what is left as it was, whatever else is lent ──

-- all but the token in front
abbrev pub OnlyMoves : Parser → Parser → Type 0
OnlyMoves p q = q ≡ record p { at = q.at }

-- all but how many errors are listed
abbrev pub OnlyLists : Parser → Parser → Type 0
OnlyLists p q = q ≡ record p { errors = q.errors }

-- all but these two
abbrev pub OnlyPasses : Parser → Parser → Type 0
OnlyPasses p q = q ≡ record p { at = q.at; errors = q.errors }

-- all but the nodes
abbrev pub OnlyGrows : Parser → Parser → Type 0
OnlyGrows p q = q ≡ record p { head = q.head; load = q.load; nodes = q.nodes }

-- all but the token in front and the nodes
abbrev pub OnlyGrowsPast : Parser → Parser → Type 0
OnlyGrowsPast p q = q ≡ record p { at = q.at; head = q.head; load = q.load; nodes = q.nodes }

-- all but the names
abbrev pub OnlyDeclares : Parser → Parser → Type 0
OnlyDeclares p q = q ≡ record p { symbols = q.symbols; stored = q.stored }

-- ── what a step does not look at: it promises the same whatever that is (`whatever`) ──

-- the parser over another script and other arrays: its tokens and limits are its own
abbrev pub over : List ℕ → Mem → Parser → Parser → Parser
over s M p x = among (inp s p.offs.now p.words.now p.lim) M x

-- over other tokens too, with its limits
abbrev pub under : List ℕ → List ℕ → List ℕ → Mem → Parser → Parser → Parser
under s os ks M p x = among (inp s os ks p.lim) M x

-- with its own nodes: all that is read, and the symbols, are others
abbrev pub growing : Inp → List ℕ → Parser → Parser
growing I ys x = among I (mem ys x.head.now x.load.now) x

-- with its own script, tokens and symbols: the limits and the nodes' words are others
abbrev pub naming : Limits → List ℕ → List ℕ → Parser → Parser → Parser
naming l hs ls p x = among (inp p.script.now p.offs.now p.words.now l) (mem x.symbols.now hs ls) x

-- ── the steps ──

-- a token passed: by one where it is not Eof
pub record Consumes (p : Parser) (r : Result (Unit {0}) Refusal) (q : Parser) : Type 0 where
  pub does : Does (passes p) (λ c. consume c) p (lifted r) q
  pub alone : OnlyMoves p q
  pub stays : here p ≡ Eof → (r ≡ Ok tt) × (q ≡ p)
  pub whatever : (s : List ℕ) (M : Mem) → Does (passes p) (λ c. consume c) (over s M p p) (lifted r) (over s M p q)

-- how far a token is passed that is asked for
abbrev pub passes_if : ℕ → Parser → ℕ
passes_if ty p = elim (eqb (here p) ty) [ true ↦ passes p | false ↦ 0 ]

-- the same of a given kind: by one where it is there and not Eof
pub record Expects (p : Parser) (ty : ℕ) (r : Result (Unit {0}) Stop) (q : Parser) : Type 0 where
  pub does : Does (passes_if ty p) (λ c. expect c ty) p r q
  pub alone : OnlyMoves p q
  pub whatever : (s : List ℕ) (M : Mem) → Does (passes_if ty p) (λ c. expect c ty) (over s M p p) r (over s M p q)

pub record Separates (p : Parser) (r : Result (Unit {0}) Stop) (q : Parser) : Type 0 where
  pub does : Does 0 (λ c. separator c) p r q
  pub alone : OnlyMoves p q
  pub whatever : (s : List ℕ) (M : Mem) → Does 0 (λ c. separator c) (over s M p p) r (over s M p q)

-- `Err(self.add_error_w_pos(..))`
abbrev pub throw_at : {A : Type 0} → ℕ → Why → Ctx → M A
throw_at i why c s = go_on (add_error_w_pos c i why s) (λ e. raise c e)

-- the error that is listed, and the parser with one error more, where it was; or the refusal
pub record Added (m : Ctx → M Err) (why : Why) (p : Parser) (e : Err) (q : Parser) : Type 0 where
  pub says : (E : List Err) → length E ≡ p.errors → m (ctx_at p) (abs_at E p) ≡ done e (abs_at (e ∷ E) q)
  pub which : e.why ≡ why
  pub there : q.at ≡ p.at
  pub more : q.errors ≡ p.errors + 1

abbrev pub Adds : (Ctx → M Err) → Why → Parser → Stop → Parser → Type 0
Adds m why p (Failed e) q = Added m why p e q
Adds m why p (Refused g) q = (E : List Err) → length E ≡ p.errors → m (ctx_at p) (abs_at E p) ≡ refuse g

-- an error that is listed, whatever the function gives: of one parser
pub record Throwing (f : Ctx → Void) (g : Ctx → M ℕ) (m : Ctx → M Err) (why : Why) (p : Parser) (stop : Stop) (q : Parser) : Type 0 where
  pub does : Does 0 f p (Stopped stop) q
  pub counts : Does 0 g p (Stopped stop) q
  pub adds : Adds m why p stop q

pub record ThrowsAt (p : Parser) (i : ℕ) (why : Why) (stop : Stop) (q : Parser) : Type 0 where
  pub does : Does {A = Unit {0}} 0 (throw_at i why) p (Stopped stop) q
  pub counts : Does {A = ℕ} 0 (throw_at i why) p (Stopped stop) q
  pub adds : Adds (λ c. add_error_w_pos c i why) why p stop q
  pub alone : OnlyLists p q
  pub whatever : (s os ks : List ℕ) (M : Mem) → Throwing (throw_at i why) (throw_at i why) (λ c. add_error_w_pos c i why) why (under s os ks M p p) stop (under s os ks M p q)

pub record Throws (p : Parser) (why : Why) (stop : Stop) (q : Parser) : Type 0 where
  pub does : Does {A = Unit {0}} 0 (λ c. throw c why) p (Stopped stop) q
  pub counts : Does {A = ℕ} 0 (λ c. throw c why) p (Stopped stop) q
  pub adds : Adds (λ c. add_error c why) why p stop q
  pub alone : OnlyLists p q
  pub whatever : (s os ks : List ℕ) (M : Mem) → Throwing (λ c. throw c why) (λ c. throw c why) (λ c. add_error c why) why (under s os ks M p p) stop (under s os ks M p q)

-- an error that is listed, and whose token is passed
pub record Pasts (p : Parser) (why : Why) (stop : Stop) (q : Parser) : Type 0 where
  pub does : Does {A = Unit {0}} 1 (λ c. throw_past c why) p (Stopped stop) q
  pub alone : OnlyPasses p q
  pub whatever : (s : List ℕ) (M : Mem) → Does {A = Unit {0}} 1 (λ c. throw_past c why) (over s M p p) (Stopped stop) (over s M p q)

-- a node appended
pub record Pushes (p : Parser) (word pay : ℕ) (r : Result (Unit {0}) Refusal) (q : Parser) : Type 0 where
  pub does : Does 0 (λ c. push c (kind_in word) (flag_in word) (kids_in word) pay) p (lifted r) q
  pub alone : OnlyGrows p q
  pub holds : Paired p → Paired q
  pub whatever : (I : Inp) (ys : List ℕ) → Does 0 (λ c. push c (kind_in word) (flag_in word) (kids_in word) pay) (growing I ys p) (lifted r) (growing I ys q)

-- a node for the token in front, and the token passed
pub record Literals (p : Parser) (r : Result (Unit {0}) Refusal) (q : Parser) : Type 0 where
  pub does : Does (passes p) (λ c. literal c p.at) p (lifted r) q
  pub alone : OnlyGrowsPast p q
  pub whatever : (s ys : List ℕ) → Does (passes p) (λ c. literal c p.at) (growing (inp s p.offs.now p.words.now p.lim) ys p) (lifted r) (growing (inp s p.offs.now p.words.now p.lim) ys q)

-- the node that a target stands for, and the newest node
abbrev pub node_of : Target → Node
node_of t = node_in t.head t.load

abbrev pub newest_of : ℕ → List ℕ → List ℕ → Node
newest_of n hs ls = get_or (nodes_of n hs ls) 0 (node 0 false 0 0)

abbrev pub newest : Parser → Node
newest p = newest_of p.nodes p.head.now p.load.now

-- with name checking on or off
abbrev pub checked_by : Parser → Bool → Parser
checked_by p b = record p { check = b }

-- the end of a table access and of an array access, by their node's first word, panic and opening sign
abbrev pub accesses : Target → ℕ → ℕ → ℕ → Ctx → Void
accesses t h fault i c s = go_on (single c (node_of t) fault i s) (λ a. push c (kind_in h) (flag_in h) (kids_in h) 0)

pub record Accesses (p : Parser) (t : Target) (h fault i : ℕ) (r : Result (Unit {0}) Refusal) (q : Parser) : Type 0 where
  pub does : Does 0 (accesses t h fault i) p (lifted r) q
  pub alone : OnlyGrows p q
  pub whatever : (s ks ys : List ℕ) (l : Limits) → Does 0 (accesses t h fault i) (growing (inp s p.offs.now ks l) ys p) (lifted r) (growing (inp s p.offs.now ks l) ys q)

-- a name, whose token is the one in front; or two errors
pub record Idents (p : Parser) (why : Why) (r : Result ℕ Stop) (q : Parser) : Type 0 where
  pub does : (y : ℕ → Why) → y p.at ≡ why → Does (elim (eqb (here p) Ident) [ true ↦ 1 | false ↦ 0 ]) (λ c. ident c y) p r q
  pub alone : OnlyPasses p q
  pub whatever : (s : List ℕ) (M : Mem) (y : ℕ → Why) → y p.at ≡ why → Does (elim (eqb (here p) Ident) [ true ↦ 1 | false ↦ 0 ]) (λ c. ident c y) (over s M p p) r (over s M p q)

-- a node's first word
pub record HeadWord (k : ℕ) (f : Bool) (n r : ℕ) : Type 0 where
  pub kind : kind_in r ≡ k
  pub flag : flag_in r ≡ f
  pub kids : kids_in r ≡ n

-- a symbol stored
pub record Puts (p : Parser) (i : ℕ) (what : What) (r : Result (Unit {0}) Refusal) (q : Parser) : Type 0 where
  pub does : Does 0 (λ c. store c i what) p (lifted r) q
  pub alone : OnlyDeclares p q
  pub whatever : (l : Limits) (hs ls : List ℕ) → Does 0 (λ c. store c i what) (naming l hs ls p p) (lifted r) (naming l hs ls p q)

-- the words of the nodes, which a name that is stored leaves as they are
abbrev pub SameNodes : Parser → Parser → Type 0
SameNodes p q = (q.head ≡ p.head) × (q.load ≡ p.load)

-- another level
abbrev pub leveled_by : Parser → ℕ → Parser
leveled_by p n = record p { level = n }

pub record InitsScope (p q : Parser) : Type 0 where
  pub does : p.level < p.at → Does 0 (λ c. init_scope c) p (Ok tt) q
  pub alone : q ≡ leveled_by p (p.level + 1)

pub record ClosesScope (p q : Parser) : Type 0 where
  pub does : Does 0 (λ c. close_scope c) p (Ok tt) q
  pub alone : q ≡ leveled_by p (p.level - 1)
