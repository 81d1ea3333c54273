-- What the parser of the code stands for, in the words of the definition, and what a function of the walk promises.
use Rattle.std.specs.Prelude.{ℕ, zero, suc, ◌+◌, ◌-◌, ◌/◌, ◌%◌, ◌≤◌, ◌<◌, ◌≡◌, ◌⊎◌, List, [], ◌∷◌, Bool, true, false, ◌||◌, length, get_or, T, eqb, Result, Ok, Err as Stopped}
use Rattle.sifc_word.specs.Kind.{Eof, LexPanic}
use Rattle.sifc_def.specs.declared.Err.{Err}
use Rattle.sifc_def.specs.Why.{Why}
use Rattle.sifc_err.specs.declared.parse_err.ParseErrTy.TheVariants.{InvalidIdent, InvalidTkn, InvalidTknMsg, InvalidAssign, InvalidForStmt, InvalidIfStmt, TknMismatch, FnParmCntExceeded, WrongFnParmCnt, UndeclSym, UnassignedVar, ExpectedIdent}
use Rattle.sifc_def.specs.State.{Node, node, err, Ctx, St, Out, done, fail, refuse, M}
use Rattle.sifc_symtab.specs.Toks.{toks_of}
use Rattle.sifc_symtab.specs.Table.{syms_of, Holds}
use Rattle.sifc_err.specs.declared.Refusal.{Refusal}
use Rattle.sifc_step.specs.declared.walk.Limits.{Limits}
use Rattle.sifc_step.specs.declared.walk.Parser.{Parser}
use Rattle.sifc_step.specs.declared.walk.Stop.{Stop}
use Rattle.sifc_step.specs.declared.walk.Stop.TheVariants.{Failed, Refused}

-- what is read and never written
pub record Inp : Type 0 where
  pub script : List ℕ
  pub offs : List ℕ
  pub words : List ℕ
  pub lim : Limits

abbrev pub inp : List ℕ → List ℕ → List ℕ → Limits → Inp
inp s o k l = record { script = s; offs = o; words = k; lim = l }

-- what is lent to be written: each array, whole
pub record Mem : Type 0 where
  pub symbols : List ℕ
  pub head : List ℕ
  pub load : List ℕ

abbrev pub mem : List ℕ → List ℕ → List ℕ → Mem
mem y h l = record { symbols = y; head = h; load = l }

-- where the walk stands
pub record Walk : Type 0 where
  pub at : ℕ
  pub nodes : ℕ
  pub symbols : ℕ
  pub level : ℕ
  pub errors : ℕ
  pub check : Bool

-- ── the three parts of a parser ──

abbrev pub inp_of : Parser → Inp
inp_of p = inp p.script.now p.offs.now p.words.now p.lim

abbrev pub mem_of : Parser → Mem
mem_of p = mem p.symbols.now p.head.now p.load.now

abbrev pub walk_of : Parser → Walk
walk_of p = record { at = p.at; nodes = p.nodes; symbols = p.stored; level = p.level; errors = p.errors; check = p.check }

-- ── nodes: "kind + 32 × flag + 64 × children", and the payload; newest first ──

abbrev pub kind_in : ℕ → ℕ
kind_in h = h % 32

abbrev pub flag_in : ℕ → Bool
flag_in h = eqb (h / 32 % 2) 1

abbrev pub kids_in : ℕ → ℕ
kids_in h = h / 64

abbrev pub node_in : ℕ → ℕ → Node
node_in h l = node (kind_in h) (flag_in h) (kids_in h) l

unfoldable pub nodes_of : ℕ → List ℕ → List ℕ → List Node
nodes_of zero hs ls = []
nodes_of (suc n) hs ls = node_in (get_or hs n 0) (get_or ls n 0) ∷ nodes_of n hs ls

-- ── the whole ──

-- how many nodes and symbol words there is room for
pub record Rooms : Type 0 where
  pub nodes : ℕ
  pub words : ℕ

abbrev pub rooms_of : Mem → Rooms
rooms_of M = record { nodes = length M.head; words = length M.symbols }

abbrev pub ctx : Inp → Rooms → Ctx
ctx I n = record { script = I.script; toks = toks_of I.offs I.words; fault = I.lim.fault; node_room = n.nodes; sym_room = n.words / 4; err_room = I.lim.errors }

abbrev pub ctx_of : Inp → Mem → Ctx
ctx_of I M = ctx I (rooms_of M)

-- the state that a walk stands for, where E is what was listed so far
abbrev pub abs : Inp → List Err → Walk → Mem → St
abs I E w M =
    record {
      at = w.at;
      nodes = nodes_of w.nodes M.head M.load;
      syms = syms_of I.script I.offs I.words M.symbols w.symbols;
      level = w.level;
      check = w.check;
      errs = E;
    }

-- How many errors a failure has listed: a mismatch none, a missing name two, InvalidIdent before its own. Only a missing key has message 3.
abbrev pub by_message : ℕ → ℕ
by_message m = elim (eqb m 3) [ true ↦ 2 | false ↦ 1 ]

abbrev pub listed_by : Why → ℕ
listed_by (InvalidIdent i) = 1
listed_by (InvalidTkn i) = 1
listed_by (InvalidTknMsg m) = by_message m
listed_by (InvalidAssign i) = 1
listed_by InvalidForStmt = 1
listed_by InvalidIfStmt = 1
listed_by (TknMismatch k i) = 0
listed_by (FnParmCntExceeded n) = 1
listed_by (WrongFnParmCnt n m) = 1
listed_by (UndeclSym i) = 1
listed_by (UnassignedVar i) = 1
listed_by (ExpectedIdent i) = 2

abbrev pub with_err : ℕ → Err → List Err → List Err
with_err zero e E = E
with_err (suc zero) e E = e ∷ E
with_err (suc (suc n)) e E = e ∷ err e.place (InvalidIdent e.place) ∷ E

abbrev pub outcome_of : {A : Type 0} → Inp → List Err → Result A Stop → Mem → Walk → Out A
outcome_of I E (Ok a) M w = done a (abs I E w M)
outcome_of I E (Stopped (Failed e)) M w = fail e (abs I (with_err (listed_by e.why) e E) w M)
outcome_of I E (Stopped (Refused f)) M w = refuse f

-- the kind of a token
abbrev pub kind_at : List ℕ → ℕ → ℕ
kind_at ks i = get_or ks i 0 % 64

-- the tokens are a list that ends in Eof or in a lexing panic
pub record Tokens (os ks : List ℕ) : Type 0 where
  pub few : length ks ≤ 65536
  pub even : length os ≡ length ks
  pub ends : T (eqb (kind_at ks (length ks - 1)) Eof || eqb (kind_at ks (length ks - 1)) LexPanic)

-- w stands on a token that is no panic
pub record Stands (os ks : List ℕ) (w : Walk) : Type 0 where
  pub toks : Tokens os ks
  pub here : w.at < length ks
  pub calm : kind_at ks w.at ≡ LexPanic → ⊥

-- what every function of the walk may assume of what it is lent
pub record ReadyOf (I : Inp) (M : Mem) (w : Walk) : Type 0 where
  pub stands : Stands I.offs I.words w
  pub even : length M.head ≡ length M.load
  pub used : w.nodes ≤ length M.head
  pub holds : Holds I.script I.offs I.words M.symbols w.symbols
  pub level : w.level ≤ w.at
  pub room : w.errors ≤ I.lim.errors

-- what it leaves behind where it is done: lo is how far it has come at least, n how many errors are listed
pub record Fine (I : Inp) (M : Mem) (lo n : ℕ) (w : Walk) : Type 0 where
  pub here : w.at < length I.words
  pub calm : kind_at I.words w.at ≡ LexPanic → ⊥
  pub used : w.nodes ≤ length M.head
  pub holds : Holds I.script I.offs I.words M.symbols w.symbols
  pub level : w.level ≤ w.at
  pub room : w.errors ≤ I.lim.errors
  pub errors : w.errors ≡ n
  pub on : lo ≤ w.at

-- and where it has failed: it has come so far, or it stands at Eof
pub record Broke (I : Inp) (M : Mem) (lo n : ℕ) (w : Walk) : Type 0 where
  pub here : w.at < length I.words
  pub calm : kind_at I.words w.at ≡ LexPanic → ⊥
  pub used : w.nodes ≤ length M.head
  pub holds : Holds I.script I.offs I.words M.symbols w.symbols
  pub level : w.level ≤ w.at
  pub room : w.errors ≤ I.lim.errors
  pub errors : w.errors ≡ n
  pub on : (lo ≤ w.at) ⊎ (kind_at I.words w.at ≡ Eof)

abbrev pub FineOf : {A : Type 0} → Inp → Mem → ℕ → ℕ → Result A Stop → Walk → Type 0
FineOf I M lo n (Ok a) w = Fine I M lo n w
FineOf I M lo n (Stopped (Failed e)) w = Broke I M lo (n + listed_by e.why) w
FineOf I M lo n (Stopped (Refused f)) w = Unit {0}

-- ── of a parser ──

-- the context and the state of the definition, where E is what was listed so far
abbrev pub ctx_at : Parser → Ctx
ctx_at p = ctx_of (inp_of p) (mem_of p)

abbrev pub abs_at : List Err → Parser → St
abs_at E p = abs (inp_of p) E (walk_of p) (mem_of p)

abbrev pub here : Parser → ℕ
here p = kind_at p.words.now p.at

abbrev pub Ready : Parser → Type 0
Ready p = ReadyOf (inp_of p) (mem_of p) (walk_of p)

-- the parser with this read and this lent in the place of its own
abbrev pub among : Inp → Mem → Parser → Parser
among I M p =
    record p {
      script = record (p.script) { now = I.script };
      offs = record (p.offs) { now = I.offs };
      words = record (p.words) { now = I.words };
      lim = I.lim;
      symbols = record (p.symbols) { now = M.symbols };
      head = record (p.head) { now = M.head };
      load = record (p.load) { now = M.load };
    }

-- what is read is as it was, and what is lent is the same memory and as long
pub record Kept (p q : Parser) : Type 0 where
  pub inp : inp_of q ≡ inp_of p
  pub symbols_name : q.symbols.ghost_name ≡ p.symbols.ghost_name
  pub head_name : q.head.ghost_name ≡ p.head.ghost_name
  pub load_name : q.load.ghost_name ≡ p.load.ghost_name
  pub symbols : length q.symbols.now ≡ length p.symbols.now
  pub head : length q.head.now ≡ length p.head.now
  pub load : length q.load.now ≡ length p.load.now

-- from the parser p, where it is ready, f gives r and leaves the parser q, j tokens farther at least, whatever was listed before
pub record Does {A : Type 0} (j : ℕ) (f : Ctx → St → Out A) (p : Parser) (r : Result A Stop) (q : Parser) : Type 0 where
  pub kept : Kept p q
  pub same : Ready p → (E : List Err) → length E ≡ p.errors → outcome_of (inp_of p) E r (mem_of q) (walk_of q) ≡ f (ctx_at p) (abs_at E p)
  pub fine : Ready p → FineOf (inp_of p) (mem_of q) (j + p.at) p.errors r (walk_of q)

-- an answer that is a refusal or a value
abbrev pub lifted : {A : Type 0} → Result A Refusal → Result A Stop
lifted (Ok a) = Ok a
lifted (Stopped f) = Stopped (Refused f)

-- the token in front is there, and no panic
abbrev pub StandsAt : Parser → Type 0
StandsAt p = Stands p.offs.now p.words.now (walk_of p)

-- the nodes' words are as many as each other, and hold the nodes
abbrev pub Paired : Parser → Type 0
Paired p = (length p.head.now ≡ length p.load.now) × (p.nodes ≤ length p.head.now)

-- how far a token is passed: not at all where it is Eof
abbrev pub passes : Parser → ℕ
passes p = elim (eqb (here p) Eof) [ true ↦ 0 | false ↦ 1 ]
