-- What the functions of this crate promise beside the definition of their own name.
use Rattle.std.specs.Prelude.{ℕ, ◌<◌, List, [], ◌∷◌, Result, Ok, Err as Stopped, IfOk}
use Rattle.sifc_err.specs.declared.Refusal.{Refusal}
use Rattle.sifc_def.specs.declared.What.TheVariants.{Other}
use Rattle.sifc_def.specs.State.{Ctx, St, Out, Void, ◌>>◌, consume, push}
use Rattle.sifc_def.specs.Symbols.{store}
use Rattle.sifc_def.specs.Expr.{Rec}
use Rattle.sifc_def.specs.Stmt.{declare_var, array_nodes, initial}
use Rattle.sifc_step.specs.declared.walk.Limits.{Limits}
use Rattle.sifc_step.specs.declared.walk.Parser.{Parser}
use Rattle.sifc_step.specs.declared.walk.Stop.{Stop}
use Rattle.sifc_step.specs.Abs.{inp, mem_of, kind_in, flag_in, kids_in, among, Ready, Does, lifted}
use Rattle.sifc_step.specs.Items.{beside, OnlyBuilds}

-- a parser that a value leaves is past token a
abbrev pub AheadOf : {A : Type 0} → ℕ → Result A Stop → Parser → Type 0
AheadOf a r q = IfOk r (λ x. a < q.at)

-- with limits that leave room for what is listed: for a function that lists nothing
abbrev pub freely : Parser → Parser
freely p = record p { lim = record { errors = p.errors; fault = p.lim.fault } }

-- with what is read of p, and other limits
abbrev pub limited : Limits → Parser → Parser → Parser
limited l p x = among (inp p.script.now p.offs.now p.words.now l) (mem_of x) x

-- what such a function promises: f, whatever the limits are
pub record Declares (f : Ctx → Void) (p : Parser) (r : Result (Unit {0}) Refusal) (q : Parser) : Type 0 where
  pub does : Does 0 f p (lifted r) q
  pub whatever : (l : Limits) → Does 0 f (limited l p p) (lifted r) (limited l p q)

-- What a function may assume that looks at no script and no symbol: with some of both in the place of its own the parser is ready.
-- The tokens' offsets are its own, since a panic is answered with the offset of its token.
pub record Midst (p : Parser) : Type 0 where
  pub script : List ℕ
  pub symbols : List ℕ
  pub ready : Ready (beside script symbols p)

-- what such a function promises: f, whatever the script and the symbols are
pub record DoesAny {A : Type 0} (j : ℕ) (f : Ctx → St → Out A) (p : Parser) (r : Result A Stop) (q : Parser) : Type 0 where
  pub does : Does j f p r q
  pub alone : OnlyBuilds p q
  pub whatever : (s ys : List ℕ) → Does j f (beside s ys p) r (beside s ys q)

-- two tokens, as the definition has them: in a list
abbrev pub listed : Result (ℕ × ℕ) Stop → Result (List ℕ) Stop
listed (Ok x) = Ok (x.0 ∷ x.1 ∷ [])
listed (Stopped s) = Stopped s

-- ── parts of the definitions that the code has as functions ──

-- var_decl, at the `=` after token i
abbrev pub var_value : Ctx → Rec → ℕ → Void
var_value c r i = do
  consume c
  initial c r i
  declare_var c i 1

-- a node by its first word, and the name at token i
abbrev pub node_and_name : Ctx → ℕ → ℕ → Void
node_and_name c word i = do
  push c (kind_in word) (flag_in word) (kids_in word) i
  store c i Other

-- array_decl, after the `;`
abbrev pub array_and_name : Ctx → ℕ → ℕ → Void
array_and_name c i n = do
  array_nodes c i n
  store c i Other
