-- The names that a block binds, and its end.
use Rattle.std.specs.Prelude.{ℕ, zero, suc, ◌+◌, ◌≤◌, ◌<◌, List, [], ◌∷◌, Bool, false, ◌≡◌, length, get_or, Result, Ok, Err as Stopped, IfOk}
use Rattle.sifc_err.specs.declared.Refusal.{Refusal}
use Rattle.sifc_word.specs.Kind.{RightBrace}
use Rattle.sifc_def.specs.Ast.{Block}
use Rattle.sifc_def.specs.State.{Ctx, Void, ◌>>=◌, ◌>>◌, expect, push}
use Rattle.sifc_def.specs.Symbols.{level_now, close_scope}
use Rattle.sifc_def.specs.Stmt.{bind, with_return}
use Rattle.sifc_symtab.specs.Table.{Holds}
use Rattle.sifc_step.specs.declared.walk.Parser.{Parser}
use Rattle.sifc_step.specs.declared.walk.Stop.{Stop}
use Rattle.sifc_step.specs.declared.walk.Stop.TheVariants.{Refused}
use Rattle.sifc_step.specs.Abs.{Inp, inp_of, Ready, Does, Paired, lifted}
use Rattle.sifc_step.specs.Small.{growing}
use Rattle.sifc_block.specs.Lists.{SameSymbols}
use Rattle.sifc_block.specs.declared.block.Names.{Names}
use Rattle.sifc_block.specs.declared.block.Names.TheVariants.{Unnamed, Pair, Params}

-- n elements from number i on
unfoldable pub between : List ℕ → ℕ → ℕ → List ℕ
between a i zero = []
between a i (suc n) = get_or a i 0 ∷ between a (suc i) n

abbrev pub names_of : Names → List ℕ → List ℕ
names_of Unnamed loads = []
names_of (Pair i j) loads = i ∷ j ∷ []
names_of (Params first count) loads = between loads first count

abbrev pub NamesFit : Names → List ℕ → Type 0
NamesFit Unnamed loads = Unit {0}
NamesFit (Pair i j) loads = (i < 65536) × (j < 65536)
NamesFit (Params first count) loads = first + count ≤ length loads

-- what follows the n declarations of a block, in the definition
abbrev pub end_block : Ctx → Bool → ℕ → Void
end_block c body n = do
  expect c RightBrace
  scope ← level_now c
  close_scope c
  n' ← with_return c body n
  push c Block false n' scope

-- ── what a function promises that is lent the symbols and no parser: the same of any ──

-- the parser with this script, these tokens and symbols, so many of them in use, at this level
abbrev pub called : List ℕ → List ℕ → List ℕ → List ℕ → ℕ → ℕ → Parser → Parser
called s os ks ys n level p =
    record p {
      script = record (p.script) { now = s };
      offs = record (p.offs) { now = os };
      words = record (p.words) { now = ks };
      symbols = record (p.symbols) { now = ys };
      stored = n;
      level = level;
    }

-- an answer that is a refusal or how many symbols are in use, of which a parser says only whether
abbrev pub counted : Result ℕ Refusal → Result (Unit {0}) Stop
counted (Ok m) = Ok tt
counted (Stopped g) = Stopped (Refused g)

-- and how many it has: where it is refused, as many as before
abbrev pub in_use : ℕ → Result ℕ Refusal → ℕ
in_use n (Ok m) = m
in_use n (Stopped g) = n

-- names stored, from n symbols in the words ys on: ys' are the words then
pub record Binds (s os ks ys : List ℕ) (n level : ℕ) (names : List ℕ) (r : Result ℕ Refusal) (ys' : List ℕ) : Type 0 where
  pub long : length ys' ≡ length ys
  pub holds : IfOk r (λ m. Holds s os ks ys' m)
  pub does : (p : Parser) → Does 0 (λ c. bind c names) (called s os ks ys n level p) (counted r) (called s os ks ys' (in_use n r) level p)

-- ── what a function promises that looks at no symbol: the same whatever they are ──

-- the parser is ready, with some symbols in the place of its own: none has to be lent
pub record Amid (p : Parser) : Type 0 where
  pub symbols : List ℕ
  pub ready : Ready (growing (inp_of p) symbols p)

-- a function's body and its inserted return statement, whatever is read too
pub record Returns (p : Parser) (body : Bool) (n : ℕ) (r : Result ℕ Refusal) (q : Parser) : Type 0 where
  pub does : Does 0 (λ c. with_return c body n) p (lifted r) q
  pub few : IfOk r (λ m. m ≤ n + 1)
  pub holds : Paired p → Paired q
  pub alone : SameSymbols p q
  pub whatever : (I : Inp) (ys : List ℕ) → Does 0 (λ c. with_return c body n) (growing I ys p) (lifted r) (growing I ys q)

pub record EndsBlock (p : Parser) (body : Bool) (n : ℕ) (r : Result (Unit {0}) Stop) (q : Parser) : Type 0 where
  pub does : Does 0 (λ c. end_block c body n) p r q
  pub alone : SameSymbols p q
  pub whatever : (ys : List ℕ) → Does 0 (λ c. end_block c body n) (growing (inp_of p) ys p) r (growing (inp_of p) ys q)
