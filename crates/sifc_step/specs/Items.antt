-- What a list asks of what reads its items.
use Rattle.std.specs.Prelude.{ℕ, ◌<◌, ◌≡◌, List, Option as Maybe, Some, None, Result, Ok}
use Rattle.std.specs.Borrow.{MutBor}
use Rattle.sifc_def.specs.State.{Ctx, Void}
use Rattle.sifc_step.specs.declared.walk.Parser.{Parser}
use Rattle.sifc_step.specs.declared.walk.Stop.{Stop}
use Rattle.sifc_step.specs.Abs.{inp, Ready, Does}
use Rattle.sifc_step.specs.Small.{growing}

-- the parser over another script and other symbols: its tokens, their offsets and its limits are its own
abbrev pub beside : List ℕ → List ℕ → Parser → Parser
beside s ys p = growing (inp s p.offs.now p.words.now p.lim) ys p

-- how a parser is seen: as it is, or over another script and other symbols
abbrev pub Sight : Type 0
Sight = Maybe (List ℕ × List ℕ)

abbrev pub script_in : Sight → Parser → List ℕ
script_in None p = p.script.now
script_in (Some x) p = x.0

abbrev pub symbols_in : Sight → Parser → List ℕ
symbols_in None p = p.symbols.now
symbols_in (Some x) p = x.1

abbrev pub seen : Sight → Parser → Parser
seen v p = beside (script_in v p) (symbols_in v p) p

-- all but the token in front, how many errors are listed, and the nodes
abbrev pub OnlyBuilds : Parser → Parser → Type 0
OnlyBuilds p q = q ≡ record p { at = q.at; errors = q.errors; head = q.head; load = q.load; nodes = q.nodes }

-- each call at a parser that is ready, seen so, does what `item` says, and passes a token where it gives a value
pub record ReadsAs (v : Sight) (post : MutBor Parser → Result (Unit {0}) Stop → MutBor Parser → Type 0) (item : Ctx → Void) : Type 0 where
  pub does : (p q : MutBor Parser) (r : Result (Unit {0}) Stop) → Ready (seen v p.now) → post p r q → Does 0 item (seen v p.now) r (seen v q.now)
  pub ahead : (p q : MutBor Parser) → Ready (seen v p.now) → post p (Ok tt) q → p.now.at < q.now.at

-- the same of the parser as it is
abbrev pub Reads : (MutBor Parser → Result (Unit {0}) Stop → MutBor Parser → Type 0) → (Ctx → Void) → Type 0
Reads post item = ReadsAs None post item

-- a list's own start: seen one way the parser is ready, and where it is so an item may be read
pub record Lists (pre : MutBor Parser → Type 0) (post : MutBor Parser → Result (Unit {0}) Stop → MutBor Parser → Type 0) (p : Parser) : Type 0 where
  pub sight : Sight
  pub ready : Ready (seen sight p)
  pub callable : (q : MutBor Parser) → Ready (seen sight q.now) → pre q
  pub item : Ctx → Void
  pub reads : ReadsAs sight post item

-- and appends a node
pub record AppendsAs (v : Sight) (post : MutBor Parser → Result (Unit {0}) Stop → MutBor Parser → Type 0) : Type 0 where
  pub nodes : (p q : MutBor Parser) → Ready (seen v p.now) → post p (Ok tt) q → p.now.nodes < q.now.nodes

abbrev pub Appends : (MutBor Parser → Result (Unit {0}) Stop → MutBor Parser → Type 0) → Type 0
Appends post = AppendsAs None post

-- and leaves the rest as it was
pub record Builds (post : MutBor Parser → Result (Unit {0}) Stop → MutBor Parser → Type 0) : Type 0 where
  pub alone : (p q : MutBor Parser) (r : Result (Unit {0}) Stop) → post p r q → OnlyBuilds p.now q.now
