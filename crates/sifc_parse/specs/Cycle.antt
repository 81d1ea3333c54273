-- What the functions of the cycle promise, where it is not one definition.
use Rattle.std.specs.Prelude.{ℕ, ◌+◌, ◌≤◌, ◌<◌, ◌≡◌, List, Bool, Result}
use Rattle.sifc_word.specs.Kind.{LeftBrace}
use Rattle.sifc_def.specs.Walk.{walkers}
use Rattle.sifc_step.specs.declared.walk.Parser.{Parser}
use Rattle.sifc_step.specs.declared.walk.Stop.{Stop}
use Rattle.sifc_step.specs.Abs.{here}
use Rattle.sifc_block.specs.declared.block.Names.{Names}
use Rattle.sifc_block.specs.declared.block.Names.TheVariants.{Unnamed, Pair, Params}
use Rattle.sifc_block.specs.declared.book.Book.{Book}
use Rattle.sifc_block.specs.Lists.{Lists}

-- the names that a block binds: tokens, or nodes that are there
abbrev pub NamesIn : Names → Parser → Type 0
NamesIn Unnamed p = Unit {0}
NamesIn (Pair i j) p = (i < 65536) × (j < 65536)
NamesIn (Params first count) p = first + count ≤ p.nodes

-- a block: one token farther at least where it begins with `{`
pub record Blocks (depth : ℕ) (body : Bool) (names : List ℕ) (p : Parser) (b : Book) (r : Result (Unit {0}) Stop) (q : Parser) (d : Book) : Type 0 where
  pub does : (j : ℕ) → j ≤ 1 → ((here p ≡ LeftBrace → ⊥) → j ≡ 0) → Lists j (λ c. (walkers c depth).block body names) p b r q d
