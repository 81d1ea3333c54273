-- What a list asks of what writes its items, and what it says of them.
use Rattle.std.specs.Prelude.{ℕ, ◌≡◌, List, Result}
use Rattle.std.specs.Borrow.{MutBor}
use Rattle.sifc_put.specs.declared.write.Full.{Full}
use Rattle.sifc_put.specs.declared.write.Writer.{Writer}
use Rattle.sifc_put.specs.Post.{Kind, Goes, Wrote}

-- Before the node hi the call may be made at each writer that goes on from start, and it writes the bytes w and goes on before lo.
pub record Written (may : MutBor Writer → Type 0) (did : MutBor Writer → Result (Unit {0}) Full → MutBor Writer → Type 0) (start : Writer) (w : List ℕ) (lo hi : ℕ) : Type 0 where
  pub ready : (p : MutBor Writer) → Goes start p.now → p.now.node ≡ hi → may p
  pub goes : (p q : MutBor Writer) (r : Result (Unit {0}) Full) → Goes start p.now → p.now.node ≡ hi → did p r q → Goes p.now q.now
  pub wrote : (p q : MutBor Writer) (r : Result (Unit {0}) Full) → Goes start p.now → p.now.node ≡ hi → did p r q → Wrote w lo p.now r q.now

-- the kind of what such calls write
abbrev pub written_l : (MutBor Writer → Type 0) → (MutBor Writer → Result (Unit {0}) Full → MutBor Writer → Type 0) → Writer → Kind
written_l may did start = λ I. record { T = List ℕ; S = Written may did start; P = λ w. w }
