use Rattle.std.proofs.Common.{◌≡◌, ℕ, Bool, ◌+◌, ◌<◌, drop}
use Rattle.sifc_word.specs.Base.{span}
use Rattle.sifc_lex.proofs.lex.run.Given as goal

abbrev pub invariant-loop-n : goal.invariant-loop-n
invariant-loop-n g l = (test : ℕ → Bool) → ((b : ℕ) (r : Bool) → b < 256 → goal.F-post g l.passes b r → r ≡ test b) → l.n + span test (drop l.n l.s) ≡ span test l.s
