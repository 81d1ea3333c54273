-- What a symbol was declared as, by its tag.
use Rattle.std.specs.Prelude.{ℕ, ◌<◌, ◌≡◌}
use mathlib.Core.Path.{refl}
use native.Mathlib.Omega.{arith}
use borrow.Author.Tests.{ne_eqb}
use Rattle.sifc_word.specs.Base.{if◌then◌otherwise◌}
use Rattle.sifc_def.specs.declared.What.TheVariants.{Other}
use Rattle.sifc_symtab.specs.Table.{what_of}

-- the tags from 4 on say no more
pub what-other : (t v : ℕ) → 3 < t → what_of t v ≡ Other
unfolding what_of if◌then◌otherwise◌
what-other t v h = rw (ne_eqb t 0 (λ e. omega arith), ne_eqb t 1 (λ e. omega arith), ne_eqb t 2 (λ e. omega arith), ne_eqb t 3 (λ e. omega arith)) refl
