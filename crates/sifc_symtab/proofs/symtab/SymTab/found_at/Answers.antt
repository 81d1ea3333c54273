use native.Mathlib.Omega.{arith}
use Prim.Native.Nat.{ℕ, ◌<◌, ◌≤◌}
use mathlib.Core.Path.{◌≡◌, refl, ap, subst}
use Rattle.std.specs.Prelude.{Some}
use Rattle.sifc_symtab.specs.Table.{level_at}
use Rattle.sifc_symtab.proofs.Words.{level-read}
use Rattle.sifc_symtab.proofs.symtab.SymTab.found_at.Goals as goal

pub returns-then-level-low : goal.returns-then-level-low
returns-then-level-low c =
    let link = c.in_ok-k.ensures in
    let level = level-read c.args.self.now.symbols.now c.in_ok-k.k c.read.result c.read.ensures in
    record {
      none = λ e. absurd (let z : ⊥ = omega (arith, link.0) in z);
      below = λ m e l. refl;
      some = λ m e l. absurd (let y = subst (λ (i : ℕ). c.args.low ≤ level_at c.args.self.now.symbols.now i) (let z : m ≡ c.in_ok-k.k = omega (arith, link.1) in z) l in
          let x : ⊥ = omega (arith, c.level.ensures, level, c.if-level-low.true) in
          x);
    }

pub returns : goal.returns
returns c =
    let link = c.in_ok-k.ensures in
    let level = level-read c.args.self.now.symbols.now c.in_ok-k.k c.read.result c.read.ensures in
    record {
      none = λ e. absurd (let z : ⊥ = omega (arith, link.0) in z);
      below = λ m e l. absurd (let y = subst (λ (i : ℕ). level_at c.args.self.now.symbols.now i < c.args.low) (let z : m ≡ c.in_ok-k.k = omega (arith, link.1) in z) l in
          let x : ⊥ = omega (arith, c.level.ensures, level, c.if-level-low.false) in
          x);
      some = λ m e l. ap Some (let z : c.in_ok-k.k ≡ m = omega (arith, link.1) in z);
    }
