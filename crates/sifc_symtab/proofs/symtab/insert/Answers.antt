use native.Mathlib.Omega.{arith}
use Prim.Native.Nat.{ℕ, ◌+◌, ◌-◌, ◌%◌}
use mathlib.Core.Path.{◌≡◌, ap₂, ◌∙◌}
use mathlib.Core.List.{List}
use Rattle.sifc_symtab.specs.Table.{with_next, with_head}
use Rattle.sifc_symtab.proofs.Words.{next-write, head-write}
use Rattle.sifc_symtab.proofs.symtab.insert.Goals as goal

pub returns-then-spot-eq0 : goal.returns-then-spot-eq0
returns-then-spot-eq0 c =
    record {
      front = λ e. c.write-then-spot-eq0.ensures ∙ head-write _ _ _ c.read-first.ensures _ _ c.with_head.ensures ∙ ap₂ (λ (x : List ℕ) (B : ℕ). with_head x (c.args.hash % B) (c.args.n + 1)) (c.write.ensures ∙ next-write _ _ _ c.read.ensures _ _ c.with_next.ensures) c.buckets.ensures;
      behind = λ m e. absurd (let z : ⊥ = omega (arith, c.if-spot-eq0.true) in
          z);
    }

pub returns-else-spot-eq0 : goal.returns-else-spot-eq0
returns-else-spot-eq0 c =
    record {
      front = λ e. absurd (c.if-spot-eq0.false e);
      behind = λ m e. c.write-else-spot-eq0.ensures ∙ next-write _ _ _ c.read-before.ensures _ _ c.with_next-else-spot-eq0.ensures ∙ ap₂ (λ (x : List ℕ) (k : ℕ). with_next x k (c.args.n + 1)) (c.write.ensures ∙ next-write _ _ _ c.read.ensures _ _ c.with_next.ensures) (let z : c.args.spot.prev - 1 ≡ m = omega arith in
          z);
    }
