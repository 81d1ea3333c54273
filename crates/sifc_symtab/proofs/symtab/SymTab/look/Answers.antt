use native.Mathlib.Omega.{arith}
use Prim.Native.Nat.{ℕ, ◌+◌, min}
use mathlib.Core.Path.{◌≡◌, sym, subst}
use Rattle.std.specs.Prelude.{Option, Some}
use Rattle.sifc_symtab.specs.Seek.{Finds}
use Rattle.sifc_symtab.specs.View.{syms}
use Rattle.sifc_symtab.proofs.Seek.{finds-more, finds-still}
use Rattle.sifc_symtab.proofs.Walk.{spot-room, look-start}
use Rattle.sifc_symtab.proofs.symtab.SymTab.look.Goals.{then-nearer, else-nearer}
use Rattle.sifc_symtab.proofs.symtab.SymTab.look.Goals as goal

pub found_at-best-requires : goal.found_at-best-requires
found_at-best-requires c = spot-room _ _ _ _ _ _ _ _ _ c.requires.0 c.args.wanted.now.hashed _ c.requires.1

pub loop-k-init : goal.loop-k-init
loop-k-init c = look-start _ _ _ _ _ _ _ _ _ c.requires.0 c.args.wanted.now.hashed _ c.requires.1 _ c.found_at-best.ensures

pub loop-k-preserved : goal.loop-k-preserved
loop-k-preserved c =
    let finds = Finds (syms c.args.self.now) c.args.wanted.now.low c.args.wanted.now.high c.args.wanted.now.name.now in
    let now : finds c.loop-k.k c.loop-k.best = subst (λ (x : ℕ). finds x c.loop-k.best) (let z : min c.args.self.now.stored c.loop-k.k ≡ c.loop-k.k = omega (arith, c.loop-k-test.true) in z) c.loop-k.invariant in
    let more : c.loop-k.k + 1 ≡ min c.args.self.now.stored (c.loop-k.k + 1) = omega (arith, c.loop-k-test.true) in
    elim c.if-nearer.branch [
      | then-nearer w ↦ subst (λ (x : Option ℕ). finds (min c.args.self.now.stored (c.loop-k.k + 1)) x) (sym w.best-is) (subst (λ (x : ℕ). finds x (Some c.loop-k.k)) more (finds-more _ _ _ _ _ c.loop-k.best now (c.nearer.ensures.hit w.if-nearer.true) (c.nearer.ensures.higher w.if-nearer.true)))
      | else-nearer w ↦ subst (λ (x : Option ℕ). finds (min c.args.self.now.stored (c.loop-k.k + 1)) x) (sym w.best-is) (subst (λ (x : ℕ). finds x c.loop-k.best) more (finds-still _ _ _ _ _ c.loop-k.best now (c.nearer.ensures.miss w.if-nearer.false)))
    ]
