use native.Mathlib.Omega.{arith}
use mathlib.Core.Path.{sym, subst, ◌∙◌}
use mathlib.Core.Bool.{true}
use lib.Dec.{ltb}
use Rattle.std.specs.Prelude.{Option, ℕ}
use Rattle.sifc_symtab.specs.Table.{sym_at}
use Rattle.sifc_symtab.specs.Seek.{Nearer}
use Rattle.sifc_symtab.specs.View.{syms}
use Rattle.sifc_symtab.proofs.Seek.{nearer-miss, nearer-hit}
use Rattle.sifc_symtab.proofs.Walk.{nearer-by}
use Rattle.sifc_symtab.proofs.Words.{level-read}
use Rattle.sifc_symtab.proofs.symtab.SymTab.nearer.Goals as goal

pub returns-then-level-wanted : goal.returns-then-level-wanted
unfolding sym_at
returns-then-level-wanted c =
    let level = level-read c.args.self.now.symbols.now c.args.k c.read.result c.read.ensures in
    nearer-miss (syms c.args.self.now) _ _ _ _ _ (λ t. absurd (let z : ⊥ = omega (arith, t.above, c.level-level.ensures, level, c.if-level-wanted.true) in
    z))

pub returns-in-Some : goal.returns-in-Some
unfolding sym_at
returns-in-Some c =
    let level = level-read c.args.self.now.symbols.now c.args.k c.read.result c.read.ensures in
    let best = level-read c.args.self.now.symbols.now c.in-Some.b c.read-in-Some.result c.read-in-Some.ensures in
    subst (λ (x : Option ℕ). Nearer (syms c.args.self.now) c.args.wanted.now.low c.args.wanted.now.high c.args.wanted.now.name.now x c.args.k (ltb c.level.result c.level-level.result)) (sym c.in-Some.is)
    (nearer-by _ _ _ _ _ _ (c.stops.ensures.yes c.if-not-stops.false (omega (arith, c.level-level.ensures, level, c.if-level-wanted.false))) c.level.result c.level-level.result (c.level.ensures ∙ best) (c.level-level.ensures ∙ level))

pub returns-in-None : goal.returns-in-None
unfolding sym_at
returns-in-None c =
    let level = level-read c.args.self.now.symbols.now c.args.k c.read.result c.read.ensures in
    subst (λ (x : Option ℕ). Nearer (syms c.args.self.now) c.args.wanted.now.low c.args.wanted.now.high c.args.wanted.now.name.now x c.args.k true) (sym c.in-None.is)
    (nearer-hit _ _ _ _ _ _ (c.stops.ensures.yes c.if-not-stops.false (omega (arith, c.level-level.ensures, level, c.if-level-wanted.false))) tt)
