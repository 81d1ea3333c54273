use Prim.Native.Nat.{ℕ}
use mathlib.Core.Path.{◌∙◌, ap}
use mathlib.Core.List.{List}
use native.Mathlib.Omega.{arith}
use Rattle.sifc_word.specs.Base.{same}
use Rattle.sifc_symtab.specs.Table.{name_in, sym_at}
use Rattle.sifc_symtab.specs.View.{syms}
use Rattle.sifc_symtab.proofs.Seek.{stops-low, stops-high, stops-miss, stops-name, other_name}
use Rattle.sifc_symtab.proofs.Words.{level-read, hash-read, token-read}
use Rattle.sifc_symtab.proofs.symtab.SymTab.stops.Goals as goal

pub returns-then-level-low : goal.returns-then-level-low
unfolding sym_at
returns-then-level-low c =
    let level = level-read c.args.self.now.symbols.now c.args.k c.read-entry.result c.read-entry.ensures in
    stops-low _ _ c.args.wanted.now.name.now (syms c.args.self.now c.args.k) (omega (arith, c.level-level.ensures, level, c.if-level-low.true))

pub returns-then-high-level : goal.returns-then-high-level
unfolding sym_at
returns-then-high-level c =
    let level = level-read c.args.self.now.symbols.now c.args.k c.read-entry.result c.read-entry.ensures in
    stops-high _ _ c.args.wanted.now.name.now (syms c.args.self.now c.args.k) (omega (arith, c.level-level.ensures, level, c.if-level-low.false)) (omega (arith, c.level-level.ensures, level, c.if-high-level.true))

pub returns-then-hash : goal.returns-then-hash
unfolding sym_at
returns-then-hash c =
    let level = level-read c.args.self.now.symbols.now c.args.k c.read-entry.result c.read-entry.ensures in
    stops-miss _ _ c.args.wanted.now.name.now (syms c.args.self.now c.args.k) (omega (arith, c.level-level.ensures, level, c.if-level-low.false)) (other_name _ _ _ _ _ _ _ c.requires c.args.wanted.now.hashed _ _ (λ e. c.if-hash.true (c.hash.ensures ∙ hash-read c.args.self.now.symbols.now c.args.k c.read-entry.result c.read-entry.ensures ∙ e)))

pub returns : goal.returns
unfolding sym_at
returns c =
    let level = level-read c.args.self.now.symbols.now c.args.k c.read-entry.result c.read-entry.ensures in
    stops-name _ _ c.args.wanted.now.name.now (syms c.args.self.now c.args.k) (omega (arith, c.level-level.ensures, level, c.if-level-low.false)) (omega (arith, c.level-level.ensures, level, c.if-high-level.false)) _ (c.same.ensures ∙ ap (λ (m : List ℕ). same m c.args.wanted.now.name.now) (c.name.ensures ∙ ap (name_in c.args.self.now.tokens.script.now c.args.self.now.tokens.offs.now c.args.self.now.tokens.words.now) (c.token.ensures ∙ token-read c.args.self.now.symbols.now c.args.k c.read-entry.result c.read-entry.ensures)))
