use Rattle.std.proofs.Common.{ℕ, ◌≡◌, leb, sym, ap, ◌∙◌, arith, le-ltb}
use Rattle.sifc_def.specs.Expr.{looseness}
use Rattle.sifc_expr.proofs.Levels.{no_sign, some-sign}
use Rattle.sifc_expr.proofs.parser.binds.Goals as goal

pub returns-then-k-gt0 : goal.returns-then-k-gt0
returns-then-k-gt0 c = ap (λ (k : ℕ). leb k c.args.n) (c.looseness-k.ensures ∙ ap looseness c.kind.ensures) ∙ some-sign _ _ (λ z. let v : ⊥ = omega (arith, c.if-k-gt0.true, c.looseness-k.ensures ∙ ap looseness c.kind.ensures, z) in v)

pub returns-else-k-gt0 : goal.returns-else-k-gt0
returns-else-k-gt0 c = le-ltb _ _ c.if-k-gt0.false ∙ no_sign _ _ (let e : c.looseness-k.result ≡ 0 = omega (arith, c.if-k-gt0.false) in sym (c.looseness-k.ensures ∙ ap looseness c.kind.ensures) ∙ e)
