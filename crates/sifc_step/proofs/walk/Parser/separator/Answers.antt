use Rattle.std.specs.Prelude.{refl}
use Rattle.std.proofs.Common.{sym, ◌∙◌, arith}
use Rattle.sifc_step.specs.Small.{over}
use Rattle.sifc_step.proofs.Small.{separate-not, separate-by, less}
use Rattle.sifc_step.proofs.walk.Parser.separator.Goals as goal

pub returns-then-kind-eq-RIGHT_PAREN : goal.returns-then-kind-eq-RIGHT_PAREN
returns-then-kind-eq-RIGHT_PAREN c =
    let e = sym c.kind.ensures ∙ c.if-kind-eq-RIGHT_PAREN.true in
    record { does = separate-not e; alone = refl; whatever = λ s M. separate-not {p = over s M c.args.self.now c.args.self.now} e }

pub returns : goal.returns
returns c = record {
  does = separate-by (λ e. c.if-kind-eq-RIGHT_PAREN.false (c.kind.ensures ∙ e)) (less (omega arith) c.expect.ensures.does);
  alone = c.expect.ensures.alone;
  whatever = λ s M. separate-by (λ e. c.if-kind-eq-RIGHT_PAREN.false (c.kind.ensures ∙ e)) (less (omega arith) (c.expect.ensures.whatever s M));
}
