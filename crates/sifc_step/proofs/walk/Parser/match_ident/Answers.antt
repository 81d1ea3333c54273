use Rattle.std.proofs.Common.{sym, ◌∙◌, arith}
use Rattle.sifc_step.proofs.Small.{ident-conveyed, ident-there, ident-missed, ident-full}
use Rattle.sifc_step.proofs.walk.Parser.match_ident.Goals as goal

pub returns-in_err-consume : goal.returns-in_err-consume
returns-in_err-consume c = ident-conveyed (sym c.kind.ensures ∙ c.if-kind-eq-IDENT.true) c.in_err-consume.ensures c.from_residual.ensures

pub returns-then-kind-eq-IDENT : goal.returns-then-kind-eq-IDENT
returns-then-kind-eq-IDENT c = ident-there (sym c.kind.ensures ∙ c.if-kind-eq-IDENT.true) c.in_ok-consume.ensures

pub returns-then-saturating_sub-lt2 : goal.returns-then-saturating_sub-lt2
returns-then-saturating_sub-lt2 c = ident-full (λ e. c.if-kind-eq-IDENT.false (c.kind.ensures ∙ e)) (omega (arith, c.if-saturating_sub-lt2.true, c.saturating_sub.ensures))

pub returns : goal.returns
returns c = ident-missed (λ e. c.if-kind-eq-IDENT.false (c.kind.ensures ∙ e)) c.requires.1 (omega (arith, c.if-saturating_sub-lt2.false, c.saturating_sub.ensures))
