use Rattle.std.proofs.Common.{arith, eq-eqb, ne_eqb, sym, ◌∙◌}
use Rattle.sifc_err.specs.declared.parse_err.ParseErrTy.TheVariants.{InvalidAssign}
use Rattle.sifc_def.specs.State.{throw}
use Rattle.sifc_def.specs.Expr.{assign_token, assign_var}
use Rattle.sifc_symtab.specs.Table.{found_of}
use Rattle.sifc_step.proofs.Steps.{begin, last, yes, no}
use Rattle.sifc_name.proofs.Names.{looked}
use Rattle.sifc_name.proofs.name.assign_token.Goals as goal

pub returns-then-token_kind-ne-IDENT : goal.returns-then-token_kind-ne-IDENT
unfolding assign_token
returns-then-token_kind-ne-IDENT c =
    let p0 = begin 0 (λ x. assign_token x c.args.i) c.requires in
    last (λ x. throw x (InvalidAssign c.args.i)) (λ x. assign_token x c.args.i) (no _ _ p0 (ne_eqb _ 31 (λ z. c.if-token_kind-ne-IDENT.true (c.token_kind.ensures ∙ z)))) (omega arith) c.add_error.ensures.does

pub returns : goal.returns
unfolding assign_token
returns c =
    let p0 = begin 0 (λ x. assign_token x c.args.i) c.requires in
    let p1 = yes _ _ p0 (eq-eqb _ 31 (sym c.token_kind.ensures ∙ c.if-token_kind-ne-IDENT.false)) in
    last (λ x. assign_var x c.args.i (found_of c.look_up-found.result)) (λ x. assign_token x c.args.i) (looked c.args.i _ p1 c.look_up-found.ensures) (omega arith) c.assign_var.ensures
