use Rattle.std.proofs.Common.{arith, sym, ◌∙◌}
use Rattle.sifc_err.specs.declared.parse_err.ParseErrTy.TheVariants.{UndeclSym}
use Rattle.sifc_def.specs.State.{throw_past}
use Rattle.sifc_def.specs.Expr.{ident_expr, literal as literal_of}
use Rattle.sifc_step.proofs.Steps.{begin, last, stop}
use Rattle.sifc_step.proofs.Small.{conveyed, passes-one}
use Rattle.sifc_name.proofs.Names.{unchecked, checked, undeclared}
use Rattle.sifc_name.proofs.name.ident_expr.Goals.{else-p-via-then-p+else-not-sym_exists, else-p-via-else-p}
use Rattle.sifc_name.proofs.name.ident_expr.Goals as goal

pub returns-then-not-sym_exists : goal.returns-then-not-sym_exists
unfolding ident_expr
returns-then-not-sym_exists c =
    let p0 = begin 1 (λ x. ident_expr x c.args.p.now.at) c.requires.0 in
    stop (λ x. throw_past x (UndeclSym c.args.p.now.at)) _ (λ x. ident_expr x c.args.p.now.at) (undeclared c.args.p.now.at _ p0 c.if-p.true (sym c.if-not-sym_exists.true ∙ c.sym_exists.ensures)) (omega arith) c.throw_past.ensures.does

pub returns-in_err-literal : goal.returns-in_err-literal
unfolding ident_expr
returns-in_err-literal c =
    let p0 = begin 1 (λ x. ident_expr x c.args.p.now.at) c.requires.0 in
    elim c.else-p.branch [
      | else-p-via-then-p+else-not-sym_exists w ↦ conveyed (last (λ x. literal_of x c.args.p.now.at) (λ x. ident_expr x c.args.p.now.at) (checked c.args.p.now.at _ p0 w.if-p.true (sym w.if-not-sym_exists.false ∙ w.sym_exists.ensures)) (omega (arith, passes-one c.args.p.now c.requires.1)) c.in_err-literal.ensures.does) c.from_residual.ensures
      | else-p-via-else-p w ↦ conveyed (last (λ x. literal_of x c.args.p.now.at) (λ x. ident_expr x c.args.p.now.at) (unchecked c.args.p.now.at _ p0 w.if-p.false) (omega (arith, passes-one c.args.p.now c.requires.1)) c.in_err-literal.ensures.does) c.from_residual.ensures
    ]

pub returns : goal.returns
unfolding ident_expr
returns c =
    let p0 = begin 1 (λ x. ident_expr x c.args.p.now.at) c.requires.0 in
    elim c.else-p.branch [
      | else-p-via-then-p+else-not-sym_exists w ↦ last (λ x. literal_of x c.args.p.now.at) (λ x. ident_expr x c.args.p.now.at) (checked c.args.p.now.at _ p0 w.if-p.true (sym w.if-not-sym_exists.false ∙ w.sym_exists.ensures)) (omega (arith, passes-one c.args.p.now c.requires.1)) c.in_ok-literal.ensures.does
      | else-p-via-else-p w ↦ last (λ x. literal_of x c.args.p.now.at) (λ x. ident_expr x c.args.p.now.at) (unchecked c.args.p.now.at _ p0 w.if-p.false) (omega (arith, passes-one c.args.p.now c.requires.1)) c.in_ok-literal.ensures.does
    ]
