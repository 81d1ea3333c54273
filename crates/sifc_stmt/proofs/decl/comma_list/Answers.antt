use Rattle.std.specs.Prelude.{Ok, refl, suc}
use Rattle.std.proofs.Common.{add-one, arith, sym, ◌∙◌}
use Rattle.sifc_err.specs.declared.parse_err.ParseErrTy.TheVariants.{InvalidTknMsg}
use Rattle.sifc_def.specs.State.{consume, throw}
use Rattle.sifc_def.specs.Expr.{fuel}
use Rattle.sifc_def.specs.Stmt.{comma_list}
use Rattle.sifc_step.proofs.Steps.{fin, go, stop, refused, last, yes, no}
use Rattle.sifc_step.proofs.Small.{conveyed}
use Rattle.std.proofs.Math.Path.{subst}
use Rattle.sifc_step.specs.Abs.{Does}
use Rattle.sifc_step.proofs.Loops.{looping, turn-own, onward, optional-no, optional-yes, recount-commas, commas-all, commas-eof, commas-item}
use Rattle.sifc_stmt.proofs.decl.comma_list.Goals as goal

pub loop-item-init : goal.loop-item-init
loop-item-init g c = (λ def h. looping (λ x f. comma_list x c.args.close (def x) f 0) c.requires.ready, omega arith)

pub returns-then-k-close-clause-does : goal.returns-then-k-close-clause-does
returns-then-k-close-clause-does g c = λ def h.
    fin (λ x. comma_list x c.args.close (def x) (fuel x) 0) (commas-all c.args.close def _ _ (turn-own (c.loop-item.invariant.0 def h)) (sym c.kind-k.ensures ∙ c.if-k-close.true))

pub returns-then-k-eq-EOF-clause-does : goal.returns-then-k-eq-EOF-clause-does
returns-then-k-eq-EOF-clause-does g c = λ def h.
    last (λ x. throw x (InvalidTknMsg 2)) (λ x. comma_list x c.args.close (def x) (fuel x) 0) (commas-eof c.args.close def _ _ (turn-own (c.loop-item.invariant.0 def h)) (λ z. c.if-k-close.false (c.kind-k.ensures ∙ z)) (sym c.kind-k.ensures ∙ c.if-k-eq-EOF.true)) (omega arith) c.add_error.ensures.counts

pub returns-in_err-item-clause-does : goal.returns-in_err-item-clause-does
returns-in_err-item-clause-does g c = λ def h.
    let p1 = commas-item c.args.close def _ _ (turn-own (c.loop-item.invariant.0 def h)) (λ z. c.if-k-close.false (c.kind-k.ensures ∙ z)) (λ z. c.if-k-eq-EOF.false (c.kind-k.ensures ∙ z)) in
    conveyed (stop def _ (λ x. comma_list x c.args.close (def x) (fuel x) 0) p1 (omega arith) (h.does _ _ _ p1.is c.in_err-item.ensures)) c.from_residual.ensures

pub returns-then-kind-ne-COMMA-clause-does : goal.returns-then-kind-ne-COMMA-clause-does
returns-then-kind-ne-COMMA-clause-does g c = λ def h.
    let p1 = commas-item c.args.close def _ _ (turn-own (c.loop-item.invariant.0 def h)) (λ z. c.if-k-close.false (c.kind-k.ensures ∙ z)) (λ z. c.if-k-eq-EOF.false (c.kind-k.ensures ∙ z)) in
    let p2 = go def _ p1 (h.does _ _ _ p1.is c.in_ok-item.ensures) in
    let p3 = no _ _ (optional-no 12 _ p2 (λ z. c.if-kind-ne-COMMA.true (c.kind.ensures ∙ z))) refl in
    subst (λ n. Does 0 (λ x. comma_list x c.args.close (def x) (fuel x) 0) c.args.p.now (Ok n) c.item.new.arg2) (sym (add-one c.loop-item.n)) (fin (λ x. comma_list x c.args.close (def x) (fuel x) 0) p3)

pub returns-in_err-consume-clause-does : goal.returns-in_err-consume-clause-does
returns-in_err-consume-clause-does g c = λ def h.
    let p1 = commas-item c.args.close def _ _ (turn-own (c.loop-item.invariant.0 def h)) (λ z. c.if-k-close.false (c.kind-k.ensures ∙ z)) (λ z. c.if-k-eq-EOF.false (c.kind-k.ensures ∙ z)) in
    let p2 = go def _ p1 (h.does _ _ _ p1.is c.in_ok-item.ensures) in
    let p3 = optional-yes 12 _ p2 (sym c.kind.ensures ∙ c.if-kind-ne-COMMA.false) in
    conveyed (refused (λ x. consume x) _ (λ x. comma_list x c.args.close (def x) (fuel x) 0) p3 c.in_err-consume.ensures.does refl) c.from_residual-in_err-consume.ensures

pub loop-item-preserved : goal.loop-item-preserved
loop-item-preserved g c =
    let d = c.requires.items in
    let q1 = commas-item c.args.close d.0 _ _ (turn-own (c.loop-item.invariant.0 d.0 d.1)) (λ z. c.if-k-close.false (c.kind-k.ensures ∙ z)) (λ z. c.if-k-eq-EOF.false (c.kind-k.ensures ∙ z)) in
    let q2 = go d.0 _ q1 (d.1.does _ _ _ q1.is c.in_ok-item.ensures) in (
      λ def h.
          let p1 = commas-item c.args.close def _ _ (turn-own (c.loop-item.invariant.0 def h)) (λ z. c.if-k-close.false (c.kind-k.ensures ∙ z)) (λ z. c.if-k-eq-EOF.false (c.kind-k.ensures ∙ z)) in
          let p2 = go def _ p1 (h.does _ _ _ p1.is c.in_ok-item.ensures) in
          let p3 = optional-yes 12 _ p2 (sym c.kind.ensures ∙ c.if-kind-ne-COMMA.false) in
          let p4 = yes _ _ (go (λ x. consume x) _ p3 c.in_ok-consume.ensures.does) refl in
          recount-commas c.args.close def c.loop-item.n (onward (c.loop-item.invariant.0 def h) {loop' = λ x f. comma_list x c.args.close (def x) f (suc c.loop-item.n)} (omega (arith, h.ahead _ _ p1.is c.in_ok-item.ensures, (c.in_ok-consume.ensures.does.fine p3.is).on)) p4),
      omega (arith, c.loop-item.invariant.1, d.1.ahead _ _ q1.is c.in_ok-item.ensures, (c.in_ok-consume.ensures.does.fine q2.is).on),
    )
