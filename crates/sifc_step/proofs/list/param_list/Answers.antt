use Rattle.std.proofs.Common.{suc, ◌≡◌, length, arith, sym, refl, ap, ◌∙◌}
use Rattle.sifc_err.specs.declared.parse_err.ParseErrTy.TheVariants.{FnParmCntExceeded, InvalidTknMsg}
use Rattle.sifc_def.specs.State.{throw}
use Rattle.sifc_def.specs.Expr.{fuel, separator, param_list}
use Rattle.sifc_step.specs.declared.walk.Parser.{Parser}
use Rattle.sifc_step.specs.Abs.{Inp}
use Rattle.sifc_step.proofs.Steps.{go, stop, last, fin}
use Rattle.sifc_step.proofs.Small.{conveyed}
use Rattle.sifc_step.proofs.Loops.{looping, turn-own, onward, recount, listed-all, listed-many, listed-eof, listed-item}
use Rattle.sifc_step.proofs.Items.{separates-seen, throws-seen, builds-on, separates-builds, throws-builds}
use Rattle.sifc_step.proofs.list.param_list.Goals as goal

pub loop-item-init : goal.loop-item-init
loop-item-init g c = (λ v def h r. looping (λ x f. param_list x (def x) f 0) r, omega arith, λ v def h a r. omega arith, λ b. refl)

pub returns-then-k-eq-RIGHT_PAREN-clause-does : goal.returns-then-k-eq-RIGHT_PAREN-clause-does
returns-then-k-eq-RIGHT_PAREN-clause-does g c = λ v def h r.
    fin (λ x. param_list x (def x) (fuel x) 0) (listed-all def _ _ (turn-own (c.loop-item.invariant.0 v def h r)) (sym c.kind-k.ensures ∙ c.if-k-eq-RIGHT_PAREN.true))

pub returns-then-n-ge-FN_PARAM_MAX_LEN-clause-does : goal.returns-then-n-ge-FN_PARAM_MAX_LEN-clause-does
returns-then-n-ge-FN_PARAM_MAX_LEN-clause-does g c = λ v def h r.
    last (λ x. throw x (FnParmCntExceeded 64)) (λ x. param_list x (def x) (fuel x) 0) (listed-many def _ _ (turn-own (c.loop-item.invariant.0 v def h r)) (λ z. c.if-k-eq-RIGHT_PAREN.false (c.kind-k.ensures ∙ z)) c.if-n-ge-FN_PARAM_MAX_LEN.true) (omega arith) (throws-seen v c.add_error.ensures)

pub returns-then-n-ge-FN_PARAM_MAX_LEN-clause-alone : goal.returns-then-n-ge-FN_PARAM_MAX_LEN-clause-alone
returns-then-n-ge-FN_PARAM_MAX_LEN-clause-alone g c = λ b.
    builds-on c.args.p.now c.loop-item.p c.add_error.new.self (c.loop-item.invariant.3 b) (throws-builds c.add_error.ensures)

pub returns-then-k-eq-EOF-clause-does : goal.returns-then-k-eq-EOF-clause-does
returns-then-k-eq-EOF-clause-does g c = λ v def h r.
    last (λ x. throw x (InvalidTknMsg 2)) (λ x. param_list x (def x) (fuel x) 0) (listed-eof def _ _ (turn-own (c.loop-item.invariant.0 v def h r)) (λ z. c.if-k-eq-RIGHT_PAREN.false (c.kind-k.ensures ∙ z)) (omega (arith, c.if-n-ge-FN_PARAM_MAX_LEN.false)) (sym c.kind-k.ensures ∙ c.if-k-eq-EOF.true)) (omega arith) (throws-seen v c.add_error-then-k-eq-EOF.ensures)

pub returns-then-k-eq-EOF-clause-alone : goal.returns-then-k-eq-EOF-clause-alone
returns-then-k-eq-EOF-clause-alone g c = λ b.
    builds-on c.args.p.now c.loop-item.p c.add_error-then-k-eq-EOF.new.self (c.loop-item.invariant.3 b) (throws-builds c.add_error-then-k-eq-EOF.ensures)

pub kind-k-requires : goal.kind-k-requires
kind-k-requires g c =
    let d = c.requires in
    (c.loop-item.invariant.0 d.sight d.item d.reads d.ready).at.is.stands.here

pub item-requires : goal.item-requires
item-requires g c =
    let d = c.requires in
    d.callable _ (c.loop-item.invariant.0 d.sight d.item d.reads d.ready).at.is

pub returns-in_err-item-clause-does : goal.returns-in_err-item-clause-does
returns-in_err-item-clause-does g c = λ v def h r.
    let p1 = listed-item def _ _ (turn-own (c.loop-item.invariant.0 v def h r)) (λ z. c.if-k-eq-RIGHT_PAREN.false (c.kind-k.ensures ∙ z)) (omega (arith, c.if-n-ge-FN_PARAM_MAX_LEN.false)) (λ z. c.if-k-eq-EOF.false (c.kind-k.ensures ∙ z)) in
    conveyed (stop def _ (λ x. param_list x (def x) (fuel x) 0) p1 (omega arith) (h.does _ _ _ p1.is c.in_err-item.ensures)) c.from_residual.ensures

pub returns-in_err-item-clause-alone : goal.returns-in_err-item-clause-alone
returns-in_err-item-clause-alone g c = λ b.
    builds-on c.args.p.now c.loop-item.p c.item.new.arg2 (c.loop-item.invariant.3 b) (b.alone _ _ _ c.in_err-item.ensures)

pub separator-requires : goal.separator-requires
separator-requires g c =
    let d = c.requires in
    let p1 = listed-item d.item _ _ (turn-own (c.loop-item.invariant.0 d.sight d.item d.reads d.ready)) (λ z. c.if-k-eq-RIGHT_PAREN.false (c.kind-k.ensures ∙ z)) (omega (arith, c.if-n-ge-FN_PARAM_MAX_LEN.false)) (λ z. c.if-k-eq-EOF.false (c.kind-k.ensures ∙ z)) in
    (go d.item _ p1 (d.reads.does _ _ _ p1.is c.in_ok-item.ensures)).is.stands

pub returns-in_err-separator-clause-does : goal.returns-in_err-separator-clause-does
returns-in_err-separator-clause-does g c = λ v def h r.
    let p1 = listed-item def _ _ (turn-own (c.loop-item.invariant.0 v def h r)) (λ z. c.if-k-eq-RIGHT_PAREN.false (c.kind-k.ensures ∙ z)) (omega (arith, c.if-n-ge-FN_PARAM_MAX_LEN.false)) (λ z. c.if-k-eq-EOF.false (c.kind-k.ensures ∙ z)) in
    let p2 = go def _ p1 (h.does _ _ _ p1.is c.in_ok-item.ensures) in
    conveyed (stop (λ x. separator x) _ (λ x. param_list x (def x) (fuel x) 0) p2 (omega arith) (separates-seen v c.in_err-separator.ensures)) c.from_residual-in_err-separator.ensures

pub returns-in_err-separator-clause-alone : goal.returns-in_err-separator-clause-alone
returns-in_err-separator-clause-alone g c = λ b.
    builds-on c.args.p.now c.item.new.arg2 c.separator.new.self (builds-on c.args.p.now c.loop-item.p c.item.new.arg2 (c.loop-item.invariant.3 b) (b.alone _ _ _ c.in_ok-item.ensures)) (separates-builds c.in_err-separator.ensures)

pub loop-item-preserved : goal.loop-item-preserved
loop-item-preserved g c =
    let same : c.separator.new.self.nodes ≡ c.item.new.arg2.nodes = ap (λ (x : Parser). x.nodes) c.in_ok-separator.ensures.alone in (
      λ v def h r.
          let p1 = listed-item def _ _ (turn-own (c.loop-item.invariant.0 v def h r)) (λ z. c.if-k-eq-RIGHT_PAREN.false (c.kind-k.ensures ∙ z)) (omega (arith, c.if-n-ge-FN_PARAM_MAX_LEN.false)) (λ z. c.if-k-eq-EOF.false (c.kind-k.ensures ∙ z)) in
          let p2 = go def _ p1 (h.does _ _ _ p1.is c.in_ok-item.ensures) in
          let sep = separates-seen v c.in_ok-separator.ensures in
          let p3 = go (λ x. separator x) _ p2 sep in
          recount def c.loop-item.n (onward (c.loop-item.invariant.0 v def h r) {loop' = λ x f. param_list x (def x) f (suc c.loop-item.n)} (omega (arith, h.ahead _ _ p1.is c.in_ok-item.ensures, (sep.fine p2.is).on)) p3),
      omega (arith, c.if-n-ge-FN_PARAM_MAX_LEN.false),
      λ v def h a r.
          let p1 = listed-item def _ _ (turn-own (c.loop-item.invariant.0 v def h r)) (λ z. c.if-k-eq-RIGHT_PAREN.false (c.kind-k.ensures ∙ z)) (omega (arith, c.if-n-ge-FN_PARAM_MAX_LEN.false)) (λ z. c.if-k-eq-EOF.false (c.kind-k.ensures ∙ z)) in
          omega (arith, c.loop-item.invariant.2 v def h a r, a.nodes _ _ p1.is c.in_ok-item.ensures, same),
      λ b. builds-on c.args.p.now c.item.new.arg2 c.separator.new.self (builds-on c.args.p.now c.loop-item.p c.item.new.arg2 (c.loop-item.invariant.3 b) (b.alone _ _ _ c.in_ok-item.ensures)) (separates-builds c.in_ok-separator.ensures),
    )

pub loop-item-smaller : goal.loop-item-smaller
loop-item-smaller g c =
    let d = c.requires in
    let t = c.loop-item.invariant.0 d.sight d.item d.reads d.ready in
    let p1 = listed-item d.item _ _ (turn-own t) (λ z. c.if-k-eq-RIGHT_PAREN.false (c.kind-k.ensures ∙ z)) (omega (arith, c.if-n-ge-FN_PARAM_MAX_LEN.false)) (λ z. c.if-k-eq-EOF.false (c.kind-k.ensures ∙ z)) in
    let sep = separates-seen d.sight c.in_ok-separator.ensures in
    let p2 = go d.item _ p1 (d.reads.does _ _ _ p1.is c.in_ok-item.ensures) in
    omega (arith, t.at.is.stands.here, ap (λ (I : Inp). length I.words) t.at.kept.inp, d.reads.ahead _ _ p1.is c.in_ok-item.ensures, (sep.fine p2.is).on)
