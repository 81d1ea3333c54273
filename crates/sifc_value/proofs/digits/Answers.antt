use Rattle.std.proofs.Common.{sym, lt_of_lt_of_le, arith}
use Rattle.sifc_word.specs.Base.{within}
use Rattle.sifc_lex.specs.Lex.{digit}
use Rattle.sifc_value.proofs.Scanned.{scanned-none, scanned-more, room, scale-room, read-stop}
use Rattle.sifc_value.proofs.digits.Goals as goal

pub loop-next-init : goal.loop-next-init
loop-next-init c = scanned-none c.args.s.now c.args.from c.args.end c.args.before c.requires.from_le_end c.requires.before_bound

pub returns-then-not-is_ascii_digit : goal.returns-then-not-is_ascii_digit
unfolding digit within
returns-then-not-is_ascii_digit c =
    let l = c.loop-next in
    read-stop c.args.s.now c.args.from c.args.end c.args.before l.number l.scale l.next l.invariant (lt_of_lt_of_le c.loop-next-test.true c.requires.end_in_bounds) (sym c.if-not-is_ascii_digit.ensures.value)

pub overflow_mul-number : goal.overflow_mul-number
overflow_mul-number c =
    let l = c.loop-next in
    let h = room c.args.s.now c.args.from c.args.end c.args.before l.number l.scale l.next l.invariant c.loop-next-test.true c.requires.from_bound in
    omega arith

pub overflow_add-number : goal.overflow_add-number
overflow_add-number c =
    let l = c.loop-next in
    let h = room c.args.s.now c.args.from c.args.end c.args.before l.number l.scale l.next l.invariant c.loop-next-test.true c.requires.from_bound in
    omega (arith, c.from.ensures, c.if-not-is_ascii_digit.ensures.cases)

pub overflow_mul-scale : goal.overflow_mul-scale
overflow_mul-scale c =
    let l = c.loop-next in
    let h = scale-room c.args.s.now c.args.from c.args.end c.args.before l.number l.scale l.next l.invariant c.loop-next-test.true c.requires.from_bound in
    omega arith

pub loop-next-preserved : goal.loop-next-preserved
loop-next-preserved c =
    let l = c.loop-next in
    let d = c.if-not-is_ascii_digit.ensures.cases in
    rw c.from.ensures
    (scanned-more c.args.s.now c.args.from c.args.end c.args.before l.number l.scale l.next l.invariant c.loop-next-test.true c.requires.from_bound c.requires.end_in_bounds (omega (arith, d)) (omega (arith, d)))
