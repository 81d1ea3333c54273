use Rattle.std.proofs.Common.{ℕ, ◌≡◌, ◌+◌, ◌*◌, ◌%◌, refl, sym, ap, ◌∙◌, arith, get_or, drop, length, ◌≤◌}
use Rattle.sif_show.specs.Entries.{number, number_in, number_at}
use Rattle.sif_show.specs.EntryLaws.{goes_on, goes-none, goes-full, number_more, number-stop, number-end}
use Rattle.sif_show.proofs.entries.number_at.Goals as goal
use Rattle.sif_show.proofs.entries.number_at.Goals.{then-not-is_ascii_digit-via-then-not-is_ascii_digit, then-not-is_ascii_digit-via-else-not-is_ascii_digit+then-value-gt9999}

pub loop-i-init : goal.loop-i-init
unfolding number_at
loop-i-init c = (omega arith, λ h. refl, refl)

pub returns-then-not-is_ascii_digit : goal.returns-then-not-is_ascii_digit
returns-then-not-is_ascii_digit c =
    let l = c.loop-i in
    let list = c.args.list.now in
    elim c.then-not-is_ascii_digit.branch [
      | then-not-is_ascii_digit-via-then-not-is_ascii_digit w ↦ sym (l.invariant.2 ∙ number-stop list l.value l.i c.loop-i-test.true (goes-none l.value (get_or list l.i 0) (sym w.if-not-is_ascii_digit.ensures.value)))
      | then-not-is_ascii_digit-via-else-not-is_ascii_digit+then-value-gt9999 w ↦ sym (l.invariant.2 ∙ number-stop list l.value l.i c.loop-i-test.true (goes-full l.value (get_or list l.i 0) (omega arith)))
    ]

pub loop-i-preserved : goal.loop-i-preserved
loop-i-preserved c =
    let l = c.loop-i in
    let list = c.args.list.now in
    let range = c.if-not-is_ascii_digit.ensures.cases in
    let b : ℕ = get_or list l.i 0 in
    let d : c.from.result ≡ b % 16 = omega (arith, c.from.ensures, range) in
    let more = number_more list l.value l.i c.loop-i-test.true (goes_on l.value b (omega (arith, range)) (omega (arith, range)) (omega arith)) in
    (omega (arith, d), λ h. omega arith, l.invariant.2 ∙ more ∙ ap (λ (x : ℕ). number_in (l.value * 10 + x) (l.i + 1) (drop (l.i + 1) list)) (sym d))

pub returns : goal.returns
returns c =
    let l = c.loop-i in
    let list = c.args.list.now in
    let stop : length list ≤ l.i = c.loop-i-test.false in
    let past = l.invariant.1 in
    let i : c.max.result ≡ l.i = grind arith in
    ap (number l.value) i ∙ sym (l.invariant.2 ∙ number-end list l.value l.i stop)
