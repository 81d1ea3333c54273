use Rattle.std.proofs.Common.{◌≡◌, ◌≤◌, ◌<◌, length, get_or, take, drop, ◌-◌, rules}
use borrow.Rule.Slice.PartAt.{part_to_end}
use Rattle.sifc_lex.specs.Lex.{digit}
use Rattle.sifc_lex.proofs.Runs.{num-none, num-whole, num-more, num-fault}
use Rattle.sifc_lex.proofs.lex.lex_num.Goals as goal
use Rattle.sifc_lex.proofs.lex.lex_num.Goals.{in_default-via-then-rest-whole-lt1, in_default-via-else-rest-whole-lt1+in_default-1}

pub returns-in_default : goal.returns-in_default
returns-in_default c =
    let w = c.run-whole.ensures.run digit (λ b r h p. search rules) in
    let d = part_to_end c.args.rest.now c.run-whole.result in
    elim c.in_default.branch [
      | in_default-via-then-rest-whole-lt1 b ↦ num-none c.args.rest.now c.run-whole.result w (rw d at (let z : length (take (length c.args.rest.now - c.run-whole.result) (drop c.run-whole.result c.args.rest.now)) < 1 = search rules in z))
      | in_default-via-else-rest-whole-lt1+in_default-1 b ↦ num-whole c.args.rest.now c.run-whole.result w (rw d at (let z : 1 ≤ length (take (length c.args.rest.now - c.run-whole.result) (drop c.run-whole.result c.args.rest.now)) = search rules in z)) (rw d at (let z : get_or (take (length c.args.rest.now - c.run-whole.result) (drop c.run-whole.result c.args.rest.now)) 0 0 ≡ 46 → ⊥ = λ e. search rules in z))
    ]

pub returns-then-n-after : goal.returns-then-n-after
returns-then-n-after c =
    let w = c.run-whole.ensures.run digit (λ b r h p. search rules) in
    let d = part_to_end c.args.rest.now c.run-whole.result in
    let n = c.run-n.ensures.run digit (λ b r h p. search rules) in
    num-more c.args.rest.now c.run-whole.result c.run-n.result w (rw d at c.in-46.len_at_least) (rw d at (let z : get_or (take (length c.args.rest.now - c.run-whole.result) (drop c.run-whole.result c.args.rest.now)) 0 0 ≡ 46 = search rules in z)) (rw (d, part_to_end (drop c.run-whole.result c.args.rest.now) 1) at n) (rw (d, part_to_end (drop c.run-whole.result c.args.rest.now) 1) at c.if-n-after.true)

pub returns : goal.returns
returns c =
    let w = c.run-whole.ensures.run digit (λ b r h p. search rules) in
    let d = part_to_end c.args.rest.now c.run-whole.result in
    let n = c.run-n.ensures.run digit (λ b r h p. search rules) in
    num-fault c.args.rest.now c.run-whole.result c.run-n.result w (rw d at c.in-46.len_at_least) (rw d at (let z : get_or (take (length c.args.rest.now - c.run-whole.result) (drop c.run-whole.result c.args.rest.now)) 0 0 ≡ 46 = search rules in z)) (rw (d, part_to_end (drop c.run-whole.result c.args.rest.now) 1) at n) (rw (d, part_to_end (drop c.run-whole.result c.args.rest.now) 1) at c.if-n-after.false)
