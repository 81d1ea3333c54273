use Rattle.std.specs.Prelude.{refl, false, ◌≡◌}
use Rattle.sifc_def.specs.State.{push}
use Rattle.sifc_def.specs.Walk.{end_read}
use Rattle.sifc_step.specs.Abs.{walk_of}
use Rattle.sifc_step.specs.Book.{last_of, walk_in}
use Rattle.sifc_step.proofs.Steps.{begin, go, refused, fin}
use Rattle.sifc_step.proofs.Small.{pushed-as}
use Rattle.sifc_program.proofs.Programs.{ended-stops}
use Rattle.sifc_program.proofs.program.end_read.Goals as goal

pub returns-in_err-push_node : goal.returns-in_err-push_node
unfolding end_read
returns-in_err-push_node c =
    let p0 = begin 0 (λ x. end_read x c.args.n c.args.flag (last_of c.args.last)) c.requires.0 in
    ended-stops c.from_residual.result (λ w. walk_in w ≡ walk_of c.push_node.new.self) (refused (λ x. push x 1 false c.args.n 0) _ (λ x. end_read x c.args.n c.args.flag (last_of c.args.last)) p0 (pushed-as 0 c.head_word.ensures c.in_err-push_node.ensures.does) refl) c.from_residual.ensures

pub returns : goal.returns
unfolding end_read
returns c =
    let p0 = begin 0 (λ x. end_read x c.args.n c.args.flag (last_of c.args.last)) c.requires.0 in
    (fin (λ x. end_read x c.args.n c.args.flag (last_of c.args.last)) (go (λ x. push x 1 false c.args.n 0) _ p0 (pushed-as 0 c.head_word.ensures c.in_ok-push_node.ensures.does)), refl)
