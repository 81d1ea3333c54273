use Rattle.std.proofs.Common.{ap, ◌∙◌}
use Rattle.sifc_step.specs.declared.walk.Parser.{Parser}
use Rattle.sifc_block.proofs.Blocks.{plus-two, paired-still, if-stops, if-stopped, if-ends, if-ended}
use Rattle.sifc_block.proofs.Steps.{conveyed}
use Rattle.sifc_block.proofs.book.end_if.Goals as goal

pub returns-in_err-second_else : goal.returns-in_err-second_else
returns-in_err-second_else c =
    let e = c.in_err-second_else.ensures in
    record {
      does = conveyed (if-stops c.args.n c.args.elses e.does) c.from_residual.ensures;
      alone = ap (λ (y : Parser). y.symbols) e.alone;
      whatever = λ s os ks ys. conveyed (if-stopped c.args.n c.args.elses e s os ks ys) c.from_residual.ensures;
    }

pub push_node-requires : goal.push_node-requires
push_node-requires c = paired-still c.args.p.now c.second_else.new.p c.in_ok-second_else.ensures.alone c.requires.0

pub returns-in_err-push_node : goal.returns-in_err-push_node
returns-in_err-push_node c =
    let e = c.in_ok-second_else.ensures in
    let d = c.in_err-push_node.ensures in
    let h = plus-two _ c.head_word.ensures in
    record {
      does = conveyed (if-ends c.args.n c.args.elses h e.does d.does) c.from_residual-in_err-push_node.ensures;
      alone = ap (λ (y : Parser). y.symbols) d.alone ∙ ap (λ (y : Parser). y.symbols) e.alone;
      whatever = λ s os ks ys. conveyed (if-ended c.args.n c.args.elses h e d s os ks ys) c.from_residual-in_err-push_node.ensures;
    }

pub returns : goal.returns
returns c =
    let e = c.in_ok-second_else.ensures in
    let d = c.in_ok-push_node.ensures in
    let h = plus-two _ c.head_word.ensures in
    record {
      does = if-ends c.args.n c.args.elses h e.does d.does;
      alone = ap (λ (y : Parser). y.symbols) d.alone ∙ ap (λ (y : Parser). y.symbols) e.alone;
      whatever = λ s os ks ys. if-ended c.args.n c.args.elses h e d s os ks ys;
    }
