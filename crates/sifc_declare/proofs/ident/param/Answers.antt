use Rattle.std.proofs.Common.{arith}
use Rattle.sifc_declare.proofs.Ends.{param-done, param-stops, node-next, conveyed-any}
use Rattle.sifc_declare.proofs.ident.param.Goals as goal

pub returns-in_err-ident_node-clause-does : goal.returns-in_err-ident_node-clause-does
returns-in_err-ident_node-clause-does c =
    let d = c.in_err-ident_node.ensures in
    conveyed-any (record { does = param-stops d.does; alone = d.alone; whatever = λ s ys. param-stops (d.whatever s ys) }) c.from_residual.ensures

pub returns-clause-does : goal.returns-clause-does
returns-clause-does c =
    let d = c.in_ok-ident_node.ensures in
    record { does = param-done d.does; alone = d.alone; whatever = λ s ys. param-done (d.whatever s ys) }

pub returns-clause-more : goal.returns-clause-more
returns-clause-more c =
    let next = node-next c.requires.ready (c.in_ok-ident_node.ensures.whatever c.requires.script c.requires.symbols) in
    (omega (arith, next.at), omega (arith, next.nodes))
