use Rattle.std.proofs.Common.{arith, refl}
use Rattle.sifc_err.specs.declared.parse_err.ParseErrTy.TheVariants.{ExpectedIdent}
use Rattle.sifc_step.proofs.Small.{named, paired}
use Rattle.sifc_step.proofs.Items.{builds-on}
use Rattle.sifc_declare.proofs.Ends.{named-beside, push-beside, name-builds, push-builds, past, named-amid, node-stops, node-refused, node-done, conveyed-any}
use Rattle.sifc_declare.proofs.ident.ident_node.Goals as goal

pub match_ident-requires : goal.match_ident-requires
match_ident-requires c = (c.requires.ready.stands, refl)

pub returns-in_err-i : goal.returns-in_err-i
returns-in_err-i c =
    let d = c.in_err-i.ensures in
    conveyed-any (record {
      does = node-stops (named ExpectedIdent d refl);
      alone = name-builds d;
      whatever = λ s ys. node-stops (named-beside s ys ExpectedIdent d refl);
    }) c.from_residual.ensures

pub overflow_cast-i : goal.overflow_cast-i
overflow_cast-i c = omega (arith, named-amid ExpectedIdent c.requires c.in_ok-i.ensures refl, c.requires.ready.stands.here, c.requires.ready.stands.toks.few)

pub push_node-requires : goal.push_node-requires
push_node-requires c = paired (past c.requires.ready (named-beside c.requires.script c.requires.symbols ExpectedIdent c.in_ok-i.ensures refl))

pub returns-in_err-push_node : goal.returns-in_err-push_node
returns-in_err-push_node c =
    let d = c.in_ok-i.ensures in
    let e = c.in_err-push_node.ensures in
    conveyed-any (record {
      does = node-refused (named ExpectedIdent d refl) e.does;
      alone = builds-on c.args.p.now c.match_ident.new.self c.push_node.new.self (name-builds d) (push-builds e);
      whatever = λ s ys. node-refused (named-beside s ys ExpectedIdent d refl) (push-beside s ys e);
    }) c.from_residual-in_err-push_node.ensures

pub returns : goal.returns
returns c =
    let d = c.in_ok-i.ensures in
    let e = c.in_ok-push_node.ensures in
    record {
      does = node-done (named ExpectedIdent d refl) e.does;
      alone = builds-on c.args.p.now c.match_ident.new.self c.push_node.new.self (name-builds d) (push-builds e);
      whatever = λ s ys. node-done (named-beside s ys ExpectedIdent d refl) (push-beside s ys e);
    }
