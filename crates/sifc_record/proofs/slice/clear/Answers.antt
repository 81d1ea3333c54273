use Rattle.std.proofs.Common.{◌-◌, ◌++◌, length, take, replicate, ap, ◌∙◌}
use Rattle.sifc_err.specs.declared.parse_err.ParseErr.{ParseErr}
use Rattle.sifc_lent.proofs.Fronts.{fill_tail}
use Rattle.sifc_record.specs.Record.{blank_from}
use Rattle.sifc_record.proofs.slice.clear.Goals as goal

pub returns : goal.returns
unfolding blank_from
returns c =
    fill_tail c.args.from c.args.errors.now _ c.blank.result c.requires (c.fill.ensures.after (λ y e. e))
    ∙ ap (λ (e : ParseErr). take c.args.from c.args.errors.now ++ replicate (length c.args.errors.now - c.args.from) e) c.blank.ensures
