use Rattle.std.proofs.Common.{rules}
use Rattle.sifc_text_plain.specs.Kinds.{item_l}
use Rattle.sifc_put.proofs.Items.{items-at, items-written}
use Rattle.sifc_text_plain.proofs.plain.items.Goals as goal

pub list-requires : goal.list-requires
list-requires c = items-at {K = item_l} c.requires (record { ready = λ p g z. search rules; writes = λ p q r z d. search rules })

pub returns : goal.returns
returns c = items-written {K = item_l} c.requires (record { ready = λ p g z. search rules; writes = λ p q r z d. search rules }) c.list.ensures
