use Rattle.std.proofs.Common.{◌≡◌, rules}
use Rattle.sifc_tokens.specs.Loaded.{used_by}
use Rattle.sifc_tokens.proofs.Calls.{used-offs, used-words, loaded-call}
use Rattle.sifc_tokens.proofs.call.lex_tokens.Goals as goal

pub clear_from-requires : goal.clear_from-requires
clear_from-requires c =
    let u : c.map_or-used.result ≡ used_by c.lex_all-lexed.result = search rules in
    rw u (used-offs c.args.script.now c.args.offs.now c.args.words.now _ _ c.lex_all-lexed.result c.lex_all-lexed.ensures)

pub clear_from-requires-2 : goal.clear_from-requires-2
clear_from-requires-2 c =
    let u : c.map_or-used.result ≡ used_by c.lex_all-lexed.result = search rules in
    rw u (used-words c.args.script.now c.args.offs.now c.args.words.now _ _ c.lex_all-lexed.result c.lex_all-lexed.ensures)

pub returns : goal.returns
returns c =
    let u : c.map_or-used.result ≡ used_by c.lex_all-lexed.result = search rules in
    loaded-call c.args.script.now c.args.offs.now c.args.words.now _ _ c.lex_all-lexed.result c.lex_all-lexed.ensures _ _ (rw u at c.clear_from.ensures) (rw u at c.clear_from-2.ensures)
