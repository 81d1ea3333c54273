use Rattle.std.proofs.Common.{◌∙◌, sym, rules, refl}
use borrow.Rule.Slice.PartAt.{part_to_end}
use Rattle.sifc_lex.proofs.Runs.{turn_end, turn-white, turn-hash, turn-slash, turn-str, turn-num, turn-ident, turn-sign}
use Rattle.sifc_lex.proofs.lex.next_step.Goals as goal

pub returns-in-empty : goal.returns-in-empty
returns-in-empty c = turn_end c.args.left.now c.in-empty.len_below

pub returns-in-35 : goal.returns-in-35
returns-in-35 c = (rw (part_to_end c.args.left.now 1) at c.hash_comment.ensures) ∙ turn-hash c.args.left.now _ c.in-35.len_at_least refl (search rules)

pub returns-in-47 : goal.returns-in-47
returns-in-47 c = (rw (part_to_end c.args.left.now 1) at c.lex_slash.ensures) ∙ turn-slash c.args.left.now _ c.in-47.len_at_least refl (search rules)

pub returns-in-34 : goal.returns-in-34
returns-in-34 c = (rw (part_to_end c.args.left.now 1) at c.lex_str.ensures) ∙ turn-str c.args.left.now _ c.in-34.len_at_least refl (search rules)

pub returns-in-len1-up : goal.returns-in-len1-up
returns-in-len1-up c = turn-white c.args.left.now _ c.in-len1-up.len_at_least refl (sym c.is_white.ensures ∙ c.if-is_white.true)

pub returns-in-len1-up-2 : goal.returns-in-len1-up-2
returns-in-len1-up-2 c =
    (rw (part_to_end c.args.left.now 1) at c.lex_num.ensures) ∙ turn-num c.args.left.now _ c.in-len1-up.len_at_least refl (λ x. search rules, λ x. search rules, λ x. search rules, sym c.is_white.ensures ∙ c.if-is_white.false) (sym c.is_digit.ensures ∙ c.if-is_digit.true)

pub returns-in-len1-up-3 : goal.returns-in-len1-up-3
returns-in-len1-up-3 c =
    c.lex_ident.ensures ∙ turn-ident c.args.left.now _ c.in-len1-up.len_at_least refl (λ x. search rules, λ x. search rules, λ x. search rules, sym c.is_white.ensures ∙ c.if-is_white.false) (sym c.is_digit.ensures ∙ c.if-is_digit.false) (sym c.is_letter.ensures ∙ c.if-is_letter.true)

pub returns-in-len1-up-4 : goal.returns-in-len1-up-4
returns-in-len1-up-4 c =
    (rw (part_to_end c.args.left.now 1) at c.lex_sign.ensures) ∙ turn-sign c.args.left.now _ c.in-len1-up.len_at_least refl (λ x. search rules, λ x. search rules, λ x. search rules, sym c.is_white.ensures ∙ c.if-is_white.false) (sym c.is_digit.ensures ∙ c.if-is_digit.false) (sym c.is_letter.ensures ∙ c.if-is_letter.false)
