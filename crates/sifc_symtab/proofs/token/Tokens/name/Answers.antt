use mathlib.Core.Path.{sym, ◌∙◌, ap}
use mathlib.Core.List.{List}
use lib.ListN.{length, take, drop}
use Prim.Native.Nat.{ℕ, ◌-◌}
use Rattle.sifc_symtab.specs.Toks.{toks-past-offs, toks-past-words}
use Rattle.sifc_symtab.proofs.Names.{name-past, name-plain, name-quoted}
use Rattle.sifc_symtab.proofs.token.Tokens.name.Goals as goal

pub returns-then-self-i : goal.returns-then-self-i
returns-then-self-i c = c.part.ensures ∙ sym (name-past _ _ _ _ (toks-past-offs _ _ _ c.if-self-i.true))

pub returns-then-self-i-2 : goal.returns-then-self-i-2
returns-then-self-i-2 c = c.part-then-self-i-2.ensures ∙ sym (name-past _ _ _ _ (toks-past-words _ _ _ c.if-self-i-2.true))

pub returns-then-word-eq-STR : goal.returns-then-word-eq-STR
returns-then-word-eq-STR c = c.unquoted.ensures ∙ ap (λ (t : List ℕ). take (length t - 2) (drop 1 t)) c.part-text.ensures ∙ sym (name-quoted _ _ _ _ c.if-self-i.false c.if-self-i-2.false c.if-word-eq-STR.true)

pub returns : goal.returns
returns c = c.part-text.ensures ∙ sym (name-plain _ _ _ _ c.if-self-i.false c.if-self-i-2.false c.if-word-eq-STR.false)
