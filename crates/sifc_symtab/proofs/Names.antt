-- The name of a token out of the two arrays, by where its index stands and by its kind.
use Prim.Native.Nat.{ℕ, ◌-◌, ◌/◌, ◌%◌, ◌<◌}
use mathlib.Core.Path.{◌≡◌, refl, ap, ◌∙◌}
use mathlib.Core.List.{List, []}
use borrow.Author.Tests.{eq-eqb, ne_eqb}
use lib.ListN.{length, take, drop, get_or}
use Rattle.sifc_err.specs.declared.Token.{Token}
use Rattle.sifc_word.specs.Base.{if◌then◌otherwise◌, part}
use Rattle.sifc_word.specs.Kind.{Eof}
use Rattle.sifc_lex.specs.Lex.{token}
use Rattle.sifc_def.specs.State.{name_of, word_in, token_at}
use Rattle.sifc_symtab.specs.Toks.{toks_of, toks-at}
use Rattle.sifc_symtab.specs.Table.{name_in}

by_token : (script offs words : List ℕ) (i : ℕ) (t : Token) → token_at (toks_of offs words) i ≡ t → name_in script offs words i ≡ name_of (word_in script t)
by_token script offs words i t e = ap (λ (x : Token). name_of (word_in script x)) e

pub name-past : (script offs words : List ℕ) (i : ℕ) → token_at (toks_of offs words) i ≡ token Eof 0 0 → name_in script offs words i ≡ []
unfolding name_of if◌then◌otherwise◌
name-past script offs words i e = by_token script offs words i (token Eof 0 0) e

module _ (script offs words : List ℕ) (i : ℕ) (h : i < length offs) (k : i < length words) where
  abbrev pub text_at : List ℕ
  text_at = part (get_or offs i 0) (get_or words i 0 / 64) script

  pub name-quoted : get_or words i 0 % 64 ≡ 32 → name_in script offs words i ≡ take (length text_at - 2) (drop 1 text_at)
  unfolding name_of if◌then◌otherwise◌
  name-quoted e = by_token script offs words i _ (toks-at offs words i h k) ∙ rw (eq-eqb (get_or words i 0 % 64) 32 e) refl

  pub name-plain : (get_or words i 0 % 64 ≡ 32 → ⊥) → name_in script offs words i ≡ text_at
  unfolding name_of if◌then◌otherwise◌
  name-plain n = by_token script offs words i _ (toks-at offs words i h k) ∙ rw (ne_eqb (get_or words i 0 % 64) 32 n) refl
