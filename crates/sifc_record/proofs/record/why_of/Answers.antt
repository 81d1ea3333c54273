use mathlib.Core.Path.{refl, ◌∙◌}
use borrow.Author.Tests.{ne_eqb}
use Rattle.sifc_word.specs.Base.{if◌then◌otherwise◌}
use Rattle.sifc_record.specs.Record.{why_by}
use Rattle.sifc_record.proofs.Made.{why-at}
use Rattle.sifc_record.proofs.record.why_of.Goals as goal

pub returns-in-1 : goal.returns-in-1
unfolding why_by if◌then◌otherwise◌
returns-in-1 c = why-at _ 1 _ _ c.in-1.is refl refl

pub returns-in-2 : goal.returns-in-2
unfolding why_by if◌then◌otherwise◌
returns-in-2 c = c.invalid_tkn.ensures ∙ why-at _ 2 _ _ c.in-2.is refl refl

pub returns-in-3 : goal.returns-in-3
unfolding why_by if◌then◌otherwise◌
returns-in-3 c = why-at _ 3 _ _ c.in-3.is refl refl

pub returns-in-4 : goal.returns-in-4
unfolding why_by if◌then◌otherwise◌
returns-in-4 c = why-at _ 4 _ _ c.in-4.is refl refl

pub returns-in-5 : goal.returns-in-5
unfolding why_by if◌then◌otherwise◌
returns-in-5 c = why-at _ 5 _ _ c.in-5.is refl refl

pub returns-in-6 : goal.returns-in-6
unfolding why_by if◌then◌otherwise◌
returns-in-6 c = why-at _ 6 _ _ c.in-6.is refl refl

pub returns-in-7 : goal.returns-in-7
unfolding why_by if◌then◌otherwise◌
returns-in-7 c = why-at _ 7 _ _ c.in-7.is refl refl

pub returns-in-8 : goal.returns-in-8
unfolding why_by if◌then◌otherwise◌
returns-in-8 c = why-at _ 8 _ _ c.in-8.is refl refl

pub returns-in-9 : goal.returns-in-9
unfolding why_by if◌then◌otherwise◌
returns-in-9 c = why-at _ 9 _ _ c.in-9.is refl refl

pub returns-in-10 : goal.returns-in-10
unfolding why_by if◌then◌otherwise◌
returns-in-10 c = why-at _ 10 _ _ c.in-10.is refl refl

pub returns-in_default : goal.returns-in_default
unfolding why_by if◌then◌otherwise◌
returns-in_default c = simp (ne_eqb _ 1 c.in_default.in_default-own.rest.0.0.0.0.0.0.0.0.0.1, ne_eqb _ 2 c.in_default.in_default-own.rest.0.0.0.0.0.0.0.0.1, ne_eqb _ 3 c.in_default.in_default-own.rest.0.0.0.0.0.0.0.1, ne_eqb _ 4 c.in_default.in_default-own.rest.0.0.0.0.0.0.1, ne_eqb _ 5 c.in_default.in_default-own.rest.0.0.0.0.0.1, ne_eqb _ 6 c.in_default.in_default-own.rest.0.0.0.0.1, ne_eqb _ 7 c.in_default.in_default-own.rest.0.0.0.1, ne_eqb _ 8 c.in_default.in_default-own.rest.0.0.1, ne_eqb _ 9 c.in_default.in_default-own.rest.0.1, ne_eqb _ 10 c.in_default.in_default-own.rest.1) refl
