-- What the tests of entry let pass.
use Rattle.std.specs.Prelude.{ℕ, ◌<◌, ◌≡◌, refl, List, [], Bool, ◌&&◌, ltb, length, Ok, Err}
use Rattle.std.proofs.Common.{arith, sym, ◌∙◌}
use Rattle.std.proofs.Math.Bool.{true, false}
use borrow.Author.Tests.{ltb-false, eqb-true}
use Rattle.std.proofs.Math.Dec.{eqb}
use Rattle.sifc_err.specs.declared.Refusal.{Refusal}
use Rattle.sifc_err.specs.declared.Refusal.TheVariants.{LongScript, NotAscii, Uneven}
use Rattle.sifc_word.specs.Base.{if◌then◌otherwise◌, span}
use Rattle.sifc_lex.specs.Lex.{ascii}
use Rattle.sifc_tokens.specs.Tokens.{Checked, passed, check_of}
use Rattle.sifc_def.specs.Read.{Arrays, even, entry}
use Rattle.sifc_lent.specs.Parts.{arrays, Entered}

-- A refusal is none.
never-refused : {X : Type 0} (f : Refusal) → Err f ≡ passed → X
never-refused f p = absurd (let z : ◌≡◌ {A = ℕ} 0 1 = cc in let y : ⊥ = omega arith in y)

-- the tests of the script, by their results
abbrev check_by : Bool → Bool → List ℕ → Checked
check_by q p s = if q then Err LongScript otherwise if p then Err (NotAscii (span ascii s)) otherwise passed

-- A script that passes is short.
check-short : (s : List ℕ) → check_of s ≡ passed → length s < 65536
unfolding check_of if◌then◌otherwise◌
check-short s e = go (ltb 65535 (length s)) (ltb (span ascii s) (length s)) refl e
  where
    go : (q p : Bool) → ltb 65535 (length s) ≡ q → check_by q p s ≡ passed → length s < 65536
    go true p t d = never-refused LongScript d
    go false true t d = never-refused (NotAscii (span ascii s)) d
    go false false t d = omega (arith, ltb-false 65535 (length s) t)

-- Both tests pass.
both : (p q : Bool) → p && q ≡ true → (p ≡ true) × (q ≡ true)
both true q e = (refl, e)
both false q e = (let z : ◌≡◌ {A = Bool} false true = e in z, absurd (let z : ◌≡◌ {A = ℕ} 0 1 = cc in let y : ⊥ = omega arith in y))

module _ (s : List ℕ) (a : Arrays) where
  -- Arrays of one length each, and a short script.
  entry-even : even a ≡ true → length s < 65536 → Entered s a
  unfolding even
  entry-even e h =
      let x = both (eqb (length a.offs) (length a.words)) (eqb (length a.heads) (length a.loads) && eqb (length a.places) (length a.reasons)) e in
      let z = both (eqb (length a.heads) (length a.loads)) (eqb (length a.places) (length a.reasons)) x.1 in
      record { short = h; tokens = eqb-true (length a.offs) (length a.words) x.0; nodes = eqb-true (length a.heads) (length a.loads) z.0; errors = eqb-true (length a.places) (length a.reasons) z.1 }

  -- The script passes, and so do the arrays.
  entry-both : entry s a ≡ passed → (check_of s ≡ passed) × (even a ≡ true)
  unfolding entry if◌then◌otherwise◌
  entry-both e = go (check_of s) (even a) e
    where
      go : (k : Checked) (b : Bool) → (elim k as (λ z. Checked) [ Err r ↦ Err r | Ok _ ↦ if b then passed otherwise Err Uneven ]) ≡ passed → (k ≡ passed) × (b ≡ true)
      go (Err f) b d = never-refused f d
      go (Ok _) true d = (refl, refl)
      go (Ok _) false d = never-refused Uneven d

  -- The tests of entry let this pass.
  pub entered-is : entry s a ≡ passed → Entered s a
  entered-is e = entry-even (entry-both e).1 (check-short s (entry-both e).0)

-- the tests of entry look at no symbol word
pub entry-same : (s o w h l y p r : List ℕ) → entry s (arrays o w h l [] p r) ≡ entry s (arrays o w h l y p r)
unfolding entry even
entry-same s o w h l y p r = refl

-- so what they let pass is entered, whatever the symbol words are
pub entered : (s o w h l y p r : List ℕ) (k : Checked) → k ≡ entry s (arrays o w h l [] p r) → k ≡ passed → Entered s (arrays o w h l y p r)
entered s o w h l y p r k e f = entered-is s (arrays o w h l y p r) (sym (entry-same s o w h l y p r) ∙ sym e ∙ f)
