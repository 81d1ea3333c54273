-- What the proofs of the call on words and of the tests of entry cite.
use Rattle.std.specs.Prelude.{Err, Ok}
use Prim.Native.Nat.{ℕ}
use mathlib.Core.Path.{◌≡◌, refl, sym, ap, ap₂, ◌∙◌}
use mathlib.Core.List.{List, []}
use borrow.Author.Tests.{eq-eqb, ne_eqb}
use lib.Dec.{eqb}
use lib.ListN.{length}
use Rattle.sifc_tokens.specs.Tokens.{Checked, passed}
use Rattle.sifc_err.specs.declared.Refusal.{Refusal}
use Rattle.sifc_err.specs.declared.Refusal.TheVariants.{Uneven}
use Rattle.sifc_word.specs.Base.{if◌then◌otherwise◌}
use Rattle.sifc_def.specs.Answer.{Reading}
use Rattle.sifc_def.specs.Read.{Arrays, called, rooms_of, entry, even, read, answered}
use Rattle.sifc_lent.specs.Parts.{arrays, Entered}
use Rattle.sifc_lent.proofs.EntryLaws.{entered-is}
use Rattle.sifc_records.specs.declared.call.Told.{Told}
use Rattle.sifc_records.specs.Records.{entry_records}
use Rattle.sifc_records.proofs.RecordLaws.{entry_by, entry-by, entry_of}
use Rattle.sifc_records.specs.Words.{told, told_of, Kept, kept, kept_of, read_words}
use Rattle.sifc_tokens.specs.Tokens.{passed, Checked}

-- ── the tests of entry ──

module _ (s : List ℕ) (a : Arrays) (n : ℕ) {k : Checked} (e : k ≡ entry s a) where
  -- the tests pass
  pub all_pass : k ≡ passed → length a.places ≡ n → passed ≡ entry_records s a n
  unfolding if◌then◌otherwise◌
  all_pass f l = sym (ap₂ entry_by (sym e ∙ f) (eq-eqb (length a.places) n l)) ∙ entry-by s a n

  -- another number of records is refusal 3
  pub uneven : k ≡ passed → (length a.places ≡ n → ⊥) → Err Uneven ≡ entry_records s a n
  unfolding if◌then◌otherwise◌
  uneven f l = sym (ap₂ entry_by (sym e ∙ f) (ne_eqb (length a.places) n l)) ∙ entry-by s a n

  -- a refusal of the call on words stays
  pub not-passed : (f : Refusal) → k ≡ Err f → Err f ≡ entry_records s a n
  not-passed f g = sym (ap (λ (x : Checked). entry_by x (eqb (length a.places) n)) (sym e ∙ g)) ∙ entry-by s a n

-- the tests look at no symbol word
pub entry-same : (s o w h l y p r : List ℕ) (n : ℕ) → entry_records s (arrays o w h l [] p r) n ≡ entry_records s (arrays o w h l y p r) n
unfolding entry_records entry even
entry-same s o w h l y p r n = refl

-- ── the call on words ──

-- by the tests of entry
abbrev pub read_by : List ℕ → Arrays → ℕ → Checked → Kept
read_by s a n k = elim k [ Err r ↦ kept (told (Err r) 0 0 n) a | Ok _ ↦ kept_of (answered s a (read (rooms_of a) s)) ]

-- it is the definition's
pub read-by : (s : List ℕ) (a : Arrays) (n : ℕ) → read_by s a n (entry_records s a n) ≡ read_words s a n
unfolding read_words
read-by s a n = refl

module _ (s : List ℕ) (a : Arrays) (n : ℕ) {k : Checked} (e : k ≡ entry_records s a n) where
  pub entered : k ≡ passed → Entered s a
  entered f = entered-is s a (entry_of s a n (sym e ∙ f)).0

  -- where they pass, the call on words goes on
  pub read-on : {x : Reading} {t : Told} {b : Arrays} → k ≡ passed → t ≡ told_of x → called x b ≡ answered s a (read (rooms_of a) s) → kept t b ≡ read_words s a n
  read-on {x} {t} {b} f g d = ap (λ (z : Told). kept z b) g ∙ ap kept_of d ∙ sym (ap (read_by s a n) (sym e ∙ f)) ∙ read-by s a n

  -- where they do not, nothing is touched
  pub read-not : (f : Refusal) → k ≡ Err f → kept (told (Err f) 0 0 n) a ≡ read_words s a n
  read-not f g = sym (ap (read_by s a n) (sym e ∙ g)) ∙ read-by s a n
