-- Demand 3 over the calls' own answers and the memory that they leave.
--
-- A call that ran is a record: what it was lent, what it answered, what it left, and its promise, which is the `ensures` of that call (sifc_promises has the
-- proof that it is). Demand 3 speaks of eight such records, whatever each of them was lent.
use Rattle.std.specs.Prelude.{ℕ, ◌≡◌, ◌↔◌, List}
use Rattle.std.proofs.Common.{sym, ap, ◌∙◌, subst}
use Rattle.sifc_def.specs.Answer.{Reading, Texting}
use Rattle.sifc_def.specs.Read.{Arrays, Called, called, reading, Written, written, text_call}
use Rattle.sifc_def.specs.Canon.Demand as definition
use Rattle.sifc_def.specs.Canon.Demand.{Fits, FitsText, FlagDown, SameTree, Writes, bytes_of, Lent, its_reading, its_text, canonical, next_reading, next_text}
use Rattle.sifc_def.proofs.Canon.Demand3.{demand3-definition}

-- ── calls that ran ──

-- what a reading call promises of the script and the arrays that it was lent, its answer, and the arrays that it left
abbrev pub ReadingPromise : List ℕ → Arrays → Reading → Arrays → Type 0
ReadingPromise s lent answer left = called answer left ≡ reading s lent

-- what a text call promises, with its buffer beside the arrays
abbrev pub TextPromise : List ℕ → Arrays → List ℕ → Texting → Arrays → List ℕ → Type 0
TextPromise s lent buffer answer left text = written answer left text ≡ text_call s lent buffer

-- a reading of the script s
pub record ReadingRan (s : List ℕ) : Type 0 where
  pub lent : Arrays
  pub answer : Reading
  pub left : Arrays
  pub promise : ReadingPromise s lent answer left

-- a text call on the script s
pub record TextRan (s : List ℕ) : Type 0 where
  pub lent : Arrays
  pub buffer : List ℕ
  pub answer : Texting
  pub left : Arrays
  pub text : List ℕ
  pub promise : TextPromise s lent buffer answer left text

-- what a reading answered and left
abbrev pub read_by : {s : List ℕ} → ReadingRan s → Called Reading
read_by r = called r.answer r.left

-- what a text call answered and left
abbrev pub written_by : {s : List ℕ} → TextRan s → Written
written_by w = written w.answer w.left w.text

-- "A canonical text is the bytes that the text call writes, as many as it answers; those alone are the script of the next reading."
abbrev pub canonical_of : {s : List ℕ} → TextRan s → List ℕ
canonical_of w = bytes_of (written_by w)

-- "for either script its reading and its text call, then the reading and the text call of its canonical text"
pub record Ran : Type 0 where
  pub script : List ℕ
  pub reads : ReadingRan script
  pub writes : TextRan script
  pub reads_again : ReadingRan (canonical_of writes)
  pub writes_again : TextRan (canonical_of writes)

-- the canonical text of the script
abbrev pub text_of : Ran → List ℕ
text_of x = canonical_of x.writes

-- ── demand 3 ──

-- "Premise: none of these calls meets a refusal for size or depth (1, 3, 4, 6 to 9 or 11 ..)": the four of a script
pub record AllFit (x : Ran) : Type 0 where
  pub reads : Fits x.reads.answer
  pub writes : FitsText x.writes.answer
  pub reads_again : Fits x.reads_again.answer
  pub writes_again : FitsText x.writes_again.answer

-- "reading its canonical text gives the same tree with the flag down, and the canonical text of that text is itself, byte for byte": of one script
pub record RoundTrip (x : Ran) : Type 0 where
  pub written : Writes (written_by x.writes) (text_of x)
  pub flag_down : FlagDown x.reads_again.answer
  pub same_tree : SameTree x.script (read_by x.reads) (text_of x) (read_by x.reads_again)
  pub itself : Writes (written_by x.writes_again) (text_of x)

-- "Their canonical texts are the same bytes exactly when their trees are the same"; and both round trips
pub record Demand3 (x y : Ran) : Type 0 where
  pub exactly_when : (text_of x ≡ text_of y) ↔ SameTree x.script (read_by x.reads) y.script (read_by y.reads)
  pub first_trip : RoundTrip x
  pub second_trip : RoundTrip y

-- ── from the definition's calls to those that ran ──

-- what the four calls of a script were lent
abbrev lent_of : Ran → Lent
lent_of x =
    record {
      script = x.script;
      arrays₁ = x.reads.lent;
      arrays₂ = x.writes.lent;
      buffer₂ = x.writes.buffer;
      arrays₃ = x.reads_again.lent;
      arrays₄ = x.writes_again.lent;
      buffer₄ = x.writes_again.buffer;
    }

module _ (x : Ran) where
  -- Each of the definition's four calls is the one that ran, by its promise; the canonical text is what that text call left.
  first-is : its_reading (lent_of x) ≡ read_by x.reads
  first-is = sym x.reads.promise

  second_is : its_text (lent_of x) ≡ written_by x.writes
  second_is = sym x.writes.promise

  text-is : canonical (lent_of x) ≡ text_of x
  text-is = ap bytes_of second_is

  third-is : next_reading (lent_of x) ≡ read_by x.reads_again
  third-is = ap (λ (t : List ℕ). reading t x.reads_again.lent) text-is ∙ sym x.reads_again.promise

  fourth-is : next_text (lent_of x) ≡ written_by x.writes_again
  fourth-is = ap (λ (t : List ℕ). text_call t x.writes_again.lent x.writes_again.buffer) text-is ∙ sym x.writes_again.promise

  -- Where the calls that ran met no refusal for size or depth, the definition's meet none.
  fits : AllFit x → definition.AllFit (lent_of x)
  fits h =
      record {
        reading = subst (λ (c : Called Reading). Fits c.answer) (sym first-is) h.reads;
        text = subst (λ (w : Written). FitsText w.answer) (sym second_is) h.writes;
        next = subst (λ (c : Called Reading). Fits c.answer) (sym third-is) h.reads_again;
        next_text = subst (λ (w : Written). FitsText w.answer) (sym fourth-is) h.writes_again;
      }

  -- A reading that answered the flag down is the definition's.
  down : FlagDown x.reads.answer → FlagDown (its_reading (lent_of x)).answer
  down h = subst (λ (c : Called Reading). FlagDown c.answer) (sym first-is) h

  -- The definition's round trip is that of the calls that ran.
  trip : definition.RoundTrip (lent_of x) → RoundTrip x
  trip h =
      record {
        written = subst (λ (w : Written). Writes w (bytes_of w)) second_is h.written;
        flag_down = subst (λ (c : Called Reading). FlagDown c.answer) third-is h.flag_down;
        same_tree =
            subst (λ (c : Called Reading). SameTree x.script (read_by x.reads) (text_of x) c) third-is
            (subst (λ (t : List ℕ). SameTree x.script (read_by x.reads) t (next_reading (lent_of x))) text-is
            (subst (λ (c : Called Reading). SameTree x.script c (canonical (lent_of x)) (next_reading (lent_of x))) first-is h.same_tree));
        itself = subst (λ (w : Written). Writes w (text_of x)) fourth-is (subst (λ (t : List ℕ). Writes (next_text (lent_of x)) t) text-is h.itself);
      }

-- So is what it says of two scripts.
restated : (x y : Ran) → definition.Demand3 (lent_of x) (lent_of y) → Demand3 x y
restated x y h =
    let there = h.exactly_when.0 in
    let back = h.exactly_when.1 in
    record {
      exactly_when = (
        λ e.
            subst (λ (c : Called Reading). SameTree x.script (read_by x.reads) y.script c) (first-is y)
            (subst (λ (c : Called Reading). SameTree x.script c y.script (its_reading (lent_of y))) (first-is x) (there (text-is x ∙ e ∙ sym (text-is y)))),
        λ m.
            sym (text-is x)
            ∙ back
            (subst (λ (c : Called Reading). SameTree x.script c y.script (its_reading (lent_of y))) (sym (first-is x))
            (subst (λ (c : Called Reading). SameTree x.script (read_by x.reads) y.script c) (sym (first-is y)) m))
            ∙ text-is y,
      );
      first_trip = trip x h.first_trip;
      second_trip = trip y h.second_trip;
    }

-- Demand 3, of the eight calls: take any two scripts whose first readings answer the flag down, whatever each call is lent; none of the eight calls answers a
-- refusal for size or depth. Then the canonical texts, which are the bytes that the text calls left, as many as they answered, are the same exactly when the
-- trees that the readings left are the same; and for each of the two, the reading of its canonical text leaves the same tree and answers the flag down, and the
-- text call on that text leaves that text.
pub demand3-calls : (x y : Ran) → FlagDown x.reads.answer → FlagDown y.reads.answer → AllFit x → AllFit y → Demand3 x y
demand3-calls x y d d' h h' = restated x y (demand3-definition (lent_of x) (lent_of y) (down x d) (down y d') (fits x h) (fits y h'))
