-- The reading call behind the tests of entry, out of what lexing and the walk gave.
use Rattle.std.specs.Prelude.{Err, Ok, Result}
use Prim.Native.Nat.{ℕ, ◌≤◌, ◌<◌}
use mathlib.Core.Path.{◌≡◌, refl, sym, ap, ◌∙◌, subst}
use mathlib.Core.List.{List}
use mathlib.Core.Bool.{Bool, true, false}
use native.Mathlib.Omega.{arith}
use borrow.Author.Tests.{lt-ltb, ltb-true, ltb-false}
use lib.Dec.{ltb}
use lib.ListN.{length, take, length-replicate}
use Rattle.sifc_err.specs.declared.Ending.{Ending}
use Rattle.sifc_err.specs.declared.Refusal.{Refusal}
use Rattle.sifc_err.specs.declared.Refusal.TheVariants.{TokensFull}
use Rattle.sifc_lex.specs.declared.lex.Ended.{Ended}
use Rattle.sifc_word.specs.Base.{if◌then◌otherwise◌}
use Rattle.sifc_lex.specs.Lex.{lex, ending, end_at}
use Rattle.sifc_tokens.specs.Tokens.{Checked, passed, ended_with, offs_of, words_of, padded, zeroed, LexCall, lex_called, lex_call}
use Rattle.sifc_tokens.specs.Loaded.{Used}
use Rattle.sifc_tokens.proofs.TokensLaws.{zeroed-used}
use Rattle.sifc_def.specs.Answer.{Reading}
use Rattle.sifc_def.specs.Read.{Arrays, rooms_of, cleared_arrays, entry, refused, fault_of, read, Called, called, answered, reading as reading_of}
use Rattle.sifc_step.specs.declared.walk.Walked.{Walked}
use Rattle.sifc_step.specs.Abs.{Tokens, inp, mem}
use Rattle.sifc_step.specs.Book.{Walks}
use Rattle.sifc_lent.specs.Parts.{arrays, Entered, Fits, finish_of}
use Rattle.sifc_program.specs.Program.{Starts}
use Rattle.sifc_lent.proofs.LexedLaws.{lexed-tokens}
use Rattle.sifc_lent.proofs.PartLaws.{Held, used-offs, used-words, used-toks, same-arrays, fits-is, finish-is}

-- ── lexing ──

never : {X : Type 0} (f : Refusal) (e : Ended) → ◌≡◌ {A = Result Ended Refusal} (Err f) (Ok e) → X
never f e p = absurd (let z : ⊥ = cc in z)

-- what lexing leaves where the tokens fit
pub record Loaded (s o w : List ℕ) (n : ℕ) (e : Ending) (o' w' : List ℕ) : Type 0 where
  pub fits : length (lex s) ≤ length o
  pub count : n ≡ length (lex s)
  pub ends : e ≡ ending s
  pub offs : o' ≡ padded (offs_of (lex s)) (length o)
  pub words : w' ≡ padded (words_of (lex s)) (length w)

-- and where they do not
pub record Over (s o w o' w' : List ℕ) : Type 0 where
  pub over : length o < length (lex s)
  pub offs : o' ≡ zeroed o
  pub words : w' ≡ zeroed w

abbrev lex_call_by : Bool → List ℕ → List ℕ → List ℕ → LexCall
lex_call_by b s o w =
    if b then lex_called (Err TokensFull) (zeroed o) (zeroed w)
    otherwise lex_called (Ok (ended_with (length (lex s)) (ending s) (end_at s))) (padded (offs_of (lex s)) (length o)) (padded (words_of (lex s)) (length w))

lex-is : (s o w : List ℕ) → lex_call s o w ≡ lex_call_by (ltb (length o) (length (lex s))) s o w
unfolding lex_call
lex-is s o w = refl

module _ (s o w : List ℕ) {o' w' : List ℕ} {r : Result Ended Refusal} (c : lex_called r o' w' ≡ lex_call s o w) where
  pub loaded : {e : Ended} → r ≡ Ok e → Loaded s o w e.count e.ending o' w'
  unfolding if◌then◌otherwise◌
  loaded {e} is = go (ltb (length o) (length (lex s))) refl (c ∙ lex-is s o w)
    where
      go : (q : Bool) → ltb (length o) (length (lex s)) ≡ q → lex_called r o' w' ≡ lex_call_by q s o w → Loaded s o w e.count e.ending o' w'
      go true t d = never TokensFull e (sym (ap (λ (x : LexCall). x.answer) d) ∙ is)
      go false t d =
          let a : ◌≡◌ {A = Result Ended Refusal} (Ok e) (Ok (ended_with (length (lex s)) (ending s) (end_at s))) = sym is ∙ ap (λ (x : LexCall). x.answer) d in
          record { fits = ltb-false (length o) (length (lex s)) t; count = cc; ends = cc; offs = ap (λ (x : LexCall). x.offs) d; words = ap (λ (x : LexCall). x.words) d }

  pub over : {f : Refusal} → r ≡ Err f → Over s o w o' w'
  unfolding if◌then◌otherwise◌
  over {f} is = go (ltb (length o) (length (lex s))) refl (c ∙ lex-is s o w)
    where
      go : (q : Bool) → ltb (length o) (length (lex s)) ≡ q → lex_called r o' w' ≡ lex_call_by q s o w → Over s o w o' w'
      go true t d = record { over = ltb-true (length o) (length (lex s)) t; offs = ap (λ (x : LexCall). x.offs) d; words = ap (λ (x : LexCall). x.words) d }
      go false t d = never f (ended_with (length (lex s)) (ending s) (end_at s)) (sym is ∙ ap (λ (x : LexCall). x.answer) d)

module _ {s o w : List ℕ} {n : ℕ} {e : Ending} {o' w' : List ℕ} (d : Loaded s o w n e o' w') where
  pub in-offs : length o' ≡ length o → n ≤ length o'
  in-offs l = omega (arith, d.fits, d.count)

  pub in_words : length w' ≡ length w → length o ≡ length w → n ≤ length w'
  in_words l m = omega (arith, d.fits, d.count)

-- ── the walk over the tokens ──

module _ (s : List ℕ) (a : Arrays) (g : Entered s a) {n : ℕ} {e : Ending} {o' w' : List ℕ} (d : Loaded s a.offs a.words n e o' w') where
  -- the arrays after the walk, or before it
  held : {h' l' y' p' r' : List ℕ} → length h' ≡ length a.heads → length l' ≡ length a.loads → length y' ≡ length a.symbols → length p' ≡ length a.places → length r' ≡ length a.reasons → Held s a (arrays o' w' h' l' y' p' r')
  held eh el ey ep er = record { fits = d.fits; even = g.tokens; offs = d.offs; words = d.words; heads = eh; loads = el; symbols = ey; places = ep; reasons = er }

  pub starts : {k : ℕ} → Starts s (take n o') (take n w') a.heads a.loads a.places a.reasons (record { errors = length a.places; fault = k })
  starts =
      let c : Arrays = arrays o' w' a.heads a.loads a.symbols a.places a.reasons in
      let b : Held s a c = held refl refl refl refl refl in
      record {
        toks = subst (λ (x : List ℕ). Tokens (take n o') x) (sym (used-words s a c b n d.count)) (subst (λ (x : List ℕ). Tokens x (words_of (lex s))) (sym (used-offs s a c b n d.count)) (lexed-tokens s g.short));
        lexed = used-toks s a c b n d.count;
        short = g.short;
        even = g.nodes;
        even-errors = g.errors;
        room = refl;
      }

  fault-is : (k : ℕ) → k ≡ fault_of e → k ≡ fault_of (ending s)
  fault-is k f = f ∙ ap fault_of d.ends

  -- the token arrays after the walk are those before it
  module _ (k : ℕ) (f : k ≡ fault_of e) (os ws h' l' y' p' r' : List ℕ) (eo : os ≡ o') (ew : ws ≡ w') (z : Result Walked Refusal)
      (eh : length h' ≡ length a.heads) (el : length l' ≡ length a.loads) (ey : length y' ≡ length a.symbols) (ep : length p' ≡ length a.places) (er : length r' ≡ length a.reasons)
      (v : Walks (inp s (take n o') (take n w') (record { errors = length a.places; fault = k })) (mem a.symbols a.heads a.loads) z (mem y' h' l') p' r') where
    back : arrays os ws h' l' y' p' r' ≡ arrays o' w' h' l' y' p' r'
    back = same-arrays eo ew refl refl refl refl refl

    pub fits : Fits s (arrays os ws h' l' y' p' r') n z
    fits = subst (λ (b : Arrays). Fits s b n z) (sym back) (fits-is s a (arrays o' w' h' l' y' p' r') (held eh el ey ep er) n d.count (record { errors = length a.places; fault = k }) refl (fault-is k f) z g.short g.errors v)

    pub walked : {x : Called Reading} → x ≡ finish_of s n z (arrays os ws h' l' y' p' r') → x ≡ answered s a (read (rooms_of a) s)
    walked e = e ∙ ap (finish_of s n z) back ∙ finish-is s a (arrays o' w' h' l' y' p' r') (held eh el ey ep er) n d.count (record { errors = length a.places; fault = k }) refl (fault-is k f) z g.errors v

-- ── too many tokens ──

-- no element of the token arrays is used
pub none-used : {s o w o' w' : List ℕ} → Over s o w o' w' → Used 0 o' × Used 0 w'
none-used {s} {o} {w} d = (subst (Used 0) (sym d.offs) (zeroed-used o), subst (Used 0) (sym d.words) (zeroed-used w))

zeroed-again : (x x' : List ℕ) → x' ≡ zeroed x → zeroed x' ≡ zeroed x
unfolding zeroed
zeroed-again x x' e = ap (λ (z : List ℕ). zeroed z) e ∙ (let q : zeroed (zeroed x) ≡ zeroed x = rw (length-replicate {A = ℕ} (length x) 0) refl in q)

module _ (s : List ℕ) (a : Arrays) where
  read-over : length a.offs < length (lex s) → read (rooms_of a) s ≡ refused TokensFull
  unfolding read
  read-over h = rw (lt-ltb (length a.offs) (length (lex s)) h, read) refl

  pub full : {o' w' : List ℕ} {b : Arrays} → Over s a.offs a.words o' w' → b ≡ cleared_arrays (record a { offs = o'; words = w' }) → called (Err TokensFull) b ≡ answered s a (read (rooms_of a) s)
  unfolding answered
  full {o'} {w'} d e =
      ap (called (Err TokensFull)) (e ∙ same-arrays (zeroed-again a.offs o' d.offs) (zeroed-again a.words w' d.words) refl refl refl refl refl)
      ∙ ap (answered s a) (sym (read-over d.over))

  -- ── entry ──

  abbrev read_by : Checked → Called Reading
  read_by k = elim k [ Err r ↦ called (Err r) a | Ok _ ↦ answered s a (read (rooms_of a) s) ]

  reading-by : read_by (entry s a) ≡ reading_of s a
  unfolding reading_of
  reading-by = refl

  module _ {k : Checked} (e : k ≡ entry s a) where
    pub read-on : {x : Called Reading} → k ≡ passed → x ≡ answered s a (read (rooms_of a) s) → x ≡ reading_of s a
    read-on f g = g ∙ sym (ap read_by (sym e ∙ f)) ∙ reading-by

    pub read-not : {f : Refusal} → k ≡ Err f → called (Err f) a ≡ reading_of s a
    read-not g = sym (ap read_by (sym e ∙ g)) ∙ reading-by
