-- The two words of a listed error say its record; and the reading call on records agrees with the call on words.
use Rattle.std.specs.Prelude.{ℕ, ◌+◌, ◌*◌, ◌/◌, ◌%◌, ◌≤◌, ◌<◌, Bool, ◌⊎◌, ◌≡◌, eqb, length, Err, Ok}
use mathlib.Core.List.{List, [], ◌∷◌, map, reverse, reverse_aux}
use Rattle.std.proofs.Math.Bool.{true, false}
use Rattle.std.proofs.Common.{inl, inr, sym, ap, ap₂, ◌∙◌, subst, arith, ltb-false, eqb-true, eq-eqb, ne_eqb}
use Rattle.std.proofs.Math.Path.{refl}
use Rattle.std.proofs.Math.Dec.{ltb}
use Rattle.std.proofs.Math.ListN.{length-reverse}
use Rattle.sifc_tokens.specs.Tokens.{Checked, passed}
use Rattle.sifc_err.specs.declared.Refusal.{Refusal}
use Rattle.sifc_err.specs.declared.Refusal.TheVariants.{Uneven, TokensFull}
use Rattle.sifc_err.specs.declared.parse_err.ParseErr.{ParseErr}
use Rattle.sifc_err.specs.ParseErr.{values_of}
use Rattle.sifc_tokens.specs.declared.place.Place.{Place}
use Rattle.sifc_word.specs.Base.{if◌then◌otherwise◌}
use Rattle.sifc_lex.specs.Lex.{lex}
use Rattle.sifc_lex.proofs.LexLaws.{lex-count}
use Rattle.sifc_tokens.specs.Place.{place_of}
use Rattle.sifc_def.specs.declared.Err.{Err as WalkErr}
use Rattle.sifc_def.specs.Why.{Why}
use Rattle.sifc_err.specs.declared.parse_err.ParseErrTy.TheVariants.{InvalidIdent, InvalidTkn, InvalidTknMsg, InvalidAssign, InvalidForStmt, InvalidIfStmt, TknMismatch, FnParmCntExceeded, WrongFnParmCnt, UndeclSym, UnassignedVar, ExpectedIdent}
use Rattle.sifc_def.specs.Answer.{Reading}
use Rattle.sifc_def.specs.Error.{ty_of, carried, carried_too, place_at, parse_err, err_place, err_reason}
use Rattle.sifc_def.specs.State.{Ctx, Out, done, fail, refuse, tok_at}
use Rattle.sifc_def.specs.Walk.{End, walk}
use Rattle.sifc_def.specs.Read.{Arrays, Rooms, rooms_of, Found, Outcome, found, refused, ctx_of, ended, read, entry, Called, called, answered, reading, depth_limit}
use Rattle.sifc_def.proofs.OutcomeLaws.{Holds}
use Rattle.sifc_def.proofs.StepLaws.{Each, FairErr}
use Rattle.sifc_def.proofs.TokLaws.{worth, lexed-toks}
use Rattle.sifc_def.proofs.WalkLaws.{Ended, walk_ends}
use Rattle.sifc_def.proofs.ReadLaws.{place-fits}
use Rattle.sifc_def.specs.Error.{PlaceFits}
use Rattle.sifc_lent.specs.Parts.{bare}
use Rattle.sifc_record.specs.Record.{invalid_tkn, why_by, why_of, record_of, records_in}
use Rattle.sifc_records.specs.Records.{call_of, errors_of, entry_records, Recorded, recorded, records_of, reading_records}
use Rattle.sifc_records.proofs.Listed.{Spoken, Listed, walk-lists}
use Rattle.sifc_tokens.specs.Tokens.{passed, Checked}

-- ── one error ──

-- the parts of a second word
abbrev packed : ℕ → ℕ → ℕ → ℕ
packed n a b = n + 16 * a + 1048576 * b

-- the parts are back
unpacked : (n a b : ℕ) → n < 16 → a < 65536 → why_of (packed n a b) ≡ why_by n a b
unpacked n a b h k =
    let e : packed n a b % 16 ≡ n = omega arith in
    let d : packed n a b / 16 ≡ a + 65536 * b = omega arith in
    let f : packed n a b / 16 % 65536 ≡ a = ap (λ (x : ℕ). x % 65536) d ∙ (let z : (a + 65536 * b) % 65536 ≡ a = omega arith in z) in
    let g : packed n a b / 1048576 ≡ b = omega arith in
    cc

-- a reason and what it carries are back
why-back : (c : Ctx) (w : Why) → carried w < 65536 → Spoken w → why_of ((values_of (ty_of c w)).number + 16 * carried w + 1048576 * carried_too w) ≡ w
unfolding why_by invalid_tkn if◌then◌otherwise◌
why-back c (InvalidIdent i) h p = unpacked 1 i 0 (omega arith) h
why-back c (InvalidTkn i) h p = unpacked 2 i 0 (omega arith) h
why-back c (InvalidTknMsg m) h p = unpacked 2 0 m (omega arith) h ∙ (let q : eqb m 0 ≡ false = ne_eqb m 0 (λ e. omega arith) in simp q)
why-back c (InvalidAssign i) h p = unpacked 3 i 0 (omega arith) h
why-back c InvalidForStmt h p = unpacked 4 0 0 (omega arith) h
why-back c InvalidIfStmt h p = unpacked 5 0 0 (omega arith) h
why-back c (TknMismatch k i) h p = unpacked 6 i k (omega arith) h
why-back c (FnParmCntExceeded n) h p = unpacked 7 n 0 (omega arith) h
why-back c (WrongFnParmCnt n m) h p = unpacked 8 n m (omega arith) h
why-back c (UndeclSym i) h p = unpacked 9 i 0 (omega arith) h
why-back c (UnassignedVar i) h p = unpacked 10 i 0 (omega arith) h
why-back c (ExpectedIdent i) h p = unpacked 11 i 0 (omega arith) h

-- The two words of an error are its record's.
pub record-back : (c : Ctx) (e : WalkErr) → length c.script ≤ 65535 → carried e.why < 65536 → Spoken e.why → record_of c.toks (err_place c e) (err_reason c e) ≡ parse_err c e
unfolding err_place parse_err place_at
record-back c e s h p =
    let q : Place = place_of c.script (tok_at c e.place).off in
    let f : PlaceFits (place_of c.script (tok_at c e.place).off) = place-fits c.script (tok_at c e.place).off s in
    let line : err_place c e / 65536 + 1 ≡ (place_of c.script (tok_at c e.place).off).line = omega (arith, f.first, f.pos) in
    let pos : err_place c e % 65536 ≡ (place_of c.script (tok_at c e.place).off).pos = omega (arith, f.first, f.pos) in
    let ty : ty_of (bare [] c.toks) (why_of (err_reason c e)) ≡ ty_of c e.why = ap (ty_of (bare [] c.toks)) (why-back c e.why h p) in
    cc

-- ── all errors of a reading ──

-- so it is of each listed error
abbrev Sound : Ctx → WalkErr → Type 0
Sound c e = record_of c.toks (err_place c e) (err_reason c e) ≡ parse_err c e

-- So the words of all errors are their records'.
pub records-back : (c : Ctx) (es : List WalkErr) → Each (Sound c) es → records_in c.toks (map (err_place c) es) (map (err_reason c) es) ≡ map (parse_err c) es
unfolding records_in Each
records-back c [] h = refl
records-back c (e ∷ es) h = ap₂ (λ (x : ParseErr) (xs : List ParseErr). x ∷ xs) h.0 (records-back c es h.1)

-- it holds of errors that stand at one of the tokens and whose messages are not 0
each-sound : (c : Ctx) (es : List WalkErr) → length c.script ≤ 65535 → length c.toks ≤ 65536 → Each (FairErr (length c.toks)) es → Each (λ (e : WalkErr). Spoken e.why) es → Each (Sound c) es
unfolding Each
each-sound c [] s t f p = tt
each-sound c (e ∷ es) s t f p = (record-back c e s (small f.0.first) p.0, each-sound c es s t f.1 p.1)
  where
    small : (carried e.why < length c.toks) ⊎ (carried e.why ≤ 64) → carried e.why < 65536
    small (inl l) = omega arith
    small (inr l) = omega arith

-- a fact of each element, and the lists turned round
each-onto : {A : Type 0} (P : A → Type 0) (xs ys : List A) → Each P xs → Each P ys → Each P (reverse_aux xs ys)
unfolding Each
each-onto P [] ys p q = q
each-onto P (x ∷ xs) ys p q = each-onto P xs (x ∷ ys) p.1 (p.0, q)

-- the same of the whole list
each-reverse : {A : Type 0} (P : A → Type 0) (xs : List A) → Each P xs → Each P (reverse xs)
unfolding Each
each-reverse P xs p = each-onto P xs [] p tt

-- what a reading finds: its tokens fit, there is room for its errors, and their words say their records
pub record Sounds (r : Rooms) (s : List ℕ) (f : Found) : Type 0 where
  pub toks : f.toks ≡ lex s
  pub fits : length f.toks ≤ r.tokens
  pub room : length f.errs ≤ r.errors
  pub errs : length s ≤ 65535 → Each (Sound (ctx_of r s)) f.errs

-- a refusal finds nothing
abbrev pub SoundsOf : Rooms → List ℕ → Outcome → Type 0
SoundsOf r s (found f) = Sounds r s f
SoundsOf r s (refused x) = Unit {0}

module _ (r : Rooms) (s : List ℕ) where
  ended-sound : length (lex s) ≤ r.tokens → (o : Out End) → Holds o (λ e z. Ended (ctx_of r s) (worth (lex s)) (lexed-toks (ctx_of r s) s refl) z) (λ z. ⊥)
      → Holds o (λ e z. Listed (ctx_of r s) z.errs) (λ z. Listed (ctx_of r s) z.errs) → SoundsOf r s (ended (lex s) o)
  unfolding ended
  ended-sound k (done e z) h l =
      record {
        toks = refl;
        fits = k;
        room = omega (arith, length-reverse z.errs, l.holds.room);
        errs = λ short. each-reverse (Sound (ctx_of r s)) z.errs (each-sound (ctx_of r s) z.errs short (omega (arith, lex-count s)) h.holds.well.errs l.holds.spoken);
      }
  ended-sound k (fail e z) h l = absurd h.holds
  ended-sound k (refuse x) h l = tt

  -- What a reading finds is so, whatever the rooms are.
  pub read-sound : SoundsOf r s (read r s)
  unfolding read
  read-sound = go (ltb r.tokens (length (lex s))) refl
    where
      go : (x : Bool) → ltb r.tokens (length (lex s)) ≡ x → SoundsOf r s (elim x [ true ↦ refused TokensFull | false ↦ ended (lex s) (walk (ctx_of r s) depth_limit) ])
      go true t = tt
      go false t =
          ended-sound (ltb-false r.tokens (length (lex s)) t) (walk (ctx_of r s) depth_limit) (walk_ends (ctx_of r s) (worth (lex s)) (lexed-toks (ctx_of r s) s refl) depth_limit) (walk-lists (ctx_of r s) depth_limit)

-- ── the call on words ──

-- the tests of entry, by those of the call on words and whether there are as many records
abbrev pub entry_by : Checked → Bool → Checked
entry_by k b = elim k [ Err r ↦ Err r | Ok _ ↦ if b then passed otherwise Err Uneven ]

-- it is the definition's
pub entry-by : (s : List ℕ) (a : Arrays) (n : ℕ) → entry_by (entry s a) (eqb (length a.places) n) ≡ entry_records s a n
unfolding entry_records
entry-by s a n = refl

-- the call, by the tests of entry
abbrev pub records_by : List ℕ → Arrays → List ParseErr → Checked → Recorded
records_by s a rs k =
    elim k [
      | Err r ↦ recorded (Err r) a rs
      | Ok _ ↦ recorded (answered s a (read (rooms_of a) s)).answer (answered s a (read (rooms_of a) s)).arrays (records_of (ctx_of (rooms_of a) s) (length rs) (read (rooms_of a) s))
    ]

-- it is the definition's
pub records-by : (s : List ℕ) (a : Arrays) (rs : List ParseErr) → records_by s a rs (entry_records s a (length rs)) ≡ reading_records s a rs
unfolding reading_records
records-by s a rs = refl

-- with as many records, the tests are those of the call on words
records-even : (s : List ℕ) (a : Arrays) (rs : List ParseErr) → length a.places ≡ length rs → reading_records s a rs ≡ records_by s a rs (entry_by (entry s a) true)
records-even s a rs l = sym (ap (records_by s a rs) (sym (ap (entry_by (entry s a)) (eq-eqb (length a.places) (length rs) l)) ∙ entry-by s a (length rs)) ∙ records-by s a rs)

-- Where there are as many records as error words, the answer and the arrays are those of the call on words.
pub records-agree : (s : List ℕ) (a : Arrays) (rs : List ParseErr) → length a.places ≡ length rs → call_of (reading_records s a rs) ≡ reading s a
unfolding reading if◌then◌otherwise◌
records-agree s a rs l = ap call_of (records-even s a rs l) ∙ go (entry s a)
  where
    go : (k : Checked) → call_of (records_by s a rs (entry_by k true)) ≡ elim k as (λ z. Called Reading) [ Err r ↦ called (Err r) a | Ok _ ↦ answered s a (read (rooms_of a) s) ]
    go (Err f) = refl
    go (Ok _) = refl

-- Where there are not, and the call on words would pass its tests of entry, it is refusal 3 and nothing is touched.
pub records-uneven : (s : List ℕ) (a : Arrays) (rs : List ParseErr) → entry s a ≡ passed → (length a.places ≡ length rs → ⊥) → reading_records s a rs ≡ recorded (Err Uneven) a rs
unfolding if◌then◌otherwise◌
records-uneven s a rs e l = sym (records-by s a rs) ∙ ap (records_by s a rs) (sym (entry-by s a (length rs)) ∙ ap₂ entry_by e (ne_eqb (length a.places) (length rs) l))

-- a refusal does not pass
never-refused : {X : Type 0} (f : Refusal) → Err f ≡ passed → X
never-refused f p = absurd (let z : ◌≡◌ {A = ℕ} 0 1 = cc in let y : ⊥ = omega arith in y)

-- what lets a script and the arrays pass
pub entry_of : (s : List ℕ) (a : Arrays) (n : ℕ) → entry_records s a n ≡ passed → (entry s a ≡ passed) × (length a.places ≡ n)
unfolding if◌then◌otherwise◌
entry_of s a n e = go (entry s a) (eqb (length a.places) n) refl (entry-by s a n ∙ e)
  where
    go : (k : Checked) (b : Bool) → eqb (length a.places) n ≡ b → entry_by k b ≡ passed → (k ≡ passed) × (length a.places ≡ n)
    go (Err f) b t d = never-refused f d
    go (Ok _) true t d = (refl, eqb-true (length a.places) n t)
    go (Ok _) false t d = never-refused Uneven d

-- what a reading counts
fits-found : (s : List ℕ) (a : Arrays) (f : Found) (n : ℕ) → length f.errs ≤ n → errors_of (answered s a (found f)).answer ≤ n
unfolding answered
fits-found s a f n h = h

-- a refusal counts none
fits_refused : (s : List ℕ) (a : Arrays) (r : Refusal) (n : ℕ) → errors_of (answered s a (refused r)).answer ≤ n
unfolding answered
fits_refused s a r n = omega arith

-- There is a record for each error that the answer counts.
pub errors-fit : (s : List ℕ) (a : Arrays) (rs : List ParseErr) → errors_of (reading_records s a rs).answer ≤ length rs
errors-fit s a rs = subst (λ (x : Recorded). errors_of x.answer ≤ length rs) (records-by s a rs) (go (entry_records s a (length rs)) refl)
  where
    counted : length a.places ≡ length rs → (o : Outcome) → SoundsOf (rooms_of a) s o → errors_of (answered s a o).answer ≤ length rs
    counted l (found f) h = fits-found s a f (length rs) (omega (arith, h.room, l))
    counted l (refused r) h = fits_refused s a r (length rs)

    go : (k : Checked) → entry_records s a (length rs) ≡ k → errors_of (records_by s a rs k).answer ≤ length rs
    go (Err f) e = omega arith
    go (Ok _) e = counted (entry_of s a (length rs) e).1 (read (rooms_of a) s) (read-sound (rooms_of a) s)
