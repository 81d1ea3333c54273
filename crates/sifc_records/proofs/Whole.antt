-- The call on words and the filling of the records together are the reading call on records.
use Rattle.std.specs.Prelude.{Ok, Err}
use Prim.Native.Nat.{ℕ, ◌-◌, ◌≤◌}
use mathlib.Core.Path.{◌≡◌, refl, sym, ap, ap₂, ◌∙◌, subst}
use mathlib.Core.List.{List, ◌++◌, map, append-nil}
use native.Mathlib.Nat.{le_refl, sub_self}
use native.Mathlib.Omega.{arith}
use lib.ListN.{length, take, drop, replicate, length-append, length-map}
use lib.Seq.{take-length, take-append_seam, length-take-le, length_front}
use Rattle.sifc_err.specs.declared.Token.{Token}
use Rattle.sifc_err.specs.declared.parse_err.ParseErr.{ParseErr}
use Rattle.sifc_lex.specs.Lex.{lex}
use Rattle.sifc_tokens.specs.Tokens.{Checked, passed, offs_of, words_of, padded}
use Rattle.sifc_def.specs.State.{Ctx}
use Rattle.sifc_def.specs.Error.{parse_err, err_place, err_reason}
use Rattle.sifc_def.specs.Read.{Arrays, rooms_of, Found, Outcome, found, refused, ctx_of, filled, read, answered}
use Rattle.sifc_lent.proofs.LexedLaws.{lexed-back, length-offs, length-words, used-part}
use Rattle.sifc_symtab.specs.Toks.{toks_of}
use Rattle.sifc_records.specs.declared.call.Told.{Told}
use Rattle.sifc_record.specs.Record.{blank_err, records_in, blank_from, filled_of, Fillable}
use Rattle.sifc_records.specs.Records.{padded_errs, entry_records, Recorded, recorded, records_of, reading_records}
use Rattle.sifc_records.proofs.RecordLaws.{entry_of, records-back, Sounds, SoundsOf, read-sound, records_by, records-by}
use Rattle.sifc_records.specs.Words.{Kept, kept, kept_of, read_words}
use Rattle.sifc_records.proofs.Calls.{read_by, read-by, entered}

-- what is told asks no more than is there, where there are n records
pub record FillableOf (n : ℕ) (x : Kept) : Type 0 where
  pub offs : x.told.tokens ≤ length x.arrays.offs
  pub words : x.told.tokens ≤ length x.arrays.words
  pub fills : Fillable x.arrays.places x.arrays.reasons x.told.errors x.told.from n

-- the records filled by what is told
abbrev filled_by : List ParseErr → Kept → Recorded
filled_by rs x =
    recorded x.told.reading x.arrays (filled_of (toks_of (take x.told.tokens x.arrays.offs) (take x.told.tokens x.arrays.words)) x.arrays.places x.arrays.reasons x.told.errors x.told.from rs)

-- ── the records ──

-- a refusal of the tests of entry leaves every record
untouched : (ts : List Token) (ps ws : List ℕ) (rs : List ParseErr) → filled_of ts ps ws 0 (length rs) rs ≡ rs
unfolding filled_of blank_from records_in
untouched ts ps ws rs = ap₂ (λ (l : List ParseErr) (n : ℕ). l ++ replicate n blank_err) (take-length rs) (sub_self (length rs)) ∙ append-nil rs

-- another refusal leaves every record blank
all-blank : (ts : List Token) (ps ws : List ℕ) (rs : List ParseErr) → filled_of ts ps ws 0 0 rs ≡ replicate (length rs) blank_err
unfolding filled_of blank_from records_in
all-blank ts ps ws rs = ap (λ (n : ℕ). replicate n blank_err) (let z : length rs - 0 ≡ length rs = omega arith in z)

-- a reading leaves its records, and blank ones past them
used : (es rs : List ParseErr) → length es ≤ length rs → blank_from (length es) (es ++ drop (length es) rs) ≡ padded_errs es (length rs)
unfolding blank_from padded_errs
used es rs h =
    ap₂ (λ (l : List ParseErr) (n : ℕ). l ++ replicate (n - length es) blank_err) (take-append_seam es (drop (length es) rs)) (length_front rs es (length es) (sym (length-take-le (length es) rs h)))

-- an array that is filled up holds what it is filled with
padded-long : (xs : List ℕ) (m : ℕ) → length xs ≤ length (padded xs m)
unfolding padded
padded-long xs m = omega (arith, length-append xs (replicate (m - length xs) 0))

module _ (s : List ℕ) (a : Arrays) (f : Found) (h : Sounds (rooms_of a) s f) where
  abbrev c : Ctx
  c = ctx_of (rooms_of a) s

  -- the token arrays hold the tokens
  toks-back : toks_of (take (length f.toks) (padded (offs_of f.toks) (length a.offs))) (take (length f.toks) (padded (words_of f.toks) (length a.words))) ≡ lex s
  toks-back =
      ap₂ toks_of (used-part (offs_of f.toks) (length f.toks) (length a.offs) (length-offs f.toks)) (used-part (words_of f.toks) (length f.toks) (length a.words) (length-words f.toks))
      ∙ ap (λ (ts : List Token). toks_of (offs_of ts) (words_of ts)) h.toks ∙ lexed-back s

  -- the records of a reading's words are those of its errors
  filled-found : length s ≤ 65535 → (rs : List ParseErr) → length a.places ≡ length rs
      → filled_of (toks_of (take (length f.toks) (filled c f a).offs) (take (length f.toks) (filled c f a).words)) (filled c f a).places (filled c f a).reasons (length f.errs) (length f.errs) rs ≡ padded_errs (map (parse_err c) f.errs) (length rs)
  unfolding filled_of
  filled-found short rs l =
      let n : length (map (parse_err c) f.errs) ≡ length f.errs = length-map f.errs (parse_err c) in
      ap₂ (λ (ts : List Token) (p : List ℕ). blank_from (length f.errs) (records_in ts p (take (length f.errs) (filled c f a).reasons) ++ drop (length f.errs) rs)) toks-back
      (used-part (map (err_place c) f.errs) (length f.errs) (length a.places) (length-map f.errs (err_place c)))
      ∙ ap (λ (w : List ℕ). blank_from (length f.errs) (records_in (lex s) (map (err_place c) f.errs) w ++ drop (length f.errs) rs))
      (used-part (map (err_reason c) f.errs) (length f.errs) (length a.reasons) (length-map f.errs (err_reason c)))
      ∙ ap (λ (es : List ParseErr). blank_from (length f.errs) (es ++ drop (length f.errs) rs)) (records-back c f.errs (h.errs short))
      ∙ ap (λ (k : ℕ). blank_from k (map (parse_err c) f.errs ++ drop k rs)) (sym n)
      ∙ used (map (parse_err c) f.errs) rs (omega (arith, n, h.room, l))

-- ── the call ──

-- what passes the tests of entry is short
short-of : (s : List ℕ) (a : Arrays) (n : ℕ) → entry_records s a n ≡ passed → length s ≤ 65535
short-of s a n e =
    let t = entered s a n {k = entry_records s a n} refl e in
    omega (arith, t.short)

module _ (s : List ℕ) (a : Arrays) where
  outcome-fills : (n : ℕ) → length a.places ≡ n → (o : Outcome) → SoundsOf (rooms_of a) s o → FillableOf n (kept_of (answered s a o))
  unfolding answered
  outcome-fills n l (found f) h =
      record {
        offs = omega (arith, padded-long (offs_of f.toks) (length a.offs), length-offs f.toks);
        words = omega (arith, padded-long (words_of f.toks) (length a.words), length-words f.toks);
        fills = record {
          places = omega (arith, padded-long (map (err_place (ctx_of (rooms_of a) s)) f.errs) (length a.places), length-map f.errs (err_place (ctx_of (rooms_of a) s)));
          reasons = omega (arith, padded-long (map (err_reason (ctx_of (rooms_of a) s)) f.errs) (length a.reasons), length-map f.errs (err_reason (ctx_of (rooms_of a) s)));
          used = le_refl (length f.errs);
          room = omega (arith, h.room, l);
        };
      }
  outcome-fills n l (refused r) h = record { offs = omega arith; words = omega arith; fills = record { places = omega arith; reasons = omega arith; used = omega arith; room = omega arith } }

  -- what the call on words tells can be filled in
  words-fill : (n : ℕ) → FillableOf n (read_words s a n)
  words-fill n = subst (FillableOf n) (read-by s a n) (go (entry_records s a n) refl)
    where
      go : (k : Checked) → entry_records s a n ≡ k → FillableOf n (read_by s a n k)
      go (Err f) e = record { offs = omega arith; words = omega arith; fills = record { places = omega arith; reasons = omega arith; used = omega arith; room = le_refl n } }
      go (Ok _) e = outcome-fills n (entry_of s a n e).1 (read (rooms_of a) s) (read-sound (rooms_of a) s)

  module _ (rs : List ParseErr) where
    outcome-records : length s ≤ 65535 → length a.places ≡ length rs → (o : Outcome) → SoundsOf (rooms_of a) s o
        → filled_by rs (kept_of (answered s a o)) ≡ recorded (answered s a o).answer (answered s a o).arrays (records_of (ctx_of (rooms_of a) s) (length rs) o)
    unfolding answered records_of
    outcome-records short l (found f) h = ap (recorded (answered s a (found f)).answer (answered s a (found f)).arrays) (filled-found s a f h short rs l)
    outcome-records short l (refused r) h = ap (recorded (answered s a (refused r)).answer (answered s a (refused r)).arrays) (all-blank _ _ _ rs)

    -- and the records filled so are the definition's
    words-records : filled_by rs (read_words s a (length rs)) ≡ reading_records s a rs
    words-records = ap (filled_by rs) (sym (read-by s a (length rs))) ∙ go (entry_records s a (length rs)) refl ∙ records-by s a rs
      where
        go : (k : Checked) → entry_records s a (length rs) ≡ k → filled_by rs (read_by s a (length rs) k) ≡ records_by s a rs k
        go (Err f) e = ap (recorded _ a) (untouched _ _ _ rs)
        go (Ok _) e = outcome-records (short-of s a (length rs) e) (entry_of s a (length rs) e).1 (read (rooms_of a) s) (read-sound (rooms_of a) s)

module _ (s : List ℕ) (a : Arrays) (rs : List ParseErr) (t : Told) (b : Arrays) (e : kept t b ≡ read_words s a (length rs)) where
  -- What is told can be filled in.
  pub can-fill : FillableOf (length rs) (kept t b)
  can-fill = subst (FillableOf (length rs)) (sym e) (words-fill s a (length rs))

  -- And the call is the definition's.
  pub whole : {zs : List ParseErr} {ts : List Token} {ps ws : List ℕ} → zs ≡ filled_of ts ps ws t.errors t.from rs
      → ts ≡ toks_of (take t.tokens b.offs) (take t.tokens b.words) → ps ≡ b.places → ws ≡ b.reasons → recorded t.reading b zs ≡ reading_records s a rs
  whole {ps = ps} {ws = ws} f et ep er =
      ap (recorded t.reading b) (f ∙ ap (λ (us : List Token). filled_of us ps ws t.errors t.from rs) et ∙ ap₂ (λ (us vs : List ℕ). filled_of (toks_of (take t.tokens b.offs) (take t.tokens b.words)) us vs t.errors t.from rs) ep er)
      ∙ ap (filled_by rs) e ∙ words-records s a rs
