-- The text call, out of what its parts gave.
use Rattle.std.specs.Prelude.{Err, Ok}
use Prim.Native.Nat.{ℕ, ◌-◌, ◌≤◌}
use native.Mathlib.Omega.{arith}
use mathlib.Core.Path.{◌≡◌, refl, sym, ap, ap₂, ◌∙◌, subst}
use mathlib.Core.List.{List, map}
use mathlib.Core.Bool.{Bool, true, false}
use lib.Dec.{ltb}
use lib.ListN.{length, take, replicate, length-append, length-map}
use lib.Seq.{length-take-le}
use Rattle.sifc_err.specs.declared.Refusal.{Refusal}
use Rattle.sifc_err.specs.declared.Refusal.TheVariants.{Flagged, TextFull}
use Rattle.sifc_word.specs.Base.{if◌then◌otherwise◌}
use Rattle.sifc_lex.specs.Lex.{lex}
use Rattle.sifc_tokens.specs.Tokens.{Checked, passed, offs_of, words_of, padded, zeroed}
use Rattle.sifc_tokens.specs.Loaded.{Used}
use Rattle.sifc_tokens.proofs.TokensLaws.{padded-used}
use Rattle.sifc_def.specs.Answer.{Reading, Texting}
use Rattle.sifc_def.specs.declared.Summary.{Summary}
use Rattle.sifc_def.specs.State.{Node}
use Rattle.sifc_def.specs.Error.{err_place, err_reason}
use Rattle.sifc_def.specs.Read.{Arrays, rooms_of, cleared_arrays, entry, Found, Outcome, found, refused, ctx_of, read, head_word, Called, called, summary, filled, answered, Written, written, text_found, texted, text_call}
use Rattle.sifc_def.specs.Typed.{Stmts, OkProgram, SaidSs}
use Rattle.sifc_def.proofs.Canon.Bytes as canon
use Rattle.sifc_def.proofs.Canon.Calls.{Reads}
use Rattle.sifc_def.proofs.Canon.Demand3.{Shows, shows-text, found-same, Typed, typed}
use Rattle.sifc_put.specs.Place.{Inp}
use Rattle.sifc_put.specs.Post.{SpotOf}
use Rattle.sifc_put.specs.Spans.{SpansProgram}
use Rattle.sifc_lent.specs.Parts.{SameLong, cleared_beside, UsedBy}
use Rattle.sifc_lent.proofs.LexedLaws.{length-offs, length-words, used-part}
use Rattle.sifc_lent.proofs.PartLaws.{zeroed-long, same-arrays}
use Rattle.sifc_text.specs.Stands.{left}
use Rattle.sifc_text.specs.Bridge.{bridge}
use Rattle.sifc_text_stmt.specs.Kinds.{program_l}
use Rattle.sifc_write.specs.Front.{Buffered, buffered, fitted, Fronts}
use Rattle.sifc_text.specs.Post.{Holds, cut_to, LeftBy, Left, Texts}

-- ── a program that is found ──

-- what a reading found is this typed program
record Shown (s : List ℕ) (f : Found) : Type 0 where
  program : Stmts
  ok : OkProgram program
  fine : SaidSs canon.Fine program
  shows : Shows s f program

-- What a reading found with the flag down is a typed program.
shown : (s : List ℕ) (a : Arrays) (f : Found) → Reads s a f → f.flag ≡ false → Shown s f
shown s a f r d =
    let t : Typed s a = typed s a (record { what = f; reads = r; flag = d }) in
    let e : t.what ≡ f = found-same t.what f (read (rooms_of a) s) t.reads.found_it r.found_it in
    record { program = t.program; ok = t.ok; fine = t.fine; shows = subst (λ (g : Found). Shows s g t.program) e t.shows }

-- ── the used parts of the arrays ──

-- What is padded is not longer than the array.
padded-long : (xs : List ℕ) (n : ℕ) → length xs ≤ length (padded xs n)
unfolding padded
padded-long xs n = let l = length-append xs (replicate (n - length xs) 0) in omega arith

module _ (s : List ℕ) (b : Arrays) (m : Summary) where
  module _ (a : Arrays) (f : Found) (z : LeftBy s b m a f) where
    tokens-is : m.tokens ≡ length f.toks
    tokens-is = ap (λ (x : Summary). x.tokens) z.answer

    nodes-is : m.nodes ≡ length f.nodes
    nodes-is = ap (λ (x : Summary). x.nodes) z.answer

    offs-is : b.offs ≡ padded (offs_of f.toks) (length a.offs)
    offs-is = ap (λ (x : Arrays). x.offs) z.arrays

    words-is : b.words ≡ padded (words_of f.toks) (length a.words)
    words-is = ap (λ (x : Arrays). x.words) z.arrays

    heads-is : b.heads ≡ padded (map head_word f.nodes) (length a.heads)
    heads-is = ap (λ (x : Arrays). x.heads) z.arrays

    loads-is : b.loads ≡ padded (map (λ (n : Node). n.pay) f.nodes) (length a.loads)
    loads-is = ap (λ (x : Arrays). x.loads) z.arrays

    -- the flag that is answered is the one that was found
    flag_is : m.flag ≡ f.flag
    flag_is = ap (λ (x : Summary). x.flag) z.answer

    -- The used parts are those that the bridge speaks of.
    same-inp : f.toks ≡ lex s → cut_to s b m.tokens m.nodes ≡ left s f.nodes
    same-inp e =
        let eo : take m.tokens b.offs ≡ offs_of (lex s) = ap (take m.tokens) offs-is ∙ used-part (offs_of f.toks) m.tokens (length a.offs) (length-offs f.toks ∙ sym tokens-is) ∙ ap offs_of e in
        let ew : take m.tokens b.words ≡ words_of (lex s) = ap (take m.tokens) words-is ∙ used-part (words_of f.toks) m.tokens (length a.words) (length-words f.toks ∙ sym tokens-is) ∙ ap words_of e in
        let eh : take m.nodes b.heads ≡ map head_word f.nodes = ap (take m.nodes) heads-is ∙ used-part (map head_word f.nodes) m.nodes (length a.heads) (length-map f.nodes head_word ∙ sym nodes-is) in
        let el : take m.nodes b.loads ≡ map (λ (n : Node). n.pay) f.nodes = ap (take m.nodes) loads-is ∙ used-part (map (λ (n : Node). n.pay) f.nodes) m.nodes (length a.loads) (length-map f.nodes (λ (n : Node). n.pay) ∙ sym nodes-is) in
        cc

    in-heads : m.nodes ≤ length b.heads
    in-heads = omega (arith, nodes-is, length-map f.nodes head_word, padded-long (map head_word f.nodes) (length a.heads), ap length heads-is)

    -- The program stands in them.
    stands : (d : Shown s f) → SpansProgram (cut_to s b m.tokens m.nodes) d.program 0 (length (take m.nodes b.heads))
    stands d =
        subst (λ (i : ℕ). SpansProgram (cut_to s b m.tokens m.nodes) d.program 0 i) (sym (length-take-le m.nodes b.heads in-heads ∙ nodes-is))
        (subst (λ (I : Inp). SpansProgram I d.program 0 (length f.nodes)) (sym (same-inp d.shows.toks)) (bridge s f.nodes d.program d.fine d.shows.labelled))

  module _ (z : Left s b m) where
    -- The used parts lie in the arrays.
    in-offs : m.tokens ≤ length b.offs
    in-offs = let a = z.lent in let f = z.what in omega (arith, tokens-is a f z.by, length-offs f.toks, padded-long (offs_of f.toks) (length a.offs), ap length (offs-is a f z.by))

    in_words : m.tokens ≤ length b.words
    in_words = let a = z.lent in let f = z.what in omega (arith, tokens-is a f z.by, length-words f.toks, padded-long (words_of f.toks) (length a.words), ap length (words-is a f z.by))

    in-nodes : m.nodes ≤ length b.heads
    in-nodes = in-heads z.lent z.what z.by

    in-loads : m.nodes ≤ length b.loads
    in-loads = let a = z.lent in let f = z.what in omega (arith, nodes-is a f z.by, length-map f.nodes (λ (n : Node). n.pay), padded-long (map (λ (n : Node). n.pay) f.nodes) (length a.loads), ap length (loads-is a f z.by))

    pub holds : Holds b m.tokens m.nodes
    holds = record { offs = in-offs; words = in_words; heads = in-nodes; loads = in-loads }

    -- What lies past them is 0.
    pub used : UsedBy m.tokens m.nodes m.errors b
    used =
        let a = z.lent in
        let f = z.what in
        let c = ctx_of (rooms_of a) s in
        let errs : length f.errs ≡ m.errors = sym (ap (λ (x : Summary). x.errors) z.by.answer) in
        record {
          offs = subst (Used m.tokens) (sym (offs-is a f z.by)) (padded-used _ m.tokens (length a.offs) (length-offs f.toks ∙ sym (tokens-is a f z.by)));
          words = subst (Used m.tokens) (sym (words-is a f z.by)) (padded-used _ m.tokens (length a.words) (length-words f.toks ∙ sym (tokens-is a f z.by)));
          heads = subst (Used m.nodes) (sym (heads-is a f z.by)) (padded-used _ m.nodes (length a.heads) (length-map f.nodes head_word ∙ sym (nodes-is a f z.by)));
          loads = subst (Used m.nodes) (sym (loads-is a f z.by)) (padded-used _ m.nodes (length a.loads) (length-map f.nodes (λ (n : Node). n.pay) ∙ sym (nodes-is a f z.by)));
          places = subst (Used m.errors) (sym (ap (λ (x : Arrays). x.places) z.by.arrays)) (padded-used _ m.errors (length a.places) (length-map f.errs (err_place c) ∙ errs));
          reasons = subst (Used m.errors) (sym (ap (λ (x : Arrays). x.reasons) z.by.arrays)) (padded-used _ m.errors (length a.reasons) (length-map f.errs (err_reason c) ∙ errs));
        }

    -- The symbol words are 0 already, so all is where the other arrays are set to 0.
    pub emptied : {x : Arrays} → x ≡ cleared_beside b → x ≡ cleared_arrays b
    emptied e =
        let still : b.symbols ≡ zeroed b.symbols = ap (λ (x : Arrays). x.symbols) z.by.arrays ∙ sym (ap (λ (x : Arrays). x.symbols) z.by.cleared) in
        e ∙ same-arrays refl refl refl refl still refl refl

    -- There is a program to write, where the flag is down.
    pub spot : {t : List ℕ} {I : Inp} → I ≡ cut_to s b m.tokens m.nodes → m.flag ≡ false → SpotOf (program_l I) t (length I.heads) (length t)
    spot {t} i e =
        let f = z.what in
        let d : Shown s f = shown s z.lent f z.by.reads (sym (flag_is z.lent f z.by) ∙ e) in
        subst (λ (I : Inp). SpotOf (program_l I) t (length I.heads) (length t)) (sym i) (record { tree = d.program; lo = 0; spans = stands z.lent f z.by d; room = omega arith })

-- ── the text of what was found ──

module _ (s : List ℕ) (a : Arrays) (t : List ℕ) (f : Found) (down : f.flag ≡ false) where
  -- what is left with the flag down, by whether the text is longer than its buffer
  abbrev by_length : Bool → Written
  by_length q = if q then written (Err TextFull) (cleared_arrays a) (zeroed t) otherwise written (Ok (length (text_found s f))) (filled (ctx_of (rooms_of a) s) f a) (padded (text_found s f) (length t))

  -- the answer and the buffer of it
  abbrev by_fit : Bool → Buffered
  by_fit q = if q then buffered (Err TextFull) (zeroed t) otherwise buffered (Ok (length (text_found s f))) (padded (text_found s f) (length t))

  -- What the definition leaves is that.
  texted-is : texted s a t (found f) ≡ by_length (ltb (length t) (length (text_found s f)))
  unfolding texted if◌then◌otherwise◌
  texted-is = rw down refl

  -- A text that was written is the definition's.
  wrote-is : {n : ℕ} {t' : List ℕ} {b : Arrays} → buffered (Ok n) t' ≡ fitted (text_found s f) t → b ≡ filled (ctx_of (rooms_of a) s) f a → written (Ok n) b t' ≡ texted s a t (found f)
  unfolding fitted if◌then◌otherwise◌
  wrote-is {n} {t'} {b} e g = go (ltb (length t) (length (text_found s f))) e ∙ sym texted-is
    where
      go : (q : Bool) → buffered (Ok n) t' ≡ by_fit q → written (Ok n) b t' ≡ by_length q
      go true k = absurd (let x : Ok n ≡ Err TextFull = ap (λ (y : Buffered). y.answer) k in let z : ◌≡◌ {A = ℕ} 0 1 = cc in let y : ⊥ = omega arith in y)
      go false k =
          let x : Ok n ≡ Ok (length (text_found s f)) = ap (λ (y : Buffered). y.answer) k in
          let y : t' ≡ padded (text_found s f) (length t) = ap (λ (y : Buffered). y.text) k in
          cc

  -- A text that was refused is refused by the definition.
  full_is : {x : Refusal} {t' : List ℕ} {b : Arrays} → buffered (Err x) t' ≡ fitted (text_found s f) t → b ≡ cleared_arrays a → written (Err x) b t' ≡ texted s a t (found f)
  unfolding fitted if◌then◌otherwise◌
  full_is {x} {t'} {b} e g = go (ltb (length t) (length (text_found s f))) e ∙ sym texted-is
    where
      go : (q : Bool) → buffered (Err x) t' ≡ by_fit q → written (Err x) b t' ≡ by_length q
      go true k =
          let v : Err x ≡ Err TextFull = ap (λ (y : Buffered). y.answer) k in
          let y : t' ≡ zeroed t = ap (λ (y : Buffered). y.text) k in
          cc
      go false k = absurd (let v : Err x ≡ Ok (length (text_found s f)) = ap (λ (y : Buffered). y.answer) k in let z : ◌≡◌ {A = ℕ} 0 1 = cc in let y : ⊥ = omega arith in y)

-- With the flag up all is set to 0.
flagged-is : (s : List ℕ) (a : Arrays) (t : List ℕ) (f : Found) → f.flag ≡ true → written (Err Flagged) (cleared_arrays a) (zeroed t) ≡ texted s a t (found f)
unfolding texted if◌then◌otherwise◌
flagged-is s a t f e = rw e refl

module _ (s : List ℕ) (b : Arrays) (m : Summary) where
  -- The flag is up.
  pub flagged : {t t' : List ℕ} {g : Arrays} → m.flag ≡ true → g ≡ cleared_arrays b → t' ≡ zeroed t → Texts s b m t (written (Err Flagged) g t')
  flagged {t} e c k =
      record {
        does = λ a f z.
            ap₂ (λ (x : Arrays) (v : List ℕ). written (Err Flagged) x v) (c ∙ z.cleared) k
            ∙ flagged-is s a t f (sym (flag_is s b m a f z) ∙ e);
      }

  module _ {t t' : List ℕ} {u : Texting} (e : m.flag ≡ false) {I : Inp} (i : I ≡ cut_to s b m.tokens m.nodes) (r : Fronts (program_l I) t (length I.heads) u t') where
    -- What is in the buffer is the text of what was found.
    front-is : (a : Arrays) (f : Found) → LeftBy s b m a f → buffered u t' ≡ fitted (text_found s f) t
    front-is a f z =
        let d : Shown s f = shown s a f z.reads (sym (flag_is s b m a f z) ∙ e) in
        let q : Fronts (program_l (cut_to s b m.tokens m.nodes)) t (length (take m.nodes b.heads)) u t' = subst (λ (J : Inp). Fronts (program_l J) t (length J.heads) u t') i r in
        q.does d.program 0 (stands s b m a f z d) ∙ ap (λ (v : List ℕ). fitted v t) (sym (shows-text s f d.program d.ok d.fine d.shows))

    -- The text is written.
    pub wrote : {n : ℕ} → u ≡ Ok n → Texts s b m t (written (Ok n) b t')
    wrote k =
        record {
          does = λ a f z.
              wrote-is s a t f (sym (flag_is s b m a f z) ∙ e) (ap (λ (v : Texting). buffered v t') (sym k) ∙ front-is a f z) z.arrays;
        }

    -- It is refused.
    pub full : {x : Refusal} {g : Arrays} → u ≡ Err x → g ≡ cleared_arrays b → Texts s b m t (written (Err x) g t')
    full k c =
        record {
          does = λ a f z.
              full_is s a t f (sym (flag_is s b m a f z) ∙ e) (ap (λ (v : Texting). buffered v t') (sym k) ∙ front-is a f z) (c ∙ z.cleared);
        }

-- ── the reading ──

-- the reading found this, and left it
record Kept (s : List ℕ) (a b : Arrays) (m : Summary) : Type 0 where
  what : Found
  read_is : read (rooms_of a) s ≡ found what
  by : LeftBy s b m a what

-- A reading that answered so.
kept : (s : List ℕ) (a b : Arrays) (m : Summary) → entry s a ≡ passed → cleared_arrays b ≡ cleared_arrays a → called (Ok m) b ≡ answered s a (read (rooms_of a) s) → Kept s a b m
unfolding answered
kept s a b m e long c = go (read (rooms_of a) s) refl c
  where
    go : (o : Outcome) → read (rooms_of a) s ≡ o → called (Ok m) b ≡ answered s a o → Kept s a b m
    go (found f) k d =
        let x : Ok m ≡ Ok (summary (ctx_of (rooms_of a) s) f) = ap (λ (y : Called Reading). y.answer) d in
        record {
          what = f;
          read_is = k;
          by = record { reads = record { entered = e; found_it = k }; answer = cc; arrays = ap (λ (y : Called Reading). y.arrays) d; cleared = long };
        }
    go (refused x) k d = absurd (let v : Ok m ≡ Err x = ap (λ (y : Called Reading). y.answer) d in let z : ◌≡◌ {A = ℕ} 0 1 = cc in let y : ⊥ = omega arith in y)

-- Arrays that are as long as others are the same, set to 0.
same-cleared : {b a : Arrays} → SameLong b a → cleared_arrays b ≡ cleared_arrays a
same-cleared {b} {a} n =
    same-arrays (zeroed-long b.offs a.offs n.offs) (zeroed-long b.words a.words n.words) (zeroed-long b.heads a.heads n.heads) (zeroed-long b.loads a.loads n.loads)
    (zeroed-long b.symbols a.symbols n.symbols) (zeroed-long b.places a.places n.places) (zeroed-long b.reasons a.reasons n.reasons)

module _ (s : List ℕ) (a : Arrays) {b : Arrays} {u : Reading} (c : called u b ≡ answered s a (read (rooms_of a) s)) where
  -- what the writing may assume
  pub left_is : {m : Summary} → entry s a ≡ passed → SameLong b a → u ≡ Ok m → Left s b m
  left_is {m} e long k = let z = kept s a b m e (same-cleared long) (ap (λ (x : Reading). called x b) (sym k) ∙ c) in record { lent = a; what = z.what; by = z.by }

  -- what was written is the definition's
  pub texts-is : {m : Summary} {t : List ℕ} {v : Written} → entry s a ≡ passed → SameLong b a → u ≡ Ok m → Texts s b m t v → v ≡ texted s a t (read (rooms_of a) s)
  texts-is {m} {t} e long k q = let z = kept s a b m e (same-cleared long) (ap (λ (x : Reading). called x b) (sym k) ∙ c) in q.does a z.what z.by ∙ ap (texted s a t) (sym z.read_is)

  -- the reading is refused
  pub refused-is : (t : List ℕ) {x : Refusal} {t' : List ℕ} → u ≡ Err x → t' ≡ zeroed t → written (Err x) b t' ≡ texted s a t (read (rooms_of a) s)
  unfolding answered texted
  refused-is t {x} {t'} k g = go (read (rooms_of a) s) (ap (λ (y : Reading). called y b) (sym k) ∙ c)
    where
      go : (o : Outcome) → called (Err x) b ≡ answered s a o → written (Err x) b t' ≡ texted s a t o
      go (found f) d = absurd (let v : Err x ≡ Ok (summary (ctx_of (rooms_of a) s) f) = ap (λ (y : Called Reading). y.answer) d in let z : ◌≡◌ {A = ℕ} 0 1 = cc in let y : ⊥ = omega arith in y)
      go (refused y) d =
          let v : Err x ≡ Err y = ap (λ (z : Called Reading). z.answer) d in
          let n : b ≡ cleared_arrays a = ap (λ (z : Called Reading). z.arrays) d in
          let i : t' ≡ zeroed t = g in
          cc

-- ── entry ──

module _ (s : List ℕ) (a : Arrays) (t : List ℕ) where
  -- what is left, by what the tests of entry say
  abbrev text_by : Checked → Written
  text_by k = elim k [ Err f ↦ written (Err f) a t | Ok _ ↦ texted s a t (read (rooms_of a) s) ]

  -- The definition's call is that.
  text-by : text_by (entry s a) ≡ text_call s a t
  unfolding text_call
  text-by = refl

  module _ {k : Checked} (e : k ≡ entry s a) where
    -- The tests let it pass.
    pub text-on : {x : Written} → k ≡ passed → x ≡ texted s a t (read (rooms_of a) s) → x ≡ text_call s a t
    text-on f g = g ∙ sym (ap text_by (sym e ∙ f)) ∙ text-by

    -- They refuse it.
    pub text-not : {f : Refusal} → k ≡ Err f → written (Err f) a t ≡ text_call s a t
    text-not g = sym (ap text_by (sym e ∙ g)) ∙ text-by
