-- The parts of the reading call together leave what the definition says.
use Rattle.std.specs.Prelude.{ℕ, zero, suc, ◌-◌, ◌/◌, ◌%◌, ◌≤◌, ◌<◌, ◌≡◌, Bool, true, false, eqb, ltb, get_or, replicate, Result, Err, Ok, Some}
use Rattle.std.proofs.Math.Path.{refl, sym, ap, ap₂}
use Rattle.std.proofs.Common.{◌∙◌, subst, arith, le-ltb, eqb-true, ltb-true, ltb-false, length-append, take-suc}
use mathlib.Core.List.{List, [], ◌∷◌, ◌++◌, map, reverse, reverse-cons, map-append}
use Rattle.std.proofs.Math.Option.{Option, none, some}
use Rattle.std.proofs.lemmas.Bool.{eqb-false}
use Rattle.std.proofs.Math.ListN.{length, take, get_or-eq_default}
use Rattle.std.proofs.lemmas.List.{length-replicate, length-reverse}
use Rattle.sifc_err.specs.declared.Token.{Token}
use Rattle.sifc_err.specs.declared.Refusal.{Refusal}
use Rattle.sifc_err.specs.declared.parse_err.ParseErrTy.{ParseErrTy}
use Rattle.sifc_tokens.specs.declared.place.Place.{Place}
use Rattle.sifc_lex.specs.Lex.{lex, ending}
use Rattle.sifc_tokens.specs.Place.{place_of}
use Rattle.sifc_tokens.specs.Tokens.{offs_of, words_of, padded, zeroed}
use Rattle.sifc_tokens.specs.Loaded.{Used}
use Rattle.sifc_tokens.proofs.TokensLaws.{padded-used}
use Rattle.sifc_def.specs.declared.Err.{Err as WalkErr}
use Rattle.sifc_def.specs.declared.Summary.{Summary}
use Rattle.sifc_def.specs.Why.{Why}
use Rattle.sifc_def.specs.Error.{ty_of, place_at, parse_err, err_place, err_reason}
use Rattle.sifc_def.specs.State.{Node, Ctx, Out, refuse, tok_at, token_at}
use Rattle.sifc_def.specs.Walk.{End, walk}
use Rattle.sifc_def.specs.Read.{Arrays, rooms_of, cleared_arrays, Found, found, fault_of, ctx_of, ended, read, bit, head_word, called, early_of, summary, filled, answered, depth_limit}
use Rattle.sifc_symtab.specs.Toks.{toks_of, toks-at, toks-past-offs}
use Rattle.sifc_step.specs.declared.walk.Limits.{Limits}
use Rattle.sifc_step.specs.declared.walk.Walked.{Walked}
use Rattle.sifc_step.specs.Abs.{Inp, inp, mem, flag_in, node_in, nodes_of}
use Rattle.sifc_step.specs.Abs as abstraction
use Rattle.sifc_step.proofs.Steps.{length-nodes}
use Rattle.sifc_step.specs.Book.{Notes, last_of, Ending, Walks}
use Rattle.sifc_step.proofs.Book.{reason-is}
use Rattle.sifc_lent.specs.Parts.{arrays, bare, place_word, place_word_at, WithinOf, Fits, summary_of, settled_of, finish_of}
use Rattle.sifc_lent.proofs.LexedLaws.{lexed-back, length-offs, length-words, used-part}

-- ── lists that are built newest first ──

-- what stands for the elements, in order, is the front of an array
reversed-more : {A : Type 0} (f : A → ℕ) (x : A) (xs : List A) (a : List ℕ) (n : ℕ) → n < length a → map f (reverse xs) ≡ take n a → f x ≡ get_or a n 0 → map f (reverse (x ∷ xs)) ≡ take (suc n) a
reversed-more f x xs a n h e g =
    ap (map f) (reverse-cons x xs) ∙ map-append f (reverse xs) (x ∷ []) ∙ ap₂ (λ (l : List ℕ) (v : ℕ). l ++ (v ∷ [])) e g ∙ sym (take-suc a n 0 h)

-- a head word says kind, flag and children
below_two : (k : ℕ) → k < 2 → (k ≡ 1 → ⊥) → 0 ≡ k
below_two zero h ne = refl
below_two (suc zero) h ne = absurd (ne refl)
below_two (suc (suc k)) h ne = absurd (let z : ⊥ = omega arith in z)

flag-bit : (h : ℕ) → bit (flag_in h) ≡ h / 32 % 2
flag-bit h = go (eqb (h / 32 % 2) 1) refl
  where
    go : (q : Bool) → eqb (h / 32 % 2) 1 ≡ q → bit q ≡ h / 32 % 2
    go true e = sym (eqb-true (h / 32 % 2) 1 e)
    go false e = below_two (h / 32 % 2) (let z : h / 32 % 2 < 2 = omega arith in z) (eqb-false (h / 32 % 2) 1 e)

head-back : (h l : ℕ) → head_word (node_in h l) ≡ h
head-back h l = let b : bit (flag_in h) ≡ h / 32 % 2 = flag-bit h in omega arith

pub heads-back : (n : ℕ) (hs ls : List ℕ) → n ≤ length hs → map head_word (reverse (nodes_of n hs ls)) ≡ take n hs
unfolding nodes_of
heads-back zero hs ls h = refl
heads-back (suc n) hs ls h =
    reversed-more head_word (node_in (get_or hs n 0) (get_or ls n 0)) (nodes_of n hs ls) hs n h (heads-back n hs ls (omega arith)) (head-back (get_or hs n 0) (get_or ls n 0))

pub loads-back : (n : ℕ) (hs ls : List ℕ) → n ≤ length ls → map (λ (x : Node). x.pay) (reverse (nodes_of n hs ls)) ≡ take n ls
unfolding nodes_of
loads-back zero hs ls h = refl
loads-back (suc n) hs ls h =
    reversed-more (λ (x : Node). x.pay) (node_in (get_or hs n 0) (get_or ls n 0)) (nodes_of n hs ls) ls n h (loads-back n hs ls (omega arith)) refl

-- ── errors ──

pub reasons-back : (c : Ctx) (ps rs : List ℕ) (E : List WalkErr) → Notes ps rs E → length E ≤ length rs → map (err_reason c) (reverse E) ≡ take (length E) rs
unfolding Notes
reasons-back c ps rs [] a h = refl
reasons-back c ps rs (e ∷ E) a h =
    reversed-more (err_reason c) e E rs (length E) h (reasons-back c ps rs E a.1.1 (omega arith)) (reason-is c e ∙ sym a.1.0)

-- the offset of a token is its word, and 0 past the tokens
off_of : (os ws : List ℕ) (i : ℕ) → length os ≡ length ws → (token_at (toks_of os ws) i).off ≡ get_or os i 0
off_of os ws i e = go (ltb i (length os)) refl
  where
    go : (q : Bool) → ltb i (length os) ≡ q → (token_at (toks_of os ws) i).off ≡ get_or os i 0
    go true f = let h : i < length os = ltb-true i (length os) f in ap (λ (t : Token). t.off) (toks-at os ws i h (omega arith))
    go false f =
        let h : length os ≤ i = ltb-false i (length os) f in
        ap (λ (t : Token). t.off) (toks-past-offs os ws i h) ∙ sym (get_or-eq_default os 0 h)

place-word : (c : Ctx) (e : WalkErr) → err_place c e ≡ place_word (place_of c.script (tok_at c e.place).off)
unfolding err_place place_at
place-word c e = refl

place_is : (c : Ctx) (os ws : List ℕ) (e : WalkErr) → length os ≡ length ws → c.toks ≡ toks_of os ws → err_place c e ≡ place_word_at c.script os e.place
unfolding place_word_at
place_is c os ws e l t =
    place-word c e ∙ ap (λ (o : ℕ). place_word (place_of c.script o)) (ap (λ (ts : List Token). (token_at ts e.place).off) t ∙ off_of os ws e.place l)

map_more : (f : ℕ → ℕ) (a : List ℕ) (n : ℕ) → n < length a → map f (take (suc n) a) ≡ map f (take n a) ++ (f (get_or a n 0) ∷ [])
map_more f a n h = ap (map f) (take-suc a n 0 h) ∙ map-append f (take n a) (get_or a n 0 ∷ [])

pub places-back : (c : Ctx) (os ws ps rs : List ℕ) (E : List WalkErr) → length os ≡ length ws → c.toks ≡ toks_of os ws → Notes ps rs E → length E ≤ length ps
    → map (err_place c) (reverse E) ≡ map (place_word_at c.script os) (take (length E) ps)
unfolding Notes
places-back c os ws ps rs [] l t a h = refl
places-back c os ws ps rs (e ∷ E) l t a h =
    ap (map (err_place c)) (reverse-cons e E) ∙ map-append (err_place c) (reverse E) (e ∷ [])
    ∙ ap₂ (λ (x : List ℕ) (v : ℕ). x ++ (v ∷ [])) (places-back c os ws ps rs E l t a.1.1 (omega arith)) (place_is c os ws e l t ∙ ap (place_word_at c.script os) (sym a.0))
    ∙ sym (map_more (place_word_at c.script os) ps (length E) h)

-- a reason looks at the tokens alone
ty_same : (c c' : Ctx) (w : Why) → c.toks ≡ c'.toks → ty_of c w ≡ ty_of c' w
ty_same c c' w e = rw e

parsed-err : (c : Ctx) (e : WalkErr) (t : Token) (q : Place) (ty : ParseErrTy Token) → t ≡ tok_at c e.place → q ≡ place_of c.script t.off → ty ≡ ty_of c e.why → record { line = q.line; pos = q.pos; ty = Some ty } ≡ parse_err c e
unfolding parse_err place_at
parsed-err c e t q ty et eq ey =
    let at : q ≡ place_of c.script (tok_at c e.place).off = eq ∙ ap (λ (x : Token). place_of c.script x.off) et in
    ap₂ (λ (p : Place) (y : ParseErrTy Token). record { line = p.line; pos = p.pos; ty = Some y }) at ey

-- the same of what was read off the script and the tokens
pub parsed-bare : (s : List ℕ) (ts : List Token) (e : WalkErr) (t : Token) (q : Place) (ty : ParseErrTy Token) → t ≡ token_at ts e.place → q ≡ place_of s t.off → ty ≡ ty_of (bare [] ts) e.why
    → record { line = q.line; pos = q.pos; ty = Some ty } ≡ parse_err (bare s ts) e
parsed-bare s ts e t q ty et eq ey = parsed-err (bare s ts) e t q ty et eq (ey ∙ ty_same (bare [] ts) (bare s ts) e.why refl)

early-same : (c : Ctx) (s : List ℕ) (ts : List Token) (o : Option WalkErr) → c.script ≡ s → c.toks ≡ ts → early_of (bare s ts) o ≡ early_of c o
unfolding parse_err place_at
early-same c s ts none es et = refl
early-same c s ts (some e) es et =
    ap Some (parsed-err c e (token_at ts e.place) (place_of s (token_at ts e.place).off) (ty_of (bare s ts) e.why) (rw et) (rw es) (ty_same (bare s ts) c e.why (sym et)))

-- ── the arrays ──

pub length-padded : (xs : List ℕ) (m : ℕ) → length xs ≤ m → length (padded xs m) ≡ m
unfolding padded
length-padded xs m h = omega (arith, length-append xs (replicate (m - length xs) 0), length-replicate {A = ℕ} (m - length xs) 0)

-- An array set to 0, by its length.
pub zeroed-long : (x y : List ℕ) → length x ≡ length y → zeroed x ≡ zeroed y
unfolding zeroed
zeroed-long x y e = ap (λ (n : ℕ). replicate n 0) e

pub same-arrays : {o w h l y p r o' w' h' l' y' p' r' : List ℕ} → o ≡ o' → w ≡ w' → h ≡ h' → l ≡ l' → y ≡ y' → p ≡ p' → r ≡ r' → arrays o w h l y p r ≡ arrays o' w' h' l' y' p' r'
same-arrays eo ew eh el ey ep er = cc

-- b is what the arrays a hold after lexing and the walk: as long as they were, and the tokens in front
pub record Held (s : List ℕ) (a b : Arrays) : Type 0 where
  pub fits : length (lex s) ≤ length a.offs
  pub even : length a.offs ≡ length a.words
  pub offs : b.offs ≡ padded (offs_of (lex s)) (length a.offs)
  pub words : b.words ≡ padded (words_of (lex s)) (length a.words)
  pub heads : length b.heads ≡ length a.heads
  pub loads : length b.loads ≡ length a.loads
  pub symbols : length b.symbols ≡ length a.symbols
  pub places : length b.places ≡ length a.places
  pub reasons : length b.reasons ≡ length a.reasons

module _ (s : List ℕ) (a b : Arrays) (d : Held s a b) where
  long-offs : length b.offs ≡ length a.offs
  long-offs = ap length d.offs ∙ length-padded (offs_of (lex s)) (length a.offs) (omega (arith, length-offs (lex s), d.fits))

  long-words : length b.words ≡ length a.words
  long-words = ap length d.words ∙ length-padded (words_of (lex s)) (length a.words) (omega (arith, length-words (lex s), d.fits, d.even))

  cleared-long : cleared_arrays b ≡ cleared_arrays a
  cleared-long = same-arrays (zeroed-long b.offs a.offs long-offs) (zeroed-long b.words a.words long-words) (zeroed-long b.heads a.heads d.heads) (zeroed-long b.loads a.loads d.loads) (zeroed-long b.symbols a.symbols d.symbols) (zeroed-long b.places a.places d.places) (zeroed-long b.reasons a.reasons d.reasons)

  module _ (n : ℕ) (is : n ≡ length (lex s)) where
    pub used-offs : take n b.offs ≡ offs_of (lex s)
    used-offs = ap (take n) d.offs ∙ used-part (offs_of (lex s)) n (length a.offs) (length-offs (lex s) ∙ sym is)

    pub used-words : take n b.words ≡ words_of (lex s)
    used-words = ap (take n) d.words ∙ used-part (words_of (lex s)) n (length a.words) (length-words (lex s) ∙ sym is)

    pub used-toks : toks_of (take n b.offs) (take n b.words) ≡ lex s
    used-toks = ap₂ toks_of used-offs used-words ∙ lexed-back s

    used-even : length (take n b.offs) ≡ length (take n b.words)
    used-even = ap length used-offs ∙ length-offs (lex s) ∙ sym (ap length used-words ∙ length-words (lex s))

    module _ (l : Limits) (room : l.errors ≡ length a.places) (fault : l.fault ≡ fault_of (ending s)) where
      abbrev I : Inp
      I = inp s (take n b.offs) (take n b.words) l

      abbrev c : Ctx
      c = ctx_of (rooms_of a) s

      -- the walk's context is the definition's
      same-ctx : abstraction.ctx_of I (mem a.symbols a.heads a.loads) ≡ c
      same-ctx = let t : toks_of (take n b.offs) (take n b.words) ≡ lex s = used-toks in cc

      read_is : (o : Out End) → walk (abstraction.ctx_of I (mem a.symbols a.heads a.loads)) depth_limit ≡ o → read (rooms_of a) s ≡ ended (lex s) o
      unfolding read
      read_is o e = rw (le-ltb (length a.offs) (length (lex s)) d.fits, read) (ap (ended (lex s)) (ap (λ (x : Ctx). walk x depth_limit) (sym same-ctx) ∙ e))

      finish-refused : (f : Refusal) → walk (abstraction.ctx_of I (mem a.symbols a.heads a.loads)) depth_limit ≡ refuse f → finish_of s n (Err f) b ≡ answered s a (read (rooms_of a) s)
      unfolding finish_of answered ended
      finish-refused f e = ap (called (Err f)) cleared-long ∙ ap (answered s a) (sym (read_is (refuse f) e))

      module _ (z : Walked) (w : Ending I (mem a.symbols a.heads a.loads) z (mem b.symbols b.heads b.loads) b.places b.reasons) where
        abbrev what : Found
        what = record { toks = lex s; nodes = reverse (nodes_of z.nodes b.heads b.loads); errs = reverse w.listed; flag = z.flag; early = last_of z.last }

        read_found : read (rooms_of a) s ≡ found what
        unfolding ended
        read_found = read_is _ w.is

        -- the counts and the error that ended it
        told : summary_of s (take n b.offs) (take n b.words) z ≡ summary c what
        unfolding summary_of
        told =
            let et : length (take n b.offs) ≡ length (lex s) = ap length used-offs ∙ length-offs (lex s) in
            let en : z.nodes ≡ length (reverse (nodes_of z.nodes b.heads b.loads)) = sym (length-reverse (nodes_of z.nodes b.heads b.loads) ∙ length-nodes z.nodes b.heads b.loads) in
            let ee : z.errors ≡ length (reverse w.listed) = sym (length-reverse w.listed ∙ w.errors) in
            let ey : early_of (bare s (toks_of (take n b.offs) (take n b.words))) (last_of z.last) ≡ early_of c (last_of z.last) = early-same c s (toks_of (take n b.offs) (take n b.words)) (last_of z.last) refl (sym used-toks) in
            cc

        used-heads : z.nodes ≤ length b.heads
        used-heads = w.fine.used

        used-loads : z.nodes ≤ length b.loads
        used-loads = omega (arith, w.fine.used, w.fine.even)

        -- the arrays
        left : length b.places ≡ length b.reasons → settled_of s (take n b.offs) z b ≡ filled c what a
        unfolding settled_of
        left even =
            same-arrays
            d.offs
            d.words
            (ap₂ padded (sym (heads-back z.nodes b.heads b.loads used-heads)) d.heads)
            (ap₂ padded (sym (loads-back z.nodes b.heads b.loads used-loads)) d.loads)
            (zeroed-long b.symbols a.symbols d.symbols)
            (ap₂ padded (ap (λ (k : ℕ). map (place_word_at s (take n b.offs)) (take k b.places)) (sym w.errors) ∙ sym (places-back c (take n b.offs) (take n b.words) b.places b.reasons w.listed used-even (sym used-toks) w.notes (omega (arith, w.errors, w.room)))) d.places)
            (ap₂ padded (ap (λ (k : ℕ). take k b.reasons) (sym w.errors) ∙ sym (reasons-back c b.places b.reasons w.listed w.notes (omega (arith, w.errors, w.room)))) d.reasons)

        finish-found : length b.places ≡ length b.reasons → finish_of s n (Ok z) b ≡ answered s a (read (rooms_of a) s)
        unfolding finish_of answered
        finish-found even = ap₂ (λ (m : Summary) (z : Arrays). called (Ok m) z) told (left even) ∙ ap (answered s a) (sym read_found)

      -- what the walk gave lies in the arrays
      pub fits-is : (r : Result Walked Refusal) → length s < 65536 → length a.places ≡ length a.reasons → Walks I (mem a.symbols a.heads a.loads) r (mem b.symbols b.heads b.loads) b.places b.reasons → Fits s b n r
      fits-is r h e w =
          record {
            short = h;
            offs = subst (Used n) (sym d.offs) (padded-used (offs_of (lex s)) n (length a.offs) (length-offs (lex s) ∙ sym is));
            words = subst (Used n) (sym d.words) (padded-used (words_of (lex s)) n (length a.words) (length-words (lex s) ∙ sym is));
            within = go r w;
          }
        where
          go : (z : Result Walked Refusal) → Walks I (mem a.symbols a.heads a.loads) z (mem b.symbols b.heads b.loads) b.places b.reasons → WithinOf b z
          go (Err f) v = tt
          go (Ok z) v = record { heads = v.fine.used; loads = omega (arith, v.fine.used, v.fine.even); places = v.room; reasons = omega (arith, v.room, e, d.places, d.reasons) }

      -- What the walk gave, made into the answer, is the definition's.
      pub finish-is : (r : Result Walked Refusal) → length a.places ≡ length a.reasons → Walks I (mem a.symbols a.heads a.loads) r (mem b.symbols b.heads b.loads) b.places b.reasons → finish_of s n r b ≡ answered s a (read (rooms_of a) s)
      finish-is (Err f) e w = finish-refused f w
      finish-is (Ok z) e w = finish-found z w (d.places ∙ e ∙ sym d.reasons)
