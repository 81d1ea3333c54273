-- Demand 3 of the definition (Demand.antt has its words), from the two halves of the round trip.
use Rattle.std.specs.Prelude.{ℕ, ◌≡◌, refl, ◌↔◌, false, not, T}
use Rattle.std.proofs.Common.{sym, ◌∙◌, subst, arith}
use Rattle.std.proofs.Math.Path.{ap}
use mathlib.Core.List.{List, [], ◌∷◌, map, reverse, reverse_aux}
use Rattle.std.proofs.Math.Option.{none}
use Rattle.sifc_err.specs.declared.Refusal.{Refusal}
use Rattle.sifc_err.specs.declared.Refusal.TheVariants.{LongScript, NotAscii, Uneven, TokensFull, SourceFault, TooDeep, NodesFull, SymbolsFull, ErrorsFull, Flagged, TextFull}
use Rattle.sifc_word.specs.Base.{member}
use Rattle.sifc_lex.specs.Lex.{lex}
use Rattle.sifc_def.specs.State.{Node, St, Out, done, fail, refuse}
use Rattle.sifc_def.specs.Label.{Lab, label, labels}
use Rattle.sifc_def.specs.Walk.{End, walk}
use Rattle.sifc_def.specs.Text.{text}
use Rattle.sifc_def.specs.Read.{depth_limit, Arrays, Rooms, rooms_of, Found, Outcome, found, refused, ctx_of, read, reading, text_found, text_call}
use Rattle.sifc_def.specs.Typed.{Stmts, renc_program, OkProgram, SaidSs}
use Rattle.sifc_def.proofs.Round.{of_size, Res}
use Rattle.sifc_def.proofs.Round.Program.{ReadAs, program-read}
use Rattle.sifc_def.proofs.Round.Sound.{Win}
use Rattle.sifc_def.proofs.Round.Sound.Program.{IsProgram, program-is-typed}
use Rattle.sifc_def.proofs.Canon.Bytes.{Fine}
use Rattle.sifc_def.proofs.Canon.Lexed.{FromScript, from-script-fine, carry-Ss}
use Rattle.sifc_def.proofs.Canon.Kinded.{IfToken, token-Ss}
use Rattle.sifc_def.proofs.Canon.Laws.{print, text-print, print-words, print-calm, print-passes}
use Rattle.sifc_def.proofs.Canon.Kinds.{Small, small-program}
use Rattle.sifc_def.specs.Canon.Demand.{size_or_depth, Fits, FitsText, FlagDown, SameTree, Writes, Lent, its_reading, its_text, canonical, AllFit, RoundTrip, Demand3}
use Rattle.sifc_def.proofs.Canon.Same.{Told, told, labels-same, same-labels}
use Rattle.sifc_def.proofs.Canon.Calls.{plain-script, Finds, finds, cramped, other-rooms, walked, done-found, refused-too, Reads, reads-reading, Down, flag-down, fits-reads, fits-text, writes_bytes, down-ascii}

-- ── lists ──

-- A map over a reversed list.
map_reverse_aux : {A B : Type 0} (f : A → B) (xs ys : List A) → map f (reverse_aux xs ys) ≡ reverse_aux (map f xs) (map f ys)
map_reverse_aux f [] ys = refl
map_reverse_aux f (x ∷ xs) ys = map_reverse_aux f xs (x ∷ ys)

-- Labels newest first, and oldest first.
turned : (s : List ℕ) (ns : List Node) (xs : List Lab) → labels s (lex s) ns ≡ xs → labels s (lex s) (reverse ns) ≡ reverse xs
turned s ns xs e = map_reverse_aux (label s (lex s)) ns [] ∙ ap reverse e

-- a refusal 6 to 9 is one for size or depth
deep-size : (x : Refusal) → T (of_size x) → T (size_or_depth x)
unfolding of_size size_or_depth member
deep-size LongScript t = tt
deep-size (NotAscii o) t = absurd t
deep-size Uneven t = tt
deep-size TokensFull t = tt
deep-size (SourceFault k o) t = absurd t
deep-size TooDeep t = tt
deep-size NodesFull t = tt
deep-size SymbolsFull t = tt
deep-size ErrorsFull t = tt
deep-size Flagged t = absurd t
deep-size TextFull t = tt

-- ── what is known of a script that is read with the flag down ──

-- what f has found in the script s is the typed program ts
pub record Shows (s : List ℕ) (f : Found) (ts : Stmts) : Type 0 where
  pub toks : f.toks ≡ lex s
  pub flag : f.flag ≡ false
  pub labelled : labels s (lex s) f.nodes ≡ reverse (renc_program ts)

-- The canonical text of what shows a typed program is its print.
pub shows-text : (s : List ℕ) (f : Found) (ts : Stmts) → OkProgram ts → SaidSs Fine ts → Shows s f ts → text_found s f ≡ print ts
unfolding text_found
shows-text s f ts ok fine h = rw (h.toks, h.labelled) (text-print ts ok fine)

-- Its labels have kinds of nodes.
shows-small : (s : List ℕ) (f : Found) (ts : Stmts) → Shows s f ts → Small (labels s (lex s) f.nodes)
shows-small s f ts h = rw h.labelled (small-program ts)

-- The arrays of a reading tell of the nodes that it finds.
reads-told : (s : List ℕ) (a : Arrays) (f : Found) → Reads s a f → f.toks ≡ lex s → Told s f.nodes (reading s a)
reads-told s a f h e = rw (reads-reading s a f h) (told s (ctx_of (rooms_of a) s) f a e)

-- the reading of p in the rooms r shows ts, or is refused for size or depth
data Again (r : Rooms) (p : List ℕ) (ts : Stmts) : Type 0 where
  again : (f : Found) → read r p ≡ found f → Shows p f ts → Again r p ts
  tight : (x : Refusal) → read r p ≡ refused x → T (size_or_depth x) → Again r p ts

-- An outcome is not both a refusal and something found.
other-outcome : {X : Type 0} (x : Refusal) (f : Found) (o : Outcome) → o ≡ refused x → o ≡ found f → X
other-outcome x f o p q = absurd (let z : ◌≡◌ {A = ℕ} 0 1 = cc in let y : ⊥ = omega arith in y)

-- An outcome is one thing found.
pub found-same : (f g : Found) (o : Outcome) → o ≡ found f → o ≡ found g → f ≡ g
found-same f g o p q = cc

-- the typed program of a script that is read with the flag down
pub record Typed (s : List ℕ) (a : Arrays) : Type 0 where
  pub what : Found
  pub reads : Reads s a what
  pub program : Stmts
  pub ok : OkProgram program
  pub fine : SaidSs Fine program
  pub shows : Shows s what program

-- the second half of a round trip: the program ts is printed, read in the arrays a, and written by a call with the arrays b and the buffer t
record Half (ts : Stmts) (a b : Arrays) (t : List ℕ) : Type 0 where
  what : Found
  reads : Reads (print ts) a what
  shows : Shows (print ts) what ts
  itself : Writes (text_call (print ts) b t) (print ts)

-- reading a print, in any rooms
read_again : (r : Rooms) (ts : Stmts) → OkProgram ts → SaidSs Fine ts → Again r (print ts) ts
read_again r ts ok fine = go (walk (ctx_of r (print ts)) depth_limit) refl (program-read (ctx_of r (print ts)) ts depth_limit (print-calm ts ok fine) (print-words ts ok fine) ok)
  where
    settle : (f : Found) → Shows (print ts) f ts → Finds r (print ts) f → Again r (print ts) ts
    settle f h (finds k) = again f k h
    settle f h (cramped x k t) = tight x k t

    go : (o : Out End) → walk (ctx_of r (print ts)) depth_limit ≡ o → Res o (ReadAs (ctx_of r (print ts)) (renc_program ts)) → Again r (print ts) ts
    go (done e z) w h =
        let k : ReadAs (ctx_of r (print ts)) (renc_program ts) e z = unfold Res in h in
        settle _ (record { toks = refl; flag = ap (λ (x : End). x.flag) k.down; labelled = turned (print ts) z.nodes (renc_program ts) k.labs }) (done-found r (print ts) e z w)
    go (fail e z) w h = absurd (unfold Res in h)
    go (refuse x) w h = let y = refused-too r (print ts) x w (deep-size x (unfold Res in h)) in tight y.0 y.1 y.2

-- the second half, where neither call meets a refusal for size or depth
half : (ts : Stmts) (a b : Arrays) (t : List ℕ) → OkProgram ts → SaidSs Fine ts → Fits (reading (print ts) a).answer → FitsText (text_call (print ts) b t).answer → Half ts a b t
half ts a b t ok fine h k = go (read_again (rooms_of a) ts ok fine)
  where
    go : Again (rooms_of a) (print ts) ts → Half ts a b t
    go (again f m q) =
        let p = print-passes ts ok fine in
        record {
          what = f;
          reads = fits-reads (print ts) a f p (finds m) h;
          shows = q;
          itself = subst (λ (z : List ℕ). Writes (text_call (print ts) b t) z) (shows-text (print ts) f ts ok fine q) (fits-text (print ts) b t f p q.flag (other-rooms (rooms_of a) (rooms_of b) (print ts) f m) k);
        }
    go (tight x m q) =
        let f : Found = record { toks = []; nodes = []; errs = []; flag = false; early = none } in
        other-outcome x f (read (rooms_of a) (print ts)) m (fits-reads (print ts) a f (print-passes ts ok fine) (cramped x m q) h).found_it

-- all that is known of one script and its four calls
record Side (x : Lent) : Type 0 where
  typed : Typed x.script x.arrays₁
  written : Writes (its_text x) (canonical x)
  text : canonical x ≡ print typed.program
  half : Half typed.program x.arrays₃ x.arrays₄ x.buffer₄

-- the labels of a script's tree
side-labels : (x : Lent) (h : Side x) → labels x.script (lex x.script) h.typed.what.nodes ≡ reverse (renc_program h.typed.program)
side-labels x h = h.typed.shows.labelled

-- The arrays of a script's reading tell of its nodes.
side-told : (x : Lent) (h : Side x) → Told x.script h.typed.what.nodes (its_reading x)
side-told x h = reads-told x.script x.arrays₁ h.typed.what h.typed.reads h.typed.shows.toks

-- Its labels have kinds of nodes.
side-small : (x : Lent) (h : Side x) → Small (labels x.script (lex x.script) h.typed.what.nodes)
side-small x h = shows-small x.script h.typed.what h.typed.program h.typed.shows

-- what a reading answers where it finds something with the flag down
reads-down : (s : List ℕ) (a : Arrays) (f : Found) → Reads s a f → f.flag ≡ false → FlagDown (reading s a).answer
unfolding FlagDown
reads-down s a f h e = rw (reads-reading s a f h) e

-- One script's round trip.
side-trip : (x : Lent) → Side x → RoundTrip x
side-trip x h =
    let ts : Stmts = h.typed.program in
    let f : Found = h.half.what in
    let e : print ts ≡ canonical x = sym h.text in
    let t : Told (print ts) f.nodes (reading (print ts) x.arrays₃) = reads-told (print ts) x.arrays₃ f h.half.reads h.half.shows.toks in
    let m : SameTree x.script (its_reading x) (print ts) (reading (print ts) x.arrays₃) =
    labels-same x.script (print ts) h.typed.what.nodes f.nodes (its_reading x) (reading (print ts) x.arrays₃) (side-told x h) t (side-small x h)
    (side-labels x h ∙ sym h.half.shows.labelled) in
    record {
      written = h.written;
      flag_down = subst (λ (p : List ℕ). FlagDown (reading p x.arrays₃).answer) e (reads-down (print ts) x.arrays₃ f h.half.reads h.half.shows.flag);
      same_tree = subst (λ (p : List ℕ). SameTree x.script (its_reading x) p (reading p x.arrays₃)) e m;
      itself = subst (λ (p : List ℕ). Writes (text_call p x.arrays₄ x.buffer₄) p) e h.half.itself;
    }

-- Two programs with one print have the same labels: both are what one reading of it finds.
same-print : (x y : Lent) (h : Side x) (k : Side y) → print h.typed.program ≡ print k.typed.program
    → reverse (renc_program h.typed.program) ≡ reverse (renc_program k.typed.program)
same-print x y h k e = go (subst (λ (p : List ℕ). Again r p us) (sym e) (read_again r us k.typed.ok k.typed.fine))
  where
    ts : Stmts
    ts = h.typed.program

    us : Stmts
    us = k.typed.program

    r : Rooms
    r = rooms_of x.arrays₃

    f : Found
    f = h.half.what

    go : Again r (print ts) us → reverse (renc_program ts) ≡ reverse (renc_program us)
    go (again g m q) =
        sym h.half.shows.labelled
        ∙ ap (λ (z : Found). labels (print ts) (lex (print ts)) z.nodes) (found-same f g (read r (print ts)) h.half.reads.found_it m)
        ∙ q.labelled
    go (tight z m q) = other-outcome z f (read r (print ts)) m h.half.reads.found_it

-- "Their canonical texts are the same bytes exactly when their trees are the same".
exactly-when : (x y : Lent) → Side x → Side y → (canonical x ≡ canonical y) ↔ SameTree x.script (its_reading x) y.script (its_reading y)
exactly-when x y h k = (there, back)
  where
    ts : Stmts
    ts = h.typed.program

    us : Stmts
    us = k.typed.program

    there : canonical x ≡ canonical y → SameTree x.script (its_reading x) y.script (its_reading y)
    there e =
        labels-same x.script y.script h.typed.what.nodes k.typed.what.nodes (its_reading x) (its_reading y) (side-told x h) (side-told y k) (side-small x h)
        (side-labels x h ∙ same-print x y h k (sym h.text ∙ e ∙ k.text) ∙ sym (side-labels y k))

    back : SameTree x.script (its_reading x) y.script (its_reading y) → canonical x ≡ canonical y
    back m =
        let e : reverse (renc_program ts) ≡ reverse (renc_program us) =
        sym (side-labels x h)
        ∙ same-labels x.script y.script h.typed.what.nodes k.typed.what.nodes (its_reading x) (its_reading y) (side-told x h) (side-told y k) (side-small x h) (side-small y k) m
        ∙ side-labels y k in
        h.text ∙ sym (text-print ts h.typed.ok h.typed.fine) ∙ ap text e ∙ text-print us k.typed.ok k.typed.fine ∙ sym k.text

-- SOUND, of a walk of a script that is done with the flag down: a typed program, each of its words one of the script's.
typed-walk : (r : Rooms) (s : List ℕ) (e : End) (z : St) → walk (ctx_of r s) depth_limit ≡ done e z → e.flag ≡ false → IsProgram (ctx_of r s) (FromScript s) (λ i. record { index = i; is = refl }) e z
unfolding Win
typed-walk r s e z w f =
    let Q : End → St → Type 0 = λ e' z'. T (not e'.flag) → IsProgram (ctx_of r s) (FromScript s) (λ i. record { index = i; is = refl }) e' z' in
    let h : Win (done e z) Q = subst (λ (o : Out End). Win o Q) w (program-is-typed (ctx_of r s) (FromScript s) (λ i. record { index = i; is = refl }) depth_limit) in
    h (rw f tt)

-- The typed program of a script that is read with the flag down.
pub typed : (s : List ℕ) (a : Arrays) → Down s a → Typed s a
typed s a d =
    let w = walked (rooms_of a) s d.what d.reads.found_it d.flag in
    let t = typed-walk (rooms_of a) s w.end w.state w.walks w.flag in
    record {
      what = d.what;
      reads = d.reads;
      program = t.trees;
      ok = t.fit;
      fine = token-Ss Fine 0 [] t.trees t.fit (carry-Ss (FromScript s) (IfToken Fine) (from-script-fine s (plain-script s (down-ascii s a d))) t.trees t.words);
      shows = record { toks = w.toks; flag = d.flag; labelled = ap (labels s (lex s)) w.nodes ∙ turned s w.state.nodes (renc_program t.trees) t.labs };
    }

-- All that is known of a script that is read with the flag down, where no call meets a refusal for size or depth.
side : (x : Lent) → FlagDown (its_reading x).answer → AllFit x → Side x
side x d h =
    let s : List ℕ = x.script in
    let n : Down s x.arrays₁ = flag-down s x.arrays₁ d in
    let t : Typed s x.arrays₁ = typed s x.arrays₁ n in
    let w : Writes (its_text x) (text_found s t.what) =
    fits-text s x.arrays₂ x.buffer₂ t.what (down-ascii s x.arrays₁ n) t.shows.flag
    (other-rooms (rooms_of x.arrays₁) (rooms_of x.arrays₂) s t.what t.reads.found_it) h.text in
    let e : canonical x ≡ text_found s t.what = writes_bytes (its_text x) (text_found s t.what) w in
    let p : canonical x ≡ print t.program = e ∙ shows-text s t.what t.program t.ok t.fine t.shows in
    record {
      typed = t;
      written = subst (λ (z : List ℕ). Writes (its_text x) z) (sym e) w;
      text = p;
      half =
          half t.program x.arrays₃ x.arrays₄ x.buffer₄ t.ok t.fine (subst (λ (z : List ℕ). Fits (reading z x.arrays₃).answer) p h.next)
          (subst (λ (z : List ℕ). FitsText (text_call z x.arrays₄ x.buffer₄).answer) p h.next_text);
    }

-- Demand 3: take any two scripts that are read with the flag down, whatever each of the eight calls is lent; none of the calls meets a refusal for size or
-- depth. Then their canonical texts are the same bytes exactly when their trees are the same, and for each of the two, reading its canonical text gives the
-- same tree with the flag down, and the canonical text of that text is itself.
pub demand3-definition : (x y : Lent) → FlagDown (its_reading x).answer → FlagDown (its_reading y).answer → AllFit x → AllFit y → Demand3 x y
demand3-definition x y d d' h h' =
    let k : Side x = side x d h in
    let k' : Side y = side y d' h' in
    record { exactly_when = exactly-when x y k k'; first_trip = side-trip x k; second_trip = side-trip y k' }
