-- What a call's answer says of what was read, and the other way round: entry, the token room, the walk.
use Rattle.std.specs.Prelude.{ℕ, suc, ◌-◌, ◌≤◌, ◌≡◌, refl, Bool, not, ◌⊎◌, ltb, length, replicate, Err, Ok}
use Rattle.std.proofs.Math.Path.{sym, ap, subst}
use Rattle.std.proofs.Common.{◌∙◌, inl, inr, arith, nltb→le}
use mathlib.Core.List.{List, [], ◌∷◌, reverse}
use Rattle.std.proofs.Math.Option.{some}
use Rattle.std.proofs.Math.Bool.{true, false}
use Rattle.std.proofs.Math.Dec.{T}
use Rattle.std.proofs.Math.Seq.{take-append_seam}
use Rattle.sifc_err.specs.declared.Token.{Token}
use Rattle.sifc_err.specs.declared.Refusal.{Refusal}
use Rattle.sifc_err.specs.declared.Refusal.TheVariants.{LongScript, NotAscii, Uneven, TokensFull, SourceFault, TooDeep, NodesFull, SymbolsFull, ErrorsFull, Flagged, TextFull}
use Rattle.sifc_word.specs.Base.{if◌then◌otherwise◌, member, span}
use Rattle.sifc_lex.specs.Lex.{ascii as is_ascii, lex, ending}
use Rattle.sifc_def.specs.Answer.{Reading, Texting}
use Rattle.sifc_def.specs.State.{St, Out, done, fail, refuse}
use Rattle.sifc_def.specs.Walk.{End, walk}
use Rattle.sifc_tokens.specs.Tokens.{Checked, passed, padded, zeroed, check_of}
use Rattle.sifc_def.specs.Read.{depth_limit, Arrays, Rooms, rooms_of, cleared_arrays, even, entry, Found, Outcome, found, refused, fault_of, ctx_of, ended, read, Called, called, summary, filled, answered, reading, Written, written, text_found, texted, text_call}
use Rattle.sifc_def.proofs.Canon.Bytes.{Plain}
use Rattle.sifc_def.specs.Canon.Demand.{size_or_depth, Fits, FitsText, FlagDown, Writes, answered_bytes, bytes_of}
use Rattle.sifc_def.proofs.Canon.Rooms.{for_room, Alike, same_out, left_out, right-out, walk-alike}

-- ── the definition's calls, one step open ──

-- a reading, by what entry says and by what is read
by_entry : List ℕ → Arrays → Checked → Outcome → Called Reading
by_entry s a x o = elim x [ Err r ↦ called (Err r) a | Ok _ ↦ answered s a o ]

-- The reading call is that.
reading-is : (s : List ℕ) (a : Arrays) → reading s a ≡ by_entry s a (entry s a) (read (rooms_of a) s)
unfolding reading by_entry
reading-is s a = refl

-- a text call, likewise
by_entry_text : List ℕ → Arrays → List ℕ → Checked → Outcome → Written
by_entry_text s a t x o = elim x [ Err r ↦ written (Err r) a t | Ok _ ↦ texted s a t o ]

-- The text call is that.
text-is : (s : List ℕ) (a : Arrays) (t : List ℕ) → text_call s a t ≡ by_entry_text s a t (entry s a) (read (rooms_of a) s)
unfolding text_call by_entry_text
text-is s a t = refl

-- what is read, by whether the tokens lack room and by how the walk ends
by_room : List Token → Bool → Out End → Outcome
by_room ts q o = elim q [ true ↦ refused TokensFull | false ↦ ended ts o ]

-- What is read is that.
read_is : (r : Rooms) (s : List ℕ) → read r s ≡ by_room (lex s) (ltb r.tokens (length (lex s))) (walk (ctx_of r s) depth_limit)
unfolding read by_room
read_is r s = refl

-- ── entry ──

-- there is a refusal for size or depth
unfoldable pub Sized : Checked → Type 0
Sized (Ok _) = ⊥
Sized (Err r) = T (size_or_depth r)

-- what entry says, by its three tests: over 65,535 bytes, a byte of 128 or more, arrays of one length
by_tests : List ℕ → Bool → Bool → Bool → Checked
unfolding if◌then◌otherwise◌
by_tests s p q e = elim (if p then Err LongScript otherwise if q then Err (NotAscii (span is_ascii s)) otherwise passed) [ Err r ↦ Err r | Ok _ ↦ if e then passed otherwise Err Uneven ]

-- Entry is that.
entry-is : (s : List ℕ) (a : Arrays) → entry s a ≡ by_tests s (ltb 65535 (length s)) (ltb (span is_ascii s) (length s)) (even a)
unfolding entry check_of by_tests
entry-is s a = refl

-- a refusal is none
refused-fine : {X : Type 0} (r : Refusal) → Err r ≡ passed → X
refused-fine r e = absurd (let z : ◌≡◌ {A = ℕ} 0 1 = cc in let y : ⊥ = omega arith in y)

-- a script that is not refused is ASCII
ascii-only : (s : List ℕ) (a : Arrays) → entry s a ≡ passed → ltb (span is_ascii s) (length s) ≡ false
unfolding by_tests if◌then◌otherwise◌
ascii-only s a h = go (ltb 65535 (length s)) (ltb (span is_ascii s) (length s)) (even a) (sym (entry-is s a) ∙ h)
  where
    go : (p q e : Bool) → by_tests s p q e ≡ passed → q ≡ false
    go true q e h = refused-fine LongScript h
    go false true e h = refused-fine (NotAscii (span is_ascii s)) h
    go false false e h = refl

-- an ASCII script is refused for size, or not at all
entry-ascii : (s : List ℕ) (a : Arrays) → ltb (span is_ascii s) (length s) ≡ false → (entry s a ≡ passed) ⊎ Sized (entry s a)
unfolding by_tests if◌then◌otherwise◌ Sized size_or_depth member
entry-ascii s a h = rw (entry-is s a) (go (ltb 65535 (length s)) (ltb (span is_ascii s) (length s)) (even a) h)
  where
    go : (p q e : Bool) → q ≡ false → (by_tests s p q e ≡ passed) ⊎ Sized (by_tests s p q e)
    go true q e h = inr tt
    go false true e h = absurd (subst (λ (x : Bool). T x) h tt)
    go false false true h = inl refl
    go false false false h = inr tt

-- Where every byte passes the test, all are ASCII.
plain-span : (s : List ℕ) → length s ≤ span is_ascii s → Plain s
unfolding Plain span
plain-span [] h = tt
plain-span (b ∷ s) h = go (is_ascii b) refl h (plain-span s)
  where
    go : (q : Bool) → is_ascii b ≡ q → suc (length s) ≤ (elim q [ true ↦ suc (span is_ascii s) | false ↦ 0 ]) → (length s ≤ span is_ascii s → Plain s) → T (is_ascii b) × Plain s
    go true e k ih = (rw e tt, ih (omega arith))
    go false e k ih = absurd (let z : ⊥ = omega arith in z)

-- The bytes of a script that is not refused at entry are all below 128.
pub plain-script : (s : List ℕ) → ltb (span is_ascii s) (length s) ≡ false → Plain s
plain-script s h = plain-span s (nltb→le (span is_ascii s) (length s) (rw h tt))

-- ── what the walk finds, by rooms ──

-- the reading of s in the rooms r finds f, or is refused for size or depth
pub data Finds (r : Rooms) (s : List ℕ) (f : Found) : Type 0 where
  finds : read r s ≡ found f → Finds r s f
  cramped : (x : Refusal) → read r s ≡ refused x → T (size_or_depth x) → Finds r s f

-- A refusal for room is one for size or depth.
room-size : (x : Refusal) → T (for_room x) → T (size_or_depth x)
unfolding for_room size_or_depth member
room-size LongScript t = tt
room-size (NotAscii o) t = absurd t
room-size Uneven t = tt
room-size TokensFull t = tt
room-size (SourceFault k o) t = absurd t
room-size TooDeep t = tt
room-size NodesFull t = tt
room-size SymbolsFull t = tt
room-size ErrorsFull t = tt
room-size Flagged t = absurd t
room-size TextFull t = tt

-- An outcome is not both a refusal and something found.
clash : {X : Type 0} (x : Refusal) (f : Found) → refused x ≡ found f → X
clash x f e = absurd (let z : ◌≡◌ {A = ℕ} 0 1 = cc in let y : ⊥ = omega arith in y)

-- Rooms of another size find the same, or are too small.
pub other-rooms : (r r' : Rooms) (s : List ℕ) (f : Found) → read r s ≡ found f → Finds r' s f
other-rooms r r' s f e =
    go (ltb r.tokens (length (lex s))) (ltb r'.tokens (length (lex s)))
    (walk-alike s (lex s) (fault_of (ending s)) r.nodes r.symbols r.errors r'.nodes r'.symbols r'.errors depth_limit) (sym (read_is r s) ∙ e) (read_is r' s)
  where
    within : (o o' : Out End) → Alike o o' → ended (lex s) o ≡ found f → read r' s ≡ ended (lex s) o' → Finds r' s f
    within o o' (same_out z) h k = finds (k ∙ h)
    within o o' (left_out x z t) h k = clash x f (unfold ended in h)
    within o o' (right-out x z t) h k = cramped x (unfold ended in k) (room-size x t)

    go : (p q : Bool) {o o' : Out End} → Alike o o' → by_room (lex s) p o ≡ found f → read r' s ≡ by_room (lex s) q o' → Finds r' s f
    go true q {o} {o'} a h k = clash TokensFull f (unfold by_room in h)
    go false true {o} {o'} a h k = cramped TokensFull (unfold by_room in k) (unfold size_or_depth member in tt)
    go false false {o} {o'} a h k = within o o' a (unfold by_room in h) (unfold by_room in k)

-- An answer without a refusal does not change with the rooms.
pub rooms-agree : (r r' : Rooms) (s : List ℕ) (f g : Found) → read r s ≡ found f → read r' s ≡ found g → f ≡ g
rooms-agree r r' s f g e h = go (other-rooms r r' s f e)
  where
    go : Finds r' s f → f ≡ g
    go (finds k) = cc
    go (cramped x k t) = clash x g (sym k ∙ h)

-- what the definition's walk comes to, where a reading finds f with the flag down
pub record Walked (r : Rooms) (s : List ℕ) (f : Found) : Type 0 where
  pub end : End
  pub state : St
  pub walks : walk (ctx_of r s) depth_limit ≡ done end state
  pub flag : end.flag ≡ false
  pub nodes : f.nodes ≡ reverse state.nodes
  pub toks : f.toks ≡ lex s

-- what an outcome has found
found_or : Found → Outcome → Found
found_or d (found f) = f
found_or d (refused x) = d

-- A reading that finds f with the flag down is a walk that is done.
pub walked : (r : Rooms) (s : List ℕ) (f : Found) → read r s ≡ found f → f.flag ≡ false → Walked r s f
walked r s f e b = go (ltb r.tokens (length (lex s))) (walk (ctx_of r s) depth_limit) refl (sym (read_is r s) ∙ e)
  where
    within : (o : Out End) → walk (ctx_of r s) depth_limit ≡ o → ended (lex s) o ≡ found f → Walked r s f
    within (done x z) w h =
        let g : record { toks = lex s; nodes = reverse z.nodes; errs = reverse z.errs; flag = x.flag; early = x.early } ≡ f = unfold ended found_or in ap (found_or f) h in
        record { end = x; state = z; walks = w; flag = ap (λ (y : Found). y.flag) g ∙ b; nodes = sym (ap (λ (y : Found). y.nodes) g); toks = sym (ap (λ (y : Found). y.toks) g) }
    within (fail x z) w h =
        let g : record { toks = lex s; nodes = reverse z.nodes; errs = reverse z.errs; flag = true; early = some x } ≡ f = unfold ended found_or in ap (found_or f) h in
        absurd (subst (λ (y : Bool). T y) (ap (λ (y : Found). y.flag) g ∙ b) tt)
    within (refuse x) w h = clash x f (unfold ended in h)

    go : (p : Bool) (o : Out End) → walk (ctx_of r s) depth_limit ≡ o → by_room (lex s) p o ≡ found f → Walked r s f
    go true o w h = clash TokensFull f (unfold by_room in h)
    go false o w h = within o w (unfold by_room in h)

-- A walk that is done with the flag down is what a reading finds, if the tokens have room.
pub done-found : (r : Rooms) (s : List ℕ) (x : End) (z : St) → walk (ctx_of r s) depth_limit ≡ done x z
    → Finds r s (record { toks = lex s; nodes = reverse z.nodes; errs = reverse z.errs; flag = x.flag; early = x.early })
done-found r s x z w = go (ltb r.tokens (length (lex s))) (read_is r s)
  where
    go : (p : Bool) → read r s ≡ by_room (lex s) p (walk (ctx_of r s) depth_limit) → Finds r s (record { toks = lex s; nodes = reverse z.nodes; errs = reverse z.errs; flag = x.flag; early = x.early })
    go true h = cramped TokensFull (unfold by_room in h) (unfold size_or_depth member in tt)
    go false h = finds (unfold by_room ended in (h ∙ ap (ended (lex s)) w))

-- A walk that is refused for size or depth is a reading that is.
pub refused-too : (r : Rooms) (s : List ℕ) (x : Refusal) → walk (ctx_of r s) depth_limit ≡ refuse x → T (size_or_depth x) → (y : Refusal) × (read r s ≡ refused y) × T (size_or_depth y)
refused-too r s x w t = go (ltb r.tokens (length (lex s))) (read_is r s)
  where
    go : (p : Bool) → read r s ≡ by_room (lex s) p (walk (ctx_of r s) depth_limit) → (y : Refusal) × (read r s ≡ refused y) × T (size_or_depth y)
    go true h = (TokensFull, unfold by_room in h, unfold size_or_depth member in tt)
    go false h = (x, unfold by_room ended in (h ∙ ap (ended (lex s)) w), t)

-- ── the calls ──

-- the call on s with the arrays a enters, and finds f
pub record Reads (s : List ℕ) (a : Arrays) (f : Found) : Type 0 where
  pub entered : entry s a ≡ passed
  pub found_it : read (rooms_of a) s ≡ found f

-- what a reading answers and leaves, then
pub reads-reading : (s : List ℕ) (a : Arrays) (f : Found) → Reads s a f → reading s a ≡ called (Ok (summary (ctx_of (rooms_of a) s) f)) (filled (ctx_of (rooms_of a) s) f a)
unfolding by_entry answered
reads-reading s a f h = reading-is s a ∙ ap (λ (x : Checked). by_entry s a x (read (rooms_of a) s)) h.entered ∙ ap (answered s a) h.found_it

-- a script read with the flag down
pub record Down (s : List ℕ) (a : Arrays) : Type 0 where
  pub what : Found
  pub reads : Reads s a what
  pub flag : what.flag ≡ false

-- A reading that answers the flag down finds something.
pub flag-down : (s : List ℕ) (a : Arrays) → FlagDown (reading s a).answer → Down s a
flag-down s a h = go (entry s a) (read (rooms_of a) s) refl refl (subst (λ (c : Called Reading). FlagDown c.answer) (reading-is s a) h)
  where
    go : (x : Checked) (o : Outcome) → entry s a ≡ x → read (rooms_of a) s ≡ o → FlagDown (by_entry s a x o).answer → Down s a
    go (Err x) o e k d = absurd (unfold by_entry FlagDown in d)
    go (Ok _) (refused x) e k d = absurd (unfold by_entry answered FlagDown in d)
    go (Ok _) (found f) e k d = record { what = f; reads = record { entered = e; found_it = k }; flag = unfold by_entry answered FlagDown in d }

-- A call that meets no refusal for size or depth meets not this one.
spared : (x : Refusal) → T (size_or_depth x) → T (not (size_or_depth x)) → ⊥
spared x t u = go (size_or_depth x) t u
  where
    go : (q : Bool) → T q → T (not q) → ⊥
    go true t u = u
    go false t u = t

-- A reading of an ASCII script that meets no refusal for size or depth finds what other rooms find.
pub fits-reads : (s : List ℕ) (a : Arrays) (f : Found) → ltb (span is_ascii s) (length s) ≡ false → Finds (rooms_of a) s f → Fits (reading s a).answer → Reads s a f
fits-reads s a f b n h = go (entry s a) refl (entry-ascii s a b) n (subst (λ (c : Called Reading). Fits c.answer) (reading-is s a) h)
  where
    go : (x : Checked) → entry s a ≡ x → (x ≡ passed) ⊎ Sized x → Finds (rooms_of a) s f → Fits (by_entry s a x (read (rooms_of a) s)).answer → Reads s a f
    go (Err x) e (inl z) m k = refused-fine x z
    go (Err x) e (inr z) m k = absurd (spared x (unfold Sized in z) (unfold by_entry Fits in k))
    go (Ok _) e z (finds m) k = record { entered = e; found_it = m }
    go (Ok _) e z (cramped x m t) k = absurd (spared x t (unfold by_entry answered Fits in subst (λ (o : Outcome). Fits (answered s a o).answer) m k))

-- Neither of the two refusals, so the text is written.
chosen : (p q : Bool) (x y z : Written) (t : List ℕ) → p ≡ false → (FitsText y.answer → ⊥) → Writes z t → FitsText (if p then x otherwise if q then y otherwise z).answer → Writes (if p then x otherwise if q then y otherwise z) t
unfolding if◌then◌otherwise◌
chosen true q x y z t e n w k = absurd (subst (λ (b : Bool). T b) e tt)
chosen false true x y z t e n w k = absurd (n k)
chosen false false x y z t e n w k = w

-- what is found with the flag down is written, if the buffer holds it
texted-writes : (s : List ℕ) (a : Arrays) (t : List ℕ) (f : Found) → f.flag ≡ false → FitsText (texted s a t (found f)).answer → Writes (texted s a t (found f)) (text_found s f)
unfolding texted FitsText size_or_depth member padded
texted-writes s a t f d k =
    chosen f.flag (ltb (length t) (length (text_found s f))) (written (Err Flagged) (cleared_arrays a) (zeroed t)) (written (Err TextFull) (cleared_arrays a) (zeroed t))
    (written (Ok (length (text_found s f))) (filled (ctx_of (rooms_of a) s) f a) (padded (text_found s f) (length t))) (text_found s f) d (λ u. u)
    (record { count = refl; bytes = take-append_seam (text_found s f) (replicate (length t - length (text_found s f)) 0) }) k

-- A text call of an ASCII script, read with the flag down, that meets no refusal for size or depth writes the text of what is found.
pub fits-text : (s : List ℕ) (a : Arrays) (t : List ℕ) (f : Found) → ltb (span is_ascii s) (length s) ≡ false → f.flag ≡ false → Finds (rooms_of a) s f → FitsText (text_call s a t).answer → Writes (text_call s a t) (text_found s f)
fits-text s a t f b d n h = rw (text-is s a t) (go (entry s a) (entry-ascii s a b) n (subst (λ (c : Written). FitsText c.answer) (text-is s a t) h))
  where
    go : (x : Checked) → (x ≡ passed) ⊎ Sized x → Finds (rooms_of a) s f → FitsText (by_entry_text s a t x (read (rooms_of a) s)).answer → Writes (by_entry_text s a t x (read (rooms_of a) s)) (text_found s f)
    go (Err x) (inl z) m k = refused-fine x z
    go (Err x) (inr z) m k = absurd (spared x (unfold Sized in z) (unfold by_entry_text FitsText in k))
    go (Ok _) z (finds m) k =
        let k' : FitsText (texted s a t (found f)).answer = unfold by_entry_text in subst (λ (o : Outcome). FitsText (texted s a t o).answer) m k in
        unfold by_entry_text in subst (λ (o : Outcome). Writes (texted s a t o) (text_found s f)) (sym m) (texted-writes s a t f d k')
    go (Ok _) z (cramped x m u) k = absurd (spared x u (unfold by_entry_text texted FitsText in subst (λ (o : Outcome). FitsText (texted s a t o).answer) m k))

-- The bytes of a call that writes t are t.
pub writes_bytes : (w : Written) (t : List ℕ) → Writes w t → bytes_of w ≡ t
unfolding answered_bytes
writes_bytes w t h = ap (λ (x : Texting). answered_bytes x w.text) h.count ∙ h.bytes

-- entry's test on an ASCII script
pub down-ascii : (s : List ℕ) (a : Arrays) → Down s a → ltb (span is_ascii s) (length s) ≡ false
down-ascii s a d = ascii-only s a d.reads.entered
