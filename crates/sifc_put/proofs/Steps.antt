-- Bytes that are placed one piece after the other, towards the front.
use Rattle.std.specs.Prelude.{ℕ, ◌≤◌, ◌<◌, ◌≡◌, refl, List, [], ◌++◌, length, take, drop, Result, Ok, Err}
use Rattle.std.proofs.Common.{arith, sym, ap, ◌∙◌, subst, append_assoc, length-append, take-append-drop, length-take-le, drop_at, take-take}
use Rattle.std.proofs.lemmas.List.{take-append-le}
use Rattle.sifc_put.specs.declared.write.Full.{Full}
use Rattle.sifc_put.specs.declared.write.Writer.{Writer}
use Rattle.sifc_put.specs.Post.{Placed, Wrote, WroteOf, Goes}

-- Nothing is placed at first.
pub begin : {text : List ℕ} {lo at : ℕ} → Placed [] text lo at lo at text
begin {text} {lo} {at} = record { node = refl; room = omega arith; same = sym (take-append-drop at text) }

-- The node is that of what is placed.
pub renode : {w text t : List ℕ} {lo at n a : ℕ} → Placed w text lo at n a t → Placed w text n at n a t
renode p = record { node = refl; room = p.room; same = p.same }

-- One piece before another.
pub both : {w text t₁ v t : List ℕ} {mid at n a lo m b : ℕ} → Placed w text mid at n a t₁ → at ≤ length text → Placed v t₁ lo a m b t → Placed (v ++ w) text lo at m b t
both {w} {text} {t₁} {v} {t} {mid} {at} {n} {a} {lo} {m} {b} p h q =
    let l = length-append v w in
    let u : a ≤ length text = omega (arith, p.room) in
    let f : length (take a text) ≡ a = length-take-le a text u in
    let g : b ≤ length (take a text) = omega (arith, q.room) in
    record {
      node = q.node;
      room = omega (arith, p.room, q.room);
      same =
          q.same
          ∙ ap (λ (x : List ℕ). take b x ++ (v ++ drop a x)) p.same
          ∙ ap (λ (x : List ℕ). x ++ (v ++ drop a (take a text ++ (w ++ drop at text)))) (take-append-le b (take a text) (w ++ drop at text) g ∙ take-take b a text (omega (arith, q.room)))
          ∙ ap (λ (x : List ℕ). take b text ++ (v ++ x)) (drop_at (take a text) (w ++ drop at text) a f)
          ∙ ap (λ (x : List ℕ). take b text ++ x) (sym (append_assoc v w (drop at text)));
    }

module _ {w : List ℕ} {mid : ℕ} {p q : Writer} (l : Placed w p.text.now mid p.at q.node q.at q.text.now) where
  -- a call that is not done: the whole has no room
  pub stops : {v total : List ℕ} {lo lo' : ℕ} {s : Writer} {f : Full} {g : Full} (u : List ℕ) → Wrote v lo' q (Err f) s → total ≡ u ++ (v ++ w) → Wrote total lo p (Err g) s
  stops {v} {total} u d e =
      record {
        by = subst (λ (x : List ℕ). p.at < length x) (sym e)
            (let h : q.at < length v = d.by in let i = length-append v w in let j = length-append u (v ++ w) in omega (arith, l.room));
      }

  -- the last call
  pub ends : {r : Result Unit Full} {v total : List ℕ} {lo : ℕ} {s : Writer} → p.at ≤ length p.text.now → Wrote v lo q r s → total ≡ v ++ w → Wrote total lo p r s
  ends {r} {v} {total} {lo} {s} h d e = subst (λ (x : List ℕ). Wrote x lo p r s) (sym e) (record { by = go r d.by })
    where
      go : (r : Result Unit Full) → WroteOf v lo q r s → WroteOf (v ++ w) lo p r s
      go (Ok u) z = both l h z
      go (Err f) z = let i = length-append v w in omega (arith, l.room)

-- ── writers that go on ──

pub still : {p : Writer} → Goes p p
still = record { tree = refl; buffer = refl; long = refl; node = omega arith; at = omega arith }

pub further : {p q r : Writer} → Goes p q → Goes q r → Goes p r
further a b = record { tree = b.tree ∙ a.tree; buffer = b.buffer ∙ a.buffer; long = b.long ∙ a.long; node = omega (arith, a.node, b.node); at = omega (arith, a.at, b.at) }
