-- Lists whose items something else writes.
use Rattle.std.specs.Prelude.{ℕ, ◌≡◌, refl, List, [], ◌∷◌, ◌++◌, map, Result}
use Rattle.std.specs.Borrow.{MutBor}
use Rattle.std.proofs.Common.{arith, sym, ap, ◌∙◌, subst}
use Rattle.std.proofs.lemmas.List.{length-map}
use Rattle.sifc_put.specs.declared.write.Full.{Full}
use Rattle.sifc_put.specs.declared.write.Writer.{Writer}
use Rattle.sifc_put.specs.Place.{Inp, Along}
use Rattle.sifc_put.specs.Post.{Kind, inp_in, inp_of, SpotOf, At, Goes, Wrote, Writes, commas, list_l}
use Rattle.sifc_put.specs.Items.{Written, written_l}
use Rattle.sifc_put.proofs.Frame.{does-at}

-- The call may be made where a K stands, and writes it.
pub record Each (K : Kind) (may : MutBor Writer → Type 0) (did : MutBor Writer → Result (Unit {0}) Full → MutBor Writer → Type 0) (start : Writer) : Type 0 where
  pub ready : (p : MutBor Writer) → Goes start p.now → At K p.now → may p
  pub writes : (p q : MutBor Writer) (r : Result (Unit {0}) Full) → At K p.now → did p r q → Writes K p.now r q.now

-- The bytes of a list, by those of its things.
commas-map : {A : Type 0} (P : A → List ℕ) (xs : List A) → commas (λ (b : List ℕ). b) (map P xs) ≡ commas P xs
unfolding commas
commas-map P [] = refl
commas-map P (x ∷ []) = refl
commas-map P (x ∷ y ∷ ys) = ap (λ (b : List ℕ). P x ++ (44 ∷ 32 ∷ b)) (commas-map P (y ∷ ys))

module _ {may : MutBor Writer → Type 0} {did : MutBor Writer → Result (Unit {0}) Full → MutBor Writer → Type 0} {start : Writer} where
  -- What stands before a writer that goes on is written by the call.
  pub item-writes : {p q : MutBor Writer} {r : Result (Unit {0}) Full} → Goes start p.now → At (written_l may did start) p.now → did p r q → Writes (written_l may did start) p.now r q.now
  item-writes {p} {q} {r} g z d = record { goes = z.spans.goes p q r g refl d; does = λ x lo s. s.wrote p q r g refl d }

  module _ {K : Kind} {n : ℕ} (z : At (list_l K n) start) (e : Each K may did start) where
    -- A K before a node stands before each writer there that goes on.
    at-start : {x : (K (inp_of start)).T} {lo hi : ℕ} → (K (inp_of start)).S x lo hi → {p : Writer} → Goes start p → p.node ≡ hi → At K p
    at-start {x} {lo} {hi} s {p} g n =
        subst (λ (I : Inp). SpotOf (K I) p.text.now p.node p.at) (ap inp_in (sym g.tree))
        (record { tree = x; lo = lo; spans = subst (λ (y : ℕ). (K (inp_of start)).S x lo y) (sym n) s; room = omega (arith, g.long, g.at, z.room) })

    -- a K is what the call writes before its node
    an-item : (x : (K (inp_of start)).T) (lo hi : ℕ) → (K (inp_of start)).S x lo hi → Written may did start ((K (inp_of start)).P x) lo hi
    an-item x lo hi s =
        record {
          ready = λ p g n. e.ready p g (at-start s g n);
          goes = λ p q r g n d. (e.writes p q r (at-start s g n) d).goes;
          wrote = λ p q r g n d. does-at K g (e.writes p q r (at-start s g n) d) x lo (subst (λ (y : ℕ). (K (inp_of start)).S x lo y) (sym n) s);
        }

    -- and so is each of a list
    items-along : (xs : List (K (inp_of start)).T) (lo hi : ℕ) → Along (K (inp_of start)).S xs lo hi → Along (Written may did start) (map (K (inp_of start)).P xs) lo hi
    unfolding Along
    items-along [] lo hi s = s
    items-along (x ∷ xs) lo hi s = record { mid = s.mid; front = an-item x lo s.mid s.front; last = items-along xs s.mid hi s.last }

    -- So a list of what the call writes stands where one of such things does.
    pub items-at : At (list_l (written_l may did start) n) start
    items-at =
        record {
          tree = map (K (inp_of start)).P z.tree;
          lo = z.lo;
          spans = (items-along z.tree z.lo start.node z.spans.0, length-map z.tree (K (inp_of start)).P ∙ z.spans.1);
          room = z.room;
        }

    -- Who has written the one has written the other.
    pub items-written : {r : Result Unit Full} {q : Writer} → Writes (list_l (written_l may did start) n) start r q → Writes (list_l K n) start r q
    items-written {r} {q} w =
        record {
          goes = w.goes;
          does = λ xs lo s.
              subst (λ (b : List ℕ). Wrote b lo start r q) (commas-map (K (inp_of start)).P xs)
              (w.does (map (K (inp_of start)).P xs) lo (items-along xs lo start.node s.0, length-map xs (K (inp_of start)).P ∙ s.1));
        }
