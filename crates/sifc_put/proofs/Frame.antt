-- A thing that is written from its last piece to its first: what is left of it, and what each call adds. The proofs of the writer go on by these steps alone.
use Rattle.std.specs.Prelude.{ℕ, ◌-◌, ◌≤◌, ◌≡◌, refl, List, [], ◌++◌, length, Result, Ok, Err, IsErr}
use Rattle.std.proofs.Common.{arith, sym, ap, ◌∙◌, subst, append_assoc, append-nil}
use borrow.Author.Tests.{clash}
use Rattle.sifc_put.specs.declared.write.Full.{Full}
use Rattle.sifc_put.specs.declared.write.Writer.{Writer}
use Rattle.sifc_put.specs.Place.{Inp}
use Rattle.sifc_put.specs.Post.{Placed, Wrote, Lang, Kind, inp_in, inp_of, SpotOf, At, Goes, Writes, fixed, Pieces, one, seq, made}
use Rattle.sifc_put.proofs.Steps.{begin, both, stops, ends, renode, still, further}

-- What is left: a thing of kind M before q's node; its bytes and what is done make up w.
pub record Rest (M : Lang) (w : List ℕ) (lo : ℕ) (p q : Writer) : Type 0 where
  pub tree : M.T
  pub done : List ℕ
  pub spans : M.S tree lo q.node
  pub split : w ≡ M.P tree ++ done
  pub placed : Placed done p.text.now q.node p.at q.node q.at q.text.now

-- Of any thing of kind L before p's node, the pieces M are left.
pub record Part (L : Kind) (M : Pieces) (p q : Writer) : Type 0 where
  pub goes : Goes p q
  pub left : (x : (L (inp_of p)).T) (lo : ℕ) → (L (inp_of p)).S x lo p.node → Rest (made M (inp_of p)) ((L (inp_of p)).P x) lo p q

-- a thing as one of another kind, with the same bytes
pub record Same (M N : Lang) (y : M.T) (lo h : ℕ) : Type 0 where
  pub tree : N.T
  pub spans : N.S tree lo h
  pub text : M.P y ≡ N.P tree

-- each M before h is an N before h'
abbrev pub Narrow : (M N : Lang) (h h' : ℕ) → Type 0
Narrow M N h h' = (y : M.T) (lo : ℕ) → M.S y lo h → Same M N y lo h'

-- A kind is told by what is read.
same-inp : {p q : Writer} → Goes p q → inp_of q ≡ inp_of p
same-inp g = ap inp_in g.tree

-- What a call does, told by what was read at first.
pub does-at : (K : Kind) {p q s : Writer} {r : Result Unit Full} → Goes p q → Writes K q r s → (y : (K (inp_of p)).T) (lo : ℕ) → (K (inp_of p)).S y lo q.node → Wrote ((K (inp_of p)).P y) lo q r s
does-at K {p} {q} {s} {r} g w = subst (λ (I : Inp). (y : (K I).T) (lo : ℕ) → (K I).S y lo q.node → Wrote ((K I).P y) lo q r s) (same-inp g) w.does

module _ {L : Kind} where
  -- at first the whole is left
  pub opening : {p : Writer} → Part L (one L) p p
  opening {p} =
      record {
        goes = still;
        left = λ x lo s. record { tree = x; done = []; spans = s; split = sym (append-nil ((L (inp_of p)).P x)); placed = begin };
      }

  -- what is left is known better; the node may go down
  pub narrowed : {M : Pieces} (N : Pieces) {p q : Writer} (h : ℕ) → Part L M p q → Narrow (made M (inp_of p)) (made N (inp_of p)) q.node h → h ≤ q.node → Part L N p (record q { node = h })
  narrowed {M} N {p} {q} h t f u =
      let g = t.goes in
      record {
        goes = record { tree = g.tree; buffer = g.buffer; long = g.long; node = omega (arith, g.node); at = g.at };
        left = λ x lo s.
            let l = t.left x lo s in
            let n = f l.tree lo l.spans in
            record {
              tree = n.tree;
              done = l.done;
              spans = n.spans;
              split = l.split ∙ ap (λ (y : List ℕ). y ++ l.done) n.text;
              placed = record { node = refl; room = l.placed.room; same = l.placed.same };
            };
      }

  -- the same, by what a test of q tells
  pub tested : {M : Pieces} (N : Pieces) {p q : Writer} (h : ℕ) → Part L M p q → Narrow (made M (inp_of q)) (made N (inp_of q)) q.node h → h ≤ q.node → Part L N p (record q { node = h })
  tested {M} N {p} {q} h t f u = narrowed N h t (subst (λ (I : Inp). Narrow (made M I) (made N I) q.node h) (same-inp t.goes) f) u

  module _ {p : Writer} (z : At L p) where
    -- what the next call, which writes a K, may assume
    pub spot : {N : Pieces} {K : Kind} {q : Writer} → Part L (seq N K) p q → At K q
    spot {N} {K} {q} t =
        let l = t.left z.tree z.lo z.spans in
        subst (λ (I : Inp). SpotOf (K I) q.text.now q.node q.at) (sym (same-inp t.goes))
        (record { tree = l.tree.1; lo = l.spans.mid; spans = l.spans.last; room = omega (arith, t.goes.long, t.goes.at, z.room) })

    -- its place is in its buffer
    pub room : {M : Pieces} {q : Writer} → Part L M p q → q.at ≤ length q.text.now
    room t = omega (arith, t.goes.long, t.goes.at, z.room)

    -- it is done, and an N is left
    pub put : {N : Pieces} {K : Kind} {q s : Writer} {u : Unit} → Part L (seq N K) p q → Writes K q (Ok u) s → Part L N p s
    put {N} {K} {q} {s} t w =
        record {
          goes = further t.goes w.goes;
          left = λ x lo y.
              let l = t.left x lo y in
              let d = (does-at K t.goes w l.tree.1 l.spans.mid l.spans.last).by in
              record {
                tree = l.tree.0;
                done = (K (inp_of p)).P l.tree.1 ++ l.done;
                spans = subst (λ (h : ℕ). (made N (inp_of p)).S l.tree.0 lo h) (sym d.node) l.spans.front;
                split = l.split ∙ append_assoc ((made N (inp_of p)).P l.tree.0) ((K (inp_of p)).P l.tree.1) l.done;
                placed = renode (both l.placed z.room d);
              };
        }

    -- what a last call, which writes all that is left, may assume
    pub here : {M : Kind} {q : Writer} → Part L (one M) p q → At M q
    here {M} {q} t =
        let l = t.left z.tree z.lo z.spans in
        subst (λ (I : Inp). SpotOf (M I) q.text.now q.node q.at) (sym (same-inp t.goes))
        (record { tree = l.tree; lo = z.lo; spans = l.spans; room = room t })

    -- that call
    pub end : {M : Kind} {q s : Writer} {r : Result Unit Full} → Part L (one M) p q → Writes M q r s → Writes L p r s
    end {M} t w =
        record {
          goes = further t.goes w.goes;
          does = λ x lo y. let l = t.left x lo y in ends l.placed z.room (does-at M t.goes w l.tree lo l.spans) l.split;
        }

  -- that call has no room, and this is passed on
  pub stop : {p q s : Writer} {N : Pieces} {K : Kind} {f : Full} {r : Result Unit Full} → Part L (seq N K) p q → Writes K q (Err f) s → IsErr r → Writes L p r s
  stop {r = Ok u} t w e = absurd (clash e)
  stop {p} {q} {s} {N} {K} {f} {r = Err g} t w e =
      record {
        goes = further t.goes w.goes;
        does = λ x lo y.
            let l = t.left x lo y in
            stops l.placed ((made N (inp_of p)).P l.tree.0) (does-at K t.goes w l.tree.1 l.spans.mid l.spans.last)
            (l.split ∙ append_assoc ((made N (inp_of p)).P l.tree.0) ((K (inp_of p)).P l.tree.1) l.done);
      }

  -- nothing is left
  pub empty : (M : Kind) {p q : Writer} → Part L (one M) p q → ((y : (M (inp_of p)).T) (lo : ℕ) → (M (inp_of p)).S y lo q.node → (lo ≡ q.node) × ((M (inp_of p)).P y ≡ [])) → Writes L p (Ok tt) q
  empty M {p} {q} t f =
      record {
        goes = t.goes;
        does = λ x lo y.
            let l = t.left x lo y in
            let n = f l.tree lo l.spans in
            record {
              by = subst (λ (b : List ℕ). Placed b p.text.now lo p.at q.node q.at q.text.now) (sym (l.split ∙ ap (λ (b : List ℕ). b ++ l.done) n.1))
                  (record { node = sym n.0; room = l.placed.room; same = l.placed.same });
            };
      }

-- at first the whole is left, and known better
pub opened : (L : Kind) (N : Pieces) (p : Writer) → Narrow (L (inp_of p)) (made N (inp_of p)) p.node p.node → Part L N p p
opened L N p f = narrowed N p.node opening f (omega arith)

-- p, below its node
abbrev pub down : Writer → Writer
down p = record p { node = p.node - 1 }

-- the same, of what stands below its node
pub entered : (L : Kind) (N : Pieces) (p : Writer) → Narrow (L (inp_of p)) (made N (inp_of p)) p.node (p.node - 1) → Part L N p (down p)
entered L N p f = narrowed N (p.node - 1) opening f (omega arith)

-- Fixed bytes that are written are written as a thing.
pub fixed-writes : {b : List ℕ} {p q : Writer} {r : Result Unit Full} → Goes p q → Wrote b p.node p r q → Writes (fixed b) p r q
fixed-writes {b} {p} {q} {r} g w = record { goes = g; does = λ x lo s. subst (λ (y : ℕ). Wrote b y p r q) (sym s) w }
