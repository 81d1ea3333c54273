-- A list of labels, children first, is read back to its tree: `enc` is injective.
use Rattle.std.specs.Prelude.{ℕ, zero, suc, ◌+◌, ◌≡◌, drop}
use mathlib.Core.List.{List, [], ◌∷◌, ◌++◌, reverse, append_assoc, append-nil, map-append, reverse-cons}
use Rattle.std.proofs.Math.Path.{refl, sym, ap}
use Rattle.std.proofs.Common.{◌∙◌, zero-add, suc-add, add-suc, add-zero, arith}
use Rattle.sifc_err.specs.declared.Token.{Token}
use Rattle.sifc_def.specs.Label.{Lab, lab, scope_of, text_of, label, labels}
use Rattle.sifc_def.specs.State.{Node}
use Rattle.sifc_def.specs.Tree.{Tree, tree, Forest, leaf, grow, many, enc, encs, gather, dec}
use Rattle.sifc_def.proofs.GroveLaws.{Grove}

-- the trees of a forest on a stack, the last one on top
unfoldable pub onto : Forest → List Tree → List Tree
onto leaf st = st
onto (grow t ts) st = onto ts (t ∷ st)

-- one forest and then another
unfoldable pub join : Forest → Forest → Forest
join leaf us = us
join (grow t ts) us = grow t (join ts us)

join-leaf : (ts : Forest) → join ts leaf ≡ ts
unfolding join
join-leaf leaf = refl
join-leaf (grow t ts) = ap (grow t) (join-leaf ts)

gather-onto : (ts : Forest) (m : ℕ) (st : List Tree) (us : Forest) → gather (many ts + m) (onto ts st) us ≡ gather m st (join ts us)
unfolding gather many onto join
gather-onto leaf m st us = rw zero-add refl
gather-onto (grow t ts) m st us = rw (suc-add, ← add-suc) (gather-onto ts (suc m) (t ∷ st) us)

drop-onto : (ts : Forest) (m : ℕ) (st : List Tree) → drop (many ts + m) (onto ts st) ≡ drop m st
unfolding many onto
drop-onto leaf m st = rw zero-add refl
drop-onto (grow t ts) m st = rw (suc-add, ← add-suc) (drop-onto ts (suc m) (t ∷ st))

taken : (ts : Forest) (st : List Tree) → gather (many ts) (onto ts st) leaf ≡ ts
unfolding gather
taken ts st = rw add-zero at (gather-onto ts 0 st leaf ∙ join-leaf ts)

left : (ts : Forest) (st : List Tree) → drop (many ts) (onto ts st) ≡ st
left ts st = rw add-zero at (drop-onto ts 0 st)

-- reading a tree's labels puts the tree on the stack
mutual
  unfolding enc dec onto

  pub dec-enc : (t : Tree) (r : List Lab) (st : List Tree) → dec (enc t ++ r) st ≡ dec r (t ∷ st)
  dec-enc (tree k f l x ts) r st =
      rw (append_assoc (encs ts) (lab k f (many ts) l x ∷ []) r, dec-encs ts (lab k f (many ts) l x ∷ r) st, taken ts st, left ts st) refl

  pub dec-encs : (ts : Forest) (r : List Lab) (st : List Tree) → dec (encs ts ++ r) st ≡ dec r (onto ts st)
  dec-encs leaf r st = refl
  dec-encs (grow t ts) r st = rw (append_assoc (enc t) (encs ts) r, dec-enc t (encs ts ++ r) st) (dec-encs ts r (t ∷ st))

pub decoded : (t : Tree) → dec (enc t) [] ≡ t ∷ []
unfolding dec
decoded t = rw append-nil at (dec-enc t [] [])

pub enc-injective : (t u : Tree) → enc t ≡ enc u → t ≡ u
enc-injective t u e =
    let p : t ∷ [] ≡ u ∷ [] = sym (decoded t) ∙ ap (λ (l : List Lab). dec l []) e ∙ decoded u in
    cc

-- ── n trees, as nodes and as labels ──

encs-join : (ts us : Forest) → encs (join ts us) ≡ encs ts ++ encs us
unfolding encs join
encs-join leaf us = refl
encs-join (grow t ts) us = rw (encs-join ts us) (sym (append_assoc (enc t) (encs ts) (encs us)))

many-join : (ts us : Forest) → many (join ts us) ≡ many ts + many us
unfolding many join
many-join leaf us = omega arith
many-join (grow t ts) us = omega (arith, many-join ts us)

-- the last n trees of a forest, and those before
pub record Split (m n : ℕ) (ts : Forest) : Type 0 where
  pub first : Forest
  pub rest : Forest
  pub is : ts ≡ join first rest
  pub firsts : many first ≡ m
  pub rests : many rest ≡ n

split : (m n : ℕ) (ts : Forest) → many ts ≡ n + m → Split m n ts
unfolding many join
split zero n ts e = record { first = leaf; rest = ts; is = refl; firsts = refl; rests = omega (arith, e) }
split (suc m) n leaf e = absurd (omega (arith, e))
split (suc m) n (grow t ts) e =
    let s : Split m n ts = split m n ts (omega (arith, e)) in
    record { first = grow t s.first; rest = s.rest; is = ap (grow t) s.is; firsts = omega (arith, s.firsts); rests = s.rests }

-- The labels of a grove, in order, are those of n trees.
pub record Planted (n : ℕ) (xs : List Lab) : Type 0 where
  pub forest : Forest
  pub count : many forest ≡ n
  pub is : xs ≡ encs forest

module _ (script : List ℕ) (toks : List Token) where
  pub planted : (t : ℕ) (ns : List Node) (n : ℕ) → Grove t ns n → Planted n (labels script toks (reverse ns))
  unfolding Grove many enc
  planted t [] n g = record { forest = leaf; count = omega (arith, g); is = refl }
  planted t (x ∷ xs) n g =
      let p : Planted (x.kids + g.older) (labels script toks (reverse xs)) = planted t xs (x.kids + g.older) g.under in
      let s : Split g.older x.kids p.forest = split g.older x.kids p.forest p.count in
      let top : Tree = tree x.kind x.flag (scope_of script toks x) (text_of script toks x) s.rest in
      let made : encs (join s.first (grow top leaf)) ≡ encs s.first ++ (encs s.rest ++ (label script toks x ∷ [])) =
      encs-join s.first (grow top leaf) ∙ ap (λ (l : List Lab). encs s.first ++ l) (append-nil (enc top)
      ∙ ap (λ (k : ℕ). encs s.rest ++ (lab x.kind x.flag k (scope_of script toks x) (text_of script toks x) ∷ [])) s.rests) in
      record {
        forest = join s.first (grow top leaf);
        count = many-join s.first (grow top leaf) ∙ omega (arith, s.firsts, g.is);
        is =
            ap (labels script toks) (reverse-cons x xs) ∙ map-append (label script toks) (reverse xs) (x ∷ [])
            ∙ ap (λ (l : List Lab). l ++ (label script toks x ∷ [])) (p.is ∙ ap encs s.is ∙ encs-join s.first s.rest)
            ∙ append_assoc (encs s.first) (encs s.rest) (label script toks x ∷ []) ∙ sym made;
      }

  -- The labels of one tree's nodes are the tree's.
  pub one-tree : (t : ℕ) (ns : List Node) → Grove t ns 1 → ((u : Tree) × (labels script toks (reverse ns) ≡ enc u))
  unfolding many enc
  one-tree t ns g = go (planted t ns 1 g).forest (planted t ns 1 g).count (planted t ns 1 g).is
    where
      go : (ts : Forest) → many ts ≡ 1 → labels script toks (reverse ns) ≡ encs ts → ((u : Tree) × (labels script toks (reverse ns) ≡ enc u))
      go leaf e is = absurd (omega (arith, e))
      go (grow u leaf) e is = (u, is ∙ append-nil (enc u))
      go (grow u (grow v ts)) e is = absurd (omega (arith, e))
