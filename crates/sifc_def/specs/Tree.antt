-- Trees, and the list of their labels, children first ("Tree: nodes children first").
use Rattle.std.specs.Prelude.{ℕ, zero, suc, List, [], ◌∷◌, ◌++◌, Bool, drop}
use Rattle.sifc_def.specs.Label.{Lab, lab}

-- a node's kind, flag, scope and text, and its children
mutual
  pub data Tree : Type 0 where
    tree : ℕ → Bool → ℕ → List ℕ → Forest → Tree

  pub data Forest : Type 0 where
    leaf : Forest
    grow : Tree → Forest → Forest

unfoldable pub many : Forest → ℕ
many leaf = zero
many (grow t ts) = suc (many ts)

unfoldable mutual
  pub enc : Tree → List Lab
  enc (tree k f l x ts) = encs ts ++ (lab k f (many ts) l x ∷ [])

  pub encs : Forest → List Lab
  encs leaf = []
  encs (grow t ts) = enc t ++ encs ts

-- Reading such a list: the stack holds the trees so far, the last one on top. The n trees on top, in order, before ts:
unfoldable pub gather : ℕ → List Tree → Forest → Forest
gather zero st ts = ts
gather (suc n) [] ts = ts
gather (suc n) (t ∷ st) ts = gather n st (grow t ts)

unfoldable pub dec : List Lab → List Tree → List Tree
dec [] st = st
dec (x ∷ xs) st = dec xs (tree x.kind x.flag x.scope x.text (gather x.kids st leaf) ∷ drop x.kids st)
