-- Kinds of things that are cut in two or that are empty, that no thing ends before it begins, and what a call that is done or has no room has written. The
-- proofs of the writer need none of this.
use Rattle.std.specs.Prelude.{ℕ, ◌-◌, ◌≤◌, ◌<◌, ◌≡◌, refl, List, [], ◌∷◌, ◌++◌, length, Result, Ok, Err}
use Rattle.std.proofs.Common.{arith, subst}
use Rattle.sifc_put.specs.declared.write.Full.{Full}
use Rattle.sifc_put.specs.declared.write.Writer.{Writer}
use Rattle.sifc_put.specs.Place.{Inp, Along}
use Rattle.sifc_put.specs.Post.{Placed, Wrote, WroteOf, Lang, Kind, fixed, token_l, leaf_l, Pieces, seq, made, cat, commas, row_l, list_l}
use Rattle.sifc_put.proofs.Steps.{both}
use Rattle.sifc_put.proofs.Frame.{Narrow}

-- a thing as one of a first kind and then one of a last
pub record Cut (M N K : Lang) (y : M.T) (lo h : ℕ) : Type 0 where
  pub front : N.T
  pub last : K.T
  pub mid : ℕ
  pub before : N.S front lo mid
  pub here : K.S last mid h
  pub text : M.P y ≡ N.P front ++ K.P last

-- each M before h is an N and then a K
abbrev pub Cuts : (M N K : Lang) (h : ℕ) → Type 0
Cuts M N K h = (y : M.T) (lo : ℕ) → M.S y lo h → Cut M N K y lo h

-- things of the kind do not end before they begin
abbrev pub Low : Lang → Type 0
Low K = (x : K.T) (lo hi : ℕ) → K.S x lo hi → lo ≤ hi

module _ (I : Inp) where
  -- Things and then another are cut between them.
  pub cut-seq : (M : Pieces) (K : Kind) (h : ℕ) → Cuts (made (seq M K) I) (made M I) (K I) h
  cut-seq M K h x lo s = record { front = x.0; last = x.1; mid = s.mid; before = s.front; here = s.last; text = refl }

  -- Fixed bytes begin where they end.
  pub fixed-low : (b : List ℕ) → Low (fixed b I)
  fixed-low b x lo hi s = omega (arith, s)

  -- So does a node's token.
  pub token-low : (m : ℕ) → Low (token_l m I)
  token-low m x lo hi s = omega (arith, s.0)

  -- A node that is a token is one node.
  pub leaf-low : Low (leaf_l I)
  leaf-low x lo hi s = omega (arith, s.0)

  -- A leaf is a node, and then its token alone.
  pub is-token : (hi : ℕ) → Narrow (leaf_l I) (token_l hi I) hi (hi - 1)
  is-token hi w lo s = record { tree = w; spans = s; text = refl }

-- ── rows ──

module _ (K : Lang) where
  -- A row of things does not end before it begins.
  pub along-low : Low K → (xs : List K.T) (lo hi : ℕ) → Along K.S xs lo hi → lo ≤ hi
  unfolding Along
  along-low low [] lo hi s = omega (arith, s)
  along-low low (x ∷ xs) lo hi s = omega (arith, low x lo s.mid s.front, along-low low xs s.mid hi s.last)

  -- No things are left.
  pub empty-row : (n h : ℕ) → n ≡ 0 → (xs : List K.T) (lo : ℕ) → Along K.S xs lo h × (length xs ≡ n) → (lo ≡ h) × (cat K.P xs ≡ [])
  unfolding Along cat
  empty-row n h k [] lo s = (s.0, refl)
  empty-row n h k (x ∷ xs) lo s = absurd (omega (arith, s.1, k))

  pub empty-list : (n h : ℕ) → n ≡ 0 → (xs : List K.T) (lo : ℕ) → Along K.S xs lo h × (length xs ≡ n) → (lo ≡ h) × (commas K.P xs ≡ [])
  unfolding Along commas
  empty-list n h k [] lo s = (s.0, refl)
  empty-list n h k (x ∷ xs) lo s = absurd (omega (arith, s.1, k))

module _ (K : Kind) (I : Inp) where
  pub row_low : (n : ℕ) → Low (K I) → Low (row_l K n I)
  row_low n low xs lo hi s = along-low (K I) low xs lo hi s.0

  pub list-low : (n : ℕ) → Low (K I) → Low (list_l K n I)
  list-low n low xs lo hi s = along-low (K I) low xs lo hi s.0

-- ── calls ──

module _ {v : List ℕ} {lo : ℕ} {p q : Writer} {r : Result Unit Full} where
  -- a call that is done
  pub gone : {u : Unit} → Wrote v lo p r q → r ≡ Ok u → Placed v p.text.now lo p.at q.node q.at q.text.now
  gone d e = subst (λ (x : Result Unit Full). WroteOf v lo p x q) e d.by

  -- a call that has no room
  pub full : {f : Full} → Wrote v lo p r q → r ≡ Err f → p.at < length v
  full d e = subst (λ (x : Result Unit Full). WroteOf v lo p x q) e d.by

  -- a call that is done, before what is placed
  pub goes : {w text : List ℕ} {mid at n : ℕ} {u : Unit} → Placed w text mid at n p.at p.text.now → at ≤ length text → Wrote v lo p r q → r ≡ Ok u → Placed (v ++ w) text lo at q.node q.at q.text.now
  goes l h d e = both l h (gone d e)

-- What is placed does not begin behind its end.
pub less : {w text t : List ℕ} {lo at n a : ℕ} → Placed w text lo at n a t → a ≤ at
less p = omega (arith, p.room)
