-- Rows of things, from the last to the first.
use Rattle.std.specs.Prelude.{ℕ, ◌+◌, ◌-◌, ◌≡◌, length}
use Rattle.std.proofs.Common.{arith, ◌∙◌, subst, length-append}
use Rattle.std.proofs.Math.Path.{refl, sym, ap}
use mathlib.Core.List.{List, [], ◌∷◌, ◌++◌, append_assoc, append-nil}
use Rattle.sifc_put.specs.Place.{Along}
use Rattle.sifc_put.specs.Post.{Lang, Kind, inp_of, Writes, fixed, one, seq, made, comma, cat, commas, row_l, list_l}
use Rattle.sifc_put.proofs.Frame.{Narrow, Part, tested, empty}
use Rattle.std.specs.Prelude.{Ok}
use Rattle.sifc_put.specs.declared.write.Writer.{Writer}
use Rattle.sifc_put.specs.Place.{Inp}

-- a row as its front and its last thing
pub record Last {A : Type 0} (S : A → ℕ → ℕ → Type 0) (xs : List A) (lo h : ℕ) : Type 0 where
  pub front : List A
  pub last : A
  pub mid : ℕ
  pub before : Along S front lo mid
  pub here : S last mid h
  pub is : xs ≡ front ++ (last ∷ [])

-- A row that is not empty has a last thing.
pub last_of : {A : Type 0} (S : A → ℕ → ℕ → Type 0) (x : A) (xs : List A) (lo h : ℕ) → Along S (x ∷ xs) lo h → Last S (x ∷ xs) lo h
unfolding Along
last_of S x [] lo h s = record { front = []; last = x; mid = lo; before = refl; here = subst (λ (y : ℕ). S x lo y) s.last s.front; is = refl }
last_of S x (y ∷ ys) lo h s =
    let r = last_of S y ys s.mid h s.last in
    record {
      front = x ∷ r.front;
      last = r.last;
      mid = r.mid;
      before = record { mid = s.mid; front = s.front; last = r.before };
      here = r.here;
      is = ap (λ (z : List _). x ∷ z) r.is;
    }

module _ {A : Type 0} (P : A → List ℕ) where
  -- The bytes of a row, by its last thing.
  pub cat-last : (xs : List A) (x : A) → cat P (xs ++ (x ∷ [])) ≡ cat P xs ++ P x
  unfolding cat
  cat-last [] x = append-nil (P x)
  cat-last (y ∷ ys) x = ap (λ (b : List ℕ). P y ++ b) (cat-last ys x) ∙ sym (append_assoc (P y) (cat P ys) (P x))

  -- with commas between
  pub commas-last : (xs : List A) (x : A) → commas P (xs ++ (x ∷ [])) ≡ (commas P xs ++ comma (length xs)) ++ P x
  unfolding commas comma
  commas-last [] x = refl
  commas-last (y ∷ []) x = sym (append_assoc (P y) (44 ∷ 32 ∷ []) (P x))
  commas-last (y ∷ z ∷ zs) x =
      ap (λ (b : List ℕ). P y ++ (44 ∷ 32 ∷ b)) (commas-last (z ∷ zs) x)
      ∙ ap (λ (b : List ℕ). P y ++ (44 ∷ 32 ∷ b)) (append_assoc (commas P (z ∷ zs)) (44 ∷ 32 ∷ []) (P x))
      ∙ sym (append_assoc (P y) (44 ∷ 32 ∷ commas P (z ∷ zs)) (44 ∷ 32 ∷ P x))
      ∙ sym (append_assoc (P y ++ (44 ∷ 32 ∷ commas P (z ∷ zs))) (44 ∷ 32 ∷ []) (P x))

module _ (K : Lang) where
  -- the last of n things, by what it is made of
  last-many : (n : ℕ) (xs : List K.T) (lo h : ℕ) → (n ≡ 0 → ⊥) → Along K.S xs lo h → length xs ≡ n → Last K.S xs lo h
  last-many n [] lo h k s e = absurd (k (sym e))
  last-many n (x ∷ xs) lo h k s e = last_of K.S x xs lo h s

  -- so many are before it
  front-many : (n : ℕ) (xs front : List K.T) (x : K.T) → length xs ≡ n → xs ≡ front ++ (x ∷ []) → length front ≡ n - 1
  front-many n xs front x e f = let l = length-append front (x ∷ []) in let m = ap length f in omega arith

module _ (K : Kind) where
  -- A row is cut before its last thing.
  cut-row : (n h : ℕ) (I : Inp) → (n ≡ 0 → ⊥) → Narrow (row_l K n I) (made (seq (one (row_l K (n - 1))) K) I) h h
  cut-row n h I k xs lo s =
      let r = last-many (K I) n xs lo h k s.0 s.1 in
      record {
        tree = (r.front, r.last);
        spans = record { mid = r.mid; front = (r.before, front-many (K I) n xs r.front r.last s.1 r.is); last = r.here };
        text = ap (cat (K I).P) r.is ∙ cat-last (K I).P r.front r.last;
      }

  -- A list is cut before its last thing; what is left ends in a comma, if there is any.
  cut_list : (n h : ℕ) (I : Inp) → (n ≡ 0 → ⊥) → Narrow (list_l K n I) (made (seq (seq (one (list_l K (n - 1))) (fixed (comma (n - 1)))) K) I) h h
  cut_list n h I k xs lo s =
      let r = last-many (K I) n xs lo h k s.0 s.1 in
      let m = front-many (K I) n xs r.front r.last s.1 r.is in
      record {
        tree = ((r.front, tt), r.last);
        spans = record { mid = r.mid; front = record { mid = r.mid; front = (r.before, m); last = refl }; last = r.here };
        text = ap (commas (K I).P) r.is ∙ commas-last (K I).P r.front r.last ∙ ap (λ (i : ℕ). (commas (K I).P r.front ++ comma i) ++ (K I).P r.last) m;
      }

  module _ {L : Kind} {p q : Writer} where
    -- A row of n things is one of m.
    pub recounted : {n : ℕ} (m : ℕ) → m ≡ n → Part L (one (row_l K n)) p q → Part L (one (row_l K m)) p q
    recounted {n} m e t = subst (λ (i : ℕ). Part L (one (row_l K i)) p q) (sym e) t

    -- the last of a row is written next, and m are left
    pub next-row : (n m : ℕ) → n ≡ m + 1 → Part L (one (row_l K n)) p q → Part L (seq (one (row_l K m)) K) p q
    next-row n m e t =
        subst (λ (i : ℕ). Part L (seq (one (row_l K i)) K) p q) (let i : n - 1 ≡ m = omega arith in i)
        (tested (seq (one (row_l K (n - 1))) K) q.node t (cut-row n q.node (inp_of q) (λ z. omega (arith, z, e))) (omega arith))

    -- the last of a list
    pub next-list : (n : ℕ) → (n ≡ 0 → ⊥) → Part L (one (list_l K n)) p q → Part L (seq (seq (one (list_l K (n - 1))) (fixed (comma (n - 1)))) K) p q
    next-list n k t = tested (seq (seq (one (list_l K (n - 1))) (fixed (comma (n - 1)))) K) q.node t (cut_list n q.node (inp_of q) k) (omega arith)

    -- No things are left.
    pub no_row : (n : ℕ) → n ≡ 0 → Part L (one (row_l K n)) p q → Writes L p (Ok tt) q
    unfolding Along cat
    no_row n e t = empty (row_l K n) t go
      where
        go : (xs : List (K (inp_of p)).T) (lo : ℕ) → Along (K (inp_of p)).S xs lo q.node × (length xs ≡ n) → (lo ≡ q.node) × (cat (K (inp_of p)).P xs ≡ [])
        go [] lo s = (s.0, refl)
        go (x ∷ xs) lo s = absurd (omega (arith, s.1, e))

    pub no-list : (n : ℕ) → n ≡ 0 → Part L (one (list_l K n)) p q → Writes L p (Ok tt) q
    unfolding Along commas
    no-list n e t = empty (list_l K n) t go
      where
        go : (xs : List (K (inp_of p)).T) (lo : ℕ) → Along (K (inp_of p)).S xs lo q.node × (length xs ≡ n) → (lo ≡ q.node) × (commas (K (inp_of p)).P xs ≡ [])
        go [] lo s = (s.0, refl)
        go (x ∷ xs) lo s = absurd (omega (arith, s.1, e))
