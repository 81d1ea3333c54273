-- The entry with the highest level is what the definition's walk down the levels finds, and what a store overwrites.
use Prim.Native.Nat.{ℕ, zero, suc, ◌+◌, ◌≤◌, ◌<◌}
use mathlib.Core.Path.{◌≡◌, refl, sym, ap, ap₂, ◌∙◌}
use mathlib.Core.List.{List, [], ◌∷◌, ◌++◌}
use mathlib.Core.Option.{none, some}
use mathlib.Core.Bool.{Bool, true, false}
use native.Mathlib.Omega.{arith}
use borrow.Author.Tests.{eq-eqb, ne_eqb}
use Rattle.sifc_word.specs.Base.{same}
use Rattle.sifc_def.specs.declared.What.{What}
use Rattle.sifc_def.specs.State.{Sym}
use Rattle.sifc_def.specs.Symbols.{is_sym, find_at, find, put_at}
use Rattle.sifc_symtab.specs.Table.{listed}
use Rattle.sifc_symtab.specs.Seek.{Hit, Nearest}
use Rattle.sifc_symtab.specs.Laws.{listed-ext}
use Rattle.sifc_symtab.proofs.Cases.{by-eq}

-- ── the entry of a level and a name ──

-- at its level the name decides
is_sym-at : (l : ℕ) (s : List ℕ) (x : Sym) → x.level ≡ l → is_sym l s x ≡ same x.name s
unfolding is_sym
is_sym-at l s x e = rw (eq-eqb x.level l e) refl

-- at another level it is not the one
is_sym-off : (l : ℕ) (s : List ℕ) (x : Sym) → (x.level ≡ l → ⊥) → is_sym l s x ≡ false
unfolding is_sym
is_sym-off l s x e = rw (ne_eqb x.level l e) refl

-- it is one of that level, with the name, or not
is_sym-not : (l : ℕ) (s : List ℕ) (x : Sym) → (x.level ≡ l → same x.name s ≡ true → ⊥) → is_sym l s x ≡ false
is_sym-not l s x h = by-eq x.level l (λ e. is_sym-at l s x e ∙ no (same x.name s) (h e)) (is_sym-off l s x)
  where
    no : (b : Bool) → (b ≡ true → ⊥) → b ≡ false
    no true f = absurd (f refl)
    no false f = refl

-- the first entry is the one
find-yes : (l : ℕ) (s : List ℕ) (x : Sym) (xs : List Sym) → is_sym l s x ≡ true → find_at l s (x ∷ xs) ≡ some x.what
unfolding find_at
find-yes l s x xs e = rw (e, find_at) refl

-- the first entry is another
find-no : (l : ℕ) (s : List ℕ) (x : Sym) (xs : List Sym) → is_sym l s x ≡ false → find_at l s (x ∷ xs) ≡ find_at l s xs
unfolding find_at
find-no l s x xs e = rw (e, find_at) refl

-- the first entry is overwritten
put-yes : (l : ℕ) (s : List ℕ) (w : What) (x : Sym) (xs : List Sym) → is_sym l s x ≡ true → put_at l s w (x ∷ xs) ≡ record { level = l; name = s; what = w } ∷ xs
unfolding put_at
put-yes l s w x xs e = rw (e, put_at) refl

-- the first entry stays
put-no : (l : ℕ) (s : List ℕ) (w : What) (x : Sym) (xs : List Sym) → is_sym l s x ≡ false → put_at l s w (x ∷ xs) ≡ x ∷ put_at l s w xs
unfolding put_at
put-no l s w x xs e = rw (e, put_at) refl

-- the first of them
listed_cons : (f : ℕ → Sym) (k m : ℕ) → listed f k (suc m) ≡ f k ∷ listed f (suc k) m
unfolding listed
listed_cons f k m = refl

-- ── m entries from number k on ──

module _ (f : ℕ → Sym) (l : ℕ) (s : List ℕ) where
  -- none has the level and the name
  at_none : (m k : ℕ) → ((j : ℕ) → k ≤ j → j < k + m → is_sym l s (f j) ≡ false) → find_at l s (listed f k m) ≡ none
  at_none zero k h = unfold listed find_at in refl
  at_none (suc m) k h = rw (listed_cons f k m) (find-no l s (f k) (listed f (suc k) m) (h k (omega arith) (omega arith)) ∙ at_none m (suc k) (λ j a b. h j (omega arith) (omega arith)))

  -- entry r is the first of the level and the name
  at_first : (m k r : ℕ) → k ≤ r → r < k + m → is_sym l s (f r) ≡ true → ((j : ℕ) → k ≤ j → j < r → is_sym l s (f j) ≡ false) → find_at l s (listed f k m) ≡ some (f r).what
  at_first zero k r a b t h = absurd (let z : ⊥ = omega arith in z)
  at_first (suc m) k r a b t h =
      rw (listed_cons f k m)
      (by-eq k r
      (λ e. find-yes l s (f k) (listed f (suc k) m) (ap (λ (i : ℕ). is_sym l s (f i)) e ∙ t) ∙ ap (λ (i : ℕ). some (f i).what) e)
      (λ e. find-no l s (f k) (listed f (suc k) m) (h k (omega arith) (omega arith)) ∙ at_first m (suc k) r (omega arith) (omega arith) t (λ j c d. h j (omega arith) (omega arith))))

-- ── retrieve ──

-- found at the level
find-take : (l : ℕ) (s : List ℕ) (xs : List Sym) (w : What) → find_at (suc l) s xs ≡ some w → find (suc l) s xs ≡ some w
unfolding find
find-take l s xs w e = rw (e, find) refl

-- found farther down
find-skip : (l : ℕ) (s : List ℕ) (xs : List Sym) → find_at (suc l) s xs ≡ none → find (suc l) s xs ≡ find l s xs
unfolding find
find-skip l s xs e = rw (e, find) refl

-- at the outermost level
find-zero : (s : List ℕ) (xs : List Sym) → find zero s xs ≡ find_at zero s xs
unfolding find
find-zero s xs = refl

module _ (f : ℕ → Sym) (n high : ℕ) (s : List ℕ) where
  -- an entry of a level up to high
  hit-of : (l : ℕ) (j : ℕ) → l ≤ high → (f j).level ≡ l → same (f j).name s ≡ true → Hit 0 high s (f j)
  hit-of l j h e t = record { above = omega arith; below = omega arith; named = t }

  module _ (r : ℕ) (p : Nearest f 0 high s n r) where
    -- r is found at its level
    its-level : (l : ℕ) → (f r).level ≡ l → find_at l s (listed f 0 n) ≡ some (f r).what
    its-level l e =
        let o = p.hit.below in
        at_first f l s n 0 r (omega arith) (omega (arith, p.below)) (is_sym-at l s (f r) e ∙ p.hit.named)
        (λ j a b. is_sym-not l s (f j) (λ q t. omega (arith, p.oldest j (omega (arith, p.below)) (hit-of l j (omega arith) q t) (omega arith))))

    -- and from each level above
    down_to : (l : ℕ) → (f r).level ≤ l → l ≤ high → find l s (listed f 0 n) ≡ some (f r).what
    down_to zero a b = find-zero s (listed f 0 n) ∙ its-level 0 (omega arith)
    down_to (suc l) a b =
        by-eq (f r).level (suc l)
        (λ e. find-take l s (listed f 0 n) (f r).what (its-level (suc l) e))
        (λ e. find-skip l s (listed f 0 n)
        (at_none f (suc l) s n 0 (λ j c d. is_sym-not (suc l) s (f j) (λ q t. omega (arith, p.highest j (omega arith) (hit-of (suc l) j b q t)))))
        ∙ down_to l (omega arith) (omega arith))

    -- the definition finds r
    pub found-best : some (f r).what ≡ find high s (listed f 0 n)
    found-best = sym (down_to high p.hit.below (omega arith))

  module _ (miss : (j : ℕ) → j < n → Hit 0 high s (f j) → ⊥) where
    -- nothing at a level
    no-level : (l : ℕ) → l ≤ high → find_at l s (listed f 0 n) ≡ none
    no-level l h = at_none f l s n 0 (λ j a b. is_sym-not l s (f j) (λ q t. miss j (omega arith) (hit-of l j h q t)))

    -- nor at those below
    none-down : (l : ℕ) → l ≤ high → find l s (listed f 0 n) ≡ none
    none-down zero h = find-zero s (listed f 0 n) ∙ no-level 0 h
    none-down (suc l) h = find-skip l s (listed f 0 n) (no-level (suc l) h) ∙ none-down l (omega arith)

    -- the definition finds nothing
    pub found_none : none ≡ find high s (listed f 0 n)
    found_none = sym (none-down high (omega arith))

-- ── store ──

module _ (f g : ℕ → Sym) (l : ℕ) (s : List ℕ) (w : What) where
  -- what is stored
  abbrev pub the_entry : Sym
  the_entry = record { level = l; name = s; what = w }

  -- an entry of the level l
  one-level : (j : ℕ) → (f j).level ≡ l → same (f j).name s ≡ true → Hit l l s (f j)
  one-level j e t = record { above = omega arith; below = omega arith; named = t }

  -- entry r is the first of the level and the name
  put_first : (m k r : ℕ) → k ≤ r → r < k + m → is_sym l s (f r) ≡ true → ((j : ℕ) → k ≤ j → j < r → is_sym l s (f j) ≡ false)
      → ((j : ℕ) → (j ≡ r → ⊥) → g j ≡ f j) → g r ≡ the_entry → put_at l s w (listed f k m) ≡ listed g k m
  put_first zero k r a b t h o x = absurd (let z : ⊥ = omega arith in z)
  put_first (suc m) k r a b t h o x =
      rw (listed_cons f k m, listed_cons g k m)
      (by-eq k r
      (λ e. put-yes l s w (f k) (listed f (suc k) m) (ap (λ (i : ℕ). is_sym l s (f i)) e ∙ t)
      ∙ ap₂ ◌∷◌ (sym (ap g e ∙ x)) (listed-ext f g m (suc k) (λ j c d. sym (o j (λ q. omega arith)))))
      (λ e. put-no l s w (f k) (listed f (suc k) m) (h k (omega arith) (omega arith))
      ∙ ap₂ ◌∷◌ (sym (o k e)) (put_first m (suc k) r (omega arith) (omega arith) t (λ j c d. h j (omega arith) (omega arith)) o x)))

  -- no entry has the level and the name
  put_last : (m k : ℕ) → ((j : ℕ) → k ≤ j → j < k + m → is_sym l s (f j) ≡ false) → put_at l s w (listed f k m) ≡ listed f k m ++ (the_entry ∷ [])
  put_last zero k h = unfold listed put_at in refl
  put_last (suc m) k h =
      rw (listed_cons f k m)
      (put-no l s w (f k) (listed f (suc k) m) (h k (omega arith) (omega arith)) ∙ ap (λ (q : List Sym). f k ∷ q) (put_last m (suc k) (λ j a b. h j (omega arith) (omega arith))))

  -- a key that is there: its entry is overwritten
  pub put-old : (n r : ℕ) → Nearest f l l s n r → ((j : ℕ) → (j ≡ r → ⊥) → g j ≡ f j) → g r ≡ the_entry → put_at l s w (listed f 0 n) ≡ listed g 0 n
  put-old n r p o x =
      let e : (f r).level ≡ l = omega (arith, p.hit.above, p.hit.below) in
      put_first n 0 r (omega arith) (omega (arith, p.below)) (is_sym-at l s (f r) e ∙ p.hit.named)
      (λ j a b. is_sym-not l s (f j) (λ q t. omega (arith, p.oldest j (omega (arith, p.below)) (one-level j q t) (omega arith)))) o x

  -- a new key: its entry is the newest
  pub put-new : (n : ℕ) → ((j : ℕ) → j < n → Hit l l s (f j) → ⊥) → put_at l s w (listed f 0 n) ≡ listed f 0 n ++ (the_entry ∷ [])
  put-new n miss = put_last n 0 (λ j a b. is_sym-not l s (f j) (λ q t. miss j (omega arith) (one-level j q t)))
