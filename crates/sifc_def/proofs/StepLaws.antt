-- The small steps: what holds of the state after each. A state is `Well` where the walk stands on a token that is no lexing panic, and what it has stored and
-- listed is in bounds.
use Prim.Native.Nat.{ℕ, zero, suc, ◌≤◌, ◌<◌}
use Rattle.std.specs.Prelude.{List, [], ◌∷◌, Bool, ◌⊎◌, ◌≡◌, refl, T, leb, ltb, length}
use Rattle.std.proofs.Math.Option.{Option, none, some}
use Rattle.std.proofs.Math.Bool.{true, false}
use Rattle.std.proofs.Math.Logic.{inl}
use Rattle.std.proofs.Common.{sym, subst, eqb-true}
use native.Mathlib.Omega.{arith}
use Rattle.std.proofs.Math.Dec.{eqb}
use Rattle.sifc_err.specs.declared.Refusal.{Refusal}
use Rattle.sifc_word.specs.Base.{member}
use Rattle.sifc_word.specs.Kind.{Ident, Eof, LexPanic, Var, Fn, For}
use Rattle.sifc_def.specs.declared.Err.{Err}
use Rattle.sifc_def.specs.Why.{Why}
use Rattle.sifc_err.specs.declared.parse_err.ParseErrTy.TheVariants.{InvalidIdent}
use Rattle.sifc_def.specs.declared.What.{What}
use Rattle.sifc_def.specs.declared.What.TheVariants.{Placeholder, Function, Variable, Other}
use Rattle.sifc_def.specs.Error.{carried, carried_too}
use Rattle.sifc_def.specs.State.{Node, node, Sym, Ctx, St, Out, done, fail, refuse, M, Void, go_on, tok_at, name_at, err, arrive, consume, list, raise, add_error_w_pos, add_error, throw, throw_past, expect, optional, match_ident, or_throw, ident, push}
use Rattle.sifc_def.specs.Symbols.{is_sym, find_at, find, put_at, retrieve, store}
use Rattle.sifc_def.proofs.OutcomeLaws.{Holds, by-test, is-done, is-fail, is-refused}

-- the kind in front
abbrev pub kind_at : Ctx → St → ℕ
kind_at c s = (tok_at c s.at).kind

-- What the walk needs of its tokens. Only Eof or a lexing panic is the last; and a token that is not the last is worth something: the worth of those before
-- token i is b i. (Laws over bytes take their number for the worth.)
pub record Toks (c : Ctx) (b : ℕ → ℕ) : Type 0 where
  pub some : 0 < length c.toks
  pub ends : (i : ℕ) → i < length c.toks → eqb (tok_at c i).kind Eof ≡ false → eqb (tok_at c i).kind LexPanic ≡ false → suc i < length c.toks
  pub gain : (i : ℕ) → suc i < length c.toks → suc (b i) ≤ b (suc i)
  pub gains : (i : ℕ) → suc i < length c.toks → T (member (tok_at c i).kind (Var ∷ Fn ∷ For ∷ [])) → suc (suc (b i)) ≤ b (suc i)

unfoldable pub Each : {A : Type 0} → (A → Type 0) → List A → Type 0
Each P [] = Unit {0}
Each P (x ∷ xs) = P x × Each P xs

-- a stored function has at most 64 parameters, a stored variable's token is one of the t tokens
abbrev pub FairWhat : ℕ → What → Type 0
FairWhat t Placeholder = Unit {0}
FairWhat t (Function n) = n ≤ 64
FairWhat t (Variable i g) = i < t
FairWhat t Other = Unit {0}

abbrev pub FairFound : ℕ → Option What → Type 0
FairFound t none = Unit {0}
FairFound t (some w) = FairWhat t w

-- a listed error stands at one of the t tokens and carries a token or a count
pub record FairErr (t : ℕ) (e : Err) : Type 0 where
  pub place : e.place < t
  pub first : (carried e.why < t) ⊎ (carried e.why ≤ 64)
  pub second : carried_too e.why ≤ 64

pub record Well (c : Ctx) (s : St) : Type 0 where
  pub here : s.at < length c.toks
  pub calm : eqb (kind_at c s) LexPanic ≡ false
  pub level : s.level ≤ s.at
  pub syms : Each (λ (x : Sym). FairWhat (length c.toks) x.what) s.syms
  pub errs : Each (FairErr (length c.toks)) s.errs

pub clash : {x : Bool} → x ≡ true → x ≡ false → ⊥
clash {x = true} p q = absurd (subst T q tt)
clash {x = false} p q = absurd (subst T (sym p) tt)

-- ── the states after a step ──

abbrev pub moved : St → St
moved s = record { at = suc s.at; nodes = s.nodes; syms = s.syms; level = s.level; check = s.check; errs = s.errs }

abbrev pub pushed : Node → St → St
pushed n s = record { at = s.at; nodes = n ∷ s.nodes; syms = s.syms; level = s.level; check = s.check; errs = s.errs }

abbrev pub stored : List Sym → St → St
stored xs s = record { at = s.at; nodes = s.nodes; syms = xs; level = s.level; check = s.check; errs = s.errs }

abbrev pub with_err : Err → St → St
with_err e s = record { at = s.at; nodes = s.nodes; syms = s.syms; level = s.level; check = s.check; errs = e ∷ s.errs }

-- a state is well whatever its nodes and its name checking are
pub well-nodes : {c : Ctx} {s : St} (ns : List Node) (g : Bool) → Well c s → Well c (record { at = s.at; nodes = ns; syms = s.syms; level = s.level; check = g; errs = s.errs })
well-nodes ns g w = record { here = w.here; calm = w.calm; level = w.level; syms = w.syms; errs = w.errs }

pub well-level : {c : Ctx} {s : St} (l : ℕ) → l ≤ s.at → Well c s → Well c (record { at = s.at; nodes = s.nodes; syms = s.syms; level = l; check = s.check; errs = s.errs })
well-level l h w = record { here = w.here; calm = w.calm; level = h; syms = w.syms; errs = w.errs }

-- another kind than the one that was seen
pub other : (k m n : ℕ) → eqb k m ≡ true → eqb m n ≡ false → eqb k n ≡ false
other k m n e f = subst (λ (x : ℕ). eqb x n ≡ false) (sym (eqb-true k m e)) f

-- what passes a test that Eof does not pass is not Eof
pub not-eof : (F : ℕ → Bool) (k : ℕ) → F k ≡ true → F Eof ≡ false → eqb k Eof ≡ false
not-eof F k p q = go (eqb k Eof) refl
  where
    go : (x : Bool) → eqb k Eof ≡ x → x ≡ false
    go true e = absurd (clash p (subst (λ (i : ℕ). F i ≡ false) (sym (eqb-true k Eof e)) q))
    go false e = refl

-- ── symbols ──

find-at-fair : (t l : ℕ) (n : List ℕ) (xs : List Sym) → Each (λ (x : Sym). FairWhat t x.what) xs → FairFound t (find_at l n xs)
unfolding find_at Each
find-at-fair t l n [] h = tt
find-at-fair t l n (x ∷ xs) h = go (is_sym l n x) (find-at-fair t l n xs h.1)
  where
    go : (b : Bool) → FairFound t (find_at l n xs) → FairFound t (elim b [ true ↦ some x.what | false ↦ find_at l n xs ])
    go true f = h.0
    go false f = f

pub find-fair : (t l : ℕ) (n : List ℕ) (xs : List Sym) → Each (λ (x : Sym). FairWhat t x.what) xs → FairFound t (find l n xs)
unfolding find
find-fair t zero n xs h = find-at-fair t 0 n xs h
find-fair t (suc l) n xs h = go (find_at (suc l) n xs) (find-at-fair t (suc l) n xs h) (find-fair t l n xs h)
  where
    go : (o : Option What) → FairFound t o → FairFound t (find l n xs) → FairFound t (elim o [ some w ↦ some w | none ↦ find l n xs ])
    go none f g = g
    go (some w) f g = f

put-fair : (t l : ℕ) (n : List ℕ) (w : What) (xs : List Sym) → FairWhat t w → Each (λ (x : Sym). FairWhat t x.what) xs → Each (λ (x : Sym). FairWhat t x.what) (put_at l n w xs)
unfolding put_at Each
put-fair t l n w [] f h = (f, tt)
put-fair t l n w (x ∷ xs) f h = go (is_sym l n x) (put-fair t l n w xs f h.1)
  where
    go : (b : Bool) → Each (λ (x : Sym). FairWhat t x.what) (put_at l n w xs) → Each (λ (x : Sym). FairWhat t x.what) (elim b [ true ↦ record { level = l; name = n; what = w } ∷ xs | false ↦ x ∷ put_at l n w xs ])
    go true g = (f, h.1)
    go false g = (h.0, g)

pub put-length : (l : ℕ) (n : List ℕ) (w : What) (xs : List Sym) → length (put_at l n w xs) ≤ suc (length xs)
unfolding put_at
put-length l n w [] = omega arith
put-length l n w (x ∷ xs) = go (is_sym l n x) (put-length l n w xs)
  where
    go : (b : Bool) → length (put_at l n w xs) ≤ suc (length xs) → length {A = Sym} (elim b [ true ↦ record { level = l; name = n; what = w } ∷ xs | false ↦ x ∷ put_at l n w xs ]) ≤ suc (suc (length xs))
    go true h = omega arith
    go false h = omega arith

-- ── the steps ──

module _ (c : Ctx) (b : ℕ → ℕ) (ts : Toks c b) where
  abbrev pub total : ℕ
  total = length c.toks

  -- the token after this one
  pub record Next (s : St) : Type 0 where
    pub well : Well c (moved s)
    pub gain : suc (b s.at) ≤ b (suc s.at)

  -- what is put into the tables is in bounds
  pub record Stored (s : St) (xs : List Sym) : Type 0 where
    pub well : Well c (stored xs s)
    pub more : length xs ≤ suc (length s.syms)

  -- the three words that begin a declaration of names are worth two
  pub keyword : (k : ℕ) (s : St) → eqb (kind_at c s) k ≡ true → T (member k (Var ∷ Fn ∷ For ∷ [])) → Next s → suc (suc (b s.at)) ≤ b (suc s.at)
  keyword k s e m n = ts.gains s.at n.well.here (subst (λ (x : ℕ). T (member x (Var ∷ Fn ∷ For ∷ []))) (sym (eqb-true (kind_at c s) k e)) m)

  well-err : (s : St) (e : Err) → Well c s → FairErr total e → Well c (with_err e s)
  unfolding Each
  well-err s e w f = record { here = w.here; calm = w.calm; level = w.level; syms = w.syms; errs = (f, w.errs) }

  consume-is : (s : St) → Well c s → eqb (kind_at c s) Eof ≡ false → (X : Out (Unit {0}) → Type 0) → ((r : Refusal) → X (refuse r)) → (Next s → X (done tt (moved s))) → X (consume c s)
  unfolding consume arrive
  consume-is s w e X n y =
      let on : suc s.at < total = ts.ends s.at w.here e w.calm in
      by-test (eqb (kind_at c s) Eof) _ _ X (λ p. absurd (clash p e))
      (λ p. by-test (eqb (kind_at c (moved s)) LexPanic) _ _ X (λ q. n _)
      (λ q. y (record { well = record { here = on; calm = q; level = omega (arith, w.level); syms = w.syms; errs = w.errs }; gain = ts.gain s.at on })))

  consume-stays : (s : St) → eqb (kind_at c s) Eof ≡ true → consume c s ≡ done tt s
  unfolding consume
  consume-stays s e = by-test (eqb (kind_at c s) Eof) _ _ (λ (o : Out (Unit {0})). o ≡ done tt s) (λ p. refl) (λ p. absurd (clash e p))

  push-is : (k : ℕ) (f : Bool) (n p : ℕ) (s : St) (X : Out (Unit {0}) → Type 0) → ((r : Refusal) → X (refuse r)) → X (done tt (pushed (node k f n p) s)) → X (push c k f n p s)
  unfolding push
  push-is k f n p s X r y = by-test (ltb (length s.nodes) c.node_room) _ _ X (λ e. y) (λ e. r _)

  store_is : (i : ℕ) (w : What) (s : St) → Well c s → FairWhat total w → (X : Out (Unit {0}) → Type 0) → ((r : Refusal) → X (refuse r)) → ((xs : List Sym) → Stored s xs → X (done tt (stored xs s))) → X (store c i w s)
  unfolding store
  store_is i w s h f X r y =
      by-test (leb (length (put_at s.level (name_at c i) w s.syms)) c.sym_room) _ _ X
      (λ e. y _ (record { well = record { here = h.here; calm = h.calm; level = h.level; syms = put-fair total s.level (name_at c i) w s.syms f h.syms; errs = h.errs }; more = put-length s.level (name_at c i) w s.syms }))
      (λ e. r _)

  list-is : (e : Err) (s : St) (X : Out (Unit {0}) → Type 0) → ((r : Refusal) → X (refuse r)) → X (done tt (with_err e s)) → X (list c e s)
  unfolding list
  list-is x s X r y = by-test (ltb (length s.errs) c.err_room) _ _ X (λ e. y) (λ e. r _)

  -- each with what follows it, and as the last step
  module _ {A : Type 0} {P : A → St → Type 0} {Q : St → Type 0} where
    pub consumes : (s : St) (f : Unit {0} → M A) → Well c s → eqb (kind_at c s) Eof ≡ false → (Next s → Holds (f tt (moved s)) P Q) → Holds (go_on (consume c s) f) P Q
    unfolding go_on
    consumes s f w e h = consume-is s w e (λ (o : Out (Unit {0})). Holds (go_on o f) P Q) (λ r. is-refused) h

    -- an expected kind, which is not Eof
    pub expects-or : (k : ℕ) (s : St) (f : Unit {0} → M A) → Well c s → eqb k Eof ≡ false → (eqb (kind_at c s) k ≡ false → Q s) → (Next s → eqb (kind_at c s) k ≡ true → Holds (f tt (moved s)) P Q) → Holds (go_on (expect c k s) f) P Q
    unfolding expect raise go_on
    expects-or k s f w e q h =
        by-test (eqb (kind_at c s) k) (consume c) _ (λ (m : Void). Holds (go_on (m s) f) P Q)
        (λ p. consumes s f w (other (kind_at c s) k Eof p e) (λ n. h n p)) (λ p. is-fail (q p))

    pub expects : (k : ℕ) (s : St) (f : Unit {0} → M A) → Well c s → eqb k Eof ≡ false → Q s → (Next s → eqb (kind_at c s) k ≡ true → Holds (f tt (moved s)) P Q) → Holds (go_on (expect c k s) f) P Q
    expects k s f w e q h = expects-or k s f w e (λ p. q) h

    -- an expected kind that is known to be there
    pub takes : (k : ℕ) (s : St) (f : Unit {0} → M A) → Well c s → eqb k Eof ≡ false → eqb (kind_at c s) k ≡ true → (Next s → Holds (f tt (moved s)) P Q) → Holds (go_on (expect c k s) f) P Q
    unfolding expect raise go_on
    takes k s f w e p h =
        by-test (eqb (kind_at c s) k) (consume c) _ (λ (m : Void). Holds (go_on (m s) f) P Q) (λ q. consumes s f w (other (kind_at c s) k Eof p e) h) (λ q. absurd (clash p q))

    pub optionals : (k : ℕ) (s : St) (f : Bool → M A) → Well c s → eqb k Eof ≡ false → (Next s → eqb (kind_at c s) k ≡ true → Holds (f true (moved s)) P Q) → (eqb (kind_at c s) k ≡ false → Holds (f false s) P Q) → Holds (go_on (optional c k s) f) P Q
    unfolding optional go_on
    optionals k s f w e h g =
        by-test (eqb (kind_at c s) k) _ _ (λ (m : M Bool). Holds (go_on (m s) f) P Q)
        (λ p. consume-is s w (other (kind_at c s) k Eof p e) (λ (o : Out (Unit {0})). Holds (go_on (go_on o (λ a s'. done true s')) f) P Q) (λ r. is-refused) (λ n. h n p)) g

    pub pushes : (k : ℕ) (g : Bool) (n p : ℕ) (s : St) (f : Unit {0} → M A) → Holds (f tt (pushed (node k g n p) s)) P Q → Holds (go_on (push c k g n p s) f) P Q
    unfolding go_on
    pushes k g n p s f h = push-is k g n p s (λ (o : Out (Unit {0})). Holds (go_on o f) P Q) (λ r. is-refused) h

    pub stores : (i : ℕ) (w : What) (s : St) (f : Unit {0} → M A) → Well c s → FairWhat total w → ((xs : List Sym) → Stored s xs → Holds (f tt (stored xs s)) P Q) → Holds (go_on (store c i w s) f) P Q
    unfolding go_on
    stores i w s f v fair h = store_is i w s v fair (λ (o : Out (Unit {0})). Holds (go_on o f) P Q) (λ r. is-refused) h

    pub retrieves : (n : List ℕ) (s : St) (f : Option What → M A) → Well c s → ((w : Option What) → FairFound total w → Holds (f w s) P Q) → Holds (go_on (retrieve c n s) f) P Q
    unfolding retrieve go_on
    retrieves n s f w h = h _ (find-fair total s.level n s.syms w.syms)

    -- an error that is listed, at a token, and raised
    pub throws-at : (i : ℕ) (y : Why) (s : St) → Well c s → FairErr total (err i y) → (Well c (with_err (err i y) s) → Q (with_err (err i y) s)) → Holds (go_on (add_error_w_pos c i y s) (λ (x : Err). raise c x)) P Q
    unfolding add_error_w_pos raise go_on
    throws-at i y s w f q = list-is (err i y) s (λ (o : Out (Unit {0})). Holds (go_on (go_on o (λ a s'. done (err i y) s')) (λ x s'. fail x s')) P Q) (λ r. is-refused) (is-fail (q (well-err s (err i y) w f)))

    pub throws : (y : Why) (s : St) → Well c s → FairErr total (err s.at y) → (Well c (with_err (err s.at y) s) → Q (with_err (err s.at y) s)) → Holds (throw c y s) P Q
    unfolding throw add_error go_on
    throws y s w f q = throws-at s.at y s w f q

    -- an error whose token is passed; at Eof it stays
    pub throws-past : (y : Why) (s : St) → Well c s → FairErr total (err s.at y)
        → (eqb (kind_at c s) Eof ≡ true → Well c (with_err (err s.at y) s) → Q (with_err (err s.at y) s))
        → (Next (with_err (err s.at y) s) → Q (moved (with_err (err s.at y) s))) → Holds (throw_past c y s) P Q
    unfolding throw_past add_error add_error_w_pos raise go_on
    throws-past y s w f stay on =
        list-is (err s.at y) s (λ (o : Out (Unit {0})). Holds (go_on (go_on o (λ a s'. done (err s.at y) s')) (λ x s'. go_on (consume c s') (λ a s''. fail x s''))) P Q) (λ r. is-refused)
        (past (eqb (kind_at c s) Eof) refl)
      where
        past : (x : Bool) → eqb (kind_at c s) Eof ≡ x → Holds (go_on (consume c (with_err (err s.at y) s)) (λ a s''. fail (err s.at y) s'')) P Q
        past true e = rw (consume-stays (with_err (err s.at y) s) e) (is-fail (stay e (well-err s (err s.at y) w f)))
        past false e = consumes (with_err (err s.at y) s) _ (well-err s (err s.at y) w f) e (λ n. is-fail (on n))

    -- an error that is listed, and the reading goes on
    pub lists : (y : Why) (s : St) (f : Err → M A) → Well c s → FairErr total (err s.at y) → (Well c (with_err (err s.at y) s) → Holds (f (err s.at y) (with_err (err s.at y) s)) P Q) → Holds (go_on (add_error c y s) f) P Q
    unfolding add_error add_error_w_pos go_on
    lists y s f w fair h =
        list-is (err s.at y) s (λ (o : Out (Unit {0})). Holds (go_on (go_on o (λ a s'. done (err s.at y) s')) f) P Q) (λ r. is-refused) (h (well-err s (err s.at y) w fair))

    -- a name, or two errors
    pub idents : (y : ℕ → Why) (s : St) (f : ℕ → M A) → Well c s → FairErr total (err s.at (y s.at))
        → (Well c (with_err (err s.at (y s.at)) (with_err (err s.at (InvalidIdent s.at)) s)) → Q (with_err (err s.at (y s.at)) (with_err (err s.at (InvalidIdent s.at)) s)))
        → (Next s → eqb (kind_at c s) Ident ≡ true → Holds (f s.at (moved s)) P Q) → Holds (go_on (ident c y s) f) P Q
    unfolding ident match_ident or_throw throw add_error add_error_w_pos raise go_on
    idents y s f w fair q h =
        by-test (eqb (kind_at c s) Ident) _ _ (λ (m : M (Option ℕ)). Holds (go_on (go_on (m s) (or_throw c (y s.at))) f) P Q)
        (λ p. consume-is s w (other (kind_at c s) Ident Eof p refl) (λ (o : Out (Unit {0})). Holds (go_on (go_on (go_on o (λ a s'. done (some s.at) s')) (or_throw c (y s.at))) f) P Q) (λ r. is-refused) (λ n. h n p))
        (λ p. list-is (err s.at (InvalidIdent s.at)) s (λ (o : Out (Unit {0})). Holds (go_on (go_on (go_on (go_on o (λ a s'. done (err s.at (InvalidIdent s.at)) s')) (λ x s'. done none s')) (or_throw c (y s.at))) f) P Q) (λ r. is-refused)
        (list-is (err s.at (y s.at)) (with_err (err s.at (InvalidIdent s.at)) s) (λ (o : Out (Unit {0})). Holds (go_on (go_on (go_on o (λ a s'. done (err s.at (y s.at)) s')) (λ x s'. fail x s')) f) P Q) (λ r. is-refused)
        (is-fail (q (well-err _ _ (well-err s _ w (record { place = w.here; first = inl w.here; second = omega arith })) fair)))))

  module _ {P : Unit {0} → St → Type 0} {Q : St → Type 0} where
    pub consume-last : (s : St) → Well c s → eqb (kind_at c s) Eof ≡ false → (Next s → P tt (moved s)) → Holds (consume c s) P Q
    consume-last s w e h = consume-is s w e (λ (o : Out (Unit {0})). Holds o P Q) (λ r. is-refused) (λ n. is-done (h n))

    pub expect-last : (k : ℕ) (s : St) → Well c s → eqb k Eof ≡ false → Q s → (Next s → eqb (kind_at c s) k ≡ true → P tt (moved s)) → Holds (expect c k s) P Q
    unfolding expect raise go_on
    expect-last k s w e q h =
        by-test (eqb (kind_at c s) k) (consume c) _ (λ (m : Void). Holds (m s) P Q) (λ p. consume-last s w (other (kind_at c s) k Eof p e) (λ n. h n p)) (λ p. is-fail q)

    pub push-last : (k : ℕ) (g : Bool) (n p : ℕ) (s : St) → P tt (pushed (node k g n p) s) → Holds (push c k g n p s) P Q
    push-last k g n p s h = push-is k g n p s (λ (o : Out (Unit {0})). Holds o P Q) (λ r. is-refused) (is-done h)

    pub store-last : (i : ℕ) (w : What) (s : St) → Well c s → FairWhat total w → ((xs : List Sym) → Stored s xs → P tt (stored xs s)) → Holds (store c i w s) P Q
    store-last i w s v fair h = store_is i w s v fair (λ (o : Out (Unit {0})). Holds o P Q) (λ r. is-refused) (λ xs n. is-done (h xs n))
