-- Each word of a typed tree that a reading accepts is a token that is not the script's end: so what holds of every such token holds of each word.
use Rattle.std.specs.Prelude.{ℕ, suc, ◌≤◌, ◌<◌, ◌≡◌, Bool, false, ◌&&◌, ◌||◌, T, eqb, leb}
use mathlib.Core.List.{List, [], ◌∷◌}
use Rattle.std.proofs.Math.Option.{Option}
use Rattle.std.proofs.Math.Bool.{true}
use Rattle.std.proofs.Common.{arith, eqb→eq, leb→le}
use Rattle.sifc_word.specs.Base.{member}
use Rattle.sifc_word.specs.BaseLaws.{and_left, and_right, if-either}
use Rattle.sifc_word.specs.Kind.{Lt, Gt, Bang, Plus, Minus, Star, Slash, Percent, EqEq, LtEq, GtEq, BangEq, AmpAmp, PipePipe, Ident}
use Rattle.sifc_def.specs.declared.What.{What}
use Rattle.sifc_def.specs.State.{W, Sym}
use Rattle.sifc_def.specs.Expr.{looseness, is_unary, is_literal}
use Rattle.sifc_def.specs.Typed.{Expr, prim, un, bin, call, dot, idx, set, mut, Exprs, nil, more, Items, no_item, item, Stmt, var_none, var_expr, var_array, var_table, func, block, cond, loop, ret, ret_expr, expr_stmt, Stmts, stop, next, Branches, no_branch, elif_of, else_of, fine, Ok, Oks, OkItems, OkNames, seen, OkS, OkSs, OkBs, Said, Saids, SaidNames, SaidItems, SaidS, SaidSs, SaidBs}

-- ── kinds ──

-- one of two tests holds
either_way : {X : Type 0} (p q : Bool) → (T p → X) → (T q → X) → T (p || q) → X
either_way true q f g t = f tt
either_way false q f g t = g t

-- kinds of tokens that are not the end
under : List ℕ → Bool
under [] = true
under (n ∷ ns) = leb n 45 && under ns

-- a member of a list of such kinds is one
member-under : (k : ℕ) (ns : List ℕ) → T (under ns) → T (member k ns) → k ≤ 45
unfolding under member
member-under k [] h t = absurd t
member-under k (n ∷ ns) h t =
    either_way (eqb k n) (member k ns) (λ u. let e = eqb→eq k n u in let z = leb→le n 45 (and_left (leb n 45) (under ns) h) in omega arith)
    (λ u. member-under k ns (and_right (leb n 45) (under ns) h) u) t

-- The one kind that a test names.
is-under : (k n : ℕ) → n ≤ 45 → T (eqb k n) → k ≤ 45
is-under k n h t = let e = eqb→eq k n t in omega arith

-- a literal or a name
fine-under : (look : List ℕ → Option What) (b : Bool) (x : W) → T (fine look b x) → x.kind ≤ 45
unfolding fine is_literal under
fine-under look b x t =
    either_way (is_literal x.kind) _ (λ u. member-under x.kind _ tt u) (λ u. is-under x.kind Ident (omega arith) (and_left (eqb x.kind Ident) _ u)) t

-- A unary operator.
unary-under : (k : ℕ) → T (is_unary k) → k ≤ 45
unfolding is_unary
unary-under k t = either_way (eqb k Bang) (eqb k Minus) (λ u. is-under k Bang (omega arith) u) (λ u. is-under k Minus (omega arith) u) t

-- the same by equations
member-eq : (k : ℕ) (ns : List ℕ) → T (under ns) → member k ns ≡ true → k ≤ 45
member-eq k ns h e = member-under k ns h (rw e tt)

-- The one kind that a test names.
is_eq : (k n : ℕ) → n ≤ 45 → eqb k n ≡ true → k ≤ 45
is_eq k n h e = is-under k n h (rw e tt)

-- a binary operator
binary-under : (k : ℕ) → 0 < looseness k → k ≤ 45
unfolding looseness under
binary-under k =
    if-either (λ (n : ℕ). 0 < n → k ≤ 45) (eqb k Percent) _ _ (λ e h. is_eq k Percent (omega arith) e) (λ e.
    if-either (λ (n : ℕ). 0 < n → k ≤ 45) (member k (Star ∷ Slash ∷ [])) _ _ (λ e h. member-eq k (Star ∷ Slash ∷ []) tt e) (λ e.
    if-either (λ (n : ℕ). 0 < n → k ≤ 45) (member k (Plus ∷ Minus ∷ [])) _ _ (λ e h. member-eq k (Plus ∷ Minus ∷ []) tt e) (λ e.
    if-either (λ (n : ℕ). 0 < n → k ≤ 45) (member k (Lt ∷ LtEq ∷ Gt ∷ GtEq ∷ [])) _ _ (λ e h. member-eq k (Lt ∷ LtEq ∷ Gt ∷ GtEq ∷ []) tt e) (λ e.
    if-either (λ (n : ℕ). 0 < n → k ≤ 45) (member k (BangEq ∷ EqEq ∷ [])) _ _ (λ e h. member-eq k (BangEq ∷ EqEq ∷ []) tt e) (λ e.
    if-either (λ (n : ℕ). 0 < n → k ≤ 45) (eqb k AmpAmp) _ _ (λ e h. is_eq k AmpAmp (omega arith) e) (λ e.
    if-either (λ (n : ℕ). 0 < n → k ≤ 45) (eqb k PipePipe) _ _ (λ e h. is_eq k PipePipe (omega arith) e) (λ e h. absurd (let z : ⊥ = omega arith in z))))))))

-- A name.
name-under : (k : ℕ) → k ≡ Ident → k ≤ 45
name-under k e = omega arith

-- ── trees ──

-- what holds of a word if it is not the end
abbrev pub IfToken : (W → Type 0) → W → Type 0
IfToken P x = x.kind ≤ 45 → P x

module _ (P : W → Type 0) where
  module _ (look : List ℕ → Option What) where
    -- expressions
    mutual
      unfolding Ok Oks Said Saids

      token-E : (b : Bool) (e : Expr) → Ok look b e → Said (IfToken P) e → Said P e
      token-E b (prim x) k h = h (fine-under look b x k)
      token-E b (un o e) k h = (h.0 (unary-under o.kind k.0), token-E b e k.1 h.1)
      token-E b (bin o l r) k h = (h.0 (binary-under o.kind k.0), token-E b l k.1 h.1, token-E _ r k.2 h.2)
      token-E b (call x es) k h = (h.0 (fine-under look b x k.0), token-Es b es k.2 h.1)
      token-E b (dot x e) k h = (h.0 (fine-under look b x k.0), token-E false e k.1 h.1)
      token-E b (idx x e) k h = (h.0 (fine-under look b x k.0), token-E b e k.1 h.1)
      token-E b (set x g e) k h = (h.0 (fine-under look b x k.0), token-E b e k.3 h.1)
      token-E b (mut x i e) k h = (h.0 (fine-under look b x k.0), token-E b i k.1 h.1, token-E _ e k.2 h.2)

      token-Es : (b : Bool) (es : Exprs) → Oks look b es → Saids (IfToken P) es → Saids P es
      token-Es b nil k h = tt
      token-Es b (more e es) k h = (token-E b e k.0 h.0, token-Es _ es k.1 h.1)

    token-I : (is : Items) → OkItems look is → SaidItems (IfToken P) is → SaidItems P is
    unfolding OkItems SaidItems
    token-I no_item k h = tt
    token-I (item x e is) k h = (h.0 (name-under x.kind k.0), token-E true e k.1 h.1, token-I is k.2 h.2)

  -- Names that are bound.
  token-N : (ns : List W) → OkNames ns → SaidNames (IfToken P) ns → SaidNames P ns
  unfolding OkNames SaidNames
  token-N [] k h = tt
  token-N (x ∷ ns) k h = (h.0 (name-under x.kind k.0), token-N ns k.1 h.1)

  -- statements and the branches of an `if`
  mutual
    unfolding OkS OkSs OkBs SaidS SaidSs SaidBs

    token-S : (l : ℕ) (E : List Sym) (t : Stmt) → OkS l E t → SaidS (IfToken P) t → SaidS P t
    token-S l E (var_none x) k h = h (name-under x.kind k)
    token-S l E (var_expr x e) k h = (h.0 (name-under x.kind k.0), token-E (seen l E) true e k.1 h.1)
    token-S l E (var_array x es) k h = (h.0 (name-under x.kind k.0), token-Es (seen l E) true es k.1 h.1)
    token-S l E (var_table x is) k h = (h.0 (name-under x.kind k.0), token-I (seen l E) is k.1 h.1)
    token-S l E (func x ns ss) k h = (h.0 (name-under x.kind k.0), token-N ns k.1 h.1, token-Ss (suc l) _ ss k.4 h.2)
    token-S l E (block ss) k h = token-Ss (suc l) E ss k h
    token-S l E (cond e ss bs) k h = (token-E (seen l E) true e k.0 h.0, token-Ss (suc l) E ss k.1 h.1, token-Bs l _ bs k.2 h.2)
    token-S l E (loop x y e ss) k h = (h.0 (name-under x.kind k.0), h.1 (name-under y.kind k.1), token-E (seen l E) true e k.2 h.2, token-Ss (suc l) _ ss k.3 h.3)
    token-S l E ret k h = tt
    token-S l E (ret_expr e) k h = token-E (seen l E) true e k h
    token-S l E (expr_stmt e) k h = token-E (seen l E) true e k h

    -- What holds of each word of a program that is accepted, if it is not the end, holds of each word.
    pub token-Ss : (l : ℕ) (E : List Sym) (ts : Stmts) → OkSs l E ts → SaidSs (IfToken P) ts → SaidSs P ts
    token-Ss l E stop k h = tt
    token-Ss l E (next t ts) k h = (token-S l E t k.0 h.0, token-Ss l _ ts k.1 h.1)

    token-Bs : (l : ℕ) (E : List Sym) (bs : Branches) → OkBs l E bs → SaidBs (IfToken P) bs → SaidBs P bs
    token-Bs l E no_branch k h = tt
    token-Bs l E (elif_of e ss bs) k h = (token-E (seen l E) true e k.0 h.0, token-Ss (suc l) E ss k.1 h.1, token-Bs l _ bs k.2 h.2)
    token-Bs l E (else_of ss bs) k h = (token-Ss (suc l) E ss k.0 h.0, token-Bs l _ bs k.1 h.1)
