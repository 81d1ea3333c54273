-- What the last node of an expression tells: it can be read, the expression does not begin after it, and it says how loosely the expression binds.
use Prim.Native.Nat.{ℕ, ◌+◌, ◌-◌, ◌≤◌, ◌<◌}
use native.Mathlib.Omega.{arith}
use native.Mathlib.Numerals.{add-one}
use mathlib.Core.Path.{◌≡◌, refl, sym, ap, ◌∙◌}
use mathlib.Core.Bool.{Bool, true, false}
use lib.Dec.{leb, ltb, leb-suc-suc}
use borrow.Author.Tests.{lt-ltb, le-ltb}
use Rattle.sifc_word.specs.Base.{if◌then◌otherwise◌, member}
use Rattle.sifc_def.specs.Typed.{Expr, prim, un, bin, call, dot, idx, set, mut, Exprs, nil, more, height}
use Rattle.sifc_def.specs.Expr.{looseness}
use Rattle.sifc_put.specs.Place.{Inp, Node}
use Rattle.sifc_put.specs.declared.write.Writer.{Writer}
use Rattle.sifc_put.specs.Post.{height_at, Readable, InHeads, CanRead, inp_of, At}
use Rattle.sifc_put.specs.Spans.{Spans, SpansAll}
use Rattle.sifc_text_expr.specs.Kinds.{expr_l}

-- One of two numbers that are at most 7.
at_most : (b : Bool) (m n : ℕ) → m ≤ 7 → n ≤ 7 → (if b then m otherwise n) ≤ 7
unfolding if◌then◌otherwise◌
at_most true m n h k = h
at_most false m n h k = k

-- No operator binds looser than 7.
pub loose-le : (k : ℕ) → looseness k ≤ 7
unfolding looseness
loose-le k =
    at_most _ 1 _ (omega arith)
    (at_most _ 2 _ (omega arith)
    (at_most _ 3 _ (omega arith)
    (at_most _ 4 _ (omega arith)
    (at_most _ 5 _ (omega arith)
    (at_most _ 6 _ (omega arith)
    (at_most _ 7 0 (omega arith) (omega arith)))))))

-- Not looser than n is tighter than what follows n.
pub below_next : (h n : ℕ) → leb h n ≡ ltb h (n + 1)
below_next h n = sym (ap (λ (x : ℕ). ltb h x) (add-one n) ∙ leb-suc-suc h n)

module _ (I : Inp) where
  -- a node with no operator's token
  plain : {hi kind kids : ℕ} → Node I.heads I.loads hi kind kids → (kind ≡ 22 → ⊥) → Readable I.words I.heads I.loads hi
  plain t n = record { some = t.some; in_heads = t.in_heads; in_loads = t.in_loads; operator = λ k. absurd (n (sym t.kinded ∙ k)) }

  -- The last node of an expression can be read.
  pub readable : (e : Expr) (lo hi : ℕ) → Spans I e lo hi → Readable I.words I.heads I.loads hi
  unfolding Spans
  readable (prim x) lo hi z = plain z.top (λ k. omega (arith, k))
  readable (un o e) lo hi z = plain z.top (λ k. omega (arith, k))
  readable (bin o l r) lo hi z = record { some = z.top.some; in_heads = z.top.in_heads; in_loads = z.top.in_loads; operator = λ k. z.token.spells.in_words }
  readable (call x es) lo hi z = plain z.top (λ k. omega (arith, k))
  readable (dot x e) lo hi z = plain z.top (λ k. omega (arith, k))
  readable (idx x e) lo hi z = plain z.top (λ k. omega (arith, k))
  readable (set x g e) lo hi z = plain z.top (λ k. omega (arith, k))
  readable (mut x i e) lo hi z = plain z.top (λ k. omega (arith, k))

  -- An expression has a node.
  mutual
    unfolding Spans SpansAll

    pub lower : (e : Expr) (lo hi : ℕ) → Spans I e lo hi → lo < hi
    lower (prim x) lo hi z = omega (arith, z.top.some, z.below)
    lower (un o e) lo hi z = omega (arith, lower e lo (hi - 1) z.below)
    lower (bin o l r) lo hi z = omega (arith, lower l lo z.below.mid z.below.front, lower r z.below.mid (hi - 1) z.below.last)
    lower (call x es) lo hi z = let s = z.below.front in omega (arith, s.top.some, s.below, lower-all es z.below.mid (hi - 1) z.below.last)
    lower (dot x e) lo hi z = let s = z.below.front in omega (arith, s.top.some, s.below, lower e z.below.mid (hi - 1) z.below.last)
    lower (idx x e) lo hi z = let s = z.below.front in omega (arith, s.top.some, s.below, lower e z.below.mid (hi - 1) z.below.last)
    lower (set x g e) lo hi z = let s = z.below.front in omega (arith, s.top.some, s.below, lower e z.below.mid (hi - 1) z.below.last)
    lower (mut x i e) lo hi z =
        let y = z.below.front in
        let s = y.front in
        omega (arith, s.top.some, s.below, lower i y.mid z.below.mid y.last, lower e z.below.mid (hi - 1) z.below.last)

    -- Expressions do not end before they begin.
    pub lower-all : (es : Exprs) (lo hi : ℕ) → SpansAll I es lo hi → lo ≤ hi
    lower-all nil lo hi z = omega (arith, z)
    lower-all (more e es) lo hi z = omega (arith, lower e lo z.mid z.front, lower-all es z.mid hi z.last)

  -- The last node of an expression says how loosely it binds.
  pub high : (e : Expr) (lo hi : ℕ) → Spans I e lo hi → height_at I.words I.heads I.loads hi ≡ height e
  unfolding Spans height_at if◌then◌otherwise◌ member height
  high (prim x) lo hi z = rw z.top.kinded refl
  high (un o e) lo hi z = rw z.top.kinded refl
  high (bin o l r) lo hi z = rw z.top.kinded (ap looseness (sym z.token.spells.kind))
  high (call x es) lo hi z = rw z.top.kinded refl
  high (dot x e) lo hi z = rw z.top.kinded refl
  high (idx x e) lo hi z = rw z.top.kinded refl
  high (set x g e) lo hi z = rw z.top.kinded refl
  high (mut x i e) lo hi z = rw z.top.kinded refl

  -- an operand that binds tighter
  pub tight : (below hi k : ℕ) → k ≡ height_at I.words I.heads I.loads hi → k < below → (e : Expr) (lo : ℕ) → Spans I e lo hi → ltb (height e) below ≡ true
  tight below hi k f u e lo s = lt-ltb (height e) below (omega (arith, f, high e lo hi s))

  -- and one that does not
  pub loose : (below hi k : ℕ) → k ≡ height_at I.words I.heads I.loads hi → below ≤ k → (e : Expr) (lo : ℕ) → Spans I e lo hi → ltb (height e) below ≡ false
  loose below hi k f u e lo s = le-ltb (height e) below (omega (arith, f, high e lo hi s))

-- The node of an expression to write can be read.
pub root : (p : Writer) → At expr_l p → CanRead p
root p z = readable (inp_of p) z.tree z.lo p.node z.spans

pub root-head : (p : Writer) → At expr_l p → InHeads p
root-head p z = let r = root p z in record { some = r.some; in_heads = r.in_heads }
