-- Each expression as its pieces, in the order of its words: what a test on the kind of its last node tells of it.
use Prim.Native.Nat.{ℕ, suc, ◌+◌, ◌-◌, ◌/◌, ◌%◌, ◌≤◌, ◌<◌}
use native.Mathlib.Omega.{arith}
use mathlib.Core.Path.{◌≡◌, refl, sym, ap, ◌∙◌}
use mathlib.Core.List.{List, [], ◌∷◌, ◌++◌, append_assoc, append-nil}
use mathlib.Core.Bool.{Bool}
use lib.Dec.{leb, ltb, leb-suc-suc}
use lib.ListN.{length, get_or}
use Rattle.sifc_word.specs.Base.{if◌then◌otherwise◌, member}
use Rattle.sifc_def.specs.Expr.{looseness}
use Rattle.sifc_def.specs.Typed.{Expr, prim, un, bin, call, dot, idx, set, mut, Exprs, nil, more, many, rp, rb, eq, comma, height, wrap, between, pr, prs}
use Rattle.sifc_put.specs.Place.{Inp, Along}
use Rattle.sifc_put.specs.declared.write.Writer.{Writer}
use Rattle.sifc_put.specs.Post.{Kind, inp_of, kind_of, children_of, height_of, Pieces, one, seq, made, fixed, token_l, leaf_l, commas, height_at}
use Rattle.sifc_put.specs.Bytes.{worded, spaced, bytes_of, puts-wrap, puts-E, puts-Es, spaced-puts}
use Rattle.sifc_put.specs.Spans.{Spans, SpansAll}
use Rattle.sifc_put.proofs.Frame.{Narrow, Part, down, opened, entered, tested}
use Rattle.sifc_text_expr.specs.Kinds.{expr_l, operand_l, exprs_l, subscript_l, linked_l}
use Rattle.sifc_text_expr.proofs.Roots.{below_next, tight, loose, high}

-- a sign and a space
abbrev pub sign_l : ℕ → Kind
sign_l s = fixed (s ∷ 32 ∷ [])

-- ── pieces ──

-- an operand in parentheses
abbrev pub closed_l : Pieces
closed_l = seq (seq (one (sign_l 40)) expr_l) (sign_l 41)

-- two operands of an operator whose looseness is n
abbrev pub two_l : ℕ → ℕ → Pieces
two_l hi n = seq (seq (one (operand_l (n + 1))) (token_l hi)) (operand_l n)

-- one operand, which stands as it is or by its own rule
abbrev pub one_l : ℕ → Kind → Pieces
one_l hi K = seq (one (token_l hi)) K

-- a call with n arguments
abbrev pub call_l : ℕ → Pieces
call_l n = seq (seq (seq (one leaf_l) (sign_l 40)) (exprs_l n)) (sign_l 41)

-- a target and an index in brackets
abbrev pub index_l : Pieces
index_l = seq (seq (seq (one leaf_l) (sign_l 91)) expr_l) (sign_l 93)

-- an assignment to an element of an array
abbrev pub element_l : Pieces
element_l = seq (seq (one subscript_l) (sign_l 61)) expr_l

-- a target, a sign and an expression
abbrev pub joined_l : ℕ → Pieces
joined_l s = seq (seq (one leaf_l) (sign_l s)) expr_l

-- ── expressions one after another, as a list ──

-- the list of the expressions
unfoldable pub listed : Exprs → List Expr
listed nil = []
listed (more e es) = e ∷ listed es

-- There are as many.
pub listed-many : (es : Exprs) → length (listed es) ≡ many es
unfolding listed many
listed-many nil = refl
listed-many (more e es) = ap suc (listed-many es)

-- Their bytes have commas between.
pub listed-bytes : (es : Exprs) → bytes_of (prs es) ≡ commas (λ e. bytes_of (pr e)) (listed es)
unfolding listed prs between spaced commas
listed-bytes nil = refl
listed-bytes (more e nil) = refl
listed-bytes (more e (more f fs)) =
    spaced-puts (puts-E e) (comma ∷ prs (more f fs) [])
    ∙ ap (λ (b : List ℕ). bytes_of (pr e) ++ (44 ∷ 32 ∷ b)) (listed-bytes (more f fs))

module _ (I : Inp) where
  -- They stand where the list stands.
  pub listed-along : (es : Exprs) (lo hi : ℕ) → SpansAll I es lo hi → Along (λ e a b. Spans I e a b) (listed es) lo hi
  unfolding listed Spans SpansAll Along
  listed-along nil lo hi z = z
  listed-along (more e es) lo hi z = record { mid = z.mid; front = z.front; last = listed-along es z.mid hi z.last }

  -- the kind of the node before hi
  abbrev kind : ℕ → ℕ
  kind hi = get_or I.heads (hi - 1) 0 % 32

  -- ── operands ──

  -- an operand that binds tighter stands bare
  is-bare : (below hi k : ℕ) → k ≡ height_at I.words I.heads I.loads hi → k < below → Narrow (operand_l below I) (expr_l I) hi hi
  unfolding wrap
  is-bare below hi k f u x lo s = record { tree = x; spans = s; text = ap (λ (b : Bool). bytes_of (wrap b (pr x))) (tight I below hi k f u x lo s) }

  -- one that does not stands in parentheses
  is-closed : (below hi k : ℕ) → k ≡ height_at I.words I.heads I.loads hi → below ≤ k → Narrow (operand_l below I) (made closed_l I) hi hi
  unfolding wrap spaced
  is-closed below hi k f u x lo s =
      record {
        tree = ((tt, x), tt);
        spans = record { mid = hi; front = record { mid = lo; front = refl; last = s }; last = refl };
        text =
            ap (λ (b : Bool). bytes_of (wrap b (pr x))) (loose I below hi k f u x lo s)
            ∙ ap (λ (b : List ℕ). 40 ∷ 32 ∷ b) (spaced-puts (puts-E x) (rp ∷ []));
      }

  -- ── operators ──

  -- two operands
  is-two : (hi n : ℕ) → kind hi ≡ 22 → n ≡ height_at I.words I.heads I.loads hi → Narrow (expr_l I) (made (two_l hi n) I) hi (hi - 1)
  unfolding Spans pr spaced height
  is-two hi n k en (prim x) lo z = absurd (omega (arith, z.top.kinded, k))
  is-two hi n k en (un o e) lo z = absurd (omega (arith, z.top.kinded, k))
  is-two hi n k en (bin o l r) lo z =
      let e : looseness o.kind ≡ n = sym (en ∙ high I (bin o l r) lo hi z) in
      record {
        tree = ((l, o), r);
        spans = record { mid = z.below.mid; front = record { mid = z.below.mid; front = z.below.front; last = (refl, z.token) }; last = z.below.last };
        text =
            spaced-puts (puts-wrap (leb (height l) (looseness o.kind)) (puts-E l)) (o ∷ wrap (ltb (height r) (looseness o.kind)) (pr r) [])
            ∙ ap (λ (i : ℕ). bytes_of (wrap (leb (height l) i) (pr l)) ++ (worded o ++ bytes_of (wrap (ltb (height r) i) (pr r)))) e
            ∙ ap (λ (b : Bool). bytes_of (wrap b (pr l)) ++ (worded o ++ bytes_of (wrap (ltb (height r) n) (pr r)))) (below_next (height l) n)
            ∙ sym (append_assoc (bytes_of (wrap (ltb (height l) (n + 1)) (pr l))) (worded o) (bytes_of (wrap (ltb (height r) n) (pr r))));
      }
  is-two hi n k en (call x es) lo z = absurd (omega (arith, z.top.kinded, k))
  is-two hi n k en (dot x e) lo z = absurd (omega (arith, z.top.kinded, k))
  is-two hi n k en (idx x e) lo z = absurd (omega (arith, z.top.kinded, k))
  is-two hi n k en (set x g e) lo z = absurd (omega (arith, z.top.kinded, k))
  is-two hi n k en (mut x i e) lo z = absurd (omega (arith, z.top.kinded, k))

  -- one operand
  is_one : (hi : ℕ) → kind hi ≡ 23 → Narrow (expr_l I) (made (one_l hi (operand_l 1)) I) hi (hi - 1)
  unfolding Spans pr spaced
  is_one hi k (prim x) lo z = absurd (omega (arith, z.top.kinded, k))
  is_one hi k (un o e) lo z =
      record {
        tree = (o, e);
        spans = record { mid = lo; front = (refl, z.token); last = z.below };
        text = ap (λ (b : Bool). worded o ++ bytes_of (wrap b (pr e))) (sym (leb-suc-suc (height e) 0));
      }
  is_one hi k (bin o l r) lo z = absurd (omega (arith, z.top.kinded, k))
  is_one hi k (call x es) lo z = absurd (omega (arith, z.top.kinded, k))
  is_one hi k (dot x e) lo z = absurd (omega (arith, z.top.kinded, k))
  is_one hi k (idx x e) lo z = absurd (omega (arith, z.top.kinded, k))
  is_one hi k (set x g e) lo z = absurd (omega (arith, z.top.kinded, k))
  is_one hi k (mut x i e) lo z = absurd (omega (arith, z.top.kinded, k))

  -- a node `!` or `-` binds tighter than any operator
  one-height : (hi : ℕ) → kind hi ≡ 23 → 0 ≡ height_at I.words I.heads I.loads hi
  unfolding height_at if◌then◌otherwise◌ member
  one-height hi k = rw k refl

  -- an operand that is again one of `!` or `-`: it stands bare
  is-chain : (hi : ℕ) → kind (hi - 1) ≡ 23 → Narrow (made (one_l hi (operand_l 1)) I) (made (one_l hi expr_l) I) (hi - 1) (hi - 1)
  unfolding wrap
  is-chain hi k x lo z =
      let b = tight I 1 (hi - 1) 0 (one-height (hi - 1) k) (omega arith) x.1 z.mid z.last in
      record { tree = x; spans = z; text = ap (λ (y : Bool). worded x.0 ++ bytes_of (wrap y (pr x.1))) b }

  -- ── the rest ──

  -- a single token
  is-prim : (hi : ℕ) → kind hi ≡ 24 → Narrow (expr_l I) (leaf_l I) hi hi
  unfolding Spans pr spaced
  is-prim hi k (prim x) lo z = record { tree = x; spans = (z.below, z.token); text = append-nil (worded x) }
  is-prim hi k (un o e) lo z = absurd (omega (arith, z.top.kinded, k))
  is-prim hi k (bin o l r) lo z = absurd (omega (arith, z.top.kinded, k))
  is-prim hi k (call x es) lo z = absurd (omega (arith, z.top.kinded, k))
  is-prim hi k (dot x e) lo z = absurd (omega (arith, z.top.kinded, k))
  is-prim hi k (idx x e) lo z = absurd (omega (arith, z.top.kinded, k))
  is-prim hi k (set x g e) lo z = absurd (omega (arith, z.top.kinded, k))
  is-prim hi k (mut x i e) lo z = absurd (omega (arith, z.top.kinded, k))

  -- a call
  is_call : (hi n : ℕ) → kind hi ≡ 20 → n ≡ get_or I.heads (hi - 1) 0 / 64 → Narrow (expr_l I) (made (call_l (n - 1)) I) hi (hi - 1)
  unfolding Spans pr spaced
  is_call hi n k en (prim x) lo z = absurd (omega (arith, z.top.kinded, k))
  is_call hi n k en (un o e) lo z = absurd (omega (arith, z.top.kinded, k))
  is_call hi n k en (bin o l r) lo z = absurd (omega (arith, z.top.kinded, k))
  is_call hi n k en (call x es) lo z =
      let s = z.below.front in
      let m = z.below.mid in
      record {
        tree = (((x, tt), listed es), tt);
        spans =
            record {
              mid = hi - 1;
              front =
                  record {
                    mid = m;
                    front = record { mid = m; front = (s.below, s.token); last = refl };
                    last = (listed-along es m (hi - 1) z.below.last, omega (arith, listed-many es, z.top.counted, en));
                  };
              last = refl;
            };
        text =
            ap (λ (b : List ℕ). worded x ++ (40 ∷ 32 ∷ b)) (spaced-puts (puts-Es es) (rp ∷ []) ∙ ap (λ (b : List ℕ). b ++ (41 ∷ 32 ∷ [])) (listed-bytes es))
            ∙ sym (simp append_assoc);
      }
  is_call hi n k en (dot x e) lo z = absurd (omega (arith, z.top.kinded, k))
  is_call hi n k en (idx x e) lo z = absurd (omega (arith, z.top.kinded, k))
  is_call hi n k en (set x g e) lo z = absurd (omega (arith, z.top.kinded, k))
  is_call hi n k en (mut x i e) lo z = absurd (omega (arith, z.top.kinded, k))

  -- Its target is one of the children that its node counts.
  pub counts_target : (hi : ℕ) → kind hi ≡ 20 → (e : Expr) (lo : ℕ) → Spans I e lo hi → 1 ≤ get_or I.heads (hi - 1) 0 / 64
  unfolding Spans
  counts_target hi k (prim x) lo z = absurd (omega (arith, z.top.kinded, k))
  counts_target hi k (un o e) lo z = absurd (omega (arith, z.top.kinded, k))
  counts_target hi k (bin o l r) lo z = absurd (omega (arith, z.top.kinded, k))
  counts_target hi k (call x es) lo z = omega (arith, z.top.counted)
  counts_target hi k (dot x e) lo z = absurd (omega (arith, z.top.kinded, k))
  counts_target hi k (idx x e) lo z = absurd (omega (arith, z.top.kinded, k))
  counts_target hi k (set x g e) lo z = absurd (omega (arith, z.top.kinded, k))
  counts_target hi k (mut x i e) lo z = absurd (omega (arith, z.top.kinded, k))

  -- an element of an array
  is-subscript : (hi : ℕ) → kind hi ≡ 18 → Narrow (expr_l I) (subscript_l I) hi (hi - 1)
  unfolding Spans pr spaced
  is-subscript hi k (prim x) lo z = absurd (omega (arith, z.top.kinded, k))
  is-subscript hi k (un o e) lo z = absurd (omega (arith, z.top.kinded, k))
  is-subscript hi k (bin o l r) lo z = absurd (omega (arith, z.top.kinded, k))
  is-subscript hi k (call x es) lo z = absurd (omega (arith, z.top.kinded, k))
  is-subscript hi k (dot x e) lo z = absurd (omega (arith, z.top.kinded, k))
  is-subscript hi k (idx x e) lo z = record { tree = (x, e); spans = z.below; text = ap (λ (b : List ℕ). worded x ++ (91 ∷ 32 ∷ b)) (spaced-puts (puts-E e) (rb ∷ [])) }
  is-subscript hi k (set x g e) lo z = absurd (omega (arith, z.top.kinded, k))
  is-subscript hi k (mut x i e) lo z = absurd (omega (arith, z.top.kinded, k))

  -- its pieces
  is-index : (hi : ℕ) → Narrow (subscript_l I) (made index_l I) hi hi
  is-index hi x lo z =
      let s = z.front in
      record {
        tree = (((x.0, tt), x.1), tt);
        spans =
            record {
              mid = hi;
              front = record { mid = z.mid; front = record { mid = z.mid; front = (s.below, s.token); last = refl }; last = z.last };
              last = refl;
            };
        text = sym (simp append_assoc);
      }

  -- an assignment to an element
  is-element : (hi : ℕ) → kind hi ≡ 19 → Narrow (expr_l I) (made element_l I) hi (hi - 1)
  unfolding Spans pr spaced
  is-element hi k (prim x) lo z = absurd (omega (arith, z.top.kinded, k))
  is-element hi k (un o e) lo z = absurd (omega (arith, z.top.kinded, k))
  is-element hi k (bin o l r) lo z = absurd (omega (arith, z.top.kinded, k))
  is-element hi k (call x es) lo z = absurd (omega (arith, z.top.kinded, k))
  is-element hi k (dot x e) lo z = absurd (omega (arith, z.top.kinded, k))
  is-element hi k (idx x e) lo z = absurd (omega (arith, z.top.kinded, k))
  is-element hi k (set x g e) lo z = absurd (omega (arith, z.top.kinded, k))
  is-element hi k (mut x i e) lo z =
      record {
        tree = (((x, i), tt), e);
        spans = record { mid = z.below.mid; front = record { mid = z.below.mid; front = z.below.front; last = refl }; last = z.below.last };
        text = ap (λ (b : List ℕ). worded x ++ (91 ∷ 32 ∷ b)) (spaced-puts (puts-E i) (rb ∷ eq ∷ pr e [])) ∙ sym (simp append_assoc);
      }

  -- a table access
  is-dot : (hi : ℕ) → kind hi ≡ 15 → Narrow (expr_l I) (linked_l 46 I) hi (hi - 1)
  unfolding Spans pr spaced
  is-dot hi k (prim x) lo z = absurd (omega (arith, z.top.kinded, k))
  is-dot hi k (un o e) lo z = absurd (omega (arith, z.top.kinded, k))
  is-dot hi k (bin o l r) lo z = absurd (omega (arith, z.top.kinded, k))
  is-dot hi k (call x es) lo z = absurd (omega (arith, z.top.kinded, k))
  is-dot hi k (dot x e) lo z = record { tree = (x, e); spans = z.below; text = refl }
  is-dot hi k (idx x e) lo z = absurd (omega (arith, z.top.kinded, k))
  is-dot hi k (set x g e) lo z = absurd (omega (arith, z.top.kinded, k))
  is-dot hi k (mut x i e) lo z = absurd (omega (arith, z.top.kinded, k))

  -- what is none of the others is an assignment to a variable
  is-set : (hi k : ℕ) → k ≡ kind hi → (k ≡ 22 → ⊥) → (k ≡ 24 → ⊥) → (k ≡ 23 → ⊥) → (k ≡ 20 → ⊥) → (k ≡ 18 → ⊥) → (k ≡ 19 → ⊥) → (k ≡ 15 → ⊥) → Narrow (expr_l I) (linked_l 61 I) hi (hi - 1)
  unfolding Spans pr spaced
  is-set hi k i two prim_ un_ call_ idx_ mut_ dot_ (prim x) lo z = absurd (prim_ (i ∙ z.top.kinded))
  is-set hi k i two prim_ un_ call_ idx_ mut_ dot_ (un o e) lo z = absurd (un_ (i ∙ z.top.kinded))
  is-set hi k i two prim_ un_ call_ idx_ mut_ dot_ (bin o l r) lo z = absurd (two (i ∙ z.top.kinded))
  is-set hi k i two prim_ un_ call_ idx_ mut_ dot_ (call x es) lo z = absurd (call_ (i ∙ z.top.kinded))
  is-set hi k i two prim_ un_ call_ idx_ mut_ dot_ (dot x e) lo z = absurd (dot_ (i ∙ z.top.kinded))
  is-set hi k i two prim_ un_ call_ idx_ mut_ dot_ (idx x e) lo z = absurd (idx_ (i ∙ z.top.kinded))
  is-set hi k i two prim_ un_ call_ idx_ mut_ dot_ (set x g e) lo z = record { tree = (x, e); spans = z.below; text = refl }
  is-set hi k i two prim_ un_ call_ idx_ mut_ dot_ (mut x g e) lo z = absurd (mut_ (i ∙ z.top.kinded))

  -- its pieces
  is-joined : (hi s : ℕ) → Narrow (linked_l s I) (made (joined_l s) I) hi hi
  is-joined hi s x lo z =
      record {
        tree = ((x.0, tt), x.1);
        spans = record { mid = z.mid; front = record { mid = z.mid; front = (z.front.below, z.front.token); last = refl }; last = z.last };
        text = sym (append_assoc (worded x.0) (s ∷ 32 ∷ []) (bytes_of (pr x.1)));
      }

-- ── what is left at first ──

module _ (p : Writer) where
  pub bare-part : {k : ℕ} (below : ℕ) → k ≡ height_of p → k < below → Part (operand_l below) (one expr_l) p p
  bare-part {k} below e h = opened (operand_l below) (one expr_l) p (is-bare (inp_of p) below p.node k e h)

  pub closed-part : {k : ℕ} (below : ℕ) → k ≡ height_of p → below ≤ k → Part (operand_l below) closed_l p p
  closed-part {k} below e h = opened (operand_l below) closed_l p (is-closed (inp_of p) below p.node k e h)

  pub prim-part : {k : ℕ} → k ≡ kind_of p → k ≡ 24 → Part expr_l (one leaf_l) p p
  prim-part e h = opened expr_l (one leaf_l) p (is-prim (inp_of p) p.node (sym e ∙ h))

  pub one-part : kind_of p ≡ 23 → Part expr_l (one_l p.node (operand_l 1)) p (down p)
  one-part h = entered expr_l (one_l p.node (operand_l 1)) p (is_one (inp_of p) p.node h)

  -- one whose operand is again one of `!` or `-`
  pub chain-part : {k : ℕ} → kind_of p ≡ 23 → k ≡ kind_of (down p) → k ≡ 23 → Part expr_l (one_l p.node expr_l) p (down p)
  chain-part h e i = tested (one_l p.node expr_l) (p.node - 1) (one-part h) (is-chain (inp_of p) p.node (sym e ∙ i)) (omega arith)

  pub call-part : {n : ℕ} → kind_of p ≡ 20 → n ≡ children_of p → Part expr_l (call_l (n - 1)) p (down p)
  call-part {n} h e = entered expr_l (call_l (n - 1)) p (is_call (inp_of p) p.node n h e)

  pub subscript-part : {k : ℕ} → k ≡ kind_of p → k ≡ 18 → Part expr_l (one subscript_l) p (down p)
  subscript-part e h = entered expr_l (one subscript_l) p (is-subscript (inp_of p) p.node (sym e ∙ h))

  pub index-part : Part subscript_l index_l p p
  index-part = opened subscript_l index_l p (is-index (inp_of p) p.node)

  pub element-part : kind_of p ≡ 19 → Part expr_l element_l p (down p)
  element-part h = entered expr_l element_l p (is-element (inp_of p) p.node h)

  pub dot-part : {k : ℕ} → k ≡ kind_of p → k ≡ 15 → Part expr_l (one (linked_l 46)) p (down p)
  dot-part e h = entered expr_l (one (linked_l 46)) p (is-dot (inp_of p) p.node (sym e ∙ h))

  pub set-part : {k : ℕ} → k ≡ kind_of p → (k ≡ 22 → ⊥) → (k ≡ 24 → ⊥) → (k ≡ 23 → ⊥) → (k ≡ 20 → ⊥) → (k ≡ 18 → ⊥) → (k ≡ 19 → ⊥) → (k ≡ 15 → ⊥) → Part expr_l (one (linked_l 61)) p (down p)
  set-part {k} e two prim_ un_ call_ idx_ mut_ dot_ = entered expr_l (one (linked_l 61)) p (is-set (inp_of p) p.node k e two prim_ un_ call_ idx_ mut_ dot_)

  pub joined-part : (s : ℕ) → Part (linked_l s) (joined_l s) p p
  joined-part s = opened (linked_l s) (joined_l s) p (is-joined (inp_of p) p.node s)

-- An expression of which a part is left is an operator with two operands.
pub two-part : {L : Kind} {p : Writer} (q : Writer) {k n : ℕ} → Part L (one expr_l) p q → k ≡ kind_of q → k ≡ 22 → n ≡ height_of q → Part L (two_l q.node n) p (down q)
two-part q {k} {n} t e h i = tested (two_l q.node n) (q.node - 1) t (is-two (inp_of q) q.node n (sym e ∙ h) i) (omega arith)

-- A left operand that stands bare is an expression.
pub left-part : {L : Kind} {p : Writer} (q : Writer) {k n : ℕ} → Part L (one (operand_l (n + 1))) p q → k ≡ height_of q → k ≤ n → Part L (one expr_l) p q
left-part q {k} {n} t e h = tested (one expr_l) q.node t (is-bare (inp_of q) (n + 1) q.node k e (omega arith)) (omega arith)
