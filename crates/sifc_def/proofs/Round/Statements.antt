-- Completeness of declarations and statements, the parts: variables, arrays, tables, names that are bound.
use Prim.Native.Nat.{ℕ, zero, suc, ◌+◌, ◌≤◌}
use Rattle.std.specs.Prelude.{◌≡◌, T, length}
use Rattle.std.proofs.Math.Path.{refl, sym, ap}
use Rattle.std.proofs.Common.{ap₂, ◌∙◌, subst, subst₂, not-suc-le-zero}
use mathlib.Core.List.{List, [], ◌∷◌, ◌++◌, map}
use Rattle.std.proofs.Math.Bool.{Bool, true, false}
use native.Mathlib.Omega.{arith}
use Rattle.std.proofs.Math.Nat.{zero-add}
use Rattle.std.proofs.Math.Dec.{eqb, eqb_refl}
use Rattle.sifc_word.specs.Base.{if◌then◌otherwise◌, member}
use Rattle.sifc_word.specs.Kind.{LeftParen, LeftBracket, RightBracket, Semicolon, Eq, Comma, EqArrow, DoubleLeftBracket, DoubleRightBracket, Ident, Eof}
use Rattle.sifc_err.specs.declared.parse_err.ParseErrTy.TheVariants.{InvalidTknMsg, ExpectedIdent}
use Rattle.sifc_def.specs.declared.What.{What}
use Rattle.sifc_def.specs.declared.What.TheVariants.{Variable, Other}
use Rattle.sifc_def.specs.Ast.{VarDecl, ItemList, TableItem, Table, Array, ArrayItems, PrimaryExpr}
use Rattle.sifc_def.specs.State.{Node, Sym, Ctx, St, M, go_on, return, W, name_of, word_at, name_at, optional, push}
use Rattle.sifc_def.specs.Symbols.{put_at, store}
use Rattle.sifc_def.specs.Label.{Lab, has_token, scope_of, text_of}
use Rattle.sifc_def.specs.Walk.{walkers}
use Rattle.sifc_def.specs.Expr.{Rec, looseness, fuel}
use Rattle.sifc_def.specs.Stmt.{bind, ident_node, declare_var, array_nodes, comma_list, array_decl, table_item, item_list, table_decl}
use Rattle.sifc_def.specs.Typed.{Expr, prim, un, bin, call, dot, idx, set, mut, Exprs, nil, more, many, Items, no_item, item, many_items, lb, rb, comma, semi, arrow, dlb, drb, lbrace, between, between_items, pr, prs, pr_items, bare, said, renc, rencs, renc_items, renc_array, global_at, ends, endss, seen, Ok, Oks, OkItems, bound, declared, stored}
use Rattle.sifc_def.proofs.Round.{true_of, not_eqb, at-kind, Res, and_then, yes-then, no-else, res-map, erased, In, in-stored, ident-name, made_none, made_then, made-push}
use Rattle.sifc_def.proofs.Round.Steps.{Ahead, Got, now, test, later, stand, sees-length, stepped, pushed, expect-eq, ident-eq, optional-yes, optional-no, push_ok, store_ok, pr-length, between-length}
use Rattle.sifc_def.proofs.Round.Levels.{Stop}
use Rattle.sifc_def.proofs.Round.Levels.Suffixes.{start_test, expression-read}
pub mod Blocks

-- ── expressions in statements: names are checked there ──

mutual
  unfolding ends

  -- name checking that is on stays on
  pub ends-true : (e : Expr) → ends true e ≡ true
  ends-true (prim x) = refl
  ends-true (un o e) = ends-true e
  ends-true (bin o l r) = ap (λ (b : Bool). ends b r) (ends-true l) ∙ ends-true r
  ends-true (call x es) = endss-true es
  ends-true (dot x e) = refl
  ends-true (idx x e) = ends-true e
  ends-true (set x g e) = ends-true e
  ends-true (mut x i e) = ap (λ (b : Bool). ends b e) (ends-true i) ∙ ends-true e

  -- the same of arguments
  pub endss-true : (es : Exprs) → endss true es ≡ true
  endss-true nil = refl
  endss-true (more e es) = ap (λ (b : Bool). endss b es) (ends-true e) ∙ endss-true es

-- a token ends an expression if it is no operator and begins no suffix
pub stop-of : (x : W) (rest : List W) → looseness x.kind ≡ 0 → eqb x.kind LeftParen ≡ false → eqb x.kind LeftBracket ≡ false → eqb x.kind 11 ≡ false → eqb x.kind Eq ≡ false → Stop (x ∷ rest)
unfolding Stop
stop-of x rest z a b d e = (z, differ x.kind LeftParen a, differ x.kind LeftBracket b, differ x.kind 11 d, differ x.kind Eq e)
  where
    differ : (m n : ℕ) → eqb m n ≡ false → m ≡ n → ⊥
    differ m n f g = let q : eqb n n ≡ false = subst (λ (k : ℕ). eqb k n ≡ false) g f in absurd (subst (λ (v : Bool). T v) (sym (sym q ∙ eqb-eq n)) tt)
      where
        eqb-eq : (k : ℕ) → eqb k k ≡ true
        eqb-eq k = true_of (eqb k k) (eqb_refl k)

-- `;` ends an expression
pub stop-semi : (rest : List W) → Stop (semi ∷ rest)
unfolding looseness member if◌then◌otherwise◌
stop-semi rest = stop-of semi rest refl refl refl refl refl

-- `{` ends an expression
pub stop-lbrace : (rest : List W) → Stop (lbrace ∷ rest)
unfolding looseness member if◌then◌otherwise◌
stop-lbrace rest = stop-of lbrace rest refl refl refl refl refl

-- what follows an element ends it
pub stop-items : (es : Exprs) (rest : List W) → Stop (between es (prs es (rb ∷ rest)))
unfolding between prs looseness member if◌then◌otherwise◌
stop-items nil rest = stop-of rb rest refl refl refl refl refl
stop-items (more e es) rest = stop-of comma (prs (more e es) (rb ∷ rest)) refl refl refl refl refl

-- what follows an item's value ends it
pub stop-pairs : (is : Items) (rest : List W) → Stop (between_items is (pr_items is (drb ∷ rest)))
unfolding between_items pr_items looseness member if◌then◌otherwise◌
stop-pairs no_item rest = stop-of drb rest refl refl refl refl refl
stop-pairs (item x e is) rest = stop-of comma (pr_items (item x e is) (drb ∷ rest)) refl refl refl refl refl

-- a loop's count
pub record Count (n : ℕ) (P : St → Type 0) (m : ℕ) (s : St) : Type 0 where
  pub num : m ≡ n
  pub got : P s

-- what a block's names are bound to is no variable
pub other-not : (j : ℕ) (g : Bool) → ◌≡◌ {A = What} Other (Variable j g) → ⊥
other-not j g e = let z : ◌≡◌ {A = ℕ} 0 1 = cc in omega arith

module _ (c : Ctx) where
  pub read-expr : (e : Expr) (d l : ℕ) (E : List Sym) (rest : List W) (s : St) → Ok (seen l E) true e → Stop rest → Ahead c l E true (pr e rest) s → Res ((walkers c d).assign s) (λ u. Got c l E true (renc e) rest s.nodes)
  read-expr e d l E rest s k st p = subst (λ (b : Bool). Res ((walkers c d).assign s) (λ u. Got c l E b (renc e) rest s.nodes)) (ends-true e) (expression-read c l E e d true rest s k st p)

  -- a name is stored
  pub store-got : (i : ℕ) (x : W) (w w₀ : What) (s : St) {l : ℕ} {E : List Sym} {b : Bool} {L : List Lab} {rest : List W} {ns : List Node}
      → word_at c i ≡ x → erased w ≡ w₀ → ((j : ℕ) (g : Bool) → w ≡ Variable j g → (word_at c j).text ≡ name_of x) → Got c l E b L rest ns s
      → Res (store c i w s) (λ u. Got c l (put_at l (name_of x) w₀ E) b L rest ns)
  store-got i x w w₀ s {l} {E} {b} {L} {rest} {ns} ew e₀ f h =
      store_ok c i w s (λ u. Got c l (put_at l (name_of x) w₀ E) b L rest ns)
      (record {
        pre =
            stand h.pre
            (subst₂ (λ (n : List ℕ) (v : What). In c l (put_at l n v E) b s.level (put_at s.level (name_at c i) w s.syms) s.check) (ap name_of ew) e₀
            (in-stored (name_at c i) w (λ j g e. f j g e ∙ sym (ap name_of ew)) h.pre.stands));
        made = h.made;
      })

  -- a name is stored as no variable
  pub store_other : (i : ℕ) (x : W) (s : St) {l : ℕ} {E : List Sym} {b : Bool} {L : List Lab} {rest : List W} {ns : List Node} → word_at c i ≡ x → Got c l E b L rest ns s → Res (store c i Other s) (λ u. Got c l (put_at l (name_of x) Other E) b L rest ns)
  unfolding erased
  store_other i x s ew h = store-got i x Other Other s ew refl (λ j g e. absurd (other-not j g e)) h

  -- ── the end of var_decl ──

  -- a variable's node and name
  pub declare-ok : (i n : ℕ) (x : W) (s : St) {l : ℕ} {E : List Sym} {L : List Lab} {rest : List W} {ns : List Node}
      → word_at c i ≡ x → x.kind ≡ Ident → Got c l E true L rest ns s
      → Res (declare_var c i n s) (λ u. Got c l (declared l x E) true (said VarDecl (global_at l) n x ∷ L) rest ns)
  unfolding declare_var declared global_at erased scope_of text_of has_token member if◌then◌otherwise◌ go_on
  declare-ok i n x s {l} {E} {L} {rest} {ns} ew xk h =
      let g : Bool = eqb s.level 0 in
      let eg : g ≡ eqb l 0 = ap (λ (z : ℕ). eqb z 0) h.pre.stands.level in
      and_then (push c VarDecl g n i s) _ (λ u. Got c l E true (said VarDecl (eqb l 0) n x ∷ L) rest ns) (λ u. Got c l (put_at l (name_of x) (Variable 0 (eqb l 0)) E) true (said VarDecl (eqb l 0) n x ∷ L) rest ns)
      (push_ok c VarDecl g n i s (λ u. Got c l E true (said VarDecl (eqb l 0) n x ∷ L) rest ns) (record { pre = h.pre; made = made-push (ap₂ (λ (z : Bool) (y : W). said VarDecl z n y) eg ew) h.made }))
      (λ u s₁ h₁.
      store-got i x (Variable i g) (Variable 0 (eqb l 0)) s₁ ew (ap (λ (z : Bool). Variable 0 z) eg)
      (λ j g' e. let ej : j ≡ i = cc in ap (λ (z : ℕ). (word_at c z).text) ej ∙ ap (λ (y : W). y.text) ew ∙ sym (ident-name x xk)) h₁)

  -- ── arrays ──

  -- after an element: a comma and the others, or the end
  elements-tail : (es : Exprs) (f n : ℕ) (r : Rec) (rest : List W) {l : ℕ} {E : List Sym} {L : List Lab} {ns : List Node} (s : St)
      → ((s₂ : St) → Ahead c l E true (prs es (rb ∷ rest)) s₂ → Res (comma_list c RightBracket r.assign f (suc n) s₂) (Count (suc n + many es) (Got c l E true (rencs es) (rb ∷ rest) s₂.nodes)))
      → Got c l E true L (between es (prs es (rb ∷ rest))) ns s
      → Res (go_on (optional c Comma s) (λ more'. if◌then◌otherwise◌ {A = M ℕ} more' (comma_list c RightBracket r.assign f (suc n)) (return (suc n)))) (Count (n + suc (many es)) (Got c l E true (rencs es ++ L) (rb ∷ rest) ns))
  unfolding between prs many rencs Res go_on if◌then◌otherwise◌
  elements-tail nil f n r rest s ih h = rw (optional-no Comma s h.pre refl) (record { num = omega arith; got = h })
  elements-tail (more e es) f n r rest {l} {E} {L} {ns} s ih h =
      rw (optional-yes Comma s h.pre refl refl)
      (res-map (comma_list c RightBracket r.assign f (suc n) (stepped s)) (Count (suc n + many (more e es)) (Got c l E true (rencs (more e es)) (rb ∷ rest) s.nodes)) (Count (n + suc (many (more e es))) (Got c l E true (rencs (more e es) ++ L) (rb ∷ rest) ns))
      (ih (stepped s) (later h.pre))
      (λ m s₂ q. record { num = q.num ∙ omega arith; got = record { pre = q.got.pre; made = made_then h.made q.got.made } }))

  -- the elements of an array are read as they are
  pub elements-ok : (es : Exprs) (d f n l : ℕ) (E : List Sym) (rest : List W) (s : St) → Oks (seen l E) true es → many es ≤ f → Ahead c l E true (prs es (rb ∷ rest)) s
      → Res (comma_list c RightBracket (walkers c d).assign f n s) (Count (n + many es) (Got c l E true (rencs es) (rb ∷ rest) s.nodes))
  unfolding comma_list prs many Oks rencs Res member go_on if◌then◌otherwise◌
  elements-ok nil d zero n l E rest s k len p = record { num = omega arith; got = record { pre = p; made = made_none } }
  elements-ok nil d (suc f) n l E rest s k len p = yes-then _ _ _ s _ (test (λ k. eqb k RightBracket) true p refl) (record { num = omega arith; got = record { pre = p; made = made_none } })
  elements-ok (more e es) d zero n l E rest s k len p = absurd (not-suc-le-zero len)
  elements-ok (more e es) d (suc f) n l E rest s k len p =
      let ws : List W = between es (prs es (rb ∷ rest)) in
      let Q : ℕ → St → Type 0 = Count (n + many (more e es)) (Got c l E true (rencs (more e es)) (rb ∷ rest) s.nodes) in
      no-else _ _ _ s Q (test (λ k. eqb k RightBracket) false p (start_test c l E RightBracket tt e true k.0 ws))
      (no-else _ _ _ s Q (test (λ k. eqb k Eof) false p (start_test c l E Eof tt e true k.0 ws))
      (and_then ((walkers c d).assign s) _ (λ u. Got c l E true (renc e) ws s.nodes) Q
      (read-expr e d l E ws s k.0 (stop-items es rest) p)
      (λ u s₁ h. elements-tail es f n (walkers c d) rest s₁ (λ s₂ p₂. elements-ok es d f (suc n) l E rest s₂ (subst (λ (b : Bool). Oks (seen l E) b es) (ends-true e) k.1) (omega arith) p₂) h)))

  -- the nodes of an array
  array_nodes-ok : (i : ℕ) (x : W) (es : Exprs) (m : ℕ) (s : St) {l : ℕ} {E : List Sym} {rest : List W} {ns : List Node} → word_at c i ≡ x → m ≡ many es → Got c l E true (rencs es) rest ns s → Res (array_nodes c i m s) (λ u. Got c l E true (renc_array x es) rest ns)
  unfolding array_nodes renc_array rencs many scope_of text_of has_token member if◌then◌otherwise◌ go_on
  array_nodes-ok i x nil m s {l} {E} {rest} {ns} ew em h =
      yes-then _ _ _ s _ (at-kind (λ n. eqb n 0 ≡ true) m 0 em refl)
      (push_ok c Array false 0 i s (λ u. Got c l E true (renc_array x nil) rest ns) (record { pre = h.pre; made = made-push (ap (λ (y : W). said Array false 0 y) ew) h.made }))
  array_nodes-ok i x (more e es) m s {l} {E} {rest} {ns} ew em h =
      no-else _ _ _ s _ (not_eqb m 0 (λ z. let y : ⊥ = omega arith in y))
      (and_then (push c ArrayItems false m 0 s) _ (λ u. Got c l E true (bare ArrayItems false (suc (many es)) ∷ rencs (more e es)) rest ns) (λ u. Got c l E true (renc_array x (more e es)) rest ns)
      (push_ok c ArrayItems false m 0 s (λ u. Got c l E true (bare ArrayItems false (suc (many es)) ∷ rencs (more e es)) rest ns) (record { pre = h.pre; made = made-push (ap (λ (z : ℕ). bare ArrayItems false z) em) h.made }))
      (λ u s₁ h₁. push_ok c Array false 1 i s₁ (λ u. Got c l E true (renc_array x (more e es)) rest ns) (record { pre = h₁.pre; made = made-push (ap (λ (y : W). said Array false 1 y) ew) h₁.made })))

  -- no more elements than words
  many-le : (es : Exprs) (rest : List W) → many es ≤ length (prs es rest)
  unfolding many prs
  many-le nil rest = omega arith
  many-le (more e es) rest = let z = pr-length e (between es (prs es rest)) in let y = between-length es (prs es rest) in let q = many-le es rest in omega arith

  -- an array is read as it is, and its name stored
  pub array_ok : (i : ℕ) (x : W) (es : Exprs) (d l : ℕ) (E : List Sym) (rest : List W) (s : St) → word_at c i ≡ x → Oks (seen l E) true es → Ahead c l E true (lb ∷ prs es (rb ∷ semi ∷ rest)) s
      → Res (array_decl c (walkers c d) i s) (λ u. Got c l (stored l x E) true (renc_array x es) rest s.nodes)
  unfolding array_decl stored go_on
  array_ok i x es d l E rest s ew k p =
      let Q : Unit {0} → St → Type 0 = λ u. Got c l (stored l x E) true (renc_array x es) rest s.nodes in
      rw (expect-eq LeftBracket s p refl refl)
      (and_then (comma_list c RightBracket (walkers c d).assign (fuel c) 0 (stepped s)) _ (Count (0 + many es) (Got c l E true (rencs es) (rb ∷ semi ∷ rest) s.nodes)) Q
      (elements-ok es d (fuel c) 0 l E (semi ∷ rest) (stepped s) k (let z = many-le es (rb ∷ semi ∷ rest) in let y = sees-length (later p) in omega arith) (later p))
      (λ m s₁ h.
      rw (expect-eq RightBracket s₁ h.got.pre refl refl)
      (rw (expect-eq Semicolon (stepped s₁) (later h.got.pre) refl refl)
      (and_then (array_nodes c i m (stepped (stepped s₁))) _ (λ u. Got c l E true (renc_array x es) rest s.nodes) Q
      (array_nodes-ok i x es m (stepped (stepped s₁)) ew (h.num ∙ zero-add (many es)) (record { pre = later (later h.got.pre); made = h.got.made }))
      (λ u s₂ h₂. store_other i x s₂ ew h₂)))))

  -- ── tables ──

  -- after an item: a comma and the others, or the end
  items-tail : (is : Items) (f n : ℕ) (r : Rec) (rest : List W) {l : ℕ} {E : List Sym} {L : List Lab} {ns : List Node} (s : St)
      → ((s₂ : St) → Ahead c l E true (pr_items is (drb ∷ rest)) s₂ → Res (comma_list c DoubleRightBracket (table_item c r) f (suc n) s₂) (Count (suc n + many_items is) (Got c l E true (renc_items is) (drb ∷ rest) s₂.nodes)))
      → Got c l E true L (between_items is (pr_items is (drb ∷ rest))) ns s
      → Res (go_on (optional c Comma s) (λ more'. if◌then◌otherwise◌ {A = M ℕ} more' (comma_list c DoubleRightBracket (table_item c r) f (suc n)) (return (suc n)))) (Count (n + suc (many_items is)) (Got c l E true (renc_items is ++ L) (drb ∷ rest) ns))
  unfolding between_items pr_items many_items renc_items Res go_on if◌then◌otherwise◌
  items-tail no_item f n r rest s ih h = rw (optional-no Comma s h.pre refl) (record { num = omega arith; got = h })
  items-tail (item x e is) f n r rest {l} {E} {L} {ns} s ih h =
      rw (optional-yes Comma s h.pre refl refl)
      (res-map (comma_list c DoubleRightBracket (table_item c r) f (suc n) (stepped s)) (Count (suc n + many_items (item x e is)) (Got c l E true (renc_items (item x e is)) (drb ∷ rest) s.nodes)) (Count (n + suc (many_items (item x e is))) (Got c l E true (renc_items (item x e is) ++ L) (drb ∷ rest) ns))
      (ih (stepped s) (later h.pre))
      (λ m s₂ q. record { num = q.num ∙ omega arith; got = record { pre = q.got.pre; made = made_then h.made q.got.made } }))

  -- an item of a table is read as it is
  item_ok : (x : W) (e : Expr) (d l : ℕ) (E : List Sym) (rest : List W) (s : St) → x.kind ≡ Ident → Ok (seen l E) true e → Stop rest → Ahead c l E true (x ∷ arrow ∷ pr e rest) s
      → Res (table_item c (walkers c d) s) (λ u. Got c l E true (said TableItem false 1 x ∷ renc e) rest s.nodes)
  unfolding table_item scope_of text_of has_token member if◌then◌otherwise◌ go_on
  item_ok x e d l E rest s xk k st p =
      let Q : Unit {0} → St → Type 0 = λ u. Got c l E true (said TableItem false 1 x ∷ renc e) rest s.nodes in
      rw (ident-eq (λ i. InvalidTknMsg 3) s p xk)
      (rw (expect-eq EqArrow (stepped s) (later p) refl refl)
      (and_then ((walkers c d).assign (stepped (stepped s))) _ (λ u. Got c l E true (renc e) rest s.nodes) Q
      (read-expr e d l E rest (stepped (stepped s)) k st (later (later p)))
      (λ u s₁ h. push_ok c TableItem false 1 s.at s₁ Q (record { pre = h.pre; made = made-push (ap (λ (y : W). said TableItem false 1 y) (now p)) h.made }))))

  -- the items of a table are read as they are
  pub items-ok : (is : Items) (d f n l : ℕ) (E : List Sym) (rest : List W) (s : St) → OkItems (seen l E) is → many_items is ≤ f → Ahead c l E true (pr_items is (drb ∷ rest)) s
      → Res (comma_list c DoubleRightBracket (table_item c (walkers c d)) f n s) (Count (n + many_items is) (Got c l E true (renc_items is) (drb ∷ rest) s.nodes))
  unfolding comma_list pr_items many_items OkItems renc_items Res member go_on if◌then◌otherwise◌
  items-ok no_item d zero n l E rest s k len p = record { num = omega arith; got = record { pre = p; made = made_none } }
  items-ok no_item d (suc f) n l E rest s k len p = yes-then _ _ _ s _ (test (λ k. eqb k DoubleRightBracket) true p refl) (record { num = omega arith; got = record { pre = p; made = made_none } })
  items-ok (item x e is) d zero n l E rest s k len p = absurd (not-suc-le-zero len)
  items-ok (item x e is) d (suc f) n l E rest s k len p =
      let ws : List W = between_items is (pr_items is (drb ∷ rest)) in
      let Q : ℕ → St → Type 0 = Count (n + many_items (item x e is)) (Got c l E true (renc_items (item x e is)) (drb ∷ rest) s.nodes) in
      no-else _ _ _ s Q (test (λ k. eqb k DoubleRightBracket) false p (at-kind (λ n. eqb n DoubleRightBracket ≡ false) x.kind Ident k.0 refl))
      (no-else _ _ _ s Q (test (λ k. eqb k Eof) false p (at-kind (λ n. eqb n Eof ≡ false) x.kind Ident k.0 refl))
      (and_then (table_item c (walkers c d) s) _ (λ u. Got c l E true (said TableItem false 1 x ∷ renc e) ws s.nodes) Q
      (item_ok x e d l E ws s k.0 k.1 (stop-pairs is rest) p)
      (λ u s₁ h. items-tail is f n (walkers c d) rest s₁ (λ s₂ p₂. items-ok is d f (suc n) l E rest s₂ k.2 (omega arith) p₂) h)))

  -- no more items than words
  items-le : (is : Items) (rest : List W) → many_items is ≤ length (pr_items is rest)
  unfolding many_items pr_items between_items
  items-le no_item rest = omega arith
  items-le (item x e no_item) rest = omega arith
  items-le (item x e (item y e' is)) rest = let z = pr-length e (comma ∷ pr_items (item y e' is) rest) in let q = items-le (item y e' is) rest in omega arith

  -- a table is read as it is, and its name stored
  pub table-ok : (i : ℕ) (x : W) (is : Items) (d l : ℕ) (E : List Sym) (rest : List W) (s : St) → word_at c i ≡ x → OkItems (seen l E) is → Ahead c l E true (dlb ∷ pr_items is (drb ∷ semi ∷ rest)) s
      → Res (table_decl c (walkers c d) i s) (λ u. Got c l (stored l x E) true (said Table false 1 x ∷ bare ItemList false (many_items is) ∷ renc_items is) rest s.nodes)
  unfolding table_decl item_list stored scope_of text_of has_token member if◌then◌otherwise◌ go_on Res
  table-ok i x is d l E rest s ew k p =
      let L : List Lab = bare ItemList false (many_items is) ∷ renc_items is in
      let Q : Unit {0} → St → Type 0 = λ u. Got c l (stored l x E) true (said Table false 1 x ∷ L) rest s.nodes in
      rw (expect-eq DoubleLeftBracket s p refl refl)
      (and_then (item_list c (walkers c d) (stepped s)) _ (λ u. Got c l E true L (drb ∷ semi ∷ rest) s.nodes) Q
      (and_then (comma_list c DoubleRightBracket (table_item c (walkers c d)) (fuel c) 0 (stepped s)) _ (Count (0 + many_items is) (Got c l E true (renc_items is) (drb ∷ semi ∷ rest) s.nodes)) (λ u. Got c l E true L (drb ∷ semi ∷ rest) s.nodes)
      (items-ok is d (fuel c) 0 l E (semi ∷ rest) (stepped s) k (let z = items-le is (drb ∷ semi ∷ rest) in let y = sees-length (later p) in omega arith) (later p))
      (λ m s₁ h. push_ok c ItemList false m 0 s₁ (λ u. Got c l E true L (drb ∷ semi ∷ rest) s.nodes) (record { pre = h.got.pre; made = made-push (ap (λ (z : ℕ). bare ItemList false z) (h.num ∙ zero-add (many_items is))) h.got.made })))
      (λ u s₁ h.
      rw (expect-eq DoubleRightBracket s₁ h.pre refl refl)
      (and_then (push c Table false 1 i (stepped s₁)) _ (λ u. Got c l E true (said Table false 1 x ∷ L) (semi ∷ rest) s.nodes) Q
      (push_ok c Table false 1 i (stepped s₁) (λ u. Got c l E true (said Table false 1 x ∷ L) (semi ∷ rest) s.nodes) (record { pre = later h.pre; made = made-push (ap (λ (y : W). said Table false 1 y) ew) h.made }))
      (λ u s₂ h₂.
      and_then (store c i Other s₂) _ (λ u. Got c l (stored l x E) true (said Table false 1 x ∷ L) (semi ∷ rest) s.nodes) Q
      (store_other i x s₂ ew h₂)
      (λ u s₃ h₃. rw (expect-eq Semicolon s₃ h₃.pre refl refl) (record { pre = later h₃.pre; made = h₃.made }))))))

  -- ── names that are bound ──

  -- names are bound in order
  pub bind_ok : (is : List ℕ) (l : ℕ) (E : List Sym) (b : Bool) (L : List Lab) (rest : List W) (ns : List Node) (s : St) → Got c l E b L rest ns s → Res (bind c is s) (λ u. Got c l (bound l (map (λ (i : ℕ). word_at c i) is) E) b L rest ns)
  unfolding bind bound Res
  bind_ok [] l E b L rest ns s h = h
  bind_ok (i ∷ is) l E b L rest ns s h =
      and_then (store c i Other s) _ (λ u. Got c l (put_at l (name_at c i) Other E) b L rest ns) (λ u. Got c l (bound l (map (λ (j : ℕ). word_at c j) (i ∷ is)) E) b L rest ns)
      (store_other i (word_at c i) s refl h)
      (λ u s₁ h₁. bind_ok is l (put_at l (name_at c i) Other E) b L rest ns s₁ h₁)

  -- a name and its node
  pub ident_node-eq : (x : W) (l : ℕ) (E : List Sym) (b : Bool) (rest : List W) (s : St) (Q : ℕ → St → Type 0) → x.kind ≡ Ident → Ahead c l E b (x ∷ rest) s → Q s.at (stepped (pushed PrimaryExpr false 0 s.at s)) → Res (ident_node c s) Q
  unfolding ident_node Res go_on
  ident_node-eq x l E b rest s Q xk p q =
      rw (ident-eq ExpectedIdent s p xk)
      (and_then (push c PrimaryExpr false 0 s.at (stepped s)) _ (λ u s₁. s₁ ≡ pushed PrimaryExpr false 0 s.at (stepped s)) Q
      (push_ok c PrimaryExpr false 0 s.at (stepped s) (λ u s₁. s₁ ≡ pushed PrimaryExpr false 0 s.at (stepped s)) refl)
      (λ u s₁ e. rw e q))
