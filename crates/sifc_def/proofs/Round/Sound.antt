-- Soundness of expressions: whatever the walk reads without failing is an expression that the writer writes.
use Prim.Native.Nat.{ℕ, zero, suc}
use Rattle.std.specs.Prelude.{◌≡◌, true, ◌||◌, not, eqb, ltb, length}
use Rattle.std.proofs.Math.Path.{refl, ap}
use Rattle.std.proofs.Common.{sym, ◌∙◌, subst}
use mathlib.Core.List.{List, ◌∷◌}
use Rattle.std.proofs.Math.Option.{Option, none, some}
use Rattle.std.proofs.Math.Bool.{Bool, false}
use native.Mathlib.Omega.{arith}
use Rattle.std.proofs.Math.Dec.{T, eqb→eq}
use Rattle.sifc_word.specs.Base.{if◌then◌otherwise◌, member}
use Rattle.sifc_word.specs.Kind.{LeftParen, RightParen, At, Ident, Eof, LexPanic}
use Rattle.sifc_word.specs.Reserved.{is_std_lib_fn}
use Rattle.sifc_def.specs.declared.What.{What}
use Rattle.sifc_def.specs.Ast.{TableAccess, ArrayAccess, ArrayMutExpr, FnCallExpr, VarAssignExpr, BinaryExpr, UnaryExpr, PrimaryExpr}
use Rattle.sifc_def.specs.State.{Node, node, Sym, Ctx, St, Out, done, fail, refuse, M, Void, go_on, W, name_of, tok_at, word_at, name_at, consume, expect, push}
use Rattle.sifc_def.specs.Symbols.{find, retrieve}
use Rattle.sifc_def.specs.Label.{Lab, has_token, scope_of, text_of}
use Rattle.sifc_def.specs.declared.Err.{Err}
use Rattle.sifc_def.specs.Why.{Why}
use Rattle.sifc_def.specs.State.{arrive, panic_at, raise, add_error, throw, throw_past}
use Rattle.sifc_def.specs.Expr.{Rec, looseness, is_unary, is_literal, fuel, operators, levels, literal, known, check_name, ident_expr, unary_expr, group_expr, at_expr, primary_expr}
use Rattle.sifc_def.specs.Typed.{Expr, prim, un, bin, call, dot, idx, set, mut, renc, ends, is_some, seen, fine, Ok, Said}
use Rattle.sifc_def.proofs.Round.{and_in, or_l, or_r, is_some-erase, Stands, looks, labelled, Made, made_none, made_then, made-push, Newest, newest, top_of}
pub mod Suffixes
pub mod Parts
pub mod Statements
pub mod Program

-- ── outcomes: sound is what holds if it is done ──

-- what holds if a step is done
unfoldable pub Win : {A : Type 0} → Out A → (A → St → Type 0) → Type 0
Win (done a s) Q = Q a s
Win (fail e s) Q = Unit {0}
Win (refuse r) Q = Unit {0}

-- a step that gives P if done, and from P on Q
pub win-then : {A B : Type 0} (o : Out A) (f : A → M B) (P : A → St → Type 0) (Q : B → St → Type 0) → Win o P → ((a : A) (s : St) → P a s → Win (f a s) Q) → Win (go_on o f) Q
unfolding Win go_on
win-then (done a s) f P Q p h = h a s p
win-then (fail e s) f P Q p h = tt
win-then (refuse r) f P Q p h = tt

-- what follows from what a step gives
pub win-map : {A : Type 0} (o : Out A) (P Q : A → St → Type 0) → Win o P → ((a : A) (s : St) → P a s → Q a s) → Win o Q
unfolding Win
win-map (done a s) P Q p h = h a s p
win-map (fail e s) P Q p h = tt
win-map (refuse r) P Q p h = tt

-- a step gives nothing
pub win-any : {A : Type 0} (o : Out A) → Win o (λ a s. Unit {0})
unfolding Win
win-any (done a s) = tt
win-any (fail e s) = tt
win-any (refuse r) = tt

-- either branch gives it, each with its test
pub win-if : {A : Type 0} (b : Bool) (x y : M A) (s : St) (Q : A → St → Type 0) → (T b → Win (x s) Q) → (T (not b) → Win (y s) Q) → Win (if◌then◌otherwise◌ {A = M A} b x y s) Q
unfolding if◌then◌otherwise◌
win-if true x y s Q p q = p tt
win-if false x y s Q p q = q tt

-- either outcome gives it, each with its test
pub win-when : {A : Type 0} (b : Bool) (x y : Out A) (Q : A → St → Type 0) → (T b → Win x Q) → (T (not b) → Win y Q) → Win (if◌then◌otherwise◌ {A = Out A} b x y) Q
unfolding if◌then◌otherwise◌
win-when true x y Q p q = p tt
win-when false x y Q p q = q tt

-- the same nodes at the end
pub made_at : {c : Ctx} {L : List Lab} {n₀ n₁ n₂ : List Node} → n₂ ≡ n₁ → Made c L n₀ n₁ → Made c L n₀ n₂
made_at {c} {L} {n₀} e m = subst (λ (z : List Node). Made c L n₀ z) (sym e) m

-- the same nodes at the beginning
pub made-from : {c : Ctx} {L : List Lab} {n₀ n₁ n₂ : List Node} → n₁ ≡ n₀ → Made c L n₁ n₂ → Made c L n₀ n₂
made-from {c} {L} {n₀} {n₁} {n₂} e m = subst (λ (z : List Node). Made c L z n₂) e m

-- the state with one node more
abbrev pub pushed : ℕ → Bool → ℕ → ℕ → St → St
pushed k f n q s = record { at = s.at; nodes = node k f n q ∷ s.nodes; syms = s.syms; level = s.level; check = s.check; errs = s.errs }

-- the state with name checking set
abbrev pub checked : Bool → St → St
checked q s = record { at = s.at; nodes = s.nodes; syms = s.syms; level = s.level; check = q; errs = s.errs }

-- nothing but the place changed
pub record Kept (c : Ctx) (l : ℕ) (E : List Sym) (b : Bool) (ns : List Node) (s : St) : Type 0 where
  pub inn : Stands c l E b s
  pub same_nodes : s.nodes ≡ ns

-- ── steps ──

module _ (c : Ctx) where
  pub raise-sound : {A : Type 0} (e : Err) (s : St) (Q : A → St → Type 0) → Win (raise c e s) Q
  unfolding raise Win
  raise-sound e s Q = tt

  -- a listed error fails
  pub throw-sound : {A : Type 0} (why : Why) (s : St) (Q : A → St → Type 0) → Win (throw c why s) Q
  unfolding throw
  throw-sound why s Q = win-then (add_error c why s) _ (λ a s'. Unit {0}) Q (win-any (add_error c why s)) (λ e s' t. raise-sound e s' Q)

  -- so does one whose token is passed
  pub throw_past-sound : {A : Type 0} (why : Why) (s : St) (Q : A → St → Type 0) → Win (throw_past c why s) Q
  unfolding throw_past
  throw_past-sound why s Q = win-then (add_error c why s) _ (λ a s'. Unit {0}) Q (win-any (add_error c why s)) (λ e s' t. win-then (consume c s') _ (λ a s''. Unit {0}) Q (win-any (consume c s')) (λ a s'' t₂. raise-sound e s'' Q))

  -- a panic is refused
  pub panic-sound : {A : Type 0} (k i : ℕ) (s : St) (Q : A → St → Type 0) → Win (panic_at c k i s) Q
  unfolding panic_at Win
  panic-sound k i s Q = tt

  -- a token is taken: nothing but the place changes
  pub consume-sound : {l : ℕ} {E : List Sym} {b : Bool} (s : St) → Stands c l E b s → Win (consume c s) (λ u. Kept c l E b s.nodes)
  unfolding consume arrive Win
  consume-sound {l} {E} {b} s h =
      win-when (eqb (tok_at c s.at).kind Eof) _ _ (λ u. Kept c l E b s.nodes) (λ t. record { inn = h; same_nodes = refl })
      (λ t. win-when (eqb (tok_at c (suc s.at)).kind LexPanic) _ _ (λ u. Kept c l E b s.nodes) (λ t₂. tt) (λ t₂. record { inn = h; same_nodes = refl }))

  -- an expected token is taken: nothing but the place changes
  pub expect-sound : (k : ℕ) {l : ℕ} {E : List Sym} {b : Bool} (s : St) → Stands c l E b s → Win (expect c k s) (λ u. Kept c l E b s.nodes)
  unfolding expect if◌then◌otherwise◌ go_on
  expect-sound k {l} {E} {b} s h = win-if (eqb (tok_at c s.at).kind k) _ _ s (λ u. Kept c l E b s.nodes) (λ t. consume-sound s h) (λ t. raise-sound _ s (λ u. Kept c l E b s.nodes))

  -- a node is added, or refused
  pub push-sound : (k : ℕ) (f : Bool) (n q : ℕ) (s : St) (Q : Unit {0} → St → Type 0) → Q tt (pushed k f n q s) → Win (push c k f n q s) Q
  unfolding push Win
  push-sound k f n q s Q h = win-when (ltb (length s.nodes) c.node_room) _ _ Q (λ t. h) (λ t. tt)

  -- the newest node has the newest label
  top-lab : {L : Lab} {ls : List Lab} {ns ns' : List Node} → Made c (L ∷ ls) ns ns' → labelled c (top_of ns') ≡ L
  top-lab {L} {ls} {ns} {ns'} m = let nw : Newest c L ls ns ns' = newest m in ap (λ (z : List Node). labelled c (top_of z)) nw.nodes ∙ nw.lab'

  -- the newest node has the newest label's kind
  pub top-kind : {L : Lab} {ls : List Lab} {ns ns' : List Node} → Made c (L ∷ ls) ns ns' → (top_of ns').kind ≡ L.kind
  top-kind m = ap (λ (z : Lab). z.kind) (top-lab m)

  -- the newest node of a single token is that token's
  pub Spelt : Expr → Node → Type 0
  Spelt (prim x) n = word_at c n.pay ≡ x
  Spelt (un o e) n = Unit {0}
  Spelt (bin o a b) n = Unit {0}
  Spelt (call x es) n = Unit {0}
  Spelt (dot x e) n = Unit {0}
  Spelt (idx x e) n = Unit {0}
  Spelt (set x g e) n = Unit {0}
  Spelt (mut x i e) n = Unit {0}

  -- an expression is a single token
  record IsSingle (e : Expr) (n : Node) : Type 0 where
    word' : W
    is : e ≡ prim word'
    spells : word_at c n.pay ≡ word'

  -- a kind is not another
  not-kind : (m k n : ℕ) → k ≡ n → eqb n m ≡ false → T (eqb k m) → ⊥
  not-kind m k n e f t = let z : T (eqb n m) = subst (λ (j : ℕ). T (eqb j m)) e t in rw f at z

  -- a PrimaryExpr as newest node is the node of a single token
  is-single : (e : Expr) (ns ns' : List Node) → Made c (renc e) ns ns' → Spelt e (top_of ns') → T (eqb (top_of ns').kind PrimaryExpr) → IsSingle e (top_of ns')
  unfolding renc Spelt
  is-single (prim x) ns ns' m sp t = record { word' = x; is = refl; spells = sp }
  is-single (un o e) ns ns' m sp t = absurd (not-kind PrimaryExpr _ UnaryExpr (top-kind m) refl t)
  is-single (bin o a b) ns ns' m sp t = absurd (not-kind PrimaryExpr _ BinaryExpr (top-kind m) refl t)
  is-single (call x es) ns ns' m sp t = absurd (not-kind PrimaryExpr _ FnCallExpr (top-kind m) refl t)
  is-single (dot x e) ns ns' m sp t = absurd (not-kind PrimaryExpr _ TableAccess (top-kind m) refl t)
  is-single (idx x e) ns ns' m sp t = absurd (not-kind PrimaryExpr _ ArrayAccess (top-kind m) refl t)
  is-single (set x g e) ns ns' m sp t = absurd (not-kind PrimaryExpr _ VarAssignExpr (top-kind m) refl t)
  is-single (mut x i e) ns ns' m sp t = absurd (not-kind PrimaryExpr _ ArrayMutExpr (top-kind m) refl t)

  -- an expression is an index
  record IsIndexed (e : Expr) : Type 0 where
    word' : W
    index : Expr
    is : e ≡ idx word' index

  -- an ArrayAccess as newest node is the node of an index
  is-indexed : (e : Expr) (ns ns' : List Node) → Made c (renc e) ns ns' → T (eqb (top_of ns').kind ArrayAccess) → IsIndexed e
  unfolding renc
  is-indexed (prim x) ns ns' m t = absurd (not-kind ArrayAccess _ PrimaryExpr (top-kind m) refl t)
  is-indexed (un o e) ns ns' m t = absurd (not-kind ArrayAccess _ UnaryExpr (top-kind m) refl t)
  is-indexed (bin o a b) ns ns' m t = absurd (not-kind ArrayAccess _ BinaryExpr (top-kind m) refl t)
  is-indexed (call x es) ns ns' m t = absurd (not-kind ArrayAccess _ FnCallExpr (top-kind m) refl t)
  is-indexed (dot x e) ns ns' m t = absurd (not-kind ArrayAccess _ TableAccess (top-kind m) refl t)
  is-indexed (idx x e) ns ns' m t = record { word' = x; index = e; is = refl }
  is-indexed (set x g e) ns ns' m t = absurd (not-kind ArrayAccess _ VarAssignExpr (top-kind m) refl t)
  is-indexed (mut x i e) ns ns' m t = absurd (not-kind ArrayAccess _ ArrayMutExpr (top-kind m) refl t)

-- ── expressions ──

-- Every word of the tree is a token's: it has what every token's word has.
module _ (c : Ctx) (Good : W → Type 0) (good : (i : ℕ) → Good (word_at c i)) (l : ℕ) (E : List Sym) where
  abbrev look : List ℕ → Option What
  look n = seen l E n

  -- nothing but the place changed, at this level and with these names
  abbrev Keeps : Bool → List Node → St → Type 0
  Keeps b ns s = Kept c l E b ns s

  -- an expression was read, over the nodes ns
  pub record Reads (b : Bool) (ns : List Node) (s : St) : Type 0 where
    pub expr : Expr
    pub fit : Ok (seen l E) b expr
    pub words : Said Good expr
    pub made : Made c (renc expr) ns s.nodes
    pub spelt : Spelt c expr (top_of s.nodes)
    pub inn : Stands c l E (ends b expr) s

  -- what the step reads is an expression
  abbrev pub Sound : Void → Type 0
  Sound m = (b : Bool) (s : St) → Stands c l E b s → Win (m s) (λ u. Reads b s.nodes)

  -- the same reading, from and to where nothing but the place differs
  rebase : {b : Bool} {ns₀ ns₁ : List Node} (s s' : St) (r : Reads b ns₁ s) → ns₁ ≡ ns₀ → Keeps (ends b r.expr) s.nodes s' → Reads b ns₀ s'
  rebase s s' r e k =
      record {
        expr = r.expr;
        fit = r.fit;
        words = r.words;
        made = made-from e (made_at k.same_nodes r.made);
        spelt = subst (λ (z : List Node). Spelt c r.expr (top_of z)) (sym k.same_nodes) r.spelt;
        inn = k.inn;
      }

  -- a level's loop makes binary expressions
  operators-sound : (f n : ℕ) (next : Void) → Sound next → (b : Bool) (ns₀ : List Node) (s : St) → Reads b ns₀ s → Win (operators c f (suc n) next s) (λ u. Reads b ns₀)
  unfolding operators Win Ok Said renc ends Spelt scope_of text_of has_token member if◌then◌otherwise◌ go_on
  operators-sound zero n next ns b ns₀ s r = r
  operators-sound (suc f) n next ns b ns₀ s r =
      let i : ℕ = s.at in
      let b₁ : Bool = ends b r.expr in
      win-if (eqb (looseness (tok_at c i).kind) (suc n)) _ _ s (λ u. Reads b ns₀)
      (λ t.
      win-then (consume c s) _ (λ u. Keeps b₁ s.nodes) (λ u. Reads b ns₀) (consume-sound c s r.inn)
      (λ a s₁ h₁.
      win-then (next s₁) _ (λ u. Reads b₁ s₁.nodes) (λ u. Reads b ns₀) (ns b₁ s₁ h₁.inn)
      (λ a₂ s₂ r₂.
      win-then (push c BinaryExpr false 2 i s₂) _ (λ u. Reads b ns₀) (λ u. Reads b ns₀)
      (push-sound c BinaryExpr false 2 i s₂ (λ u. Reads b ns₀)
      (record {
        expr = bin (word_at c i) r.expr r₂.expr;
        fit = (let p : looseness (tok_at c i).kind ≡ suc n = eqb→eq (looseness (tok_at c i).kind) (suc n) t in omega arith, r.fit, r₂.fit);
        words = (good i, r.words, r₂.words);
        made = made-push refl (made_then (made_at h₁.same_nodes r.made) r₂.made);
        spelt = tt;
        inn = r₂.inn;
      }))
      (λ a₃ s₃ r₃. operators-sound f n next ns b ns₀ s₃ r₃))))
      (λ t. r)

  -- every level reads expressions
  levels_sound : (n : ℕ) (u : Void) → Sound u → Sound (levels c n u)
  unfolding levels
  levels_sound zero u us b s h = us b s h
  levels_sound (suc n) u us b s h =
      win-then (levels c n u s) _ (λ v. Reads b s.nodes) (λ v. Reads b s.nodes) (levels_sound n u us b s h)
      (λ a s₁ r₁. operators-sound (fuel c) n (levels c n u) (levels_sound n u us) b s.nodes s₁ r₁)

  -- ── unary and primary ──

  -- the counted calls of expressions read expressions
  pub record SoundRec (r : Rec) : Type 0 where
    pub assign : Sound r.assign
    pub unary : Sound r.unary
    pub call : Sound r.call

  -- unary_expr reads expressions
  unary-sound : (r : Rec) → SoundRec r → Sound (unary_expr c r)
  unfolding unary_expr Ok Said renc ends Spelt scope_of text_of has_token member if◌then◌otherwise◌ go_on
  unary-sound r sr b s h =
      let i : ℕ = s.at in
      win-if (is_unary (tok_at c i).kind) _ _ s (λ u. Reads b s.nodes)
      (λ t.
      win-then (consume c s) _ (λ u. Keeps b s.nodes) (λ u. Reads b s.nodes) (consume-sound c s h)
      (λ a s₁ h₁.
      win-then (r.unary s₁) _ (λ u. Reads b s₁.nodes) (λ u. Reads b s.nodes) (sr.unary b s₁ h₁.inn)
      (λ a₂ s₂ r₂.
      push-sound c UnaryExpr false 1 i s₂ (λ u. Reads b s.nodes)
      (record {
        expr = un (word_at c i) r₂.expr;
        fit = (t, r₂.fit);
        words = (good i, r₂.words);
        made = made-push refl (made-from h₁.same_nodes r₂.made);
        spelt = tt;
        inn = r₂.inn;
      }))))
      (λ t. sr.call b s h)

  -- a name passed the check
  record Knew (b : Bool) (x : W) (s s' : St) : Type 0 where
    same-state : s' ≡ s
    found : T (not b || (is_some (look (name_of x)) || is_std_lib_fn (name_of x)))

  -- a name that passes was found or is a standard function
  known-sound : (i : ℕ) (v : Option What) (s : St) → Win (known c i v s) (λ u s'. (s' ≡ s) × T (is_some v || is_std_lib_fn (name_at c i)))
  unfolding known is_some Win
  known-sound i (some v) s = (refl, tt)
  known-sound i none s = win-if (is_std_lib_fn (name_at c i)) _ _ s _ (λ k. (refl, k)) (λ k. throw_past-sound c _ s _)

  -- a name that passes the check, where it is on
  check_sound : (b : Bool) (s : St) → Stands c l E b s → Win (check_name c s.at s) (λ u. Knew b (word_at c s.at) s)
  unfolding check_name retrieve Win if◌then◌otherwise◌ go_on
  check_sound b s h =
      let x : W = word_at c s.at in
      win-if s.check _ _ s (λ u. Knew b x s)
      (λ t.
      win-map (known c s.at (find s.level (name_of x) s.syms) s) (λ u s'. (s' ≡ s) × T (is_some (find s.level (name_of x) s.syms) || is_std_lib_fn (name_of x))) (λ u. Knew b x s)
      (known-sound s.at (find s.level (name_of x) s.syms) s)
      (λ u s' k. record { same-state = k.0; found = or_r (not b) _ (rw (looks h (name_of x), is_some-erase (find s.level (name_of x) s.syms)) k.1) }))
      (λ t. record { same-state = refl; found = or_l (not b) _ (subst (λ (z : Bool). T (not z)) h.check t) })

  -- a token that may stand as an expression is a single one
  literal-sound : (b : Bool) (s : St) → Stands c l E b s → T (fine look b (word_at c s.at)) → Win (literal c s.at s) (λ u. Reads b s.nodes)
  unfolding literal Ok Said renc ends Spelt scope_of text_of has_token member if◌then◌otherwise◌
  literal-sound b s h t =
      let i : ℕ = s.at in
      win-then (push c PrimaryExpr false 0 i s) _ (λ u s₁. s₁ ≡ pushed PrimaryExpr false 0 i s) (λ u. Reads b s.nodes) (push-sound c PrimaryExpr false 0 i s (λ u s₁. s₁ ≡ pushed PrimaryExpr false 0 i s) refl)
      (λ a s₁ e₁.
      win-map (consume c s₁) (λ u. Keeps b s₁.nodes) (λ u. Reads b s.nodes) (consume-sound c s₁ (subst (λ (z : St). Stands c l E b z) (sym e₁) h))
      (λ a₂ s₂ h₂.
      let en : s₂.nodes ≡ node PrimaryExpr false 0 i ∷ s.nodes = h₂.same_nodes ∙ ap (λ (z : St). z.nodes) e₁ in
      record {
        expr = prim (word_at c i);
        fit = t;
        words = good i;
        made = made_at en (made-push refl made_none);
        spelt = ap (λ (z : List Node). word_at c (top_of z).pay) en;
        inn = h₂.inn;
      }))

  -- primary_expr reads expressions; parentheses and `@` leave no trace
  primary-sound : (r : Rec) → SoundRec r → Sound (primary_expr c r)
  unfolding primary_expr ident_expr group_expr at_expr fine if◌then◌otherwise◌ go_on
  primary-sound r sr b s h =
      let i : ℕ = s.at in
      let x : W = word_at c i in
      let Q : Unit {0} → St → Type 0 = λ u. Reads b s.nodes in
      win-if (is_literal (tok_at c i).kind) _ _ s Q (λ t. literal-sound b s h (or_l (is_literal x.kind) _ t))
      (λ t₁.
      win-if (eqb (tok_at c i).kind Ident) _ _ s Q
      (λ t.
      win-then (check_name c i s) _ (λ u. Knew b x s) Q (check_sound b s h)
      (λ a s₁ kn. rw kn.same-state (literal-sound b s h (or_r (is_literal x.kind) _ (and_in (eqb x.kind Ident) _ t kn.found)))))
      (λ t₂.
      win-if (eqb (tok_at c i).kind LeftParen) _ _ s Q
      (λ t.
      win-then (consume c s) _ (λ u. Keeps b s.nodes) Q (consume-sound c s h)
      (λ a s₁ h₁.
      win-then (r.assign s₁) _ (λ u. Reads b s₁.nodes) Q (sr.assign b s₁ h₁.inn)
      (λ a₂ s₂ r₂. win-map (expect c RightParen s₂) (λ u. Keeps (ends b r₂.expr) s₂.nodes) Q (expect-sound c RightParen s₂ r₂.inn) (λ a₃ s₃ k. rebase s₂ s₃ r₂ h₁.same_nodes k))))
      (λ t₃.
      win-if (eqb (tok_at c i).kind At) _ _ s Q
      (λ t.
      win-then (consume c s) _ (λ u. Keeps b s.nodes) Q (consume-sound c s h)
      (λ a s₁ h₁. win-map (r.call s₁) (λ u. Reads b s₁.nodes) Q (sr.call b s₁ h₁.inn) (λ a₂ s₂ r₂. rebase s₂ s₂ r₂ h₁.same_nodes (record { inn = r₂.inn; same_nodes = refl }))))
      (λ t₄. throw_past-sound c _ s Q))))
