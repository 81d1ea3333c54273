-- Completeness of expressions: an expression's words are read as that expression, or a refusal of depth or room says otherwise.
use Prim.Native.Nat.{ℕ, zero, suc, ◌≤◌, ◌<◌}
use Rattle.std.specs.Prelude.{◌≡◌, ◌≢◌, List, [], ◌∷◌, Bool, ◌&&◌, ◌||◌, not, ltb, length}
use Rattle.std.proofs.Math.Path.{refl, sym}
use Rattle.std.proofs.Common.{ap, ◌∙◌, le_trans, not-suc-le-zero}
use Rattle.std.proofs.Math.Option.{Option, none, some}
use Rattle.std.proofs.Math.Bool.{true, false}
use native.Mathlib.Omega.{arith}
use Rattle.std.proofs.Math.Dec.{T, eqb, leb, leb→le, nleb→lt, eqb_refl}
use Rattle.sifc_word.specs.Base.{if◌then◌otherwise◌, member}
use Rattle.sifc_word.specs.Kind.{LeftParen, RightParen, LeftBracket, Eq, Period, Bang, Minus, Ident, Str, Val, True, False, Eof}
use Rattle.sifc_word.specs.Reserved.{is_std_lib_fn}
use Rattle.sifc_def.specs.declared.What.{What}
use Rattle.sifc_def.specs.Ast.{BinaryExpr, UnaryExpr, PrimaryExpr}
use Rattle.sifc_def.specs.State.{Node, node, Sym, Ctx, St, done, Void, go_on, ◌>>=◌, ok, W, name_of, name_at, push}
use Rattle.sifc_def.specs.Symbols.{find, retrieve}
use Rattle.sifc_def.specs.Label.{has_token, scope_of, text_of}
use Rattle.sifc_def.specs.Walk.{walkers}
use Rattle.sifc_def.specs.Expr.{Rec, looseness, is_unary, is_literal, fuel, operators, levels, literal, known, check_name, ident_expr, assign_expr, unary_expr, group_expr, primary_expr, postfix, fn_call_expr}
use Rattle.sifc_def.specs.Typed.{Expr, prim, un, bin, lp, rp, rb, height, wrap, pr, said, prim_lab, renc, ends, is_some, seen, fine, Ok}
use Rattle.sifc_def.proofs.Round.{true_of, not_eqb, and_l, and_r, or_l, or_r, or_case, All, in-cases, of_size, Res, and_then, yes-then, no-else, is_some-erase, looks, Made, made_none, made_then, made-push}
use Rattle.sifc_def.proofs.Round.Steps.{first, Ahead, Got, now, kind-now, test, later, sees-length, stepped, pushed, consume-eq, expect-eq, push_ok, loose-end, loose-not, unary-end, wrap-length, pr-length}
pub mod Suffixes

-- the kinds of a single token, and of what an expression begins with
abbrev pub singles : List ℕ
singles = Ident ∷ Str ∷ Val ∷ True ∷ False ∷ []

-- what an expression begins with
abbrev pub starters : List ℕ
starters = LeftParen ∷ Bang ∷ Minus ∷ singles

-- no operator of the levels up to n stands ahead, and nothing that would go on with a single token
pub Calm : ℕ → List W → Type 0
Calm n rest = ((j : ℕ) → j < n → looseness (first rest).kind ≢ suc j) × ((first rest).kind ≢ LeftParen) × ((first rest).kind ≢ LeftBracket) × ((first rest).kind ≢ Period)

-- what is calm for a level is calm for the one below
pub calm-less : (n : ℕ) (rest : List W) → Calm (suc n) rest → Calm n rest
unfolding Calm
calm-less n rest cm = (λ j lt. cm.0 j (omega arith), cm.1, cm.2, cm.3)

-- what ends an expression
unfoldable pub Stop : List W → Type 0
Stop rest = (looseness (first rest).kind ≡ 0) × ((first rest).kind ≢ LeftParen) × ((first rest).kind ≢ LeftBracket) × ((first rest).kind ≢ Period) × ((first rest).kind ≢ Eq)

-- `)` ends an expression
pub stop-rp : (rest : List W) → Stop (rp ∷ rest)
unfolding Stop looseness member if◌then◌otherwise◌
stop-rp rest = (refl, omega arith, omega arith, omega arith, omega arith)

-- `]` ends an expression
pub stop-rb : (rest : List W) → Stop (rb ∷ rest)
unfolding Stop looseness member if◌then◌otherwise◌
stop-rb rest = (refl, omega arith, omega arith, omega arith, omega arith)

-- after a single token
abbrev pub single-read : St → St
single-read s = stepped (pushed PrimaryExpr false 0 s.at s)

-- the node of a single token
pub made-single : {c : Ctx} {l : ℕ} {E : List Sym} {b : Bool} {x : W} {ws : List W} (s : St) → Ahead c l E b (x ∷ ws) s → Made c (prim_lab x ∷ []) s.nodes (node PrimaryExpr false 0 s.at ∷ s.nodes)
unfolding scope_of text_of has_token member if◌then◌otherwise◌
made-single s p = made-push (ap (λ (y : W). prim_lab y) (now p)) made_none

module _ (c : Ctx) (l : ℕ) (E : List Sym) where
  abbrev pub look : List ℕ → Option What
  look n = seen l E n

  -- an expression was read, from the nodes ns on
  abbrev pub After : Bool → Expr → List W → List Node → St → Type 0
  After b e rest ns s = Got c l E (ends b e) (renc e) rest ns s

  -- these words stand ahead
  abbrev pub Has : Bool → List W → St → Type 0
  Has b ws s = Ahead c l E b ws s

  -- ── single tokens ──

  -- a single token that may stand as an expression has one of five kinds
  pub fine-kind : (b : Bool) (x : W) → T (fine look b x) → T (member x.kind singles)
  unfolding fine is_literal member
  fine-kind b x t =
      or_case (is_literal x.kind) (eqb x.kind Ident && (not b || (is_some (look (name_of x)) || is_std_lib_fn (name_of x))))
      (λ h. or_r (eqb x.kind Ident) (is_literal x.kind) h)
      (λ h. or_l (eqb x.kind Ident) (is_literal x.kind) (and_l (eqb x.kind Ident) _ h)) t

  -- it is not the end
  pub fine_end : (b : Bool) (x : W) → T (fine look b x) → eqb x.kind Eof ≡ false
  unfolding All
  fine_end b x t = in-cases (λ k. eqb k Eof ≡ false) x.kind singles (refl, (refl, (refl, (refl, (refl, tt))))) (fine-kind b x t)

  -- it is no unary operator
  pub fine-unary : (b : Bool) (x : W) → T (fine look b x) → is_unary x.kind ≡ false
  unfolding All is_unary
  fine-unary b x t = in-cases (λ k. is_unary k ≡ false) x.kind singles (refl, (refl, (refl, (refl, (refl, tt))))) (fine-kind b x t)

  -- a name that was found, or is a standard function, passes
  pub known-eq : (i : ℕ) (w : Option What) (s : St) → T (is_some w || is_std_lib_fn (name_at c i)) → known c i w s ≡ done tt s
  unfolding known is_some if◌then◌otherwise◌
  known-eq i (some v) s h = refl
  known-eq i none s h = rw (true_of (is_std_lib_fn (name_at c i)) h) refl

  -- the check of a name, on or off
  pub check-go : (b : Bool) (i : ℕ) (s : St) → T (not b || (is_some (find s.level (name_at c i) s.syms) || is_std_lib_fn (name_at c i)))
      → if◌then◌otherwise◌ {A = Void} b (retrieve c (name_at c i) >>= λ w. known c i w) ok s ≡ done tt s
  unfolding retrieve if◌then◌otherwise◌ go_on
  check-go false i s h = refl
  check-go true i s h = known-eq i (find s.level (name_at c i) s.syms) s h

  -- a name that passes the check
  pub check-eq : (b : Bool) (x : W) (ws : List W) (s : St) → T (not b || (is_some (look (name_of x)) || is_std_lib_fn (name_of x))) → Has b (x ∷ ws) s → check_name c s.at s ≡ done tt s
  unfolding check_name go_on if◌then◌otherwise◌
  check-eq b x ws s t p =
      check-go s.check s.at s
      (rw (p.stands.check, now p)
      (rw (looks p.stands (name_of x), is_some-erase (find s.level (name_of x) s.syms)) at t))

  -- a single token is taken with its node
  pub literal-ok : (b : Bool) (x : W) (ws : List W) (s : St) → T (fine look b x) → Has b (x ∷ ws) s → Res (literal c s.at s) (λ u s₁. s₁ ≡ single-read s)
  unfolding literal Res
  literal-ok b x ws s t p =
      and_then (push c PrimaryExpr false 0 s.at s) _ (λ u s₁. s₁ ≡ pushed PrimaryExpr false 0 s.at s) (λ u s₁. s₁ ≡ single-read s)
      (push_ok c PrimaryExpr false 0 s.at s (λ u s₁. s₁ ≡ pushed PrimaryExpr false 0 s.at s) refl)
      (λ a s₁ e. rw (e, consume-eq (pushed PrimaryExpr false 0 s.at s) p (fine_end b x t)) refl)

  -- a single token that may stand as an expression is read as one
  pub prim-ok : (r : Rec) (b : Bool) (x : W) (ws : List W) (s : St) → T (fine look b x) → Has b (x ∷ ws) s → Res (primary_expr c r s) (λ u s₁. s₁ ≡ single-read s)
  unfolding primary_expr ident_expr fine Res if◌then◌otherwise◌ go_on
  prim-ok r b x ws s t p = go (is_literal x.kind) refl
    where
      go : (lit : Bool) → is_literal x.kind ≡ lit → Res (primary_expr c r s) (λ u s₁. s₁ ≡ single-read s)
      go true e = yes-then _ _ _ s _ (test is_literal true p e) (literal-ok b x ws s t p)
      go false e =
          let t₂ : T (eqb x.kind Ident && (not b || (is_some (look (name_of x)) || is_std_lib_fn (name_of x)))) = rw e at t in
          no-else _ _ _ s _ (test is_literal false p e)
          (yes-then _ _ _ s _ (test (λ k. eqb k Ident) true p (true_of (eqb x.kind Ident) (and_l (eqb x.kind Ident) _ t₂)))
          (rw (check-eq b x ws s (and_r (eqb x.kind Ident) _ t₂) p) (literal-ok b x ws s t p)))

  -- a single token, and then what follows it
  pub after-single : (r : Rec) (b : Bool) (x : W) (ws : List W) (s : St) (Q : Unit {0} → St → Type 0) → T (fine look b x) → Has b (x ∷ ws) s
      → Res (postfix c r (node PrimaryExpr false 0 s.at) (single-read s)) Q → Res (fn_call_expr c r s) Q
  unfolding fn_call_expr go_on
  after-single r b x ws s Q t p h =
      and_then (primary_expr c r s) _ (λ u s₁. s₁ ≡ single-read s) Q (prim-ok r b x ws s t p) (λ a s₁ e. rw e h)

  -- down to the call's level, at whatever depth is left
  pub to-call : (d : ℕ) (b : Bool) (x : W) (ws : List W) (s : St) (Q : Unit {0} → St → Type 0) → T (fine look b x) → Has b (x ∷ ws) s
      → ((d' : ℕ) → Res (fn_call_expr c (walkers c d') s) Q) → Res ((walkers c d).unary s) Q
  unfolding walkers unary_expr Res of_size if◌then◌otherwise◌ go_on
  to-call zero b x ws s Q t p h = tt
  to-call (suc zero) b x ws s Q t p h = no-else _ _ _ s Q (test is_unary false p (fine-unary b x t)) tt
  to-call (suc (suc d)) b x ws s Q t p h = no-else _ _ _ s Q (test is_unary false p (fine-unary b x t)) (h d)

  -- ── the levels ──

  -- a level's loop ends where none of its operators stands
  pub loop-stops : (f n : ℕ) (next : Void) (b : Bool) (rest : List W) (s : St) (Q : Unit {0} → St → Type 0) → Has b rest s → looseness (first rest).kind ≢ n → Q tt s → Res (operators c f n next s) Q
  unfolding Res operators go_on if◌then◌otherwise◌
  loop-stops zero n next b rest s Q h ne q = q
  loop-stops (suc f) n next b rest s Q h ne q = rw (kind-now h, not_eqb (looseness (first rest).kind) n ne) q

  -- what unary_expr reads, every level reads, if nothing goes on with it
  pub descend : (n : ℕ) (u : Void) (b : Bool) (rest : List W) (s : St) (Q : Unit {0} → St → Type 0) → Calm n rest → ((s' : St) → Q tt s' → Has b rest s') → Res (u s) Q → Res (levels c n u s) Q
  unfolding levels Calm
  descend zero u b rest s Q cm see h = h
  descend (suc n) u b rest s Q cm see h =
      and_then (levels c n u s) _ Q Q
      (descend n u b rest s Q (calm-less n rest cm) see h)
      (λ a s' q. loop-stops (fuel c) (suc n) (levels c n u) b rest s' Q (see s' q) (cm.0 n (omega arith)) q)

  -- level n reads the expression
  pub Level : Expr → ℕ → Type 0
  Level e n = (d : ℕ) (b : Bool) (rest : List W) (s : St) → Ok look b e → Calm n rest → Has b (pr e rest) s → Res (levels c n (walkers c d).unary s) (λ u. After b e rest s.nodes)

  -- unary_expr reads the expression
  pub Unary : Expr → Type 0
  Unary e = (d : ℕ) (b : Bool) (rest : List W) (s : St) (n : ℕ) → Ok look b e → Calm n rest → Has b (pr e rest) s → Res ((walkers c d).unary s) (λ u. After b e rest s.nodes)

  -- assign_expr reads the expression
  pub Assign : Expr → Type 0
  Assign e = (d : ℕ) (b : Bool) (rest : List W) (s : St) → Ok look b e → Stop rest → Has b (pr e rest) s → Res ((walkers c d).assign s) (λ u. After b e rest s.nodes)

  -- level n reads the expression as a left operand: whatever its loop then does
  pub Cps : Expr → ℕ → Type 1
  Cps e n =
      (d : ℕ) (b : Bool) (rest : List W) (s : St) (f : ℕ) (Q : Unit {0} → St → Type 0) → Ok look b e → Calm n rest → Has b (pr e rest) s → length (pr e rest) ≤ f
      → ((s' : St) (f' : ℕ) → After b e rest s.nodes s' → length rest ≤ f' → Res (operators c f' (suc n) (levels c n (walkers c d).unary) s') Q)
      → Res (go_on (levels c n (walkers c d).unary s) (λ a. operators c f (suc n) (levels c n (walkers c d).unary))) Q

  -- what is proved of each expression, by induction
  pub record Both (e : Expr) : Type 1 where
    pub level : (n : ℕ) → n ≤ 7 → height e ≤ n → Level e n
    pub cps : (n : ℕ) → n < 7 → height e ≤ suc n → Cps e n
    pub assign : Assign e

  -- nothing goes on with a target
  pub postfix-none : (r : Rec) (target : Node) (b : Bool) (rest : List W) (s : St) (Q : Unit {0} → St → Type 0) (n : ℕ) → Calm n rest → Has b rest s → Q tt s → Res (postfix c r target s) Q
  unfolding postfix Calm Res go_on if◌then◌otherwise◌
  postfix-none r target b rest s Q n cm p q =
      no-else _ _ _ s _ (test (λ k. eqb k LeftParen) false p (not_eqb (first rest).kind LeftParen cm.1))
      (no-else _ _ _ s _ (test (λ k. eqb k Period) false p (not_eqb (first rest).kind Period cm.3))
      (no-else _ _ _ s _ (test (λ k. eqb k LeftBracket) false p (not_eqb (first rest).kind LeftBracket cm.2)) q))

  -- a single token, with nothing that goes on with it
  pub prim-unary : (x : W) → Unary (prim x)
  unfolding Unary Ok pr renc ends Res
  prim-unary x d b rest s n t cm p =
      to-call d b x rest s (λ u. After b (prim x) rest s.nodes) t p
      (λ d'. after-single (walkers c d') b x rest s (λ u. After b (prim x) rest s.nodes) t p
      (postfix-none (walkers c d') _ b rest (single-read s) (λ u. After b (prim x) rest s.nodes) n cm (later p)
      (record { pre = later p; made = made-single s p })))

  -- an expression in parentheses is read by fn_call_expr
  pub paren-call : (e : Expr) → Assign e → (d : ℕ) (b : Bool) (rest : List W) (s : St) (n : ℕ) → Ok look b e → Calm n rest → Has b (lp ∷ pr e (rp ∷ rest)) s → Res (fn_call_expr c (walkers c d) s) (λ u. After b e rest s.nodes)
  unfolding fn_call_expr primary_expr group_expr Assign is_literal member Res if◌then◌otherwise◌ go_on
  paren-call e asg d b rest s n k cm p =
      and_then (primary_expr c (walkers c d) s) _ (λ u. After b e rest s.nodes) (λ u. After b e rest s.nodes)
      (no-else _ _ _ s _ (test is_literal false p refl)
      (no-else _ _ _ s _ (test (λ k. eqb k Ident) false p refl)
      (yes-then _ _ _ s _ (test (λ k. eqb k LeftParen) true p refl)
      (rw (consume-eq s p refl)
      (and_then ((walkers c d).assign (stepped s)) _ (λ u. After b e (rp ∷ rest) s.nodes) (λ u. After b e rest s.nodes)
      (asg d b (rp ∷ rest) (stepped s) k (stop-rp rest) (later p))
      (λ a s₁ h. rw (expect-eq RightParen s₁ h.pre refl refl) (record { pre = later h.pre; made = h.made })))))))
      (λ a s₁ h. postfix-none (walkers c d) _ (ends b e) rest s₁ (λ u. After b e rest s.nodes) n cm h.pre h)

  -- an expression in parentheses is read by unary_expr
  pub paren-unary : (e : Expr) → Assign e → (d : ℕ) (b : Bool) (rest : List W) (s : St) (n : ℕ) → Ok look b e → Calm n rest → Has b (lp ∷ pr e (rp ∷ rest)) s → Res ((walkers c d).unary s) (λ u. After b e rest s.nodes)
  unfolding walkers unary_expr Res of_size is_unary if◌then◌otherwise◌ go_on
  paren-unary e asg zero b rest s n k cm p = tt
  paren-unary e asg (suc zero) b rest s n k cm p = no-else _ _ _ s _ (test is_unary false p refl) tt
  paren-unary e asg (suc (suc d)) b rest s n k cm p = no-else _ _ _ s _ (test is_unary false p refl) (paren-call e asg d b rest s n k cm p)

  -- bare or in parentheses
  pub wrapped : (e : Expr) → Both e → (q : Bool) (n : ℕ) → n ≤ 7 → (T q → height e ≤ n) → (d : ℕ) (b : Bool) (rest : List W) (s : St) → Ok look b e → Calm n rest → Has b (wrap q (pr e) rest) s → Res (levels c n (walkers c d).unary s) (λ u. After b e rest s.nodes)
  unfolding wrap Level
  wrapped e g true n small low d b rest s k cm p = g.level n small (low tt) d b rest s k cm p
  wrapped e g false n small low d b rest s k cm p = descend n (walkers c d).unary (ends b e) rest s (λ u. After b e rest s.nodes) cm (λ s' a. a.pre) (paren-unary e g.assign d b rest s n k cm p)

  -- an expression that binds tighter than a level is a left operand there
  pub cps-low : (e : Expr) (n : ℕ) → Level e n → Cps e n
  unfolding Level Cps
  cps-low e n lv d b rest s f Q k cm p len h =
      and_then (levels c n (walkers c d).unary s) _ (λ u. After b e rest s.nodes) Q (lv d b rest s k cm p)
      (λ a s' q. h s' f q (let z = pr-length e rest in omega arith))

  -- an expression that is no assignment and no table access, read as a whole
  pub assign-low : (e : Expr) → Level e 7 → Assign e
  unfolding Assign Level walkers assign_expr Res of_size Stop Calm if◌then◌otherwise◌ go_on
  assign-low e lv zero b rest s k st p = tt
  assign-low e lv (suc d) b rest s k st p =
      and_then (levels c 7 (walkers c d).unary s) _ (λ u. After b e rest s.nodes) (λ u. After b e rest s.nodes)
      (lv d b rest s k (λ j lt z. omega arith, st.1, st.2, st.3) p)
      (λ a s₁ h. no-else _ _ _ s₁ _ (test (λ k. eqb k Eq) false h.pre (not_eqb (first rest).kind Eq st.4)) h)

  -- ── unary and binary operators ──

  -- a unary operator and its operand
  pub un-unary : (o : W) (e : Expr) → Both e → Unary (un o e)
  unfolding Unary walkers unary_expr Res of_size pr renc ends Ok levels Calm scope_of text_of has_token member if◌then◌otherwise◌ go_on
  un-unary o e g zero b rest s n k cm p = tt
  un-unary o e g (suc d) b rest s n k cm p =
      yes-then _ _ _ s _ (test is_unary true p (true_of (is_unary o.kind) k.0))
      (rw (consume-eq s p (unary-end o.kind k.0))
      (and_then ((walkers c d).unary (stepped s)) _ (λ u. After b e rest s.nodes) (λ u. After b (un o e) rest s.nodes)
      (wrapped e g (leb (height e) 0) 0 (omega arith) (leb→le (height e) 0) d b rest (stepped s) k.1 (λ j lt. absurd (not-suc-le-zero lt), cm.1, cm.2, cm.3) (later p))
      (λ a s₁ h.
      push_ok c UnaryExpr false 1 s.at s₁ (λ u. After b (un o e) rest s.nodes)
      (record { pre = h.pre; made = made-push (ap (λ (y : W). said UnaryExpr false 1 y) (now p)) h.made }))))

  -- a left operand, bare or in parentheses
  pub cps-wrapped : (e : Expr) → Both e → (q : Bool) (n : ℕ) → n < 7 → (T q → height e ≤ suc n) → (d : ℕ) (b : Bool) (rest : List W) (s : St) (f : ℕ) (Q : Unit {0} → St → Type 0)
      → Ok look b e → Calm n rest → Has b (wrap q (pr e) rest) s → length (wrap q (pr e) rest) ≤ f
      → ((s' : St) (f' : ℕ) → After b e rest s.nodes s' → length rest ≤ f' → Res (operators c f' (suc n) (levels c n (walkers c d).unary) s') Q)
      → Res (go_on (levels c n (walkers c d).unary s) (λ a. operators c f (suc n) (levels c n (walkers c d).unary))) Q
  unfolding wrap Cps
  cps-wrapped e g true n small low d b rest s f Q k cm p len h = g.cps n small (low tt) d b rest s f Q k cm p len h
  cps-wrapped e g false n small low d b rest s f Q k cm p len h =
      and_then (levels c n (walkers c d).unary s) _ (λ u. After b e rest s.nodes) Q
      (descend n (walkers c d).unary (ends b e) rest s (λ u. After b e rest s.nodes) cm (λ s' a. a.pre) (paren-unary e g.assign d b rest s n k cm p))
      (λ a s' q. h s' f q (let z = pr-length e (rp ∷ rest) in omega arith))

  module _ (o : W) (el er : Expr) (gl : Both el) (gr : Both er) where
    abbrev right : List W → List W
    right rest = wrap (ltb (height er) (looseness o.kind)) (pr er) rest

    -- one turn of the loop: the operator and the right operand
    bin-step : (n : ℕ) → n < 7 → looseness o.kind ≡ suc n → (d : ℕ) (b : Bool) (rest : List W) (s s₁ : St) (f : ℕ) (Q : Unit {0} → St → Type 0)
        → Ok look (ends b el) er → Calm n rest → After b el (o ∷ right rest) s.nodes s₁ → length (o ∷ right rest) ≤ f
        → ((s' : St) (f' : ℕ) → After b (bin o el er) rest s.nodes s' → length rest ≤ f' → Res (operators c f' (suc n) (levels c n (walkers c d).unary) s') Q)
        → Res (operators c f (suc n) (levels c n (walkers c d).unary) s₁) Q
    unfolding operators renc ends scope_of text_of has_token member if◌then◌otherwise◌ go_on
    bin-step n small lo d b rest s s₁ zero Q k cm a len h = absurd (not-suc-le-zero len)
    bin-step n small lo d b rest s s₁ (suc f) Q k cm a len h =
        let i : ℕ = s₁.at in
        yes-then _ _ _ s₁ _ (test (λ x. eqb (looseness x) (suc n)) true a.pre (true_of (eqb (looseness o.kind) (suc n)) (rw lo (eqb_refl (suc n)))))
        (rw (consume-eq s₁ a.pre (loose-end o.kind (rw lo (omega arith))))
        (and_then (levels c n (walkers c d).unary (stepped s₁)) _ (λ u. After (ends b el) er rest s₁.nodes) Q
        (wrapped er gr (ltb (height er) (looseness o.kind)) n (omega arith) (λ t. let z : height er < looseness o.kind = leb→le (suc (height er)) (looseness o.kind) t in omega arith) d (ends b el) rest (stepped s₁) k cm (later a.pre))
        (λ u s₂ a₂.
        and_then (push c BinaryExpr false 2 i s₂) _ (λ u. After b (bin o el er) rest s.nodes) Q
        (push_ok c BinaryExpr false 2 i s₂ (λ u. After b (bin o el er) rest s.nodes)
        (record {
          pre = a₂.pre;
          made = made-push (ap (λ (y : W). said BinaryExpr false 2 y) (now a.pre)) (made_then a.made a₂.made);
        }))
        (λ v s₃ a₃. h s₃ f a₃ (let z = wrap-length (ltb (height er) (looseness o.kind)) (pr er) (pr-length er) rest in omega arith)))))

    -- a binary expression of the very level as a left operand there
    bin-top : (n : ℕ) → n < 7 → looseness o.kind ≡ suc n → Cps (bin o el er) n
    unfolding Cps pr Calm Ok looseness member if◌then◌otherwise◌
    bin-top n small lo d b rest s f Q k cm p len h =
        cps-wrapped el gl (leb (height el) (looseness o.kind)) n small (λ t. let z : height el ≤ looseness o.kind = leb→le (height el) (looseness o.kind) t in omega arith) d b (o ∷ right rest) s f Q k.1
        (λ j lt e. let z : suc j ≡ suc n = sym e ∙ lo in omega arith, loose-not o.kind LeftParen k.0 refl, loose-not o.kind LeftBracket k.0 refl, loose-not o.kind Period k.0 refl)
        p len
        (λ s₁ f₁ a len₁. bin-step n small lo d b rest s s₁ f₁ Q k.2 cm a len₁ h)

    -- a binary expression as a left operand of any level that takes it bare
    bin-cps : (n : ℕ) → n < 7 → (height (bin o el er) ≤ n → Level (bin o el er) n) → height (bin o el er) ≤ suc n → Cps (bin o el er) n
    unfolding height
    bin-cps n small lv le = go (leb (looseness o.kind) n) refl
      where
        go : (x : Bool) → leb (looseness o.kind) n ≡ x → Cps (bin o el er) n
        go true e = cps-low (bin o el er) n (lv (leb→le (looseness o.kind) n (rw e tt)))
        go false e = bin-top n small (let z : n < looseness o.kind = nleb→lt (looseness o.kind) n (rw e tt) in omega arith)

    -- a binary expression is read by any level that takes it bare
    bin-level : (n : ℕ) → n ≤ 7 → height (bin o el er) ≤ n → Level (bin o el er) n
    unfolding height Level Cps levels Calm Ok
    bin-level zero small le d b rest s k cm p = absurd (not-suc-le-zero (le_trans k.0 le))
    bin-level (suc n) small le d b rest s k cm p =
        bin-cps n (omega arith) (bin-level n (omega arith)) le d b rest s (fuel c) (λ u. After b (bin o el er) rest s.nodes) k (λ j lt. cm.0 j (omega arith), cm.1, cm.2, cm.3) p (sees-length p)
        (λ s' f' a len. loop-stops f' (suc n) (levels c n (walkers c d).unary) (ends b (bin o el er)) rest s' (λ u. After b (bin o el er) rest s.nodes) a.pre (cm.0 n (omega arith)) a)

  -- read by the call's level, so by every level above
  pub by_call : (e : Expr) → Unary e → (n : ℕ) → Level e n
  unfolding Level Unary
  by_call e hu n d b rest s k cm p = descend n (walkers c d).unary (ends b e) rest s (λ u. After b e rest s.nodes) cm (λ s' a. a.pre) (hu d b rest s n k cm p)

  -- an expression that every level reads
  pub both-low : (e : Expr) → ((n : ℕ) → Level e n) → Both e
  both-low e lv = record { level = λ n small le. lv n; cps = λ n small le. cps-low e n (lv n); assign = assign-low e (lv 7) }

  -- what only the whole expression may be
  pub both_high : (e : Expr) → 7 < height e → Assign e → Both e
  both_high e tall asg = record { level = λ n small le. absurd (let z : ⊥ = omega arith in z); cps = λ n small le. absurd (let z : ⊥ = omega arith in z); assign = asg }
