-- Completeness of expressions, the rest: what goes on with a single token, assignments, and the whole expression.
use Prim.Native.Nat.{ℕ, zero, suc, ◌+◌, ◌≤◌}
use Rattle.std.proofs.Math.Path.{◌≡◌, refl, ap, subst}
use Rattle.std.proofs.Common.{sym, ◌∙◌, not-suc-le-zero, eqb→eq}
use mathlib.Core.List.{List, [], ◌∷◌, ◌++◌}
use Rattle.std.proofs.Math.Option.{Option, none, some}
use Rattle.std.specs.Prelude.{Bool, ◌||◌, leb, ltb, length}
use Rattle.std.proofs.Math.Bool.{true, false, not}
use native.Mathlib.Omega.{arith}
use Rattle.std.proofs.Math.Nat.{zero-add}
use Rattle.std.proofs.Math.Dec.{T, eqb, leb→le}
use Rattle.sifc_word.specs.Base.{if◌then◌otherwise◌, member}
use Rattle.sifc_word.specs.Kind.{LeftParen, RightParen, LeftBracket, RightBracket, Eq, Period, Comma, Bang, Minus, Ident, Str, Eof}
use Rattle.sifc_word.specs.Reserved.{is_std_lib_fn}
use Rattle.sifc_def.specs.declared.What.{What}
use Rattle.sifc_def.specs.declared.What.TheVariants.{Placeholder, Function, Variable, Other}
use Rattle.sifc_def.specs.Ast.{TableAccess, ArrayAccess, ArrayMutExpr, FnCallExpr, VarAssignExpr, PrimaryExpr}
use Rattle.sifc_def.specs.State.{Node, node, Sym, Ctx, St, Void, go_on, W, name_of, tok_at, word_at, push, set_nodes}
use Rattle.sifc_def.specs.Symbols.{find, retrieve, set_check}
use Rattle.sifc_def.specs.Label.{Lab, lab, has_token, scope_of, text_of}
use Rattle.sifc_def.specs.Walk.{walkers}
use Rattle.sifc_def.specs.Expr.{looseness, is_unary, fuel, levels, assign_var, assign_token, assign_array, assign_to, separator, param_list, single, call_counted, call_declared, call_name, is_named, call_named, assign_expr, call_part, dot as dot_part, index as index_part, postfix}
use Rattle.sifc_def.specs.Typed.{Expr, prim, un, bin, call, dot, idx, set, mut, Exprs, nil, more, many, lp, rp, lb, rb, eq, period, height, wrap, between, pr, prs, bare, prim_lab, renc, rencs, ends, endss, wants, seen, fine, callable, Ok, Oks}
use Rattle.sifc_def.proofs.Round.{true_of, not_eqb, not-leb, at-kind, and_l, and_r, or_case, All, in-cases, of_size, Res, and_then, yes-then, no-else, res-map, erase, wants-erase, In, looks, find-fair, ident-name, map-append, labelled, made_none, made_then, made-push, taken_out, Newest, newest, top_of}
use Rattle.sifc_def.proofs.Round.Steps.{first, Ahead, Got, now, test, later, stand, sees-length, stepped, pushed, consume-eq, expect-eq, push_ok, loose-le, between-length, pr-length}
use Rattle.sifc_def.proofs.Round.Levels.{singles, starters, Calm, Stop, stop-rb, single-read, made-single, look, After, Has, fine-kind, after-single, to-call, descend, Level, Unary, Assign, Both, postfix-none, prim-unary, assign-low, un-unary, bin-level, bin-cps, by_call, both-low, both_high}

-- what stands between two arguments ends an argument
stop-sep : (es : Exprs) (rest : List W) → Stop (between es (prs es (rp ∷ rest)))
unfolding Stop looseness member between prs if◌then◌otherwise◌
stop-sep nil rest = (refl, omega arith, omega arith, omega arith, omega arith)
stop-sep (more e es) rest = (refl, omega arith, omega arith, omega arith, omega arith)

-- `=` goes on with no level
calm-eq : (ws : List W) → Calm 7 (eq ∷ ws)
unfolding Calm looseness member if◌then◌otherwise◌
calm-eq ws = (λ j lt. omega arith, omega arith, omega arith, omega arith)

-- in parentheses or not, it begins as an expression does
wrap-start : (q : Bool) (f : List W → List W) → ((r : List W) → T (member (first (f r)).kind starters)) → (r : List W) → T (member (first (wrap q f r)).kind starters)
unfolding wrap member
wrap-start true f h r = h r
wrap-start false f h r = tt

-- the state with name checking set
abbrev checked : Bool → St → St
checked q s = record { at = s.at; nodes = s.nodes; syms = s.syms; level = s.level; check = q; errs = s.errs }

-- name checking is set, names and level stay
in-checked : {c : Ctx} {l : ℕ} {E : List Sym} {b : Bool} {lvl : ℕ} {syms : List Sym} {chk : Bool} (q : Bool) → In c l E b lvl syms chk → In c l E q lvl syms q
in-checked q h = record { level = h.level; names = h.names; fair = h.fair; check = refl }

module _ (c : Ctx) (l : ℕ) (E : List Sym) where
  -- ── what an expression begins with ──

  -- a single token begins an expression
  single-start : (b : Bool) (x : W) → T (fine (look c l E) b x) → T (member x.kind starters)
  unfolding All member
  single-start b x t = in-cases (λ k. T (member k starters)) x.kind singles (tt, (tt, (tt, (tt, (tt, tt))))) (fine-kind c l E b x t)

  -- what an expression begins with
  pub start : (e : Expr) (b : Bool) → Ok (look c l E) b e → (rest : List W) → T (member (first (pr e rest)).kind starters)
  unfolding Ok pr is_unary member
  start (prim x) b k rest = single-start b x k
  start (un o e) b k rest = or_case (eqb o.kind Bang) (eqb o.kind Minus) (λ t. subst (λ (n : ℕ). T (member n starters)) (sym (eqb→eq o.kind Bang t)) tt) (λ t. subst (λ (n : ℕ). T (member n starters)) (sym (eqb→eq o.kind Minus t)) tt) k.0
  start (bin o el er) b k rest = wrap-start (leb (height el) (looseness o.kind)) (pr el) (start el b k.1) (o ∷ wrap (ltb (height er) (looseness o.kind)) (pr er) rest)
  start (call x es) b k rest = single-start b x k.0
  start (dot x e) b k rest = single-start b x k.0
  start (idx x e) b k rest = single-start b x k.0
  start (set x g e) b k rest = single-start b x k.0
  start (mut x i e) b k rest = single-start b x k.0

  -- an expression does not begin with a token of kind n
  pub start_test : (n : ℕ) → T (not (member n starters)) → (e : Expr) (b : Bool) → Ok (look c l E) b e → (rest : List W) → eqb (first (pr e rest)).kind n ≡ false
  start_test n a e b k rest = go (eqb (first (pr e rest)).kind n) refl
    where
      go : (v : Bool) → eqb (first (pr e rest)).kind n ≡ v → v ≡ false
      go true q = absurd (clash (member n starters) a (subst (λ (m : ℕ). T (member m starters)) (eqb→eq (first (pr e rest)).kind n (rw q tt)) (start e b k rest)))
        where
          clash : (v : Bool) → T (not v) → T v → ⊥
          clash true f g = f
          clash false f g = g
      go false q = refl

  -- ── an index ──

  -- an index is read as it is
  idx-unary : (x : W) (e : Expr) → Assign c l E e → Unary c l E (idx x e)
  unfolding Unary Assign Ok pr renc ends postfix index_part Res single scope_of text_of has_token member go_on if◌then◌otherwise◌
  idx-unary x e asg d b rest s n k cm p =
      let Q : Unit {0} → St → Type 0 = λ u. After c l E b (idx x e) rest s.nodes in
      to-call c l E d b x (lb ∷ pr e (rb ∷ rest)) s Q k.0 p
      (λ d'. after-single c l E (walkers c d') b x (lb ∷ pr e (rb ∷ rest)) s Q k.0 p
      (no-else _ _ _ (single-read s) Q (test (λ k. eqb k LeftParen) false (later p) refl)
      (no-else _ _ _ (single-read s) Q (test (λ k. eqb k Period) false (later p) refl)
      (yes-then _ _ _ (single-read s) Q (test (λ k. eqb k LeftBracket) true (later p) refl)
      (rw (consume-eq (single-read s) (later p) refl)
      (and_then ((walkers c d').assign (stepped (single-read s))) _ (λ u. After c l E b e (rb ∷ rest) (node PrimaryExpr false 0 s.at ∷ s.nodes)) Q
      (asg d' b (rb ∷ rest) (stepped (single-read s)) k.1 (stop-rb rest) (later (later p)))
      (λ a s₃ h.
      rw (expect-eq RightBracket s₃ h.pre refl refl)
      (push_ok c ArrayAccess false 2 0 (stepped s₃) Q
      (record { pre = later h.pre; made = made-push refl (made_then (made-single s p) h.made) })))))))))

  -- ── a table access: name checking is off in what follows, and on after it ──

  -- a table access is read as it is by unary_expr
  dot-unary : (x : W) (e : Expr) → Assign c l E e → (d : ℕ) (b : Bool) (rest : List W) (s : St) → Ok (look c l E) b (dot x e) → Stop rest → Has c l E b (pr (dot x e) rest) s → Res ((walkers c d).unary s) (λ u. After c l E b (dot x e) rest s.nodes)
  unfolding Assign Ok pr renc ends postfix dot_part Res single set_check scope_of text_of has_token member if◌then◌otherwise◌ go_on
  dot-unary x e asg d b rest s k st p =
      let Q : Unit {0} → St → Type 0 = λ u. After c l E b (dot x e) rest s.nodes in
      to-call c l E d b x (period ∷ pr e rest) s Q k.0 p
      (λ d'. after-single c l E (walkers c d') b x (period ∷ pr e rest) s Q k.0 p
      (no-else _ _ _ (single-read s) Q (test (λ k. eqb k LeftParen) false (later p) refl)
      (yes-then _ _ _ (single-read s) Q (test (λ k. eqb k Period) true (later p) refl)
      (rw (consume-eq (single-read s) (later p) refl)
      (and_then ((walkers c d').assign (checked false (stepped (single-read s)))) _ (λ u. After c l E false e rest (node PrimaryExpr false 0 s.at ∷ s.nodes)) Q
      (asg d' false rest (checked false (stepped (single-read s))) k.1 st (stand (later (later p)) (in-checked false p.stands)))
      (λ a s₃ h.
      push_ok c TableAccess false 2 0 (checked true s₃) Q
      (record { pre = stand h.pre (in-checked true h.pre.stands); made = made-push refl (made_then (made-single s p) h.made) })))))))

  -- a table access is read as it is by assign_expr
  dot-assign : (x : W) (e : Expr) → Assign c l E e → Assign c l E (dot x e)
  unfolding Assign walkers assign_expr Res of_size Stop Calm if◌then◌otherwise◌ go_on
  dot-assign x e asg zero b rest s k st p = tt
  dot-assign x e asg (suc d) b rest s k st p =
      let Q : Unit {0} → St → Type 0 = λ u. After c l E b (dot x e) rest s.nodes in
      and_then (levels c 7 (walkers c d).unary s) _ Q Q
      (descend c l E 7 (walkers c d).unary (ends b (dot x e)) rest s Q (λ j lt z. omega arith, st.1, st.2, st.3) (λ s' a. a.pre) (dot-unary x e asg d b rest s k st p))
      (λ a s₁ h. no-else _ _ _ s₁ Q (test (λ k. eqb k Eq) false h.pre (not_eqb (first rest).kind Eq st.4)) h)

  -- ── calls ──

  -- assign_expr reads each of them
  Assigns : Exprs → Type 0
  Assigns nil = Unit {0}
  Assigns (more e es) = Assign c l E e × Assigns es

  -- the arguments were read, after n
  record Args (b : Bool) (es : Exprs) (n : ℕ) (rest : List W) (ns : List Node) (m : ℕ) (s : St) : Type 0 where
    num : m ≡ n + many es
    got : Got c l E (endss b es) (rencs es) rest ns s

  -- a comma, or none before `)`
  sep-ok : (es : Exprs) (b : Bool) (rest : List W) (ns : List Node) (L : List Lab) (s : St) → Got c l E b L (between es (prs es (rp ∷ rest))) ns s → Res (separator c s) (λ u. Got c l E b L (prs es (rp ∷ rest)) ns)
  unfolding separator between prs Res go_on if◌then◌otherwise◌
  sep-ok nil b rest ns L s h = no-else _ _ _ s _ (test (λ k. not (eqb k RightParen)) false h.pre refl) h
  sep-ok (more e es) b rest ns L s h =
      yes-then _ _ _ s _ (test (λ k. not (eqb k RightParen)) true h.pre refl)
      (rw (expect-eq Comma s h.pre refl refl) (record { pre = later h.pre; made = h.made }))

  -- arguments are read as they are
  args_ok : (es : Exprs) → Assigns es → (d f n : ℕ) (b : Bool) (rest : List W) (s : St) → Oks (look c l E) b es → n + many es ≤ 64 → length (prs es (rp ∷ rest)) ≤ f → Has c l E b (prs es (rp ∷ rest)) s
      → Res (param_list c (walkers c d).assign f n s) (Args b es n (rp ∷ rest) s.nodes)
  unfolding Assigns param_list prs many Oks Assign Res endss rencs member if◌then◌otherwise◌ go_on
  args_ok nil all d zero n b rest s k small len p = absurd (not-suc-le-zero len)
  args_ok nil all d (suc f) n b rest s k small len p = yes-then _ _ _ s _ (test (λ k. eqb k RightParen) true p refl) (record { num = omega arith; got = record { pre = p; made = made_none } })
  args_ok (more e es) all d zero n b rest s k small len p = absurd (let z = pr-length e (between es (prs es (rp ∷ rest))) in let y : ⊥ = omega arith in y)
  args_ok (more e es) all d (suc f) n b rest s k small len p =
      let ws : List W = between es (prs es (rp ∷ rest)) in
      let Q : ℕ → St → Type 0 = Args b (more e es) n (rp ∷ rest) s.nodes in
      no-else _ _ _ s Q (test (λ k. eqb k RightParen) false p (start_test RightParen tt e b k.0 ws))
      (no-else _ _ _ s Q (not-leb 64 n (omega arith))
      (no-else _ _ _ s Q (test (λ k. eqb k Eof) false p (start_test Eof tt e b k.0 ws))
      (and_then ((walkers c d).assign s) _ (λ u. After c l E b e ws s.nodes) Q
      (all.0 d b ws s k.0 (stop-sep es rest) p)
      (λ a s₁ h.
      and_then (separator c s₁) _ (λ u. Got c l E (ends b e) (renc e) (prs es (rp ∷ rest)) s.nodes) Q
      (sep-ok es (ends b e) rest s.nodes (renc e) s₁ h)
      (λ a₂ s₂ h₂.
      res-map (param_list c (walkers c d).assign f (suc n) s₂) (Args (ends b e) es (suc n) (rp ∷ rest) s₂.nodes) Q
      (args_ok es all.1 d f (suc n) (ends b e) rest s₂ k.1 (omega arith) (let z = pr-length e ws in let y = between-length es (prs es (rp ∷ rest)) in omega arith) h₂.pre)
      (λ m s₃ q. record { num = q.num ∙ omega arith; got = record { pre = q.got.pre; made = made_then h₂.made q.got.made } }))))))

  -- a call with as many arguments as its name takes
  declared-ok : (i n : ℕ) (v : Option What) (s : St) (Q : Unit {0} → St → Type 0) → T (wants v n) → Q tt (pushed FnCallExpr false (suc n) 0 s) → Res (call_declared c i n v s) Q
  unfolding call_declared wants call_counted
  declared-ok i n none s Q h q = absurd h
  declared-ok i n (some Placeholder) s Q h q = push_ok c FnCallExpr false (suc n) 0 s Q q
  declared-ok i n (some (Function m)) s Q h q = yes-then _ _ _ s Q (true_of (eqb m n) h) (push_ok c FnCallExpr false (suc n) 0 s Q q)
  declared-ok i n (some (Variable j g)) s Q h q = yes-then _ _ _ s Q (true_of (eqb 0 n) h) (push_ok c FnCallExpr false (suc n) 0 s Q q)
  declared-ok i n (some Other) s Q h q = yes-then _ _ _ s Q (true_of (eqb 0 n) h) (push_ok c FnCallExpr false (suc n) 0 s Q q)

  -- a name or string that may be called with so many arguments
  named_ok : (x : W) (i n paren : ℕ) (b : Bool) (s : St) (Q : Unit {0} → St → Type 0) → word_at c i ≡ x → T (callable (look c l E) x n) → In c l E b s.level s.syms s.check → Q tt (pushed FnCallExpr (is_std_lib_fn (name_of x)) (suc n) 0 s) → Res (call_named c (node PrimaryExpr false 0 i) paren n s) Q
  unfolding call_named call_name is_named callable retrieve if◌then◌otherwise◌ go_on
  named_ok x i n paren b s Q ew t h q =
      let ek : (tok_at c i).kind ≡ x.kind = ap (λ (y : W). y.kind) ew in
      let tk : T (eqb x.kind Ident || eqb x.kind Str) = and_l (eqb x.kind Ident || eqb x.kind Str) _ t in
      let tw : T (is_std_lib_fn (name_of x) || wants (look c l E (name_of x)) n) = and_r (leb n 64) _ (and_r (eqb x.kind Ident || eqb x.kind Str) _ t) in
      let fk : (eqb (tok_at c i).kind Ident || eqb (tok_at c i).kind Str) ≡ true = rw ek (true_of (eqb x.kind Ident || eqb x.kind Str) tk) in
      yes-then _ _ _ s Q fk (go (is_std_lib_fn (name_of x)) refl tw)
    where
      go : (y : Bool) → is_std_lib_fn (name_of x) ≡ y → T (is_std_lib_fn (name_of x) || wants (look c l E (name_of x)) n)
          → Res (if◌then◌otherwise◌ {A = Void} (is_std_lib_fn (name_of (word_at c i))) (push c FnCallExpr true (suc n) 0) (call_declared c i n (find s.level (name_of (word_at c i)) s.syms)) s) Q
      go true e tw = yes-then _ _ _ s Q (ap (λ (v : W). is_std_lib_fn (name_of v)) ew ∙ e) (push_ok c FnCallExpr true (suc n) 0 s Q (rw e at q))
      go false e tw =
          let tw₂ : T (wants (look c l E (name_of x)) n) = rw e at tw in
          no-else _ _ _ s Q (ap (λ (v : W). is_std_lib_fn (name_of v)) ew ∙ e)
          (declared-ok i n (find s.level (name_of (word_at c i)) s.syms) s Q
          (rw ew (rw (looks h (name_of x), wants-erase (find s.level (name_of x) s.syms) n) at tw₂))
          (rw e at q))

  -- a call is read as it is
  call-unary : (x : W) (es : Exprs) → Assigns es → Unary c l E (call x es)
  unfolding Unary Ok pr renc ends postfix call_part Res callable scope_of text_of has_token member go_on if◌then◌otherwise◌
  call-unary x es all d b rest s n k cm p =
      let ws : List W = prs es (rp ∷ rest) in
      let Q : Unit {0} → St → Type 0 = λ u. After c l E b (call x es) rest s.nodes in
      to-call c l E d b x (lp ∷ ws) s Q k.0 p
      (λ d'. after-single c l E (walkers c d') b x (lp ∷ ws) s Q k.0 p
      (let s₂ : St = stepped (single-read s) in
      yes-then _ _ _ (single-read s) Q (test (λ k. eqb k LeftParen) true (later p) refl)
      (rw (consume-eq (single-read s) (later p) refl)
      (and_then (param_list c (walkers c d').assign (fuel c) 0 s₂) _ (Args b es 0 (rp ∷ rest) s₂.nodes) Q
      (args_ok es all d' (fuel c) 0 b rest s₂ k.2 (omega (arith, leb→le (many es) 64 (and_l (leb (many es) 64) _ (and_r (eqb x.kind Ident || eqb x.kind Str) _ k.1)))) (sees-length (later (later p))) (later (later p)))
      (λ m s₃ h.
      rw (expect-eq RightParen s₃ h.got.pre refl refl)
      (named_ok x s.at m (suc s.at) (endss b es) (stepped s₃) Q (now p) (subst (λ (z : ℕ). T (callable (look c l E) x z)) (sym (h.num ∙ zero-add (many es))) k.1) h.got.pre.stands
      (record {
        pre = later h.got.pre;
        made = made-push (ap (λ (z : ℕ). bare FnCallExpr (is_std_lib_fn (name_of x)) (suc z)) (h.num ∙ zero-add (many es))) (made_then (made-single s p) h.got.made);
      })))))))

  -- ── assignments ──

  -- an assignment to what was declared a variable
  assign_var-ok : (i : ℕ) (v : Option What) (g : Bool) (s : St) (Q : Unit {0} → St → Type 0) → erase v ≡ some (Variable 0 g) → ((j : ℕ) → v ≡ some (Variable j g) → Q tt (pushed VarAssignExpr g 2 j s)) → Res (assign_var c i v s) Q
  unfolding assign_var
  assign_var-ok i none g s Q e h = absurd (let z : ◌≡◌ {A = ℕ} 0 1 = cc in let y : ⊥ = omega arith in y)
  assign_var-ok i (some Placeholder) g s Q e h = absurd (let z : ◌≡◌ {A = ℕ} 0 1 = cc in let y : ⊥ = omega arith in y)
  assign_var-ok i (some (Function n)) g s Q e h = absurd (let z : ◌≡◌ {A = ℕ} 0 1 = cc in let y : ⊥ = omega arith in y)
  assign_var-ok i (some (Variable j g')) g s Q e h = let eg : g ≡ g' = cc in push_ok c VarAssignExpr g' 2 j s Q (subst (λ (z : Bool). Q tt (pushed VarAssignExpr z 2 j s)) eg (h j (ap (λ (z : Bool). some (Variable j z)) (sym eg))))
  assign_var-ok i (some Other) g s Q e h = absurd (let z : ◌≡◌ {A = ℕ} 0 1 = cc in let y : ⊥ = omega arith in y)

  -- a single token, read by all the levels
  single-levels : (d : ℕ) (b : Bool) (x : W) (ws : List W) (s : St) → T (fine (look c l E) b x) → Calm 7 ws → Has c l E b (x ∷ ws) s → Res (levels c 7 (walkers c d).unary s) (λ u s₁. s₁ ≡ single-read s)
  single-levels d b x ws s t cm p =
      descend c l E 7 (walkers c d).unary b ws s (λ u s₁. s₁ ≡ single-read s) cm (λ s₁ e. subst (λ (z : St). Has c l E b ws z) (sym e) (later p))
      (to-call c l E d b x ws s _ t p (λ d'. after-single c l E (walkers c d') b x ws s _ t p (postfix-none c l E (walkers c d') (node PrimaryExpr false 0 s.at) b ws (single-read s) (λ u s₁. s₁ ≡ single-read s) 7 cm (later p) refl)))

  -- an assignment to a variable is read as it is
  set-assign : (x : W) (g : Bool) (e : Expr) → Assign c l E e → Assign c l E (set x g e)
  unfolding Assign walkers assign_expr Res of_size Ok pr renc ends assign_to assign_token retrieve scope_of text_of has_token member go_on if◌then◌otherwise◌
  set-assign x g e asg zero b rest s k st p = tt
  set-assign x g e asg (suc d) b rest s k st p =
      let Q : Unit {0} → St → Type 0 = λ u. After c l E b (set x g e) rest s.nodes in
      and_then (levels c 7 (walkers c d).unary s) _ (λ u s₁. s₁ ≡ single-read s) Q (single-levels d b x (eq ∷ pr e rest) s k.0 (calm-eq (pr e rest)) p)
      (λ a s₁ e₁.
      rw e₁
      (yes-then _ _ _ (single-read s) Q (test (λ k. eqb k Eq) true (later p) refl)
      (rw (consume-eq (single-read s) (later p) refl)
      (and_then ((walkers c d).assign (stepped (single-read s))) _ (λ u. After c l E b e rest (node PrimaryExpr false 0 s.at ∷ s.nodes)) Q
      (asg d b rest (stepped (single-read s)) k.3 st (later (later p)))
      (λ a₂ s₃ h.
      yes-then _ _ _ s₃ Q (test (λ k. eqb k Ident) true p (at-kind (λ n. eqb n Ident ≡ true) x.kind Ident k.1 refl))
      (assign_var-ok s.at (find s₃.level (name_of (word_at c s.at)) s₃.syms) g s₃ Q
      (rw (now p) (sym (looks h.pre.stands (name_of x)) ∙ k.2))
      (λ i ei.
      let ef : find s₃.level (name_of x) s₃.syms ≡ some (Variable i g) = rw (now p) at ei in
      record {
        pre = h.pre;
        made = made-push (ap (lab VarAssignExpr g 2 0) (find-fair c s₃.level (name_of x) s₃.syms h.pre.stands.fair i g ef ∙ ident-name x k.1)) (made_then (made-single s p) h.made);
      })))))))

  -- an assignment to an element is read as it is
  mut-assign : (x : W) (i e : Expr) → Assign c l E i → Assign c l E e → Assign c l E (mut x i e)
  unfolding Assign walkers assign_expr Res of_size Ok pr renc ends assign_to assign_array set_nodes scope_of text_of has_token member Level go_on if◌then◌otherwise◌
  mut-assign x i e asi asg zero b rest s k st p = tt
  mut-assign x i e asi asg (suc d) b rest s k st p =
      let Q : Unit {0} → St → Type 0 = λ u. After c l E b (mut x i e) rest s.nodes in
      and_then (levels c 7 (walkers c d).unary s) _ (λ u. After c l E b (idx x i) (eq ∷ pr e rest) s.nodes) Q
      (by_call c l E (idx x i) (idx-unary x i asi) 7 d b (eq ∷ pr e rest) s (k.0, k.1) (calm-eq (pr e rest)) p)
      (λ a s₁ h₁.
      let nw : Newest c (bare ArrayAccess false 2) (renc i ++ (prim_lab x ∷ [])) s.nodes s₁.nodes = newest h₁.made in
      let et : top_of s₁.nodes ≡ nw.node' = ap (λ (z : List Node). top_of z) nw.nodes in
      let ek : (top_of s₁.nodes).kind ≡ ArrayAccess = ap (λ (z : Node). z.kind) et ∙ ap (λ (z : Lab). z.kind) nw.lab' in
      yes-then _ _ _ s₁ Q (test (λ k. eqb k Eq) true h₁.pre refl)
      (rw (consume-eq s₁ h₁.pre refl)
      (and_then ((walkers c d).assign (stepped s₁)) _ (λ u. After c l E (ends b i) e rest s₁.nodes) Q
      (asg d (ends b i) rest (stepped s₁) k.2 st (later h₁.pre))
      (λ a₂ s₃ h.
      no-else _ _ _ s₃ Q (at-kind (λ n. eqb n PrimaryExpr ≡ false) (top_of s₁.nodes).kind ArrayAccess ek refl)
      (yes-then _ _ _ s₃ Q (at-kind (λ n. eqb n ArrayAccess ≡ true) (top_of s₁.nodes).kind ArrayAccess ek refl)
      (push_ok c ArrayMutExpr false 3 0 _ Q
      (record {
        pre = h.pre;
        made =
            record {
              new = node ArrayMutExpr false 3 0 ∷ (h.made.new ++ nw.older);
              nodes = ap (λ (z : List Node). node ArrayMutExpr false 3 0 ∷ z) (taken_out h.made.new nw.older nw.node' s.nodes s₁.nodes s₃.nodes h.made.nodes nw.nodes);
              labs = ap (λ (z : List Lab). bare ArrayMutExpr false 3 ∷ z) (map-append (labelled c) h.made.new nw.older ∙ cc (h.made.labs, nw.labs));
            };
      })))))))

  -- what is proved of each list of expressions
  record Boths (es : Exprs) : Type 1 where
    all : Assigns es

  mutual
    unfolding height Assigns

    -- every expression is read as it is
    trip : (e : Expr) → Both c l E e
    trip (prim x) = both-low c l E (prim x) (by_call c l E (prim x) (prim-unary c l E x))
    trip (un o e) = both-low c l E (un o e) (by_call c l E (un o e) (un-unary c l E o e (trip e)))
    trip (bin o el er) =
        record {
          level = bin-level c l E o el er (trip el) (trip er);
          cps = λ n small. bin-cps c l E o el er (trip el) (trip er) n small (bin-level c l E o el er (trip el) (trip er) n (omega arith));
          assign = assign-low c l E (bin o el er) (bin-level c l E o el er (trip el) (trip er) 7 (omega arith) (loose-le o.kind));
        }
    trip (call x es) = both-low c l E (call x es) (by_call c l E (call x es) (call-unary x es (trips es).all))
    trip (dot x e) = both_high c l E (dot x e) (omega arith) (dot-assign x e (trip e).assign)
    trip (idx x e) = both-low c l E (idx x e) (by_call c l E (idx x e) (idx-unary x e (trip e).assign))
    trip (set x g e) = both_high c l E (set x g e) (omega arith) (set-assign x g e (trip e).assign)
    trip (mut x i e) = both_high c l E (mut x i e) (omega arith) (mut-assign x i e (trip i).assign (trip e).assign)

    -- every list of expressions is read as it is
    trips : (es : Exprs) → Boths es
    trips nil = record { all = tt }
    trips (more e es) = record { all = ((trip e).assign, (trips es).all) }

  -- COMPLETE, expressions: the words of an expression, and then what ends it, are read as that expression
  pub expression-read : (e : Expr) (d : ℕ) (b : Bool) (rest : List W) (s : St) → Ok (seen l E) b e → Stop rest → Ahead c l E b (pr e rest) s → Res ((walkers c d).assign s) (λ u. Got c l E (ends b e) (renc e) rest s.nodes)
  unfolding Assign
  expression-read e d b rest s k st p = (trip e).assign d b rest s k st p
