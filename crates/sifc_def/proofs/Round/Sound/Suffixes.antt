-- Soundness of expressions, the rest: what follows a primary expression, assignments, and all the counted calls.
use Prim.Native.Nat.{ℕ, zero, suc, ◌+◌, ◌-◌, ◌≤◌}
use Rattle.std.specs.Prelude.{◌≡◌, ◌&&◌, ◌||◌, not, leb, length}
use Rattle.std.proofs.Math.Path.{refl, ap, subst, subst₂}
use Rattle.std.proofs.Common.{sym, ap₂, ◌∙◌, arith}
use mathlib.Core.List.{List, [], ◌∷◌, ◌++◌}
use Rattle.std.proofs.Math.Option.{Option, none, some}
use Rattle.std.proofs.Math.Bool.{Bool, true, false}
use Rattle.std.proofs.Math.Nat.{zero-add}
use Rattle.std.proofs.Math.Dec.{T, eqb, eqb→eq, nleb→lt, le→leb}
use Rattle.sifc_word.specs.Base.{if◌then◌otherwise◌, member}
use Rattle.sifc_word.specs.Kind.{LeftParen, RightParen, LeftBracket, RightBracket, Eq, Period, Comma, Ident, Str, Eof}
use Rattle.sifc_word.specs.Reserved.{is_std_lib_fn}
use Rattle.sifc_def.specs.declared.What.{What}
use Rattle.sifc_def.specs.declared.What.TheVariants.{Placeholder, Function, Variable, Other}
use Rattle.sifc_def.specs.Ast.{TableAccess, ArrayAccess, ArrayMutExpr, FnCallExpr, VarAssignExpr, PrimaryExpr}
use Rattle.sifc_def.specs.State.{Node, node, Sym, Ctx, St, Void, go_on, W, name_of, tok_at, word_at, name_at, consume, expect, set_nodes}
use Rattle.sifc_def.specs.Symbols.{find, retrieve, set_check}
use Rattle.sifc_def.specs.Label.{Lab, lab, has_token, scope_of, text_of}
use Rattle.sifc_def.specs.Walk.{walkers}
use Rattle.sifc_def.specs.State.{add_error_w_pos}
use Rattle.sifc_def.specs.Expr.{Rec, fuel, levels, assign_var, assign_token, assign_array, assign_nothing, assign_to, separator, param_list, single, call_counted, call_declared, call_name, is_named, call_named, assign_expr, primary_expr, call_part, dot as dot_part, index as index_part, postfix, fn_call_expr}
use Rattle.sifc_def.specs.Typed.{Expr, call, dot, idx, set, mut, Exprs, nil, more, many, bare, prim_lab, renc, rencs, ends, endss, wants, seen, fine, callable, Ok, Oks, Said, Saids}
use Rattle.sifc_def.proofs.Round.{true_of, false_of, and_l, and_r, and_in, or_l, or_r, wants-erase, Stands, looks, find-fair, ident-name, map-append, labelled, Made, made_none, made_then, made-push, taken_out, Newest, newest, top_of, erase}
use Rattle.sifc_def.proofs.Round.Sound.{Win, win-then, win-map, win-any, win-if, made_at, pushed, checked, Kept, raise-sound, throw-sound, throw_past-sound, panic-sound, consume-sound, expect-sound, push-sound, Spelt, IsSingle, is-single, IsIndexed, is-indexed, Reads, Sound, levels_sound, SoundRec, unary-sound, primary-sound}

module _ (c : Ctx) (Good : W → Type 0) (good : (i : ℕ) → Good (word_at c i)) (l : ℕ) (E : List Sym) where
  -- an expression was read, as the sections above say it
  abbrev Rd : Bool → List Node → St → Type 0
  Rd b ns s = Reads c Good good l E b ns s

  -- nothing but the place changed, at this level and with these names
  abbrev Kp : Bool → List Node → St → Type 0
  Kp b ns s = Kept c l E b ns s

  -- ── arguments ──

  -- so many, after n
  pub record Args (b : Bool) (n : ℕ) (ns : List Node) (m : ℕ) (s : St) : Type 0 where
    pub exprs : Exprs
    pub num : m ≡ n + many exprs
    pub few : m ≤ 64
    pub fit : Oks (seen l E) b exprs
    pub words : Saids Good exprs
    pub made : Made c (rencs exprs) ns s.nodes
    pub inn : Stands c l E (endss b exprs) s

  -- no more arguments
  no-args : (b : Bool) (n : ℕ) (s : St) → n ≤ 64 → Stands c l E b s → Args b n s.nodes n s
  unfolding many Oks Said rencs endss
  no-args b n s few h = record { exprs = nil; num = omega arith; few = few; fit = tt; words = tt; made = made_none; inn = h }

  -- a comma, or none before `)`
  pub separator-sound : {b : Bool} (s : St) → Stands c l E b s → Win (separator c s) (λ u. Kp b s.nodes)
  unfolding separator Win if◌then◌otherwise◌ go_on
  separator-sound {b} s h = win-if (not (eqb (tok_at c s.at).kind RightParen)) _ _ s (λ u. Kp b s.nodes) (λ t₃. expect-sound c Comma s h) (λ t₃. record { inn = h; same_nodes = refl })

  -- param_list reads arguments; a trailing comma leaves no trace
  arguments_sound : (m : Void) → Sound c Good good l E m → (f n : ℕ) (b : Bool) (s : St) → n ≤ 64 → Stands c l E b s → Win (param_list c m f n s) (Args b n s.nodes)
  unfolding param_list Win many Oks Said rencs endss if◌then◌otherwise◌ go_on
  arguments_sound m is zero n b s few h = no-args b n s few h
  arguments_sound m is (suc f) n b s few h =
      let Q : ℕ → St → Type 0 = Args b n s.nodes in
      win-if (eqb (tok_at c s.at).kind RightParen) _ _ s Q (λ t. no-args b n s few h)
      (λ t.
      win-if (leb 64 n) _ _ s Q (λ t₁. throw-sound c _ s Q)
      (λ t₁.
      win-if (eqb (tok_at c s.at).kind Eof) _ _ s Q (λ t₂. throw-sound c _ s Q)
      (λ t₂.
      win-then (m s) _ (λ u. Rd b s.nodes) Q (is b s h)
      (λ a s₁ r₁.
      win-then (separator c s₁) _ (λ u. Kp (ends b r₁.expr) s₁.nodes) Q (separator-sound s₁ r₁.inn)
      (λ a₂ s₂ k₂.
      win-map (param_list c m f (suc n) s₂) (Args (ends b r₁.expr) (suc n) s₂.nodes) Q
      (arguments_sound m is f (suc n) (ends b r₁.expr) s₂ (nleb→lt 64 n t₁) k₂.inn)
      (λ k s₃ q.
      record {
        exprs = more r₁.expr q.exprs;
        num = q.num ∙ omega arith;
        few = q.few;
        fit = (r₁.fit, q.fit);
        words = (r₁.words, q.words);
        made = made_then (made_at k₂.same_nodes r₁.made) q.made;
        inn = q.inn;
      }))))))

  -- ── calls ──

  -- a call that passes has as many arguments as its name takes
  declared-sound : (i n : ℕ) (v : Option What) (s : St) (Q : Unit {0} → St → Type 0) → (T (wants v n) → Q tt (pushed FnCallExpr false (suc n) 0 s)) → Win (call_declared c i n v s) Q
  unfolding call_declared wants call_counted
  declared-sound i n none s Q h = throw_past-sound c _ s Q
  declared-sound i n (some Placeholder) s Q h = push-sound c FnCallExpr false (suc n) 0 s Q (h tt)
  declared-sound i n (some (Function m)) s Q h = win-if (eqb m n) _ _ s Q (λ k. push-sound c FnCallExpr false (suc n) 0 s Q (h k)) (λ k. throw-sound c _ s Q)
  declared-sound i n (some (Variable j g)) s Q h = win-if (eqb 0 n) _ _ s Q (λ k. push-sound c FnCallExpr false (suc n) 0 s Q (h k)) (λ k. throw-sound c _ s Q)
  declared-sound i n (some Other) s Q h = win-if (eqb 0 n) _ _ s Q (λ k. push-sound c FnCallExpr false (suc n) 0 s Q (h k)) (λ k. throw-sound c _ s Q)

  -- a call passed: its target is a single token that may be called
  record CallOk (target : Node) (n : ℕ) (s s' : St) : Type 0 where
    single' : T (eqb target.kind PrimaryExpr)
    fits : T (callable (seen l E) (word_at c target.pay) n)
    state : s' ≡ pushed FnCallExpr (is_std_lib_fn (name_at c target.pay)) (suc n) 0 s

  -- a call that passes the check of its name
  named-sound : (target : Node) (i n : ℕ) (s : St) (b : Bool) → n ≤ 64 → Stands c l E b s → Win (call_named c target i n s) (λ u. CallOk target n s)
  unfolding call_named call_name is_named callable retrieve Win if◌then◌otherwise◌ go_on
  named-sound target i n s b few h =
      let x : W = word_at c target.pay in
      let Q : Unit {0} → St → Type 0 = λ u. CallOk target n s in
      win-if (eqb target.kind PrimaryExpr && (eqb x.kind Ident || eqb x.kind Str)) _ _ s Q
      (λ t.
      let t₁ : T (eqb target.kind PrimaryExpr) = and_l (eqb target.kind PrimaryExpr) _ t in
      let t₂ : T (eqb x.kind Ident || eqb x.kind Str) = and_r (eqb target.kind PrimaryExpr) _ t in
      let t₃ : T (leb n 64) = le→leb n 64 few in
      win-if (is_std_lib_fn (name_of x)) _ _ s Q
      (λ k.
      push-sound c FnCallExpr true (suc n) 0 s Q
      (record { single' = t₁; fits = and_in (eqb x.kind Ident || eqb x.kind Str) _ t₂ (and_in (leb n 64) _ t₃ (or_l (is_std_lib_fn (name_of x)) _ k)); state = rw (true_of (is_std_lib_fn (name_of x)) k) refl }))
      (λ k.
      declared-sound target.pay n (find s.level (name_of x) s.syms) s Q
      (λ q.
      record {
        single' = t₁;
        fits =
            and_in (eqb x.kind Ident || eqb x.kind Str) _ t₂ (and_in (leb n 64) _ t₃
            (or_r (is_std_lib_fn (name_of x)) _ (rw (looks h (name_of x), wants-erase (find s.level (name_of x) s.syms) n) q)));
        state = rw (false_of (is_std_lib_fn (name_of x)) k) refl;
      })))
      (λ t. panic-sound c 3 i s Q)

  -- a single token's reading, once it is known for one
  record Single (b : Bool) (e : Expr) (ns : List Node) (s : St) : Type 0 where
    word' : W
    spells : word_at c (top_of s.nodes).pay ≡ word'
    fit : T (fine (seen l E) b word')
    words : Good word'
    made : Made c (prim_lab word' ∷ []) ns s.nodes
    same_check : ends b e ≡ b

  -- a reading whose newest node is a PrimaryExpr is one of a single token
  to-single : {b : Bool} {ns : List Node} (s : St) (r : Rd b ns s) → T (eqb (top_of s.nodes).kind PrimaryExpr) → Single b r.expr ns s
  unfolding Ok Said renc ends
  to-single {b} {ns} s r t =
      let q : IsSingle c r.expr (top_of s.nodes) = is-single c r.expr ns s.nodes r.made r.spelt t in
      record {
        word' = q.word';
        spells = q.spells;
        fit = subst (λ (z : Expr). Ok (seen l E) b z) q.is r.fit;
        words = subst (λ (z : Expr). Said Good z) q.is r.words;
        made = subst (λ (z : Expr). Made c (renc z) ns s.nodes) q.is r.made;
        same_check = ap (λ (z : Expr). ends b z) q.is;
      }

  -- `(` makes a call
  call_part-sound : (r : Rec) → SoundRec c Good good l E r → (b : Bool) (ns₀ : List Node) (s : St) → Rd b ns₀ s → Win (call_part c r (top_of s.nodes) s.at s) (λ u. Rd b ns₀)
  unfolding call_part Ok Said renc ends Spelt scope_of text_of has_token member if◌then◌otherwise◌
  call_part-sound r sr b ns₀ s rd =
      let e : Expr = rd.expr in
      let b₁ : Bool = ends b e in
      let target : Node = top_of s.nodes in
      let Q : Unit {0} → St → Type 0 = λ u. Rd b ns₀ in
      win-then (consume c s) _ (λ u. Kp b₁ s.nodes) Q (consume-sound c s rd.inn)
      (λ a s₁ h₁.
      win-then (param_list c r.assign (fuel c) 0 s₁) _ (Args b₁ 0 s₁.nodes) Q (arguments_sound r.assign sr.assign (fuel c) 0 b₁ s₁ (omega arith) h₁.inn)
      (λ m s₂ ar.
      win-then (expect c RightParen s₂) _ (λ u. Kp (endss b₁ ar.exprs) s₂.nodes) Q (expect-sound c RightParen s₂ ar.inn)
      (λ a₃ s₃ h₃.
      win-map (call_named c target s.at m s₃) (λ u. CallOk target m s₃) Q (named-sound target s.at m s₃ (endss b₁ ar.exprs) ar.few h₃.inn)
      (λ a₄ s₄ ck.
      let sg : Single b e ns₀ s = to-single s rd ck.single' in
      let x : W = sg.word' in
      let em : m ≡ many ar.exprs = ar.num ∙ zero-add (many ar.exprs) in
      record {
        expr = call x ar.exprs;
        fit = (sg.fit, subst₂ (λ (z : W) (k : ℕ). T (callable (seen l E) z k)) sg.spells em ck.fits, subst (λ (z : Bool). Oks (seen l E) z ar.exprs) sg.same_check ar.fit);
        words = (sg.words, ar.words);
        made =
            made_at (ap (λ (z : St). z.nodes) ck.state)
            (made-push (ap₂ (λ (z : Bool) (k : ℕ). bare FnCallExpr z (suc k)) (ap (λ (y : W). is_std_lib_fn (name_of y)) sg.spells) em)
            (made_then (made_at h₁.same_nodes sg.made) (made_at h₃.same_nodes ar.made)));
        spelt = tt;
        inn = subst₂ (λ (z : Bool) (y : St). Stands c l E (endss z ar.exprs) y) sg.same_check (sym ck.state) h₃.inn;
      }))))

  -- `.` makes a table access
  dot-sound : (r : Rec) → SoundRec c Good good l E r → (b : Bool) (ns₀ : List Node) (s : St) → Rd b ns₀ s → Win (dot_part c r (top_of s.nodes) s.at s) (λ u. Rd b ns₀)
  unfolding dot_part set_check single Win Ok Said renc ends Spelt scope_of text_of has_token member if◌then◌otherwise◌ go_on
  dot-sound r sr b ns₀ s rd =
      let e : Expr = rd.expr in
      let b₁ : Bool = ends b e in
      let target : Node = top_of s.nodes in
      let Q : Unit {0} → St → Type 0 = λ u. Rd b ns₀ in
      win-then (consume c s) _ (λ u. Kp b₁ s.nodes) Q (consume-sound c s rd.inn)
      (λ a s₁ h₁.
      win-then (r.assign (checked false s₁)) _ (λ u. Rd false s₁.nodes) Q (sr.assign false (checked false s₁) (record { level = h₁.inn.level; names = h₁.inn.names; fair = h₁.inn.fair; check = refl }))
      (λ a₂ s₂ r₂.
      win-then (single c target 4 s.at (checked true s₂)) _ (λ u s₃. (s₃ ≡ checked true s₂) × T (eqb target.kind PrimaryExpr)) Q
      (win-if (eqb target.kind PrimaryExpr) _ _ (checked true s₂) _ (λ k. (refl, k)) (λ k. panic-sound c 4 s.at (checked true s₂) _))
      (λ a₃ s₃ q.
      let sg : Single b e ns₀ s = to-single s rd q.1 in
      rw q.0
      (push-sound c TableAccess false 2 0 (checked true s₂) Q
      (record {
        expr = dot sg.word' r₂.expr;
        fit = (sg.fit, r₂.fit);
        words = (sg.words, r₂.words);
        made = made-push refl (made_then (made_at h₁.same_nodes sg.made) r₂.made);
        spelt = tt;
        inn = record { level = r₂.inn.level; names = r₂.inn.names; fair = r₂.inn.fair; check = refl };
      })))))

  -- `[` makes an index
  index-sound : (r : Rec) → SoundRec c Good good l E r → (b : Bool) (ns₀ : List Node) (s : St) → Rd b ns₀ s → Win (index_part c r (top_of s.nodes) s.at s) (λ u. Rd b ns₀)
  unfolding index_part single Win Ok Said renc ends Spelt scope_of text_of has_token member if◌then◌otherwise◌ go_on
  index-sound r sr b ns₀ s rd =
      let e : Expr = rd.expr in
      let b₁ : Bool = ends b e in
      let target : Node = top_of s.nodes in
      let Q : Unit {0} → St → Type 0 = λ u. Rd b ns₀ in
      win-then (consume c s) _ (λ u. Kp b₁ s.nodes) Q (consume-sound c s rd.inn)
      (λ a s₁ h₁.
      win-then (r.assign s₁) _ (λ u. Rd b₁ s₁.nodes) Q (sr.assign b₁ s₁ h₁.inn)
      (λ a₂ s₂ r₂.
      win-then (expect c RightBracket s₂) _ (λ u. Kp (ends b₁ r₂.expr) s₂.nodes) Q (expect-sound c RightBracket s₂ r₂.inn)
      (λ a₃ s₃ h₃.
      win-then (single c target 5 s.at s₃) _ (λ u s₄. (s₄ ≡ s₃) × T (eqb target.kind PrimaryExpr)) Q
      (win-if (eqb target.kind PrimaryExpr) _ _ s₃ _ (λ k. (refl, k)) (λ k. panic-sound c 5 s.at s₃ _))
      (λ a₄ s₄ q.
      let sg : Single b e ns₀ s = to-single s rd q.1 in
      rw q.0
      (push-sound c ArrayAccess false 2 0 s₃ Q
      (record {
        expr = idx sg.word' r₂.expr;
        fit = (sg.fit, subst (λ (z : Bool). Ok (seen l E) z r₂.expr) sg.same_check r₂.fit);
        words = (sg.words, r₂.words);
        made = made-push refl (made_then (made_at h₁.same_nodes sg.made) (made_at h₃.same_nodes r₂.made));
        spelt = tt;
        inn = subst (λ (z : Bool). Stands c l E (ends z r₂.expr) s₃) sg.same_check h₃.inn;
      }))))))

  -- what follows a primary expression makes an expression
  postfix-sound : (r : Rec) → SoundRec c Good good l E r → (b : Bool) (ns₀ : List Node) (s : St) → Rd b ns₀ s → Win (postfix c r (top_of s.nodes) s) (λ u. Rd b ns₀)
  unfolding postfix Win if◌then◌otherwise◌ go_on
  postfix-sound r sr b ns₀ s rd =
      let Q : Unit {0} → St → Type 0 = λ u. Rd b ns₀ in
      win-if (eqb (tok_at c s.at).kind LeftParen) _ _ s Q (λ t. call_part-sound r sr b ns₀ s rd)
      (λ t. win-if (eqb (tok_at c s.at).kind Period) _ _ s Q (λ t₁. dot-sound r sr b ns₀ s rd)
      (λ t₁. win-if (eqb (tok_at c s.at).kind LeftBracket) _ _ s Q (λ t₂. index-sound r sr b ns₀ s rd) (λ t₂. rd)))

  -- fn_call_expr reads expressions
  call-sound : (r : Rec) → SoundRec c Good good l E r → Sound c Good good l E (fn_call_expr c r)
  unfolding fn_call_expr go_on
  call-sound r sr b s h = win-then (primary_expr c r s) _ (λ u. Rd b s.nodes) (λ u. Rd b s.nodes) (primary-sound c Good good l E r sr b s h) (λ a s₁ r₁. postfix-sound r sr b s.nodes s₁ r₁)

  -- ── assignments ──

  -- an assignment that passes is one to a variable
  assign_var-sound : (i : ℕ) (v : Option What) (s : St) (Q : Unit {0} → St → Type 0) → ((j : ℕ) (g : Bool) → v ≡ some (Variable j g) → Q tt (pushed VarAssignExpr g 2 j s)) → Win (assign_var c i v s) Q
  unfolding assign_var
  assign_var-sound i none s Q h = throw-sound c _ s Q
  assign_var-sound i (some Placeholder) s Q h = throw-sound c _ s Q
  assign_var-sound i (some (Function n)) s Q h = throw-sound c _ s Q
  assign_var-sound i (some (Variable j g)) s Q h = push-sound c VarAssignExpr g 2 j s Q (h j g refl)
  assign_var-sound i (some Other) s Q h = throw-sound c _ s Q

  -- the target was read up to s, the value from s₂ to s₃
  token-sound : (b : Bool) (ns₀ : List Node) (s s₂ s₃ : St) (rd : Rd b ns₀ s) → s₂.nodes ≡ s.nodes → Rd (ends b rd.expr) s₂.nodes s₃ → T (eqb (top_of s.nodes).kind PrimaryExpr) → Win (assign_token c (top_of s.nodes).pay s₃) (λ u. Rd b ns₀)
  unfolding assign_token retrieve Ok Said renc ends Spelt scope_of text_of has_token member if◌then◌otherwise◌ go_on
  token-sound b ns₀ s s₂ s₃ rd en r₃ t =
      let e : Expr = rd.expr in
      let i : ℕ = (top_of s.nodes).pay in
      let x : W = word_at c i in
      let Q : Unit {0} → St → Type 0 = λ u. Rd b ns₀ in
      win-if (eqb x.kind Ident) _ _ s₃ Q
      (λ t₁.
      let sg : Single b e ns₀ s = to-single s rd t in
      assign_var-sound i (find s₃.level (name_of x) s₃.syms) s₃ Q
      (λ j g ev.
      let xk : x.kind ≡ Ident = eqb→eq x.kind Ident t₁ in
      record {
        expr = set x g r₃.expr;
        fit = (subst (λ (z : W). T (fine (seen l E) b z)) (sym sg.spells) sg.fit, xk, looks r₃.inn (name_of x) ∙ ap erase ev, subst (λ (z : Bool). Ok (seen l E) z r₃.expr) sg.same_check r₃.fit);
        words = (good i, r₃.words);
        made =
            made-push (ap (lab VarAssignExpr g 2 0) (find-fair c s₃.level (name_of x) s₃.syms r₃.inn.fair j g ev ∙ ident-name x xk))
            (made_then (made_at en (subst (λ (z : W). Made c (prim_lab z ∷ []) ns₀ s.nodes) (sym sg.spells) sg.made)) r₃.made);
        spelt = tt;
        inn = subst (λ (z : Bool). Stands c l E (ends z r₃.expr) s₃) sg.same_check r₃.inn;
      }))
      (λ t₁. throw-sound c _ s₃ Q)

  -- an assignment to an element
  array-sound : (b : Bool) (ns₀ : List Node) (s s₂ s₃ : St) (rd : Rd b ns₀ s) → s₂.nodes ≡ s.nodes → Rd (ends b rd.expr) s₂.nodes s₃ → T (eqb (top_of s.nodes).kind ArrayAccess) → Win (assign_array c (length s.nodes - 1) s₃) (λ u. Rd b ns₀)
  unfolding assign_array set_nodes Ok Said renc ends Spelt scope_of text_of has_token member if◌then◌otherwise◌ go_on
  array-sound b ns₀ s s₂ s₃ rd en r₃ t =
      let e : Expr = rd.expr in
      let q : IsIndexed c e = is-indexed c e ns₀ s.nodes rd.made t in
      let y : W = q.word' in
      let ix : Expr = q.index in
      let fit₁ : Ok (seen l E) b (idx y ix) = subst (λ (z : Expr). Ok (seen l E) b z) q.is rd.fit in
      let words₁ : Said Good (idx y ix) = subst (λ (z : Expr). Said Good z) q.is rd.words in
      let made₁ : Made c (renc (idx y ix)) ns₀ s.nodes = subst (λ (z : Expr). Made c (renc z) ns₀ s.nodes) q.is rd.made in
      let ec : ends b e ≡ ends b ix = ap (λ (z : Expr). ends b z) q.is in
      let nw : Newest c (bare ArrayAccess false 2) (renc ix ++ (prim_lab y ∷ [])) ns₀ s.nodes = newest made₁ in
      push-sound c ArrayMutExpr false 3 0 _ (λ u. Rd b ns₀)
      (record {
        expr = mut y ix r₃.expr;
        fit = (fit₁.0, fit₁.1, subst (λ (z : Bool). Ok (seen l E) z r₃.expr) ec r₃.fit);
        words = (words₁.0, words₁.1, r₃.words);
        made =
            record {
              new = node ArrayMutExpr false 3 0 ∷ (r₃.made.new ++ nw.older);
              nodes = ap (λ (z : List Node). node ArrayMutExpr false 3 0 ∷ z) (taken_out r₃.made.new nw.older nw.node' ns₀ s.nodes s₃.nodes (r₃.made.nodes ∙ ap (λ (z : List Node). r₃.made.new ++ z) en) nw.nodes);
              labs = ap (λ (z : List Lab). bare ArrayMutExpr false 3 ∷ z) (map-append (labelled c) r₃.made.new nw.older ∙ cc (r₃.made.labs, nw.labs));
            };
        spelt = tt;
        inn = subst (λ (z : Bool). Stands c l E (ends z r₃.expr) s₃) ec r₃.inn;
      })

  -- an assignment is to a variable or to an element
  assign_to-sound : (op : ℕ) (b : Bool) (ns₀ : List Node) (s s₂ s₃ : St) (rd : Rd b ns₀ s) → s₂.nodes ≡ s.nodes → Rd (ends b rd.expr) s₂.nodes s₃ → Win (assign_to c (top_of s.nodes) (length s.nodes - 1) op s₃) (λ u. Rd b ns₀)
  unfolding assign_to assign_nothing if◌then◌otherwise◌
  assign_to-sound op b ns₀ s s₂ s₃ rd en r₃ =
      let Q : Unit {0} → St → Type 0 = λ u. Rd b ns₀ in
      win-if (eqb (top_of s.nodes).kind PrimaryExpr) _ _ s₃ Q (λ t. token-sound b ns₀ s s₂ s₃ rd en r₃ t)
      (λ t. win-if (eqb (top_of s.nodes).kind ArrayAccess) _ _ s₃ Q (λ t₁. array-sound b ns₀ s s₂ s₃ rd en r₃ t₁)
      (λ t₁. win-then (add_error_w_pos c op _ s₃) _ (λ a s'. Unit {0}) Q (win-any (add_error_w_pos c op _ s₃)) (λ e s' k. raise-sound c e s' Q)))

  -- assign_expr reads expressions
  assign-sound : (r : Rec) → SoundRec c Good good l E r → Sound c Good good l E (assign_expr c r)
  unfolding assign_expr Win if◌then◌otherwise◌ go_on
  assign-sound r sr b s h =
      let Q : Unit {0} → St → Type 0 = λ u. Rd b s.nodes in
      win-then (levels c 7 r.unary s) _ Q Q (levels_sound c Good good l E 7 r.unary sr.unary b s h)
      (λ a s₁ r₁.
      let b₁ : Bool = ends b r₁.expr in
      win-if (eqb (tok_at c s₁.at).kind Eq) _ _ s₁ Q
      (λ t.
      win-then (consume c s₁) _ (λ u. Kp b₁ s₁.nodes) Q (consume-sound c s₁ r₁.inn)
      (λ a₂ s₂ h₂.
      win-then (r.assign s₂) _ (λ u. Rd b₁ s₂.nodes) Q (sr.assign b₁ s₂ h₂.inn)
      (λ a₃ s₃ r₃. assign_to-sound s₁.at b s.nodes s₁ s₂ s₃ r₁ h₂.same_nodes r₃)))
      (λ t. r₁))

  -- SOUND, expressions: what a counted call reads is an expression that is Ok, with these labels
  pub walkers-sound : (d : ℕ) → SoundRec c Good good l E (walkers c d)
  unfolding walkers Win
  walkers-sound zero = record { assign = λ b s h. tt; unary = λ b s h. tt; call = λ b s h. tt }
  walkers-sound (suc d) =
      let h : SoundRec c Good good l E (walkers c d) = walkers-sound d in
      record { assign = assign-sound (walkers c d) h; unary = unary-sound c Good good l E (walkers c d) h; call = call-sound (walkers c d) h }
