-- Soundness of declarations and statements, the parts: names, variables, arrays, tables, parameters.
use Prim.Native.Nat.{ℕ, zero, suc, ◌+◌, ◌≤◌}
use Rattle.std.specs.Prelude.{◌≡◌, not, leb, length}
use Rattle.std.proofs.Math.Path.{refl, sym, ap, subst}
use Rattle.std.proofs.Common.{◌∙◌}
use mathlib.Core.List.{List, [], ◌∷◌, map, reverse_aux}
use Rattle.std.proofs.Math.Option.{Option, none, some}
use Rattle.std.proofs.Math.Bool.{Bool, true, false}
use native.Mathlib.Omega.{arith}
use Rattle.std.proofs.Math.Nat.{zero-add}
use Rattle.std.proofs.Math.Dec.{T, eqb, eqb→eq, nleb→lt}
use Rattle.sifc_word.specs.Base.{if◌then◌otherwise◌, member}
use Rattle.sifc_word.specs.Kind.{RightParen, LeftBracket, RightBracket, Semicolon, Comma, EqArrow, DoubleLeftBracket, DoubleRightBracket, Ident, Eof}
use Rattle.sifc_def.specs.Why.{Why}
use Rattle.sifc_err.specs.declared.parse_err.ParseErrTy.TheVariants.{ExpectedIdent}
use Rattle.sifc_def.specs.declared.What.{What}
use Rattle.sifc_def.specs.declared.What.TheVariants.{Variable, Other}
use Rattle.sifc_def.specs.Ast.{VarDecl, ItemList, TableItem, Table, Array, ArrayItems, PrimaryExpr}
use Rattle.sifc_def.specs.State.{Node, node, Sym, Ctx, St, Void, go_on, W, tok_at, word_at, name_at, consume, add_error, expect, optional, ident, push}
use Rattle.sifc_def.specs.Symbols.{put_at, store}
use Rattle.sifc_def.specs.Label.{Lab, has_token, scope_of, text_of}
use Rattle.sifc_def.specs.Walk.{walkers}
use Rattle.sifc_def.specs.Expr.{Rec, fuel, separator, param_list}
use Rattle.sifc_def.specs.State.{match_ident, or_throw}
use Rattle.sifc_def.specs.Stmt.{bind, ident_node, param, declare_var, array_nodes, comma_list, array_decl, table_item, item_list, table_decl, initial}
use Rattle.sifc_def.specs.Typed.{Expr, Exprs, nil, more, many, Items, no_item, item, many_items, Stmt, var_expr, var_array, var_table, bare, said, renc, rencs, renc_names, renc_items, renc_array, global_at, renc_s, seen, Ok, Oks, OkItems, OkNames, bound, declared, stored, env_s, OkS, Said, Saids, SaidNames, SaidItems, SaidS}
use Rattle.sifc_def.proofs.Round.{erased, In, Stands, in-stored, ident-name, Made, made_none, made_then, made-push}
use Rattle.sifc_def.proofs.Round.Statements.{ends-true, other-not}
use Rattle.sifc_def.proofs.Round.Statements.Blocks.{prim_node}
use Rattle.sifc_def.proofs.Round.Sound.{Win, win-then, win-map, win-any, win-if, win-when, made_at, made-from, pushed, Kept, throw-sound, consume-sound, expect-sound, push-sound, Reads}
use Rattle.sifc_def.proofs.Round.Sound.Suffixes.{separator-sound, walkers-sound}

module _ (c : Ctx) where
  -- a token of the kind of a name was taken
  pub record Named (l : ℕ) (E : List Sym) (b : Bool) (ns : List Node) (i : ℕ) (s : St) : Type 0 where
    pub kind : (word_at c i).kind ≡ Ident
    pub kept : Kept c l E b ns s

  -- what match_ident found
  Matched : ℕ → List Sym → Bool → List Node → Option ℕ → St → Type 0
  Matched l E b ns none s = Unit {0}
  Matched l E b ns (some i) s = Named l E b ns i s

  -- match_ident finds a name
  match-sound : {l : ℕ} {E : List Sym} {b : Bool} (s : St) → Stands c l E b s → Win (match_ident c s) (Matched l E b s.nodes)
  unfolding match_ident Matched Win if◌then◌otherwise◌ go_on
  match-sound {l} {E} {b} s h =
      let Q : Option ℕ → St → Type 0 = Matched l E b s.nodes in
      win-if (eqb (tok_at c s.at).kind Ident) _ _ s Q
      (λ t. win-then (consume c s) _ (λ u. Kept c l E b s.nodes) Q (consume-sound c s h) (λ u s₁ k. record { kind = eqb→eq (tok_at c s.at).kind Ident t; kept = k }))
      (λ t. win-then (add_error c _ s) _ (λ e s₁. Unit {0}) Q (win-any (add_error c _ s)) (λ e s₁ k. tt))

  -- without a name the declaration fails
  or_throw-sound : (why : Why) (v : Option ℕ) (l : ℕ) (E : List Sym) (b : Bool) (ns : List Node) (s : St) → Matched l E b ns v s → Win (or_throw c why v s) (Named l E b ns)
  unfolding or_throw Matched Win
  or_throw-sound why none l E b ns s h = throw-sound c why s (Named l E b ns)
  or_throw-sound why (some i) l E b ns s h = h

  -- a name is taken, or the declaration fails
  pub ident-sound : (why : ℕ → Why) {l : ℕ} {E : List Sym} {b : Bool} (s : St) → Stands c l E b s → Win (ident c why s) (Named l E b s.nodes)
  unfolding ident go_on
  ident-sound why {l} {E} {b} s h = win-then (match_ident c s) _ (Matched l E b s.nodes) (Named l E b s.nodes) (match-sound s h) (λ v s₁ m. or_throw-sound (why s.at) v l E b s.nodes s₁ m)

  -- a name is stored
  pub store-sound : (i : ℕ) (w w₀ : What) {l : ℕ} {E : List Sym} {b : Bool} (s : St) → erased w ≡ w₀ → ((j : ℕ) (g : Bool) → w ≡ Variable j g → (word_at c j).text ≡ name_at c i) → Stands c l E b s → Win (store c i w s) (λ u. Kept c l (put_at l (name_at c i) w₀ E) b s.nodes)
  unfolding store Win
  store-sound i w w₀ {l} {E} {b} s e₀ f h =
      win-when (leb (length (put_at s.level (name_at c i) w s.syms)) c.sym_room) _ _ (λ u. Kept c l (put_at l (name_at c i) w₀ E) b s.nodes)
      (λ t. record { inn = subst (λ (v : What). In c l (put_at l (name_at c i) v E) b s.level (put_at s.level (name_at c i) w s.syms) s.check) e₀ (in-stored (name_at c i) w f h); same_nodes = refl })
      (λ t. tt)

  -- a name is stored as no variable
  pub other-sound : (i : ℕ) {l : ℕ} {E : List Sym} {b : Bool} (s : St) → Stands c l E b s → Win (store c i Other s) (λ u. Kept c l (put_at l (name_at c i) Other E) b s.nodes)
  unfolding erased
  other-sound i s h = store-sound i Other Other s refl (λ j g e. absurd (other-not j g e)) h

  -- names are bound in order
  pub bind-sound : (is : List ℕ) (l : ℕ) (E : List Sym) (b : Bool) (s : St) → Stands c l E b s → Win (bind c is s) (λ u. Kept c l (bound l (map (λ (i : ℕ). word_at c i) is) E) b s.nodes)
  unfolding bind bound Win
  bind-sound [] l E b s h = record { inn = h; same_nodes = refl }
  bind-sound (i ∷ is) l E b s h =
      let Q : Unit {0} → St → Type 0 = λ u. Kept c l (bound l (map (λ (j : ℕ). word_at c j) (i ∷ is)) E) b s.nodes in
      win-then (store c i Other s) _ (λ u. Kept c l (put_at l (name_at c i) Other E) b s.nodes) Q (other-sound i s h)
      (λ u s₁ k. win-map (bind c is s₁) (λ u. Kept c l (bound l (map (λ (j : ℕ). word_at c j) is) (put_at l (name_at c i) Other E)) b s₁.nodes) Q (bind-sound is l (put_at l (name_at c i) Other E) b s₁ k.inn) (λ u s₂ q. record { inn = q.inn; same_nodes = q.same_nodes ∙ k.same_nodes }))

  -- a token is taken or not: nothing but the place changes
  pub optional-sound : (k : ℕ) {l : ℕ} {E : List Sym} {b : Bool} (s : St) → Stands c l E b s → Win (optional c k s) (λ v. Kept c l E b s.nodes)
  unfolding optional Win if◌then◌otherwise◌ go_on
  optional-sound k {l} {E} {b} s h =
      win-if (eqb (tok_at c s.at).kind k) _ _ s (λ v. Kept c l E b s.nodes)
      (λ t. win-then (consume c s) _ (λ u. Kept c l E b s.nodes) (λ v. Kept c l E b s.nodes) (consume-sound c s h) (λ u s₁ q. q))
      (λ t. record { inn = h; same_nodes = refl })

  -- the end of var_decl
  pub record Declared (l : ℕ) (E : List Sym) (L : List Lab) (ns : List Node) (s : St) : Type 0 where
    pub made : Made c L ns s.nodes
    pub inn : Stands c l E true s

  -- a variable's node and name
  pub declare-sound : (i n : ℕ) (l : ℕ) (E : List Sym) (L : List Lab) (ns : List Node) (s : St) → (word_at c i).kind ≡ Ident → Made c L ns s.nodes → Stands c l E true s → Win (declare_var c i n s) (λ u. Declared l (declared l (word_at c i) E) (said VarDecl (global_at l) n (word_at c i) ∷ L) ns)
  unfolding declare_var declared global_at erased scope_of text_of has_token member if◌then◌otherwise◌ go_on
  declare-sound i n l E L ns s xk m h =
      let g : Bool = eqb s.level 0 in
      let eg : g ≡ eqb l 0 = ap (λ (z : ℕ). eqb z 0) h.level in
      let Q : Unit {0} → St → Type 0 = λ u. Declared l (put_at l (name_at c i) (Variable 0 (eqb l 0)) E) (said VarDecl (eqb l 0) n (word_at c i) ∷ L) ns in
      win-then (push c VarDecl g n i s) _ (λ u s₁. s₁ ≡ pushed VarDecl g n i s) Q (push-sound c VarDecl g n i s (λ u s₁. s₁ ≡ pushed VarDecl g n i s) refl)
      (λ u s₁ e₁.
      rw e₁
      (win-map (store c i (Variable i g) (pushed VarDecl g n i s)) (λ u. Kept c l (put_at l (name_at c i) (Variable 0 (eqb l 0)) E) true (node VarDecl g n i ∷ s.nodes)) Q
      (store-sound i (Variable i g) (Variable 0 (eqb l 0)) (pushed VarDecl g n i s) (ap (λ (z : Bool). Variable 0 z) eg) (λ j g' e. let ej : j ≡ i = cc in ap (λ (z : ℕ). (word_at c z).text) ej ∙ sym (ident-name (word_at c i) xk)) h)
      (λ u s₂ k. record { made = made_at k.same_nodes (made-push (ap (λ (z : Bool). said VarDecl z n (word_at c i)) eg) m); inn = k.inn })))

module _ (c : Ctx) (Good : W → Type 0) (good : (i : ℕ) → Good (word_at c i)) where
  -- an expression was read in a statement, over the nodes ns
  pub record Expressed (l : ℕ) (E : List Sym) (ns : List Node) (s : St) : Type 0 where
    pub expr : Expr
    pub fit : Ok (seen l E) true expr
    pub words : Said Good expr
    pub made : Made c (renc expr) ns s.nodes
    pub inn : Stands c l E true s

  -- the step reads expressions in statements
  abbrev pub ReadsExpr : Void → Type 0
  ReadsExpr m = (l : ℕ) (E : List Sym) (s : St) → Stands c l E true s → Win (m s) (λ u. Expressed l E s.nodes)

  -- assign_expr reads expressions in statements
  pub expr-sound : (d : ℕ) → ReadsExpr (walkers c d).assign
  expr-sound d l E s h =
      win-map ((walkers c d).assign s) (λ u. Reads c Good good l E true s.nodes) (λ u. Expressed l E s.nodes) ((walkers-sound c Good good l E d).assign true s h)
      (λ u s₁ r. record { expr = r.expr; fit = r.fit; words = r.words; made = r.made; inn = subst (λ (b : Bool). Stands c l E b s₁) (ends-true r.expr) r.inn })

  -- ── arrays ──

  -- the elements of an array, after n
  pub record Elements (l : ℕ) (E : List Sym) (n : ℕ) (ns : List Node) (m : ℕ) (s : St) : Type 0 where
    pub exprs : Exprs
    pub num : m ≡ n + many exprs
    pub fit : Oks (seen l E) true exprs
    pub words : Saids Good exprs
    pub made : Made c (rencs exprs) ns s.nodes
    pub inn : Stands c l E true s

  -- no more elements
  no-elements : (l : ℕ) (E : List Sym) (n : ℕ) (s : St) → Stands c l E true s → Elements l E n s.nodes n s
  unfolding many Oks Said rencs
  no-elements l E n s h = record { exprs = nil; num = omega arith; fit = tt; words = tt; made = made_none; inn = h }

  -- an element before others
  one_more : (l : ℕ) (E : List Sym) (n : ℕ) (ns : List Node) (s s₁ : St) (m : ℕ) → Expressed l E ns s → s₁.nodes ≡ s.nodes → (s₂ : St) → Elements l E (suc n) s₁.nodes m s₂ → Elements l E n ns m s₂
  unfolding many Oks Said rencs
  one_more l E n ns s s₁ m r e s₂ q =
      record {
        exprs = more r.expr q.exprs;
        num = q.num ∙ omega arith;
        fit = (r.fit, subst (λ (b : Bool). Oks (seen l E) b q.exprs) (sym (ends-true r.expr)) q.fit);
        words = (r.words, q.words);
        made = made_then (made_at e r.made) q.made;
        inn = q.inn;
      }

  -- the loop of array_decl reads elements; a trailing comma leaves no trace
  pub elements-sound : (r : Rec) → ReadsExpr r.assign → (f n l : ℕ) (E : List Sym) (s : St) → Stands c l E true s → Win (comma_list c RightBracket r.assign f n s) (Elements l E n s.nodes)
  unfolding comma_list Win if◌then◌otherwise◌ go_on
  elements-sound r re zero n l E s h = no-elements l E n s h
  elements-sound r re (suc f) n l E s h =
      let Q : ℕ → St → Type 0 = Elements l E n s.nodes in
      win-if (eqb (tok_at c s.at).kind RightBracket) _ _ s Q (λ t. no-elements l E n s h)
      (λ t. win-if (eqb (tok_at c s.at).kind Eof) _ _ s Q (λ t₁. throw-sound c _ s Q)
      (λ t₁.
      win-then (r.assign s) _ (λ u. Expressed l E s.nodes) Q (re l E s h)
      (λ u s₁ r₁.
      win-then (optional c Comma s₁) _ (λ v. Kept c l E true s₁.nodes) Q (optional-sound c Comma s₁ r₁.inn)
      (λ v s₂ k.
      win-if v _ _ s₂ Q
      (λ t₂. win-map (comma_list c RightBracket r.assign f (suc n) s₂) (Elements l E (suc n) s₂.nodes) Q (elements-sound r re f (suc n) l E s₂ k.inn) (λ m s₃ q. one_more l E n s.nodes s₁ s₂ m r₁ k.same_nodes s₃ q))
      (λ t₂. one_more l E n s.nodes s₁ s₂ (suc n) r₁ k.same_nodes s₂ (no-elements l E (suc n) s₂ k.inn))))))

  -- the nodes of an array
  array_nodes-sound : (i m : ℕ) (es : Exprs) (l : ℕ) (E : List Sym) (ns : List Node) (s : St) → m ≡ many es → Made c (rencs es) ns s.nodes → Stands c l E true s → Win (array_nodes c i m s) (λ u. Declared c l E (renc_array (word_at c i) es) ns)
  unfolding array_nodes renc_array rencs many Win scope_of text_of has_token member if◌then◌otherwise◌ go_on
  array_nodes-sound i m nil l E ns s em md h =
      win-if (eqb m 0) _ _ s (λ u. Declared c l E (renc_array (word_at c i) nil) ns)
      (λ t. push-sound c Array false 0 i s (λ u. Declared c l E (renc_array (word_at c i) nil) ns) (record { made = made-push refl md; inn = h }))
      (λ t. absurd (subst (λ (k : ℕ). T (not (eqb k 0))) em t))
  array_nodes-sound i m (more e es) l E ns s em md h =
      let Q : Unit {0} → St → Type 0 = λ u. Declared c l E (renc_array (word_at c i) (more e es)) ns in
      win-if (eqb m 0) _ _ s Q
      (λ t. absurd (let z : m ≡ 0 = eqb→eq m 0 t in let y : ⊥ = omega arith in y))
      (λ t.
      win-then (push c ArrayItems false m 0 s) _ (λ u. Declared c l E (bare ArrayItems false (suc (many es)) ∷ rencs (more e es)) ns) Q
      (push-sound c ArrayItems false m 0 s (λ u. Declared c l E (bare ArrayItems false (suc (many es)) ∷ rencs (more e es)) ns) (record { made = made-push (ap (λ (z : ℕ). bare ArrayItems false z) em) md; inn = h }))
      (λ u s₁ d. push-sound c Array false 1 i s₁ Q (record { made = made-push refl d.made; inn = d.inn })))

  -- what `initial` reads for the name at token i: the variable's declaration, without its own node and name
  pub record Valued (x : W) (l : ℕ) (E : List Sym) (ns : List Node) (s : St) : Type 0 where
    pub stmt : Stmt
    pub names : List Sym
    pub labs : List Lab
    pub renc-eq : renc_s l stmt ≡ said VarDecl (global_at l) 1 x ∷ labs
    pub env-eq : env_s l E stmt ≡ declared l x names
    pub fit : OkS l E stmt
    pub words : SaidS Good stmt
    pub made : Made c labs ns s.nodes
    pub inn : Stands c l names true s

  -- array_decl reads an array
  array-sound : (r : Rec) → ReadsExpr r.assign → (i l : ℕ) (E : List Sym) (s : St) → (word_at c i).kind ≡ Ident → Stands c l E true s → Win (array_decl c r i s) (λ u. Valued (word_at c i) l E s.nodes)
  unfolding array_decl renc_s env_s OkS SaidS stored
  array-sound r re i l E s xk h =
      let x : W = word_at c i in
      let Q : Unit {0} → St → Type 0 = λ u. Valued x l E s.nodes in
      win-then (expect c LeftBracket s) _ (λ u. Kept c l E true s.nodes) Q (expect-sound c LeftBracket s h)
      (λ u s₁ k₁.
      win-then (comma_list c RightBracket r.assign (fuel c) 0 s₁) _ (Elements l E 0 s₁.nodes) Q (elements-sound r re (fuel c) 0 l E s₁ k₁.inn)
      (λ m s₂ q.
      win-then (expect c RightBracket s₂) _ (λ u. Kept c l E true s₂.nodes) Q (expect-sound c RightBracket s₂ q.inn)
      (λ u s₃ k₃.
      win-then (expect c Semicolon s₃) _ (λ u. Kept c l E true s₃.nodes) Q (expect-sound c Semicolon s₃ k₃.inn)
      (λ u s₄ k₄.
      win-then (array_nodes c i m s₄) _ (λ u. Declared c l E (renc_array x q.exprs) s.nodes) Q
      (array_nodes-sound i m q.exprs l E s.nodes s₄ (q.num ∙ zero-add (many q.exprs)) (made_at (k₄.same_nodes ∙ k₃.same_nodes) (made-from k₁.same_nodes q.made)) k₄.inn)
      (λ u s₅ d.
      win-map (store c i Other s₅) (λ u. Kept c l (put_at l (name_at c i) Other E) true s₅.nodes) Q (other-sound c i s₅ d.inn)
      (λ u s₆ k₆.
      record {
        stmt = var_array x q.exprs;
        names = put_at l (name_at c i) Other E;
        labs = renc_array x q.exprs;
        renc-eq = refl;
        env-eq = refl;
        fit = (xk, q.fit);
        words = (good i, q.words);
        made = made_at k₆.same_nodes d.made;
        inn = k₆.inn;
      }))))))

  -- ── tables ──

  -- the items of a table, after n
  pub record Pairs (l : ℕ) (E : List Sym) (n : ℕ) (ns : List Node) (m : ℕ) (s : St) : Type 0 where
    pub pairs : Items
    pub num : m ≡ n + many_items pairs
    pub fit : OkItems (seen l E) pairs
    pub words : SaidItems Good pairs
    pub made : Made c (renc_items pairs) ns s.nodes
    pub inn : Stands c l E true s

  -- no more items
  no_pairs : (l : ℕ) (E : List Sym) (n : ℕ) (s : St) → Stands c l E true s → Pairs l E n s.nodes n s
  unfolding many_items OkItems SaidItems renc_items
  no_pairs l E n s h = record { pairs = no_item; num = omega arith; fit = tt; words = tt; made = made_none; inn = h }

  -- an item: its key and its value
  record OnePair (l : ℕ) (E : List Sym) (ns : List Node) (s : St) : Type 0 where
    key : ℕ
    expr : Expr
    name : (word_at c key).kind ≡ Ident
    fit : Ok (seen l E) true expr
    words : Said Good expr
    made : Made c (said TableItem false 1 (word_at c key) ∷ renc expr) ns s.nodes
    inn : Stands c l E true s

  -- a table's item is a name and an expression
  item-sound : (r : Rec) → ReadsExpr r.assign → (l : ℕ) (E : List Sym) (s : St) → Stands c l E true s → Win (table_item c r s) (λ u. OnePair l E s.nodes)
  unfolding table_item scope_of text_of has_token member if◌then◌otherwise◌
  item-sound r re l E s h =
      let Q : Unit {0} → St → Type 0 = λ u. OnePair l E s.nodes in
      win-then (ident c _ s) _ (Named c l E true s.nodes) Q (ident-sound c _ s h)
      (λ i s₁ k₁.
      win-then (expect c EqArrow s₁) _ (λ u. Kept c l E true s₁.nodes) Q (expect-sound c EqArrow s₁ k₁.kept.inn)
      (λ u s₂ k₂.
      win-then (r.assign s₂) _ (λ u. Expressed l E s₂.nodes) Q (re l E s₂ k₂.inn)
      (λ u s₃ q.
      push-sound c TableItem false 1 i s₃ Q
      (record { key = i; expr = q.expr; name = k₁.kind; fit = q.fit; words = q.words; made = made-push refl (made-from (k₂.same_nodes ∙ k₁.kept.same_nodes) q.made); inn = q.inn }))))

  -- an item before others
  one-pair : (l : ℕ) (E : List Sym) (n : ℕ) (ns : List Node) (s s₁ : St) (m : ℕ) → OnePair l E ns s → s₁.nodes ≡ s.nodes → (s₂ : St) → Pairs l E (suc n) s₁.nodes m s₂ → Pairs l E n ns m s₂
  unfolding many_items OkItems SaidItems renc_items
  one-pair l E n ns s s₁ m r e s₂ q =
      record {
        pairs = item (word_at c r.key) r.expr q.pairs;
        num = q.num ∙ omega arith;
        fit = (r.name, r.fit, q.fit);
        words = (good r.key, r.words, q.words);
        made = made_then (made_at e r.made) q.made;
        inn = q.inn;
      }

  -- the loop of item_list reads items; a trailing comma leaves no trace
  pub items-sound : (r : Rec) → ReadsExpr r.assign → (f n l : ℕ) (E : List Sym) (s : St) → Stands c l E true s → Win (comma_list c DoubleRightBracket (table_item c r) f n s) (Pairs l E n s.nodes)
  unfolding comma_list Win if◌then◌otherwise◌ go_on
  items-sound r re zero n l E s h = no_pairs l E n s h
  items-sound r re (suc f) n l E s h =
      let Q : ℕ → St → Type 0 = Pairs l E n s.nodes in
      win-if (eqb (tok_at c s.at).kind DoubleRightBracket) _ _ s Q (λ t. no_pairs l E n s h)
      (λ t. win-if (eqb (tok_at c s.at).kind Eof) _ _ s Q (λ t₁. throw-sound c _ s Q)
      (λ t₁.
      win-then (table_item c r s) _ (λ u. OnePair l E s.nodes) Q (item-sound r re l E s h)
      (λ u s₁ r₁.
      win-then (optional c Comma s₁) _ (λ v. Kept c l E true s₁.nodes) Q (optional-sound c Comma s₁ r₁.inn)
      (λ v s₂ k.
      win-if v _ _ s₂ Q
      (λ t₂. win-map (comma_list c DoubleRightBracket (table_item c r) f (suc n) s₂) (Pairs l E (suc n) s₂.nodes) Q (items-sound r re f (suc n) l E s₂ k.inn) (λ m s₃ q. one-pair l E n s.nodes s₁ s₂ m r₁ k.same_nodes s₃ q))
      (λ t₂. one-pair l E n s.nodes s₁ s₂ (suc n) r₁ k.same_nodes s₂ (no_pairs l E (suc n) s₂ k.inn))))))

  -- the items and their list's node
  record Itemed (l : ℕ) (E : List Sym) (ns : List Node) (s : St) : Type 0 where
    pairs : Items
    fit : OkItems (seen l E) pairs
    words : SaidItems Good pairs
    made : Made c (bare ItemList false (many_items pairs) ∷ renc_items pairs) ns s.nodes
    inn : Stands c l E true s

  -- item_list reads items
  item_list-sound : (r : Rec) → ReadsExpr r.assign → (l : ℕ) (E : List Sym) (s : St) → Stands c l E true s → Win (item_list c r s) (λ u. Itemed l E s.nodes)
  unfolding item_list scope_of text_of has_token member if◌then◌otherwise◌
  item_list-sound r re l E s h =
      win-then (comma_list c DoubleRightBracket (table_item c r) (fuel c) 0 s) _ (Pairs l E 0 s.nodes) (λ u. Itemed l E s.nodes) (items-sound r re (fuel c) 0 l E s h)
      (λ m s₁ q.
      push-sound c ItemList false m 0 s₁ (λ u. Itemed l E s.nodes)
      (record { pairs = q.pairs; fit = q.fit; words = q.words; made = made-push (ap (λ (z : ℕ). bare ItemList false z) (q.num ∙ zero-add (many_items q.pairs))) q.made; inn = q.inn }))

  -- table_decl reads a table
  table-sound : (r : Rec) → ReadsExpr r.assign → (i l : ℕ) (E : List Sym) (s : St) → (word_at c i).kind ≡ Ident → Stands c l E true s → Win (table_decl c r i s) (λ u. Valued (word_at c i) l E s.nodes)
  unfolding table_decl renc_s env_s OkS SaidS stored scope_of text_of has_token member if◌then◌otherwise◌
  table-sound r re i l E s xk h =
      let x : W = word_at c i in
      let Q : Unit {0} → St → Type 0 = λ u. Valued x l E s.nodes in
      win-then (expect c DoubleLeftBracket s) _ (λ u. Kept c l E true s.nodes) Q (expect-sound c DoubleLeftBracket s h)
      (λ u s₁ k₁.
      win-then (item_list c r s₁) _ (λ u. Itemed l E s₁.nodes) Q (item_list-sound r re l E s₁ k₁.inn)
      (λ u s₂ q.
      win-then (expect c DoubleRightBracket s₂) _ (λ u. Kept c l E true s₂.nodes) Q (expect-sound c DoubleRightBracket s₂ q.inn)
      (λ u s₃ k₃.
      win-then (push c Table false 1 i s₃) _ (λ u s₄. s₄ ≡ pushed Table false 1 i s₃) Q (push-sound c Table false 1 i s₃ (λ u s₄. s₄ ≡ pushed Table false 1 i s₃) refl)
      (λ u s₄ e₄.
      rw e₄
      (win-then (store c i Other (pushed Table false 1 i s₃)) _ (λ u. Kept c l (put_at l (name_at c i) Other E) true (node Table false 1 i ∷ s₃.nodes)) Q (other-sound c i (pushed Table false 1 i s₃) k₃.inn)
      (λ u s₅ k₅.
      win-map (expect c Semicolon s₅) (λ u. Kept c l (put_at l (name_at c i) Other E) true s₅.nodes) Q (expect-sound c Semicolon s₅ k₅.inn)
      (λ u s₆ k₆.
      record {
        stmt = var_table x q.pairs;
        names = put_at l (name_at c i) Other E;
        labs = said Table false 1 x ∷ bare ItemList false (many_items q.pairs) ∷ renc_items q.pairs;
        renc-eq = refl;
        env-eq = refl;
        fit = (xk, q.fit);
        words = (good i, q.words);
        made = made_at (k₆.same_nodes ∙ k₅.same_nodes) (made-push refl (made_at k₃.same_nodes (made-from k₁.same_nodes q.made)));
        inn = k₆.inn;
      })))))))

  -- ── the value of a variable ──

  -- the value of a variable is an array, a table or an expression
  pub initial-sound : (r : Rec) → ReadsExpr r.assign → (i l : ℕ) (E : List Sym) (s : St) → (word_at c i).kind ≡ Ident → Stands c l E true s → Win (initial c r i s) (λ u. Valued (word_at c i) l E s.nodes)
  unfolding initial renc_s env_s OkS SaidS if◌then◌otherwise◌ go_on
  initial-sound r re i l E s xk h =
      let x : W = word_at c i in
      let Q : Unit {0} → St → Type 0 = λ u. Valued x l E s.nodes in
      win-if (eqb (tok_at c s.at).kind LeftBracket) _ _ s Q (λ t. array-sound r re i l E s xk h)
      (λ t. win-if (eqb (tok_at c s.at).kind DoubleLeftBracket) _ _ s Q (λ t₁. table-sound r re i l E s xk h)
      (λ t₁.
      win-then (r.assign s) _ (λ u. Expressed l E s.nodes) Q (re l E s h)
      (λ u s₁ q.
      win-map (expect c Semicolon s₁) (λ u. Kept c l E true s₁.nodes) Q (expect-sound c Semicolon s₁ q.inn)
      (λ u s₂ k₂.
      record {
        stmt = var_expr x q.expr;
        names = E;
        labs = renc q.expr;
        renc-eq = refl;
        env-eq = refl;
        fit = (xk, q.fit);
        words = (good i, q.words);
        made = made_at k₂.same_nodes q.made;
        inn = k₂.inn;
      }))))

  -- ── names and their nodes ──

  -- a name was taken with its node
  pub record NameNode (l : ℕ) (E : List Sym) (ns : List Node) (i : ℕ) (s : St) : Type 0 where
    pub kind : (word_at c i).kind ≡ Ident
    pub nodes : s.nodes ≡ prim_node i ∷ ns
    pub inn : Stands c l E true s

  -- a name is taken with its node
  pub ident_node-sound : (l : ℕ) (E : List Sym) (s : St) → Stands c l E true s → Win (ident_node c s) (NameNode l E s.nodes)
  unfolding ident_node Win
  ident_node-sound l E s h =
      let Q : ℕ → St → Type 0 = NameNode l E s.nodes in
      win-then (ident c ExpectedIdent s) _ (Named c l E true s.nodes) Q (ident-sound c ExpectedIdent s h)
      (λ i s₁ k.
      win-then (push c PrimaryExpr false 0 i s₁) _ (λ u s₂. s₂ ≡ pushed PrimaryExpr false 0 i s₁) Q (push-sound c PrimaryExpr false 0 i s₁ (λ u s₂. s₂ ≡ pushed PrimaryExpr false 0 i s₁) refl)
      (λ u s₂ e₂. rw e₂ (record { kind = k.kind; nodes = ap (λ (ns : List Node). prim_node i ∷ ns) k.kept.same_nodes; inn = k.kept.inn })))

  -- parameters: their tokens, after n
  pub record Params (l : ℕ) (E : List Sym) (n : ℕ) (ns : List Node) (m : ℕ) (s : St) : Type 0 where
    pub toks : List ℕ
    pub num : m ≡ n + length toks
    pub few : m ≤ 64
    pub fit : OkNames (map (λ (i : ℕ). word_at c i) toks)
    pub words : SaidNames Good (map (λ (i : ℕ). word_at c i) toks)
    pub nodes : s.nodes ≡ reverse_aux (map prim_node toks) ns
    pub made : Made c (renc_names (map (λ (i : ℕ). word_at c i) toks)) ns s.nodes
    pub inn : Stands c l E true s

  -- no more parameters
  no-params : (l : ℕ) (E : List Sym) (n : ℕ) (s : St) → n ≤ 64 → Stands c l E true s → Params l E n s.nodes n s
  unfolding OkNames SaidNames renc_names
  no-params l E n s few h = record { toks = []; num = omega arith; few = few; fit = tt; words = tt; nodes = refl; made = made_none; inn = h }

  -- a parameter was taken with its node
  record ParamNode (l : ℕ) (E : List Sym) (ns : List Node) (s : St) : Type 0 where
    tok : ℕ
    node' : NameNode l E ns tok s

  -- param_list reads parameters; a trailing comma leaves no trace
  pub params-sound : (f n l : ℕ) (E : List Sym) (s : St) → n ≤ 64 → Stands c l E true s → Win (param_list c (param c) f n s) (Params l E n s.nodes)
  unfolding param_list param OkNames SaidNames renc_names Win scope_of text_of has_token member if◌then◌otherwise◌ go_on
  params-sound zero n l E s few h = no-params l E n s few h
  params-sound (suc f) n l E s few h =
      let Q : ℕ → St → Type 0 = Params l E n s.nodes in
      win-if (eqb (tok_at c s.at).kind RightParen) _ _ s Q (λ t. no-params l E n s few h)
      (λ t. win-if (leb 64 n) _ _ s Q (λ t₁. throw-sound c _ s Q)
      (λ t₁. win-if (eqb (tok_at c s.at).kind Eof) _ _ s Q (λ t₂. throw-sound c _ s Q)
      (λ t₂.
      win-then (param c s) _ (λ u. ParamNode l E s.nodes) Q
      (win-then (ident_node c s) _ (NameNode l E s.nodes) (λ u. ParamNode l E s.nodes) (ident_node-sound l E s h) (λ i s₁ k. record { tok = i; node' = k }))
      (λ u s₁ o.
      let i : ℕ = o.tok in
      win-then (separator c s₁) _ (λ u. Kept c l E true s₁.nodes) Q (separator-sound c Good good l E s₁ o.node'.inn)
      (λ u s₂ k₂.
      win-map (param_list c (param c) f (suc n) s₂) (Params l E (suc n) s₂.nodes) Q (params-sound f (suc n) l E s₂ (nleb→lt 64 n t₁) k₂.inn)
      (λ m s₃ q.
      let en : s₂.nodes ≡ prim_node i ∷ s.nodes = k₂.same_nodes ∙ o.node'.nodes in
      record {
        toks = i ∷ q.toks;
        num = q.num ∙ omega arith;
        few = q.few;
        fit = (o.node'.kind, q.fit);
        words = (good i, q.words);
        nodes = q.nodes ∙ ap (λ (ns : List Node). reverse_aux (map prim_node q.toks) ns) en;
        made = made_then (made-push refl made_none) (made-from en q.made);
        inn = q.inn;
      }))))))
