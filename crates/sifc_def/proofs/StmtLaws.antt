-- Declarations and statements: where one is read, the walk has moved on and the nodes have one tree more. New nodes, twice the new symbols, and new errors stay
-- below what was taken: tokens for the first two, the tokens' worth for the errors.
use Prim.Native.Nat.{ℕ, zero, suc, ◌+◌, ◌-◌, ◌*◌, ◌≤◌, ◌<◌}
use mathlib.Core.List.{List, [], ◌∷◌, map, reverse}
use Rattle.std.specs.Prelude.{Bool, ◌||◌, ◌&&◌, not, ◌⊎◌, ◌≡◌, T, leb, ltb, length, get_or, take}
use Rattle.std.proofs.Math.Bool.{true, false}
use Rattle.std.proofs.Math.Logic.{inl, inr}
use Rattle.std.proofs.Math.Path.{refl}
use Rattle.std.proofs.Common.{subst, length-take, eqb-true}
use native.Mathlib.Omega.{arith}
use Rattle.std.proofs.Math.Dec.{eqb}
use Rattle.std.proofs.lemmas.List.{length-reverse, length-map}
use Rattle.std.proofs.lemmas.Bool.{eqb-false}
use Rattle.sifc_word.specs.Base.{member}
use Rattle.sifc_word.specs.Kind.{LeftParen, RightParen, LeftBrace, RightBrace, LeftBracket, RightBracket, Semicolon, Eq, Comma, EqArrow, DoubleLeftBracket, DoubleRightBracket, Var, Fn, Return, If, Elif, Else, For, In, Eof}
use Rattle.sifc_def.specs.Why.{Why}
use Rattle.sifc_err.specs.declared.parse_err.ParseErrTy.TheVariants.{InvalidIdent, InvalidTknMsg, InvalidIfStmt, ExpectedIdent}
use Rattle.sifc_def.specs.declared.What.TheVariants.{Placeholder, Function, Other}
use Rattle.sifc_def.specs.Ast.{Block, IfStmt, ElifStmt, ForStmt, ReturnStmt, ExprStmt, VarDecl, FnDecl, FnParams, IdentPair, ItemList, TableItem, Table, Array, ArrayItems, PrimaryExpr}
use Rattle.sifc_def.specs.State.{Node, node, Sym, err, tok_at, Ctx, St, done, M, Void, go_on, expect, ident, push, add_error}
use Rattle.sifc_def.specs.Symbols.{store, set_level, init_scope, close_scope}
use Rattle.sifc_def.specs.Expr.{Rec}
use Rattle.sifc_def.specs.Stmt.{bind, with_return, ident_node, param, ident_pair, declare_var, array_nodes, end_if, comma_list, array_decl, table_item, item_list, table_decl, initial, var_decl, fn_decl, elif_stmt, else_block, branches, if_stmt, for_stmt, ret_stmt, expr_stmt, stmt, decl, decls, block}
use Rattle.sifc_def.proofs.OutcomeLaws.{Holds, by-test, is-done, branch, call, inner, last}
use Rattle.sifc_def.proofs.GroveLaws.{Fit, Grows, Kept, keeping, grows_none, grows-as, grows_then, grows-over}
use Rattle.sifc_def.proofs.StepLaws.{Toks, Well, clash, kind_at, well-nodes, well-level, moved, pushed, stored, with_err, other, Next, Stored, keyword, consumes, expects, expects-or, takes, optionals, pushes, stores, throws, lists, idents, expect-last, push-last, store-last}
use Rattle.sifc_def.proofs.ExprLaws.{Reads, Fell, ItemOf, Item, params-read}

module _ (c : Ctx) (b : ℕ → ℕ) where
  -- from s to s', with k tokens to spare for nodes, y for symbols (beyond m names that are given), and x for errors
  pub record Counts (k y x m : ℕ) (s s' : St) : Type 0 where
    pub worth : b s.at + s'.at ≤ b s'.at + s.at
    pub few : k + (length s'.nodes + s.at) ≤ length s.nodes + s'.at
    pub names : y + (2 * length s'.syms + s.at) ≤ 2 * (m + length s.syms) + s'.at
    pub errors : x + (length s'.errs + b s.at) ≤ length s.errs + b s'.at
    pub level : s'.level ≡ s.level

  -- n trees were read, and at least j tokens
  pub record Does (j k y x m n : ℕ) (s s' : St) : Type 0 where
    pub well : Well c s'
    pub on : j + s.at ≤ s'.at
    pub counts : Counts k y x m s s'
    pub grows : Grows (length c.toks) n s.nodes s'.nodes

  -- the same of a failure, which has listed at most e errors beyond their worth
  pub record Falls (e m : ℕ) (s s' : St) : Type 0 where
    pub on : s.at ≤ s'.at
    pub worth : b s.at + s'.at ≤ b s'.at + s.at
    pub few : length s'.nodes + s.at ≤ length s.nodes + s'.at
    pub names : 2 * length s'.syms + s.at ≤ 2 * (m + length s.syms) + s'.at
    pub errors : length s'.errs + b s.at ≤ e + (length s.errs + b s'.at)
    pub level : s'.level + s.at ≤ s.level + s'.at

  pub record Broke (j e m : ℕ) (s s' : St) : Type 0 where
    pub well : Well c s'
    pub moved : (j + s.at ≤ s'.at) ⊎ (eqb (kind_at c s') Eof ≡ true)
    pub kept : Kept s.nodes s'.nodes
    pub falls : Falls e m s s'

  -- a declaration, which does not begin at Eof
  abbrev pub Decl : Void → Type 0
  Decl m = (s : St) → Well c s → eqb (kind_at c s) Eof ≡ false → Holds (m s) (λ u s'. Does 1 0 0 0 0 1 s s') (λ s'. Broke 1 0 0 s s')

  -- a block that fails has moved on if it began with `{`
  pub record BlockBroke (m : ℕ) (s s' : St) : Type 0 where
    pub broke : Broke 0 0 m s s'
    pub begun : eqb (kind_at c s) LeftBrace ≡ true → suc s.at ≤ s'.at

  -- what the counted calls do
  pub record Good (r : Rec) : Type 0 where
    pub assign : Item c b r.assign
    pub unary : Item c b r.unary
    pub call : Item c b r.call
    pub block : (body : Bool) (names : List ℕ) (s : St) → Well c s → Holds (r.block body names s) (λ u s'. Does 2 0 2 0 (length names) 1 s s') (λ s'. BlockBroke (length names) s s')

module _ (c : Ctx) (b : ℕ → ℕ) (ts : Toks c b) where
  fit : {k n p : ℕ} {g : Bool} → T (not (eqb k 18) || eqb n 2) → T (leb k 24) → p < length c.toks → Fit (length c.toks) (node k g n p)
  fit a k p = record { arity = a; known = k; pay = p }

  -- ── names ──

  -- the state after a name was missed
  abbrev missed : (ℕ → Why) → St → St
  missed y s = with_err (err s.at (y s.at)) (with_err (err s.at (InvalidIdent s.at)) s)

  -- the state after a name and its node
  abbrev named : St → St
  named s = pushed (node PrimaryExpr false 0 s.at) (moved s)

  module _ {A : Type 0} {P : A → St → Type 0} {Q : St → Type 0} where
    id-nodes : (s : St) (f : ℕ → M A) → Well c s → (Well c (missed ExpectedIdent s) → Q (missed ExpectedIdent s)) → (Next c b ts s → Holds (f s.at (named s)) P Q) → Holds (go_on (ident_node c s) f) P Q
    unfolding ident_node go_on
    id-nodes s f w q h =
        inner (ident c ExpectedIdent s) (λ i s'. go_on (push c PrimaryExpr false 0 i s') (λ u s''. done i s'')) f
        (idents c b ts ExpectedIdent s (λ i s'. go_on (go_on (push c PrimaryExpr false 0 i s') (λ u s''. done i s'')) f) w (record { place = w.here; first = inl w.here; second = omega arith }) q
        (λ n e. inner (push c PrimaryExpr false 0 s.at (moved s)) (λ u s''. done s.at s'') f (pushes c b ts PrimaryExpr false 0 s.at (moved s) (λ u s''. f s.at s'') (h n))))

    -- bind: at most one symbol for each name
    binds : (is : List ℕ) (s : St) (f : Unit {0} → M A) → Well c s → ((xs : List Sym) → Well c (stored xs s) → length xs ≤ length is + length s.syms → Holds (f tt (stored xs s)) P Q) → Holds (go_on (bind c is s) f) P Q
    unfolding bind go_on
    binds [] s f w h = h s.syms w (omega arith)
    binds (i ∷ is) s f w h =
        inner (store c i Other s) (λ u. bind c is) f (stores c b ts i Other s (λ u s'. go_on (bind c is s') f) w tt
        (λ xs n. binds is (stored xs s) f n.well (λ ys v l. h ys v (omega (arith, n.more)))))

    returns : (body : Bool) (n : ℕ) (s : St) (f : ℕ → M A) → Holds (f n s) P Q → Holds (f (suc n) (pushed (node ReturnStmt false 0 0) s)) P Q → Holds (go_on (with_return c body n s) f) P Q
    unfolding with_return go_on
    returns false n s f h g = h
    returns true n s f h g =
        by-test (ltb 0 n && eqb (get_or s.nodes 0 (node 0 false 0 0)).kind ReturnStmt) _ _ (λ (m : M ℕ). Holds (go_on (m s) f) P Q) (λ e. h)
        (λ e. inner (push c ReturnStmt false 0 0 s) (λ u s'. done (suc n) s') f (pushes c b ts ReturnStmt false 0 0 s (λ u s'. f (suc n) s') g))

    arrays : (i n : ℕ) (s : St) (f : Unit {0} → M A) → (n ≡ 0 → Holds (f tt (pushed (node Array false 0 i) s)) P Q)
        → Holds (f tt (pushed (node Array false 1 i) (pushed (node ArrayItems false n 0) s))) P Q → Holds (go_on (array_nodes c i n s) f) P Q
    unfolding array_nodes go_on
    arrays i n s f h g =
        by-test (eqb n 0) _ _ (λ (m : Void). Holds (go_on (m s) f) P Q) (λ e. pushes c b ts Array false 0 i s f (h (eqb-true n 0 e)))
        (λ e. inner (push c ArrayItems false n 0 s) (λ u. push c Array false 1 i) f (pushes c b ts ArrayItems false n 0 s (λ u s'. go_on (push c Array false 1 i s') f) (pushes c b ts Array false 1 i _ f g)))

  declares : {P : Unit {0} → St → Type 0} {Q : St → Type 0} (i n : ℕ) (s : St) → Well c s → i < length c.toks
      → ((g : Bool) (xs : List Sym) → Stored c b ts (pushed (node VarDecl g n i) s) xs → P tt (stored xs (pushed (node VarDecl g n i) s))) → Holds (declare_var c i n s) P Q
  unfolding declare_var go_on
  declares i n s w l h = pushes c b ts VarDecl (eqb s.level 0) n i s _ (store-last c b ts i _ _ (well-nodes _ _ w) l (λ xs m. h (eqb s.level 0) xs m))

  pub param-reads : ItemOf c b 0 2 (param c)
  unfolding param go_on
  param-reads s w =
      id-nodes s _ w (λ v. record { well = v; moved = inl (omega arith); kept = search keeping; slips = omega arith })
      (λ n. is-done (record {
        well = well-nodes _ _ n.well;
        on = omega arith;
        sums = omega (arith, n.gain);
        grows = grows-over _ 0 (fit tt tt w.here) refl (grows_none s.nodes);
      }))

  -- ── lists with commas ──

  -- after n₀ items, n: each is a tree
  pub record Items (n₀ n : ℕ) (s s' : St) : Type 0 where
    pub count : ℕ
    pub is : n ≡ count + n₀
    pub reads : Reads c b 0 0 count s s'

  pub commas-read : (close j e : ℕ) → 1 ≤ e → (item : Void) → ItemOf c b j e item → (f n₀ : ℕ) (s : St) → Well c s → Holds (comma_list c close item f n₀ s) (λ n s'. Items n₀ n s s') (λ s'. Fell c b 0 e s s')
  unfolding comma_list go_on
  commas-read close j e l item h zero n₀ s w = is-done (record { count = 0; is = omega arith; reads = record { well = w; on = omega arith; sums = omega arith; grows = grows_none s.nodes } })
  commas-read close j e l item h (suc f) n₀ s w =
      branch _ _ _ s (λ k. is-done (record { count = 0; is = omega arith; reads = record { well = w; on = omega arith; sums = omega arith; grows = grows_none s.nodes } }))
      (λ k. branch _ _ _ s (λ z. throws c b ts _ s w (record { place = w.here; first = inr (omega arith); second = omega arith }) (λ v. record { well = v; moved = inl (omega arith); kept = search keeping; slips = omega arith }))
      (λ z. call (h s w) (λ s' y. record { well = y.well; moved = inl (omega arith); kept = search keeping; slips = omega arith }) (λ a s₁ y.
      optionals c b ts Comma s₁ _ y.well refl
      (λ n p. branch _ _ _ (moved s₁) (λ q. last (commas-read close j e l item h f (suc n₀) (moved s₁) n.well) (λ s' v. record { well = v.well; moved = inl (omega arith); kept = search keeping; slips = omega (arith, n.gain) })
      (λ i s' v. record { count = suc v.count; is = omega (arith, v.is); reads = record { well = v.reads.well; on = omega arith; sums = omega (arith, n.gain); grows = grows-as (omega arith) (grows_then y.grows v.reads.grows) } }))
      (λ q. absurd (clash refl q)))
      (λ p. branch _ _ _ s₁ (λ q. absurd (clash q refl)) (λ q. is-done (record { count = 1; is = omega arith; reads = record { well = y.well; on = omega arith; sums = omega arith; grows = y.grows } }))))))

  -- ── the statements, over good counted calls ──

  -- what does not begin at Eof and has moved on or stands at Eof has moved on
  pub moved_on : (s s' : St) → s.at ≤ s'.at → eqb (kind_at c s) Eof ≡ false → (1 + s.at ≤ s'.at) ⊎ (eqb (kind_at c s') Eof ≡ true) → 1 + s.at ≤ s'.at
  moved_on s s' on e (inl h) = h
  moved_on s s' on e (inr q) = go (eqb s.at s'.at) refl
    where
      go : (x : Bool) → eqb s.at s'.at ≡ x → 1 + s.at ≤ s'.at
      go true p = absurd (clash q (subst (λ (i : ℕ). eqb (tok_at c i).kind Eof ≡ false) (eqb-true s.at s'.at p) e))
      go false p = let h : s.at ≡ s'.at → ⊥ = eqb-false s.at s'.at p in omega arith

  module _ (r : Rec) (g : Good c b r) where
    array-does : (i : ℕ) (s : St) → i < length c.toks → Well c s → eqb (kind_at c s) LeftBracket ≡ true → Holds (array_decl c r i s) (λ u s'. Does c b 1 1 1 0 0 1 s s') (λ s'. Broke c b 1 2 0 s s')
    unfolding array_decl go_on
    array-does i s l w e =
        takes c b ts LeftBracket s _ w refl e (λ n.
        call (commas-read RightBracket 1 1 (omega arith) r.assign g.assign _ 0 (moved s) n.well) (λ s' y. record { well = y.well; moved = inl (omega arith); kept = search keeping; falls = omega (arith, n.gain) }) (λ k s₁ y.
        expects c b ts RightBracket s₁ _ y.reads.well refl (record { well = y.reads.well; moved = inl (omega arith); kept = search keeping; falls = omega (arith, n.gain) }) (λ m p.
        expects c b ts Semicolon (moved s₁) _ m.well refl (record { well = m.well; moved = inl (omega arith); kept = search keeping; falls = omega (arith, n.gain, m.gain) }) (λ o q.
        arrays i k _ _
        (λ z. store-last c b ts i Other _ (well-nodes _ _ o.well) tt (λ xs v. record {
          well = v.well;
          on = omega arith;
          counts = omega (arith, n.gain, m.gain, o.gain, v.more);
          grows = grows-over _ 0 (fit tt tt l) (omega (arith, y.is)) y.reads.grows;
        }))
        (store-last c b ts i Other _ (well-nodes _ _ o.well) tt (λ xs v. record {
          well = v.well;
          on = omega arith;
          counts = omega (arith, n.gain, m.gain, o.gain, v.more);
          grows = grows-over _ 0 (fit tt tt l) refl (grows-over _ 0 (fit tt tt (omega (arith, w.here))) (omega (arith, y.is)) y.reads.grows);
        }))))))

    table-item-reads : ItemOf c b 0 2 (table_item c r)
    unfolding table_item go_on
    table-item-reads s w =
        idents c b ts (λ i. InvalidTknMsg 3) s _ w (record { place = w.here; first = inr (omega arith); second = omega arith }) (λ v. record { well = v; moved = inl (omega arith); kept = search keeping; slips = omega arith }) (λ n e.
        expects c b ts EqArrow (moved s) _ n.well refl (record { well = n.well; moved = inl (omega arith); kept = search keeping; slips = omega (arith, n.gain) }) (λ m p.
        call (g.assign (moved (moved s)) m.well) (λ s' y. record { well = y.well; moved = inl (omega arith); kept = search keeping; slips = omega (arith, n.gain, m.gain) }) (λ u s₁ y.
        push-last c b ts TableItem false 1 s.at s₁ (record {
          well = well-nodes _ _ y.well;
          on = omega arith;
          sums = omega (arith, n.gain, m.gain);
          grows = grows-over _ 0 (fit tt tt w.here) refl y.grows;
        }))))

    table_does : (i : ℕ) (s : St) → i < length c.toks → Well c s → eqb (kind_at c s) DoubleLeftBracket ≡ true → Holds (table_decl c r i s) (λ u s'. Does c b 1 1 1 0 0 1 s s') (λ s'. Broke c b 1 2 0 s s')
    unfolding table_decl item_list go_on
    table_does i s l w e =
        takes c b ts DoubleLeftBracket s _ w refl e (λ n.
        inner (comma_list c DoubleRightBracket (table_item c r) (length c.toks) 0 (moved s)) (λ k. push c ItemList false k 0) _
        (call (commas-read DoubleRightBracket 0 2 (omega arith) (table_item c r) table-item-reads _ 0 (moved s) n.well) (λ s' y. record { well = y.well; moved = inl (omega arith); kept = search keeping; falls = omega (arith, n.gain) }) (λ k s₁ y.
        pushes c b ts ItemList false k 0 s₁ _ (
        expects c b ts DoubleRightBracket _ _ (well-nodes _ _ y.reads.well) refl (record { well = well-nodes _ _ y.reads.well; moved = inl (omega arith); kept = search keeping; falls = omega (arith, n.gain) }) (λ m p.
        pushes c b ts Table false 1 i _ _ (
        stores c b ts i Other _ _ (well-nodes _ _ m.well) tt (λ xs v.
        expect-last c b ts Semicolon _ v.well refl (record { well = v.well; moved = inl (omega arith); kept = search keeping; falls = omega (arith, n.gain, m.gain, v.more) }) (λ o q. record {
          well = o.well;
          on = omega arith;
          counts = omega (arith, n.gain, m.gain, o.gain, v.more);
          grows = grows-over _ 0 (fit tt tt l) refl (grows-over _ 0 (fit tt tt (omega (arith, w.here))) (omega (arith, y.is)) y.reads.grows);
        }))))))))

    initial-does : (i : ℕ) (s : St) → i < length c.toks → Well c s → Holds (initial c r i s) (λ u s'. Does c b 1 1 1 0 0 1 s s') (λ s'. Broke c b 1 2 0 s s')
    unfolding initial go_on
    initial-does i s l w =
        branch _ _ _ s (λ e. array-does i s l w e)
        (λ e₁. branch _ _ _ s (λ e. table_does i s l w e)
        (λ e₂. call (g.assign s w) (λ s' y. record { well = y.well; moved = y.moved; kept = search keeping; falls = omega arith }) (λ u s₁ y.
        expect-last c b ts Semicolon s₁ y.well refl (record { well = y.well; moved = inl (omega arith); kept = search keeping; falls = omega arith })
        (λ n p. record { well = n.well; on = omega arith; counts = omega (arith, n.gain); grows = y.grows }))))

    var-does : (s : St) → Well c s → eqb (kind_at c s) Var ≡ true → Holds (var_decl c r s) (λ u s'. Does c b 1 0 0 0 0 1 s s') (λ s'. Broke c b 1 0 0 s s')
    unfolding var_decl go_on member
    var-does s w e =
        takes c b ts Var s _ w refl e (λ n.
        let two : suc (suc (b s.at)) ≤ b (suc s.at) = keyword c b ts Var s e tt n in
        idents c b ts ExpectedIdent (moved s) _ n.well (record { place = n.well.here; first = inl n.well.here; second = omega arith }) (λ v. record { well = v; moved = inl (omega arith); kept = search keeping; falls = omega arith }) (λ m p.
        branch _ _ _ (moved (moved s))
        (λ q. consumes c b ts (moved (moved s)) _ m.well (other (kind_at c (moved (moved s))) Eq Eof q refl) (λ o.
        call (initial-does (suc s.at) _ n.well.here o.well) (λ s' y. record { well = y.well; moved = inl (omega arith); kept = search keeping; falls = omega (arith, m.gain, o.gain) }) (λ u s₁ y.
        declares (suc s.at) 1 s₁ y.well n.well.here (λ h xs v. record {
          well = v.well;
          on = omega arith;
          counts = omega (arith, m.gain, o.gain, v.more);
          grows = grows-over _ 0 (fit tt tt n.well.here) refl y.grows;
        }))))
        (λ q₁. branch _ _ _ (moved (moved s))
        (λ q. consumes c b ts (moved (moved s)) _ m.well (other (kind_at c (moved (moved s))) Semicolon Eof q refl) (λ o.
        declares (suc s.at) 0 _ o.well n.well.here (λ h xs v. record {
          well = v.well;
          on = omega arith;
          counts = omega (arith, m.gain, o.gain, v.more);
          grows = grows-over _ 0 (fit tt tt n.well.here) refl (grows_none s.nodes);
        })))
        (λ q₂. throws c b ts _ (moved (moved s)) m.well (record { place = m.well.here; first = inr (omega arith); second = omega arith }) (λ v. record { well = v; moved = inl (omega arith); kept = search keeping; falls = omega (arith, m.gain) })))))

    -- there are no more bindings than parameters
    few-names : (n : ℕ) (ns : List Node) → length (reverse (map (λ (x : Node). x.pay) (take n ns))) ≤ n
    few-names n ns = simp (length-reverse, length-map, length-take) (omega arith)

    fn-does : (s : St) → Well c s → eqb (kind_at c s) Fn ≡ true → Holds (fn_decl c r s) (λ u s'. Does c b 1 0 0 0 0 1 s s') (λ s'. Broke c b 1 0 0 s s')
    unfolding fn_decl go_on member
    fn-does s w e =
        takes c b ts Fn s _ w refl e (λ n.
        let two : suc (suc (b s.at)) ≤ b (suc s.at) = keyword c b ts Fn s e tt n in
        idents c b ts ExpectedIdent (moved s) _ n.well (record { place = n.well.here; first = inl n.well.here; second = omega arith }) (λ v. record { well = v; moved = inl (omega arith); kept = search keeping; falls = omega arith }) (λ m p.
        stores c b ts (suc s.at) Placeholder _ _ m.well tt (λ xs v.
        expects c b ts LeftParen _ _ v.well refl (record { well = v.well; moved = inl (omega arith); kept = search keeping; falls = omega (arith, m.gain, v.more) }) (λ o q.
        call (params-read c b ts 0 2 (omega arith) (param c) param-reads _ 0 _ o.well (omega arith)) (λ s' y. record { well = y.well; moved = inl (omega arith); kept = search keeping; falls = omega (arith, m.gain, o.gain, v.more) }) (λ k s₁ y.
        pushes c b ts FnParams false k 0 s₁ _ (
        expects c b ts RightParen _ _ (well-nodes _ _ y.reads.well) refl (record { well = well-nodes _ _ y.reads.well; moved = inl (omega arith); kept = search keeping; falls = omega (arith, m.gain, o.gain, v.more) }) (λ z q₁.
        call (g.block true (reverse (map (λ (x : Node). x.pay) (take k s₁.nodes))) _ z.well)
        (λ s' t. record { well = t.broke.well; moved = inl (omega arith); kept = search keeping; falls = omega (arith, m.gain, o.gain, v.more, z.gain, y.is, few-names k s₁.nodes) }) (λ u s₂ t.
        pushes c b ts FnDecl false 2 (suc s.at) s₂ _ (store-last c b ts (suc s.at) (Function k) _ (well-nodes _ _ t.well) y.small (λ ys h. record {
          well = h.well;
          on = omega arith;
          counts = omega (arith, m.gain, o.gain, v.more, z.gain, y.is, few-names k s₁.nodes, h.more);
          grows = grows-over _ 0 (fit tt tt n.well.here) refl (grows_then (grows-over _ 0 (fit tt tt (omega (arith, w.here))) (omega (arith, y.is)) y.reads.grows) t.grows);
        }))))))))))

    -- an `elif` or an `else`, and its block
    pub elif-does : (s : St) → Well c s → eqb (kind_at c s) Elif ≡ true → Holds (elif_stmt c r s) (λ u s'. Does c b 1 0 0 0 0 1 s s') (λ s'. Broke c b 1 0 0 s s')
    unfolding elif_stmt go_on
    elif-does s w e =
        consumes c b ts s _ w (other (kind_at c s) Elif Eof e refl) (λ n.
        call (g.assign (moved s) n.well) (λ s' y. record { well = y.well; moved = inl (omega arith); kept = search keeping; falls = omega (arith, n.gain) }) (λ u s₁ y.
        call (g.block false [] s₁ y.well) (λ s' t. record { well = t.broke.well; moved = inl (omega arith); kept = search keeping; falls = omega (arith, n.gain) }) (λ v s₂ t.
        push-last c b ts ElifStmt false 2 0 s₂ (record {
          well = well-nodes _ _ t.well;
          on = omega arith;
          counts = omega (arith, n.gain);
          grows = grows-over _ 0 (fit tt tt (omega (arith, w.here))) refl (grows_then y.grows t.grows);
        }))))

    pub else-does : (s : St) → Well c s → eqb (kind_at c s) Else ≡ true → Holds (else_block c r s) (λ u s'. Does c b 1 0 0 0 0 1 s s') (λ s'. Broke c b 1 0 0 s s')
    unfolding else_block go_on
    else-does s w e =
        consumes c b ts s _ w (other (kind_at c s) Else Eof e refl) (λ n.
        last (g.block false [] (moved s) n.well) (λ s' t. record { well = t.broke.well; moved = inl (omega arith); kept = search keeping; falls = omega (arith, n.gain) })
        (λ u s' t. record { well = t.well; on = omega arith; counts = omega (arith, n.gain); grows = t.grows }))

    -- from s₀ to s the condition, the block and n branches are read; a token is to spare for the node, and one for an error
    end-if-does : (n elses : ℕ) (s₀ s : St) → Does c b 1 1 0 1 0 (2 + n) s₀ s → Holds (end_if c n elses s) (λ u s'. Does c b 1 0 0 0 0 1 s₀ s') (λ s'. Broke c b 1 0 0 s₀ s')
    unfolding end_if go_on
    end-if-does n elses s₀ s x =
        by-test (ltb 1 elses) _ _ (λ (m : Void). Holds (go_on (m s) (λ u. push c IfStmt false (2 + n) 0)) (λ u s'. Does c b 1 0 0 0 0 1 s₀ s') (λ s'. Broke c b 1 0 0 s₀ s'))
        (λ e. inner (add_error c InvalidIfStmt s) (λ y s'. done tt s') (λ u. push c IfStmt false (2 + n) 0)
        (lists c b ts InvalidIfStmt s (λ y. push c IfStmt false (2 + n) 0) x.well (record { place = x.well.here; first = inr (omega arith); second = omega arith }) (λ w.
        push-last c b ts IfStmt false (2 + n) 0 _ (record {
          well = well-nodes _ _ w;
          on = omega arith;
          counts = omega arith;
          grows = grows-over _ 0 (fit tt tt (omega (arith, x.well.here))) (omega arith) x.grows;
        }))))
        (λ e. push-last c b ts IfStmt false (2 + n) 0 s (record {
          well = well-nodes _ _ x.well;
          on = omega arith;
          counts = omega arith;
          grows = grows-over _ 0 (fit tt tt (omega (arith, x.well.here))) (omega arith) x.grows;
        }))

    branches-does : (f n elses : ℕ) (s₀ s : St) → Does c b 1 1 0 1 0 (2 + n) s₀ s → Holds (branches c r f n elses s) (λ u s'. Does c b 1 0 0 0 0 1 s₀ s') (λ s'. Broke c b 1 0 0 s₀ s')
    unfolding branches go_on
    branches-does zero n elses s₀ s x = end-if-does n elses s₀ s x
    branches-does (suc f) n elses s₀ s x =
        branch _ _ _ s
        (λ e. call (elif-does s x.well e) (λ s' y. record { well = y.well; moved = inl (omega arith); kept = search keeping; falls = omega arith }) (λ u s₁ y.
        branches-does f (suc n) elses s₀ s₁ (record { well = y.well; on = omega arith; counts = omega arith; grows = grows-as (omega arith) (grows_then x.grows y.grows) })))
        (λ e₁. branch _ _ _ s
        (λ e. call (else-does s x.well e) (λ s' y. record { well = y.well; moved = inl (omega arith); kept = search keeping; falls = omega arith }) (λ u s₁ y.
        branches-does f (suc n) (suc elses) s₀ s₁ (record { well = y.well; on = omega arith; counts = omega arith; grows = grows-as (omega arith) (grows_then x.grows y.grows) })))
        (λ e₂. end-if-does n elses s₀ s x))

    if-does : (s : St) → Well c s → eqb (kind_at c s) If ≡ true → Holds (if_stmt c r s) (λ u s'. Does c b 1 0 0 0 0 1 s s') (λ s'. Broke c b 1 0 0 s s')
    unfolding if_stmt go_on
    if-does s w e =
        takes c b ts If s _ w refl e (λ n.
        call (g.assign (moved s) n.well) (λ s' y. record { well = y.well; moved = inl (omega arith); kept = search keeping; falls = omega (arith, n.gain) }) (λ u s₁ y.
        call (g.block false [] s₁ y.well) (λ s' t. record { well = t.broke.well; moved = inl (omega arith); kept = search keeping; falls = omega (arith, n.gain) }) (λ v s₂ t.
        branches-does _ 0 0 s s₂ (record { well = t.well; on = omega arith; counts = omega (arith, n.gain); grows = grows_then y.grows t.grows }))))

    for-does : (s : St) → Well c s → eqb (kind_at c s) For ≡ true → Holds (for_stmt c r s) (λ u s'. Does c b 1 0 0 0 0 1 s s') (λ s'. Broke c b 1 0 0 s s')
    unfolding for_stmt ident_pair go_on member
    for-does s w e =
        takes c b ts For s _ w refl e (λ n.
        let two : suc (suc (b s.at)) ≤ b (suc s.at) = keyword c b ts For s e tt n in
        inner (ident_node c (moved s)) _ _ (id-nodes (moved s) _ n.well (λ v. record { well = v; moved = inl (omega arith); kept = search keeping; falls = omega arith }) (λ m.
        inner (expect c Comma (named (moved s))) _ _ (expects c b ts Comma (named (moved s)) _ (well-nodes _ _ m.well) refl (record { well = well-nodes _ _ m.well; moved = inl (omega arith); kept = search keeping; falls = omega (arith, m.gain) }) (λ o q.
        inner (ident_node c (moved (named (moved s)))) _ _ (id-nodes (moved (named (moved s))) _ o.well (λ v. record { well = v; moved = inl (omega arith); kept = search keeping; falls = omega (arith, m.gain, o.gain) }) (λ z.
        inner (push c IdentPair false 2 0 (named (moved (named (moved s))))) _ _ (pushes c b ts IdentPair false 2 0 _ _ (
        expects c b ts In _ _ (well-nodes _ _ z.well) refl (record { well = well-nodes _ _ z.well; moved = inl (omega arith); kept = search keeping; falls = omega (arith, m.gain, o.gain, z.gain) }) (λ h q₁.
        call (g.assign _ h.well) (λ s' y. record { well = y.well; moved = inl (omega arith); kept = search keeping; falls = omega (arith, m.gain, o.gain, z.gain, h.gain) }) (λ u s₁ y.
        call (g.block false (suc s.at ∷ suc (suc (suc s.at)) ∷ []) s₁ y.well) (λ s' t. record { well = t.broke.well; moved = inl (omega arith); kept = search keeping depth 8; falls = omega (arith, m.gain, o.gain, z.gain, h.gain) }) (λ v s₂ t.
        push-last c b ts ForStmt false 3 0 s₂ (record {
          well = well-nodes _ _ t.well;
          on = omega arith;
          counts = omega (arith, m.gain, o.gain, z.gain, h.gain);
          grows = grows-over _ 0 (fit tt tt (omega (arith, w.here))) refl (grows_then (grows_then
              (grows-over _ 0 (fit tt tt (omega (arith, w.here))) refl (grows-over _ 1 (fit tt tt o.well.here) refl (grows-over _ 0 (fit tt tt n.well.here) refl (grows_none s.nodes)))) y.grows) t.grows);
        })))))))))))))

    return-does : (s : St) → Well c s → eqb (kind_at c s) Return ≡ true → Holds (ret_stmt c r s) (λ u s'. Does c b 1 0 0 0 0 1 s s') (λ s'. Broke c b 1 0 0 s s')
    unfolding ret_stmt go_on
    return-does s w e =
        takes c b ts Return s _ w refl e (λ n.
        branch _ _ _ (moved s)
        (λ q. consumes c b ts (moved s) _ n.well (other (kind_at c (moved s)) Semicolon Eof q refl) (λ m.
        push-last c b ts ReturnStmt false 0 0 _ (record {
          well = well-nodes _ _ m.well;
          on = omega arith;
          counts = omega (arith, n.gain, m.gain);
          grows = grows-over _ 0 (fit tt tt (omega (arith, w.here))) refl (grows_none s.nodes);
        })))
        (λ q. call (g.assign (moved s) n.well) (λ s' y. record { well = y.well; moved = inl (omega arith); kept = search keeping; falls = omega (arith, n.gain) }) (λ u s₁ y.
        expects c b ts Semicolon s₁ _ y.well refl (record { well = y.well; moved = inl (omega arith); kept = search keeping; falls = omega (arith, n.gain) }) (λ m p.
        push-last c b ts ReturnStmt false 1 0 _ (record {
          well = well-nodes _ _ m.well;
          on = omega arith;
          counts = omega (arith, n.gain, m.gain);
          grows = grows-over _ 0 (fit tt tt (omega (arith, w.here))) refl y.grows;
        })))))

    expr-does : Decl c b (expr_stmt c r)
    unfolding expr_stmt go_on
    expr-does s w e =
        call (g.assign s w) (λ s' y. let h : 1 + s.at ≤ s'.at = moved_on s s' y.slips.on e y.moved in record { well = y.well; moved = inl h; kept = search keeping; falls = omega arith }) (λ u s₁ y.
        expects c b ts Semicolon s₁ _ y.well refl (record { well = y.well; moved = inl (omega arith); kept = search keeping; falls = omega arith }) (λ m p.
        push-last c b ts ExprStmt false 1 0 _ (record {
          well = well-nodes _ _ m.well;
          on = omega arith;
          counts = omega (arith, m.gain);
          grows = grows-over _ 0 (fit tt tt (omega (arith, w.here))) refl y.grows;
        })))

    stmt-does : Decl c b (stmt c r)
    unfolding stmt go_on
    stmt-does s w e =
        branch _ _ _ s (λ k. if-does s w k)
        (λ k₁. branch _ _ _ s (λ k. for-does s w k)
        (λ k₂. branch _ _ _ s (λ k. return-does s w k)
        (λ k₃. branch _ _ _ s
        (λ k. last (g.block false [] s w) (λ s' t. let h : suc s.at ≤ s'.at = t.begun k in record { well = t.broke.well; moved = inl (omega arith); kept = search keeping; falls = omega arith })
        (λ u s' t. record { well = t.well; on = omega arith; counts = omega arith; grows = t.grows }))
        (λ k₄. expr-does s w e))))

    pub decl-does : Decl c b (decl c r)
    unfolding decl go_on
    decl-does s w e = branch _ _ _ s (λ k. var-does s w k) (λ k₁. branch _ _ _ s (λ k. fn-does s w k) (λ k₂. stmt-does s w e))

    -- ── block ──

    -- after n₀ declarations, n: each is a tree
    pub record Decls (n₀ n : ℕ) (s s' : St) : Type 0 where
      pub count : ℕ
      pub is : n ≡ count + n₀
      pub does : Does c b 0 0 0 0 0 count s s'

    no-decls : (n₀ : ℕ) (s : St) → Well c s → Decls n₀ n₀ s s
    no-decls n₀ s w = record { count = 0; is = omega arith; does = record { well = w; on = omega arith; counts = omega arith; grows = grows_none s.nodes } }

    pub right : (p q : Bool) → (p || q) ≡ false → q ≡ false
    right true q e = absurd (clash refl e)
    right false q e = e

    pub decls-do : (f n₀ : ℕ) (s : St) → Well c s → Holds (decls c r f n₀ s) (λ n s'. Decls n₀ n s s') (λ s'. Broke c b 0 0 0 s s')
    unfolding decls go_on
    decls-do zero n₀ s w = is-done (no-decls n₀ s w)
    decls-do (suc f) n₀ s w =
        branch _ _ _ s (λ e. is-done (no-decls n₀ s w))
        (λ e. call (decl-does s w (right (eqb (kind_at c s) RightBrace) (eqb (kind_at c s) Eof) e)) (λ s' y. record { well = y.well; moved = inl (omega arith); kept = search keeping; falls = omega arith }) (λ u s₁ y.
        last (decls-do f (suc n₀) s₁ y.well) (λ s' v. record { well = v.well; moved = inl (omega arith); kept = search keeping; falls = omega arith })
        (λ n s' v. record { count = suc v.count; is = omega (arith, v.is); does = record { well = v.does.well; on = omega arith; counts = omega arith; grows = grows-as (omega arith) (grows_then y.grows v.does.grows) } })))

    pub block-does : (body : Bool) (names : List ℕ) (s : St) → Well c s → Holds (block c r body names s) (λ u s'. Does c b 2 0 2 0 (length names) 1 s s') (λ s'. BlockBroke c b (length names) s s')
    unfolding block init_scope close_scope set_level go_on
    block-does body names s w =
        expects-or c b ts LeftBrace s _ w refl (λ e. record { broke = record { well = w; moved = inl (omega arith); kept = search keeping; falls = omega arith }; begun = λ k. absurd (clash k e) }) (λ n e.
        binds names _ _ (well-level (suc s.level) (omega (arith, w.level)) n.well) (λ xs v l.
        call (decls-do _ 0 _ v) (λ s' y. record { broke = record { well = y.well; moved = inl (omega arith); kept = search keeping; falls = omega (arith, n.gain) }; begun = λ k. omega arith }) (λ k s₁ y.
        expects c b ts RightBrace s₁ _ y.does.well refl (record { broke = record { well = y.does.well; moved = inl (omega arith); kept = search keeping; falls = omega (arith, n.gain) }; begun = λ k. omega arith }) (λ m p.
        returns body k _ _
        (push-last c b ts Block false k s₁.level _ (record {
          well = well-nodes _ _ (well-level (s₁.level - 1) (omega (arith, y.does.well.level)) m.well);
          on = omega arith;
          counts = omega (arith, n.gain, m.gain);
          grows = grows-over _ 0 (fit tt tt (omega (arith, y.does.well.level, y.does.well.here))) (omega (arith, y.is)) y.does.grows;
        }))
        (push-last c b ts Block false (suc k) s₁.level _ (record {
          well = well-nodes _ _ (well-level (s₁.level - 1) (omega (arith, y.does.well.level)) m.well);
          on = omega arith;
          counts = omega (arith, n.gain, m.gain);
          grows = grows-over _ 0 (fit tt tt (omega (arith, y.does.well.level, y.does.well.here))) (omega (arith, y.is)) (grows-over _ y.count (fit tt tt (omega (arith, w.here))) (omega arith) y.does.grows);
        }))))))
