-- Expressions: where one is read, the walk has moved on, the nodes have one tree more, and no more nodes than tokens were taken. Where one fails, the walk has
-- moved on or stands at Eof, and at most one error more is listed.
use Prim.Native.Nat.{ℕ, zero, suc, ◌+◌, ◌-◌, ◌*◌, ◌≤◌, ◌<◌}
use Rattle.std.specs.Prelude.{List, Bool, true, ◌||◌, not, ◌⊎◌, ◌≡◌, T, get_or}
use Rattle.std.proofs.Math.Option.{Option, none, some}
use Rattle.std.proofs.Math.Bool.{false}
use Rattle.std.proofs.Math.Logic.{inl, inr}
use Rattle.std.proofs.Math.Path.{refl, subst}
use Rattle.std.proofs.Common.{sym, ap, eqb→eq, leb-false}
use native.Mathlib.Omega.{arith}
use Rattle.std.proofs.Math.Dec.{eqb, eqb-zero-suc}
use Rattle.std.proofs.Math.ListN.{length}
use Rattle.std.proofs.lemmas.Bool.{not-false}
use Rattle.sifc_word.specs.Base.{if◌then◌otherwise◌, member}
use Rattle.sifc_word.specs.Kind.{LeftParen, RightParen, LeftBracket, RightBracket, Eq, Period, Comma, At, Ident, Eof}
use Rattle.sifc_word.specs.Reserved.{is_std_lib_fn}
use Rattle.sifc_def.specs.Why.{Why}
use Rattle.sifc_err.specs.declared.parse_err.ParseErrTy.TheVariants.{InvalidTkn, InvalidAssign, WrongFnParmCnt, UndeclSym}
use Rattle.sifc_def.specs.declared.What.{What}
use Rattle.sifc_def.specs.declared.What.TheVariants.{Placeholder, Function, Variable, Other}
use Rattle.sifc_def.specs.Ast.{TableAccess, ArrayAccess, ArrayMutExpr, FnCallExpr, VarAssignExpr, BinaryExpr, UnaryExpr, PrimaryExpr}
use Rattle.sifc_def.specs.State.{Node, node, err, Ctx, St, M, Void, go_on, name_at, panic_at, throw, expect, push, set_nodes}
use Rattle.sifc_def.specs.Symbols.{retrieve, set_check}
use Rattle.sifc_def.specs.Expr.{Rec, looseness, is_unary, is_literal, operators, levels, assign_var, assign_token, assign_array, assign_nothing, assign_to, separator, param_list, single, call_counted, call_declared, call_name, call_named, literal, known, check_name, ident_expr, assign_expr, unary_expr, group_expr, at_expr, primary_expr, call_part, dot, index, postfix, fn_call_expr}
use Rattle.sifc_def.proofs.OutcomeLaws.{Holds, by-test, is-done, is-refused, branch, call, last}
use Rattle.sifc_def.proofs.GroveLaws.{Grows, Kept, keeping, Top, grows_none, grows-as, grows_then, grows-over, top_of, grows-without}
use Rattle.sifc_def.proofs.StepLaws.{Toks, Well, clash, kind_at, FairFound, FairErr, well-nodes, moved, other, not-eof, Next, consumes, expects, pushes, retrieves, throws-at, throws, throws-past, consume-last, expect-last, push-last}

module _ (c : Ctx) (b : ℕ → ℕ) where
  -- from s to s': with k tokens to spare, each new node has a token; nothing is stored or listed
  pub record Sums (k : ℕ) (s s' : St) : Type 0 where
    pub worth : b s.at + s'.at ≤ b s'.at + s.at
    pub few : k + (length s'.nodes + s.at) ≤ length s.nodes + s'.at
    pub names : length s'.syms ≡ length s.syms
    pub errors : length s'.errs ≡ length s.errs
    pub level : s'.level ≡ s.level

  -- n trees were read, and at least j tokens
  pub record Reads (j k n : ℕ) (s s' : St) : Type 0 where
    pub well : Well c s'
    pub on : j + s.at ≤ s'.at
    pub sums : Sums k s s'
    pub grows : Grows (length c.toks) n s.nodes s'.nodes

  -- the same of a failure, which has listed at most e errors
  pub record Slips (e : ℕ) (s s' : St) : Type 0 where
    pub on : s.at ≤ s'.at
    pub worth : b s.at + s'.at ≤ b s'.at + s.at
    pub few : length s'.nodes + s.at ≤ length s.nodes + s'.at
    pub names : length s'.syms ≡ length s.syms
    pub errors : length s'.errs ≤ e + length s.errs
    pub level : s'.level ≡ s.level

  pub record Fell (j e : ℕ) (s s' : St) : Type 0 where
    pub well : Well c s'
    pub moved : (j + s.at ≤ s'.at) ⊎ (eqb (kind_at c s') Eof ≡ true)
    pub kept : Kept s.nodes s'.nodes
    pub slips : Slips e s s'

  -- an item that is read as one tree; where it fails, it has moved on by j tokens or stands at Eof, and has listed at most e errors
  abbrev pub ItemOf : ℕ → ℕ → Void → Type 0
  ItemOf j e m = (s : St) → Well c s → Holds (m s) (λ u s'. Reads 1 0 1 s s') (λ s'. Fell j e s s')

  abbrev pub Item : Void → Type 0
  Item m = ItemOf 1 1 m

module _ (c : Ctx) (b : ℕ → ℕ) (ts : Toks c b) where
  -- ── the levels ──

  pub loose-eof : (n k : ℕ) → eqb (looseness k) (suc n) ≡ true → eqb k Eof ≡ false
  unfolding looseness member if◌then◌otherwise◌
  loose-eof n k e = not-eof (λ x. eqb (looseness x) (suc n)) k e (eqb-zero-suc n)

  -- the loop of a level: the tree that was read grows
  pub operators-reads : (f n : ℕ) (next : Void) → Item c b next → (s₀ s : St) → Reads c b 1 0 1 s₀ s → Holds (operators c f (suc n) next s) (λ u s'. Reads c b 1 0 1 s₀ s') (λ s'. Fell c b 1 1 s₀ s')
  unfolding operators go_on
  operators-reads zero n next h s₀ s x = is-done x
  operators-reads (suc f) n next h s₀ s x =
      branch _ _ _ s
      (λ e. consumes c b ts s _ x.well (loose-eof n (kind_at c s) e) (λ w.
      call (h (moved s) w.well) (λ s' y. record { well = y.well; moved = inl (omega arith); kept = search keeping; slips = omega arith }) (λ a s₁ y.
      pushes c b ts BinaryExpr false 2 s.at s₁ _ (operators-reads f n next h s₀ _ (record {
        well = well-nodes _ _ y.well;
        on = omega arith;
        sums = omega arith;
        grows = grows-over _ 0 (record { arity = tt; known = tt; pay = x.well.here }) refl (grows_then x.grows y.grows);
      })))))
      (λ e. is-done x)

  pub levels-reads : (n : ℕ) (u : Void) → Item c b u → Item c b (levels c n u)
  unfolding levels go_on
  levels-reads zero u h s w = h s w
  levels-reads (suc n) u h s w = call (levels-reads n u h s w) (λ s' x. x) (λ a s₁ x. operators-reads _ n (levels c n u) (levels-reads n u h) s s₁ x)

  -- ── assign_expr ──

  -- an error that is listed and raised once a token is taken
  listed : (y : Why) (s₀ s : St) {j k n : ℕ} → Reads c b (suc j) k n s₀ s → FairErr (length c.toks) (err s.at y) → Holds (throw c y s) (λ (u : Unit {0}) s'. Reads c b 1 0 1 s₀ s') (λ s'. Fell c b 1 1 s₀ s')
  listed y s₀ s x f = throws c b ts y s x.well f (λ w. record { well = w; moved = inl (omega arith); kept = search keeping; slips = omega arith })

  -- what assignment is given: the target and the value are read, and a token is to spare
  assign-var-reads : (i : ℕ) (w : Option What) (s₀ s : St) → Reads c b 1 1 2 s₀ s → i < length c.toks → FairFound (length c.toks) w → Holds (assign_var c i w s) (λ u s'. Reads c b 1 0 1 s₀ s') (λ s'. Fell c b 1 1 s₀ s')
  unfolding assign_var
  assign-var-reads i none s₀ s x h f = listed (UndeclSym i) s₀ s x (record { place = x.well.here; first = inl h; second = omega arith })
  assign-var-reads i (some Placeholder) s₀ s x h f = listed (UndeclSym i) s₀ s x (record { place = x.well.here; first = inl h; second = omega arith })
  assign-var-reads i (some (Function n)) s₀ s x h f = listed (UndeclSym i) s₀ s x (record { place = x.well.here; first = inl h; second = omega arith })
  assign-var-reads i (some (Variable t g)) s₀ s x h f = push-last c b ts VarAssignExpr g 2 t s (record {
    well = well-nodes _ _ x.well;
    on = omega arith;
    sums = omega arith;
    grows = grows-over _ 0 (record { arity = tt; known = tt; pay = f }) refl x.grows;
  })
  assign-var-reads i (some Other) s₀ s x h f = listed (UndeclSym i) s₀ s x (record { place = x.well.here; first = inl h; second = omega arith })

  assign-token-reads : (i : ℕ) (s₀ s : St) → Reads c b 1 1 2 s₀ s → i < length c.toks → Holds (assign_token c i s) (λ u s'. Reads c b 1 0 1 s₀ s') (λ s'. Fell c b 1 1 s₀ s')
  unfolding assign_token go_on
  assign-token-reads i s₀ s x h =
      branch _ _ _ s (λ e. retrieves c b ts _ s _ x.well (λ w f. assign-var-reads i w s₀ s x h f))
      (λ e. listed (InvalidAssign i) s₀ s x (record { place = x.well.here; first = inl h; second = omega arith }))

  -- from s₀ to s₁ the target is read, from the token after s₁ to s₂ the value
  module _ (s₀ s₁ s₂ : St) (x : Reads c b 1 0 1 s₀ s₁) (w : Next c b ts s₁) (y : Reads c b 1 0 1 (moved s₁) s₂) where
    assign-array-reads : (p : Top (length c.toks) 0 s₀.nodes s₁.nodes) → p.node.kids ≡ 2 → Holds (assign_array c (length s₁.nodes - 1) s₂) (λ u s'. Reads c b 1 0 1 s₀ s') (λ s'. Fell c b 1 1 s₀ s')
    unfolding assign_array set_nodes go_on
    assign-array-reads p e =
        let q = grows-without p e y.grows in
        push-last c b ts ArrayMutExpr false 3 0 _ (record {
          well = well-nodes _ _ y.well;
          on = omega arith;
          sums = omega (arith, q.1);
          grows = grows-over _ 0 (record { arity = tt; known = tt; pay = omega (arith, y.well.here) }) refl q.0;
        })

    assign-nothing-fails : Holds (assign_nothing c s₁.at s₂) (λ u s'. Reads c b 1 0 1 s₀ s') (λ s'. Fell c b 1 1 s₀ s')
    unfolding assign_nothing
    assign-nothing-fails = throws-at c b ts s₁.at (InvalidAssign s₁.at) s₂ y.well (record { place = x.well.here; first = inl x.well.here; second = omega arith }) (λ v. record { well = v; moved = inl (omega arith); kept = search keeping; slips = omega arith })

    two : (n k : ℕ) → T (not (eqb k ArrayAccess) || eqb n 2) → eqb k ArrayAccess ≡ true → n ≡ 2
    two n k a e = eqb→eq n 2 (rw e at a)

    assign-to-reads : (target : Node) (p : Top (length c.toks) 0 s₀.nodes s₁.nodes) → target ≡ p.node → Holds (assign_to c target (length s₁.nodes - 1) s₁.at s₂) (λ u s'. Reads c b 1 0 1 s₀ s') (λ s'. Fell c b 1 1 s₀ s')
    unfolding assign_to
    assign-to-reads target p e =
        let pay : target.pay < length c.toks = subst (λ (n : Node). n.pay < length c.toks) (sym e) p.fit.pay in
        branch _ _ _ s₂ (λ k. assign-token-reads target.pay s₀ s₂ (record { well = y.well; on = omega arith; sums = omega arith; grows = grows_then x.grows y.grows }) pay)
        (λ k. branch _ _ _ s₂ (λ a. assign-array-reads p (two p.node.kids p.node.kind p.fit.arity (subst (λ (n : Node). eqb n.kind ArrayAccess ≡ true) e a))) (λ a. assign-nothing-fails))

  -- ── param_list ──

  pub separates : {A : Type 0} {P : A → St → Type 0} {Q : St → Type 0} (s : St) (f : Unit {0} → M A) → Well c s → Q s → (Next c b ts s → Holds (f tt (moved s)) P Q) → (eqb (kind_at c s) RightParen ≡ true → Holds (f tt s) P Q) → Holds (go_on (separator c s) f) P Q
  unfolding separator go_on
  separates {A} {P} {Q} s f w q h g =
      by-test (not (eqb (kind_at c s) RightParen)) (expect c Comma) _ (λ (m : Void). Holds (go_on (m s) f) P Q) (λ e. expects c b ts Comma s f w refl q (λ n p. h n)) (λ e. g (not-false _ e))

  -- after n₀ items, n: each is a tree; and two of them take three tokens at least
  pub record Params (n₀ n : ℕ) (s s' : St) : Type 0 where
    pub count : ℕ
    pub is : n ≡ count + n₀
    pub small : n ≤ 64
    pub reads : Reads c b 0 0 count s s'
    pub pairs : 2 * count + s.at ≤ suc s'.at
    pub none : eqb (kind_at c s) RightParen ≡ true → count ≡ 0

  nothing-more : (n₀ : ℕ) (s : St) → Well c s → n₀ ≤ 64 → Params n₀ n₀ s s
  nothing-more n₀ s w small = record { count = 0; is = omega arith; small = small; reads = record { well = w; on = omega arith; sums = omega arith; grows = grows_none s.nodes }; pairs = omega arith; none = λ k. refl }

  pub params-read : (j e : ℕ) → 1 ≤ e → (item : Void) → ItemOf c b j e item → (f n₀ : ℕ) (s : St) → Well c s → n₀ ≤ 64 → Holds (param_list c item f n₀ s) (λ n s'. Params n₀ n s s') (λ s'. Fell c b 0 e s s')
  unfolding param_list go_on
  params-read j e l item h zero n₀ s w small = is-done (nothing-more n₀ s w small)
  params-read j e l item h (suc f) n₀ s w small =
      branch _ _ _ s (λ k. is-done (nothing-more n₀ s w small))
      (λ k. branch _ _ _ s (λ m. throws c b ts _ s w (record { place = w.here; first = inr (omega arith); second = omega arith }) (λ v. record { well = v; moved = inl (omega arith); kept = search keeping; slips = omega arith }))
      (λ m. branch _ _ _ s (λ z. throws c b ts _ s w (record { place = w.here; first = inr (omega arith); second = omega arith }) (λ v. record { well = v; moved = inl (omega arith); kept = search keeping; slips = omega arith }))
      (λ z. call (h s w) (λ s' y. record { well = y.well; moved = inl (omega arith); kept = search keeping; slips = omega arith }) (λ a s₁ y.
      separates s₁ _ y.well (record { well = y.well; moved = inl (omega arith); kept = search keeping; slips = omega arith })
      (λ n. last (params-read j e l item h f (suc n₀) (moved s₁) n.well (leb-false 64 n₀ m)) (λ s' v. record { well = v.well; moved = inl (omega arith); kept = search keeping; slips = omega arith })
      (λ i s' v. record {
        count = suc v.count;
        is = omega (arith, v.is);
        small = v.small;
        reads = record { well = v.reads.well; on = omega arith; sums = omega arith; grows = grows-as (omega arith) (grows_then y.grows v.reads.grows) };
        pairs = omega arith;
        none = λ q. absurd (clash q k);
      }))
      (λ p. last (params-read j e l item h f (suc n₀) s₁ y.well (leb-false 64 n₀ m)) (λ s' v. record { well = v.well; moved = inl (omega arith); kept = search keeping; slips = omega arith })
      (λ i s' v. record {
        count = suc v.count;
        is = omega (arith, v.is);
        small = v.small;
        reads = record { well = v.reads.well; on = omega arith; sums = omega arith; grows = grows-as (omega arith) (grows_then y.grows v.reads.grows) };
        pairs = omega (arith, v.none p);
        none = λ q. absurd (clash q k);
      }))))))

  -- ── fn_call_expr ──

  singles : {A : Type 0} {P : A → St → Type 0} {Q : St → Type 0} (target : Node) (kind i : ℕ) (s : St) (f : Unit {0} → M A) → Holds (f tt s) P Q → Holds (go_on (single c target kind i s) f) P Q
  unfolding single panic_at go_on
  singles {A} {P} {Q} target kind i s f h = by-test (eqb target.kind PrimaryExpr) _ _ (λ (m : Void). Holds (go_on (m s) f) P Q) (λ e. h) (λ e. is-refused)

  -- from s₀ to s a target and n arguments are read, and a token is to spare
  module _ (s₀ s : St) (n : ℕ) (small : n ≤ 64) (x : Reads c b 1 1 (suc n) s₀ s) where
    call-made : (g : Bool) → Holds (push c FnCallExpr g (suc n) 0 s) (λ u s'. Reads c b 1 0 1 s₀ s') (λ s'. Fell c b 1 1 s₀ s')
    call-made g = push-last c b ts FnCallExpr g (suc n) 0 s (record {
      well = well-nodes _ _ x.well;
      on = omega arith;
      sums = omega arith;
      grows = grows-over _ 0 (record { arity = tt; known = tt; pay = omega (arith, x.well.here) }) (omega arith) x.grows;
    })

    call-counted-reads : (want : ℕ) → want ≤ 64 → Holds (call_counted c want n s) (λ u s'. Reads c b 1 0 1 s₀ s') (λ s'. Fell c b 1 1 s₀ s')
    unfolding call_counted
    call-counted-reads want h =
        branch _ _ _ s (λ e. call-made false) (λ e. listed (WrongFnParmCnt want n) s₀ s x (record { place = x.well.here; first = inr h; second = small }))

    call-declared-reads : (i : ℕ) (w : Option What) → i < length c.toks → FairFound (length c.toks) w → Holds (call_declared c i n w s) (λ u s'. Reads c b 1 0 1 s₀ s') (λ s'. Fell c b 1 1 s₀ s')
    unfolding call_declared
    call-declared-reads i none h f =
        throws-past c b ts (UndeclSym i) s x.well (record { place = x.well.here; first = inl h; second = omega arith })
        (λ e w. record { well = w; moved = inl (omega arith); kept = search keeping; slips = omega arith }) (λ w. record { well = w.well; moved = inl (omega arith); kept = search keeping; slips = omega arith })
    call-declared-reads i (some Placeholder) h f = call-made false
    call-declared-reads i (some (Function m)) h f = call-counted-reads m f
    call-declared-reads i (some (Variable t g)) h f = call-counted-reads 0 (omega arith)
    call-declared-reads i (some Other) h f = call-counted-reads 0 (omega arith)

    call-named-reads : (target : Node) (i : ℕ) → target.pay < length c.toks → Holds (call_named c target i n s) (λ u s'. Reads c b 1 0 1 s₀ s') (λ s'. Fell c b 1 1 s₀ s')
    unfolding call_named call_name panic_at go_on
    call-named-reads target i h =
        branch _ _ _ s (λ e. retrieves c b ts _ s _ x.well (λ w f. branch _ _ _ s (λ p. call-made true) (λ p. call-declared-reads target.pay w h f))) (λ e. is-refused)

  -- ── primary_expr ──

  pub literal-reads : (s : St) → Well c s → eqb (kind_at c s) Eof ≡ false → Holds (literal c s.at s) (λ u s'. Reads c b 1 0 1 s s') (λ s'. Fell c b 1 1 s s')
  unfolding literal go_on
  literal-reads s w e =
      pushes c b ts PrimaryExpr false 0 s.at s _ (consume-last c b ts _ (well-nodes _ _ w) e (λ n. record {
        well = n.well;
        on = omega arith;
        sums = omega (arith, n.gain);
        grows = grows-over _ 0 (record { arity = tt; known = tt; pay = w.here }) refl (grows_none s.nodes);
      }))

  known-reads : (w : Option What) (s : St) → Well c s → eqb (kind_at c s) Eof ≡ false → Holds (go_on (known c s.at w s) (λ a. literal c s.at)) (λ u s'. Reads c b 1 0 1 s s') (λ s'. Fell c b 1 1 s s')
  unfolding known go_on
  known-reads (some x) s w e = literal-reads s w e
  known-reads none s w e =
      by-test (is_std_lib_fn (name_at c s.at)) _ _ (λ (m : Void). Holds (go_on (m s) (λ a. literal c s.at)) (λ u s'. Reads c b 1 0 1 s s') (λ s'. Fell c b 1 1 s s')) (λ p. literal-reads s w e)
      (λ p. call (throws-past c b ts {P = λ (u : Unit {0}) s'. ⊥} (UndeclSym s.at) s w (record { place = w.here; first = inl w.here; second = omega arith })
      (λ q v. absurd (clash q e)) (λ n. record { well = n.well; moved = inl (omega arith); kept = search keeping; slips = omega (arith, n.gain) }))
      (λ s' y. y) (λ u s' y. absurd y))

  ident-reads : (s : St) → Well c s → eqb (kind_at c s) Ident ≡ true → Holds (ident_expr c s.at s) (λ u s'. Reads c b 1 0 1 s s') (λ s'. Fell c b 1 1 s s')
  unfolding ident_expr check_name retrieve go_on
  ident-reads s w e =
      by-test s.check _ _ (λ (m : Void). Holds (go_on (m s) (λ a. literal c s.at)) (λ u s'. Reads c b 1 0 1 s s') (λ s'. Fell c b 1 1 s s'))
      (λ p. known-reads _ s w (other (kind_at c s) Ident Eof e refl)) (λ p. literal-reads s w (other (kind_at c s) Ident Eof e refl))

  module _ (r : Rec) (ex : Item c b r.assign) (un : Item c b r.unary) (ca : Item c b r.call) where
    group_reads : (s : St) → Well c s → eqb (kind_at c s) LeftParen ≡ true → Holds (group_expr c r s) (λ u s'. Reads c b 1 0 1 s s') (λ s'. Fell c b 1 1 s s')
    unfolding group_expr go_on
    group_reads s w e =
        consumes c b ts s _ w (other (kind_at c s) LeftParen Eof e refl) (λ n.
        call (ex (moved s) n.well) (λ s' y. record { well = y.well; moved = inl (omega arith); kept = search keeping; slips = omega (arith, n.gain) }) (λ u s₁ y.
        expect-last c b ts RightParen s₁ y.well refl (record { well = y.well; moved = inl (omega arith); kept = search keeping; slips = omega (arith, n.gain) })
        (λ m p. record { well = m.well; on = omega arith; sums = omega (arith, n.gain, m.gain); grows = y.grows })))

    at_reads : (s : St) → Well c s → eqb (kind_at c s) At ≡ true → Holds (at_expr c r s) (λ u s'. Reads c b 1 0 1 s s') (λ s'. Fell c b 1 1 s s')
    unfolding at_expr go_on
    at_reads s w e =
        consumes c b ts s _ w (other (kind_at c s) At Eof e refl) (λ n.
        last (ca (moved s) n.well) (λ s' y. record { well = y.well; moved = inl (omega arith); kept = search keeping; slips = omega (arith, n.gain) })
        (λ u s' y. record { well = y.well; on = omega arith; sums = omega (arith, n.gain); grows = y.grows }))

    literal-eof : (k : ℕ) → is_literal k ≡ true → eqb k Eof ≡ false
    unfolding is_literal member
    literal-eof k e = not-eof is_literal k e refl

    pub primary-reads : Item c b (primary_expr c r)
    unfolding primary_expr go_on
    primary-reads s w =
        branch _ _ _ s (λ e. literal-reads s w (literal-eof (kind_at c s) e))
        (λ e₁. branch _ _ _ s (λ e. ident-reads s w e)
        (λ e₂. branch _ _ _ s (λ e. group_reads s w e)
        (λ e₃. branch _ _ _ s (λ e. at_reads s w e)
        (λ e₄. throws-past c b ts (InvalidTkn s.at) s w (record { place = w.here; first = inl w.here; second = omega arith })
        (λ q v. record { well = v; moved = inr q; kept = search keeping; slips = omega arith }) (λ n. record { well = n.well; moved = inl (omega arith); kept = search keeping; slips = omega (arith, n.gain) })))))

    -- ── the suffixes, and the counted calls ──

    -- from s₀ to s the target is read
    module _ (s₀ s : St) (x : Reads c b 1 0 1 s₀ s) (target : Node) (pay : target.pay < length c.toks) where
      call-part-reads : eqb (kind_at c s) LeftParen ≡ true → Holds (call_part c r target s.at s) (λ u s'. Reads c b 1 0 1 s₀ s') (λ s'. Fell c b 1 1 s₀ s')
      unfolding call_part go_on
      call-part-reads e =
          consumes c b ts s _ x.well (other (kind_at c s) LeftParen Eof e refl) (λ n.
          call (params-read 1 1 (omega arith) r.assign ex _ 0 (moved s) n.well (omega arith)) (λ s' y. record { well = y.well; moved = inl (omega arith); kept = search keeping; slips = omega (arith, n.gain) }) (λ i s₁ y.
          expects c b ts RightParen s₁ _ y.reads.well refl (record { well = y.reads.well; moved = inl (omega arith); kept = search keeping; slips = omega (arith, n.gain) }) (λ m p.
          call-named-reads s₀ (moved s₁) i y.small (record { well = m.well; on = omega arith; sums = omega (arith, n.gain, m.gain); grows = grows-as (omega (arith, y.is)) (grows_then x.grows y.reads.grows) }) target s.at pay)))

      dot-reads : eqb (kind_at c s) Period ≡ true → Holds (dot c r target s.at s) (λ u s'. Reads c b 1 0 1 s₀ s') (λ s'. Fell c b 1 1 s₀ s')
      unfolding dot set_check go_on
      dot-reads e =
          consumes c b ts s _ x.well (other (kind_at c s) Period Eof e refl) (λ n.
          call (ex _ (well-nodes _ _ n.well)) (λ s' y. record { well = y.well; moved = inl (omega arith); kept = search keeping; slips = omega (arith, n.gain) }) (λ u s₁ y.
          singles target 4 s.at _ _ (push-last c b ts TableAccess false 2 0 _ (record {
            well = well-nodes _ _ y.well;
            on = omega arith;
            sums = omega (arith, n.gain);
            grows = grows-over _ 0 (record { arity = tt; known = tt; pay = omega (arith, y.well.here) }) refl (grows_then x.grows y.grows);
          }))))

      index_reads : eqb (kind_at c s) LeftBracket ≡ true → Holds (index c r target s.at s) (λ u s'. Reads c b 1 0 1 s₀ s') (λ s'. Fell c b 1 1 s₀ s')
      unfolding index go_on
      index_reads e =
          consumes c b ts s _ x.well (other (kind_at c s) LeftBracket Eof e refl) (λ n.
          call (ex (moved s) n.well) (λ s' y. record { well = y.well; moved = inl (omega arith); kept = search keeping; slips = omega (arith, n.gain) }) (λ u s₁ y.
          expects c b ts RightBracket s₁ _ y.well refl (record { well = y.well; moved = inl (omega arith); kept = search keeping; slips = omega (arith, n.gain) }) (λ m p.
          singles target 5 s.at _ _ (push-last c b ts ArrayAccess false 2 0 _ (record {
            well = well-nodes _ _ m.well;
            on = omega arith;
            sums = omega (arith, n.gain, m.gain);
            grows = grows-over _ 0 (record { arity = tt; known = tt; pay = omega (arith, y.well.here) }) refl (grows_then x.grows y.grows);
          })))))

      postfix-reads : Holds (postfix c r target s) (λ u s'. Reads c b 1 0 1 s₀ s') (λ s'. Fell c b 1 1 s₀ s')
      unfolding postfix go_on
      postfix-reads = branch _ _ _ s call-part-reads (λ e₁. branch _ _ _ s dot-reads (λ e₂. branch _ _ _ s index_reads (λ e₃. is-done x)))

    -- the newest node is the root of what was read
    target-of : (s₀ s : St) (x : Reads c b 1 0 1 s₀ s) → get_or s.nodes 0 (node 0 false 0 0) ≡ (top_of x.grows).node
    target-of s₀ s x = ap (λ (l : List Node). get_or l 0 (node 0 false 0 0)) (top_of x.grows).is

    pub fn-call-reads : Item c b (fn_call_expr c r)
    unfolding fn_call_expr go_on
    fn-call-reads s w =
        call (primary-reads s w) (λ s' y. y)
        (λ u s₁ x. postfix-reads s s₁ x _ (subst (λ (n : Node). n.pay < length c.toks) (sym (target-of s s₁ x)) (top_of x.grows).fit.pay))

    unary-eof : (k : ℕ) → is_unary k ≡ true → eqb k Eof ≡ false
    unfolding is_unary
    unary-eof k e = not-eof is_unary k e refl

    pub unary-reads : Item c b (unary_expr c r)
    unfolding unary_expr go_on
    unary-reads s w =
        branch _ _ _ s
        (λ e. consumes c b ts s _ w (unary-eof (kind_at c s) e) (λ n.
        call (un (moved s) n.well) (λ s' y. record { well = y.well; moved = inl (omega arith); kept = search keeping; slips = omega (arith, n.gain) }) (λ u s₁ y.
        push-last c b ts UnaryExpr false 1 s.at s₁ (record {
          well = well-nodes _ _ y.well;
          on = omega arith;
          sums = omega (arith, n.gain);
          grows = grows-over _ 0 (record { arity = tt; known = tt; pay = w.here }) refl y.grows;
        }))))
        (λ e. ca s w)

    pub assign_reads : Item c b (assign_expr c r)
    unfolding assign_expr go_on
    assign_reads s w =
        call (levels-reads 7 r.unary un s w) (λ s' y. y) (λ u s₁ x.
        branch _ _ _ s₁
        (λ e. consumes c b ts s₁ _ x.well (other (kind_at c s₁) Eq Eof e refl) (λ n.
        call (ex (moved s₁) n.well) (λ s' y. record { well = y.well; moved = inl (omega arith); kept = search keeping; slips = omega (arith, n.gain) }) (λ v s₂ y.
        assign-to-reads s s₁ s₂ x n y _ (top_of x.grows) (target-of s s₁ x))))
        (λ e. is-done x))
