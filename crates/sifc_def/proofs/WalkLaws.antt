-- The walk as a whole: the counted calls are good at every depth, a walk never fails, and what it leaves is in bounds and one tree.
use Prim.Native.Nat.{ℕ, zero, suc, ◌+◌, ◌-◌, ◌*◌, ◌≤◌}
use Rattle.std.specs.Prelude.{List, [], ◌++◌, Bool, ◌≡◌, eqb, length}
use Rattle.std.proofs.Math.Option.{Option, none, some}
use Rattle.std.proofs.Math.Bool.{true, false}
use Rattle.std.proofs.Common.{arith, length-append, drop_at}
use Rattle.sifc_word.specs.Base.{if◌then◌otherwise◌}
use Rattle.sifc_word.specs.Kind.{Eof, LexPanic}
use Rattle.sifc_def.specs.declared.Err.{Err}
use Rattle.sifc_def.specs.Ast.{Program}
use Rattle.sifc_def.specs.Error.{continuable}
use Rattle.sifc_def.specs.State.{Node, Ctx, St, Out, done, fail, refuse, M, Void, go_on, arrive, set_nodes, keep}
use Rattle.sifc_def.specs.Stmt.{decl}
use Rattle.sifc_def.specs.Walk.{End, start, walkers, give_up, settled, top_decl, end_read, program, walk}
use Rattle.sifc_def.proofs.OutcomeLaws.{Holds, by-test, is-done, is-refused, branch, call}
use Rattle.sifc_def.proofs.GroveLaws.{Grows, Kept, grows_none, grows-as, grows_then, grows-over}
use Rattle.sifc_def.proofs.StepLaws.{Toks, Well, Each, kind_at, well-nodes, pushes}
use Rattle.sifc_def.proofs.ExprLaws.{assign_reads, unary-reads, fn-call-reads}
use Rattle.sifc_def.proofs.StmtLaws.{Does, Broke, Decl, Good, moved_on, decl-does, block-does}

-- "the node count falls back to where it began": the nodes that were there are back
pub keep-kept : {ns ns' : List Node} → Kept ns ns' → keep (length ns) ns' ≡ ns
unfolding keep
keep-kept {ns} {ns'} k = rw k.is (drop_at k.new ns (length (k.new ++ ns) - length ns) (omega (arith, length-append k.new ns)))

module _ (c : Ctx) (b : ℕ → ℕ) (ts : Toks c b) where
  pub good-walkers : (d : ℕ) → Good c b (walkers c d)
  unfolding walkers
  good-walkers zero = record { assign = λ s w. is-refused; unary = λ s w. is-refused; call = λ s w. is-refused; block = λ body names s w. is-refused }
  good-walkers (suc d) =
      let g : Good c b (walkers c d) = good-walkers d in
      record {
        assign = assign_reads c b ts (walkers c d) g.assign g.unary g.call;
        unary = unary-reads c b ts (walkers c d) g.assign g.unary g.call;
        call = fn-call-reads c b ts (walkers c d) g.assign g.unary g.call;
        block = block-does c b ts (walkers c d) g;
      }

  -- after n declarations: at most as many nodes as tokens taken, half as many symbols, and no more errors than the tokens' worth
  pub record Far (n : ℕ) (s : St) : Type 0 where
    pub well : Well c s
    pub few : length s.nodes ≤ s.at
    pub names : 2 * length s.syms ≤ s.at
    pub errors : length s.errs + b 0 ≤ b s.at
    pub grows : Grows (length c.toks) n [] s.nodes

  -- after a declaration at the top, with n before it: it is read, or leaves no nodes; either way a token was taken
  unfoldable pub FarOf : ℕ → Option Err → St → Type 0
  FarOf n none s = Far (suc n) s
  FarOf n (some e) s = Far n s

  pub record After (n : ℕ) (x : Option Err) (s s' : St) : Type 0 where
    pub far : FarOf n x s'
    pub on : suc s.at ≤ s'.at

  settled-far : (n : ℕ) (s : St) → Far n s → eqb (kind_at c s) Eof ≡ false → {o : Out (Unit {0})} → Holds o (λ u s'. Does c b 1 0 0 0 0 1 s s') (λ s'. Broke c b 1 0 0 s s')
      → Holds (settled c (length s.nodes) o) (λ x s'. After n x s s') (λ s'. ⊥)
  unfolding settled give_up set_nodes FarOf go_on
  settled-far n s x e {o = done u s'} h = is-done (let y : Does c b 1 0 0 0 0 1 s s' = h.holds in record {
    far = record {
      well = y.well;
      few = omega (arith, x.few);
      names = omega (arith, x.names);
      errors = omega (arith, x.errors);
      grows = grows-as (omega arith) (grows_then x.grows y.grows);
    };
    on = omega arith;
  })
  settled-far n s x e {o = fail z s'} h = is-done (let y : Broke c b 1 0 0 s s' = h.holds in
      let k : keep (length s.nodes) s'.nodes ≡ s.nodes = keep-kept y.kept in
      let m : 1 + s.at ≤ s'.at = moved_on c b ts s s' y.falls.on e y.moved in record {
        far = record {
          well = well-nodes _ _ y.well;
          few = rw k (omega (arith, x.few));
          names = omega (arith, x.names);
          errors = omega (arith, x.errors);
          grows = rw k x.grows;
        };
        on = omega arith;
      })
  settled-far n s x e {o = refuse r} h = is-refused

  -- Each top-level declaration takes at least one token other than Eof.
  pub top-far : (d : Void) → Decl c b d → (n : ℕ) (s : St) → Far n s → eqb (kind_at c s) Eof ≡ false → Holds (top_decl c d s) (λ x s'. After n x s s') (λ s'. ⊥)
  unfolding top_decl go_on
  top-far d h n s x e = settled-far n s x e (h s x.well e)

  -- at the end, with the Program node
  pub record Ended (s : St) : Type 0 where
    pub well : Well c s
    pub few : length s.nodes ≤ suc s.at
    pub names : 2 * length s.syms ≤ s.at
    pub errors : length s.errs + b 0 ≤ b s.at
    pub grows : Grows (length c.toks) 1 [] s.nodes

  end-ends : (n : ℕ) (flag : Bool) (early : Option Err) (s : St) → Far n s → Holds (end_read c n flag early s) (λ e s'. Ended s') (λ s'. ⊥)
  unfolding end_read go_on
  end-ends n flag early s x =
      pushes c b ts Program false n 0 s _ (is-done (record {
        well = well-nodes _ _ x.well;
        few = omega (arith, x.few);
        names = x.names;
        errors = x.errors;
        grows = grows-over _ 0 (record { arity = tt; known = tt; pay = omega (arith, x.well.here) }) (omega arith) x.grows;
      }))

  pub program-ends : (f : ℕ) (d : Void) → Decl c b d → (n : ℕ) (flag : Bool) (s : St) → Far n s → Holds (program c f d n flag s) (λ e s'. Ended s') (λ s'. ⊥)
  unfolding program go_on FarOf
  program-ends zero d h n flag s x = end-ends n flag none s x
  program-ends (suc f) d h n flag s x =
      branch _ _ _ s (λ e. end-ends n flag none s x)
      (λ e. call (top-far d h n s x e) (λ s' y. absurd y) (λ o s' y. next o s' y.far (λ m g z. program-ends f d h m g s' z)))
    where
      next : (o : Option Err) (s' : St) → FarOf n o s' → ((m : ℕ) (g : Bool) → Far m s' → Holds (program c f d m g s') (λ e s''. Ended s'') (λ s''. ⊥))
          → Holds ((elim o as (λ (x : Option Err). M End) [ none ↦ program c f d (suc n) flag | some e' ↦ if continuable c e'.why then program c f d n true otherwise end_read c n true (some e') ]) s') (λ e s''. Ended s'') (λ s''. ⊥)
      next none s' y k = k (suc n) flag y
      next (some e') s' y k = branch _ _ _ s' (λ p. k n true y) (λ p. end-ends n true (some e') s' y)

  -- A walk from the start never fails, and ends in bounds.
  pub walk_ends : (depth : ℕ) → Holds (walk c depth) (λ e s. Ended s) (λ s. ⊥)
  unfolding walk arrive go_on Each
  walk_ends depth =
      by-test (eqb (kind_at c start) LexPanic) _ _ (λ (o : Out (Unit {0})). Holds (go_on o (λ u. program c (suc (length c.toks)) (decl c (walkers c depth)) 0 false)) (λ e s. Ended s) (λ s. ⊥)) (λ e. is-refused)
      (λ e. program-ends (suc (length c.toks)) (decl c (walkers c depth)) (decl-does c b ts (walkers c depth) (good-walkers depth)) 0 false start (record {
        well = record { here = ts.some; calm = e; level = omega arith; syms = tt; errs = tt };
        few = omega arith;
        names = omega arith;
        errors = omega arith;
        grows = grows_none [];
      }))
