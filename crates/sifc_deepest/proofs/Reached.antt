-- A script of n opening parentheses has 3 * n + 3 counted calls active: at every limit below that its walk is refusal 6. Each `(` takes three calls, and so does
-- the Eof behind them: assign_expr, unary_expr, fn_call_expr. Nothing is built or listed on the way down, so the rooms do not matter.
use Prim.Native.Nat.{ℕ, zero, suc, ◌+◌, ◌*◌, ◌≤◌, ◌<◌}
use Rattle.std.specs.Prelude.{Bool, true, false, ◌≡◌, ltb, length}
use Rattle.std.proofs.Math.Path.{refl}
use Rattle.std.proofs.Common.{arith, ltb-true, ltb-false}
use Rattle.std.proofs.Math.Dec.{eqb}
use Rattle.std.proofs.lemmas.List.{length-replicate}
use Rattle.sifc_err.specs.declared.Refusal.{Refusal}
use Rattle.sifc_err.specs.declared.Refusal.TheVariants.{TooDeep}
use Rattle.sifc_lex.specs.declared.lex.Step.TheVariants.{Word}
use Rattle.sifc_word.specs.Base.{if◌then◌otherwise◌, member}
use Rattle.sifc_word.specs.Kind.{LeftParen, Eof, LexPanic}
use Rattle.sifc_lex.specs.Lex.{token, before, step, on_step, lex_from, lexed, lex}
use Rattle.sifc_def.specs.State.{Ctx, St, Out, done, refuse, M, Void, go_on, token_at, tok_at, arrive, consume}
use Rattle.sifc_def.specs.Expr.{Rec, is_unary, is_literal, levels, assign_expr, unary_expr, group_expr, primary_expr, fn_call_expr}
use Rattle.sifc_def.specs.Stmt.{expr_stmt, stmt, decl}
use Rattle.sifc_def.specs.Walk.{start, walkers, settled, top_decl, program, walk}
use Rattle.sifc_def.proofs.StepLaws.{moved}
use Rattle.sifc_deepest.specs.Deepest.{openings}

-- ── the tokens of n opening parentheses ──

-- a turn of lexing at `(`
step-open : (m : ℕ) → step (openings (suc m)) ≡ Word LeftParen 1
unfolding step
step-open zero = refl
step-open (suc m) = refl

turn-open : (f off m : ℕ) → lex_from (suc f) off (openings (suc m)) ≡ before (token LeftParen off 1) (lex_from f (off + 1) (openings m))
unfolding lex_from on_step
turn-open f off m = rw (step-open m)

-- token i is a `(`
lexed-open : (f off m i : ℕ) → m < f → i < m → (token_at (lex_from f off (openings m)).toks i).kind ≡ LeftParen
lexed-open zero off m i h l = absurd (omega arith)
lexed-open (suc f) off zero i h l = absurd (omega arith)
lexed-open (suc f) off (suc m) zero h l = rw (turn-open f off m)
lexed-open (suc f) off (suc m) (suc i) h l = rw (turn-open f off m) (lexed-open f (off + 1) m i (omega arith) (omega arith))

-- the token behind them is Eof
lexed-end : (f off m : ℕ) → m < f → (token_at (lex_from f off (openings m)).toks m).kind ≡ Eof
unfolding lex_from step
lexed-end zero off m h = absurd (omega arith)
lexed-end (suc f) off zero h = refl
lexed-end (suc f) off (suc m) h = rw (turn-open f off m) (lexed-end f (off + 1) m (omega arith))

-- ── the walk ──

-- a refusal stays
stays : {A B : Type 0} {o : Out A} (f : A → M B) {x : Refusal} → o ≡ refuse x → go_on o f ≡ refuse x
unfolding go_on
stays f e = rw e

module _ (c : Ctx) (n : ℕ) (opens : (i : ℕ) → i < n → (tok_at c i).kind ≡ LeftParen) (ends : (tok_at c n).kind ≡ Eof) where
  -- token i has one of the two kinds
  kind-of : (F : ℕ → Bool) → F LeftParen ≡ false → F Eof ≡ false → (i : ℕ) → i ≤ n → F (tok_at c i).kind ≡ false
  kind-of F p q i h = go (ltb i n) refl
    where
      go : (x : Bool) → ltb i n ≡ x → F (tok_at c i).kind ≡ false
      go true e = rw (opens i (ltb-true i n e)) p
      go false e = let z : i ≡ n = omega (arith, ltb-false i n e) in rw (z, ends) q

  -- a `(` is taken
  consume-open : (s : St) → s.at < n → consume c s ≡ done tt (moved s)
  unfolding consume arrive if◌then◌otherwise◌
  consume-open s h = rw (opens s.at h, kind-of (λ k. eqb k LexPanic) refl refl (suc s.at) (omega arith))

  levels-deep : (k : ℕ) (u : Void) (s : St) → u s ≡ refuse TooDeep → levels c k u s ≡ refuse TooDeep
  unfolding levels
  levels-deep zero u s e = e
  levels-deep (suc k) u s e = stays _ (levels-deep k u s e)

  -- where m of the n signs are left, the calls that are to be active are more than may be
  record Sinks (d : ℕ) : Type 0 where
    assign : (m : ℕ) (s : St) → m + s.at ≡ n → d < 3 * m + 3 → (walkers c d).assign s ≡ refuse TooDeep
    unary : (m : ℕ) (s : St) → m + s.at ≡ n → d < 3 * m + 2 → (walkers c d).unary s ≡ refuse TooDeep
    call : (m : ℕ) (s : St) → m + s.at ≡ n → d < 3 * m + 1 → (walkers c d).call s ≡ refuse TooDeep

  -- assign_expr begins with unary_expr at its token, and that goes on to fn_call_expr
  assign-deep : (r : Rec) (s : St) → r.unary s ≡ refuse TooDeep → assign_expr c r s ≡ refuse TooDeep
  unfolding assign_expr
  assign-deep r s e = stays _ (levels-deep 7 r.unary s e)

  unary-deep : (r : Rec) (s : St) → s.at ≤ n → r.call s ≡ refuse TooDeep → unary_expr c r s ≡ refuse TooDeep
  unfolding unary_expr is_unary if◌then◌otherwise◌ go_on
  unary-deep r s h e = rw (kind-of is_unary refl refl s.at h, e)

  -- fn_call_expr at a `(` goes on to assign_expr behind it
  call-deep : (r : Rec) (s : St) → s.at < n → r.assign (moved s) ≡ refuse TooDeep → fn_call_expr c r s ≡ refuse TooDeep
  unfolding fn_call_expr primary_expr group_expr is_literal member if◌then◌otherwise◌ go_on
  call-deep r s h e = rw (opens s.at h, consume-open s h, e)

  sinks : (d : ℕ) → Sinks d
  unfolding walkers
  sinks zero = record { assign = λ m s e h. refl; unary = λ m s e h. refl; call = λ m s e h. refl }
  sinks (suc d) =
      let g : Sinks d = sinks d in
      record {
        assign = λ m s e h. assign-deep (walkers c d) s (g.unary m s e (omega arith));
        unary = λ m s e h. unary-deep (walkers c d) s (omega arith) (g.call m s e (omega arith));
        call = λ m s e h. below m s e h (λ k e' h'. g.assign k (moved s) e' h');
      }
    where
      below : (m : ℕ) (s : St) → m + s.at ≡ n → suc d < 3 * m + 1 → ((k : ℕ) → k + suc s.at ≡ n → d < 3 * k + 3 → (walkers c d).assign (moved s) ≡ refuse TooDeep) → fn_call_expr c (walkers c d) s ≡ refuse TooDeep
      below zero s e h k = absurd (omega arith)
      below (suc m) s e h k = call-deep (walkers c d) s (omega arith) (k m (omega arith) (omega arith))

  -- a declaration at a `(` is an expression
  expr-deep : (r : Rec) (s : St) → r.assign s ≡ refuse TooDeep → expr_stmt c r s ≡ refuse TooDeep
  unfolding expr_stmt
  expr-deep r s e = stays _ e

  stmt-deep : (r : Rec) (s : St) → s.at < n → r.assign s ≡ refuse TooDeep → stmt c r s ≡ refuse TooDeep
  unfolding stmt if◌then◌otherwise◌ go_on
  stmt-deep r s h e = rw (opens s.at h) (expr-deep r s e)

  decl-deep : (r : Rec) (s : St) → s.at < n → r.assign s ≡ refuse TooDeep → decl c r s ≡ refuse TooDeep
  unfolding decl if◌then◌otherwise◌ go_on
  decl-deep r s h e = rw (opens s.at h) (stmt-deep r s h e)

  -- The walk, at every limit below three for each token, the Eof counted.
  pub walk-deep : 0 < n → (d : ℕ) → d < 3 * n + 3 → walk c d ≡ refuse TooDeep
  unfolding walk arrive program top_decl settled if◌then◌otherwise◌ go_on
  walk-deep l d h = rw (kind-of (λ k. eqb k LexPanic) refl refl 0 (omega arith), opens 0 l, decl-deep (walkers c d) start l ((sinks d).assign n start (omega arith) h))

-- The tokens of n opening parentheses are n of that kind, and Eof.
pub opening-deep : (c : Ctx) (n : ℕ) → c.toks ≡ lex (openings n) → 0 < n → (d : ℕ) → d < 3 * n + 3 → walk c d ≡ refuse TooDeep
unfolding lex lexed
opening-deep c n e l d h =
    let long : length (openings n) ≡ n = length-replicate n 40 in
    walk-deep c n (λ i g. rw e (lexed-open (suc (length (openings n))) 0 n i (omega arith) g)) (rw e (lexed-end (suc (length (openings n))) 0 n (omega arith))) l d h
