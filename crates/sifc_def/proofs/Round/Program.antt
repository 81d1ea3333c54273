-- Completeness of programs: a script whose words are those of a program is read as that program, flag down, or a refusal 6 to 9 says otherwise.
use Prim.Native.Nat.{ℕ, zero, suc, ◌+◌, ◌≤◌}
use Rattle.std.specs.Prelude.{◌≡◌, length}
use Rattle.std.proofs.Math.Path.{refl, ap, ap₂, subst₂}
use Rattle.std.proofs.Common.{sym, ◌∙◌, arith, zero-add, add-zero, not-suc-le-zero}
use mathlib.Core.List.{List, [], ◌∷◌, ◌++◌, map, append_assoc, append-nil}
use Rattle.std.proofs.Math.Option.{none}
use Rattle.std.proofs.Math.Bool.{true, false}
use Rattle.std.proofs.Math.Dec.{eqb}
use Rattle.sifc_word.specs.Base.{if◌then◌otherwise◌, member}
use Rattle.sifc_word.specs.Kind.{Eof, LexPanic}
use Rattle.sifc_def.specs.Ast.{Program}
use Rattle.sifc_def.specs.State.{Node, Sym, Ctx, St, Out, done, fail, refuse, Void, go_on, W, word_in, tok_at, arrive, push}
use Rattle.sifc_def.specs.Label.{Lab, has_token, scope_of, text_of}
use Rattle.sifc_def.specs.Expr.{fuel}
use Rattle.sifc_def.specs.Stmt.{decl}
use Rattle.sifc_def.specs.Walk.{End, end, start, walkers, settled, top_decl, end_read, program, walk}
use Rattle.sifc_def.specs.Typed.{Stmt, Stmts, stop, next, counted, eof_word, pr_s, pr_ss, pr_program, bare, renc_s, renc_ss, renc_program, env_s, OkS, OkSs, OkProgram}
use Rattle.sifc_def.proofs.Round.{Res, and_then, yes-then, no-else, res-map, Fairs, labelled, Made, made_none, made_then, made-push}
use Rattle.sifc_def.proofs.Round.Steps.{first, Ahead, Got, test, sees-length, push_ok}
use Rattle.sifc_def.proofs.Round.Statements.Blocks.{decl_starters, start-decl, member-test, Follow, follow-decls, pr_ss-length}
use Rattle.sifc_def.proofs.Round.Statements.Blocks.Every.{declaration-read}

-- no `if` goes on with the script's end
follow-end : Follow (eof_word ∷ [])
unfolding Follow
follow-end = (refl, refl)

module _ (c : Ctx) where
  -- a declaration that is done is no failure
  settled-ok : (n : ℕ) (o : Out (Unit {0})) (P : St → Type 0) → Res o (λ u. P) → Res (settled c n o) (λ v s. (v ≡ none) × P s)
  unfolding Res settled
  settled-ok n (done a s) P h = (refl, h)
  settled-ok n (fail e s) P h = absurd h
  settled-ok n (refuse r) P h = h

  -- a declaration that is read is no failure at the top
  top-ok : (d : Void) (s : St) (P : St → Type 0) → Res (d s) (λ u. P) → Res (top_decl c d s) (λ v s. (v ≡ none) × P s)
  unfolding top_decl go_on
  top-ok d s P h = settled-ok (length s.nodes) (d s) P h

  -- how a program's reading ends: flag down, and these labels over the nodes ns
  pub record Ended (L : List Lab) (ns : List Node) (e : End) (s : St) : Type 0 where
    pub down : e ≡ end false none
    pub made : Made c L ns s.nodes

  -- the Program node
  end-ok : (n : ℕ) (s : St) (L : List Lab) (ns : List Node) → Made c L ns s.nodes → Res (end_read c n false none s) (Ended (bare Program false n ∷ L) ns)
  unfolding end_read Res scope_of text_of has_token member if◌then◌otherwise◌ go_on
  end-ok n s L ns m =
      and_then (push c Program false n 0 s) _ (λ u s₁. Made c (bare Program false n ∷ L) ns s₁.nodes) (Ended (bare Program false n ∷ L) ns)
      (push_ok c Program false n 0 s (λ u s₁. Made c (bare Program false n ∷ L) ns s₁.nodes) (made-push refl m))
      (λ u s₁ h. record { down = refl; made = h })

  -- no declaration begins with the script's end
  not-eof : (t : Stmt) (E : List Sym) (rest : List W) (s : St) → OkS 0 E t → Ahead c 0 E true (pr_s t rest) s → eqb (tok_at c s.at).kind Eof ≡ false
  unfolding member
  not-eof t E rest s k p = test (λ n. eqb n Eof) false p (member-test (first (pr_s t rest)).kind Eof decl_starters (start-decl t c 0 E rest k) tt)

  -- the loop of parse
  program-ok : (ts : Stmts) (d f n : ℕ) (E : List Sym) (L : List Lab) (ns : List Node) (s : St) → OkSs 0 E ts → counted ts ≤ f → Got c 0 E true L (pr_program ts) ns s
      → Res (program c f (decl c (walkers c d)) n false s) (Ended (bare Program false (n + counted ts) ∷ (renc_ss 0 ts ++ L)) ns)
  unfolding program OkSs pr_ss counted renc_ss Res go_on if◌then◌otherwise◌
  program-ok stop d zero n E L ns s k len h = rw (add-zero n) (end-ok n s L ns h.made)
  program-ok stop d (suc f) n E L ns s k len h = yes-then _ _ _ s _ (test (λ m. eqb m Eof) true h.pre refl) (rw (add-zero n) (end-ok n s L ns h.made))
  program-ok (next t ts) d zero n E L ns s k len h = absurd (not-suc-le-zero len)
  program-ok (next t ts) d (suc f) n E L ns s k len h =
      let Q : End → St → Type 0 = Ended (bare Program false (n + counted (next t ts)) ∷ ((renc_ss 0 ts ++ renc_s 0 t) ++ L)) ns in
      no-else _ _ _ s Q (not-eof t E (pr_program ts) s k.0 h.pre)
      (and_then (top_decl c (decl c (walkers c d)) s) _ (λ v s₁. (v ≡ none) × Got c 0 (env_s 0 E t) true (renc_s 0 t) (pr_program ts) s.nodes s₁) Q
      (top-ok (decl c (walkers c d)) s (Got c 0 (env_s 0 E t) true (renc_s 0 t) (pr_program ts) s.nodes)
      (declaration-read c t d 0 E (pr_program ts) s k.0 (follow-decls ts c 0 (env_s 0 E t) (eof_word ∷ []) k.1 follow-end) h.pre))
      (λ v s₁ q.
      rw q.0
      (res-map (program c f (decl c (walkers c d)) (suc n) false s₁) (Ended (bare Program false (suc n + counted ts) ∷ (renc_ss 0 ts ++ (renc_s 0 t ++ L))) ns) Q
      (program-ok ts d f (suc n) (env_s 0 E t) (renc_s 0 t ++ L) ns s₁ k.1 (omega arith) (record { pre = q.1.pre; made = made_then h.made q.1.made }))
      (λ e s₂ w. record { down = w.down; made = subst₂ (λ (m : ℕ) (ls : List Lab). Made c (bare Program false m ∷ ls) ns s₂.nodes) (omega arith) (sym (append_assoc (renc_ss 0 ts) (renc_s 0 t) L)) w.made }))))

  -- the walk, as arrive and the loop of parse
  pub walk-eq : (depth : ℕ) → walk c depth ≡ go_on (arrive c start) (λ a. program c (suc (fuel c)) (decl c (walkers c depth)) 0 false)
  unfolding walk
  walk-eq depth = refl

  -- a program was read: flag down, and these labels
  pub record ReadAs (L : List Lab) (e : End) (s : St) : Type 0 where
    pub down : e ≡ end false none
    pub labs : map (labelled c) s.nodes ≡ L

  -- COMPLETE, programs: a script whose tokens have the words of a program is read as that program, flag down, at any depth limit and in any rooms, unless a
  -- refusal 6 to 9 is given
  pub program-read : (ts : Stmts) (depth : ℕ) → ((i : ℕ) → eqb (tok_at c i).kind LexPanic ≡ false) → map (word_in c.script) c.toks ≡ pr_program ts → OkProgram ts → Res (walk c depth) (ReadAs (renc_program ts))
  unfolding arrive renc_program Fairs go_on if◌then◌otherwise◌
  program-read ts depth calm sees k =
      let p : Ahead c 0 [] true (pr_program ts) start = record { calm = calm; sees = sees; stands = record { level = refl; names = refl; fair = tt; check = refl } } in
      rw (walk-eq depth, calm 0)
      (res-map (program c (suc (fuel c)) (decl c (walkers c depth)) 0 false start) (Ended (bare Program false (0 + counted ts) ∷ (renc_ss 0 ts ++ [])) []) (ReadAs (bare Program false (counted ts) ∷ renc_ss 0 ts))
      (program-ok ts depth (suc (fuel c)) 0 [] [] [] start k (let z = pr_ss-length ts (eof_word ∷ []) in let y = sees-length p in omega arith) (record { pre = p; made = made_none }))
      (λ e s w.
      record {
        down = w.down;
        labs =
            ap (λ (ns : List Node). map (labelled c) ns) (w.made.nodes ∙ append-nil w.made.new) ∙ w.made.labs
            ∙ ap₂ (λ (m : ℕ) (ls : List Lab). bare Program false m ∷ ls) (zero-add (counted ts)) (append-nil (renc_ss 0 ts));
      }))
