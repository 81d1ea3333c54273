-- Soundness of programs: a script that is read with the flag down is a typed program, with these labels; and what reading its print comes to.
use Prim.Native.Nat.{ℕ, zero, suc, ◌+◌}
use Rattle.std.specs.Prelude.{◌≡◌, Bool, not, eqb, length}
use Rattle.std.proofs.Math.Path.{refl, ap, ap₂, subst, subst₂}
use Rattle.std.proofs.Common.{sym, ◌∙◌, arith, zero-add, add-zero}
use mathlib.Core.List.{List, [], ◌∷◌, ◌++◌, map, append_assoc, append-nil}
use Rattle.std.proofs.Math.Option.{Option, none, some}
use Rattle.std.proofs.Math.Bool.{true, false}
use Rattle.std.proofs.Math.Dec.{T}
use Rattle.sifc_word.specs.Base.{if◌then◌otherwise◌, member}
use Rattle.sifc_word.specs.Kind.{Eof, LexPanic}
use Rattle.sifc_def.specs.declared.Err.{Err}
use Rattle.sifc_def.specs.Ast.{Program}
use Rattle.sifc_def.specs.Error.{continuable}
use Rattle.sifc_def.specs.State.{Node, node, Sym, Ctx, St, Out, done, fail, refuse, M, Void, go_on, W, tok_at, word_at, arrive, set_nodes, push}
use Rattle.sifc_def.specs.Label.{Lab, has_token, scope_of, text_of}
use Rattle.sifc_def.specs.Expr.{fuel}
use Rattle.sifc_def.specs.Stmt.{decl}
use Rattle.sifc_def.specs.Walk.{End, end, start, walkers, give_up, settled, top_decl, end_read, program, walk}
use Rattle.sifc_def.specs.Typed.{Stmts, stop, next, counted, bare, renc_s, renc_ss, renc_program, env_s, OkSs, OkProgram, SaidSs}
use Rattle.sifc_def.proofs.Round.{Fairs, Stands, labelled, Made, made_none, made_then, made-push}
use Rattle.sifc_def.proofs.Round.Program.{walk-eq}
use Rattle.sifc_def.proofs.Round.Sound.{Win, win-then, win-map, win-any, win-if, win-when, pushed, push-sound}
use Rattle.sifc_def.proofs.Round.Sound.Statements.{Declares, declaration-sound}

module _ (c : Ctx) (Good : W → Type 0) (good : (i : ℕ) → Good (word_at c i)) where
  -- a top-level declaration: what it is if it did not fail
  Settled : List Sym → List Node → Option Err → St → Type 0
  Settled E ns none s = Declares c Good good 0 E ns s
  Settled E ns (some e) s = Unit {0}

  -- a top-level declaration that is done is a declaration
  settled-sound : (n : ℕ) (o : Out (Unit {0})) (E : List Sym) (ns : List Node) → Win o (λ u. Declares c Good good 0 E ns) → Win (settled c n o) (Settled E ns)
  unfolding settled give_up set_nodes Settled Win go_on
  settled-sound n (done a s) E ns h = h
  settled-sound n (fail e s) E ns h = tt
  settled-sound n (refuse r) E ns h = tt

  -- a top-level declaration is read
  top_sound : (d : ℕ) (E : List Sym) (s : St) → Stands c 0 E true s → Win (top_decl c (decl c (walkers c d)) s) (Settled E s.nodes)
  unfolding top_decl go_on
  top_sound d E s h = settled-sound (length s.nodes) (decl c (walkers c d) s) E s.nodes (declaration-sound c Good good d 0 E s h)

  -- how a reading ends, whatever its nodes: with this flag
  end-flag : (n : ℕ) (f : Bool) (e : Option Err) (s : St) → Win (end_read c n f e s) (λ v s₁. v.flag ≡ f)
  unfolding end_read Win
  end-flag n f e s = win-then (push c Program false n 0 s) _ (λ u s₁. Unit {0}) (λ v s₁. v.flag ≡ f) (win-any (push c Program false n 0 s)) (λ u s₁ t. refl)

  -- a flag that is up stays up
  pub flag_up : (f : ℕ) (d : Void) (n : ℕ) (s : St) → Win (program c f d n true s) (λ v s₁. v.flag ≡ true)
  unfolding program if◌then◌otherwise◌ go_on
  flag_up zero d n s = end-flag n true none s
  flag_up (suc f) d n s =
      let Q : End → St → Type 0 = λ v s₁. v.flag ≡ true in
      win-if (eqb (tok_at c s.at).kind Eof) _ _ s Q (λ t. end-flag n true none s)
      (λ t. win-then (top_decl c d s) _ (λ o s₁. Unit {0}) Q (win-any (top_decl c d s))
      (λ o s₁ k. elim o as (λ v.
      Win ((elim v as (λ z. M End) [ none ↦ program c f d (suc n) true | some e ↦ if continuable c e.why then program c f d n true otherwise end_read c n true (some e) ]) s₁) Q) [
        | none ↦ flag_up f d (suc n) s₁
        | some e ↦ win-if (continuable c e.why) _ _ s₁ Q (λ t₁. flag_up f d n s₁) (λ t₁. end-flag n true (some e) s₁)
      ]))

  -- the declarations that were read, after n, over what was read before
  record Programmed (n : ℕ) (E : List Sym) (L : List Lab) (ns : List Node) (e : End) (s : St) : Type 0 where
    trees : Stmts
    down : e ≡ end false none
    fit : OkSs 0 E trees
    words : SaidSs Good trees
    made : Made c (bare Program false (n + counted trees) ∷ (renc_ss 0 trees ++ L)) ns s.nodes

  -- the Program node
  end-sound : (n : ℕ) (E : List Sym) (L : List Lab) (ns : List Node) (s : St) → Made c L ns s.nodes → Win (end_read c n false none s) (λ e s₁. T (not e.flag) → Programmed n E L ns e s₁)
  unfolding end_read Win counted OkSs SaidSs renc_ss scope_of text_of has_token member if◌then◌otherwise◌
  end-sound n E L ns s md =
      win-then (push c Program false n 0 s) _ (λ u s₁. s₁ ≡ pushed Program false n 0 s) (λ e s₁. T (not e.flag) → Programmed n E L ns e s₁) (push-sound c Program false n 0 s (λ u s₁. s₁ ≡ pushed Program false n 0 s) refl)
      (λ u s₁ e₁.
      rw e₁
      (λ t. record { trees = stop; down = refl; fit = tt; words = tt; made = subst (λ (k : ℕ). Made c (bare Program false k ∷ L) ns (node Program false n 0 ∷ s.nodes)) (sym (add-zero n)) (made-push refl md) }))

  -- a flag is not up and down
  clash : (b : Bool) → b ≡ true → T (not b) → ⊥
  clash true e t = t
  clash false e t = subst (λ (x : Bool). T (not x)) e tt

  -- the loop of parse reads declarations
  program-sound : (d f n : ℕ) (E : List Sym) (L : List Lab) (ns : List Node) (s : St) → Made c L ns s.nodes → Stands c 0 E true s → Win (program c f (decl c (walkers c d)) n false s) (λ e s₁. T (not e.flag) → Programmed n E L ns e s₁)
  unfolding program Settled counted OkSs SaidSs renc_ss if◌then◌otherwise◌ go_on
  program-sound d zero n E L ns s md h = end-sound n E L ns s md
  program-sound d (suc f) n E L ns s md h =
      let Q : End → St → Type 0 = λ e s₁. T (not e.flag) → Programmed n E L ns e s₁ in
      win-if (eqb (tok_at c s.at).kind Eof) _ _ s Q (λ t. end-sound n E L ns s md)
      (λ t. win-then (top_decl c (decl c (walkers c d)) s) _ (Settled E s.nodes) Q (top_sound d E s h)
      (λ o s₁ k. go o s₁ k (λ q. program-sound d f (suc n) (env_s 0 E q.tree) (renc_s 0 q.tree ++ L) ns s₁ (made_then md q.made) q.inn)))
    where
      go : (o : Option Err) (s₁ : St) → Settled E s.nodes o s₁
          → ((q : Declares c Good good 0 E s.nodes s₁) → Win (program c f (decl c (walkers c d)) (suc n) false s₁) (λ e s₂. T (not e.flag) → Programmed (suc n) (env_s 0 E q.tree) (renc_s 0 q.tree ++ L) ns e s₂))
          → Win (let m : M End = elim o [
            | none ↦ program c f (decl c (walkers c d)) (suc n) false
            | some e ↦ if continuable c e.why then program c f (decl c (walkers c d)) n true otherwise end_read c n true (some e)
          ] in m s₁) (λ e s₂. T (not e.flag) → Programmed n E L ns e s₂)
      go none s₁ q ih =
          win-map (program c f (decl c (walkers c d)) (suc n) false s₁) (λ e s₂. T (not e.flag) → Programmed (suc n) (env_s 0 E q.tree) (renc_s 0 q.tree ++ L) ns e s₂) (λ e s₂. T (not e.flag) → Programmed n E L ns e s₂)
          (ih q)
          (λ e s₂ w t.
          let p : Programmed (suc n) (env_s 0 E q.tree) (renc_s 0 q.tree ++ L) ns e s₂ = w t in
          record {
            trees = next q.tree p.trees;
            down = p.down;
            fit = (q.fit, p.fit);
            words = (q.words, p.words);
            made = subst₂ (λ (m : ℕ) (ls : List Lab). Made c (bare Program false m ∷ ls) ns s₂.nodes) (omega arith) (sym (append_assoc (renc_ss 0 p.trees) (renc_s 0 q.tree) L)) p.made;
          })
      go (some e) s₁ q ih =
          win-if (continuable c e.why) _ _ s₁ (λ v s₂. T (not v.flag) → Programmed n E L ns v s₂)
          (λ t₁. win-map (program c f (decl c (walkers c d)) n true s₁) (λ v s₂. v.flag ≡ true) (λ v s₂. T (not v.flag) → Programmed n E L ns v s₂) (flag_up f (decl c (walkers c d)) n s₁) (λ v s₂ u t₂. absurd (clash v.flag u t₂)))
          (λ t₁. win-map (end_read c n true (some e) s₁) (λ v s₂. v.flag ≡ true) (λ v s₂. T (not v.flag) → Programmed n E L ns v s₂) (end-flag n true (some e) s₁) (λ v s₂ u t₂. absurd (clash v.flag u t₂)))

  -- a script is a program: its typed tree, that it is Ok, where its words come from, and the labels of its nodes
  pub record IsProgram (e : End) (s : St) : Type 0 where
    pub trees : Stmts
    pub down : e ≡ end false none
    pub fit : OkProgram trees
    pub words : SaidSs Good trees
    pub labs : map (labelled c) s.nodes ≡ renc_program trees

  -- SOUND, programs: a script that is read with the flag down is a typed program that is Ok, with these labels
  pub program-is-typed : (depth : ℕ) → Win (walk c depth) (λ e s. T (not e.flag) → IsProgram e s)
  unfolding arrive renc_program Fairs Win if◌then◌otherwise◌ go_on
  program-is-typed depth =
      rw (walk-eq c depth)
      (win-then (arrive c start) _ (λ u s. s ≡ start) (λ e s. T (not e.flag) → IsProgram e s)
      (win-when (eqb (tok_at c 0).kind LexPanic) _ _ (λ u s. s ≡ start) (λ t. tt) (λ t. refl))
      (λ u s e₀.
      rw e₀
      (win-map (program c (suc (fuel c)) (decl c (walkers c depth)) 0 false start) (λ e s₁. T (not e.flag) → Programmed 0 [] [] [] e s₁) (λ e s₁. T (not e.flag) → IsProgram e s₁)
      (program-sound depth (suc (fuel c)) 0 [] [] [] start made_none (record { level = refl; names = refl; fair = tt; check = refl }))
      (λ e s₁ w t.
      let p : Programmed 0 [] [] [] e s₁ = w t in
      record {
        trees = p.trees;
        down = p.down;
        fit = p.fit;
        words = p.words;
        labs =
            ap (λ (ns : List Node). map (labelled c) ns) (p.made.nodes ∙ append-nil p.made.new) ∙ p.made.labs
            ∙ ap₂ (λ (m : ℕ) (ls : List Lab). bare Program false m ∷ ls) (zero-add (counted p.trees)) (append-nil (renc_ss 0 p.trees));
      }))))
