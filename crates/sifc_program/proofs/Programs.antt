-- What the proofs of the walk over all declarations cite.
use Rattle.std.specs.Prelude.{ℕ, zero, suc, ◌+◌, ◌-◌, ◌≤◌, ◌<◌, ◌≡◌, refl, ◌⊎◌, List, [], Bool, true, false, length, get_or, drop, ltb, eqb, Option as Maybe, None, Some, Result, Ok, Err as Stopped, IfOk, IsErr, IsErrAnd}
use Rattle.std.proofs.Common.{add-one, arith, sym, ap, ap₂, ◌∙◌, inl, inr, eq-eqb, ne_eqb, ltb-true, ltb-false}
use Rattle.std.proofs.Math.ListN.{length-append}
use Rattle.std.proofs.Math.Option.{none, some}
use Rattle.std.proofs.Math.Path.{subst}
use Rattle.sifc_err.specs.declared.Refusal.{Refusal}
use Rattle.sifc_err.specs.declared.Refusal.TheVariants.{SourceFault}
use Rattle.sifc_word.specs.Base.{if◌then◌otherwise◌}
use Rattle.sifc_word.specs.Kind.{Eof, LexPanic}
use Rattle.sifc_lex.specs.Lex.{lex}
use Rattle.sifc_def.specs.declared.Err.{Err}
use Rattle.sifc_def.specs.Why.{Why}
use Rattle.sifc_err.specs.declared.parse_err.ParseErrTy.TheVariants.{InvalidIdent, InvalidTkn, InvalidTknMsg, InvalidAssign, InvalidForStmt, InvalidIfStmt, TknMismatch, FnParmCntExceeded, WrongFnParmCnt, UndeclSym, UnassignedVar, ExpectedIdent}
use Rattle.sifc_def.specs.Error.{continuable}
use Rattle.sifc_def.specs.State.{Node, Ctx, St, Out, done, fail, refuse, Void, go_on, tok_at, arrive, set_nodes, keep}
use Rattle.sifc_def.specs.Expr.{fuel}
use Rattle.sifc_def.specs.Stmt.{decl}
use Rattle.sifc_def.specs.Walk.{End, end, start, walkers, give_up, settled, top_decl, end_read, program, walk}
use Rattle.sifc_def.specs.Read.{depth_limit}
use Rattle.sifc_def.proofs.OutcomeLaws.{Holds, by-test}
use Rattle.sifc_def.proofs.GroveLaws.{Kept as Under, grows_none}
use Rattle.sifc_def.proofs.StepLaws.{Each, FairErr, clash}
use Rattle.sifc_def.proofs.StmtLaws.{Broke as Failing, Decl, decl-does}
use Rattle.sifc_def.proofs.TokLaws.{worth, lexed-toks}
use Rattle.sifc_def.proofs.WalkLaws.{good-walkers, Far, FarOf, After, top-far}
use Rattle.sifc_symtab.specs.Table.{listed, syms_of}
use Rattle.sifc_symtab.specs.Toks.{toks_of, length-toks}
use Rattle.sifc_step.specs.declared.walk.Limits.{Limits}
use Rattle.sifc_step.specs.declared.walk.Parser.{Parser}
use Rattle.sifc_step.specs.declared.walk.Stop.{Stop}
use Rattle.sifc_step.specs.declared.walk.Stop.TheVariants.{Failed, Refused}
use Rattle.sifc_step.specs.declared.walk.Walked.{Walked}
use Rattle.sifc_step.specs.Abs.{Inp, Mem, inp, Walk, inp_of, mem_of, walk_of, rooms_of, ctx_of, ctx_at, abs, abs_at, nodes_of, listed_by, with_err, outcome_of, kind_at, here, ReadyOf, Ready, Fine, Broke, Kept, Does, lifted}
use Rattle.sifc_step.specs.Book.{last_of, walk_in, Walks}
use Rattle.sifc_step.proofs.Steps.{kind-is, off-is, length-nodes, kept-same, kept-on, ctx-kept}
use Rattle.sifc_step.proofs.Book.{notes-none}
use Rattle.sifc_block.specs.declared.book.Book.{Book}
use Rattle.sifc_block.specs.Lists.{Holding, Booked, KeptBook, Lists, Noting, Noted}
use Rattle.sifc_block.proofs.Steps.{book-same, book-on}
use Rattle.sifc_program.specs.Program.{Starts, Started, does_go_on, start_walk, ended}

-- ── one turn of the definition's loop ──

-- the state after a failed declaration
abbrev backed : ℕ → St → St
backed m s = record { at = s.at; nodes = keep m s.nodes; syms = s.syms; level = s.level; check = s.check; errs = s.errs }

module _ (c : Ctx) (d : Void) (s : St) where
  top-done : {s' : St} → d s ≡ done tt s' → top_decl c d s ≡ done none s'
  unfolding top_decl settled go_on
  top-done e = rw e refl

  top-fail : {s' : St} {x : Err} → d s ≡ fail x s' → top_decl c d s ≡ done (some x) (backed (length s.nodes) s')
  unfolding top_decl settled give_up set_nodes go_on
  top-fail e = rw e refl

  top-refuse : {r : Refusal} → d s ≡ refuse r → top_decl c d s ≡ refuse r
  unfolding top_decl settled go_on
  top-refuse e = rw e refl

  module _ (f n : ℕ) (flag : Bool) where
    turn-eof : eqb (tok_at c s.at).kind Eof ≡ true → program c (suc f) d n flag s ≡ end_read c n flag none s
    unfolding program go_on if◌then◌otherwise◌
    turn-eof k = rw k refl

    module _ (k : eqb (tok_at c s.at).kind Eof ≡ false) where
      turn-done : {s' : St} → d s ≡ done tt s' → program c (suc f) d n flag s ≡ program c f d (suc n) flag s'
      unfolding program go_on if◌then◌otherwise◌
      turn-done e = rw (k, top-done e) refl

      turn-refuse : {r : Refusal} → d s ≡ refuse r → program c (suc f) d n flag s ≡ refuse r
      unfolding program go_on if◌then◌otherwise◌
      turn-refuse e = rw (k, top-refuse e) refl

      turn-fail : {s' : St} {x : Err} → d s ≡ fail x s'
          → program c (suc f) d n flag s ≡ (if continuable c x.why then program c f d n true otherwise end_read c n true (some x)) (backed (length s.nodes) s')
      unfolding program go_on if◌then◌otherwise◌
      turn-fail e = rw (k, top-fail e) refl

-- ── reasons ──

pub goes-on-is : (c : Ctx) (w : Why) → continuable c w ≡ does_go_on w
goes-on-is c (InvalidIdent i) = refl
goes-on-is c (InvalidTkn i) = refl
goes-on-is c (InvalidTknMsg m) = refl
goes-on-is c (InvalidAssign i) = refl
goes-on-is c InvalidForStmt = refl
goes-on-is c InvalidIfStmt = refl
goes-on-is c (TknMismatch k i) = refl
goes-on-is c (FnParmCntExceeded n) = refl
goes-on-is c (WrongFnParmCnt n m) = refl
goes-on-is c (UndeclSym i) = refl
goes-on-is c (UnassignedVar i) = refl
goes-on-is c (ExpectedIdent i) = refl

listed-most : (w : Why) → listed_by w ≤ 2
listed-most (InvalidIdent i) = omega arith
listed-most (InvalidTkn i) = omega arith
listed-most (InvalidTknMsg m) = by-test (eqb m 3)
  where
    by-test : (b : Bool) → elim b [ true ↦ 2 | false ↦ 1 ] ≤ 2
    by-test true = omega arith
    by-test false = omega arith
listed-most (InvalidAssign i) = omega arith
listed-most InvalidForStmt = omega arith
listed-most InvalidIfStmt = omega arith
listed-most (TknMismatch k i) = omega arith
listed-most (FnParmCntExceeded n) = omega arith
listed-most (WrongFnParmCnt n m) = omega arith
listed-most (UndeclSym i) = omega arith
listed-most (UnassignedVar i) = omega arith
listed-most (ExpectedIdent i) = omega arith

length-with : (k : ℕ) (e : Err) (E : List Err) → k ≤ 2 → length (with_err k e E) ≡ length E + k
length-with zero e E h = omega arith
length-with (suc zero) e E h = omega arith
length-with (suc (suc zero)) e E h = omega arith
length-with (suc (suc (suc k))) e E h = absurd (let z : ⊥ = omega arith in z)

fair-first : (P : Err → Type 0) (k : ℕ) (e : Err) (E : List Err) → (k ≡ 0 → ⊥) → Each P (with_err k e E) → P e
unfolding Each
fair-first P zero e E ne h = absurd (ne refl)
fair-first P (suc zero) e E ne h = h.0
fair-first P (suc (suc k)) e E ne h = h.0

-- ── the nodes that are left ──

keep-from : (hs ls : List ℕ) (k m : ℕ) → m ≤ k → drop (k - m) (nodes_of k hs ls) ≡ nodes_of m hs ls
unfolding nodes_of
keep-from hs ls zero m h = let z : m ≡ 0 = omega arith in rw z refl
keep-from hs ls (suc k) m h = pick (ltb m (suc k)) refl (λ l. keep-from hs ls k m l)
  where
    pick : (b : Bool) → ltb m (suc k) ≡ b → (m ≤ k → drop (k - m) (nodes_of k hs ls) ≡ nodes_of m hs ls) → drop (suc k - m) (nodes_of (suc k) hs ls) ≡ nodes_of m hs ls
    pick true t below =
        let l : m < suc k = ltb-true m (suc k) t in
        ap (λ (i : ℕ). drop i (nodes_of (suc k) hs ls)) (let z : suc k - m ≡ suc (k - m) = omega arith in z) ∙ below (omega arith)
    pick false t below =
        let l : suc k ≤ m = ltb-false m (suc k) t in
        ap (λ (i : ℕ). drop i (nodes_of (suc k) hs ls)) (let z : suc k - m ≡ 0 = omega arith in z) ∙ ap (λ (i : ℕ). nodes_of i hs ls) (let z : suc k ≡ m = omega arith in z)

-- a failed declaration leaves no nodes
backed-is : (I : Inp) (E : List Err) (q : Parser) (m : ℕ) → m ≤ q.nodes → backed m (abs I E (walk_of q) (mem_of q)) ≡ abs I E (walk_of (record q { nodes = m })) (mem_of q)
unfolding keep
backed-is I E q m h =
    ap (λ (ns : List Node). record { at = q.at; nodes = ns; syms = syms_of I.script I.offs I.words q.symbols.now q.stored; level = q.level; check = q.check; errs = E })
    (ap (λ (i : ℕ). drop (i - m) (nodes_of q.nodes q.head.now q.load.now)) (length-nodes q.nodes q.head.now q.load.now) ∙ keep-from q.head.now q.load.now q.nodes m h)

under-length : {ns ns' : List Node} → Under ns ns' → length ns ≤ length ns'
under-length {ns} {ns'} k = omega (arith, ap length k.is, length-append k.new ns)

-- ── the loop ──

-- Parser::new looks at the first token
walk-arrives : (c : Ctx) (d : ℕ) (X : Out End → Type 0) → (eqb (tok_at c 0).kind LexPanic ≡ true → X (refuse (SourceFault c.fault (tok_at c 0).off)))
    → (eqb (tok_at c 0).kind LexPanic ≡ false → X (program c (suc (fuel c)) (decl c (walkers c d)) 0 false start)) → X (walk c d)
unfolding walk arrive go_on
walk-arrives c d X p q = by-test (eqb (tok_at c 0).kind LexPanic) _ _ (λ (o : Out (Unit {0})). X (go_on o (λ u. program c (suc (fuel c)) (decl c (walkers c d)) 0 false))) p q

holds_of : {A : Type 0} {P : A → St → Type 0} {Q : St → Type 0} {o : Out A} {a : A} {s : St} → Holds o P Q → o ≡ done a s → P a s
holds_of {A} {P} {Q} {o} {a} {s} h e = let z : Holds (done a s) P Q = subst (λ (x : Out A). Holds x P Q) e h in z.holds

fails_of : {A : Type 0} {P : A → St → Type 0} {Q : St → Type 0} {o : Out A} {x : Err} {s : St} → Holds o P Q → o ≡ fail x s → Q s
fails_of {A} {P} {Q} {o} {x} {s} h e = let z : Holds (fail x s) P Q = subst (λ (y : Out A). Holds y P Q) e h in z.holds

-- the declarations, where so many counted calls may be active
abbrev declare : Ctx → Void
declare c = decl c (walkers c depth_limit)

-- what is left of the declarations gives what the whole walk is to give
pub record Parsing (p₀ : Parser) (b₀ : Book) (p : Parser) (b : Book) (n : ℕ) (flag : Bool) : Type 0 where
  pub lexed : toks_of p₀.offs.now p₀.words.now ≡ lex p₀.script.now
  pub f : ℕ
  pub enough : length p₀.words.now < f + p.at
  pub kept : Kept p₀ p
  pub kept-book : KeptBook b₀ b
  pub is : Ready p
  pub book : Booked p b
  pub few : n ≤ p.at
  pub far : Far (ctx_at p₀) (worth (lex p₀.script.now)) (lexed-toks (ctx_at p₀) p₀.script.now lexed) n (abs (inp_of p₀) book.errs (walk_of p) (mem_of p))
  pub left : walk (ctx_at p₀) depth_limit ≡ program (ctx_at p₀) f (declare (ctx_at p₀)) n flag (abs (inp_of p₀) book.errs (walk_of p) (mem_of p))

-- nothing read yet
start_is : (I : Inp) (M : Mem) → abs I [] start_walk M ≡ start
unfolding nodes_of syms_of listed
start_is I M = refl

module _ {s os ks hs ls ps rs : List ℕ} {l : Limits} (st : Starts s os ks hs ls ps rs l) (M : Mem) where
  some-token : 0 < length ks
  some-token = omega (arith, (lexed-toks (ctx_of (inp s os ks l) M) s st.lexed).some, length-toks os ks st.toks.even, st.toks.even)

  front : (tok_at (ctx_of (inp s os ks l) M) 0).kind ≡ kind_at ks 0
  front = kind-is (inp s os ks l) (rooms_of M) 0 st.toks some-token

  pub starts-here : 0 < length ks
  starts-here = some-token

  pub starts-offs : 0 < length os
  starts-offs = omega (arith, some-token, st.toks.even)

  -- a lexing panic in front
  pub parse-panics : kind_at ks 0 ≡ 48 → walk (ctx_of (inp s os ks l) M) depth_limit ≡ refuse (SourceFault l.fault (get_or os 0 0))
  parse-panics k =
      let c : Ctx = ctx_of (inp s os ks l) M in
      walk-arrives c depth_limit (λ (z : Out End). z ≡ refuse (SourceFault l.fault (get_or os 0 0))) (λ t. ap (λ (i : ℕ). refuse (SourceFault l.fault i)) (off-is (inp s os ks l) (rooms_of M) 0 st.toks some-token))
      (λ t. absurd (clash (eq-eqb (tok_at c 0).kind 48 (front ∙ k)) t))

pub parsing : {p : Parser} {b : Book} → Started p b → Parsing p b p b 0 false
unfolding Each
parsing {p} {b} h =
    let st = h.starts in
    let I : Inp = inp_of p in
    let M : Mem = mem_of p in
    let c : Ctx = ctx_at p in
    let e : start_walk ≡ walk_of p = sym h.new in
    let k = front st M in
    let some = some-token st M in
    let calm : eqb (tok_at c 0).kind 48 ≡ false = ne_eqb (tok_at c 0).kind 48 (λ z. h.calm (sym k ∙ z)) in
    let first : ReadyOf I M start_walk = record {
      stands = record { toks = st.toks; here = some; calm = h.calm };
      even = st.even;
      used = omega arith;
      holds = h.holds;
      level = omega arith;
      room = omega arith;
    } in
    let far : Far c (worth (lex p.script.now)) (lexed-toks c p.script.now st.lexed) 0 start = record {
      well = record { here = (lexed-toks c p.script.now st.lexed).some; calm = calm; level = omega arith; syms = tt; errs = tt };
      few = omega arith;
      names = omega arith;
      errors = omega arith;
      grows = grows_none [];
    } in
    let same : start ≡ abs I [] (walk_of p) M = sym (start_is I M) ∙ ap (λ (w : Walk). abs I [] w M) e in
    record {
      lexed = st.lexed;
      f = suc (fuel c);
      enough = omega (arith, length-toks p.offs.now p.words.now st.toks.even, st.toks.even);
      kept = kept-same p;
      kept-book = book-same b;
      is = subst (λ (w : Walk). ReadyOf I M w) e first;
      book = record { errs = []; notes = notes-none b.places.now b.reasons.now; count = ap (λ (w : Walk). w.errors) e; even = st.even-errors; room = st.room };
      few = omega arith;
      far = subst (λ (z : St). Far c (worth (lex p.script.now)) (lexed-toks c p.script.now st.lexed) 0 z) same far;
      left = walk-arrives c depth_limit (λ (z : Out End). z ≡ program c (suc (fuel c)) (declare c) 0 false start) (λ t. absurd (clash t calm)) (λ t. refl)
          ∙ ap (λ (z : St). program c (suc (fuel c)) (declare c) 0 false z) same;
    }

-- ── how it ends ──

-- in the words of the parser at the start
module _ {p₀ p : Parser} (k : Kept p₀ p) where
  as-first : {A : Type 0} (m : Ctx → St → Out A) (E : List Err) → m (ctx_at p) (abs_at E p) ≡ m (ctx_at p₀) (abs (inp_of p₀) E (walk_of p) (mem_of p))
  as-first m E = ap (λ (c : Ctx). m c (abs_at E p)) (ctx-kept k) ∙ ap (λ (I : Inp). m (ctx_at p₀) (abs I E (walk_of p) (mem_of p))) k.inp

  -- the Program node after the errors E
  pub closes : (b : Book) (n : ℕ) (flag : Bool) (last : Maybe Err) (E : List Err) (r : Result Walked Refusal) {q : Parser} → Ready p → Holding b E → length E ≡ p.errors → p.lim.errors ≡ length b.places.now
      → walk (ctx_at p₀) depth_limit ≡ end_read (ctx_at p₀) n flag (last_of last) (abs (inp_of p₀) E (walk_of p) (mem_of p))
      → Does 0 (λ c. end_read c n flag (last_of last)) p (lifted (ended r)) q → IfOk r (λ w. walk_in w ≡ walk_of q)
      → Walks (inp_of p₀) (mem_of p₀) r (mem_of q) b.places.now b.reasons.now
  closes b n flag last E (Ok w) {q} rp notes count room is d h =
      let f : Fine (inp_of p) (mem_of q) (0 + p.at) p.errors (walk_of q) = d.fine rp in
      let e : walk_of q ≡ walk_in w = sym h in
      record {
        listed = E;
        notes = notes;
        errors = count ∙ sym f.errors ∙ ap (λ (x : Walk). x.errors) e;
        is = is ∙ sym (as-first (λ c. end_read c n flag (last_of last)) E) ∙ sym (d.same rp E count) ∙ ap₂ (λ (I : Inp) (x : Walk). done (end w.flag (last_of w.last)) (abs I E x (mem_of q))) k.inp e;
        fine = subst (λ (x : Walk). ReadyOf (inp_of p₀) (mem_of q) x) e (subst (λ (I : Inp). ReadyOf I (mem_of q) (walk_of q)) k.inp (record {
          stands = record { toks = rp.stands.toks; here = f.here; calm = f.calm };
          even = d.kept.head ∙ rp.even ∙ sym d.kept.load;
          used = f.used;
          holds = f.holds;
          level = f.level;
          room = f.room;
        }));
        room = omega (arith, ap (λ (x : Walk). x.errors) e, f.errors, rp.room, room);
      }
  closes b n flag last E (Stopped g) rp notes count room is d h = is ∙ sym (as-first (λ c. end_read c n flag (last_of last)) E) ∙ sym (d.same rp E count)

module _ {p₀ : Parser} {b₀ : Book} {p : Parser} {b : Book} {n : ℕ} {flag : Bool} (t : Parsing p₀ b₀ p b n flag) where
  abbrev I : Inp
  I = inp_of p₀

  abbrev c₀ : Ctx
  c₀ = ctx_at p₀

  abbrev s₀ : List ℕ
  s₀ = p₀.script.now

  abbrev now_is : St
  now_is = abs (inp_of p₀) t.book.errs (walk_of p) (mem_of p)

  words_same : p.words.now ≡ p₀.words.now
  words_same = ap (λ (J : Inp). J.words) t.kept.inp

  some_left : t.f ≡ suc (t.f - 1)
  some_left = omega (arith, t.enough, t.is.stands.here, ap length words_same)

  front-is : (tok_at c₀ p.at).kind ≡ here p
  front-is =
      ap (λ (c : Ctx). (tok_at c p.at).kind) (sym (ctx-kept t.kept)) ∙ kind-is (inp_of p) (rooms_of (mem_of p)) p.at t.is.stands.toks t.is.stands.here

  left-suc : walk c₀ depth_limit ≡ program c₀ (suc (t.f - 1)) (declare c₀) n flag now_is
  left-suc = t.left ∙ ap (λ (m : ℕ). program c₀ m (declare c₀) n flag now_is) some_left

  -- how many tokens there are
  pub few-tokens : p.at < length p₀.words.now
  few-tokens = omega (arith, t.is.stands.here, ap length words_same)

  pub few-declared : n < 65536
  few-declared = omega (arith, t.few, t.is.stands.here, t.is.stands.toks.few)

  pub at-end : here p ≡ 47 → (r : Result Walked Refusal) {q : Parser} → Does 0 (λ c. end_read c n flag none) p (lifted (ended r)) q → IfOk r (λ w. walk_in w ≡ walk_of q)
      → Walks (inp_of p₀) (mem_of p₀) r (mem_of q) b.places.now b.reasons.now
  at-end k r {q} d h =
      closes t.kept b n flag None t.book.errs r t.is t.book.notes t.book.count t.book.room (left-suc ∙ turn-eof c₀ (declare c₀) now_is (t.f - 1) n flag (eq-eqb _ 47 (front-is ∙ k))) d h

  module _ (ne : here p ≡ 47 → ⊥) where
    not-eof : eqb (tok_at c₀ p.at).kind 47 ≡ false
    not-eof = ne_eqb _ 47 (λ z. ne (sym front-is ∙ z))

    law : Decl c₀ (worth (lex s₀)) (declare c₀)
    law = decl-does c₀ (worth (lex s₀)) (lexed-toks c₀ s₀ t.lexed) (walkers c₀ depth_limit) (good-walkers c₀ (worth (lex s₀)) (lexed-toks c₀ s₀ t.lexed) depth_limit)

    module _ {q : Parser} {d : Book} where
      declared : {r : Result (Unit {0}) Stop} (l : Lists 1 (λ c. decl c (walkers c depth_limit)) p b r q d)
          → declare c₀ now_is ≡ outcome_of I (l.tells t.is t.book.errs t.book.count t.book.notes).errs r (mem_of q) (walk_of q)
      declared {r} l =
          let y = l.tells t.is t.book.errs t.book.count t.book.notes in
          sym (as-first t.kept declare t.book.errs) ∙ sym y.same ∙ ap (λ (J : Inp). outcome_of J y.errs r (mem_of q) (walk_of q)) t.kept.inp

      -- a refusal
      pub refused-at : {f : Refusal} → Lists 1 (λ c. decl c (walkers c depth_limit)) p b (Stopped (Refused f)) q d → Walks I (mem_of p₀) (Stopped f) (mem_of q) d.places.now d.reasons.now
      refused-at l = left-suc ∙ turn-refuse c₀ (declare c₀) now_is (t.f - 1) n flag not-eof (declared l)

      -- a declaration that is read
      module _ (l : Lists 1 (λ c. decl c (walkers c depth_limit)) p b (Ok tt) q d) where
        abbrev errs_read : List Err
        errs_read = (l.tells t.is t.book.errs t.book.count t.book.notes).errs

        after_read : After c₀ (worth (lex s₀)) (lexed-toks c₀ s₀ t.lexed) n none now_is (abs I errs_read (walk_of q) (mem_of q))
        after_read = holds_of (top-far c₀ (worth (lex s₀)) (lexed-toks c₀ s₀ t.lexed) (declare c₀) law n now_is t.far not-eof) (top-done c₀ (declare c₀) now_is (declared l))

        pub read-ahead : p.at < q.at
        read-ahead = after_read.on

        read-ready : Ready q
        read-ready =
            let f : Fine (inp_of p) (mem_of q) (1 + p.at) q.errors (walk_of q) = l.fine t.is in
            subst (λ (J : Inp). ReadyOf J (mem_of q) (walk_of q)) (sym l.kept.inp) (record {
              stands = record { toks = t.is.stands.toks; here = f.here; calm = f.calm };
              even = l.kept.head ∙ t.is.even ∙ sym l.kept.load;
              used = f.used;
              holds = f.holds;
              level = f.level;
              room = f.room;
            })

        pub parsed : Parsing p₀ b₀ q d (n + 1) flag
        unfolding FarOf
        parsed =
            let y = l.tells t.is t.book.errs t.book.count t.book.notes in
            record {
              lexed = t.lexed;
              f = t.f - 1;
              enough = omega (arith, t.enough, some_left, after_read.on);
              kept = kept-on t.kept l.kept;
              kept-book = book-on t.kept-book l.book;
              is = read-ready;
              book = record { errs = y.errs; notes = y.notes; count = y.count; even = l.book.places ∙ t.book.even ∙ sym l.book.reasons; room = ap (λ (J : Inp). J.lim.errors) l.kept.inp ∙ t.book.room ∙ sym l.book.places };
              few = omega (arith, t.few, after_read.on);
              far = subst (λ (m : ℕ). Far c₀ (worth (lex s₀)) (lexed-toks c₀ s₀ t.lexed) m (abs I y.errs (walk_of q) (mem_of q))) (sym (add-one n)) after_read.far;
              left = left-suc ∙ turn-done c₀ (declare c₀) now_is (t.f - 1) n flag not-eof (declared l) ∙ ap (λ (m : ℕ). program c₀ (t.f - 1) (declare c₀) m flag (abs I y.errs (walk_of q) (mem_of q))) (sym (add-one n));
            }

      -- one that fails
      module _ {z : Err} (l : Lists 1 (λ c. decl c (walkers c depth_limit)) p b (Stopped (Failed z)) q d) where
        abbrev many : ℕ
        many = listed_by z.why

        abbrev errs_before : List Err
        errs_before = (l.tells t.is t.book.errs t.book.count t.book.notes).errs

        abbrev errs_failed : List Err
        errs_failed = with_err (listed_by z.why) z errs_before

        fail-is : declare c₀ now_is ≡ fail z (abs I errs_failed (walk_of q) (mem_of q))
        fail-is = declared l

        broke-of : Broke (inp_of p) (mem_of q) (1 + p.at) q.errors (walk_of q)
        broke-of = l.fine t.is

        listed-so : length errs_before + many ≡ q.errors
        listed-so = (l.tells t.is t.book.errs t.book.count t.book.notes).count

        failing : Failing c₀ (worth (lex s₀)) 1 0 0 now_is (abs I errs_failed (walk_of q) (mem_of q))
        failing = fails_of (law now_is t.far.well not-eof) fail-is

        more-nodes : p.nodes ≤ q.nodes
        more-nodes = omega (arith, under-length failing.kept, length-nodes p.nodes p.head.now p.load.now, length-nodes q.nodes q.head.now q.load.now)

        after-fail : After c₀ (worth (lex s₀)) (lexed-toks c₀ s₀ t.lexed) n (some z) now_is (backed (length (nodes_of p.nodes p.head.now p.load.now)) (abs I errs_failed (walk_of q) (mem_of q)))
        after-fail = holds_of (top-far c₀ (worth (lex s₀)) (lexed-toks c₀ s₀ t.lexed) (declare c₀) law n now_is t.far not-eof) (top-fail c₀ (declare c₀) now_is fail-is)

        pub fail-ahead : p.at < q.at
        fail-ahead = after-fail.on

        back_is : backed (length (nodes_of p.nodes p.head.now p.load.now)) (abs I errs_failed (walk_of q) (mem_of q)) ≡ abs I errs_failed (walk_of (record q { nodes = p.nodes })) (mem_of q)
        back_is = ap (λ (m : ℕ). backed m (abs I errs_failed (walk_of q) (mem_of q))) (length-nodes p.nodes p.head.now p.load.now) ∙ backed-is I errs_failed q p.nodes more-nodes

        tokens : length (toks_of p₀.offs.now p₀.words.now) ≤ 65536
        tokens = omega (arith, length-toks p₀.offs.now p₀.words.now first_even, first_even, t.is.stands.toks.few, ap length words_same)
          where
            first_even : length p₀.offs.now ≡ length p₀.words.now
            first_even = ap (λ (J : Inp). length J.offs) (sym t.kept.inp) ∙ t.is.stands.toks.even ∙ ap length words_same

        first_fits : {k : ℕ} → (k < length (toks_of p₀.offs.now p₀.words.now)) ⊎ (k ≤ 64) → k < 65536
        first_fits (inl h) = omega (arith, tokens)
        first_fits (inr h) = omega arith

        -- what note_failure wants
        pub noting : Noting d q.errors z
        noting = record {
          listed = omega (arith, listed-so);
          room = omega (arith, broke-of.room, t.book.room, l.book.places);
          even = l.book.places ∙ t.book.even ∙ sym l.book.reasons;
          fits = λ nz. let g = fair-first (FairErr (length (toks_of p₀.offs.now p₀.words.now))) many z errs_before nz failing.well.errs in record { place = omega (arith, g.place, tokens); first = first_fits g.first; second = g.second };
        }

        -- the parser without its nodes
        abbrev back : Parser
        back = record q { nodes = p.nodes }

        back-kept : Kept p back
        back-kept = record { inp = l.kept.inp; symbols_name = l.kept.symbols_name; head_name = l.kept.head_name; load_name = l.kept.load_name; symbols = l.kept.symbols; head = l.kept.head; load = l.kept.load }

        pub back-ready : Ready back
        back-ready = subst (λ (J : Inp). ReadyOf J (mem_of q) (walk_of back)) (sym l.kept.inp) (record {
          stands = record { toks = t.is.stands.toks; here = broke-of.here; calm = broke-of.calm };
          even = l.kept.head ∙ t.is.even ∙ sym l.kept.load;
          used = omega (arith, t.is.used, l.kept.head);
          holds = broke-of.holds;
          level = broke-of.level;
          room = broke-of.room;
        })

        pub back-all : Kept p₀ back
        back-all = kept-on t.kept back-kept

        turned : walk c₀ depth_limit ≡ (if continuable c₀ z.why then program c₀ (t.f - 1) (declare c₀) n true otherwise end_read c₀ n true (some z)) (abs I errs_failed (walk_of back) (mem_of q))
        turned = left-suc ∙ turn-fail c₀ (declare c₀) now_is (t.f - 1) n flag not-eof fail-is ∙ ap (λ (s : St). (if continuable c₀ z.why then program c₀ (t.f - 1) (declare c₀) n true otherwise end_read c₀ n true (some z)) s) back_is

        module _ {d' : Book} (nt : Noted d q.errors z d') where
          noted : Holding d' errs_failed
          noted = nt.notes errs_before listed-so (l.tells t.is t.book.errs t.book.count t.book.notes).notes

          counts : length errs_failed ≡ q.errors
          counts = length-with many z errs_before (listed-most z.why) ∙ listed-so

          room_of : q.lim.errors ≡ length d'.places.now
          room_of = ap (λ (J : Inp). J.lim.errors) l.kept.inp ∙ t.book.room ∙ sym l.book.places ∙ sym nt.kept.places

          pub back-book : KeptBook b₀ d'
          back-book = book-on t.kept-book (book-on l.book nt.kept)

          -- it is continuable
          pub gone-on : does_go_on z.why ≡ true → Parsing p₀ b₀ back d' n true
          unfolding FarOf if◌then◌otherwise◌
          gone-on g = record {
            lexed = t.lexed;
            f = t.f - 1;
            enough = omega (arith, t.enough, some_left, after-fail.on);
            kept = back-all;
            kept-book = back-book;
            is = back-ready;
            book = record { errs = errs_failed; notes = noted; count = counts; even = nt.kept.places ∙ l.book.places ∙ t.book.even ∙ sym l.book.reasons ∙ sym nt.kept.reasons; room = room_of };
            few = omega (arith, t.few, after-fail.on);
            far = subst (λ (s : St). Far c₀ (worth (lex s₀)) (lexed-toks c₀ s₀ t.lexed) n s) back_is after-fail.far;
            left = turned ∙ ap (λ (x : Bool). (if x then program c₀ (t.f - 1) (declare c₀) n true otherwise end_read c₀ n true (some z)) (abs I errs_failed (walk_of back) (mem_of q))) (goes-on-is c₀ z.why ∙ g);
          }

          -- it is not
          pub given-up : does_go_on z.why ≡ false → (r : Result Walked Refusal) {x : Parser} → Does 0 (λ c. end_read c n true (some z)) back (lifted (ended r)) x → IfOk r (λ w. walk_in w ≡ walk_of x)
              → Walks (inp_of p₀) (mem_of p₀) r (mem_of x) d'.places.now d'.reasons.now
          unfolding if◌then◌otherwise◌
          given-up g r {x} e h =
              closes back-all d' n true (Some z) errs_failed r back-ready noted counts room_of
              (turned ∙ ap (λ (y : Bool). (if y then program c₀ (t.f - 1) (declare c₀) n true otherwise end_read c₀ n true (some z)) (abs I errs_failed (walk_of back) (mem_of q))) (goes-on-is c₀ z.why ∙ g)) e h

-- why a call has no value, by its case
pub stopped-by : {j : ℕ} {f : Ctx → St → Out (Unit {0})} {p q : Parser} {b d : Book} {s x : Stop} → Lists j f p b (Stopped s) q d → s ≡ x → Lists j f p b (Stopped x) q d
stopped-by {j} {f} {p} {q} {b} {d} l e = subst (λ (y : Stop). Lists j f p b (Stopped y) q d) e l

-- ── the Program node that doesn't fit ──

pub ended-stops : {f : Ctx → St → Out End} {p q : Parser} {g : Refusal} (x : Result Walked Refusal) (P : Walked → Type 0) → Does 0 f p (Stopped (Refused g)) q → IsErr x × IsErrAnd x (λ h. h ≡ g) → Does 0 f p (lifted (ended x)) q × IfOk x P
ended-stops (Ok a) P d h = absurd h.1
ended-stops (Stopped s) P d h = (rw h.1 d, tt)
