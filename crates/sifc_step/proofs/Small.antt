-- What the proofs of the small functions cite.
use Rattle.std.specs.Prelude.{ℕ, zero, suc, ◌+◌, ◌-◌, ◌%◌, ◌≤◌, ◌<◌, ◌≡◌, ◌⊎◌, refl, List, ◌∷◌, Bool, true, false, length, get_or, set, eqb, ltb, Result, Ok, Err as Stopped, IsErr, IsErrAnd}
use Rattle.std.proofs.Common.{add-one, sub-one, arith, sym, ap, ◌∙◌, inl, inr, ne_eqb, eq-eqb, lt-ltb, le-ltb, eqb→eq, length-set}
use Rattle.std.proofs.lemmas.Bool.{eqb-false}
use Rattle.std.proofs.Math.Path.{subst}
use Rattle.sifc_err.specs.declared.Refusal.{Refusal}
use Rattle.sifc_err.specs.declared.Refusal.TheVariants.{SourceFault, NodesFull, ErrorsFull}
use Rattle.sifc_word.specs.Base.{if◌then◌otherwise◌}
use Rattle.sifc_def.specs.declared.Err.{Err}
use Rattle.sifc_def.specs.Why.{Why}
use Rattle.sifc_err.specs.declared.parse_err.ParseErrTy.TheVariants.{TknMismatch}
use Rattle.sifc_def.specs.declared.What.{What}
use Rattle.sifc_def.specs.State.{Ctx, err, St, Out, done, fail, refuse, go_on, panic_at, arrive, consume, list, raise, add_error_w_pos, add_error, throw, throw_past, expect, match_ident, or_throw, ident, push}
use Rattle.sifc_def.specs.Symbols.{store, set_level, init_scope, close_scope}
use Rattle.sifc_def.specs.Expr.{separator, literal, single}
use Rattle.sifc_symtab.specs.Table.{Stores, Fits, value_of}
use Rattle.sifc_symtab.specs.Laws.{store_at, store-full}
use Rattle.sifc_step.specs.declared.walk.Parser.{Parser}
use Rattle.sifc_step.specs.declared.walk.Stop.{Stop}
use Rattle.sifc_step.specs.declared.walk.Stop.TheVariants.{Failed, Refused}
use Rattle.sifc_step.specs.declared.walk.Target.{Target}
use Rattle.sifc_step.specs.Abs.{Inp, Mem, Walk, inp_of, mem_of, walk_of, rooms_of, kind_in, flag_in, kids_in, node_in, nodes_of, ctx_at, abs, abs_at, inp, mem, kind_at, here, listed_by, with_err, ReadyOf, Ready, Fine, Broke, Kept, among, Does, passes, lifted, StandsAt}
use Rattle.sifc_step.specs.Small.{OnlyMoves, OnlyLists, OnlyPasses, OnlyGrows, OnlyGrowsPast, over, under, growing, naming, Consumes, Literals, Expects, passes_if, throw_at, Adds, Throwing, ThrowsAt, Throws, Pasts, Pushes, newest_of, accesses, Idents, HeadWord, Accesses, Puts}
use Rattle.sifc_step.proofs.Steps.{At, begin, go, last, kind-is, off-is, kind-here, length-nodes, nodes-more, kept-same, kept-on, ctx-kept, farther, not_last, blank, blanks}

-- ── a parser that stays where it is, and one that moves ──

-- Done, with a parser that has as many errors and stands as far
pub stays : {A : Type 0} {f : Ctx → St → Out A} {p : Parser} {a : A} → (Ready p → (E : List Err) → length E ≡ p.errors → f (ctx_at p) (abs_at E p) ≡ done a (abs_at E p)) → Does 0 f p (Ok a) p
stays {A} {f} {p} {a} h =
    record {
      kept = kept-same p;
      same = λ r E e. sym (h r E e);
      fine = λ r. record { here = r.stands.here; calm = r.stands.calm; used = r.used; holds = r.holds; level = r.level; room = r.room; errors = refl; on = omega arith };
    }

-- refused, wherever it stands
pub refuses : {A : Type 0} {j : ℕ} {f : Ctx → St → Out A} {p q : Parser} {g : Refusal} → Kept p q → (Ready p → (E : List Err) → length E ≡ p.errors → f (ctx_at p) (abs_at E p) ≡ refuse g) → Does j f p (Stopped (Refused g)) q
refuses k h = record { kept = k; same = λ r E e. sym (h r E e); fine = λ r. tt }

-- ── an answer that is an error, passed on by `?` ──

pub conveyed : {A : Type 0} {j : ℕ} {f : Ctx → St → Out A} {p q : Parser} {s : Stop} {x : Result A Stop}
    → Does j f p (Stopped s) q → IsErr x × IsErrAnd x (λ t. t ≡ s) → Does j f p x q
conveyed {x = Ok a} d h = absurd h.1
conveyed {x = Stopped t} d h = rw h.1 d

-- the same to a function that is never failed
pub handed : {A : Type 0} {j : ℕ} {f : Ctx → St → Out A} {p q : Parser} {g : Refusal} (x : Result A Refusal)
    → Does j f p (Stopped (Refused g)) q → IsErr x × IsErrAnd x (λ h. h ≡ g) → Does j f p (lifted x) q
handed (Ok a) d h = absurd h.1
handed (Stopped s) d h = rw h.1 d

-- ── a token passed ──

pub passes-eof : (p : Parser) → here p ≡ 47 → passes p ≡ 0
passes-eof p e = rw (passes, eq-eqb (here p) 47 e) refl

pub passes-one : (p : Parser) → (here p ≡ 47 → ⊥) → passes p ≡ 1
passes-one p e = rw (passes, ne_eqb (here p) 47 e) refl

pub passes_if-no : (ty : ℕ) (p : Parser) → (here p ≡ ty → ⊥) → passes_if ty p ≡ 0
passes_if-no ty p e = rw (passes_if, ne_eqb (here p) ty e) refl

pub passes_if-yes : (ty : ℕ) (p : Parser) → here p ≡ ty → passes_if ty p ≡ passes p
passes_if-yes ty p e = rw (passes_if, eq-eqb (here p) ty e) refl

module _ {p : Parser} where
  rests : here p ≡ 47 → Does (passes p) (λ c. consume c) p (Ok tt) p
  unfolding consume if◌then◌otherwise◌
  rests e = rw (passes-eof p e) (stays (λ r E l. rw (kind-here p r, eq-eqb (here p) 47 e) refl))

  module _ (ne : here p ≡ 47 → ⊥) where
    moves : (kind_at p.words.now (p.at + 1) ≡ 48 → ⊥) → Does (passes p) (λ c. consume c) p (Ok tt) (record p { at = p.at + 1 })
    unfolding consume arrive if◌then◌otherwise◌
    moves nf = rw (passes-one p ne) (record {
      kept = record { inp = refl; symbols_name = refl; head_name = refl; load_name = refl; symbols = refl; head = refl; load = refl };
      same = λ r E l. sym (rw (kind-here p r, ne_eqb (here p) 47 ne, sym (add-one p.at), kind-is (inp_of p) (rooms_of (mem_of p)) (p.at + 1) r.stands.toks (not_last p r.stands ne), ne_eqb (kind_at p.words.now (p.at + 1)) 48 nf) refl);
      fine = λ r. record { here = not_last p r.stands ne; calm = nf; used = r.used; holds = r.holds; level = omega (arith, r.level); room = r.room; errors = refl; on = omega arith };
    })

    faults : kind_at p.words.now (p.at + 1) ≡ 48 → Does (passes p) (λ c. consume c) p (Stopped (Refused (SourceFault p.lim.fault (get_or p.offs.now (p.at + 1) 0)))) p
    unfolding consume arrive if◌then◌otherwise◌
    faults f = refuses (kept-same p) (λ r E l.
        rw (kind-here p r, ne_eqb (here p) 47 ne, sym (add-one p.at), kind-is (inp_of p) (rooms_of (mem_of p)) (p.at + 1) r.stands.toks (not_last p r.stands ne), eq-eqb (kind_at p.words.now (p.at + 1)) 48 f)
        (ap (λ (z : ℕ). refuse (SourceFault p.lim.fault z)) (off-is (inp_of p) (rooms_of (mem_of p)) (p.at + 1) r.stands.toks (not_last p r.stands ne))))

module _ {p : Parser} where
  pub consume-stays : here p ≡ 47 → Consumes p (Ok tt) p
  consume-stays e = record { does = rests e; alone = refl; stays = λ z. (refl, refl); whatever = λ s M. rests {p = over s M p p} e }

  module _ (ne : here p ≡ 47 → ⊥) where
    pub consume-moves : (kind_at p.words.now (p.at + 1) ≡ 48 → ⊥) → Consumes p (Ok tt) (record p { at = p.at + 1 })
    consume-moves nf = record { does = moves ne nf; alone = refl; stays = λ z. absurd (ne z); whatever = λ s M. moves {p = over s M p p} ne nf }

    pub consume-faults : kind_at p.words.now (p.at + 1) ≡ 48 → Consumes p (Stopped (SourceFault p.lim.fault (get_or p.offs.now (p.at + 1) 0))) p
    consume-faults f = record { does = faults ne f; alone = refl; stays = λ z. absurd (ne z); whatever = λ s M. faults {p = over s M p p} ne f }

-- what it promises, over another script and other arrays
consumes-over : {p q : Parser} {r : Result (Unit {0}) Refusal} (s : List ℕ) (M : Mem) → Consumes p r q → Consumes (over s M p p) r (over s M p q)
consumes-over {p} {q} s M d = record {
  does = d.whatever s M;
  alone = ap (λ (x : Parser). over s M p x) d.alone;
  stays = λ z. ((d.stays z).0, ap (λ (x : Parser). over s M p x) (d.stays z).1);
  whatever = λ t N. d.whatever t N;
}

-- ── expect and the separator ──

-- what a call does, another does that comes to it
pub alike : {A : Type 0} {j : ℕ} (f : Ctx → St → Out A) {g : Ctx → St → Out A} {p q : Parser} {x : Result A Stop} → (Ready p → (E : List Err) → length E ≡ p.errors → f (ctx_at p) (abs_at E p) ≡ g (ctx_at p) (abs_at E p)) → Does j f p x q → Does j g p x q
alike f h d = record { kept = d.kept; same = λ r E e. d.same r E e ∙ h r E e; fine = d.fine }

module _ {p : Parser} where
  pub expected : {ty : ℕ} {x : Result (Unit {0}) Stop} {q : Parser} → here p ≡ ty → Does (passes p) (λ c. consume c) p x q → Does (passes_if ty p) (λ c. expect c ty) p x q
  unfolding expect if◌then◌otherwise◌ go_on
  expected {ty} e d = rw (passes_if-yes ty p e) (alike (λ c. consume c) (λ r E l. sym (rw (kind-here p r, eq-eqb (here p) ty e) refl)) d)

  mismatch : (ty : ℕ) → (here p ≡ ty → ⊥) → Does (passes_if ty p) (λ c. expect c ty) p (Stopped (Failed (record { place = p.at; why = TknMismatch ty p.at }))) p
  unfolding expect if◌then◌otherwise◌ go_on raise
  mismatch ty e = rw (passes_if-no ty p e) (record {
    kept = kept-same p;
    same = λ r E l. sym (rw (kind-here p r, ne_eqb (here p) ty e) refl);
    fine = λ r. record { here = r.stands.here; calm = r.stands.calm; used = r.used; holds = r.holds; level = r.level; room = r.room; errors = omega arith; on = inl (omega arith) };
  })

  pub separate-not : here p ≡ 2 → Does 0 (λ c. separator c) p (Ok tt) p
  unfolding separator if◌then◌otherwise◌ go_on
  separate-not e = stays (λ r E l. rw (kind-here p r, eq-eqb (here p) 2 e) refl)

  pub separate-by : {x : Result (Unit {0}) Stop} {q : Parser} → (here p ≡ 2 → ⊥) → Does 0 (λ c. expect c 12) p x q → Does 0 (λ c. separator c) p x q
  unfolding separator if◌then◌otherwise◌ go_on
  separate-by ne d = alike (λ c. expect c 12) (λ r E l. sym (rw (kind-here p r, ne_eqb (here p) 2 ne) refl)) d

module _ {p : Parser} where
  pub expect-yes : {ty : ℕ} {q : Parser} → here p ≡ ty → Consumes p (Ok tt) q → Expects p ty (Ok tt) q
  expect-yes e d = record { does = expected e d.does; alone = d.alone; whatever = λ s M. expected {p = over s M p p} e (d.whatever s M) }

  pub expect-stops : {ty : ℕ} {g : Refusal} {x : Result (Unit {0}) Stop} {q : Parser} → here p ≡ ty → Consumes p (Stopped g) q → IsErr x × IsErrAnd x (λ t. t ≡ Refused g) → Expects p ty x q
  expect-stops e d h = record { does = conveyed (expected e d.does) h; alone = d.alone; whatever = λ s M. conveyed (expected {p = over s M p p} e (d.whatever s M)) h }

  pub expect-no : (ty : ℕ) → (here p ≡ ty → ⊥) → Expects p ty (Stopped (Failed (record { place = p.at; why = TknMismatch ty p.at }))) p
  expect-no ty e = record { does = mismatch ty e; alone = refl; whatever = λ s M. mismatch {p = over s M p p} ty e }

-- fewer tokens than it has passed
pub less : {A : Type 0} {i j : ℕ} {f : Ctx → St → Out A} {p q : Parser} {x : Result A Stop} → j ≤ i → Does i f p x q → Does j f p x q
less {A} {i} {j} {f} {p} {q} {x} h d = record { kept = d.kept; same = d.same; fine = λ r. farther x (inp_of p) (inp_of p) (mem_of q) (walk_of q) (j + p.at) (i + p.at) p.errors p.errors refl (omega arith) refl (d.fine r) }

-- where only that it stays or goes on is asked
pub least : {A : Type 0} {i : ℕ} {f : Ctx → St → Out A} {p q : Parser} {x : Result A Stop} → Does i f p x q → Does 0 f p x q
least d = less (omega arith) d

-- ── nodes ──

-- the parser with a node more
abbrev pub with_node : Parser → ℕ → ℕ → Parser
with_node p h tk = record p { head = record (p.head) { now = set p.head.now p.nodes h }; load = record (p.load) { now = set p.load.now p.nodes tk }; nodes = p.nodes + 1 }

module _ {p : Parser} (h tk : ℕ) where
  full : length p.head.now ≤ p.nodes → Does 0 (λ c. push c (kind_in h) (flag_in h) (kids_in h) tk) p (Stopped (Refused NodesFull)) p
  unfolding push if◌then◌otherwise◌
  full ge = refuses (kept-same p) (λ r E l. rw (length-nodes p.nodes p.head.now p.load.now, le-ltb _ _ ge) refl)

  grown : p.nodes < length p.head.now → Does 0 (λ c. push c (kind_in h) (flag_in h) (kids_in h) tk) p (Ok tt) (with_node p h tk)
  unfolding push if◌then◌otherwise◌
  grown lt =
      let lt2 : Ready p → p.nodes < length p.load.now = λ r. omega (arith, r.even) in
      record {
        kept = record { inp = refl; symbols_name = refl; head_name = refl; load_name = refl; symbols = refl; head = length-set p.head.now p.nodes h; load = length-set p.load.now p.nodes tk };
        same = λ r E l. sym (rw (length-nodes p.nodes p.head.now p.load.now, lt-ltb _ _ lt, nodes-more p.nodes p.head.now p.load.now h tk lt (lt2 r)) refl);
        fine = λ r. record { here = r.stands.here; calm = r.stands.calm; used = simp length-set (omega (arith, lt)); holds = r.holds; level = r.level; room = r.room; errors = refl; on = omega arith };
      }

module _ {p : Parser} (h tk : ℕ) where
  pub push-full : length p.head.now ≤ p.nodes → Pushes p h tk (Stopped NodesFull) p
  push-full ge = record { does = full h tk ge; alone = refl; holds = λ e. e; whatever = λ I ys. full {p = growing I ys p} h tk ge }

  pub push-done : p.nodes < length p.head.now → Pushes p h tk (Ok tt) (with_node p h tk)
  push-done lt = record {
    does = grown h tk lt;
    alone = refl;
    holds = λ e. (length-set p.head.now p.nodes h ∙ e.0 ∙ sym (length-set p.load.now p.nodes tk), simp length-set (omega (arith, lt)));
    whatever = λ I ys. grown {p = growing I ys p} h tk lt;
  }

-- a node by the first word that head_word has made
pub pushed-as : {p q : Parser} {x : Result (Unit {0}) Stop} {k n w : ℕ} {f : Bool} (t : ℕ) → HeadWord k f n w → Does 0 (λ c. push c (kind_in w) (flag_in w) (kids_in w) t) p x q → Does 0 (λ c. push c k f n t) p x q
pushed-as {w = w} t h d = alike (λ c. push c (kind_in w) (flag_in w) (kids_in w) t) (λ r E l. rw (h.kind, h.flag, h.kids) refl) d

-- ── the ends of a table and an array access ──

module _ {p : Parser} (t : Target) (h fault i : ℕ) where
  pub access-faults : (t.head % 32 ≡ 24 → ⊥) → i < length p.offs.now → Does 0 (accesses t h fault i) p (Stopped (Refused (SourceFault fault (get_or p.offs.now i 0)))) p
  unfolding single panic_at if◌then◌otherwise◌ go_on
  access-faults ne lt = refuses (kept-same p) (λ r E l. rw (ne_eqb (t.head % 32) 24 ne) (ap (λ (z : ℕ). refuse (SourceFault fault z)) (off-is (inp_of p) (rooms_of (mem_of p)) i r.stands.toks (omega (arith, lt, r.stands.toks.even)))))

  pub access-pushes : t.head % 32 ≡ 24 → {x : Result (Unit {0}) Stop} {q : Parser} → Does 0 (λ c. push c (kind_in h) (flag_in h) (kids_in h) 0) p x q → Does 0 (accesses t h fault i) p x q
  unfolding single if◌then◌otherwise◌ go_on
  access-pushes e d = alike (λ c. push c (kind_in h) (flag_in h) (kids_in h) 0) (λ r E l. sym (rw (eq-eqb (t.head % 32) 24 e) refl)) d

-- what is promised, by what the node's end is
pub access-is : {p : Parser} {t : Target} {h fault i : ℕ} {x : Result (Unit {0}) Refusal} {q : Parser} → (t.head % 32 ≡ 24) → Pushes p h 0 x q → Accesses p t h fault i x q
access-is {p} {t} {h} {fault} {i} e d = record {
  does = access-pushes t h fault i e d.does;
  alone = d.alone;
  whatever = λ s ks ys l. access-pushes t h fault i e (d.whatever (inp s p.offs.now ks l) ys);
}

pub access-refused : {p : Parser} (t : Target) (h fault i : ℕ) → (t.head % 32 ≡ 24 → ⊥) → i < length p.offs.now → Accesses p t h fault i (Stopped (SourceFault fault (get_or p.offs.now i 0))) p
access-refused {p} t h fault i ne lt = record {
  does = access-faults t h fault i ne lt;
  alone = refl;
  whatever = λ s ks ys l. access-faults {p = growing (inp s p.offs.now ks l) ys p} t h fault i ne lt;
}

-- ── errors ──

module _ {p : Parser} (why : Why) (lw : listed_by why ≡ 1) where
  raised : {A : Type 0} {f : Ctx → St → Out A} (i : ℕ) → p.errors < p.lim.errors
      → ((E : List Err) → length E ≡ p.errors → f (ctx_at p) (abs_at E p) ≡ fail (err i why) (abs_at (err i why ∷ E) p))
      → Does 0 f p (Stopped (Failed (err i why))) (record p { errors = p.errors + 1 })
  raised i lt h =
      record {
        kept = record { inp = refl; symbols_name = refl; head_name = refl; load_name = refl; symbols = refl; head = refl; load = refl };
        same = λ r E l. rw lw (sym (h E l));
        fine = λ r. record { here = r.stands.here; calm = r.stands.calm; used = r.used; holds = r.holds; level = r.level; room = omega (arith, lt); errors = ap (λ (m : ℕ). p.errors + m) (sym lw); on = inl (omega arith) };
      }

  listed-at : (i : ℕ) → p.errors < p.lim.errors → Throwing (throw_at i why) (throw_at i why) (λ c. add_error_w_pos c i why) why p (Failed (err i why)) (record p { errors = p.errors + 1 })
  unfolding add_error_w_pos list raise go_on if◌then◌otherwise◌
  listed-at i lt = record {
    does = raised i lt (λ E l. rw (l, lt-ltb _ _ lt) refl);
    counts = raised i lt (λ E l. rw (l, lt-ltb _ _ lt) refl);
    adds = record { says = λ E l. rw (l, lt-ltb _ _ lt) refl; which = refl; there = refl; more = refl };
  }

  full-at : (i : ℕ) → p.lim.errors ≤ p.errors → Throwing (throw_at i why) (throw_at i why) (λ c. add_error_w_pos c i why) why p (Refused ErrorsFull) p
  unfolding add_error_w_pos list raise go_on if◌then◌otherwise◌
  full-at i ge = record { does = refuses (kept-same p) (λ r E l. rw (l, le-ltb _ _ ge) refl); counts = refuses (kept-same p) (λ r E l. rw (l, le-ltb _ _ ge) refl); adds = λ E l. rw (l, le-ltb _ _ ge) refl }

module _ {p : Parser} (why : Why) (lw : listed_by why ≡ 1) where
  pub throw-listed : (i : ℕ) → p.errors < p.lim.errors → ThrowsAt p i why (Failed (err i why)) (record p { errors = p.errors + 1 })
  throw-listed i lt =
      let d = listed-at why lw i lt in
      record { does = d.does; counts = d.counts; adds = d.adds; alone = refl; whatever = λ s os ks M. listed-at {p = under s os ks M p p} why lw i lt }

  pub throw-full : (i : ℕ) → p.lim.errors ≤ p.errors → ThrowsAt p i why (Refused ErrorsFull) p
  throw-full i ge =
      let d = full-at why lw i ge in
      record { does = d.does; counts = d.counts; adds = d.adds; alone = refl; whatever = λ s os ks M. full-at {p = under s os ks M p p} why lw i ge }

added-here : (p : Parser) (why : Why) (s : Stop) (q : Parser) → Adds (λ c. add_error_w_pos c p.at why) why p s q → Adds (λ c. add_error c why) why p s q
unfolding add_error go_on
added-here p why (Failed e) q d = record { says = λ E l. d.says E l; which = d.which; there = d.there; more = d.more }
added-here p why (Refused g) q d = λ E l. d E l

-- an error that is listed here: what is promised of it for one parser
abbrev pub ThrowingHere : Parser → Why → Stop → Parser → Type 0
ThrowingHere p why stop q = Throwing (λ c. throw c why) (λ c. throw c why) (λ c. add_error c why) why p stop q

pub here-at : {p : Parser} {why : Why} {s : Stop} {q : Parser} → Throwing (throw_at p.at why) (throw_at p.at why) (λ c. add_error_w_pos c p.at why) why p s q → ThrowingHere p why s q
unfolding throw add_error go_on
here-at {p} {why} {s} {q} d = record { does = alike (throw_at p.at why) (λ r E l. refl) d.does; counts = alike (throw_at p.at why) (λ r E l. refl) d.counts; adds = added-here p why s q d.adds }

pub throw-here : {p : Parser} {why : Why} {s : Stop} {q : Parser} → ThrowsAt p p.at why s q → Throws p why s q
throw-here {p} {why} {s} {q} d =
    let h : ThrowingHere p why s q = here-at (record { does = d.does; counts = d.counts; adds = d.adds }) in
    record { does = h.does; counts = h.counts; adds = h.adds; alone = d.alone; whatever = λ t os ks M. here-at (d.whatever t os ks M) }

-- what a step that throws here promises, of one parser
pub throwing-here : {p q : Parser} {why : Why} {stop : Stop} → Throws p why stop q → ThrowingHere p why stop q
throwing-here t = record { does = t.does; counts = t.counts; adds = t.adds }

-- ── an error whose token is passed ──

pub counts-pass : (p q : Parser) → OnlyLists p q → OnlyPasses p q
counts-pass p q a = a ∙ ap (λ (y : Parser). record p { at = y.at; errors = q.errors }) (sym a)

pub moves-pass : (p q : Parser) → OnlyMoves p q → OnlyPasses p q
moves-pass p q a = a ∙ ap (λ (y : Parser). record p { at = q.at; errors = y.errors }) (sym a)

at_of : {A : Type 0} → Out A → ℕ
at_of (done a s) = s.at
at_of (fail e s) = s.at
at_of (refuse g) = 0

is_done : {A : Type 0} → Out A → Type 0
is_done (done a s) = Unit {0}
is_done (fail e s) = ⊥
is_done (refuse g) = ⊥

-- at Eof a parser stays
stood-at : {q x : Parser} → Does (passes q) (λ c. consume c) q (Ok tt) x → Ready q → here q ≡ 47 → x.at ≡ q.at
unfolding consume if◌then◌otherwise◌ arrive at_of
stood-at {q} {x} d r z =
    let E = blank q.errors in
    ap at_of (d.same r E (blanks q.errors)) ∙ ap (λ (b : Bool). at_of (if◌then◌otherwise◌ {A = Out (Unit {0})} b (done tt (abs_at E q)) (arrive (ctx_at q) (record { at = suc q.at; nodes = (abs_at E q).nodes; syms = (abs_at E q).syms; level = q.level; check = q.check; errs = E })))) (ap (λ (k : ℕ). eqb k 47) (kind-here q r) ∙ eq-eqb (here q) 47 z)

broke-ready : {p q : Parser} {lo n : ℕ} → Ready p → Kept p q → Broke (inp_of p) (mem_of q) lo n (walk_of q) → Ready q
broke-ready {p} {q} r k f =
    subst (λ (I : Inp). ReadyOf I (mem_of q) (walk_of q)) (sym k.inp) (record {
      stands = record { toks = r.stands.toks; here = f.here; calm = f.calm };
      even = k.head ∙ r.even ∙ sym k.load;
      used = f.used;
      holds = f.holds;
      level = f.level;
      room = f.room;
    })

pub past-full-does : {p : Parser} (why : Why) {q : Parser} {g : Refusal} → ThrowingHere p why (Refused g) q → Does {A = Unit {0}} 1 (λ c. throw_past c why) p (Stopped (Refused g)) q
unfolding throw_past go_on
past-full-does {p} why t = refuses t.does.kept (λ r E l. ap (λ (o : Out Err). go_on o (λ y s. go_on (consume (ctx_at p) s) (λ a. raise (ctx_at p) y))) (t.adds E l))

pub past-full : {p : Parser} (why : Why) {q : Parser} {g : Refusal} → Throws p why (Refused g) q → Pasts p why (Refused g) q
past-full {p} why {q} t = record { does = past-full-does why (throwing-here t); alone = counts-pass p q t.alone; whatever = λ s M. past-full-does why (t.whatever s p.offs.now p.words.now M) }

-- two steps that leave all but the token and how many errors are listed
pub passes-on : (p q x : Parser) → OnlyLists p q → OnlyMoves q x → OnlyPasses p x
passes-on p q x a b = b ∙ ap (λ (y : Parser). record y { at = x.at }) a ∙ ap (λ (y : Parser). record p { at = x.at; errors = y.errors }) (sym b)

-- where it stood it stands
pub stands-listed : (p q : Parser) → OnlyLists p q → StandsAt p → StandsAt q
stands-listed p q a s = subst StandsAt (sym a) (record { toks = s.toks; here = s.here; calm = s.calm })

pub stands-on : {p : Parser} {why : Why} {e : Err} {q : Parser} → Throws p why (Failed e) q → StandsAt p → StandsAt q
stands-on {p} {why} {e} {q} t = stands-listed p q t.alone

module _ {p : Parser} (why : Why) (lw : listed_by why ≡ 1) {e : Err} {q : Parser} (t : ThrowingHere p why (Failed e) q) where
  ready : Ready p → Ready q
  ready r = broke-ready r t.does.kept (t.does.fine r)

  pub past-refused-does : {x : Parser} {g : Refusal} → Does (passes q) (λ c. consume c) q (Stopped (Refused g)) x → Does {A = Unit {0}} 1 (λ c. throw_past c why) p (Stopped (Refused g)) x
  unfolding throw_past add_error go_on
  past-refused-does {x} {g} d =
      refuses (kept-on t.does.kept d.kept)
      (λ r E l. ap (λ (o : Out Err). go_on o (λ y s. go_on (consume (ctx_at p) s) (λ a. raise (ctx_at p) y))) (t.adds.says E l)
      ∙ ap (λ (c : Ctx). go_on (consume c (abs_at (e ∷ E) q)) (λ a. raise (ctx_at p) e)) (sym (ctx-kept t.does.kept))
      ∙ ap (λ (o : Out (Unit {0})). go_on o (λ a. raise (ctx_at p) e)) (sym (d.same (ready r) (e ∷ E) (ap suc l ∙ sym (add-one p.errors) ∙ sym t.adds.more))))

  pub past-fails-does : {x : Parser} → Does (passes q) (λ c. consume c) q (Ok tt) x → Does {A = Unit {0}} 1 (λ c. throw_past c why) p (Stopped (Failed e)) x
  unfolding throw_past add_error go_on raise
  past-fails-does {x} d =
      let ew = t.adds.which in
      let k = kept-on t.does.kept d.kept in
      record {
        kept = k;
        same = λ r E l. sym (
            ap (λ (o : Out Err). go_on o (λ y s. go_on (consume (ctx_at p) s) (λ a. raise (ctx_at p) y))) (t.adds.says E l)
            ∙ ap (λ (c : Ctx). go_on (consume c (abs_at (e ∷ E) q)) (λ a. raise (ctx_at p) e)) (sym (ctx-kept t.does.kept))
            ∙ ap (λ (o : Out (Unit {0})). go_on o (λ a. raise (ctx_at p) e)) (sym (d.same (ready r) (e ∷ E) (ap suc l ∙ sym (add-one p.errors) ∙ sym t.adds.more)))
            ∙ ap (λ (I : Inp). fail e (abs I (e ∷ E) (walk_of x) (mem_of x))) t.does.kept.inp
            ∙ ap (λ (n : ℕ). fail e (abs (inp_of p) (with_err n e E) (walk_of x) (mem_of x))) (sym (ap listed_by ew ∙ lw)));
        fine = λ r.
            let w : Fine (inp_of q) (mem_of x) (passes q + q.at) q.errors (walk_of x) = d.fine (ready r) in
            let v : Fine (inp_of p) (mem_of x) (passes q + q.at) q.errors (walk_of x) = subst (λ (I : Inp). Fine I (mem_of x) (passes q + q.at) q.errors (walk_of x)) t.does.kept.inp w in
            record {
              here = v.here;
              calm = v.calm;
              used = v.used;
              holds = v.holds;
              level = v.level;
              room = v.room;
              errors = v.errors ∙ t.adds.more ∙ ap (λ (m : ℕ). p.errors + m) (sym (ap listed_by ew ∙ lw));
              on = moved r (eqb (here q) 47) refl;
            };
      }
    where
      words : q.words.now ≡ p.words.now
      words = ap (λ (I : Inp). I.words) t.does.kept.inp

      moved : Ready p → (b : Bool) → eqb (here q) 47 ≡ b → (1 + p.at ≤ x.at) ⊎ (kind_at p.words.now x.at ≡ 47)
      moved r true h =
          let z : here q ≡ 47 = eqb→eq (here q) 47 (rw h tt) in
          inr (ap (λ (n : ℕ). kind_at p.words.now n) (stood-at d (ready r) z) ∙ ap (λ (ks : List ℕ). kind_at ks q.at) (sym words) ∙ z)
      moved r false h =
          let ne : here q ≡ 47 → ⊥ = eqb-false (here q) 47 h in
          let w : Fine (inp_of q) (mem_of x) (passes q + q.at) q.errors (walk_of x) = d.fine (ready r) in
          inl (omega (arith, w.on, passes-one q ne, t.adds.there))

-- over another script and other arrays, a call after a step that leaves all that is read
over-on : (p : Parser) {q x : Parser} {r : Result (Unit {0}) Refusal} (s : List ℕ) (M : Mem) → inp_of q ≡ inp_of p → Consumes q r x → Does (passes (over s M p q)) (λ c. consume c) (over s M p q) (lifted r) (over s M p x)
over-on p {q} {x} {r} s M i d = subst (λ (J : Inp). Does (passes (among (inp s J.offs J.words J.lim) M q)) (λ c. consume c) (among (inp s J.offs J.words J.lim) M q) (lifted r) (among (inp s J.offs J.words J.lim) M x)) i (d.whatever s M)

module _ {p : Parser} (why : Why) (lw : listed_by why ≡ 1) {e : Err} {q : Parser} (t : Throws p why (Failed e) q) where
  pub past-refused : {x : Parser} {g : Refusal} → Consumes q (Stopped g) x → Pasts p why (Refused g) x
  past-refused d = record {
    does = past-refused-does why lw (throwing-here t) d.does;
    alone = passes-on p q _ t.alone d.alone;
    whatever = λ s M. past-refused-does why lw (t.whatever s p.offs.now p.words.now M) (over-on p s M t.does.kept.inp d);
  }

  pub past-fails : {x : Parser} → Consumes q (Ok tt) x → Pasts p why (Failed e) x
  past-fails d = record {
    does = past-fails-does why lw (throwing-here t) d.does;
    alone = passes-on p q _ t.alone d.alone;
    whatever = λ s M. past-fails-does why lw (t.whatever s p.offs.now p.words.now M) (over-on p s M t.does.kept.inp d);
  }

-- ── what a step asks, of a parser that is ready ──

-- what is kept, and the rest of a parser that is ready
pub given : {A : Type 0} {j : ℕ} {f : Ctx → St → Out A} {p q : Parser} {x : Result A Stop} → Kept p q → (Ready p → Does j f p x q) → Does j f p x q
given k h = record { kept = k; same = λ r. (h r).same r; fine = λ r. (h r).fine r }

pub paired : {I : Inp} {M : Mem} {w : Walk} → ReadyOf I M w → (length M.head ≡ length M.load) × (w.nodes ≤ length M.head)
paired r = (r.even, r.used)

pub fits : {I : Inp} {M : Mem} {w : Walk} {i : ℕ} {what : What} → ReadyOf I M w → i < 4294967296 → value_of what < 65536 → Fits I.script I.offs I.words M.symbols w.symbols w.level i what
fits r a b = record { holds = r.holds; level-fits = omega (arith, r.level, r.stands.here, r.stands.toks.few); name-fits = a; value-fits = b }

-- the names are as they were where only nodes are more
pub fits-grown : (p q : Parser) {i : ℕ} {what : What} → OnlyGrows p q → Fits p.script.now p.offs.now p.words.now p.symbols.now p.stored p.level i what → Fits q.script.now q.offs.now q.words.now q.symbols.now q.stored q.level i what
fits-grown p q {i} {what} a h = subst (λ (y : Parser). Fits y.script.now y.offs.now y.words.now y.symbols.now y.stored y.level i what) (sym a) h

-- ── symbols ──

module _ {p : Parser} (i : ℕ) (what : What) {ys : List ℕ} (ly : length ys ≡ length p.symbols.now) where
  lent : {n : ℕ} → Kept p (record p { symbols = record (p.symbols) { now = ys }; stored = n })
  lent = record { inp = refl; symbols_name = refl; head_name = refl; load_name = refl; symbols = ly; head = refl; load = refl }

  pub put-done : {n : ℕ} → Stores p.script.now p.offs.now p.words.now p.symbols.now p.stored p.level i what (Ok n) ys → Does 0 (λ c. store c i what) p (Ok tt) (record p { symbols = record (p.symbols) { now = ys }; stored = n })
  put-done {n} d = record {
    kept = lent;
    same = λ r E l. sym (store_at (ctx_at p) p.offs.now p.words.now (abs_at E p) p.symbols.now p.stored i (record { name = refl; table = refl }) refl what ys n d);
    fine = λ r. record { here = r.stands.here; calm = r.stands.calm; used = r.used; holds = d.holds; level = r.level; room = r.room; errors = refl; on = omega arith };
  }

  pub put_full : {g : Refusal} → Stores p.script.now p.offs.now p.words.now p.symbols.now p.stored p.level i what (Stopped g) ys
      → Does 0 (λ c. store c i what) p (Stopped (Refused g)) (record p { symbols = record (p.symbols) { now = ys } })
  put_full {g} d =
      rw d.is (refuses lent (λ r E l. store-full (ctx_at p) p.offs.now p.words.now (abs_at E p) p.symbols.now p.stored i (record { name = refl; table = refl }) refl what ys d))

pub put-is : {p : Parser} (i : ℕ) (what : What) {ys : List ℕ} {n : ℕ} → length ys ≡ length p.symbols.now → Stores p.script.now p.offs.now p.words.now p.symbols.now p.stored p.level i what (Ok n) ys
    → Puts p i what (Ok tt) (record p { symbols = record (p.symbols) { now = ys }; stored = n })
put-is {p} i what ly d = record { does = put-done i what ly d; alone = refl; whatever = λ l hs ls. put-done {p = naming l hs ls p p} i what ly d }

pub put-stops : {p : Parser} (i : ℕ) (what : What) {ys : List ℕ} {g : Refusal} (x : Result (Unit {0}) Refusal) → length ys ≡ length p.symbols.now
    → Stores p.script.now p.offs.now p.words.now p.symbols.now p.stored p.level i what (Stopped g) ys → IsErr x × IsErrAnd x (λ h. h ≡ g)
    → Puts p i what x (record p { symbols = record (p.symbols) { now = ys } })
put-stops {p} i what x ly d h = record { does = handed x (put_full i what ly d) h; alone = refl; whatever = λ l hs ls. handed x (put_full {p = naming l hs ls p p} i what ly d) h }

-- ── levels ──

module _ {p : Parser} where
  leveled : {f : Ctx → St → Out (Unit {0})} (n : ℕ) → (Ready p → n ≤ p.at) → ((E : List Err) → f (ctx_at p) (abs_at E p) ≡ done tt (abs_at E (record p { level = n }))) → Does 0 f p (Ok tt) (record p { level = n })
  leveled n le h =
      record {
        kept = record { inp = refl; symbols_name = refl; head_name = refl; load_name = refl; symbols = refl; head = refl; load = refl };
        same = λ r E l. sym (h E);
        fine = λ r. record { here = r.stands.here; calm = r.stands.calm; used = r.used; holds = r.holds; level = le r; room = r.room; errors = refl; on = omega arith };
      }

  pub scoped : p.level < p.at → Does 0 (λ c. init_scope c) p (Ok tt) (record p { level = p.level + 1 })
  unfolding init_scope set_level go_on
  scoped lt = leveled (p.level + 1) (λ r. omega (arith, lt)) (λ E. rw (add-one p.level) refl)

  pub unscoped : Does 0 (λ c. close_scope c) p (Ok tt) (record p { level = p.level - 1 })
  unfolding close_scope set_level go_on
  unscoped = leveled (p.level - 1) (λ r. omega (arith, r.level)) (λ E. refl)

-- ── names ──

-- how far a name is passed
abbrev pub named_if : Parser → ℕ
named_if p = elim (eqb (here p) 31) [ true ↦ 1 | false ↦ 0 ]

module _ {p : Parser} (y : ℕ → Why) where
  pub ident-taken : here p ≡ 31 → {q : Parser} → Does (passes p) (λ c. consume c) p (Ok tt) q → Does (named_if p) (λ c. ident c y) p (Ok p.at) q
  unfolding ident match_ident or_throw if◌then◌otherwise◌ go_on
  ident-taken e {q} d = rw (named_if, eq-eqb (here p) 31 e) (record {
    kept = d.kept;
    same = λ r E l. sym (rw (kind-here p r, eq-eqb (here p) 31 e, sym (d.same r E l)) refl);
    fine = λ r. subst (λ (j : ℕ). Fine (inp_of p) (mem_of q) (j + p.at) p.errors (walk_of q)) (passes-one p (λ z. let v : ⊥ = omega (arith, e, z) in v)) (d.fine r);
  })

  pub ident-refused : here p ≡ 31 → {q : Parser} {g : Refusal} → Does (passes p) (λ c. consume c) p (Stopped (Refused g)) q → Does (named_if p) (λ c. ident c y) p (Stopped (Refused g)) q
  unfolding ident match_ident or_throw if◌then◌otherwise◌ go_on
  ident-refused e {q} d = refuses d.kept (λ r E l. rw (kind-here p r, eq-eqb (here p) 31 e, sym (d.same r E l)) refl)

  module _ (ne : here p ≡ 31 → ⊥) where
    missed : {why : Why} → listed_by why ≡ 2 → y p.at ≡ why → p.errors + 2 ≤ p.lim.errors → Does (named_if p) (λ c. ident c y) p (Stopped (Failed (err p.at why))) (record p { errors = p.errors + 2 })
    unfolding ident match_ident or_throw throw add_error add_error_w_pos list raise if◌then◌otherwise◌ go_on
    missed lw ey le =
        let lt : p.errors < p.lim.errors = omega (arith, le) in
        let lt2 : suc p.errors < p.lim.errors = omega (arith, le) in
        rw (named_if, ne_eqb (here p) 31 ne) (record {
          kept = record { inp = refl; symbols_name = refl; head_name = refl; load_name = refl; symbols = refl; head = refl; load = refl };
          same = λ r E l. rw (lw, kind-here p r, ne_eqb (here p) 31 ne, ey, l, lt-ltb _ _ lt) (rw (l, lt-ltb _ _ lt2) refl);
          fine = λ r. record { here = r.stands.here; calm = r.stands.calm; used = r.used; holds = r.holds; level = r.level; room = le; errors = ap (λ (m : ℕ). p.errors + m) (sym lw); on = inl (omega arith) };
        })

    no_room : p.lim.errors - p.errors < 2 → Does (named_if p) (λ c. ident c y) p (Stopped (Refused ErrorsFull)) p
    unfolding ident match_ident or_throw throw add_error add_error_w_pos list raise if◌then◌otherwise◌ go_on
    no_room h = refuses (kept-same p) (λ r E l. full-at-once r E l (ltb p.errors p.lim.errors) refl)
      where
        full-at-once : Ready p → (E : List Err) → length E ≡ p.errors → (b : Bool) → ltb p.errors p.lim.errors ≡ b → ident (ctx_at p) y (abs_at E p) ≡ refuse ErrorsFull
        full-at-once r E l true t =
            let ge : p.lim.errors ≤ suc p.errors = omega (arith, h) in
            rw (kind-here p r, ne_eqb (here p) 31 ne, l, t) (rw (l, le-ltb _ _ ge) refl)
        full-at-once r E l false t = rw (kind-here p r, ne_eqb (here p) 31 ne, l, t) refl

module _ {p : Parser} {why : Why} where
  pub ident-there : here p ≡ 31 → {q : Parser} → Consumes p (Ok tt) q → Idents p why (Ok p.at) q
  ident-there e {q} d = record {
    does = λ y ey. ident-taken y e d.does;
    alone = moves-pass p q d.alone;
    whatever = λ s M y ey. ident-taken {p = over s M p p} y e (d.whatever s M);
  }

  pub ident-conveyed : here p ≡ 31 → {q : Parser} {g : Refusal} {x : Result ℕ Stop} → Consumes p (Stopped g) q → IsErr x × IsErrAnd x (λ s. s ≡ Refused g) → Idents p why x q
  ident-conveyed e {q} {g} {x} d h = record {
    does = λ y ey. conveyed (ident-refused y e d.does) h;
    alone = moves-pass p q d.alone;
    whatever = λ s M y ey. conveyed (ident-refused {p = over s M p p} y e (d.whatever s M)) h;
  }

  module _ (ne : here p ≡ 31 → ⊥) where
    pub ident-missed : listed_by why ≡ 2 → p.errors + 2 ≤ p.lim.errors → Idents p why (Stopped (Failed (err p.at why))) (record p { errors = p.errors + 2 })
    ident-missed lw le = record {
      does = λ y ey. missed y ne lw ey le;
      alone = refl;
      whatever = λ s M y ey. missed {p = over s M p p} y ne lw ey le;
    }

    pub ident-full : p.lim.errors - p.errors < 2 → Idents p why (Stopped (Refused ErrorsFull)) p
    ident-full h = record { does = λ y ey. no_room y ne h; alone = refl; whatever = λ s M y ey. no_room {p = over s M p p} y ne h }

-- the name that a caller asks for, by what it says of one that is missing
pub named : {p q : Parser} {why : Why} {r : Result ℕ Stop} (y : ℕ → Why) → Idents p why r q → y p.at ≡ why → Does 0 (λ c. ident c y) p r q
named y d e = least (d.does y e)

-- ── the newest node ──

pub top-none : (n : ℕ) (hs ls : List ℕ) → n ≡ 0 → node_in 0 0 ≡ newest_of n hs ls
unfolding nodes_of
top-none n hs ls e = sym (ap (λ (m : ℕ). get_or (nodes_of m hs ls) 0 (node_in 0 0)) e)

pub top-some : (n : ℕ) (hs ls : List ℕ) → (n ≡ 0 → ⊥) → node_in (get_or hs (n - 1) 0) (get_or ls (n - 1) 0) ≡ newest_of n hs ls
unfolding nodes_of
top-some zero hs ls f = absurd (f refl)
top-some (suc n) hs ls f = ap (λ (m : ℕ). node_in (get_or hs m 0) (get_or ls m 0)) (sub-one (suc n))

-- a node appended lets the token in front be
still : (b : Bool) (s t : St) (g : Refusal) → ◌≡◌ {A = Out (Unit {0})} (done (tt {0}) t) (if◌then◌otherwise◌ {A = Out (Unit {0})} b (done (tt {0}) s) (refuse g)) → t.at ≡ s.at
unfolding if◌then◌otherwise◌ at_of is_done
still true s t g e = ap at_of e
still false s t g e = absurd (subst (λ (o : Out (Unit {0})). is_done o) e tt)

module _ {p q : Parser} (k : ℕ) (f : Bool) (n t : ℕ) (r : Ready p) (d : Does 0 (λ c. push c k f n t) p (Ok tt) q) where
  pub pushed-there : q.at ≡ p.at
  unfolding push
  pushed-there = still (ltb (length (abs_at (blank p.errors) p).nodes) (ctx_at p).node_room) _ _ NodesFull (d.same r (blank p.errors) (blanks p.errors))

  pub pushed-passes : passes p - 0 ≤ passes q
  pushed-passes = rw (pushed-there, ap (λ (I : Inp). I.words) d.kept.inp) (omega arith)

-- ── a node for the token in front, which is passed ──

pub grown-stays : (p q : Parser) → OnlyGrows p q → OnlyGrowsPast p q
grown-stays p q a = a ∙ ap (λ (n : ℕ). record p { at = n; head = q.head; load = q.load; nodes = q.nodes }) (sym (ap (λ (y : Parser). y.at) a))

pub grown-past : (p q z : Parser) → OnlyGrows p q → OnlyMoves q z → OnlyGrowsPast p z
grown-past p q z a b = b ∙ ap (λ (y : Parser). record y { at = z.at }) a ∙ ap (λ (y : Parser). record p { at = z.at; head = y.head; load = y.load; nodes = y.nodes }) (sym b)

pub stands-with : (p q : Parser) → OnlyGrows p q → StandsAt p → StandsAt q
stands-with p q a s = subst StandsAt (sym a) (record { toks = s.toks; here = s.here; calm = s.calm })

pub stands-grown : {p : Parser} {h t : ℕ} {r : Result (Unit {0}) Refusal} {q : Parser} → Pushes p h t r q → StandsAt p → StandsAt q
stands-grown {p} {h} {t} {r} {q} d = stands-with p q d.alone

module _ {p : Parser} where
  begun : Ready p → At (passes p) (passes p) (λ s. literal (ctx_at p) p.at s) (λ s. go_on (push (ctx_at p) 24 false 0 p.at s) (λ a. consume (ctx_at p))) p p
  unfolding literal
  begun r = begin (passes p) (λ c s. literal c p.at s) r

  pub literal-stops : {q : Parser} {g : Refusal} → Does 0 (λ c. push c 24 false 0 p.at) p (Stopped (Refused g)) q → Does (passes p) (λ c. literal c p.at) p (Stopped (Refused g)) q
  unfolding literal go_on
  literal-stops d = refuses d.kept (λ r E l. ap (λ (o : Out (Unit {0})). go_on o (λ a. consume (ctx_at p))) (sym (d.same r E l)))

  pub literal-passes : (x : Result (Unit {0}) Refusal) {q z : Parser} → Does 0 (λ c. push c 24 false 0 p.at) p (Ok tt) q → Does (passes q) (λ c. consume c) q (lifted x) z → Does (passes p) (λ c. literal c p.at) p (lifted x) z
  literal-passes x {q} {z} d e = given (kept-on d.kept e.kept) (λ r. last (λ c. consume c) (λ c. literal c p.at) (go (λ c. push c 24 false 0 p.at) _ (begun r) d) (pushed-passes 24 false 0 p.at r d) e)

module _ {p : Parser} where
  pub literal-refused : {q : Parser} {g : Refusal} (x : Result (Unit {0}) Refusal) → Pushes p 24 p.at (Stopped g) q → IsErr x × IsErrAnd x (λ h. h ≡ g) → Literals p x q
  literal-refused {q} x d h = record {
    does = handed x (literal-stops d.does) h;
    alone = grown-stays p q d.alone;
    whatever = λ s ys. handed x (literal-stops (d.whatever (inp s p.offs.now p.words.now p.lim) ys)) h;
  }

  pub literal-done : {q z : Parser} {x : Result (Unit {0}) Refusal} → Pushes p 24 p.at (Ok tt) q → Consumes q x z → Literals p x z
  literal-done {q} {z} {x} d e = record {
    does = literal-passes x d.does e.does;
    alone = grown-past p q z d.alone e.alone;
    whatever = λ s ys. literal-passes x (d.whatever (inp s p.offs.now p.words.now p.lim) ys) (grown-on s ys);
  }
    where
      -- the nodes' words are those that the token's passing left
      heads : z.head ≡ q.head
      heads = ap (λ (y : Parser). y.head) e.alone

      loads : z.load ≡ q.load
      loads = ap (λ (y : Parser). y.load) e.alone

      grown-on : (s ys : List ℕ) → Does (passes (growing (inp s p.offs.now p.words.now p.lim) ys q)) (λ c. consume c) (growing (inp s p.offs.now p.words.now p.lim) ys q) (lifted x) (growing (inp s p.offs.now p.words.now p.lim) ys z)
      grown-on s ys =
          rw (ap (λ b. b.now) heads, ap (λ b. b.now) loads) (over-on p s (mem ys q.head.now q.load.now) d.does.kept.inp e)
