-- The end of an access with the checking of names as it was: an access looks at it nowhere, and leaves it.
use Rattle.std.specs.Prelude.{ℕ, ◌+◌, ◌≡◌, refl, ◌%◌, List, length, Bool, true, false, eqb, ltb, Result, Ok, Err as Stopped}
use Rattle.std.proofs.Common.{sym, ap, ◌∙◌}
use Rattle.sifc_err.specs.declared.Refusal.{Refusal}
use Rattle.sifc_word.specs.Base.{if◌then◌otherwise◌}
use Rattle.sifc_def.specs.declared.Err.{Err}
use Rattle.sifc_def.specs.State.{Ctx, St, Out, done, fail, refuse, go_on, panic_at, push}
use Rattle.sifc_def.specs.Expr.{single}
use Rattle.sifc_step.specs.declared.walk.Parser.{Parser}
use Rattle.sifc_step.specs.declared.walk.Target.{Target}
use Rattle.sifc_step.specs.Abs.{Inp, Mem, inp, kind_in, flag_in, kids_in, inp_of, mem_of, walk_of, ctx_at, abs_at, outcome_of, FineOf, Ready, Does, lifted}
use Rattle.sifc_step.specs.Small.{growing, checked_by, accesses, Accesses}

-- an outcome whose state has names checked or not, by b
abbrev rechecked : Bool → Out (Unit {0}) → Out (Unit {0})
rechecked b (done a s) = done a (record s { check = b })
rechecked b (fail e s) = fail e (record s { check = b })
rechecked b (refuse g) = refuse g

either : (t b : Bool) (x y : Out (Unit {0})) → (if t then rechecked b x otherwise rechecked b y) ≡ rechecked b (if t then x otherwise y)
unfolding if◌then◌otherwise◌
either true b x y = refl
either false b x y = refl

push_checked : (c : Ctx) (k : ℕ) (f : Bool) (n v : ℕ) (b : Bool) (s : St) → push c k f n v (record s { check = b }) ≡ rechecked b (push c k f n v s)
unfolding push
push_checked c k f n v b s = either (ltb (length s.nodes) c.node_room) b _ _

access_checked : (t : Target) (h fault i : ℕ) (c : Ctx) (b : Bool) (s : St) → accesses t h fault i c (record s { check = b }) ≡ rechecked b (accesses t h fault i c s)
unfolding single panic_at if◌then◌otherwise◌ go_on
access_checked t h fault i c b s = go (eqb (t.head % 32) 24) refl
  where
    go : (k : Bool) → eqb (t.head % 32) 24 ≡ k → accesses t h fault i c (record s { check = b }) ≡ rechecked b (accesses t h fault i c s)
    go true e = rw e (push_checked c (kind_in h) (flag_in h) (kids_in h) 0 b s)
    go false e = rw e refl

-- the outcome of an answer without a value, or of a refusal
outcome_checked : (I : Inp) (E : List Err) (r : Result (Unit {0}) Refusal) (M : Mem) (q : Parser) (b : Bool) → outcome_of I E (lifted r) M (walk_of (checked_by q b)) ≡ rechecked b (outcome_of I E (lifted r) M (walk_of q))
outcome_checked I E (Ok a) M q b = refl
outcome_checked I E (Stopped g) M q b = refl

fine_checked : (I : Inp) (M : Mem) (lo n : ℕ) (r : Result (Unit {0}) Refusal) (q : Parser) (b : Bool) → FineOf I M lo n (lifted r) (walk_of q) → FineOf I M lo n (lifted r) (walk_of (checked_by q b))
fine_checked I M lo n (Ok a) q b w = record { here = w.here; calm = w.calm; used = w.used; holds = w.holds; level = w.level; room = w.room; errors = w.errors; on = w.on }
fine_checked I M lo n (Stopped g) q b w = tt

ready_checked : (p : Parser) (b : Bool) → Ready p → Ready (checked_by p b)
ready_checked p b r = record { stands = record { toks = r.stands.toks; here = r.stands.here; calm = r.stands.calm }; even = r.even; used = r.used; holds = r.holds; level = r.level; room = r.room }

module _ {p q : Parser} (t : Target) (h fault i : ℕ) (r : Result (Unit {0}) Refusal) (b : Bool) where
  as_it_was : Does 0 (accesses t h fault i) (checked_by p b) (lifted r) q → Does 0 (accesses t h fault i) p (lifted r) (checked_by q p.check)
  as_it_was d = record {
    kept = record { inp = d.kept.inp; symbols_name = d.kept.symbols_name; head_name = d.kept.head_name; load_name = d.kept.load_name; symbols = d.kept.symbols; head = d.kept.head; load = d.kept.load };
    same = λ z E l.
        outcome_checked (inp_of p) E r (mem_of q) q p.check
        ∙ ap (rechecked p.check) (d.same (ready_checked p b z) E l)
        ∙ sym (access_checked t h fault i (ctx_at p) p.check (abs_at E (checked_by p b)));
    fine = λ z. fine_checked (inp_of p) (mem_of q) (0 + p.at) p.errors r q p.check (d.fine (ready_checked p b z));
  }

module _ {p q : Parser} {t : Target} {h fault i : ℕ} {r : Result (Unit {0}) Refusal} (b : Bool) where
  -- who puts it back has the access of the parser as it was
  pub access-as-it-was : Accesses (checked_by p b) t h fault i r q → Accesses p t h fault i r (checked_by q p.check)
  access-as-it-was d = record {
    does = as_it_was t h fault i r b d.does;
    alone = ap (λ (x : Parser). checked_by x p.check) d.alone;
    whatever = λ s ks ys l. as_it_was {p = growing (inp s p.offs.now ks l) ys p} {q = growing (inp s p.offs.now ks l) ys q} t h fault i r b (d.whatever s ks ys l);
  }
