-- Loops: one invariant for all of them, and what a turn of a comma list comes to.
use Rattle.std.specs.Prelude.{ℕ, suc, ◌+◌, ◌-◌, ◌≤◌, ◌<◌, ◌≡◌, refl, length, Bool, true, false, eqb}
use Rattle.std.proofs.Common.{add-one, arith, sym, ap, ◌∙◌, eq-eqb, ne_eqb, le-leb}
use Rattle.std.proofs.lemmas.Bool.{lt-leb}
use Rattle.std.proofs.Math.Path.{subst}
use Rattle.sifc_word.specs.Base.{if◌then◌otherwise◌}
use Rattle.sifc_err.specs.declared.parse_err.ParseErrTy.TheVariants.{FnParmCntExceeded, InvalidTknMsg}
use Rattle.sifc_def.specs.State.{Ctx, St, Out, done, Void, go_on, consume, optional, throw}
use Rattle.sifc_def.specs.Expr.{fuel, separator, param_list}
use Rattle.sifc_def.specs.Stmt.{comma_list}
use Rattle.sifc_symtab.specs.Toks.{length-toks}
use Rattle.sifc_step.specs.declared.walk.Parser.{Parser}
use Rattle.sifc_step.specs.Abs.{Inp, here, ctx_at, abs_at, Ready}
use Rattle.sifc_step.proofs.Steps.{At, begin, by, kinded, nested, yes, no, kept-on, ctx-kept}

-- What is left of the turns, `loop` with the fuel f at the parser q, gives what all of them were to give, `loop₀` at the loop's start p.
pub record Looping {A : Type 0} (loop₀ loop : Ctx → ℕ → St → Out A) (p q : Parser) : Type 0 where
  pub f : ℕ
  pub enough : length p.words.now ≤ f + q.at
  pub at : At 0 0 (λ s. loop₀ (ctx_at p) (fuel (ctx_at p)) s) (λ s. loop (ctx_at p) f s) p q

pub looping : {A : Type 0} (loop : Ctx → ℕ → St → Out A) {p : Parser} → Ready p → Looping loop loop p p
looping loop {p} r =
    record {
      f = fuel (ctx_at p);
      enough = omega (arith, length-toks p.offs.now p.words.now r.stands.toks.even, r.stands.toks.even);
      at = begin 0 (λ c s. loop c (fuel c) s) r;
    }

module _ {A : Type 0} {loop₀ loop : Ctx → ℕ → St → Out A} {p q : Parser} (t : Looping loop₀ loop p q) where
  some_left : t.f ≡ suc (t.f - 1)
  some_left = omega (arith, t.enough, t.at.is.stands.here, ap (λ (I : Inp). length I.words) t.at.kept.inp)

  -- a turn's start, from the loop's own start
  pub turn-own : At 0 0 (λ s. loop₀ (ctx_at p) (fuel (ctx_at p)) s) (λ s. loop (ctx_at p) (suc (t.f - 1)) s) p q
  turn-own = by t.at (λ s. ap (λ (m : ℕ). loop (ctx_at p) m s) some_left)

  -- a turn's start, in a function that began at o
  pub turn : {j k : ℕ} {f : St → Out A} {o : Parser} → At j k f (λ s. loop₀ (ctx_at o) (fuel (ctx_at o)) s) o p → At j k f (λ s. loop (ctx_at o) (suc (t.f - 1)) s) o q
  turn {j} {k} {f} {o} a =
      let c = ctx-kept a.kept in
      record {
        kept = kept-on a.kept t.at.kept;
        left = λ E e. a.left E e
            ∙ ap (λ (x : Ctx). loop₀ x (fuel x) (abs_at E p)) (sym c)
            ∙ t.at.left E (e ∙ sym a.errors)
            ∙ ap (λ (x : Ctx). loop x t.f (abs_at E q)) c
            ∙ ap (λ (m : ℕ). loop (ctx_at o) m (abs_at E q)) some_left;
        is = t.at.is;
        on = omega (arith, a.on, t.at.on);
        errors = t.at.errors ∙ a.errors;
      }

  -- a turn more
  pub onward : {loop' : Ctx → ℕ → St → Out A} {j k : ℕ} {z : Parser} → q.at < z.at → At j k (λ s. loop₀ (ctx_at p) (fuel (ctx_at p)) s) (λ s. loop' (ctx_at p) (t.f - 1) s) p z → Looping loop₀ loop' p z
  onward on h =
      record {
        f = t.f - 1;
        enough = omega (arith, t.enough, some_left, on);
        at = record { kept = h.kept; left = h.left; is = h.is; on = omega (arith, t.at.on, on); errors = h.errors };
      }

-- ── param_list, of the arguments of a call or of the parameters of a function ──

-- the code's n + 1 is the definition's suc n
pub recount : (item : Ctx → Void) (n : ℕ) {loop₀ : Ctx → ℕ → St → Out ℕ} {p q : Parser} → Looping loop₀ (λ c f. param_list c (item c) f (suc n)) p q → Looping loop₀ (λ c f. param_list c (item c) f (n + 1)) p q
recount item n {loop₀} {p} {q} t = subst (λ (m : ℕ). Looping loop₀ (λ c f. param_list c (item c) f m) p q) (sym (add-one n)) t

-- a turn after n of them, by the kind that it meets
module _ (item : Ctx → Void) (m n : ℕ) {j k : ℕ} {f : St → Out ℕ} {p q : Parser} (a : At j k f (λ s. param_list (ctx_at p) (item (ctx_at p)) (suc m) n s) p q) where
  pub listed-all : here q ≡ 2 → At j k f (λ s. done n s) p q
  unfolding param_list
  listed-all e = yes _ _ (kinded _ a) (eq-eqb (here q) 2 e)

  module _ (ne : here q ≡ 2 → ⊥) where
    pub listed-many : 64 ≤ n → At j k f (λ s. throw (ctx_at p) (FnParmCntExceeded 64) s) p q
    unfolding param_list
    listed-many h = yes _ _ (no _ _ (kinded _ a) (ne_eqb (here q) 2 ne)) (le-leb 64 n h)

    module _ (few : n < 64) where
      pub listed-eof : here q ≡ 47 → At j k f (λ s. throw (ctx_at p) (InvalidTknMsg 2) s) p q
      unfolding param_list
      listed-eof e = yes _ _ (no _ _ (no _ _ (kinded _ a) (ne_eqb (here q) 2 ne)) (lt-leb 64 n few)) (eq-eqb (here q) 47 e)

      pub listed-item : (here q ≡ 47 → ⊥) → At j k f (λ s. go_on (item (ctx_at p) s) (λ x t. go_on (separator (ctx_at p) t) (λ y. param_list (ctx_at p) (item (ctx_at p)) m (suc n)))) p q
      unfolding param_list
      listed-item nf = no _ _ (no _ _ (no _ _ (kinded _ a) (ne_eqb (here q) 2 ne)) (lt-leb 64 n few)) (ne_eqb (here q) 47 nf)

-- ── a token that may stand there ──

module _ {A : Type 0} (t : ℕ) (K : Bool → St → Out A) {j k : ℕ} {f : St → Out A} {p q : Parser} (a : At j k f (λ s. go_on (optional (ctx_at p) t s) K) p q) where
  asked : At j k f (λ s. go_on (if◌then◌otherwise◌ {A = St → Out Bool} (eqb (here q) t) (λ u. go_on (consume (ctx_at p) u) (λ x v. done true v)) (λ u. done false u) s) K) p q
  unfolding optional go_on
  asked = kinded (λ m s. go_on (if◌then◌otherwise◌ {A = St → Out Bool} (eqb m t) (λ u. go_on (consume (ctx_at p) u) (λ x v. done true v)) (λ u. done false u) s) K) a

  pub optional-no : (here q ≡ t → ⊥) → At j k f (K false) p q
  unfolding go_on if◌then◌otherwise◌
  optional-no ne = by asked (λ s. rw (ne_eqb (here q) t ne) refl)

  pub optional-yes : here q ≡ t → At j k f (λ s. go_on (consume (ctx_at p) s) (λ x. K true)) p q
  unfolding go_on if◌then◌otherwise◌
  optional-yes e = by asked (λ s. rw (eq-eqb (here q) t e) (nested (consume (ctx_at p) s) (λ x v. done true v) K))

-- ── comma_list, of array_decl and item_list ──

pub recount-commas : (close : ℕ) (item : Ctx → Void) (n : ℕ) {loop₀ : Ctx → ℕ → St → Out ℕ} {p q : Parser} → Looping loop₀ (λ c f. comma_list c close (item c) f (suc n)) p q → Looping loop₀ (λ c f. comma_list c close (item c) f (n + 1)) p q
recount-commas close item n {loop₀} {p} {q} t = subst (λ (m : ℕ). Looping loop₀ (λ c f. comma_list c close (item c) f m) p q) (sym (add-one n)) t

-- a turn after n of them, by the kind that it meets
module _ (close : ℕ) (item : Ctx → Void) (m n : ℕ) {j k : ℕ} {f : St → Out ℕ} {p q : Parser} (a : At j k f (λ s. comma_list (ctx_at p) close (item (ctx_at p)) (suc m) n s) p q) where
  pub commas-all : here q ≡ close → At j k f (λ s. done n s) p q
  unfolding comma_list
  commas-all e = yes _ _ (kinded _ a) (eq-eqb (here q) close e)

  module _ (ne : here q ≡ close → ⊥) where
    pub commas-eof : here q ≡ 47 → At j k f (λ s. throw (ctx_at p) (InvalidTknMsg 2) s) p q
    unfolding comma_list
    commas-eof e = yes _ _ (no _ _ (kinded _ a) (ne_eqb (here q) close ne)) (eq-eqb (here q) 47 e)

    -- an item, and what follows it: a comma, or no more of them
    abbrev pub Commas : Bool → St → Out ℕ
    Commas more = if◌then◌otherwise◌ {A = St → Out ℕ} more (comma_list (ctx_at p) close (item (ctx_at p)) m (suc n)) (λ s. done (suc n) s)

    pub commas-item : (here q ≡ 47 → ⊥) → At j k f (λ s. go_on (item (ctx_at p) s) (λ x t. go_on (optional (ctx_at p) 12 t) Commas)) p q
    unfolding comma_list
    commas-item nf = no _ _ (no _ _ (kinded _ a) (ne_eqb (here q) close ne)) (ne_eqb (here q) 47 nf)
