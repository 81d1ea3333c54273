-- The names that a block binds, of any parser: where the script, the tokens, the symbols, their number and the level are what a function was lent.
use Rattle.std.specs.Prelude.{ℕ, suc, ◌+◌, ◌-◌, ◌≤◌, ◌<◌, ◌≡◌, refl, List, [], ◌∷◌, length, get_or, Result, Ok, Err as Stopped, IsErr, IsErrAnd}
use Rattle.std.proofs.Common.{add-one, arith, sym, ap, ◌∙◌}
use Rattle.std.proofs.Math.Path.{subst}
use Rattle.sifc_err.specs.declared.Refusal.{Refusal}
use Rattle.sifc_def.specs.declared.What.{What}
use Rattle.sifc_def.specs.declared.What.TheVariants.{Other}
use Rattle.sifc_def.specs.State.{Ctx, St, Out}
use Rattle.sifc_def.specs.Symbols.{store}
use Rattle.sifc_def.specs.Stmt.{bind}
use Rattle.sifc_symtab.specs.Table.{Holds, Fits, value_of, Stores}
use Rattle.sifc_step.specs.declared.walk.Parser.{Parser}
use Rattle.sifc_step.specs.declared.walk.Stop.TheVariants.{Refused}
use Rattle.sifc_step.specs.Abs.{ctx_at, Ready, Kept, Does}
use Rattle.sifc_step.proofs.Steps.{At, begin, go, refused, fin}
use Rattle.sifc_step.proofs.Small.{given, put-done, put_full}
use Rattle.sifc_block.specs.declared.block.Names.{Names}
use Rattle.sifc_block.specs.declared.block.Names.TheVariants.{Unnamed}
use Rattle.sifc_block.specs.Bound.{between, names_of, called, Binds}

-- what store asks
pub name-fits : {s os ks ys : List ℕ} {n level i : ℕ} {what : What} → Holds s os ks ys n → level < 65536 → i < 4294967296 → value_of what < 65536 → Fits s os ks ys n level i what
name-fits h l b v = record { holds = h; level-fits = l; name-fits = b; value-fits = v }

-- a refusal leaves what it leaves
refused_at : {A : Type 0} {j : ℕ} {f : Ctx → St → Out A} {p q r : Parser} {g : Refusal} → Kept p r → Does j f p (Stopped (Refused g)) q → Does j f p (Stopped (Refused g)) r
refused_at k d = record { kept = k; same = d.same; fine = λ z. tt }

-- what is left of the names, where the words ys hold n symbols, gives what all of them were to give
pub record Binding (s os ks ys₀ : List ℕ) (n₀ level : ℕ) (all rest ys : List ℕ) (n : ℕ) : Type 0 where
  pub long : length ys ≡ length ys₀
  pub holds : Holds s os ks ys n
  pub left : (p : Parser) → Ready (called s os ks ys₀ n₀ level p)
      → At 0 0 (λ t. bind (ctx_at (called s os ks ys₀ n₀ level p)) all t) (λ t. bind (ctx_at (called s os ks ys₀ n₀ level p)) rest t) (called s os ks ys₀ n₀ level p) (called s os ks ys n level p)

module _ {s os ks ys₀ : List ℕ} {n₀ level : ℕ} where
  pub binding-from : (names : List ℕ) → Holds s os ks ys₀ n₀ → Binding s os ks ys₀ n₀ level names names ys₀ n₀
  binding-from names h = record { long = refl; holds = h; left = λ p r. begin 0 (λ c. bind c names) r }

  lent : {ys : List ℕ} {n : ℕ} (p : Parser) → length ys ≡ length ys₀ → Kept (called s os ks ys₀ n₀ level p) (called s os ks ys n level p)
  lent p l = record { inp = refl; symbols_name = refl; head_name = refl; load_name = refl; symbols = l; head = refl; load = refl }

  module _ {all : List ℕ} {ys : List ℕ} {n : ℕ} where
    -- none is left
    pub bound : Binding s os ks ys₀ n₀ level all [] ys n → Binds s os ks ys₀ n₀ level all (Ok n) ys
    unfolding bind
    bound t = record { long = t.long; holds = t.holds; does = λ p. given (lent p t.long) (λ r. fin (λ c. bind c all) (t.left p r)) }

    module _ {i : ℕ} {rest ys' : List ℕ} (t : Binding s os ks ys₀ n₀ level all (i ∷ rest) ys n) (l : length ys' ≡ length ys) where
      -- the first of them is stored
      pub binding-more : {m : ℕ} → Stores s os ks ys n level i Other (Ok m) ys' → Binding s os ks ys₀ n₀ level all rest ys' m
      unfolding bind
      binding-more d = record {
        long = l ∙ t.long;
        holds = d.holds;
        left = λ p r. go (λ c. store c i Other) _ (t.left p r) (put-done {p = called s os ks ys n level p} i Other l d);
      }

      bound_none : {g : Refusal} → Stores s os ks ys n level i Other (Stopped g) ys' → Binds s os ks ys₀ n₀ level all (Stopped g) ys'
      unfolding bind
      bound_none d = record {
        long = l ∙ t.long;
        holds = tt;
        does = λ p. given (lent p (l ∙ t.long)) (λ r. refused_at (lent p (l ∙ t.long)) (refused (λ c. store c i Other) _ (λ c. bind c all) (t.left p r) (put_full {p = called s os ks ys n level p} i Other l d) refl));
      }

      pub bound-stops : {g : Refusal} (x : Result ℕ Refusal) → Stores s os ks ys n level i Other (Stopped g) ys' → IsErr x × IsErrAnd x (λ h. h ≡ g) → Binds s os ks ys₀ n₀ level all x ys'
      bound-stops (Ok a) d h = absurd h.1
      bound-stops (Stopped f) d h = rw h.1 (bound_none d)

  -- the last of them
  pub bound-last : {all ys ys' : List ℕ} {n i : ℕ} (x : Result ℕ Refusal) → Binding s os ks ys₀ n₀ level all (i ∷ []) ys n → length ys' ≡ length ys → Stores s os ks ys n level i Other x ys' → Binds s os ks ys₀ n₀ level all x ys'
  bound-last (Ok m) t l d = bound (binding-more t l d)
  bound-last (Stopped g) t l d = bound_none t l d

-- ── parameters: the payloads from number k on ──

pub between_more : (a : List ℕ) (k end : ℕ) → k < end → between a k (end - k) ≡ get_or a k 0 ∷ between a (k + 1) (end - (k + 1))
unfolding between
between_more a k end h =
    let e : end - k ≡ suc (end - (k + 1)) = omega arith in
    ap (between a k) e ∙ ap (λ (m : ℕ). get_or a k 0 ∷ between a m (end - (k + 1))) (sym (add-one k))

pub between_none : (a : List ℕ) (k end : ℕ) → end ≤ k → between a k (end - k) ≡ []
unfolding between
between_none a k end h = ap (between a k) (let e : end - k ≡ 0 = omega arith in e)

-- all of them, from the first to the end
pub binding-over : {s os ks ys : List ℕ} {n level : ℕ} (a : List ℕ) (first count : ℕ) → Holds s os ks ys n → Binding s os ks ys n level (between a first count) (between a first ((first + count) - first)) ys n
binding-over {s} {os} {ks} {ys} {n} {level} a first count h =
    subst (λ (m : ℕ). Binding s os ks ys n level (between a first count) (between a first m) ys n) (let z : count ≡ (first + count) - first = omega arith in z) (binding-from (between a first count) h)

module _ {s os ks ys₀ : List ℕ} {n₀ level : ℕ} (all a : List ℕ) (k end : ℕ) {ys : List ℕ} {n : ℕ} (t : Binding s os ks ys₀ n₀ level all (between a k (end - k)) ys n) where
  pub bind-first : k < end → Binding s os ks ys₀ n₀ level all (get_or a k 0 ∷ between a (k + 1) (end - (k + 1))) ys n
  bind-first h = subst (λ (l : List ℕ). Binding s os ks ys₀ n₀ level all l ys n) (between_more a k end h) t

  pub bind-end : end ≤ k → Binding s os ks ys₀ n₀ level all [] ys n
  bind-end h = subst (λ (l : List ℕ). Binding s os ks ys₀ n₀ level all l ys n) (between_none a k end h) t

-- ── by their case ──

pub bind-as : {s os ks ys₀ : List ℕ} {n₀ level : ℕ} {a b : Names} {r : Result ℕ Refusal} {ys : List ℕ} (ls : List ℕ) → a ≡ b → Binds s os ks ys₀ n₀ level (names_of b ls) r ys → Binds s os ks ys₀ n₀ level (names_of a ls) r ys
bind-as {s} {os} {ks} {ys₀} {n₀} {level} {r = r} {ys = ys} ls e d = subst (λ (x : Names). Binds s os ks ys₀ n₀ level (names_of x ls) r ys) (sym e) d

pub bind-none : {s os ks ys : List ℕ} {n level : ℕ} {names : Names} (ls : List ℕ) → Holds s os ks ys n → names ≡ Unnamed → Binds s os ks ys n level (names_of names ls) (Ok n) ys
bind-none ls h e = bind-as ls e (bound (binding-from [] h))
