-- What the definitions of a name, a node and a separator say of the parser that a value leaves.
use Rattle.std.specs.Prelude.{ℕ, suc, ◌≡◌, refl, List, length, Bool, false, not, eqb, ltb, Ok}
use Rattle.std.proofs.Common.{sym, ap, ◌∙◌}
use Rattle.std.proofs.Math.Option.{Option, none, some}
use Rattle.std.proofs.Math.Path.{subst}
use Rattle.sifc_def.specs.declared.Err.{Err}
use Rattle.sifc_def.specs.Why.{Why}
use Rattle.sifc_err.specs.declared.parse_err.ParseErrTy.TheVariants.{InvalidIdent}
use Rattle.sifc_def.specs.State.{Ctx, St, Out, done, fail, refuse, tok_at, arrive, consume, raise, add_error, throw, expect, match_ident, or_throw, ident, push, go_on}
use Rattle.sifc_def.specs.Expr.{separator}
use Rattle.sifc_def.proofs.OutcomeLaws.{Holds, by-test, branch, is-done, is-fail, is-refused, call}
use Rattle.sifc_def.proofs.StepLaws.{clash, other}
use Rattle.sifc_step.specs.declared.walk.Parser.{Parser}
use Rattle.sifc_step.specs.Abs.{inp_of, mem_of, walk_of, nodes_of, ctx_at, abs, abs_at, Ready, Does}
use Rattle.sifc_step.specs.Small.{Idents}
use Rattle.sifc_step.proofs.Steps.{length-nodes, blank, blanks}

abbrev pub Any : St → Type 0
Any s = Unit {0}

any : {A : Type 0} (o : Out A) → Holds o (λ a. Any) Any
any (done a s) = is-done tt
any (fail e s) = is-fail tt
any (refuse r) = is-refused

-- what the definition says of its value and of the state that it gives, of the parser that the code leaves
pub told : {A : Type 0} {j : ℕ} {f : Ctx → St → Out A} {p q : Parser} {a : A} (P : A → St → Type 0) → Ready p → Does j f p (Ok a) q → ((E : List Err) → Holds (f (ctx_at p) (abs_at E p)) P Any) → P a (abs (inp_of p) (blank p.errors) (walk_of q) (mem_of q))
told {A} {j} {f} {p} {q} {a} P r d h =
    let E = blank p.errors in
    let z : Holds (done a (abs (inp_of p) E (walk_of q) (mem_of q))) P Any = subst (λ (u : Out A). Holds u P Any) (sym (d.same r E (blanks p.errors))) (h E) in
    z.holds

-- ── of the definitions ──

-- one token farther, with as many nodes
abbrev Passed : {A : Type 0} → St → A → St → Type 0
Passed s a s' = (s'.at ≡ suc s.at) × (s'.nodes ≡ s.nodes)

consume-passes : (c : Ctx) (s : St) → eqb (tok_at c s.at).kind 47 ≡ false → Holds (consume c s) (Passed s) Any
unfolding consume arrive
consume-passes c s e =
    by-test (eqb (tok_at c s.at).kind 47) _ _ (λ (o : Out (Unit {0})). Holds o (Passed s) Any) (λ y. absurd (clash y e))
    (λ y. by-test (eqb (tok_at c (suc s.at)).kind 48) _ _ (λ (o : Out (Unit {0})). Holds o (Passed s) Any) (λ z. is-refused) (λ z. is-done (refl, refl)))

consume-keeps : (c : Ctx) (s : St) → Holds (consume c s) (λ a s'. s'.nodes ≡ s.nodes) Any
unfolding consume arrive
consume-keeps c s =
    by-test (eqb (tok_at c s.at).kind 47) _ _ (λ (o : Out (Unit {0})). Holds o (λ a s'. s'.nodes ≡ s.nodes) Any) (λ y. is-done refl)
    (λ y. by-test (eqb (tok_at c (suc s.at)).kind 48) _ _ (λ (o : Out (Unit {0})). Holds o (λ a s'. s'.nodes ≡ s.nodes) Any) (λ z. is-refused) (λ z. is-done refl))

separator-keeps : (c : Ctx) (s : St) → Holds (separator c s) (λ a s'. s'.nodes ≡ s.nodes) Any
unfolding separator expect raise go_on
separator-keeps c s =
    branch (not (eqb (tok_at c s.at).kind 2)) _ _ s
    (λ y. branch (eqb (tok_at c s.at).kind 12) _ _ s (λ z. consume-keeps c s) (λ z. is-fail tt))
    (λ y. is-done refl)

-- a name that is there is passed
abbrev Matched : St → Option ℕ → St → Type 0
Matched s (some i) s' = (i ≡ s.at) × (s'.at ≡ suc s.at) × (s'.nodes ≡ s.nodes)
Matched s none s' = Unit {0}

abbrev pub Named : St → ℕ → St → Type 0
Named s i s' = (i ≡ s.at) × (s'.at ≡ suc s.at) × (s'.nodes ≡ s.nodes)

match-passes : (c : Ctx) (s : St) → Holds (match_ident c s) (Matched s) Any
unfolding match_ident go_on
match-passes c s =
    branch (eqb (tok_at c s.at).kind 31) _ _ s
    (λ y. call (consume-passes c s (other (tok_at c s.at).kind 31 47 y refl)) (λ s' q. q) (λ a s' q. is-done (refl, q.0, q.1)))
    (λ y. call (any (add_error c (InvalidIdent s.at) s)) (λ s' q. q) (λ a s' q. is-done tt))

threw : {A : Type 0} (c : Ctx) (why : Why) (s : St) (P : A → St → Type 0) → Holds (throw c {A = A} why s) P Any
unfolding throw raise
threw c why s P = call (any (add_error c why s)) (λ s' q. q) (λ a s' q. is-fail tt)

or-passes : (c : Ctx) (why : Why) (s s' : St) (found : Option ℕ) → Matched s found s' → Holds (or_throw c why found s') (Named s) Any
unfolding or_throw
or-passes c why s s' (some i) m = is-done m
or-passes c why s s' none m = threw c why s' (Named s)

pub ident-passes : (c : Ctx) (y : ℕ → Why) (s : St) → Holds (ident c y s) (Named s) Any
unfolding ident go_on
ident-passes c y s = call (match-passes c s) (λ s' q. q) (λ found s' q. or-passes c (y s.at) s s' found q)

-- a node more
pub push-grows : (c : Ctx) (k : ℕ) (f : Bool) (m t : ℕ) (s : St) → Holds (push c k f m t s) (λ a s'. (s'.at ≡ s.at) × (length s'.nodes ≡ suc (length s.nodes))) Any
unfolding push
push-grows c k f m t s =
    by-test (ltb (length s.nodes) c.node_room) _ _ (λ (o : Out (Unit {0})). Holds o (λ a s'. (s'.at ≡ s.at) × (length s'.nodes ≡ suc (length s.nodes))) Any) (λ y. is-done (refl, refl)) (λ y. is-refused)

-- ── of the parser ──

pub nodes-same : (p q : Parser) → nodes_of q.nodes q.head.now q.load.now ≡ nodes_of p.nodes p.head.now p.load.now → q.nodes ≡ p.nodes
nodes-same p q e = sym (length-nodes q.nodes q.head.now q.load.now) ∙ ap length e ∙ length-nodes p.nodes p.head.now p.load.now

-- the token that is answered is the one that was in front, and it is passed
pub record Next (p : Parser) (i : ℕ) (q : Parser) : Type 0 where
  pub value : i ≡ p.at
  pub at : q.at ≡ suc p.at
  pub nodes : q.nodes ≡ p.nodes

pub name-next-does : {j : ℕ} {p q : Parser} {i : ℕ} (y : ℕ → Why) → Ready p → Does j (λ c. ident c y) p (Ok i) q → Next p i q
name-next-does {p = p} {q = q} y r d =
    let z = told (Named (abs_at (blank p.errors) p)) r d (λ E. ident-passes (ctx_at p) y (abs_at E p)) in
    record { value = z.0; at = z.1; nodes = nodes-same p q z.2 }

pub name-next : {p q : Parser} {why : Why} {i : ℕ} (y : ℕ → Why) → Ready p → Idents p why (Ok i) q → y p.at ≡ why → Next p i q
name-next y r d e = name-next-does y r (d.does y e)

pub separator-nodes : {j : ℕ} {p q : Parser} → Ready p → Does j (λ c. separator c) p (Ok tt) q → q.nodes ≡ p.nodes
separator-nodes {p = p} {q = q} r d = nodes-same p q (told (λ a s. s.nodes ≡ nodes_of p.nodes p.head.now p.load.now) r d (λ E. separator-keeps (ctx_at p) (abs_at E p)))

pub record Grown (p q : Parser) : Type 0 where
  pub at : q.at ≡ p.at
  pub nodes : q.nodes ≡ suc p.nodes
