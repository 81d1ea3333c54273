-- What a call that is done has done to the parser: a token expected, a node pushed; and the names that a block binds.
use Rattle.std.specs.Prelude.{ℕ, zero, suc, ◌+◌, ◌-◌, ◌≤◌, ◌<◌, ◌≡◌, refl, List, [], ◌∷◌, ◌++◌, map, reverse, Bool, true, false, length, get_or, take, eqb, ltb, Result, Ok}
use Rattle.std.proofs.Common.{arith, sym, ap, ◌∙◌, eqb→eq, ltb-true, ltb-false}
use Rattle.std.proofs.lemmas.Bool.{eqb-false}
use mathlib.Core.List.{reverse_aux, append-nil}
use Rattle.std.proofs.Math.Path.{subst}
use Rattle.sifc_word.specs.Kind.{Eof, LexPanic}
use Rattle.sifc_def.specs.State.{Node, node, Ctx, St, Out, tok_at, consume, arrive, raise, go_on, expect, push}
use Rattle.sifc_def.specs.Stmt.{bind}
use Rattle.sifc_def.proofs.OutcomeLaws.{Holds, by-test, branch, is-done, is-fail, is-refused}
use Rattle.sifc_step.specs.declared.walk.Parser.{Parser}
use Rattle.sifc_step.specs.declared.walk.Stop.{Stop}
use Rattle.sifc_step.specs.Abs.{here, passes, inp_of, mem_of, walk_of, nodes_of, ctx_at, abs, abs_at, Ready, Kept, Does}
use Rattle.sifc_step.proofs.Steps.{length-nodes, blank}
use Rattle.sifc_step.specs.Small.{passes_if, OnlyMoves, InitsScope}
use Rattle.sifc_step.proofs.Small.{passes-one, passes_if-yes}
use Rattle.sifc_step.proofs.Told.{Any, told, nodes-same}
use Rattle.sifc_block.specs.declared.block.Names.{Names}
use Rattle.sifc_block.specs.declared.block.Names.TheVariants.{Unnamed, Pair, Params}
use Rattle.sifc_block.specs.Bound.{between, names_of, NamesFit}
use Rattle.sifc_parse.specs.Cycle.{NamesIn}

-- ── of the definitions ──

-- a token passed, and nothing else changed
abbrev Moved : {A : Type 0} → St → A → St → Type 0
Moved s a s' = (s'.level ≡ s.level) × (s'.at ≡ suc s.at) × (s'.nodes ≡ s.nodes)

expect-moves : (c : Ctx) (k : ℕ) (s : St) → (k ≡ Eof → ⊥) → Holds (expect c k s) (Moved s) Any
unfolding expect consume arrive raise go_on
expect-moves c k s ne =
    branch (eqb (tok_at c s.at).kind k) _ _ s
    (λ p. by-test (eqb (tok_at c s.at).kind Eof) _ _ (λ (o : Out (Unit {0})). Holds o (Moved s) Any)
    (λ q. absurd (ne (sym (eqb→eq (tok_at c s.at).kind k (rw p tt)) ∙ eqb→eq (tok_at c s.at).kind Eof (rw q tt))))
    (λ q. by-test (eqb (tok_at c (suc s.at)).kind LexPanic) _ _ (λ (o : Out (Unit {0})). Holds o (Moved s) Any) (λ r. is-refused) (λ r. is-done (refl, refl, refl))))
    (λ p. is-fail tt)

push-makes : (c : Ctx) (k : ℕ) (f : Bool) (n p : ℕ) (s : St) → Holds (push c k f n p s) (λ u s'. s'.nodes ≡ node k f n p ∷ s.nodes) Any
unfolding push
push-makes c k f n p s = by-test (ltb (length s.nodes) c.node_room) _ _ (λ (o : Out (Unit {0})). Holds o (λ u s'. s'.nodes ≡ node k f n p ∷ s.nodes) Any) (λ e. is-done refl) (λ e. is-refused)

-- ── of the parser ──

abbrev pub nodes-at : Parser → List Node
nodes-at p = nodes_of p.nodes p.head.now p.load.now

module _ {j : ℕ} (k : ℕ) {p q : Parser} (ne : k ≡ Eof → ⊥) (d : Does j (λ c. expect c k) p (Ok tt) q) where
  moves : Ready p → Moved {A = Unit {0}} (abs_at (blank p.errors) p) tt (abs (inp_of p) (blank p.errors) (walk_of q) (mem_of q))
  moves r = told (Moved (abs_at (blank p.errors) p)) r d (λ E. expect-moves (ctx_at p) k (abs_at E p) ne)

  -- an expected kind that was there: a token was passed, and the level is as it was
  pub expect-level : Ready p → q.level < q.at
  expect-level r = omega (arith, (moves r).0, (moves r).1, r.level)

pub moved-nodes : (p q : Parser) → OnlyMoves p q → nodes-at q ≡ nodes-at p
moved-nodes p q a = ap nodes-at a

pub scope-nodes : {p q : Parser} → InitsScope p q → nodes-at q ≡ nodes-at p
scope-nodes a = ap nodes-at a.alone

pub push-nodes : {j : ℕ} (k : ℕ) (f : Bool) (n t : ℕ) {p q : Parser} → Ready p → Does j (λ c. push c k f n t) p (Ok tt) q → nodes-at q ≡ node k f n t ∷ nodes-at p
push-nodes k f n t {p} {q} r d = told (λ u s. s.nodes ≡ node k f n t ∷ nodes-at p) r d (λ E. push-makes (ctx_at p) k f n t (abs_at E p))

-- ── a function's parameters ──

between-last : (a : List ℕ) (i n : ℕ) (acc : List ℕ) → between a i (suc n) ++ acc ≡ between a i n ++ (get_or a (i + n) 0 ∷ acc)
unfolding between
between-last a i zero acc = ap (λ (k : ℕ). get_or a k 0 ∷ acc) (let e : i ≡ i + 0 = omega arith in e)
between-last a i (suc n) acc = ap (λ (l : List ℕ). get_or a i 0 ∷ l) (between-last a (suc i) n acc ∙ ap (λ (k : ℕ). between a (suc i) n ++ (get_or a k 0 ∷ acc)) (let e : suc i + n ≡ i + suc n = omega arith in e))

loads-onto : (n m : ℕ) (hs ls acc : List ℕ) → n ≤ m → reverse_aux (map (λ (x : Node). x.pay) (take n (nodes_of m hs ls))) acc ≡ between ls (m - n) n ++ acc
unfolding nodes_of between
loads-onto zero m hs ls acc h = refl
loads-onto (suc n) zero hs ls acc h = absurd (let z : ⊥ = omega arith in z)
loads-onto (suc n) (suc m) hs ls acc h =
    loads-onto n m hs ls (get_or ls m 0 ∷ acc) (omega arith)
    ∙ ap (λ (k : ℕ). between ls (m - n) n ++ (get_or ls k 0 ∷ acc)) (let e : m ≡ m - n + n = omega arith in e)
    ∙ sym (between-last ls (m - n) n acc)
    ∙ ap (λ (k : ℕ). between ls k (suc n) ++ acc) (let e : m - n ≡ suc m - suc n = omega arith in e)

-- the payloads of the n newest of m nodes, in order
loads-are : (n m : ℕ) (hs ls : List ℕ) → n ≤ m → reverse (map (λ (x : Node). x.pay) (take n (nodes_of m hs ls))) ≡ between ls (m - n) n
loads-are n m hs ls h = loads-onto n m hs ls [] h ∙ append-nil (between ls (m - n) n)

tail_of : {x y : Node} {xs ys : List Node} → x ∷ xs ≡ y ∷ ys → xs ≡ ys
tail_of e = ap (λ (l : List Node). elim l [ [] ↦ [] | z ∷ zs ↦ zs ]) e

head_of : {x y : Node} {xs ys : List Node} → x ∷ xs ≡ y ∷ ys → x.pay ≡ y.pay
head_of {x} e = ap (λ (l : List Node). elim l [ [] ↦ x.pay | z ∷ zs ↦ z.pay ]) e

nodes-under : (m n : ℕ) (hs ls hs' ls' : List ℕ) (x : Node) → m ≡ suc n → nodes_of m hs' ls' ≡ x ∷ nodes_of n hs ls → nodes_of n hs' ls' ≡ nodes_of n hs ls
unfolding nodes_of
nodes-under m n hs ls hs' ls' x e h = tail_of (ap (λ (i : ℕ). nodes_of i hs' ls') (sym e) ∙ h)

pub nodes-more : {x : Node} (p r : Parser) → nodes-at r ≡ x ∷ nodes-at p → r.nodes ≡ suc p.nodes
nodes-more p r e = sym (length-nodes r.nodes r.head.now r.load.now) ∙ ap length e ∙ ap suc (length-nodes p.nodes p.head.now p.load.now)

-- with a node more over them
pub names-kept : (n : ℕ) {x : Node} (p r : Parser) → nodes-at r ≡ x ∷ nodes-at p → n ≤ p.nodes → reverse (map (λ (y : Node). y.pay) (take n (nodes-at p))) ≡ between r.load.now (p.nodes - n) n
names-kept n {x} p r e h =
    let m : r.nodes ≡ suc p.nodes = nodes-more p r e in
    ap (λ (l : List Node). reverse (map (λ (y : Node). y.pay) (take n l))) (sym (nodes-under r.nodes p.nodes p.head.now p.load.now r.head.now r.load.now x m e))
    ∙ loads-are n p.nodes r.head.now r.load.now h

-- ── the names that a block binds ──

load-same : (m : ℕ) (hs ls hs' ls' : List ℕ) (i : ℕ) → nodes_of m hs' ls' ≡ nodes_of m hs ls → i < m → get_or ls' i 0 ≡ get_or ls i 0
unfolding nodes_of
load-same zero hs ls hs' ls' i e h = absurd (let z : ⊥ = omega arith in z)
load-same (suc m) hs ls hs' ls' i e h = pick (ltb i m) refl (λ l. load-same m hs ls hs' ls' i (tail_of e) l)
  where
    pick : (b : Bool) → ltb i m ≡ b → (i < m → get_or ls' i 0 ≡ get_or ls i 0) → get_or ls' i 0 ≡ get_or ls i 0
    pick true t f = f (ltb-true i m t)
    pick false t f =
        let z : m ≤ i = ltb-false i m t in
        let y : m ≡ i = omega (arith, h) in
        subst (λ (k : ℕ). get_or ls' k 0 ≡ get_or ls k 0) y (head_of e)

between-same : (ls ls' : List ℕ) (first n m : ℕ) → ((i : ℕ) → i < m → get_or ls' i 0 ≡ get_or ls i 0) → first + n ≤ m → between ls first n ≡ between ls' first n
unfolding between
between-same ls ls' first zero m f h = refl
between-same ls ls' first (suc n) m f h =
    ap (λ (x : ℕ). x ∷ between ls (suc first) n) (sym (f first (omega arith)))
    ∙ ap (λ (l : List ℕ). get_or ls' first 0 ∷ l) (between-same ls ls' (suc first) n m f (omega arith))

pub names-same : (names : Names) (p r : Parser) → nodes-at r ≡ nodes-at p → NamesIn names p → names_of names p.load.now ≡ names_of names r.load.now
names-same Unnamed p r e h = refl
names-same (Pair i j) p r e h = refl
names-same (Params first count) p r e h =
    let m : r.nodes ≡ p.nodes = nodes-same p r e in
    between-same p.load.now r.load.now first count p.nodes
    (λ i l. load-same p.nodes p.head.now p.load.now r.head.now r.load.now i (ap (λ (k : ℕ). nodes_of k r.head.now r.load.now) (sym m) ∙ e) l) h

pub names-fit : (names : Names) (p r : Parser) → Ready p → Kept p r → NamesIn names p → NamesFit names r.load.now
names-fit Unnamed p r a k h = tt
names-fit (Pair i j) p r a k h = h
names-fit (Params first count) p r a k h = omega (arith, h, a.used, a.even, k.load)

pub bound-as : {ns ms : List ℕ} {p q : Parser} {x : Result (Unit {0}) Stop} → ns ≡ ms → Does 0 (λ c. bind c ms) p x q → Does 0 (λ c. bind c ns) p x q
bound-as {p = p} {q = q} {x = x} e d = subst (λ (l : List ℕ). Does 0 (λ c. bind c l) p x q) (sym e) d

-- ── how many tokens there are ──

pub here-few : (p : Parser) → Ready p → p.at < 65536
here-few p r = omega (arith, r.stands.here, r.stands.toks.few)

-- ── a token passed ──

-- a kind that is no Eof
pub passed : (p : Parser) (k : ℕ) → here p ≡ k → (k ≡ Eof → ⊥) → passes p ≡ 1
passed p k e ne = passes-one p (λ z. ne (sym e ∙ z))

-- the `{` of a block
pub brace : (j : ℕ) (p : Parser) → j ≤ 1 → ((here p ≡ 3 → ⊥) → j ≡ 0) → j ≤ passes_if 3 p
brace j p le f = pick (eqb (here p) 3) refl
  where
    pick : (b : Bool) → eqb (here p) 3 ≡ b → j ≤ passes_if 3 p
    pick true t =
        let e : here p ≡ 3 = eqb→eq (here p) 3 (rw t tt) in
        omega (arith, le, passes_if-yes 3 p e, passed p 3 e (λ z. omega arith))
    pick false t = omega (arith, f (eqb-false (here p) 3 t))
