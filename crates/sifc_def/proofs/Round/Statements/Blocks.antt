-- Completeness of declarations and statements: their words are read as them, or a refusal 6 to 9 says otherwise.
use Prim.Native.Nat.{ℕ, zero, suc, ◌+◌, ◌-◌, ◌≤◌, ◌<◌}
use Rattle.std.specs.Prelude.{◌≡◌, Bool, ◌||◌, not, take, length}
use Rattle.std.proofs.Math.Path.{refl, ap, subst}
use Rattle.std.proofs.Common.{sym, ap₂, ◌∙◌, arith, not-suc-le-zero, eqb→eq, le→leb}
use mathlib.Core.List.{List, [], ◌∷◌, ◌++◌, map, reverse, reverse_aux, reverse_aux-eq, reverse-reverse}
use Rattle.std.proofs.Math.Bool.{true, false}
use Rattle.std.proofs.Math.Nat.{zero-add}
use Rattle.std.proofs.Math.Dec.{T, eqb, ltb}
use Rattle.std.proofs.lemmas.List.{length-reverse, length-map}
use Rattle.std.proofs.Math.Seq.{take-append_seam}
use Rattle.sifc_word.specs.Base.{if◌then◌otherwise◌, member}
use Rattle.sifc_word.specs.Kind.{LeftBrace, RightBrace, Semicolon, Var, Fn, Return, If, Elif, Else, For, Eof}
use Rattle.sifc_def.specs.Ast.{Block, ReturnStmt, ExprStmt, PrimaryExpr}
use Rattle.sifc_def.specs.State.{Node, node, Sym, Ctx, St, done, go_on, W, tok_at, word_at}
use Rattle.sifc_def.specs.Symbols.{set_level, init_scope, close_scope}
use Rattle.sifc_def.specs.Label.{Lab, has_token, scope_of, text_of}
use Rattle.sifc_def.specs.Walk.{walkers}
use Rattle.sifc_def.specs.Expr.{Rec, fuel}
use Rattle.sifc_def.specs.Stmt.{bind, with_return, ret_stmt, expr_stmt as expr_part, stmt, decl, decls, block as block_part}
use Rattle.sifc_def.specs.Typed.{Expr, Items, no_item, item, Stmt, var_none, var_expr, var_array, var_table, func, block, cond, loop, ret, ret_expr, expr_stmt, Stmts, stop, next, Branches, no_branch, elif_of, else_of, counted, many_branches, rp, rb, comma, semi, drb, lbrace, rbrace, return_word, between_names, between_items, pr, pr_names, pr_items, pr_s, pr_ss, pr_bs, bare, block_lab, renc, renc_s, renc_ss, is_return, returns, returns_last, bound, env_s, env_ss, OkS, OkSs}
use Rattle.sifc_def.proofs.Round.{true_of, at-kind, or_r, of_size, Res, and_then, yes-then, no-else, res-map, In, labelled, Made, made_none, made_then, made-push, Newest, newest, top_of}
use Rattle.sifc_def.proofs.Round.Steps.{first, Ahead, Got, test, later, stand, sees-length, stepped, consume-eq, expect-eq, push_ok, pr-length, prs-length}
use Rattle.sifc_def.proofs.Round.Levels.{starters}
use Rattle.sifc_def.proofs.Round.Levels.Suffixes.{start}
use Rattle.sifc_def.proofs.Round.Statements.{stop-semi, Count, read-expr, bind_ok}
pub mod Every

-- ── lists ──

-- the node of the single token i
abbrev pub prim_node : ℕ → Node
prim_node i = node PrimaryExpr false 0 i

-- the payloads of single tokens' nodes are the tokens
pay-prims : (is : List ℕ) → map (λ (x : Node). x.pay) (map prim_node is) ≡ is
pay-prims [] = refl
pay-prims (i ∷ is) = ap (λ (r : List ℕ). i ∷ r) (pay-prims is)

-- a function over a reversed list
map-reverse : {A B : Type 0} (f : A → B) (xs r : List A) → map f (reverse_aux xs r) ≡ reverse_aux (map f xs) (map f r)
map-reverse f [] r = refl
map-reverse f (x ∷ xs) r = map-reverse f xs (x ∷ r)

-- the payloads of the newest nodes are the parameters' tokens
pub loads-prims : (is : List ℕ) (ns : List Node) (n : ℕ) → n ≡ length is → reverse (map (λ (x : Node). x.pay) (take n (reverse_aux (map prim_node is) ns))) ≡ is
loads-prims is ns n e =
    let en : n ≡ length (reverse (map prim_node is)) = e ∙ sym (length-map is prim_node) ∙ sym (length-reverse (map prim_node is)) in
    ap₂ (λ (k : ℕ) (xs : List Node). reverse (map (λ (x : Node). x.pay) (take k xs))) en (reverse_aux-eq (map prim_node is) ns)
    ∙ ap (λ (xs : List Node). reverse (map (λ (x : Node). x.pay) xs)) (take-append_seam (reverse (map prim_node is)) ns)
    ∙ ap (λ (xs : List ℕ). reverse xs) (map-reverse (λ (x : Node). x.pay) (map prim_node is) [] ∙ ap (λ (xs : List ℕ). reverse xs) (pay-prims is))
    ∙ reverse-reverse is

-- one kind is not another
pub member-test : (k n : ℕ) (ks : List ℕ) → T (member k ks) → T (not (member n ks)) → eqb k n ≡ false
member-test k n ks t f = go (eqb k n) refl
  where
    clash : (v : Bool) → T (not v) → T v → ⊥
    clash true a b = a
    clash false a b = b

    go : (v : Bool) → eqb k n ≡ v → v ≡ false
    go true q = absurd (clash (member n ks) f (subst (λ (m : ℕ). T (member m ks)) (eqb→eq k n (rw q tt)) t))
    go false q = refl

-- what a declaration begins with
abbrev pub decl_starters : List ℕ
decl_starters = Var ∷ Fn ∷ Return ∷ If ∷ For ∷ LeftBrace ∷ starters

-- an expression begins a declaration
of-expr : (k : ℕ) → T (member k starters) → T (member k decl_starters)
unfolding member
of-expr k t = or_r (eqb k Var) _ (or_r (eqb k Fn) _ (or_r (eqb k Return) _ (or_r (eqb k If) _ (or_r (eqb k For) _ (or_r (eqb k LeftBrace) _ t)))))

-- an `if` goes on with `elif` and `else`
unfoldable pub Follow : List W → Type 0
Follow rest = (eqb (first rest).kind Elif ≡ false) × (eqb (first rest).kind Else ≡ false)

-- no `if` goes on with what begins a declaration
follow-of : (ws : List W) → T (member (first ws).kind decl_starters) → Follow ws
unfolding Follow member
follow-of ws t = (member-test (first ws).kind Elif decl_starters t tt, member-test (first ws).kind Else decl_starters t tt)

-- what a declaration begins with
pub start-decl : (t : Stmt) (c : Ctx) (l : ℕ) (E : List Sym) (rest : List W) → OkS l E t → T (member (first (pr_s t rest)).kind decl_starters)
unfolding OkS pr_s member
start-decl (var_none x) c l E rest k = tt
start-decl (var_expr x e) c l E rest k = tt
start-decl (var_array x es) c l E rest k = tt
start-decl (var_table x is) c l E rest k = tt
start-decl (func x ns ss) c l E rest k = tt
start-decl (block ss) c l E rest k = tt
start-decl (cond e ss bs) c l E rest k = tt
start-decl (loop x y e ss) c l E rest k = tt
start-decl ret c l E rest k = tt
start-decl (ret_expr e) c l E rest k = tt
start-decl (expr_stmt e) c l E rest k = of-expr (first (pr e (semi ∷ rest))).kind (start c l E e true k (semi ∷ rest))

-- no `if` goes on with `}`
pub follow-rbrace : (rest : List W) → Follow (rbrace ∷ rest)
unfolding Follow
follow-rbrace rest = (refl, refl)

-- a list of declarations, and then what no `if` goes on with
pub follow-decls : (ts : Stmts) (c : Ctx) (l : ℕ) (E : List Sym) (rest : List W) → OkSs l E ts → Follow rest → Follow (pr_ss ts rest)
unfolding OkSs pr_ss
follow-decls stop c l E rest k f = f
follow-decls (next t ts) c l E rest k f = follow-of (pr_s t (pr_ss ts rest)) (start-decl t c l E (pr_ss ts rest) k.0)

-- ── lengths of prints ──

-- items only add words
items-length : (is : Items) (rest : List W) → length rest ≤ length (pr_items is rest)
unfolding pr_items between_items
items-length no_item rest = omega arith
items-length (item x e no_item) rest = let z = pr-length e rest in omega arith
items-length (item x e (item y e' is)) rest = let z = pr-length e (comma ∷ pr_items (item y e' is) rest) in let q = items-length (item y e' is) rest in omega arith

-- each name is a word
names-length : (ns : List W) (rest : List W) → length ns + length rest ≤ length (pr_names ns rest)
unfolding pr_names between_names
names-length [] rest = omega arith
names-length (x ∷ []) rest = omega arith
names-length (x ∷ y ∷ ns) rest = let q = names-length (y ∷ ns) rest in omega arith

mutual
  unfolding pr_s counted many_branches

  -- a declaration has a word
  pr_s-length : (t : Stmt) (rest : List W) → length rest < length (pr_s t rest)
  pr_s-length (var_none x) rest = omega arith
  pr_s-length (var_expr x e) rest = let z = pr-length e (semi ∷ rest) in omega arith
  pr_s-length (var_array x es) rest = let z = prs-length es (rb ∷ semi ∷ rest) in omega arith
  pr_s-length (var_table x is) rest = let z = items-length is (drb ∷ semi ∷ rest) in omega arith
  pr_s-length (func x ns ss) rest = let z = names-length ns (rp ∷ lbrace ∷ pr_ss ss (rbrace ∷ rest)) in let y = pr_ss-length ss (rbrace ∷ rest) in omega arith
  pr_s-length (block ss) rest = let y = pr_ss-length ss (rbrace ∷ rest) in omega arith
  pr_s-length (cond e ss bs) rest = let z = pr-length e (lbrace ∷ pr_ss ss (rbrace ∷ pr_bs bs rest)) in let y = pr_ss-length ss (rbrace ∷ pr_bs bs rest) in let q = pr_bs-length bs rest in omega arith
  pr_s-length (loop x y e ss) rest = let z = pr-length e (lbrace ∷ pr_ss ss (rbrace ∷ rest)) in let q = pr_ss-length ss (rbrace ∷ rest) in omega arith
  pr_s-length ret rest = omega arith
  pr_s-length (ret_expr e) rest = let z = pr-length e (semi ∷ rest) in omega arith
  pr_s-length (expr_stmt e) rest = let z = pr-length e (semi ∷ rest) in omega arith

  -- each declaration has a word
  pub pr_ss-length : (ts : Stmts) (rest : List W) → counted ts + length rest ≤ length (pr_ss ts rest)
  pr_ss-length stop rest = omega arith
  pr_ss-length (next t ts) rest = let z = pr_s-length t (pr_ss ts rest) in let y = pr_ss-length ts rest in omega arith

  -- each branch has a word
  pr_bs-length : (bs : Branches) (rest : List W) → many_branches bs + length rest ≤ length (pr_bs bs rest)
  pr_bs-length no_branch rest = omega arith
  pr_bs-length (elif_of e ss bs) rest = let z = pr-length e (lbrace ∷ pr_ss ss (rbrace ∷ pr_bs bs rest)) in let y = pr_ss-length ss (rbrace ∷ pr_bs bs rest) in let q = pr_bs-length bs rest in omega arith
  pr_bs-length (else_of ss bs) rest = let y = pr_ss-length ss (rbrace ∷ pr_bs bs rest) in let q = pr_bs-length bs rest in omega arith

-- ── the last `return ;` of a function ──

-- a list of labels that begins with kind k
record Headed (k : ℕ) (xs : List Lab) : Type 0 where
  head' : Lab
  others : List Lab
  is : xs ≡ head' ∷ others
  kind' : head'.kind ≡ k

-- a last return has the newest label
last-head : (t : Stmt) (ts : Stmts) (l : ℕ) → T (returns_last t ts) → Headed ReturnStmt (renc_ss l (next t ts))
unfolding returns is_return renc_s
last-head (var_none x) stop l h = absurd h
last-head (var_expr x e) stop l h = absurd h
last-head (var_array x es) stop l h = absurd h
last-head (var_table x is) stop l h = absurd h
last-head (func x ns ss) stop l h = absurd h
last-head (block ss) stop l h = absurd h
last-head (cond e ss bs) stop l h = absurd h
last-head (loop x y e ss) stop l h = absurd h
last-head ret stop l h = record { head' = bare ReturnStmt false 0; others = []; is = refl; kind' = refl }
last-head (ret_expr e) stop l h = record { head' = bare ReturnStmt false 1; others = renc e; is = refl; kind' = refl }
last-head (expr_stmt e) stop l h = absurd h
last-head t (next u ts) l h =
    let q : Headed ReturnStmt (renc_ss l (next u ts)) = last-head u ts l h in
    record { head' = q.head'; others = q.others ++ renc_s l t; is = ap (λ (xs : List Lab). xs ++ renc_s l t) q.is; kind' = q.kind' }

-- so where a list of declarations ends in one
returns-head : (ts : Stmts) (l : ℕ) → T (returns ts) → Headed ReturnStmt (renc_ss l ts)
unfolding returns
returns-head stop l h = absurd h
returns-head (next t ts) l h = last-head t ts l h

-- such a list is not empty
returns-some : (ts : Stmts) → T (returns ts) → 0 < counted ts
unfolding returns counted
returns-some stop h = absurd h
returns-some (next t ts) h = omega arith

-- no labels, no nodes
pub made-empty : {c : Ctx} {ns ns' : List Node} → Made c [] ns ns' → ns' ≡ ns
made-empty {c} {ns} {ns'} m = go m.new m.nodes m.labs
  where
    go : (new : List Node) → ns' ≡ new ++ ns → map (labelled c) new ≡ [] → ns' ≡ ns
    go [] e f = e
    go (x ∷ new) e f = absurd (let z : ◌≡◌ {A = ℕ} 0 1 = cc in let y : ⊥ = omega arith in y)

-- the level is set, names and checking stay
pub in-level : {c : Ctx} {l : ℕ} {E : List Sym} {b : Bool} {lvl : ℕ} {syms : List Sym} {chk : Bool} (l' lvl' : ℕ) → lvl' ≡ l' → In c l E b lvl syms chk → In c l' E b lvl' syms chk
in-level l' lvl' e h = record { level = e; names = h.names; fair = h.fair; check = h.check }

-- the state with another level
abbrev pub levelled : ℕ → St → St
levelled n s = record { at = s.at; nodes = s.nodes; syms = s.syms; level = n; check = s.check; errs = s.errs }

module _ (c : Ctx) where
  -- a function's body has its return
  return-eq : (body : Bool) (ts : Stmts) (l m : ℕ) (ns : List Node) (s : St) → T (not body || returns ts) → Made c (renc_ss l ts) ns s.nodes → m ≡ counted ts → with_return c body m s ≡ done m s
  unfolding with_return go_on if◌then◌otherwise◌
  return-eq false ts l m ns s t made em = refl
  return-eq true ts l m ns s t made em =
      let q : Headed ReturnStmt (renc_ss l ts) = returns-head ts l t in
      let nw : Newest c q.head' q.others ns s.nodes = newest (subst (λ (xs : List Lab). Made c xs ns s.nodes) q.is made) in
      let ek : (top_of s.nodes).kind ≡ ReturnStmt = ap (λ (z : List Node). (top_of z).kind) nw.nodes ∙ ap (λ (z : Lab). z.kind) nw.lab' ∙ q.kind' in
      let e₁ : ltb 0 m ≡ true = true_of (ltb 0 m) (le→leb 1 m (let z = returns-some ts t in omega arith)) in
      let e₂ : eqb (top_of s.nodes).kind ReturnStmt ≡ true = at-kind (λ n. eqb n ReturnStmt ≡ true) (top_of s.nodes).kind ReturnStmt ek refl in
      rw (e₁, e₂) refl

  -- ── a declaration is read as itself ──

  -- a declaration's words are read as that declaration
  pub Says : Stmt → Type 0
  Says t = (d l : ℕ) (E : List Sym) (rest : List W) (s : St) → OkS l E t → Follow rest → Ahead c l E true (pr_s t rest) s → Res (decl c (walkers c d) s) (λ u. Got c l (env_s l E t) true (renc_s l t) rest s.nodes)

  -- so is each of them
  AllSay : Stmts → Type 0
  AllSay stop = Unit {0}
  AllSay (next t ts) = Says t × AllSay ts

  -- no declaration begins with what ends a block
  not_end : (t : Stmt) (l : ℕ) (E : List Sym) (rest : List W) (s : St) → OkS l E t → Ahead c l E true (pr_s t rest) s → (eqb (tok_at c s.at).kind RightBrace || eqb (tok_at c s.at).kind Eof) ≡ false
  unfolding member
  not_end t l E rest s k p =
      let m = start-decl t c l E rest k in
      test (λ n. eqb n RightBrace || eqb n Eof) false p
      (rw (member-test (first (pr_s t rest)).kind RightBrace decl_starters m tt, member-test (first (pr_s t rest)).kind Eof decl_starters m tt) refl)

  -- the loop of block reads declarations as they are
  decls-ok : (ts : Stmts) → AllSay ts → (d f n l : ℕ) (E : List Sym) (rest : List W) (s : St) → OkSs l E ts → counted ts ≤ f → Ahead c l E true (pr_ss ts (rbrace ∷ rest)) s
      → Res (decls c (walkers c d) f n s) (Count (n + counted ts) (Got c l (env_ss l E ts) true (renc_ss l ts) (rbrace ∷ rest) s.nodes))
  unfolding AllSay Says decls pr_ss OkSs env_ss renc_ss counted Res if◌then◌otherwise◌ go_on
  decls-ok stop all d zero n l E rest s k len p = record { num = omega arith; got = record { pre = p; made = made_none } }
  decls-ok stop all d (suc f) n l E rest s k len p = yes-then _ _ _ s _ (test (λ m. eqb m RightBrace || eqb m Eof) true p refl) (record { num = omega arith; got = record { pre = p; made = made_none } })
  decls-ok (next t ts) all d zero n l E rest s k len p = absurd (not-suc-le-zero len)
  decls-ok (next t ts) all d (suc f) n l E rest s k len p =
      let Q : ℕ → St → Type 0 = Count (n + counted (next t ts)) (Got c l (env_ss l E (next t ts)) true (renc_ss l (next t ts)) (rbrace ∷ rest) s.nodes) in
      no-else _ _ _ s Q (not_end t l E (pr_ss ts (rbrace ∷ rest)) s k.0 p)
      (and_then (decl c (walkers c d) s) _ (λ u. Got c l (env_s l E t) true (renc_s l t) (pr_ss ts (rbrace ∷ rest)) s.nodes) Q
      (all.0 d l E (pr_ss ts (rbrace ∷ rest)) s k.0 (follow-decls ts c l (env_s l E t) (rbrace ∷ rest) k.1 (follow-rbrace rest)) p)
      (λ u s₁ h.
      res-map (decls c (walkers c d) f (suc n) s₁) (Count (suc n + counted ts) (Got c l (env_ss l (env_s l E t) ts) true (renc_ss l ts) (rbrace ∷ rest) s₁.nodes)) Q
      (decls-ok ts all.1 d f (suc n) l (env_s l E t) rest s₁ k.1 (omega arith) h.pre)
      (λ m s₂ q. record { num = q.num ∙ omega arith; got = record { pre = q.got.pre; made = made_then h.made q.got.made } })))

  -- ── blocks ──

  -- the labels of a block inside level l
  abbrev pub block_labs : ℕ → Stmts → List Lab
  block_labs l ss = block_lab (counted ss) l ∷ renc_ss l ss

  -- a block is read as it is, with the names that are bound in it
  block-ok : (ss : Stmts) → AllSay ss → (body : Bool) (is : List ℕ) (xs : List W) (d l : ℕ) (E : List Sym) (rest : List W) (s : St) → T (not body || returns ss) → map (λ (i : ℕ). word_at c i) is ≡ xs
      → OkSs (suc l) (bound (suc l) xs E) ss → Ahead c l E true (lbrace ∷ pr_ss ss (rbrace ∷ rest)) s
      → Res ((walkers c d).block body is s) (λ u. Got c l (env_ss (suc l) (bound (suc l) xs E) ss) true (block_labs (suc l) ss) rest s.nodes)
  unfolding walkers block_part init_scope close_scope set_level Res of_size scope_of text_of has_token member go_on if◌then◌otherwise◌
  block-ok ss all body is xs zero l E rest s t ex k p = tt
  block-ok ss all body is xs (suc d) l E rest s t ex k p =
      let ws : List W = pr_ss ss (rbrace ∷ rest) in
      let E₁ : List Sym = bound (suc l) xs E in
      let Q : Unit {0} → St → Type 0 = λ u. Got c l (env_ss (suc l) E₁ ss) true (block_labs (suc l) ss) rest s.nodes in
      let s₂ : St = levelled (suc s.level) (stepped s) in
      rw (expect-eq LeftBrace s p refl refl)
      (and_then (bind c is s₂) _ (λ u. Got c (suc l) E₁ true [] ws s.nodes) Q
      (subst (λ (ys : List W). Res (bind c is s₂) (λ u. Got c (suc l) (bound (suc l) ys E) true [] ws s.nodes)) ex
      (bind_ok c is (suc l) E true [] ws s.nodes s₂ (record { pre = stand (later p) (in-level (suc l) (suc s.level) (ap suc p.stands.level) p.stands); made = made_none })))
      (λ u s₃ h₃.
      and_then (decls c (walkers c d) (fuel c) 0 s₃) _ (Count (0 + counted ss) (Got c (suc l) (env_ss (suc l) E₁ ss) true (renc_ss (suc l) ss) (rbrace ∷ rest) s₃.nodes)) Q
      (decls-ok ss all d (fuel c) 0 (suc l) E₁ rest s₃ k (let z = pr_ss-length ss (rbrace ∷ rest) in let y = sees-length h₃.pre in omega arith) h₃.pre)
      (λ m s₄ h₄.
      let em : m ≡ counted ss = h₄.num ∙ zero-add (counted ss) in
      let made₄ : Made c (renc_ss (suc l) ss) s.nodes s₄.nodes = subst (λ (ns : List Node). Made c (renc_ss (suc l) ss) ns s₄.nodes) (made-empty h₃.made) h₄.got.made in
      rw (expect-eq RightBrace s₄ h₄.got.pre refl refl)
      (rw (return-eq body ss (suc l) m s.nodes (levelled (s₄.level - 1) (stepped s₄)) t made₄ em)
      (push_ok c Block false m s₄.level (levelled (s₄.level - 1) (stepped s₄)) Q
      (record {
        pre = stand (later h₄.got.pre) (in-level l (s₄.level - 1) (let z : s₄.level ≡ suc l = h₄.got.pre.stands.level in omega arith) h₄.got.pre.stands);
        made = made-push (ap₂ (λ (n : ℕ) (z : ℕ). block_lab n z) em h₄.got.pre.stands.level) made₄;
      }))))))

  -- a block that binds no names
  plain_ok : (ss : Stmts) → AllSay ss → (d l : ℕ) (E : List Sym) (rest : List W) (s : St) → OkSs (suc l) E ss → Ahead c l E true (lbrace ∷ pr_ss ss (rbrace ∷ rest)) s
      → Res ((walkers c d).block false [] s) (λ u. Got c l (env_ss (suc l) E ss) true (block_labs (suc l) ss) rest s.nodes)
  unfolding bound
  plain_ok ss all d l E rest s k p = block-ok ss all false [] [] d l E rest s tt refl k p

  -- ── which declaration it is ──

  -- what is no variable and no function is a statement
  to-stmt : (r : Rec) (l : ℕ) (E : List Sym) (ws : List W) (s : St) (Q : Unit {0} → St → Type 0) → Ahead c l E true ws s → eqb (first ws).kind Var ≡ false → eqb (first ws).kind Fn ≡ false → Res (stmt c r s) Q → Res (decl c r s) Q
  unfolding decl go_on if◌then◌otherwise◌
  to-stmt r l E ws s Q p e₁ e₂ h = no-else _ _ _ s Q (test (λ n. eqb n Var) false p e₁) (no-else _ _ _ s Q (test (λ n. eqb n Fn) false p e₂) h)

  -- an expression statement is read as it is
  expr-says : (e : Expr) → Says (expr_stmt e)
  unfolding Says OkS pr_s stmt expr_part env_s renc_s scope_of text_of has_token member if◌then◌otherwise◌ go_on
  expr-says e d l E rest s k f p =
      let Q : Unit {0} → St → Type 0 = λ u. Got c l E true (bare ExprStmt false 1 ∷ renc e) rest s.nodes in
      let m : T (member (first (pr e (semi ∷ rest))).kind starters) = start c l E e true k (semi ∷ rest) in
      to-stmt (walkers c d) l E (pr e (semi ∷ rest)) s Q p (member-test (first (pr e (semi ∷ rest))).kind Var starters m tt) (member-test (first (pr e (semi ∷ rest))).kind Fn starters m tt)
      (no-else _ _ _ s Q (test (λ n. eqb n If) false p (member-test (first (pr e (semi ∷ rest))).kind If starters m tt))
      (no-else _ _ _ s Q (test (λ n. eqb n For) false p (member-test (first (pr e (semi ∷ rest))).kind For starters m tt))
      (no-else _ _ _ s Q (test (λ n. eqb n Return) false p (member-test (first (pr e (semi ∷ rest))).kind Return starters m tt))
      (no-else _ _ _ s Q (test (λ n. eqb n LeftBrace) false p (member-test (first (pr e (semi ∷ rest))).kind LeftBrace starters m tt))
      (and_then ((walkers c d).assign s) _ (λ u. Got c l E true (renc e) (semi ∷ rest) s.nodes) Q
      (read-expr c e d l E (semi ∷ rest) s k (stop-semi rest) p)
      (λ u s₁ h. rw (expect-eq Semicolon s₁ h.pre refl refl) (push_ok c ExprStmt false 1 0 (stepped s₁) Q (record { pre = later h.pre; made = made-push refl h.made }))))))))

  -- a block is read as it is
  block-says : (ss : Stmts) → AllSay ss → Says (block ss)
  unfolding Says OkS pr_s stmt env_s renc_s if◌then◌otherwise◌ go_on
  block-says ss all d l E rest s k f p =
      let Q : Unit {0} → St → Type 0 = λ u. Got c l (env_ss (suc l) E ss) true (block_labs (suc l) ss) rest s.nodes in
      to-stmt (walkers c d) l E (lbrace ∷ pr_ss ss (rbrace ∷ rest)) s Q p refl refl
      (no-else _ _ _ s Q (test (λ n. eqb n If) false p refl)
      (no-else _ _ _ s Q (test (λ n. eqb n For) false p refl)
      (no-else _ _ _ s Q (test (λ n. eqb n Return) false p refl)
      (yes-then _ _ _ s Q (test (λ n. eqb n LeftBrace) true p refl) (plain_ok ss all d l E rest s k p)))))

  -- `return ;` is read as it is
  ret-says : Says ret
  unfolding Says OkS pr_s stmt ret_stmt env_s renc_s scope_of text_of has_token member if◌then◌otherwise◌ go_on
  ret-says d l E rest s k f p =
      let Q : Unit {0} → St → Type 0 = λ u. Got c l E true (bare ReturnStmt false 0 ∷ []) rest s.nodes in
      to-stmt (walkers c d) l E (return_word ∷ semi ∷ rest) s Q p refl refl
      (no-else _ _ _ s Q (test (λ n. eqb n If) false p refl)
      (no-else _ _ _ s Q (test (λ n. eqb n For) false p refl)
      (yes-then _ _ _ s Q (test (λ n. eqb n Return) true p refl)
      (rw (expect-eq Return s p refl refl)
      (yes-then _ _ _ (stepped s) Q (test (λ n. eqb n Semicolon) true (later p) refl)
      (rw (consume-eq (stepped s) (later p) refl)
      (push_ok c ReturnStmt false 0 0 (stepped (stepped s)) Q (record { pre = later (later p); made = made-push refl made_none }))))))))

  -- a return with a value is read as it is
  ret_expr-says : (e : Expr) → Says (ret_expr e)
  unfolding Says OkS pr_s stmt ret_stmt env_s renc_s scope_of text_of has_token member if◌then◌otherwise◌ go_on
  ret_expr-says e d l E rest s k f p =
      let Q : Unit {0} → St → Type 0 = λ u. Got c l E true (bare ReturnStmt false 1 ∷ renc e) rest s.nodes in
      to-stmt (walkers c d) l E (return_word ∷ pr e (semi ∷ rest)) s Q p refl refl
      (no-else _ _ _ s Q (test (λ n. eqb n If) false p refl)
      (no-else _ _ _ s Q (test (λ n. eqb n For) false p refl)
      (yes-then _ _ _ s Q (test (λ n. eqb n Return) true p refl)
      (rw (expect-eq Return s p refl refl)
      (no-else _ _ _ (stepped s) Q (test (λ n. eqb n Semicolon) false (later p) (member-test (first (pr e (semi ∷ rest))).kind Semicolon starters (start c l E e true k (semi ∷ rest)) tt))
      (and_then ((walkers c d).assign (stepped s)) _ (λ u. Got c l E true (renc e) (semi ∷ rest) s.nodes) Q
      (read-expr c e d l E (semi ∷ rest) (stepped s) k (stop-semi rest) (later p))
      (λ u s₁ h. rw (expect-eq Semicolon s₁ h.pre refl refl) (push_ok c ReturnStmt false 1 0 (stepped s₁) Q (record { pre = later h.pre; made = made-push refl h.made })))))))))
