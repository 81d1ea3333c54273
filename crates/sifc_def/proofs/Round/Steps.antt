-- Completeness, the small steps: what stands ahead, and what consume, expect, push, store and the like do there.
use Rattle.std.specs.Prelude.{ℕ, zero, suc, ◌≤◌, ◌<◌, ◌≡◌, refl, ◌≢◌, List, [], ◌∷◌, map, Bool, true, false, T, eqb, leb, ltb, drop, length, get_or}
use Rattle.std.proofs.Common.{ap, ◌∙◌, subst, arith, not-suc-le-zero, eqb→eq, length-drop}
use Rattle.std.proofs.lemmas.List.{length-map}
use Rattle.sifc_err.specs.declared.Token.{Token}
use Rattle.sifc_err.specs.declared.Refusal.TheVariants.{NodesFull, SymbolsFull, ErrorsFull}
use Rattle.sifc_word.specs.Base.{if◌then◌otherwise◌, member}
use Rattle.sifc_word.specs.Kind.{Percent, Star, Slash, Plus, Minus, Lt, LtEq, Gt, GtEq, BangEq, EqEq, AmpAmp, PipePipe, Ident, Eof, LexPanic}
use Rattle.sifc_lex.specs.Lex.{token}
use Rattle.sifc_def.specs.declared.Err.{Err}
use Rattle.sifc_def.specs.Why.{Why}
use Rattle.sifc_def.specs.declared.What.{What}
use Rattle.sifc_def.specs.State.{Node, node, Sym, Ctx, St, Out, done, refuse, go_on, W, word_in, tok_at, word_at, name_at, arrive, consume, list, expect, optional, match_ident, or_throw, ident, push}
use Rattle.sifc_def.specs.Symbols.{put_at, store}
use Rattle.sifc_def.specs.Expr.{looseness, is_unary, fuel}
use Rattle.sifc_def.specs.Label.{Lab}
use Rattle.sifc_def.specs.Typed.{Expr, prim, un, bin, call, dot, idx, set, mut, Exprs, nil, more, word, rp, rb, eq, height, wrap, between, pr, prs}
use Rattle.sifc_def.proofs.Round.{Res, of_size, at-kind, In, Made}

-- the first word, Eof where there is none
abbrev pub first : List W → W
first ws = get_or ws 0 (word Eof [])

-- what stands ahead, and how the walk stands; no lexing panic ends the tokens
pub record Pre (c : Ctx) (l : ℕ) (E : List Sym) (b : Bool) (ws : List W) (at lvl : ℕ) (syms : List Sym) (chk : Bool) : Type 0 where
  pub calm : (i : ℕ) → eqb (tok_at c i).kind LexPanic ≡ false
  pub sees : map (word_in c.script) (drop at c.toks) ≡ ws
  pub stands : In c l E b lvl syms chk

-- the same, of a state
abbrev pub Ahead : Ctx → ℕ → List Sym → Bool → List W → St → Type 0
Ahead c l E b ws s = Pre c l E b ws s.at s.level s.syms s.check

-- what a reading leaves: names E, checking b, the rest ahead, and these labels over the nodes ns
pub record Got (c : Ctx) (l : ℕ) (E : List Sym) (b : Bool) (L : List Lab) (rest : List W) (ns : List Node) (s : St) : Type 0 where
  pub pre : Ahead c l E b rest s
  pub made : Made c L ns s.nodes

-- ── the token ahead ──

-- the word of token i is the first of the words from i on
pub map-get_d : (f : List ℕ) (ts : List Token) (i : ℕ) → word_in f (get_or ts i (token Eof 0 0)) ≡ get_or (map (word_in f) (drop i ts)) 0 (word Eof [])
map-get_d f [] zero = refl
map-get_d f [] (suc i) = refl
map-get_d f (t ∷ ts) zero = refl
map-get_d f (t ∷ ts) (suc i) = map-get_d f ts i

-- the current token's word is the first ahead
pub now : {c : Ctx} {l : ℕ} {E : List Sym} {b : Bool} {ws : List W} {at lvl : ℕ} {syms : List Sym} {chk : Bool} → Pre c l E b ws at lvl syms chk → word_at c at ≡ first ws
now {c} {at} p = map-get_d c.script c.toks at ∙ ap (λ (x : List W). get_or x 0 (word Eof [])) p.sees

-- the current token's kind is the first word's
pub kind-now : {c : Ctx} {l : ℕ} {E : List Sym} {b : Bool} {ws : List W} {at lvl : ℕ} {syms : List Sym} {chk : Bool} → Pre c l E b ws at lvl syms chk → (tok_at c at).kind ≡ (first ws).kind
kind-now p = ap (λ (x : W). x.kind) (now p)

-- a test of the kind ahead
pub test : (F : ℕ → Bool) (v : Bool) {c : Ctx} {l : ℕ} {E : List Sym} {b : Bool} {ws : List W} {at lvl : ℕ} {syms : List Sym} {chk : Bool} → Pre c l E b ws at lvl syms chk → F (first ws).kind ≡ v → F (tok_at c at).kind ≡ v
test F v p e = rw (kind-now p) e

-- the words from the next token on
pub map-drop : (f : List ℕ) (ts : List Token) (i : ℕ) → map (word_in f) (drop (suc i) ts) ≡ drop 1 (map (word_in f) (drop i ts))
map-drop f [] zero = refl
map-drop f [] (suc i) = refl
map-drop f (t ∷ ts) zero = refl
map-drop f (t ∷ ts) (suc i) = map-drop f ts i

-- one word on
pub later : {c : Ctx} {l : ℕ} {E : List Sym} {b : Bool} {x : W} {ws : List W} {at lvl : ℕ} {syms : List Sym} {chk : Bool} → Pre c l E b (x ∷ ws) at lvl syms chk → Pre c l E b ws (suc at) lvl syms chk
later {c} {at} p = record { calm = p.calm; sees = map-drop c.script c.toks at ∙ ap (λ (y : List W). drop 1 y) p.sees; stands = p.stands }

-- with other names, level or checking
pub stand : {c : Ctx} {l l' : ℕ} {E E' : List Sym} {b b' : Bool} {ws : List W} {at lvl lvl' : ℕ} {syms syms' : List Sym} {chk chk' : Bool} → Pre c l E b ws at lvl syms chk → In c l' E' b' lvl' syms' chk' → Pre c l' E' b' ws at lvl' syms' chk'
stand p h = record { calm = p.calm; sees = p.sees; stands = h }

-- no more words than turns of a loop
pub sees-length : {c : Ctx} {l : ℕ} {E : List Sym} {b : Bool} {ws : List W} {at lvl : ℕ} {syms : List Sym} {chk : Bool} → Pre c l E b ws at lvl syms chk → length ws ≤ fuel c
sees-length {c} {at} p = omega (arith, length-drop at c.toks, length-map (drop at c.toks) (word_in c.script), ap (λ (x : List W). length x) p.sees)

-- ── steps ──

-- the state one token on
abbrev pub stepped : St → St
stepped s = record { at = suc s.at; nodes = s.nodes; syms = s.syms; level = s.level; check = s.check; errs = s.errs }

-- the state with one node more
abbrev pub pushed : ℕ → Bool → ℕ → ℕ → St → St
pushed k f n q s = record { at = s.at; nodes = node k f n q ∷ s.nodes; syms = s.syms; level = s.level; check = s.check; errs = s.errs }

-- the state with a name stored
abbrev pub stored_as : List ℕ → What → St → St
stored_as n w s = record { at = s.at; nodes = s.nodes; syms = put_at s.level n w s.syms; level = s.level; check = s.check; errs = s.errs }

-- the state with one error more
abbrev pub listed : Err → St → St
listed e s = record { at = s.at; nodes = s.nodes; syms = s.syms; level = s.level; check = s.check; errs = e ∷ s.errs }

-- a word that is not the end is taken
pub consume-eq : (s : St) {c : Ctx} {l : ℕ} {E : List Sym} {b : Bool} {x : W} {ws : List W} → Ahead c l E b (x ∷ ws) s → eqb x.kind Eof ≡ false → consume c s ≡ done tt (stepped s)
unfolding consume arrive if◌then◌otherwise◌
consume-eq s p e = rw (kind-now p, e, p.calm (suc s.at)) refl

-- an expected word is taken
pub expect-eq : (k : ℕ) (s : St) {c : Ctx} {l : ℕ} {E : List Sym} {b : Bool} {x : W} {ws : List W} → Ahead c l E b (x ∷ ws) s → eqb x.kind k ≡ true → eqb x.kind Eof ≡ false → expect c k s ≡ done tt (stepped s)
unfolding expect go_on if◌then◌otherwise◌
expect-eq k s p e n = rw (kind-now p, e) (consume-eq s p n)

-- a node is added, or refused for room
pub push_ok : (c : Ctx) (k : ℕ) (f : Bool) (n q : ℕ) (s : St) (Q : Unit {0} → St → Type 0) → Q tt (pushed k f n q s) → Res (push c k f n q s) Q
unfolding Res of_size push if◌then◌otherwise◌
push_ok c k f n q s Q h = go (ltb (length s.nodes) c.node_room)
  where
    go : (b : Bool) → Res (if◌then◌otherwise◌ {A = Out (Unit {0})} b (done tt (pushed k f n q s)) (refuse NodesFull)) Q
    go true = h
    go false = tt

-- a name is stored, or refused for room
pub store_ok : (c : Ctx) (i : ℕ) (w : What) (s : St) (Q : Unit {0} → St → Type 0) → Q tt (stored_as (name_at c i) w s) → Res (store c i w s) Q
unfolding Res of_size store if◌then◌otherwise◌
store_ok c i w s Q h = go (leb (length (put_at s.level (name_at c i) w s.syms)) c.sym_room)
  where
    go : (b : Bool) → Res (if◌then◌otherwise◌ {A = Out (Unit {0})} b (done tt (stored_as (name_at c i) w s)) (refuse SymbolsFull)) Q
    go true = h
    go false = tt

-- an error is listed, or refused for room
pub list-ok : (c : Ctx) (e : Err) (s : St) (Q : Unit {0} → St → Type 0) → Q tt (listed e s) → Res (list c e s) Q
unfolding Res of_size list if◌then◌otherwise◌
list-ok c e s Q h = go (ltb (length s.errs) c.err_room)
  where
    go : (b : Bool) → Res (if◌then◌otherwise◌ {A = Out (Unit {0})} b (done tt (listed e s)) (refuse ErrorsFull)) Q
    go true = h
    go false = tt

-- a name is taken
pub ident-eq : (why : ℕ → Why) (s : St) {c : Ctx} {l : ℕ} {E : List Sym} {b : Bool} {x : W} {ws : List W} → Ahead c l E b (x ∷ ws) s → x.kind ≡ Ident → ident c why s ≡ done s.at (stepped s)
unfolding ident match_ident or_throw go_on if◌then◌otherwise◌
ident-eq why s {x} p k =
    rw (test (λ n. eqb n Ident) true p (at-kind (λ n. eqb n Ident ≡ true) x.kind Ident k refl), consume-eq s p (at-kind (λ n. eqb n Eof ≡ false) x.kind Ident k refl)) refl

-- an optional token that is there, and one that is not
pub optional-yes : (k : ℕ) (s : St) {c : Ctx} {l : ℕ} {E : List Sym} {b : Bool} {x : W} {ws : List W} → Ahead c l E b (x ∷ ws) s → eqb x.kind k ≡ true → eqb x.kind Eof ≡ false → optional c k s ≡ done true (stepped s)
unfolding optional go_on if◌then◌otherwise◌
optional-yes k s p e n = rw (kind-now p, e, consume-eq s p n) refl

-- an optional token that is not there
pub optional-no : (k : ℕ) (s : St) {c : Ctx} {l : ℕ} {E : List Sym} {b : Bool} {ws : List W} → Ahead c l E b ws s → eqb (first ws).kind k ≡ false → optional c k s ≡ done false s
unfolding optional go_on if◌then◌otherwise◌
optional-no k s p e = rw (kind-now p, e) refl

-- ── operators ──

-- a bound of both branches is one of the choice
pub if-le : (b : Bool) (x y m : ℕ) → x ≤ m → y ≤ m → (if b then x otherwise y) ≤ m
unfolding if◌then◌otherwise◌
if-le true x y m p q = p
if-le false x y m p q = q

-- there are seven levels
pub loose-le : (k : ℕ) → looseness k ≤ 7
unfolding looseness
loose-le k =
    if-le (eqb k Percent) _ _ 7 (omega arith) (
    if-le (member k (Star ∷ Slash ∷ [])) _ _ 7 (omega arith) (
    if-le (member k (Plus ∷ Minus ∷ [])) _ _ 7 (omega arith) (
    if-le (member k (Lt ∷ LtEq ∷ Gt ∷ GtEq ∷ [])) _ _ 7 (omega arith) (
    if-le (member k (BangEq ∷ EqEq ∷ [])) _ _ 7 (omega arith) (
    if-le (eqb k AmpAmp) _ _ 7 (omega arith) (
    if-le (eqb k PipePipe) _ _ 7 (omega arith) (omega arith)))))))

-- the end is no operator
pub loose-end : (k : ℕ) → 0 < looseness k → eqb k Eof ≡ false
unfolding looseness member if◌then◌otherwise◌
loose-end k h = go (eqb k Eof) refl
  where
    go : (x : Bool) → eqb k Eof ≡ x → x ≡ false
    go true e = let z : 0 < looseness Eof = subst (λ (n : ℕ). 0 < looseness n) (eqb→eq k Eof (rw e tt)) h in absurd (not-suc-le-zero z)
    go false e = refl

-- an operator is none of what is no operator
pub loose-not : (k n : ℕ) → 0 < looseness k → looseness n ≡ 0 → k ≢ n
loose-not k n h z e = let y : 0 < looseness n = subst (λ (m : ℕ). 0 < looseness m) e h in omega arith

-- nor a unary one
pub unary-end : (k : ℕ) → T (is_unary k) → eqb k Eof ≡ false
unfolding is_unary
unary-end k h = go (eqb k Eof) refl
  where
    go : (x : Bool) → eqb k Eof ≡ x → x ≡ false
    go true e = let z : T (is_unary Eof) = subst (λ (n : ℕ). T (is_unary n)) (eqb→eq k Eof (rw e tt)) h in absurd z
    go false e = refl

-- ── lengths of prints ──

-- parentheses only add words
pub wrap-length : (b : Bool) (f : List W → List W) → ((r : List W) → length r < length (f r)) → (r : List W) → length r < length (wrap b f r)
unfolding wrap
wrap-length true f h r = h r
wrap-length false f h r = let p : suc (length r) < length (f (rp ∷ r)) = h (rp ∷ r) in omega arith

-- a comma only adds a word
pub between-length : (es : Exprs) (ws : List W) → length ws ≤ length (between es ws)
unfolding between
between-length nil ws = omega arith
between-length (more e es) ws = omega arith

mutual
  unfolding pr

  -- an expression has a word
  pub pr-length : (e : Expr) (rest : List W) → length rest < length (pr e rest)
  pr-length (prim x) rest = omega arith
  pr-length (un o e) rest = let p = wrap-length (leb (height e) 0) (pr e) (pr-length e) rest in omega arith
  pr-length (bin o l r) rest =
      let p = wrap-length (ltb (height r) (looseness o.kind)) (pr r) (pr-length r) rest in
      let q = wrap-length (leb (height l) (looseness o.kind)) (pr l) (pr-length l) (o ∷ wrap (ltb (height r) (looseness o.kind)) (pr r) rest) in
      omega arith
  pr-length (call x es) rest = let p = prs-length es (rp ∷ rest) in omega arith
  pr-length (dot x e) rest = let p = pr-length e rest in omega arith
  pr-length (idx x e) rest = let p = pr-length e (rb ∷ rest) in omega arith
  pr-length (set x g e) rest = let p = pr-length e rest in omega arith
  pr-length (mut x i e) rest = let p = pr-length e rest in let q = pr-length i (rb ∷ eq ∷ pr e rest) in omega arith

  -- arguments only add words
  pub prs-length : (es : Exprs) (rest : List W) → length rest ≤ length (prs es rest)
  prs-length nil rest = omega arith
  prs-length (more e es) rest = let p = pr-length e (between es (prs es rest)) in let q = between-length es (prs es rest) in let q2 = prs-length es rest in omega arith
