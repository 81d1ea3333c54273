-- What both halves of the round trip share: outcomes, names without their declaring tokens, labelled nodes, the state before a step, and the small steps.
use Rattle.std.specs.Prelude.{ℕ, zero, suc, ◌+◌, ◌-◌, ◌≤◌, ◌<◌, ◌≡◌, refl, ◌≢◌, List, [], ◌∷◌, ◌++◌, map, Bool, true, false, ◌&&◌, ◌||◌, not, T, eqb, leb, length, get_or}
use Rattle.std.proofs.Common.{sym, ap, ap₂, ◌∙◌, subst, append_assoc, arith, eqb→eq, leb→le, length-append}
use Rattle.std.proofs.Math.Option.{Option, none, some}
use Rattle.std.proofs.Math.Seq.{take-append_seam, drop-append-add}
use Rattle.sifc_err.specs.declared.Refusal.{Refusal}
use Rattle.sifc_err.specs.Refusal.{number_of}
use Rattle.sifc_word.specs.Base.{if◌then◌otherwise◌, member, same}
use Rattle.sifc_word.specs.Kind.{Ident}
use Rattle.sifc_def.specs.declared.What.{What}
use Rattle.sifc_def.specs.declared.What.TheVariants.{Placeholder, Function, Variable, Other}
use Rattle.sifc_def.specs.State.{Node, node, Sym, Ctx, St, Out, done, fail, refuse, M, go_on, W, name_of, word_at, without}
use Rattle.sifc_def.specs.Symbols.{is_sym, find_at, find, put_at}
use Rattle.sifc_def.specs.Label.{Lab, label}
use Rattle.sifc_def.specs.Typed.{is_some, wants}
pub mod Steps
pub mod Levels
pub mod Statements
pub mod Program
pub mod Sound
pub mod Again

-- ── truth values ──

-- a truth value that holds is true
pub true_of : (b : Bool) → T b → b ≡ true
true_of true t = refl
true_of false t = absurd t

-- a truth value that does not hold is false
pub false_of : (b : Bool) → T (not b) → b ≡ false
false_of true t = absurd t
false_of false t = refl

-- different numbers do not pass the test of equality
pub not_eqb : (a b : ℕ) → a ≢ b → eqb a b ≡ false
not_eqb a b h = go (eqb a b) refl
  where
    go : (x : Bool) → eqb a b ≡ x → x ≡ false
    go true e = absurd (h (eqb→eq a b (rw e tt)))
    go false e = refl

-- a smaller number does not pass the test of being at least as large
pub not-leb : (a b : ℕ) → b < a → leb a b ≡ false
not-leb a b h = go (leb a b) refl
  where
    go : (x : Bool) → leb a b ≡ x → x ≡ false
    go true e = absurd (let z : a ≤ b = leb→le a b (rw e tt) in let y : ⊥ = omega arith in y)
    go false e = refl

-- a fact of the number that k is
pub at-kind : (P : ℕ → Type 0) (k n : ℕ) → k ≡ n → P n → P k
at-kind P k n e p = subst P (sym e) p

-- the first of two that both hold
pub and_l : (a b : Bool) → T (a && b) → T a
and_l true b t = tt
and_l false b t = absurd t

-- the second of two that both hold
pub and_r : (a b : Bool) → T (a && b) → T b
and_r true b t = t
and_r false b t = absurd t

-- two that hold, hold together
pub and_in : (a b : Bool) → T a → T b → T (a && b)
and_in true b t u = u
and_in false b t u = absurd t

-- one of two holds: the first
pub or_l : (a b : Bool) → T a → T (a || b)
or_l true b t = tt
or_l false b t = absurd t

-- one of two holds: the second
pub or_r : (a b : Bool) → T b → T (a || b)
or_r true b t = tt
or_r false b t = t

-- one of two holds: what follows from either follows
pub or_case : {X : Type 0} (a b : Bool) → (T a → X) → (T b → X) → T (a || b) → X
or_case true b f g t = f tt
or_case false b f g t = g t

-- a fact of each number of a list
pub All : (ℕ → Type 0) → List ℕ → Type 0
All P [] = Unit {0}
All P (n ∷ ns) = P n × All P ns

-- a fact of each number of a list is one of every member
pub in-cases : (P : ℕ → Type 0) (k : ℕ) (ns : List ℕ) → All P ns → T (member k ns) → P k
unfolding All member
in-cases P k [] a t = absurd t
in-cases P k (n ∷ ns) a t = or_case (eqb k n) (member k ns) (λ e. subst P (sym (eqb→eq k n e)) a.0) (in-cases P k ns a.1) t

-- ── outcomes ──

-- a refusal 6 to 9: TooDeep, NodesFull, SymbolsFull, ErrorsFull
unfoldable pub of_size : Refusal → Bool
of_size r = leb 6 (number_of r) && leb (number_of r) 9

-- complete: done as Q says, or a refusal 6 to 9
unfoldable pub Res : {A : Type 0} → Out A → (A → St → Type 0) → Type 0
Res (done a s) Q = Q a s
Res (fail e s) Q = ⊥
Res (refuse r) Q = T (of_size r)

-- a step that comes to P, and from P on to Q, comes to Q
pub and_then : {A B : Type 0} (o : Out A) (f : A → M B) (P : A → St → Type 0) (Q : B → St → Type 0) → Res o P → ((a : A) (s : St) → P a s → Res (f a s) Q) → Res (go_on o f) Q
unfolding Res go_on
and_then (done a s) f P Q p h = h a s p
and_then (fail e s) f P Q p h = absurd p
and_then (refuse r) f P Q p h = p

-- a branch whose test is true
pub yes-then : {A : Type 0} (b : Bool) (m k : M A) (s : St) (Q : A → St → Type 0) → b ≡ true → Res (m s) Q → Res (if◌then◌otherwise◌ {A = M A} b m k s) Q
unfolding if◌then◌otherwise◌
yes-then true m k s Q e h = h
yes-then false m k s Q e h = absurd (subst (λ (x : Bool). T (not x)) e tt)

-- a branch whose test is false
pub no-else : {A : Type 0} (b : Bool) (m k : M A) (s : St) (Q : A → St → Type 0) → b ≡ false → Res (k s) Q → Res (if◌then◌otherwise◌ {A = M A} b m k s) Q
unfolding if◌then◌otherwise◌
no-else true m k s Q e h = absurd (subst (λ (x : Bool). T x) e tt)
no-else false m k s Q e h = h

-- what follows from an outcome's fact is a fact of the outcome
pub res-map : {A : Type 0} (o : Out A) (P Q : A → St → Type 0) → Res o P → ((a : A) (s : St) → P a s → Q a s) → Res o Q
unfolding Res
res-map (done a s) P Q p h = h a s p
res-map (fail e s) P Q p h = absurd p
res-map (refuse r) P Q p h = p

-- ── names without their declaring tokens ──

-- what a name was declared as, without the declaring token
abbrev pub erase : Option What → Option What
erase none = none
erase (some Placeholder) = some Placeholder
erase (some (Function n)) = some (Function n)
erase (some (Variable i g)) = some (Variable 0 g)
erase (some Other) = some Other

-- how many arguments a name takes does not depend on its declaring token
pub wants-erase : (w : Option What) (n : ℕ) → wants (erase w) n ≡ wants w n
unfolding wants
wants-erase none n = refl
wants-erase (some Placeholder) n = refl
wants-erase (some (Function m)) n = refl
wants-erase (some (Variable i g)) n = refl
wants-erase (some Other) n = refl

-- nor does whether it was declared
pub is_some-erase : (w : Option What) → is_some (erase w) ≡ is_some w
unfolding is_some
is_some-erase none = refl
is_some-erase (some Placeholder) = refl
is_some-erase (some (Function n)) = refl
is_some-erase (some (Variable i g)) = refl
is_some-erase (some Other) = refl

-- the same, of what is stored
unfoldable pub erased : What → What
erased Placeholder = Placeholder
erased (Function n) = Function n
erased (Variable i g) = Variable 0 g
erased Other = Other

-- the same, of an entry of the symbol table
unfoldable pub erase_sym : Sym → Sym
erase_sym x = record { level = x.level; name = x.name; what = erased x.what }

-- a look-up on one level finds the same without declaring tokens
pub find_at-erase : (l : ℕ) (n : List ℕ) (xs : List Sym) → find_at l n (map erase_sym xs) ≡ erase (find_at l n xs)
unfolding find_at is_sym erase_sym erased
find_at-erase l n [] = refl
find_at-erase l n (x ∷ xs) = go (is_sym l n x) refl (find_at-erase l n xs)
  where
    some-erase : (w : What) → some (erased w) ≡ erase (some w)
    some-erase Placeholder = refl
    some-erase (Function m) = refl
    some-erase (Variable i g) = refl
    some-erase Other = refl

    go : (b : Bool) → is_sym l n x ≡ b → find_at l n (map erase_sym xs) ≡ erase (find_at l n xs) → find_at l n (map erase_sym (x ∷ xs)) ≡ erase (find_at l n (x ∷ xs))
    go true e ih = rw (e, find_at) (some-erase x.what)
    go false e ih = rw (e, find_at) ih

-- a look-up finds the same without declaring tokens
pub find-erase : (l : ℕ) (n : List ℕ) (xs : List Sym) → find l n (map erase_sym xs) ≡ erase (find l n xs)
unfolding find
find-erase zero n xs = find_at-erase zero n xs
find-erase (suc l) n xs = go (find_at (suc l) n xs) refl (find-erase l n xs)
  where
    go : (v : Option What) → find_at (suc l) n xs ≡ v → find l n (map erase_sym xs) ≡ erase (find l n xs) → find (suc l) n (map erase_sym xs) ≡ erase (find (suc l) n xs)
    go none e ih = rw (find_at-erase (suc l) n xs, e, find) ih
    go (some Placeholder) e ih = rw (find_at-erase (suc l) n xs, e, find) refl
    go (some (Function m)) e ih = rw (find_at-erase (suc l) n xs, e, find) refl
    go (some (Variable i g)) e ih = rw (find_at-erase (suc l) n xs, e, find) refl
    go (some Other) e ih = rw (find_at-erase (suc l) n xs, e, find) refl

-- storing a name and leaving out declaring tokens can change places
pub put_at-erase : (l : ℕ) (n : List ℕ) (w : What) (xs : List Sym) → map erase_sym (put_at l n w xs) ≡ put_at l n (erased w) (map erase_sym xs)
unfolding put_at is_sym erase_sym
put_at-erase l n w [] = refl
put_at-erase l n w (x ∷ xs) = go (is_sym l n x) refl (put_at-erase l n w xs)
  where
    go : (b : Bool) → is_sym l n x ≡ b → map erase_sym (put_at l n w xs) ≡ put_at l n (erased w) (map erase_sym xs) → map erase_sym (put_at l n w (x ∷ xs)) ≡ put_at l n (erased w) (map erase_sym (x ∷ xs))
    go true e ih = rw (e, put_at) refl
    go false e ih = rw (e, put_at) (ap (λ (r : List Sym). erase_sym x ∷ r) ih)

-- a variable's declaring token has its name as text
unfoldable pub Fair : Ctx → Sym → Type 0
Fair c x = (i : ℕ) (g : Bool) → x.what ≡ Variable i g → (word_at c i).text ≡ x.name

-- the same of every entry
unfoldable pub Fairs : Ctx → List Sym → Type 0
Fairs c [] = Unit {0}
Fairs c (x ∷ xs) = Fair c x × Fairs c xs

-- names that are the same byte for byte are equal
pub same-eq : (a b : List ℕ) → T (same a b) → a ≡ b
unfolding same
same-eq [] [] t = refl
same-eq [] (y ∷ ys) t = absurd t
same-eq (x ∷ a) [] t = absurd t
same-eq (x ∷ a) (y ∷ b) t = let p : x ≡ y = eqb→eq x y (and_l (eqb x y) (same a b) t) in let q : a ≡ b = same-eq a b (and_r (eqb x y) (same a b) t) in cc

-- a variable that is found on one level was declared by a token with its name
pub find_at-fair : (c : Ctx) (l : ℕ) (n : List ℕ) (xs : List Sym) → Fairs c xs → (i : ℕ) (g : Bool) → find_at l n xs ≡ some (Variable i g) → (word_at c i).text ≡ n
unfolding find_at is_sym Fairs Fair
find_at-fair c l n [] f i g e = absurd (let z : ◌≡◌ {A = ℕ} 0 1 = cc in let y : ⊥ = omega arith in y)
find_at-fair c l n (x ∷ xs) f i g e = go (is_sym l n x) refl (find_at-fair c l n xs f.1 i g)
  where
    go : (b : Bool) → is_sym l n x ≡ b → (find_at l n xs ≡ some (Variable i g) → (word_at c i).text ≡ n) → (word_at c i).text ≡ n
    go true h ih =
        let w : some x.what ≡ some (Variable i g) = rw (h, find_at) at e in
        let ew : x.what ≡ Variable i g = cc in
        let en : x.name ≡ n = same-eq x.name n (and_r (eqb x.level l) (same x.name n) (rw h tt)) in
        f.0 i g ew ∙ en
    go false h ih = ih (rw (h, find_at) at e)

-- a variable that is found was declared by a token with its name
pub find-fair : (c : Ctx) (l : ℕ) (n : List ℕ) (xs : List Sym) → Fairs c xs → (i : ℕ) (g : Bool) → find l n xs ≡ some (Variable i g) → (word_at c i).text ≡ n
unfolding find
find-fair c zero n xs f i g e = find_at-fair c zero n xs f i g e
find-fair c (suc l) n xs f i g e = go (find_at (suc l) n xs) refl (find-fair c l n xs f i g)
  where
    go : (v : Option What) → find_at (suc l) n xs ≡ v → (find l n xs ≡ some (Variable i g) → (word_at c i).text ≡ n) → (word_at c i).text ≡ n
    go none h ih = ih (rw (h, find) at e)
    go (some v) h ih = find_at-fair c (suc l) n xs f i g (h ∙ (rw (h, find) at e))

-- storing a name whose declaring token has it keeps that so
pub put_at-fair : (c : Ctx) (l : ℕ) (n : List ℕ) (w : What) (xs : List Sym) → Fairs c xs → ((i : ℕ) (g : Bool) → w ≡ Variable i g → (word_at c i).text ≡ n) → Fairs c (put_at l n w xs)
unfolding put_at Fairs Fair
put_at-fair c l n w [] f h = (h, tt)
put_at-fair c l n w (x ∷ xs) f h = go (is_sym l n x) refl (put_at-fair c l n w xs f.1 h)
  where
    go : (b : Bool) → is_sym l n x ≡ b → Fairs c (put_at l n w xs) → Fairs c (put_at l n w (x ∷ xs))
    go true e ih = rw (e, put_at) (h, f.1)
    go false e ih = rw (e, put_at) (f.0, ih)

-- the name of an identifier is its text
pub ident-name : (x : W) → x.kind ≡ Ident → name_of x ≡ x.text
unfolding name_of if◌then◌otherwise◌
ident-name x e = rw e refl

-- ── labelled nodes ──

-- a node's label in the context's script and tokens
abbrev pub labelled : Ctx → Node → Lab
labelled c n = label c.script c.toks n

-- a function over a joined list
pub map-append : {A B : Type 0} (f : A → B) (xs ys : List A) → map f (xs ++ ys) ≡ map f xs ++ map f ys
map-append f [] ys = refl
map-append {B} f (x ∷ xs) ys = ap (λ (r : List B). f x ∷ r) (map-append f xs ys)

-- the nodes that were added, newest first, are labelled so
pub record Made (c : Ctx) (ls : List Lab) (ns ns' : List Node) : Type 0 where
  pub new : List Node
  pub nodes : ns' ≡ new ++ ns
  pub labs : map (labelled c) new ≡ ls

-- no node was added
pub made_none : {c : Ctx} {ns : List Node} → Made c [] ns ns
made_none = record { new = []; nodes = refl; labs = refl }

-- nodes were added, and then others
pub made_then : {c : Ctx} {a b : List Lab} {n₀ n₁ n₂ : List Node} → Made c a n₀ n₁ → Made c b n₁ n₂ → Made c (b ++ a) n₀ n₂
made_then {c} {a} {b} {n₀} p q =
    record {
      new = q.new ++ p.new;
      nodes = q.nodes ∙ ap (λ (r : List Node). q.new ++ r) p.nodes ∙ sym (append_assoc q.new p.new n₀);
      labs = map-append (labelled c) q.new p.new ∙ cc (p.labs, q.labs);
    }

-- nodes were added, and then one more
pub made-push : {c : Ctx} {x : Node} {L : Lab} {a : List Lab} {n₀ n₁ : List Node} → labelled c x ≡ L → Made c a n₀ n₁ → Made c (L ∷ a) n₀ (x ∷ n₁)
made-push {x} e p = record { new = x ∷ p.new; nodes = ap (λ (r : List Node). x ∷ r) p.nodes; labs = cc p.labs }

-- one node taken out
pub without-eq : (E : List Node) (t : Node) (R : List Node) (n : ℕ) → n ≡ length R → without n (E ++ (t ∷ R)) ≡ E ++ R
unfolding without
without-eq E t R n e =
    let len : length (E ++ (t ∷ R)) ≡ length E + suc (length R) = length-append E (t ∷ R) in
    let a : length (E ++ (t ∷ R)) - suc n ≡ length E = omega arith in
    let b : length (E ++ (t ∷ R)) - n ≡ length E + 1 = omega arith in
    rw (a, b, take-append_seam E (t ∷ R), drop-append-add E (t ∷ R) 1) refl

-- the node of an assigned ArrayAccess is taken out from under those of the value
pub taken_out : (E older : List Node) (t : Node) (ns n₁ n₃ : List Node) → n₃ ≡ E ++ n₁ → n₁ ≡ t ∷ (older ++ ns) → without (length n₁ - 1) n₃ ≡ (E ++ older) ++ ns
taken_out E older t ns n₁ n₃ e₃ e₁ =
    let len : length n₁ ≡ suc (length (older ++ ns)) = ap (λ (z : List Node). length z) e₁ in
    ap (without (length n₁ - 1)) (e₃ ∙ ap (λ (z : List Node). E ++ z) e₁) ∙ without-eq E t (older ++ ns) (length n₁ - 1) (omega arith) ∙ sym (append_assoc E older ns)

-- the newest of the nodes that were added
pub record Newest (c : Ctx) (L : Lab) (ls : List Lab) (ns ns' : List Node) : Type 0 where
  pub node' : Node
  pub older : List Node
  pub nodes : ns' ≡ node' ∷ (older ++ ns)
  pub lab' : labelled c node' ≡ L
  pub labs : map (labelled c) older ≡ ls

-- nodes were added, and the last of them is the newest
pub newest : {c : Ctx} {L : Lab} {ls : List Lab} {ns ns' : List Node} → Made c (L ∷ ls) ns ns' → Newest c L ls ns ns'
newest {c} {L} {ls} {ns} {ns'} m = go m.new m.nodes m.labs
  where
    go : (new : List Node) → ns' ≡ new ++ ns → map (labelled c) new ≡ L ∷ ls → Newest c L ls ns ns'
    go [] e f = absurd (let z : ◌≡◌ {A = ℕ} 0 1 = cc in let y : ⊥ = omega arith in y)
    go (x ∷ new) e f = record { node' = x; older = new; nodes = e; lab' = cc; labs = cc }

-- the newest node
abbrev pub top_of : List Node → Node
top_of ns = get_or ns 0 (node 0 false 0 0)

-- ── before a step ──

-- level, names without their declaring tokens, and whether names are checked; every declaring token has its name
pub record In (c : Ctx) (l : ℕ) (E : List Sym) (b : Bool) (lvl : ℕ) (syms : List Sym) (chk : Bool) : Type 0 where
  pub level : lvl ≡ l
  pub names : map erase_sym syms ≡ E
  pub fair : Fairs c syms
  pub check : chk ≡ b

-- the same, of a state
abbrev pub Stands : Ctx → ℕ → List Sym → Bool → St → Type 0
Stands c l E b s = In c l E b s.level s.syms s.check

-- what a name was declared as
pub looks : {c : Ctx} {l : ℕ} {E : List Sym} {b : Bool} {lvl : ℕ} {syms : List Sym} {chk : Bool} → In c l E b lvl syms chk → (n : List ℕ) → find l n E ≡ erase (find lvl n syms)
looks {lvl} {syms} h n = ap₂ (λ (k : ℕ) (ys : List Sym). find k n ys) (sym h.level) (sym h.names) ∙ find-erase lvl n syms

-- a name is stored
pub in-stored : {c : Ctx} {l : ℕ} {E : List Sym} {b : Bool} {lvl : ℕ} {syms : List Sym} {chk : Bool} (n : List ℕ) (w : What) → ((i : ℕ) (g : Bool) → w ≡ Variable i g → (word_at c i).text ≡ n) → In c l E b lvl syms chk → In c l (put_at l n (erased w) E) b lvl (put_at lvl n w syms) chk
in-stored {c} {lvl} {syms} n w f h =
    record {
      level = h.level;
      names = put_at-erase lvl n w syms ∙ ap₂ (λ (k : ℕ) (ys : List Sym). put_at k n (erased w) ys) h.level h.names;
      fair = put_at-fair c lvl n w syms h.fair f;
      check = h.check;
    }
