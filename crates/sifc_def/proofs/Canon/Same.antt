-- The arrays that a reading leaves tell its labels: two readings have the same tree, as document 01 words it, exactly when their label lists are equal.
use Rattle.std.specs.Prelude.{ℕ, zero, suc, ◌+◌, ◌-◌, ◌*◌, ◌/◌, ◌%◌, ◌<◌, ◌≡◌, refl, Bool, true, false, eqb, replicate, Ok}
use Rattle.std.proofs.Math.Path.{sym, ap}
use Rattle.std.proofs.Common.{ap₂, ◌∙◌, subst, inl, inr, arith, mod-eq_of_lt, zero-add, eqb→eq, ltb→lt, lit<}
use mathlib.Core.List.{List, [], ◌∷◌, ◌++◌, map}
use Rattle.std.proofs.Math.Nat.{add-mul-mod_self_left, add-mul-div_left, div-eq_of_lt}
use Rattle.std.proofs.Math.Dec.{T}
use Rattle.std.proofs.Math.ListN.{length, get_or, length-map, get_or-map}
use Rattle.std.proofs.Math.Seq.{ext_get_or}
use Rattle.sifc_err.specs.declared.Token.{Token}
use Rattle.sifc_word.specs.Base.{if◌then◌otherwise◌, member, part}
use Rattle.sifc_lex.specs.Lex.{token, lex}
use Rattle.sifc_lex.proofs.LexLaws.{Run, last, more, lex-runs}
use Rattle.sifc_def.specs.Answer.{Reading}
use Rattle.sifc_def.specs.Ast.{Block}
use Rattle.sifc_def.specs.Label.{Lab, lab, has_token, scope_of, text_of, label, labels}
use Rattle.sifc_tokens.specs.Tokens.{token_word, offs_of, words_of, padded}
use Rattle.sifc_def.specs.Read.{Arrays, Called, called, Found, bit, head_word, summary, filled}
use Rattle.sifc_def.specs.State.{Node, node, Ctx, token_at, word_in}
use Rattle.sifc_def.specs.Canon.Demand.{node_count, head_at, load_at, kind_in, token_text, SameTree}
use Rattle.sifc_def.proofs.Canon.Kinds.{Small}

-- ── elements of a padded array ──

-- An array of zeros.
zeros : (m i : ℕ) → ◌≡◌ {A = ℕ} (get_or (replicate m 0) i 0) 0
zeros zero i = refl
zeros (suc m) zero = refl
zeros (suc m) (suc i) = zeros m i

-- element i of an array that begins with g of each x: where g of the default is 0, none is out of range
at-padded : {A : Type 0} (g : A → ℕ) (d : A) → g d ≡ 0 → (xs : List A) (m i : ℕ) → get_or (map g xs ++ replicate m 0) i 0 ≡ g (get_or xs i d)
at-padded g d e [] m i = zeros m i ∙ sym e
at-padded g d e (x ∷ xs) m zero = refl
at-padded g d e (x ∷ xs) m (suc i) = at-padded g d e xs m i

-- ── first words ──

-- The first word tells the kind.
pub head-kind : (n : Node) → n.kind < 32 → head_word n % 32 ≡ n.kind
head-kind n h =
    let e : head_word n ≡ n.kind + 32 * (bit n.flag + 2 * n.kids) = omega arith in
    ap (λ (x : ℕ). x % 32) e ∙ add-mul-mod_self_left n.kind 32 (bit n.flag + 2 * n.kids) ∙ mod-eq_of_lt h

-- The first word tells kind, flag and number of children.
parts : (k k' n n' : ℕ) (f f' : Bool) → k < 32 → k' < 32 → k + 32 * bit f + 64 * n ≡ k' + 32 * bit f' + 64 * n' → (k ≡ k') × (f ≡ f') × (n ≡ n')
parts k k' n n' true true h h' e = (omega arith, refl, omega arith)
parts k k' n n' true false h h' e = absurd (let z : ⊥ = omega arith in z)
parts k k' n n' false true h h' e = absurd (let z : ⊥ = omega arith in z)
parts k k' n n' false false h h' e = (omega arith, refl, omega arith)

-- ── tokens ──

-- what stands past the last token
abbrev no_token : Token
no_token = token 47 0 0

-- a token of zeros
abbrev blank : Token
blank = token 0 0 0

-- A kind of token is below 64.
run-kind : {n lo : ℕ} {ts : List Token} → Run n lo ts → (i : ℕ) → (get_or ts i blank).kind < 64
run-kind (last a b c (inl d)) zero = omega arith
run-kind (last a b c (inr d)) zero = let z = d.0 in omega arith
run-kind (last a b c d) (suc i) = omega arith
run-kind (more a b c d r) zero = let z = d.1 in omega arith
run-kind (more a b c d r) (suc i) = run-kind r i

-- A token's second word tells its length.
word_len : (t : Token) → t.kind < 64 → token_word t / 64 ≡ t.len
word_len t h =
    add-mul-div_left t.kind t.len (let z : 0 < 64 = lit< tt in z) ∙ ap (λ (x : ℕ). x + t.len) (div-eq_of_lt h) ∙ zero-add t.len

-- what the arrays tell of a token's text is its text
text-told : (s : List ℕ) (m m' i : ℕ) → part (get_or (map (λ (t : Token). t.off) (lex s) ++ replicate m 0) i 0) (get_or (map token_word (lex s) ++ replicate m' 0) i 0 / 64) s ≡ (word_in s (token_at (lex s) i)).text
text-told s m m' i =
    let off : get_or (map (λ (t : Token). t.off) (lex s) ++ replicate m 0) i 0 ≡ (token_at (lex s) i).off = at-padded (λ (t : Token). t.off) no_token refl (lex s) m i in
    let wrd : get_or (map token_word (lex s) ++ replicate m' 0) i 0 ≡ token_word (get_or (lex s) i blank) = at-padded token_word blank refl (lex s) m' i in
    let len : token_word (get_or (lex s) i blank) / 64 ≡ (get_or (lex s) i blank).len = word_len (get_or (lex s) i blank) (run-kind (lex-runs s) i) in
    let both : (get_or (lex s) i blank).len ≡ (token_at (lex s) i).len = sym (get_or-map (λ (t : Token). t.len) (lex s) i blank) ∙ get_or-map (λ (t : Token). t.len) (lex s) i no_token in
    ap₂ (λ (o l : ℕ). part o l s) off (ap (λ (x : ℕ). x / 64) wrd ∙ len ∙ both)

-- ── what the arrays of a reading tell ──

-- a node of zeros
abbrev no_node : Node
no_node = node 0 false 0 0

-- the call c, a reading of the script s, tells of the nodes ns
pub record Told (s : List ℕ) (ns : List Node) (c : Called Reading) : Type 0 where
  pub count : node_count c.answer ≡ length ns
  pub heads : (i : ℕ) → head_at c.arrays i ≡ head_word (get_or ns i (node 0 false 0 0))
  pub loads : (i : ℕ) → load_at c.arrays i ≡ (get_or ns i (node 0 false 0 0)).pay
  pub texts : (i : ℕ) → token_text s c.arrays i ≡ (word_in s (token_at (lex s) i)).text

-- a reading that finds f tells of its nodes
pub told : (s : List ℕ) (c : Ctx) (f : Found) (a : Arrays) → f.toks ≡ lex s → Told s f.nodes (called (Ok (summary c f)) (filled c f a))
unfolding node_count padded offs_of words_of
told s c f a e =
    record {
      count = refl;
      heads = λ i. at-padded head_word no_node refl f.nodes (length a.heads - length (map head_word f.nodes)) i;
      loads = λ i. at-padded (λ (n : Node). n.pay) no_node refl f.nodes (length a.loads - length (map (λ (n : Node). n.pay) f.nodes)) i;
      texts = λ i. rw e (text-told s (length a.offs - length (map (λ (t : Token). t.off) (lex s))) (length a.words - length (map token_word (lex s))) i);
    }

-- Node i has a kind of nodes.
small_at : (s : List ℕ) (ts : List Token) (ns : List Node) → Small (labels s ts ns) → (i : ℕ) → (get_or ns i (node 0 false 0 0)).kind < 32
unfolding Small
small_at s ts [] h i = lit< tt
small_at s ts (n ∷ ns) h zero = ltb→lt n.kind 32 h.0
small_at s ts (n ∷ ns) h (suc i) = small_at s ts ns h.1 i

-- Equal scopes.
scope-same : (k k' p p' : ℕ) → k ≡ k' → (k ≡ Block → p ≡ p') → (if eqb k Block then p otherwise 0) ≡ (if eqb k' Block then p' otherwise 0)
unfolding if◌then◌otherwise◌
scope-same k k' p p' e f = rw (← e) (go (eqb k Block) refl)
  where
    go : (q : Bool) → eqb k Block ≡ q → (if q then p otherwise 0) ≡ (if q then p' otherwise 0)
    go true h = f (eqb→eq k Block (rw h tt))
    go false h = refl

-- Equal texts.
text_same : (k k' : ℕ) (t t' : List ℕ) → k ≡ k' → (T (has_token k) → t ≡ t') → (if has_token k then t otherwise []) ≡ (if has_token k' then t' otherwise [])
unfolding if◌then◌otherwise◌
text_same k k' t t' e f = rw (← e) (go (has_token k) refl)
  where
    go : (q : Bool) → has_token k ≡ q → (if q then t otherwise []) ≡ (if q then t' otherwise [])
    go true h = f (rw h tt)
    go false h = refl

-- Equal labels, field by field.
lab-same : (k k' : ℕ) (f f' : Bool) (n n' l l' : ℕ) (t t' : List ℕ) → k ≡ k' → f ≡ f' → n ≡ n' → l ≡ l' → t ≡ t' → lab k f n l t ≡ lab k' f' n' l' t'
lab-same k k' f f' n n' l l' t t' a b c d e = rw (a, b, c, d, e) refl

-- A Block's scope is its payload.
scope-is : (k p : ℕ) → k ≡ Block → (if eqb k Block then p otherwise 0) ≡ p
unfolding if◌then◌otherwise◌
scope-is k p e = rw e refl

-- A text is its token's.
pub text-is : (k : ℕ) (t : List ℕ) → T (has_token k) → (if has_token k then t otherwise []) ≡ t
unfolding if◌then◌otherwise◌
text-is k t h = go (has_token k) h
  where
    go : (q : Bool) → T q → (if q then t otherwise []) ≡ t
    go true u = refl
    go false u = absurd u

-- the label of a node of zeros
abbrev no_lab : Lab
no_lab = lab 0 false 0 0 []

-- The label of node i.
label_at : (s : List ℕ) (ts : List Token) (ns : List Node) (i : ℕ) → get_or (labels s ts ns) i (lab 0 false 0 0 []) ≡ label s ts (get_or ns i (node 0 false 0 0))
unfolding scope_of text_of has_token member if◌then◌otherwise◌
label_at s ts ns i = get_or-map (label s ts) ns i no_node

module _ (s s' : List ℕ) (ns ns' : List Node) (c c' : Called Reading) (t : Told s ns c) (t' : Told s' ns' c') where
  -- node i of either
  abbrev one : ℕ → Node
  one i = get_or ns i (node 0 false 0 0)

  -- node i of the other
  abbrev other : ℕ → Node
  other i = get_or ns' i (node 0 false 0 0)

  -- Equal labels: the same tree.
  pub labels-same : Small (labels s (lex s) ns) → labels s (lex s) ns ≡ labels s' (lex s') ns' → SameTree s c s' c'
  unfolding scope_of text_of
  labels-same small e =
      record {
        counts = t.count ∙ sym (length-map ns (label s (lex s))) ∙ ap length e ∙ length-map ns' (label s' (lex s')) ∙ sym t'.count;
        firsts = λ i h. t.heads i ∙ first i ∙ sym (t'.heads i);
        scopes = λ i h k. t.loads i ∙ scope i (kind i k) ∙ sym (t'.loads i);
        texts = λ i h k. worded i (subst (λ (x : ℕ). T (has_token x)) (kind-of i) k);
      }
    where
      at : (i : ℕ) → label s (lex s) (one i) ≡ label s' (lex s') (other i)
      at i =
          sym (label_at s (lex s) ns i) ∙ ap (λ (l : List Lab). get_or l i no_lab) e ∙ label_at s' (lex s') ns' i

      first : (i : ℕ) → head_word (one i) ≡ head_word (other i)
      first i = ap (λ (l : Lab). l.kind + 32 * bit l.flag + 64 * l.kids) (at i)

      same_kind : (i : ℕ) → (one i).kind ≡ (other i).kind
      same_kind i = ap (λ (l : Lab). l.kind) (at i)

      kind-of : (i : ℕ) → kind_in (head_at c.arrays i) ≡ (one i).kind
      kind-of i = ap (λ (x : ℕ). x % 32) (t.heads i) ∙ head-kind (one i) (small_at s (lex s) ns small i)

      kind : (i : ℕ) → kind_in (head_at c.arrays i) ≡ Block → (one i).kind ≡ Block
      kind i k = sym (kind-of i) ∙ k

      scope : (i : ℕ) → (one i).kind ≡ Block → (one i).pay ≡ (other i).pay
      scope i k =
          sym (scope-is (one i).kind (one i).pay k)
          ∙ ap (λ (l : Lab). l.scope) (at i)
          ∙ scope-is (other i).kind (other i).pay (sym (same_kind i) ∙ k)

      text : (i : ℕ) → T (has_token (one i).kind) → (word_in s (token_at (lex s) (one i).pay)).text ≡ (word_in s' (token_at (lex s') (other i).pay)).text
      text i k =
          sym (text-is (one i).kind (word_in s (token_at (lex s) (one i).pay)).text k)
          ∙ ap (λ (l : Lab). l.text) (at i)
          ∙ text-is (other i).kind (word_in s' (token_at (lex s') (other i).pay)).text (subst (λ (x : ℕ). T (has_token x)) (same_kind i) k)

      worded : (i : ℕ) → T (has_token (one i).kind) → token_text s c.arrays (load_at c.arrays i) ≡ token_text s' c'.arrays (load_at c'.arrays i)
      worded i k = rw (t.loads i, t'.loads i) (t.texts (one i).pay ∙ text i k ∙ sym (t'.texts (other i).pay))

  -- The same tree: equal labels.
  pub same-labels : Small (labels s (lex s) ns) → Small (labels s' (lex s') ns') → SameTree s c s' c' → labels s (lex s) ns ≡ labels s' (lex s') ns'
  unfolding scope_of text_of
  same-labels small small' m =
      ext_get_or no_lab (labels s (lex s) ns) (labels s' (lex s') ns')
      (length-map ns (label s (lex s)) ∙ sym t.count ∙ m.counts ∙ t'.count ∙ sym (length-map ns' (label s' (lex s'))))
      (λ i h.
      label_at s (lex s) ns i
      ∙ at i (subst (λ (n : ℕ). i < n) (length-map ns (label s (lex s)) ∙ sym t.count) h)
      ∙ sym (label_at s' (lex s') ns' i))
    where
      split : (i : ℕ) → i < node_count c.answer → ((one i).kind ≡ (other i).kind) × ((one i).flag ≡ (other i).flag) × ((one i).kids ≡ (other i).kids)
      split i h =
          parts (one i).kind (other i).kind (one i).kids (other i).kids (one i).flag (other i).flag (small_at s (lex s) ns small i) (small_at s' (lex s') ns' small' i)
          (sym (t.heads i) ∙ m.firsts i h ∙ t'.heads i)

      kind-of : (i : ℕ) → kind_in (head_at c.arrays i) ≡ (one i).kind
      kind-of i = ap (λ (x : ℕ). x % 32) (t.heads i) ∙ head-kind (one i) (small_at s (lex s) ns small i)

      at : (i : ℕ) → i < node_count c.answer → label s (lex s) (one i) ≡ label s' (lex s') (other i)
      at i h =
          lab-same _ _ _ _ _ _ _ _ _ _ (split i h).0 (split i h).1 (split i h).2
          (scope-same (one i).kind (other i).kind (one i).pay (other i).pay (split i h).0 (λ k. sym (t.loads i) ∙ m.scopes i h (kind-of i ∙ k) ∙ t'.loads i))
          (text_same (one i).kind (other i).kind (word_in s (token_at (lex s) (one i).pay)).text (word_in s' (token_at (lex s') (other i).pay)).text (split i h).0
          (λ k.
          sym (t.texts (one i).pay)
          ∙ ap (λ (n : ℕ). token_text s c.arrays n) (sym (t.loads i))
          ∙ m.texts i h (subst (λ (x : ℕ). T (has_token x)) (sym (kind-of i)) k)
          ∙ ap (λ (n : ℕ). token_text s' c'.arrays n) (t'.loads i)
          ∙ t'.texts (other i).pay))
