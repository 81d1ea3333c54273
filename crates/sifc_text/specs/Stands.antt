-- The nodes and the tokens that a reading leaves in the arrays, by the labels of what it found.
use Rattle.std.specs.Prelude.{ℕ, zero, suc, ◌+◌, ◌-◌, ◌*◌, ◌/◌, ◌%◌, ◌≤◌, ◌<◌, ◌≡◌, refl, Bool, true, ltb, take, drop}
use native.Mathlib.Omega.{arith}
use Rattle.std.proofs.Math.Path.{sym, ap, ap₂, subst}
use Rattle.std.proofs.Common.{◌∙◌, ltb→lt}
use mathlib.Core.List.{List, [], ◌∷◌, ◌++◌, map, reverse, reverse-cons, append_assoc}
use Rattle.std.proofs.Math.Bool.{false}
use Rattle.std.proofs.Math.Dec.{T}
use Rattle.std.proofs.Math.ListN.{length, get_or, length-map, length-append, length-reverse, get_or-map}
use Rattle.std.proofs.Math.Seq.{get_or_at, append_snoc}
use Rattle.sifc_err.specs.declared.Token.{Token}
use Rattle.sifc_lex.specs.declared.lex.Step.TheVariants.{Word}
use Rattle.sifc_word.specs.Base.{if◌then◌otherwise◌, member, part}
use Rattle.sifc_lex.specs.Lex.{token, lex, step}
use Rattle.sifc_lex.proofs.LexLaws.{Run, last, more, lex-runs}
use Rattle.sifc_lex.proofs.LexTrip.{sep, Good, spell, lex-all-words}
use Rattle.sifc_tokens.specs.Tokens.{token_word, offs_of, words_of}
use Rattle.sifc_def.specs.State.{Node, node, W, token_at, word_in}
use Rattle.sifc_def.specs.Label.{Lab, lab, has_token, scope_of, text_of, label, labels}
use Rattle.sifc_def.specs.Read.{bit, head_word}
use Rattle.sifc_def.proofs.Canon.Bytes.{Fine}
use Rattle.sifc_def.proofs.Canon.Lexed.{good-at}
use Rattle.sifc_def.proofs.Canon.Same.{head-kind, text-is}
use Rattle.sifc_put.specs.Place as place
use Rattle.sifc_put.specs.Place.{Inp, inp, Spells, Carries}

-- ── tokens ──

-- what stands past the last token
abbrev no_token : Token
no_token = token 47 0 0

-- A token that has a byte is no end: it lies in the script, and has a kind of words.
record Solid (n : ℕ) (ts : List Token) (i : ℕ) : Type 0 where
  inside : i < length ts
  within : (get_or ts i (token 47 0 0)).off + (get_or ts i (token 47 0 0)).len ≤ n
  kind : (get_or ts i (token 47 0 0)).kind ≤ 45

-- Token i of a token list, where it has a byte.
solid : {n lo : ℕ} {ts : List Token} → Run n lo ts → (i : ℕ) → 0 < (get_or ts i (token 47 0 0)).len → Solid n ts i
solid (last a b c d) zero h = absurd (let z : ⊥ = omega arith in z)
solid (last a b c d) (suc i) h = absurd (let z : ⊥ = omega arith in z)
solid (more a b c d r) zero h = record { inside = omega arith; within = c; kind = d.1 }
solid (more a b c d r) (suc i) h = let z = solid r i h in record { inside = omega (arith, z.inside); within = z.within; kind = z.kind }

-- In range the default does not matter.
same-default : {A : Type 0} (xs : List A) (i : ℕ) (d e : A) → i < length xs → get_or xs i d ≡ get_or xs i e
same-default [] i d e h = absurd (let z : ⊥ = omega arith in z)
same-default (x ∷ xs) zero d e h = refl
same-default (x ∷ xs) (suc i) d e h = same-default xs i d e (omega arith)

-- The first bytes of a list are not more than were asked for.
take-some : (n : ℕ) (xs : List ℕ) → 0 < length (take n xs) → 0 < n
take-some zero xs h = absurd (let z : ⊥ = omega arith in z)
take-some (suc n) xs h = omega arith

-- Two words with one text have one kind: before a space both are one token of their kind.
same_kind : (k k' : ℕ) (t : List ℕ) → Good (record { kind = k; text = t }) → Good (record { kind = k'; text = t }) → k ≡ k'
unfolding Good
same_kind k k' t g h = let e : step (t ++ (sep true ∷ [])) ≡ Word k (length t) = g true [] in let f : step (t ++ (sep true ∷ [])) ≡ Word k' (length t) = h true [] in cc

module _ (s : List ℕ) where
  -- The arrays of a script's tokens tell of token i, where it has the text of a fine word, that word.
  pub spells-of : (i : ℕ) (w : W) → Fine w → (word_in s (token_at (lex s) i)).text ≡ w.text → Spells s (offs_of (lex s)) (words_of (lex s)) i w
  unfolding offs_of words_of spell
  spells-of i w f e =
      let t : Token = token_at (lex s) i in
      let long : length (part t.off t.len s) ≡ length w.text = ap length e in
      let z : Solid (length s) (lex s) i = solid (lex-runs s) i (take-some t.len (drop t.off s) (omega (arith, f.some))) in
      let o : get_or (map (λ (x : Token). x.off) (lex s)) i 0 ≡ t.off = get_or-map (λ (x : Token). x.off) (lex s) i no_token in
      let u : get_or (lex s) i (token 0 0 0) ≡ t = same-default (lex s) i (token 0 0 0) no_token z.inside in
      let v : get_or (map token_word (lex s)) i 0 ≡ t.kind + 64 * t.len = get_or-map token_word (lex s) i (token 0 0 0) ∙ ap token_word u in
      let k : t.kind ≤ 45 = z.kind in
      let n : get_or (map token_word (lex s)) i 0 / 64 ≡ t.len = omega arith in
      let m : w.kind ≡ t.kind = same_kind w.kind t.kind w.text f.good (subst (λ (x : List ℕ). Good (record { kind = t.kind; text = x })) e (good-at s (lex s) (lex-all-words s) i k)) in
      let fit : t.off + t.len ≤ length s = z.within in
      record {
        in_offs = omega (arith, length-map (lex s) (λ (x : Token). x.off), z.inside);
        in_words = omega (arith, length-map (lex s) token_word, z.inside);
        within = omega arith;
        kind = omega arith;
        text = sym e ∙ ap₂ (λ (a b : ℕ). part a b s) (sym o) (sym n);
      }

-- ── nodes ──

-- the arrays that a reading of s leaves, cut to their used parts, where it finds these nodes
abbrev pub left : List ℕ → List Node → Inp
left s ns = inp s (offs_of (lex s)) (words_of (lex s)) (map head_word ns) (map (λ (n : Node). n.pay) ns)

-- The first word tells the number of children.
head-kids : (n : Node) → n.kind < 32 → head_word n / 64 ≡ n.kids
head-kids n h = go n.flag n.kind n.kids h
  where
    go : (q : Bool) (k m : ℕ) → k < 32 → (k + 32 * bit q + 64 * m) / 64 ≡ m
    go true k m h = omega arith
    go false k m h = omega arith

-- The labels of the nodes before h, newest first, are xs.
pub record Down (s : List ℕ) (ns : List Node) (xs : List Lab) (h : ℕ) : Type 0 where
  pub long : h ≡ length xs
  pub rest : List Lab
  pub is : labels s (lex s) ns ≡ reverse xs ++ rest

module _ {s : List ℕ} {ns : List Node} where
  -- Below the newest label.
  pub pop : {x : Lab} {xs : List Lab} {h : ℕ} → Down s ns (x ∷ xs) h → Down s ns xs (h - 1)
  pop {x} {xs} {h} d =
      record {
        long = omega (arith, d.long);
        rest = x ∷ d.rest;
        is = d.is ∙ ap (λ (l : List Lab). l ++ d.rest) (reverse-cons x xs) ∙ append_snoc (reverse xs) x d.rest;
      }

  -- Below the newest labels.
  pub passed : (xs ys : List Lab) {h : ℕ} → Down s ns (xs ++ ys) h → Down s ns ys (length ys)
  passed [] ys d = record { long = refl; rest = d.rest; is = d.is }
  passed (x ∷ xs) ys d = passed xs ys (pop d)

  -- Labels in another grouping.
  pub grouped : (xs ys zs : List Lab) {h : ℕ} → Down s ns ((xs ++ ys) ++ zs) h → Down s ns (xs ++ (ys ++ zs)) h
  grouped xs ys zs {h} d = subst (λ (l : List Lab). Down s ns l h) (append_assoc xs ys zs) d

  -- The node of the newest label has it.
  labelled : (x : Lab) (xs : List Lab) {h : ℕ} → Down s ns (x ∷ xs) h → label s (lex s) (get_or ns (length xs) (node 0 false 0 0)) ≡ x
  unfolding pop scope_of text_of has_token member if◌then◌otherwise◌
  labelled x xs d =
      sym (get_or-map (label s (lex s)) ns (length xs) (node 0 false 0 0))
      ∙ ap (λ (l : List Lab). get_or l (length xs) (lab 0 false 0 0 [])) (pop d).is
      ∙ get_or_at (reverse xs) x d.rest (lab 0 false 0 0 []) (length xs) (length-reverse xs)

  -- It is one of the nodes.
  inside : (x : Lab) (xs : List Lab) {h : ℕ} → Down s ns (x ∷ xs) h → length xs < length ns
  unfolding pop
  inside x xs d =
      omega (arith, length-map ns (label s (lex s)), ap length (pop d).is, length-append (reverse xs) (x ∷ d.rest), length-reverse xs)

  -- A node's words are its kind and the number of its children.
  pub node_of : (x : Lab) (xs : List Lab) {h : ℕ} → T (ltb x.kind 32) → Down s ns (x ∷ xs) h → place.Node (left s ns).heads (left s ns).loads h x.kind x.kids
  node_of x xs {h} k d =
      let m : h - 1 ≡ length xs = (pop d).long in
      let n : Node = get_or ns (length xs) (node 0 false 0 0) in
      let e : label s (lex s) n ≡ x = labelled x xs d in
      let small : x.kind < 32 = ltb→lt x.kind 32 k in
      let kind : n.kind ≡ x.kind = ap (λ (y : Lab). y.kind) e in
      let kids : n.kids ≡ x.kids = ap (λ (y : Lab). y.kids) e in
      let w : get_or (map head_word ns) (h - 1) 0 ≡ head_word n = ap (λ (i : ℕ). get_or (map head_word ns) i 0) m ∙ get_or-map head_word ns (length xs) (node 0 false 0 0) in
      let within : length xs < length ns = inside x xs d in
      record {
        some = omega (arith, d.long);
        in_heads = omega (arith, length-map ns head_word);
        in_loads = omega (arith, length-map ns (λ (y : Node). y.pay));
        kinded = ap (λ (i : ℕ). i % 32) w ∙ head-kind n (omega arith) ∙ kind;
        counted = ap (λ (i : ℕ). i / 64) w ∙ head-kids n (omega arith) ∙ kids;
      }

  -- A node whose label has the text of a fine word carries that word.
  pub carries-of : (x : Lab) (xs : List Lab) (w : W) {h : ℕ} → T (has_token x.kind) → x.text ≡ w.text → Fine w → Down s ns (x ∷ xs) h → Carries s (left s ns).offs (left s ns).words (left s ns).loads h w
  unfolding text_of
  carries-of x xs w {h} k e f d =
      let m : h - 1 ≡ length xs = (pop d).long in
      let n : Node = get_or ns (length xs) (node 0 false 0 0) in
      let l : label s (lex s) n ≡ x = labelled x xs d in
      let p : get_or (map (λ (y : Node). y.pay) ns) (h - 1) 0 ≡ n.pay = ap (λ (i : ℕ). get_or (map (λ (y : Node). y.pay) ns) i 0) m ∙ get_or-map (λ (y : Node). y.pay) ns (length xs) (node 0 false 0 0) in
      let t : (word_in s (token_at (lex s) n.pay)).text ≡ w.text = sym (text-is n.kind (word_in s (token_at (lex s) n.pay)).text (subst (λ (i : ℕ). T (has_token i)) (sym (ap (λ (y : Lab). y.kind) l)) k)) ∙ ap (λ (y : Lab). y.text) l ∙ e in
      let within : length xs < length ns = inside x xs d in
      record {
        some = omega (arith, d.long);
        in_loads = omega (arith, length-map ns (λ (y : Node). y.pay));
        spells = subst (λ (i : ℕ). Spells s (offs_of (lex s)) (words_of (lex s)) i w) (sym p) (spells-of s n.pay w f t);
      }
