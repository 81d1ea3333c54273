-- The bounds of a reading: at most a token more than bytes, a node for each token, an error for each byte; its nodes are one tree; and every word that it leaves
-- in an array fits 32 bits.
use Rattle.std.specs.Prelude.{ℕ, zero, suc, ◌+◌, ◌≤◌, ◌<◌, Bool, ◌⊎◌, ◌≡◌, refl, eqb, ltb, get_or}
use mathlib.Core.List.{List, [], ◌∷◌, map, reverse, reverse_aux, append-nil}
use Rattle.std.proofs.Math.Bool.{true, false}
use Rattle.std.proofs.Common.{inl, inr, sym, ◌∙◌, arith, add-one, leb→le, ltb-true, ltb-false}
use Rattle.std.proofs.Math.Path.{subst}
use Rattle.std.proofs.Math.ListN.{length, length-reverse}
use Rattle.sifc_err.specs.declared.Refusal.TheVariants.{TokensFull}
use Rattle.sifc_err.specs.ParseErr.{values_of}
use Rattle.sifc_tokens.specs.declared.place.Place.{Place}
use Rattle.sifc_lex.specs.Lex.{lex}
use Rattle.sifc_lex.proofs.LexLaws.{lex-count}
use Rattle.sifc_tokens.specs.Place.{place_of, walked_to, next_place}
use Rattle.sifc_tokens.proofs.PlaceLaws.{walked_none, walked_more, walked_line, walked-pos, place_inside, place-even, place-ragged}
use Rattle.sifc_def.specs.declared.Err.{Err}
use Rattle.sifc_def.specs.Why.{Why}
use Rattle.sifc_err.specs.declared.parse_err.ParseErrTy.TheVariants.{InvalidIdent, InvalidTkn, InvalidTknMsg, InvalidAssign, InvalidForStmt, InvalidIfStmt, TknMismatch, FnParmCntExceeded, WrongFnParmCnt, UndeclSym, UnassignedVar, ExpectedIdent}
use Rattle.sifc_def.specs.Error.{ty_of, carried, carried_too, place_at, err_place, err_reason, PlaceFits}
use Rattle.sifc_def.specs.Label.{labels}
use Rattle.sifc_def.specs.State.{Node, Ctx, Out, done, fail, refuse, tok_at}
use Rattle.sifc_def.specs.Tree.{Tree, enc}
use Rattle.sifc_def.specs.Walk.{End, walk}
use Rattle.sifc_def.specs.Read.{Rooms, Found, Outcome, found, refused, ctx_of, ended, read, head_word, bit, depth_limit}
use Rattle.sifc_def.proofs.OutcomeLaws.{Holds, by-test}
use Rattle.sifc_def.proofs.GroveLaws.{Fit, Grove}
use Rattle.sifc_def.proofs.TreeLaws.{one-tree}
use Rattle.sifc_def.proofs.StepLaws.{Each, FairErr}
use Rattle.sifc_def.proofs.TokLaws.{worth, lexed-toks, lexed-worth}
use Rattle.sifc_def.proofs.WalkLaws.{Ended, walk_ends}

-- ── places ──

-- lines and columns share the bytes
next-sum : (q : Place) (d : ℕ) → (next_place q d).line + (next_place q d).pos ≤ suc (q.line + q.pos)
unfolding next_place
next-sum q d = by-test (eqb d 10) _ _ (λ (x : Place). x.line + x.pos ≤ suc (q.line + q.pos)) (λ e. omega arith) (λ e. omega arith)

walked-sum : (s : List ℕ) (i : ℕ) → i ≤ length s → (walked_to s i).line + (walked_to s i).pos ≤ i + 1
walked-sum s zero h = rw (walked_none s) (omega arith)
walked-sum s (suc i) h = rw (← add-one i, walked_more s i h) (omega (arith, next-sum (walked_to s i) (get_or s i 0), walked-sum s i (omega arith)))

walked-first : (s : List ℕ) (i : ℕ) → 1 ≤ (walked_to s i).line
unfolding walked_to
walked-first s i = omega arith

pub place-fits : (s : List ℕ) (p : ℕ) → length s ≤ 65535 → PlaceFits (place_of s p)
place-fits s p h = go (ltb p (length s)) refl (ltb 0 (walked_to s (length s)).pos) refl
  where
    go : (x : Bool) → ltb p (length s) ≡ x → (y : Bool) → ltb 0 (walked_to s (length s)).pos ≡ y → PlaceFits (place_of s p)
    go true e y f =
        let l : p < length s = ltb-true p (length s) e in
        rw (place_inside s p l) (record { first = walked-first s p; line = omega (arith, walked_line s p (omega arith)); pos = omega (arith, walked-pos s p (omega arith)) })
    go false e true f =
        let l : length s ≤ p = ltb-false p (length s) e in
        let q : 0 < (walked_to s (length s)).pos = ltb-true 0 (walked_to s (length s)).pos f in
        rw (place-ragged s p l q) (record { first = omega arith; line = omega (arith, walked-sum s (length s) (omega arith)); pos = omega arith })
    go false e false f =
        let l : length s ≤ p = ltb-false p (length s) e in
        rw (place-even s p l (ltb-false 0 (walked_to s (length s)).pos f)) (record { first = walked-first s (length s); line = omega (arith, walked_line s (length s) (omega arith)); pos = omega (arith, walked-pos s (length s) (omega arith)) })

-- ── nodes ──

-- n trees have at least n nodes
grove-many : (t : ℕ) (xs : List Node) (n : ℕ) → Grove t xs n → n ≤ length xs
unfolding Grove
grove-many t [] n g = omega (arith, g)
grove-many t (x ∷ xs) n g = omega (arith, g.is, grove-many t xs (x.kids + g.older) g.under)

-- a node of a tree: it is fit, and has fewer children than there are nodes
pub record NodeFits (t m : ℕ) (x : Node) : Type 0 where
  pub fit : Fit t x
  pub kids : x.kids < m

grove-each : (t m : ℕ) (xs : List Node) (n : ℕ) → length xs ≤ m → Grove t xs n → Each (NodeFits t m) xs
unfolding Grove Each
grove-each t m [] n l g = tt
grove-each t m (x ∷ xs) n l g = (record { fit = g.fit; kids = omega (arith, grove-many t xs (x.kids + g.older) g.under) }, grove-each t m xs (x.kids + g.older) (omega arith) g.under)

each-onto : {A : Type 0} (P : A → Type 0) (xs ys : List A) → Each P xs → Each P ys → Each P (reverse_aux xs ys)
unfolding Each
each-onto P [] ys p q = q
each-onto P (x ∷ xs) ys p q = each-onto P xs (x ∷ ys) p.1 (p.0, q)

each-reverse : {A : Type 0} (P : A → Type 0) (xs : List A) → Each P xs → Each P (reverse xs)
unfolding Each
each-reverse P xs p = each-onto P xs [] p tt

-- a fact of each element is one of each element's image
each_map : {A B : Type 0} (P : A → Type 0) (Q : B → Type 0) (f : A → B) → ((a : A) → P a → Q (f a)) → (xs : List A) → Each P xs → Each Q (map f xs)
unfolding Each
each_map P Q f h [] p = tt
each_map P Q f h (x ∷ xs) p = (h x p.0, each_map P Q f h xs p.1)

bit-small : (g : Bool) → bit g ≤ 1
bit-small true = omega arith
bit-small false = omega arith

abbrev pub Word : ℕ → Type 0
Word w = w < 4294967296

head-fits : (t m : ℕ) (x : Node) → m ≤ 65536 → NodeFits t m x → Word (head_word x)
head-fits t m x h f = omega (arith, f.kids, leb→le x.kind 24 f.fit.known, bit-small x.flag)

-- ── errors ──

number_small : (c : Ctx) (w : Why) → (values_of (ty_of c w)).number ≤ 11
number_small c (InvalidIdent i) = omega arith
number_small c (InvalidTkn i) = omega arith
number_small c (InvalidTknMsg m) = omega arith
number_small c (InvalidAssign i) = omega arith
number_small c InvalidForStmt = omega arith
number_small c InvalidIfStmt = omega arith
number_small c (TknMismatch k i) = omega arith
number_small c (FnParmCntExceeded n) = omega arith
number_small c (WrongFnParmCnt n m) = omega arith
number_small c (UndeclSym i) = omega arith
number_small c (UnassignedVar i) = omega arith
number_small c (ExpectedIdent i) = omega arith

-- what the second word packs: the reason below 16, a token or a count below 65,536, and a kind, message or count
pub record Reasons (c : Ctx) (e : Err) : Type 0 where
  pub number : (values_of (ty_of c e.why)).number < 16
  pub first : carried e.why < 65536
  pub second : carried_too e.why ≤ 64

reasons-fit : (c : Ctx) (e : Err) → length c.toks ≤ 65536 → FairErr (length c.toks) e → Reasons c e
reasons-fit c e h f = record { number = omega (arith, number_small c e.why); first = go f.first; second = f.second }
  where
    go : (carried e.why < length c.toks) ⊎ (carried e.why ≤ 64) → carried e.why < 65536
    go (inl l) = omega arith
    go (inr l) = omega arith

reason-fits : (c : Ctx) (e : Err) → Reasons c e → Word (err_reason c e)
reason-fits c e r = omega (arith, r.number, r.first, r.second)

place-word-fits : (c : Ctx) (e : Err) → length c.script ≤ 65535 → Word (err_place c e)
unfolding err_place place_at
place-word-fits c e h = let q : PlaceFits (place_of c.script (tok_at c e.place).off) = place-fits c.script (tok_at c e.place).off h in omega (arith, q.line, q.pos)

-- ── a reading ──

pub record Bounds (c : Ctx) (f : Found) : Type 0 where
  pub tokens : length f.toks ≤ length c.script + 1
  pub nodes : length f.nodes ≤ length f.toks
  pub errors : length f.errs ≤ length c.script
  pub tree : (u : Tree) × (labels c.script f.toks f.nodes ≡ enc u)
  pub fit : Each (NodeFits (length f.toks) (length f.toks)) f.nodes
  pub heads : length c.script ≤ 65535 → Each Word (map head_word f.nodes)
  pub loads : length c.script ≤ 65535 → Each Word (map (λ (x : Node). x.pay) f.nodes)
  pub places : length c.script ≤ 65535 → Each Word (map (err_place c) f.errs)
  pub reasons : length c.script ≤ 65535 → Each Word (map (err_reason c) f.errs)

abbrev pub BoundsOf : Ctx → Outcome → Type 0
BoundsOf c (found f) = Bounds c f
BoundsOf c (refused r) = Unit {0}

module _ (r : Rooms) (s : List ℕ) where
  ended-bounds : (o : Out End) → Holds o (λ e z. Ended (ctx_of r s) (worth (lex s)) (lexed-toks (ctx_of r s) s refl) z) (λ z. ⊥) → BoundsOf (ctx_of r s) (ended (lex s) o)
  unfolding ended
  ended-bounds (done e z) h =
      let c : Ctx = ctx_of r s in
      let x : Ended (ctx_of r s) (worth (lex s)) (lexed-toks (ctx_of r s) s refl) z = h.holds in
      let count : length (lex s) ≤ length s + 1 = lex-count s in
      let m : length (reverse z.nodes) ≡ length z.nodes = length-reverse z.nodes in
      let few : length z.nodes ≤ length (lex s) = omega (arith, x.few, x.well.here) in
      let g : Grove (length (lex s)) z.nodes 1 = subst (λ (l : List Node). Grove (length (lex s)) l 1) (sym (x.grows.is ∙ append-nil x.grows.new)) x.grows.grove in
      let errs : Each (FairErr (length (lex s))) (reverse z.errs) = each-reverse (FairErr (length (lex s))) z.errs x.well.errs in
      let each : Each (NodeFits (length (lex s)) (length (lex s))) (reverse z.nodes) = each-reverse (NodeFits (length (lex s)) (length (lex s))) z.nodes (grove-each (length (lex s)) (length (lex s)) z.nodes 1 few g) in
      record {
        tokens = count;
        nodes = omega arith;
        errors = omega (arith, length-reverse z.errs, x.errors, lexed-worth s z.at);
        tree = one-tree s (lex s) (length (lex s)) z.nodes g;
        fit = each;
        heads = λ l. each_map (NodeFits (length (lex s)) (length (lex s))) Word head_word (λ a f. head-fits (length (lex s)) (length (lex s)) a (omega arith) f) (reverse z.nodes) each;
        loads = λ l. each_map (NodeFits (length (lex s)) (length (lex s))) Word (λ (n : Node). n.pay) (λ a f. omega (arith, f.fit.pay)) (reverse z.nodes) each;
        places = λ l. each_map (FairErr (length (lex s))) Word (err_place c) (λ a f. place-word-fits c a l) (reverse z.errs) errs;
        reasons = λ l. each_map (FairErr (length (lex s))) Word (err_reason c) (λ a f. reason-fits c a (reasons-fit c a (omega arith) f)) (reverse z.errs) errs;
      }
  ended-bounds (fail e z) h = absurd h.holds
  ended-bounds (refuse x) h = tt

  -- What a reading finds is in bounds, whatever the rooms are.
  pub read-bounds : BoundsOf (ctx_of r s) (read r s)
  unfolding read
  read-bounds = go (ltb r.tokens (length (lex s)))
    where
      go : (x : Bool) → BoundsOf (ctx_of r s) (elim x [ true ↦ refused TokensFull | false ↦ ended (lex s) (walk (ctx_of r s) depth_limit) ])
      go true = tt
      go false = ended-bounds (walk (ctx_of r s) depth_limit) (walk_ends (ctx_of r s) (worth (lex s)) (lexed-toks (ctx_of r s) s refl) depth_limit)
