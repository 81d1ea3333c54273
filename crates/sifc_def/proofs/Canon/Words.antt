-- The words that the definition of the canonical text gives the tree of a typed program are the texts of the typed program's print.
use Prim.Native.Nat.{ℕ, suc, ◌-◌, ◌≤◌, ◌<◌}
use Rattle.std.specs.Prelude.{◌≡◌, List, [], ◌∷◌, ◌++◌, reverse, Bool, false, not, ◌⊎◌, T, leb, ltb}
use Rattle.std.proofs.Math.Path.{refl}
use Rattle.std.proofs.Common.{sym, ap, ◌∙◌, append_assoc, append-nil, inl, inr, arith, leb→le, le→leb, ltb→lt, lt→ltb, nltb→le}
use Rattle.std.proofs.Math.Option.{Option}
use Rattle.std.proofs.Math.Bool.{true}
use Rattle.std.proofs.Math.Dec.{nleb→lt, not_T}
use Rattle.sifc_word.specs.Base.{if◌then◌otherwise◌, member}
use Rattle.sifc_word.specs.BaseLaws.{if-either}
use Rattle.sifc_def.specs.declared.What.{What}
use Rattle.sifc_def.specs.State.{W, Sym}
use Rattle.sifc_def.specs.Expr.{looseness}
use Rattle.sifc_def.specs.Text.{Words, Piece, op_strength, strength_of, paren, commas, row, or_else, binary, unary, after, closed, valued, branched, words_of, piece, pieces, lines, text}
use Rattle.sifc_def.specs.Typed.{Expr, prim, un, bin, call, dot, idx, set, mut, Exprs, nil, more, Items, no_item, item, Stmt, var_none, var_expr, var_array, var_table, func, block, cond, loop, ret, ret_expr, expr_stmt, Stmts, stop, next, Branches, no_branch, elif_of, else_of, lp, rp, lb, rb, eq, period, comma, semi, arrow, dlb, drb, lbrace, rbrace, var_word, fn_word, return_word, if_word, elif_word, else_word, for_word, in_word, height, wrap, between, between_names, between_items, pr, prs, pr_names, pr_items, pr_s, pr_ss, pr_bs, renc_program, ends, Ok, Oks, OkItems, OkS, OkSs, OkBs, env_s, seen, Said, Saids, SaidItems, SaidS, SaidSs, SaidBs}
use Rattle.sifc_lex.proofs.LexTrip
use Rattle.sifc_def.proofs.Canon.Bytes
use Rattle.sifc_def.proofs.Canon.Bytes.{texts, printed, printed-more}
use Rattle.sifc_def.proofs.Canon.Trees.{atom, tree_e, trees_e, trees_n, trees_i, array_forest, tree_s, trees_s, trees_b, tree_program, program-decoded}

-- ── lists of words, and prints before a rest ──

-- the words ws, before any rest, are the texts of the print f
pub record Says (ws : Words) (f : List W → List W) : Type 0 where
  pub is : (rest : List W) → ws ++ texts rest ≡ texts (f rest)

-- No word.
says_none : Says [] (λ r. r)
says_none = record { is = λ rest. refl }

-- A word, and then a print.
says-word : (x : W) {ws : Words} {f : List W → List W} → Says ws f → Says (x.text ∷ ws) (λ r. x ∷ f r)
unfolding texts
says-word x h = record { is = λ rest. ap (λ (z : Words). x.text ∷ z) (h.is rest) }

-- A print, and then another.
says_both : {ws vs : Words} {f g : List W → List W} → Says ws f → Says vs g → Says (ws ++ vs) (λ r. f (g r))
says_both {ws} {vs} {f} {g} h k = record { is = λ rest. append_assoc ws vs (texts rest) ∙ ap (λ (z : Words). ws ++ z) (k.is rest) ∙ h.is (g rest) }

-- A print, and then a word.
says_last : (x : W) {ws : Words} {f : List W → List W} → Says ws f → Says (ws ++ (x.text ∷ [])) (λ r. f (x ∷ r))
says_last x h = says_both h (says-word x says_none)

-- A print, and then none.
says_row : {ws : Words} {f : List W → List W} → Says ws f → Says (ws ++ []) f
says_row h = says_both h says_none

-- ── binding strengths ──

-- an operator's text tells how it binds
unfoldable pub Tells : W → Type 0
Tells x = 0 < looseness x.kind → op_strength x.text ≡ 8 - looseness x.kind

-- No operator binds more loosely than `||`.
pub looseness-le : (k : ℕ) → looseness k ≤ 7
unfolding looseness
looseness-le k =
    if-either (λ (n : ℕ). n ≤ 7) _ _ _ (λ e. omega arith) (λ e.
    if-either (λ (n : ℕ). n ≤ 7) _ _ _ (λ e. omega arith) (λ e.
    if-either (λ (n : ℕ). n ≤ 7) _ _ _ (λ e. omega arith) (λ e.
    if-either (λ (n : ℕ). n ≤ 7) _ _ _ (λ e. omega arith) (λ e.
    if-either (λ (n : ℕ). n ≤ 7) _ _ _ (λ e. omega arith) (λ e.
    if-either (λ (n : ℕ). n ≤ 7) _ _ _ (λ e. omega arith) (λ e.
    if-either (λ (n : ℕ). n ≤ 7) _ _ _ (λ e. omega arith) (λ e. omega arith)))))))

-- a strength s and a typed tree's height h: what binds tighter than any operator has height 0
unfoldable Matches : ℕ → ℕ → Type 0
Matches h s = ((h ≡ 0) × (8 ≤ s)) ⊎ ((0 < h) × (h ≤ 8) × (s ≡ 8 - h))

-- Two tests that exclude each other, and of which one holds.
decided : (p q : Bool) → (T p → T (not q)) → (T (not p) → T q) → p ≡ not q
decided true true f g = absurd (f tt)
decided true false f g = refl
decided false true f g = refl
decided false false f g = absurd (g tt)

-- the three tests on parentheses are those of the print
left-test : (h s n : ℕ) → 0 < n → n ≤ 7 → Matches h s → ltb s (8 - n) ≡ not (leb h n)
unfolding Matches
left-test h s n p q (inl m) =
    decided (ltb s (8 - n)) (leb h n) (λ t. let z = ltb→lt s (8 - n) t in not_T (leb h n) (λ u. let y : ⊥ = omega arith in y)) (λ t. le→leb h n (omega arith))
left-test h s n p q (inr m) =
    decided (ltb s (8 - n)) (leb h n) (λ t. let z = ltb→lt s (8 - n) t in not_T (leb h n) (λ u. let y = leb→le h n u in let x : ⊥ = omega arith in x))
    (λ t. let z = nltb→le s (8 - n) t in le→leb h n (omega arith))

-- the right operand
right-test : (h s n : ℕ) → 0 < n → n ≤ 7 → Matches h s → leb s (8 - n) ≡ not (ltb h n)
unfolding Matches
right-test h s n p q (inl m) =
    decided (leb s (8 - n)) (ltb h n) (λ t. let z = leb→le s (8 - n) t in not_T (ltb h n) (λ u. let y : ⊥ = omega arith in y)) (λ t. lt→ltb h n (omega arith))
right-test h s n p q (inr m) =
    decided (leb s (8 - n)) (ltb h n) (λ t. let z = leb→le s (8 - n) t in not_T (ltb h n) (λ u. let y = ltb→lt h n u in let x : ⊥ = omega arith in x))
    (λ t. let z = nleb→lt s (8 - n) t in lt→ltb h n (omega arith))

-- a unary operator's operand
unary-test : (h s : ℕ) → Matches h s → ltb s 8 ≡ not (leb h 0)
unfolding Matches
unary-test h s (inl m) = decided (ltb s 8) (leb h 0) (λ t. let z = ltb→lt s 8 t in not_T (leb h 0) (λ u. let y : ⊥ = omega arith in y)) (λ t. le→leb h 0 (omega arith))
unary-test h s (inr m) =
    decided (ltb s 8) (leb h 0) (λ t. let z = ltb→lt s 8 t in not_T (leb h 0) (λ u. let y = leb→le h 0 u in let x : ⊥ = omega arith in x))
    (λ t. let z = nltb→le s 8 t in le→leb h 0 (omega arith))

-- a tree's strength and a typed tree's height
strong : (look : List ℕ → Option What) (b : Bool) (e : Expr) → Ok look b e → Said Tells e → Matches (height e) (piece (tree_e e)).strength
unfolding Ok Said Tells height tree_e piece strength_of member if◌then◌otherwise◌ Matches
strong look b (prim x) k g = inl (refl, omega arith)
strong look b (un o e) k g = inl (refl, omega arith)
strong look b (bin o l r) k g = let z = looseness-le o.kind in inr (k.0, omega arith, g.0 k.0)
strong look b (call x es) k g = inl (refl, omega arith)
strong look b (dot x e) k g = inr (omega arith, omega arith, refl)
strong look b (idx x e) k g = inl (refl, omega arith)
strong look b (set x h e) k g = inr (omega arith, omega arith, refl)
strong look b (mut x i e) k g = inr (omega arith, omega arith, refl)

-- ── parentheses and commas ──

-- Bare, or in parentheses.
says-paren : (q : Bool) {ws : Words} {f : List W → List W} → Says ws f → Says (paren (not q) ws) (wrap q f)
unfolding paren wrap
says-paren true h = record { is = h.is }
says-paren false h = says-word lp (says_last rp h)

-- in parentheses where the definition's test p says so, which is where the print's test q says not
says-wrapped : (p q : Bool) {ws : Words} {f : List W → List W} → p ≡ not q → Says ws f → Says (paren p ws) (wrap q f)
says-wrapped p q e h = rw e (says-paren q h)

-- A comma between.
commas-more : (x y : Piece) (ys : List Piece) {f g : List W → List W} → Says x.words f → Says (commas (y ∷ ys)) g → Says (commas (x ∷ y ∷ ys)) (λ r. f (comma ∷ g r))
unfolding commas
commas-more x y ys h k = says_both h (says-word comma k)

-- An argument, and then others.
says-args : (x : Piece) (es : Exprs) {f : List W → List W} → Says x.words f → Says (commas (pieces (trees_e es))) (prs es) → Says (commas (x ∷ pieces (trees_e es))) (λ r. f (between es (prs es r)))
unfolding trees_e pieces between prs
says-args x nil h k = unfold commas in h
says-args x (more e es) h k = commas-more x (piece (tree_e e)) (pieces (trees_e es)) h k

-- A name, and then others.
says-names : (x : Piece) (ns : List W) {f : List W → List W} → Says x.words f → Says (commas (pieces (trees_n ns))) (pr_names ns) → Says (commas (x ∷ pieces (trees_n ns))) (λ r. f (between_names ns (pr_names ns r)))
unfolding trees_n pieces between_names pr_names
says-names x [] h k = unfold commas in h
says-names x (y ∷ ns) h k = commas-more x (piece (atom y)) (pieces (trees_n ns)) h k

-- ── expressions ──

module _ (look : List ℕ → Option What) where
  -- "parentheses go only round a left operand weaker than its operator, a right operand not stronger"
  says-bin : (b : Bool) (o : W) (l r : Expr) → Ok look b (bin o l r) → Said Tells (bin o l r) → Says (piece (tree_e l)).words (pr l) → Says (piece (tree_e r)).words (pr r)
      → Says (binary o.text (piece (tree_e l) ∷ piece (tree_e r) ∷ [])) (pr (bin o l r))
  unfolding Ok Said pr binary
  says-bin b o l r k g hl hr =
      let n : ℕ = looseness o.kind in
      let e : op_strength o.text ≡ 8 - n = unfold Tells in g.0 k.0 in
      let z : n ≤ 7 = looseness-le o.kind in
      let L = left-test (height l) (piece (tree_e l)).strength n k.0 z (strong look b l k.1 g.1) in
      let R = right-test (height r) (piece (tree_e r)).strength n k.0 z (strong look (ends b l) r k.2 g.2) in
      rw e (says_both (says-wrapped (ltb (piece (tree_e l)).strength (8 - n)) (leb (height l) n) L hl) (says-word o (says-wrapped (leb (piece (tree_e r)).strength (8 - n)) (ltb (height r) n) R hr)))

  -- the words of an expression, and of arguments with commas between
  mutual
    unfolding Ok Oks Said Saids pr prs tree_e trees_e piece pieces words_of unary after closed row valued commas member if◌then◌otherwise◌

    says-E : (b : Bool) (e : Expr) → Ok look b e → Said Tells e → Says (piece (tree_e e)).words (pr e)
    says-E b (prim x) k g = says-word x says_none
    says-E b (un o e) k g =
        says-word o (says-wrapped (ltb (piece (tree_e e)).strength 8) (leb (height e) 0) (unary-test (height e) (piece (tree_e e)).strength (strong look b e k.1 g.1)) (says-E b e k.1 g.1))
    says-E b (bin o l r) k g = says-bin b o l r k g (says-E b l k.1 g.1) (says-E _ r k.2 g.2)
    says-E b (call x es) k g = says-word x (says-word lp (says_last rp (says-Es b es k.2 g.1)))
    says-E b (dot x e) k g = says-word x (says-word period (says_row (says-E false e k.1 g.1)))
    says-E b (idx x e) k g = says-word x (says-word lb (says_last rb (says_row (says-E b e k.1 g.1))))
    says-E b (set x h e) k g = says-word x (says-word eq (says_row (says-E b e k.3 g.1)))
    says-E b (mut x i e) k g = says-word x (says-word lb (says_both (says-E b i k.1 g.1) (says-word rb (says-word eq (says_row (says-E _ e k.2 g.2))))))

    says-Es : (b : Bool) (es : Exprs) → Oks look b es → Saids Tells es → Says (commas (pieces (trees_e es))) (prs es)
    says-Es b nil k g = says_none
    says-Es b (more e es) k g = says-args (piece (tree_e e)) es (says-E b e k.0 g.0) (says-Es _ es k.1 g.1)

  -- An item, and then others.
  says-items : (x : Piece) (is : Items) {f : List W → List W} → Says x.words f → Says (commas (pieces (trees_i is))) (pr_items is) → Says (commas (x ∷ pieces (trees_i is))) (λ r. f (between_items is (pr_items is r)))
  unfolding trees_i pieces between_items pr_items
  says-items x no_item h k = unfold commas in h
  says-items x (item y e is) h k = commas-more x _ (pieces (trees_i is)) h k

  -- The items of a table.
  says-I : (is : Items) → OkItems look is → SaidItems Tells is → Says (commas (pieces (trees_i is))) (pr_items is)
  unfolding OkItems SaidItems pr_items trees_i piece pieces words_of row member if◌then◌otherwise◌
  says-I no_item k g = unfold commas in says_none
  says-I (item x e is) k g = says-items _ is (says-word x (says-word arrow (says_row (says-E true e k.1 g.1)))) (says-I is k.2 g.2)

-- ── statements ──

-- Names.
says-N : (ns : List W) → Says (commas (pieces (trees_n ns))) (pr_names ns)
unfolding pr_names trees_n piece pieces words_of member if◌then◌otherwise◌
says-N [] = unfold commas in says_none
says-N (x ∷ ns) = says-names (piece (atom x)) ns (says-word x says_none) (says-N ns)

-- An array's items.
says-array : (look : List ℕ → Option What) (es : Exprs) → Oks look true es → Saids Tells es → Says (row (pieces (array_forest es))) (prs es)
unfolding array_forest piece pieces words_of row member if◌then◌otherwise◌
says-array look nil k g = unfold prs in says_none
says-array look (more e es) k g = says_row (says-Es look true (more e es) k g)

mutual
  unfolding OkS OkSs OkBs SaidS SaidSs SaidBs pr_s pr_ss pr_bs tree_s trees_s trees_b piece pieces words_of row or_else after closed valued branched commas member if◌then◌otherwise◌

  -- the statement t at level l, where the names E are known
  says-S : (l : ℕ) (E : List Sym) (t : Stmt) → OkS l E t → SaidS Tells t → Says (piece (tree_s l t)).words (pr_s t)
  says-S l E (var_none x) k g = says-word var_word (says-word x (says_last semi says_none))
  says-S l E (var_expr x e) k g = says-word var_word (says-word x (says_last semi (says-word eq (says_row (says-E (seen l E) true e k.1 g.1)))))
  says-S l E (var_array x es) k g =
      says-word var_word (says-word x (says_last semi (says-word eq (says_row (says-word lb (says_last rb (says-array (seen l E) es k.1 g.1)))))))
  says-S l E (var_table x is) k g =
      says-word var_word (says-word x (says_last semi (says-word eq (says_row (says-word dlb (says_last drb (says_row (says-I (seen l E) is k.1 g.1))))))))
  says-S l E (func x ns ss) k g =
      says-word fn_word (says-word x (says-word lp (says_both (says-N ns) (says-word rp (says_row (says-word lbrace (says_last rbrace (says-Ss (suc l) _ ss k.4 g.2))))))))
  says-S l E (block ss) k g = says-word lbrace (says_last rbrace (says-Ss (suc l) E ss k g))
  says-S l E (cond e ss bs) k g =
      says-word if_word
      (says_both (says_both (says-E (seen l E) true e k.0 g.0) (says-word lbrace (says_last rbrace (says-Ss (suc l) E ss k.1 g.1)))) (says-Bs l _ bs k.2 g.2))
  says-S l E (loop x y e ss) k g =
      says-word for_word
      (says-word x
      (says-word comma
      (says-word y
      (says-word in_word (says_both (says-E (seen l E) true e k.2 g.2) (says_row (says-word lbrace (says_last rbrace (says-Ss (suc l) _ ss k.3 g.3)))))))))
  says-S l E ret k g = says-word return_word (says_last semi says_none)
  says-S l E (ret_expr e) k g = says-word return_word (says_last semi (says_row (says-E (seen l E) true e k g)))
  says-S l E (expr_stmt e) k g = says_last semi (says_row (says-E (seen l E) true e k g))

  says-Ss : (l : ℕ) (E : List Sym) (ts : Stmts) → OkSs l E ts → SaidSs Tells ts → Says (row (pieces (trees_s l ts))) (pr_ss ts)
  says-Ss l E stop k g = says_none
  says-Ss l E (next t ts) k g = says_both (says-S l E t k.0 g.0) (says-Ss l _ ts k.1 g.1)

  says-Bs : (l : ℕ) (E : List Sym) (bs : Branches) → OkBs l E bs → SaidBs Tells bs → Says (or_else (pieces (trees_b l bs))) (pr_bs bs)
  says-Bs l E no_branch k g = says_none
  says-Bs l E (elif_of e ss bs) k g =
      says_both (says-word elif_word (says_both (says-E (seen l E) true e k.0 g.0) (says_row (says-word lbrace (says_last rbrace (says-Ss (suc l) E ss k.1 g.1))))))
      (says-Bs l _ bs k.2 g.2)
  says-Bs l E (else_of ss bs) k g = says-word else_word (says_both (says-word lbrace (says_last rbrace (says-Ss (suc l) E ss k.0 g.0))) (says-Bs l _ bs k.1 g.1))

-- ── the canonical text ──

-- the words of a program, declaration by declaration
unfoldable pub decl_words : Stmts → List (List W)
decl_words stop = []
decl_words (next t ts) = pr_s t [] ∷ decl_words ts

-- The lines of a program's declarations are its print.
lines-printed : (E : List Sym) (ts : Stmts) → OkSs 0 E ts → SaidSs Tells ts → lines (pieces (trees_s 0 ts)) ≡ printed (decl_words ts)
unfolding OkSs SaidSs trees_s pieces lines decl_words
lines-printed E stop k g = unfold printed Bytes.items_of_all LexTrip.bytes in refl
lines-printed E (next t ts) k g =
    let h : (piece (tree_s 0 t)).words ≡ texts (pr_s t []) = sym (append-nil (piece (tree_s 0 t)).words) ∙ (unfold texts in (says-S 0 E t k.0 g.0).is []) in
    rw (h, lines-printed (env_s 0 E t) ts k.1 g.1) (sym (printed-more (pr_s t []) (decl_words ts)))

-- The canonical text of a typed program's labels is its print: a space after each word, a newline after each declaration.
pub text-printed : (ts : Stmts) → OkSs 0 [] ts → SaidSs Tells ts → text (reverse (renc_program ts)) ≡ printed (decl_words ts)
unfolding text tree_program
text-printed ts k g = rw (program-decoded ts) (lines-printed [] ts k g)
