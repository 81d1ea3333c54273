-- The print of a typed tree: it only puts words before the rest, and each word is one that is lexed to itself, the fixed ones by computation, the others because
-- they were lexed.
use Rattle.std.specs.Prelude.{ℕ, ◌≡◌, refl, List, [], ◌∷◌, ◌++◌, Bool, true, false, ◌&&◌, T, leb, length}
use Rattle.std.proofs.Common.{sym, ap, ◌∙◌, append_assoc, leb→le}
use Rattle.sifc_lex.specs.declared.lex.Step.TheVariants.{Word}
use Rattle.sifc_word.specs.Base.{if◌then◌otherwise◌}
use Rattle.sifc_word.specs.BaseLaws.{and_left, and_right}
use Rattle.sifc_lex.specs.Lex.{step}
use Rattle.sifc_lex.proofs.LexTrip.{Good, sep}
use Rattle.sifc_def.specs.State.{W}
use Rattle.sifc_lex.specs.Lex.{ascii as is_ascii}
use Rattle.sifc_def.specs.Typed.{Expr, prim, un, bin, call, dot, idx, set, mut, Exprs, nil, more, Items, no_item, item, Stmt, var_none, var_expr, var_array, var_table, func, block, cond, loop, ret, ret_expr, expr_stmt, Stmts, stop, next, Branches, no_branch, elif_of, else_of, word, lp, rp, lb, rb, eq, period, comma, semi, arrow, dlb, drb, lbrace, rbrace, var_word, fn_word, return_word, if_word, elif_word, else_word, for_word, in_word, height, wrap, between, between_names, between_items, pr, prs, pr_names, pr_items, pr_s, pr_ss, pr_bs, Said, Saids, SaidNames, SaidItems, SaidS, SaidSs, SaidBs}
use Rattle.sifc_def.proofs.Canon.Bytes.{Plain, Fine, AllFine, EachFine, joined}
use Rattle.sifc_def.proofs.Canon.Words.{decl_words}

-- ── the fixed words ──

-- every byte is below 128
are_all_ascii : List ℕ → Bool
are_all_ascii [] = true
are_all_ascii (b ∷ bs) = is_ascii b && are_all_ascii bs

-- by that test
plain_of : (t : List ℕ) → T (are_all_ascii t) → Plain t
unfolding are_all_ascii Plain
plain_of [] h = tt
plain_of (b ∷ bs) h = (and_left (is_ascii b) (are_all_ascii bs) h, plain_of bs (and_right (is_ascii b) (are_all_ascii bs) h))

-- Before a space and before a newline.
both-seps : (k : ℕ) (t : List ℕ) → ((rest : List ℕ) → step (t ++ (32 ∷ rest)) ≡ Word k (length t)) → ((rest : List ℕ) → step (t ++ (10 ∷ rest)) ≡ Word k (length t)) → Good (record { kind = k; text = t })
unfolding Good sep
both-seps k t f g true rest = f rest
both-seps k t f g false rest = g rest

-- it has a byte, it is no end, and it is ASCII
usual : ℕ → List ℕ → Bool
usual k t = leb 1 (length t) && (leb k 45 && are_all_ascii t)

-- a fixed word, from what is computed of it
fixed : (k : ℕ) (t : List ℕ) → ((rest : List ℕ) → step (t ++ (32 ∷ rest)) ≡ Word k (length t)) → ((rest : List ℕ) → step (t ++ (10 ∷ rest)) ≡ Word k (length t)) → T (usual k t) → Fine (word k t)
unfolding usual
fixed k t f g h =
    let h₂ : T (leb k 45 && are_all_ascii t) = and_right (leb 1 (length t)) (leb k 45 && are_all_ascii t) h in
    record {
      good = both-seps k t f g;
      some = leb→le 1 (length t) (and_left (leb 1 (length t)) (leb k 45 && are_all_ascii t) h);
      token = leb→le k 45 (and_left (leb k 45) (are_all_ascii t) h₂);
      plain = plain_of t (and_right (leb k 45) (are_all_ascii t) h₂);
    }

-- every word that a print has of its own
record FixedWords : Type 0 where
  f-lp : Fine lp
  f-rp : Fine rp
  f-lb : Fine lb
  f-rb : Fine rb
  f-eq : Fine eq
  f-period : Fine period
  f-comma : Fine comma
  f-semi : Fine semi
  f-arrow : Fine arrow
  f-dlb : Fine dlb
  f-drb : Fine drb
  f-lbrace : Fine lbrace
  f-rbrace : Fine rbrace
  f-var : Fine var_word
  f-fn : Fine fn_word
  f-return : Fine return_word
  f-if : Fine if_word
  f-elif : Fine elif_word
  f-else : Fine else_word
  f-for : Fine for_word
  f-in : Fine in_word

-- Each is fine, by computation.
fixed_words : FixedWords
unfolding step usual are_all_ascii is_ascii if◌then◌otherwise◌
fixed_words =
    record {
      f-lp = fixed _ _ (λ r. refl) (λ r. refl) tt;
      f-rp = fixed _ _ (λ r. refl) (λ r. refl) tt;
      f-lb = fixed _ _ (λ r. refl) (λ r. refl) tt;
      f-rb = fixed _ _ (λ r. refl) (λ r. refl) tt;
      f-eq = fixed _ _ (λ r. refl) (λ r. refl) tt;
      f-period = fixed _ _ (λ r. refl) (λ r. refl) tt;
      f-comma = fixed _ _ (λ r. refl) (λ r. refl) tt;
      f-semi = fixed _ _ (λ r. refl) (λ r. refl) tt;
      f-arrow = fixed _ _ (λ r. refl) (λ r. refl) tt;
      f-dlb = fixed _ _ (λ r. refl) (λ r. refl) tt;
      f-drb = fixed _ _ (λ r. refl) (λ r. refl) tt;
      f-lbrace = fixed _ _ (λ r. refl) (λ r. refl) tt;
      f-rbrace = fixed _ _ (λ r. refl) (λ r. refl) tt;
      f-var = fixed _ _ (λ r. refl) (λ r. refl) tt;
      f-fn = fixed _ _ (λ r. refl) (λ r. refl) tt;
      f-return = fixed _ _ (λ r. refl) (λ r. refl) tt;
      f-if = fixed _ _ (λ r. refl) (λ r. refl) tt;
      f-elif = fixed _ _ (λ r. refl) (λ r. refl) tt;
      f-else = fixed _ _ (λ r. refl) (λ r. refl) tt;
      f-for = fixed _ _ (λ r. refl) (λ r. refl) tt;
      f-in = fixed _ _ (λ r. refl) (λ r. refl) tt;
    }

-- ── prints ──

-- a print puts words before the rest, and fine ones
record Puts (f : List W → List W) : Type 0 where
  before : (r s : List W) → f (r ++ s) ≡ f r ++ s
  fine : (r : List W) → AllFine r → AllFine (f r)

-- Nothing is put.
puts_none : Puts (λ r. r)
puts_none = record { before = λ r s. refl; fine = λ r h. h }

-- A word, and then a print.
puts_word : {x : W} {f : List W → List W} → Fine x → Puts f → Puts (λ r. x ∷ f r)
unfolding AllFine
puts_word {x} h k = record { before = λ r s. ap (λ (z : List W). x ∷ z) (k.before r s); fine = λ r g. (h, k.fine r g) }

-- A print, and then another.
puts-both : {f g : List W → List W} → Puts f → Puts g → Puts (λ r. f (g r))
puts-both {f} {g} h k =
    record { before = λ r s. ap f (k.before r s) ∙ h.before (g r) s; fine = λ r a. h.fine (g r) (k.fine r a) }

-- A print, and then a word.
puts-last : {x : W} {f : List W → List W} → Fine x → Puts f → Puts (λ r. f (x ∷ r))
puts-last h k = puts-both k (puts_word h puts_none)

-- Bare, or in parentheses.
puts-wrap : (q : Bool) {f : List W → List W} → Puts f → Puts (wrap q f)
unfolding wrap
puts-wrap true h = h
puts-wrap false h = puts_word fixed_words.f-lp (puts-last fixed_words.f-rp h)

-- A comma, where another argument follows.
puts-between : (es : Exprs) {f : List W → List W} → Puts f → Puts (λ r. between es (f r))
unfolding between
puts-between nil h = h
puts-between (more e es) h = puts_word fixed_words.f-comma h

-- A comma, where another name follows.
puts-between_names : (ns : List W) {f : List W → List W} → Puts f → Puts (λ r. between_names ns (f r))
unfolding between_names
puts-between_names [] h = h
puts-between_names (x ∷ ns) h = puts_word fixed_words.f-comma h

-- A comma, where another item follows.
puts-between_items : (is : Items) {f : List W → List W} → Puts f → Puts (λ r. between_items is (f r))
unfolding between_items
puts-between_items no_item h = h
puts-between_items (item x e is) h = puts_word fixed_words.f-comma h

-- the print of an expression, and of expressions
mutual
  unfolding Said Saids pr prs

  puts-E : (e : Expr) → Said Fine e → Puts (pr e)
  puts-E (prim x) g = puts_word g puts_none
  puts-E (un o e) g = puts_word g.0 (puts-wrap (leb (height e) 0) (puts-E e g.1))
  puts-E (bin o l r) g = puts-both (puts-wrap _ (puts-E l g.1)) (puts_word g.0 (puts-wrap _ (puts-E r g.2)))
  puts-E (call x es) g = puts_word g.0 (puts_word fixed_words.f-lp (puts-last fixed_words.f-rp (puts-Es es g.1)))
  puts-E (dot x e) g = puts_word g.0 (puts_word fixed_words.f-period (puts-E e g.1))
  puts-E (idx x e) g = puts_word g.0 (puts_word fixed_words.f-lb (puts-last fixed_words.f-rb (puts-E e g.1)))
  puts-E (set x h e) g = puts_word g.0 (puts_word fixed_words.f-eq (puts-E e g.1))
  puts-E (mut x i e) g =
      puts_word g.0 (puts_word fixed_words.f-lb (puts-both (puts-E i g.1) (puts_word fixed_words.f-rb (puts_word fixed_words.f-eq (puts-E e g.2)))))

  puts-Es : (es : Exprs) → Saids Fine es → Puts (prs es)
  puts-Es nil g = puts_none
  puts-Es (more e es) g = puts-both (puts-E e g.0) (puts-between es (puts-Es es g.1))

-- Names.
puts-N : (ns : List W) → SaidNames Fine ns → Puts (pr_names ns)
unfolding SaidNames pr_names
puts-N [] g = puts_none
puts-N (x ∷ ns) g = puts_word g.0 (puts-between_names ns (puts-N ns g.1))

-- The items of a table.
puts-I : (is : Items) → SaidItems Fine is → Puts (pr_items is)
unfolding SaidItems pr_items
puts-I no_item g = puts_none
puts-I (item x e is) g = puts_word g.0 (puts_word fixed_words.f-arrow (puts-both (puts-E e g.1) (puts-between_items is (puts-I is g.2))))

-- braces round what is put
puts-block : {f : List W → List W} → Puts f → Puts (λ r. lbrace ∷ f (rbrace ∷ r))
puts-block h = puts_word fixed_words.f-lbrace (puts-last fixed_words.f-rbrace h)

-- the print of a statement, of statements and of the branches of an `if`
mutual
  unfolding SaidS SaidSs SaidBs pr_s pr_ss pr_bs

  puts-S : (t : Stmt) → SaidS Fine t → Puts (pr_s t)
  puts-S (var_none x) g = puts_word fixed_words.f-var (puts_word g (puts_word fixed_words.f-semi puts_none))
  puts-S (var_expr x e) g = puts_word fixed_words.f-var (puts_word g.0 (puts_word fixed_words.f-eq (puts-last fixed_words.f-semi (puts-E e g.1))))
  puts-S (var_array x es) g =
      puts_word fixed_words.f-var
      (puts_word g.0 (puts_word fixed_words.f-eq (puts_word fixed_words.f-lb (puts-both (puts-Es es g.1) (puts_word fixed_words.f-rb (puts_word fixed_words.f-semi puts_none))))))
  puts-S (var_table x is) g =
      puts_word fixed_words.f-var
      (puts_word g.0 (puts_word fixed_words.f-eq (puts_word fixed_words.f-dlb (puts-both (puts-I is g.1) (puts_word fixed_words.f-drb (puts_word fixed_words.f-semi puts_none))))))
  puts-S (func x ns ss) g =
      puts_word fixed_words.f-fn (puts_word g.0 (puts_word fixed_words.f-lp (puts-both (puts-N ns g.1) (puts_word fixed_words.f-rp (puts-block (puts-Ss ss g.2))))))
  puts-S (block ss) g = puts-block (puts-Ss ss g)
  puts-S (cond e ss bs) g = puts_word fixed_words.f-if (puts-both (puts-both (puts-E e g.0) (puts-block (puts-Ss ss g.1))) (puts-Bs bs g.2))
  puts-S (loop x y e ss) g =
      puts_word fixed_words.f-for
      (puts_word g.0 (puts_word fixed_words.f-comma (puts_word g.1 (puts_word fixed_words.f-in (puts-both (puts-E e g.2) (puts-block (puts-Ss ss g.3)))))))
  puts-S ret g = puts_word fixed_words.f-return (puts_word fixed_words.f-semi puts_none)
  puts-S (ret_expr e) g = puts_word fixed_words.f-return (puts-last fixed_words.f-semi (puts-E e g))
  puts-S (expr_stmt e) g = puts-last fixed_words.f-semi (puts-E e g)

  puts-Ss : (ts : Stmts) → SaidSs Fine ts → Puts (pr_ss ts)
  puts-Ss stop g = puts_none
  puts-Ss (next t ts) g = puts-both (puts-S t g.0) (puts-Ss ts g.1)

  puts-Bs : (bs : Branches) → SaidBs Fine bs → Puts (pr_bs bs)
  puts-Bs no_branch g = puts_none
  puts-Bs (elif_of e ss bs) g = puts_word fixed_words.f-elif (puts-both (puts-both (puts-E e g.0) (puts-block (puts-Ss ss g.1))) (puts-Bs bs g.2))
  puts-Bs (else_of ss bs) g = puts_word fixed_words.f-else (puts-both (puts-block (puts-Ss ss g.0)) (puts-Bs bs g.1))

-- ── programs ──

-- Every word of a program's print is fine.
pub each-fine : (ts : Stmts) → SaidSs Fine ts → EachFine (decl_words ts)
unfolding SaidSs decl_words EachFine
each-fine stop g = tt
each-fine (next t ts) g = ((puts-S t g.0).fine [] (unfold AllFine in tt), each-fine ts g.1)

-- The words of a program's declarations, one after another.
pub joined_words : (ts : Stmts) (rest : List W) → SaidSs Fine ts → joined (decl_words ts) ++ rest ≡ pr_ss ts rest
unfolding SaidSs decl_words joined pr_ss
joined_words stop rest g = refl
joined_words (next t ts) rest g =
    append_assoc (pr_s t []) (joined (decl_words ts)) rest ∙ ap (λ (z : List W). pr_s t [] ++ z) (joined_words ts rest g.1) ∙ sym ((puts-S t g.0).before [] (pr_ss ts rest))
