-- Laws of the canonical text: it is a function of the labels; of a typed program it is the print, which lexes to the program's words.
use Rattle.std.specs.Prelude.{ℕ, zero, suc, ◌<◌, ◌≤◌, ◌≡◌, refl, List, [], ◌∷◌, ◌++◌, map, reverse, Bool, true, false, eqb, ltb, length, get_or}
use Rattle.std.proofs.Common.{sym, ap, ◌∙◌, subst, arith, ltb→lt, eqb→eq}
use Rattle.std.proofs.Math.ListN.{get_or-map}
use Rattle.sifc_err.specs.declared.Ending.TheVariants.{TrueEnd}
use Rattle.sifc_word.specs.Base.{span}
use Rattle.sifc_err.specs.declared.Token.{Token}
use Rattle.sifc_word.specs.Kind.{LexPanic}
use Rattle.sifc_lex.specs.Lex.{token, lex, ending}
use Rattle.sifc_def.specs.Ast.{Program}
use Rattle.sifc_def.specs.State.{W, token_at, word_in}
use Rattle.sifc_lex.specs.Lex.{ascii as is_ascii}
use Rattle.sifc_def.specs.Label.{Lab, lab}
use Rattle.sifc_def.specs.Text.{text}
use Rattle.sifc_def.specs.Typed.{Stmts, pr_program, renc_program, OkProgram, SaidSs, eof_word}
use Rattle.sifc_def.proofs.Canon.Bytes.{printed, joined, eof, Fine, AllFine, EachFine, Lined, print-lexed, print-ends, print-ascii, print-lined}
use Rattle.sifc_def.proofs.Canon.Words.{Tells, decl_words, text-printed}
use Rattle.sifc_def.proofs.Canon.Operators.{good-tells}
use Rattle.sifc_def.proofs.Canon.Print.{each-fine, joined_words}
use Rattle.sifc_def.proofs.Canon.Lexed.{carry-Ss}

-- Equal label lists have equal texts: the text is a function of them.
pub text-equal : (xs ys : List Lab) → xs ≡ ys → text xs ≡ text ys
text-equal xs ys e = ap text e

-- The text of no declarations is empty: "an empty tree gives no bytes".
pub text-nothing : text (lab Program false 0 0 [] ∷ []) ≡ []
unfolding text
text-nothing = refl

-- the bytes of a typed program
abbrev pub print : Stmts → List ℕ
print ts = printed (decl_words ts)

-- of each fine word, that its text tells how it binds
tells : (ts : Stmts) → SaidSs Fine ts → SaidSs Tells ts
tells ts g = carry-Ss Fine Tells (λ x f. good-tells x f.good) ts g

-- Nothing is less than itself.
not-less : (n : ℕ) → ltb n n ≡ false
not-less n = go (ltb n n) refl
  where
    go : (q : Bool) → ltb n n ≡ q → ltb n n ≡ false
    go true e = absurd (let z : n < n = ltb→lt n n (rw e tt) in let y : ⊥ = omega arith in y)
    go false e = e

-- tokens whose words are fine, and then Eof, are no lexing panic
fine-append : (xs ys : List W) → AllFine xs → AllFine ys → AllFine (xs ++ ys)
unfolding AllFine
fine-append [] ys h k = k
fine-append (x ∷ xs) ys h k = (h.0, fine-append xs ys h.1 k)

-- All declarations' words are fine.
all-fine : (ds : List (List W)) → EachFine ds → AllFine (joined ds)
unfolding EachFine joined
all-fine [] h = unfold AllFine in tt
all-fine (d ∷ ds) h = fine-append d (joined ds) h.0 (all-fine ds h.1)

-- A kind of at most 47 is not that of a lexing panic.
no-panic : (k : ℕ) → k ≤ 47 → eqb k LexPanic ≡ false
no-panic k h = go (eqb k LexPanic) refl
  where
    go : (q : Bool) → eqb k LexPanic ≡ q → eqb k LexPanic ≡ false
    go true e = absurd (let z : k ≡ 48 = eqb→eq k 48 (rw e tt) in let y : ⊥ = omega arith in y)
    go false e = e

-- The kinds of fine words, and of Eof.
small_word : (ws : List W) → AllFine ws → (i : ℕ) → (get_or (ws ++ (eof ∷ [])) i eof).kind ≤ 47
unfolding AllFine
small_word [] h zero = omega arith
small_word [] h (suc i) = omega arith
small_word (x ∷ ws) h zero = let z = h.0.token in omega arith
small_word (x ∷ ws) h (suc i) = small_word ws h.1 i

-- Tokens whose words are fine, and then Eof, are no lexing panic.
calm-words : (s : List ℕ) (xs : List Token) (ws : List W) → AllFine ws → map (word_in s) xs ≡ ws ++ (eof ∷ []) → (i : ℕ) → eqb (token_at xs i).kind LexPanic ≡ false
calm-words s xs ws f e i =
    no-panic (token_at xs i).kind
    (subst (λ (x : W). x.kind ≤ 47) (sym (ap (λ (l : List W). get_or l i eof) e) ∙ get_or-map (word_in s) xs i (token 47 0 0)) (small_word ws f i))

module _ (ts : Stmts) (ok : OkProgram ts) (fine : SaidSs Fine ts) where
  -- The canonical text of a typed program's labels is its print.
  pub text-print : text (reverse (renc_program ts)) ≡ print ts
  text-print = text-printed ts ok (tells ts fine)

  -- It lexes to the program's words, and then Eof.
  pub print-words : map (word_in (print ts)) (lex (print ts)) ≡ pr_program ts
  print-words = print-lexed (decl_words ts) (each-fine ts fine) ∙ joined_words ts (eof_word ∷ []) fine

  -- No token of it is a lexing panic.
  pub print-calm : (i : ℕ) → eqb (token_at (lex (print ts)) i).kind LexPanic ≡ false
  print-calm i = calm-words (print ts) (lex (print ts)) (joined (decl_words ts)) (all-fine (decl_words ts) (each-fine ts fine)) (print-lexed (decl_words ts) (each-fine ts fine)) i

  -- It ends at its true end: no unknown character, no open string, no lexing panic.
  pub print-end : ending (print ts) ≡ TrueEnd
  print-end = print-ends (decl_words ts) (each-fine ts fine)

  -- No byte of it is 128 or more: entry's test.
  pub print-passes : ltb (span is_ascii (print ts)) (length (print ts)) ≡ false
  print-passes = rw (print-ascii (decl_words ts) (each-fine ts fine)) (not-less (length (print ts)))

  -- It is empty or ends in a newline.
  pub print-line : Lined (print ts)
  print-line = print-lined (decl_words ts)
