-- A token of an ASCII script is a fine word; and what holds of each word of a typed tree is carried over.
use Rattle.std.specs.Prelude.{ℕ, zero, suc, ◌+◌, ◌-◌, ◌≤◌, ◌<◌, ◌≡◌, take, drop, length, get_or}
use Rattle.std.proofs.Common.{sym, subst, inl, inr, arith, length-drop, length-take-le}
use mathlib.Core.List.{List, [], ◌∷◌}
use Rattle.sifc_err.specs.declared.Token.{Token}
use Rattle.sifc_word.specs.Base.{part}
use Rattle.sifc_lex.specs.Lex.{token, lex}
use Rattle.sifc_lex.proofs.LexLaws.{Run, last, more, lex-runs}
use Rattle.sifc_lex.proofs.LexTrip.{Good, spell, AllWords, lex-all-words}
use Rattle.sifc_def.specs.State.{W, token_at, word_in}
use Rattle.sifc_def.specs.Typed.{Expr, prim, un, bin, call, dot, idx, set, mut, Exprs, nil, more as another, Items, no_item, item, Stmt, var_none, var_expr, var_array, var_table, func, block, cond, loop, ret, ret_expr, expr_stmt, Stmts, stop, next, Branches, no_branch, elif_of, else_of, Said, Saids, SaidNames, SaidItems, SaidS, SaidSs, SaidBs}
use Rattle.sifc_def.proofs.Canon.Bytes.{Plain, Fine}

-- ── a token of a script ──

-- the word x is a token of the script s
pub record FromScript (s : List ℕ) (x : W) : Type 0 where
  pub index : ℕ
  pub is : word_in s (token_at (lex s) index) ≡ x

-- what stands past the last token
abbrev no_token : Token
no_token = token 47 0 0

-- Token i is lexed to itself.
pub good-at : (s : List ℕ) (ts : List Token) → AllWords s ts → (i : ℕ) → (get_or ts i (token 47 0 0)).kind ≤ 45 → Good (spell s (get_or ts i (token 47 0 0)))
unfolding AllWords
good-at s [] h i k = absurd (let z : ⊥ = omega arith in z)
good-at s (t ∷ ts) h zero k = h.0 k
good-at s (t ∷ ts) h (suc i) k = good-at s ts h.1 i k

-- Token i has a byte, and lies in the script.
part_at : {n lo : ℕ} {ts : List Token} → Run n lo ts → (i : ℕ) → (get_or ts i (token 47 0 0)).kind ≤ 45
    → (0 < (get_or ts i (token 47 0 0)).len) × ((get_or ts i (token 47 0 0)).off + (get_or ts i (token 47 0 0)).len ≤ n)
part_at (last a b c (inl d)) zero k = absurd (let z : ⊥ = omega arith in z)
part_at (last a b c (inr d)) zero k = absurd (let y = d.0 in let z : ⊥ = omega arith in z)
part_at (last a b c d) (suc i) k = absurd (let z : ⊥ = omega arith in z)
part_at (more a b c d r) zero k = (b, c)
part_at (more a b c d r) (suc i) k = part_at r i k

-- The end of an ASCII list.
plain-drop : (n : ℕ) (s : List ℕ) → Plain s → Plain (drop n s)
unfolding Plain
plain-drop zero s p = p
plain-drop (suc n) [] p = tt
plain-drop (suc n) (b ∷ s) p = plain-drop n s p.1

-- The front of an ASCII list.
plain-take : (n : ℕ) (s : List ℕ) → Plain s → Plain (take n s)
unfolding Plain
plain-take zero s p = tt
plain-take (suc n) [] p = tt
plain-take (suc n) (b ∷ s) p = (p.0, plain-take n s p.1)

-- Token i is fine.
fine-at : (s : List ℕ) → Plain s → (i : ℕ) → (token_at (lex s) i).kind ≤ 45 → Fine (word_in s (token_at (lex s) i))
fine-at s p i k =
    let t : Token = token_at (lex s) i in
    let h = part_at (lex-runs s) i k in
    let d : length (drop t.off s) ≡ length s - t.off = length-drop t.off s in
    let l : length (part t.off t.len s) ≡ t.len = length-take-le t.len (drop t.off s) (omega arith) in
    record {
      good = unfold spell in good-at s (lex s) (lex-all-words s) i k;
      some = omega arith;
      token = k;
      plain = plain-take t.len (drop t.off s) (plain-drop t.off s p);
    }

-- A word of an ASCII script that is not its end is fine.
pub from-script-fine : (s : List ℕ) → Plain s → (x : W) → FromScript s x → x.kind ≤ 45 → Fine x
from-script-fine s p x f k = subst (λ (y : W). Fine y) f.is (fine-at s p f.index (subst (λ (y : W). y.kind ≤ 45) (sym f.is) k))

-- ── each word of a typed tree ──

module _ (P Q : W → Type 0) (f : (x : W) → P x → Q x) where
  -- expressions
  mutual
    unfolding Said Saids

    carry-E : (e : Expr) → Said P e → Said Q e
    carry-E (prim x) h = f x h
    carry-E (un o e) h = (f o h.0, carry-E e h.1)
    carry-E (bin o l r) h = (f o h.0, carry-E l h.1, carry-E r h.2)
    carry-E (call x es) h = (f x h.0, carry-Es es h.1)
    carry-E (dot x e) h = (f x h.0, carry-E e h.1)
    carry-E (idx x e) h = (f x h.0, carry-E e h.1)
    carry-E (set x g e) h = (f x h.0, carry-E e h.1)
    carry-E (mut x i e) h = (f x h.0, carry-E i h.1, carry-E e h.2)

    carry-Es : (es : Exprs) → Saids P es → Saids Q es
    carry-Es nil h = tt
    carry-Es (another e es) h = (carry-E e h.0, carry-Es es h.1)

  -- Names that are bound.
  carry-N : (ns : List W) → SaidNames P ns → SaidNames Q ns
  unfolding SaidNames
  carry-N [] h = tt
  carry-N (x ∷ ns) h = (f x h.0, carry-N ns h.1)

  -- The items of a table.
  carry-I : (is : Items) → SaidItems P is → SaidItems Q is
  unfolding SaidItems
  carry-I no_item h = tt
  carry-I (item x e is) h = (f x h.0, carry-E e h.1, carry-I is h.2)

  -- statements and the branches of an `if`
  mutual
    unfolding SaidS SaidSs SaidBs

    carry-S : (t : Stmt) → SaidS P t → SaidS Q t
    carry-S (var_none x) h = f x h
    carry-S (var_expr x e) h = (f x h.0, carry-E e h.1)
    carry-S (var_array x es) h = (f x h.0, carry-Es es h.1)
    carry-S (var_table x is) h = (f x h.0, carry-I is h.1)
    carry-S (func x ns ss) h = (f x h.0, carry-N ns h.1, carry-Ss ss h.2)
    carry-S (block ss) h = carry-Ss ss h
    carry-S (cond e ss bs) h = (carry-E e h.0, carry-Ss ss h.1, carry-Bs bs h.2)
    carry-S (loop x y e ss) h = (f x h.0, f y h.1, carry-E e h.2, carry-Ss ss h.3)
    carry-S ret h = tt
    carry-S (ret_expr e) h = carry-E e h
    carry-S (expr_stmt e) h = carry-E e h

    -- What holds of each word of a program.
    pub carry-Ss : (ts : Stmts) → SaidSs P ts → SaidSs Q ts
    carry-Ss stop h = tt
    carry-Ss (next t ts) h = (carry-S t h.0, carry-Ss ts h.1)

    carry-Bs : (bs : Branches) → SaidBs P bs → SaidBs Q bs
    carry-Bs no_branch h = tt
    carry-Bs (elif_of e ss bs) h = (carry-E e h.0, carry-Ss ss h.1, carry-Bs bs h.2)
    carry-Bs (else_of ss bs) h = (carry-Ss ss h.0, carry-Bs bs h.1)
