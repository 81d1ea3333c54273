-- How declarations and statements without a block are made of their pieces, from the last to the first.
use Prim.Native.Nat.{ℕ, suc, ◌-◌, ◌/◌, ◌%◌, ◌≤◌, ◌<◌}
use native.Mathlib.Omega.{arith}
use mathlib.Core.Path.{◌≡◌, refl, sym, ap, ◌∙◌}
use mathlib.Core.List.{List, [], ◌∷◌, ◌++◌, append_assoc, append-nil}
use lib.ListN.{length, get_or}
use lib.Dec.{eqb}
use borrow.Author.Tests.{ne_eqb}
use Rattle.std.specs.Prelude.{Ok}
use Rattle.sifc_word.specs.Base.{if◌then◌otherwise◌}
use Rattle.sifc_def.specs.State.{W}
use Rattle.sifc_def.specs.Ast.{ReturnStmt, ExprStmt, VarDecl}
use Rattle.sifc_def.specs.Typed.{Expr, prim, un, bin, call, dot, idx, set, mut, Exprs, nil, more, many, Items, no_item, item, many_items, lb, rb, eq, semi, arrow, dlb, drb, var_word, return_word, pr, prs, pr_items, pr_names, between_items, between_names, comma}
use Rattle.sifc_put.specs.Place.{Inp, Node, Carries, Along}
use Rattle.sifc_put.specs.declared.write.Writer.{Writer}
use Rattle.sifc_put.specs.Post.{Kind, kind_of, children_of, Pieces, one, seq, made, fixed, token_l, leaf_l, commas, inp_of, InHeads, Writes}
use Rattle.sifc_put.specs.Bytes.{worded, spaced, spaced-append, Puts, puts-E, puts-Es, puts-I, bytes_of, spaced-puts}
use Rattle.sifc_put.specs.Spans.{Single, Spans, SpansItems, SpansArray}
use Rattle.sifc_put.proofs.Frame.{Narrow, Part, down, opening, opened, entered, narrowed, empty}
use Rattle.sifc_text_expr.specs.Kinds.{expr_l, exprs_l}
use Rattle.sifc_text_expr.proofs.Roots.{readable}
use Rattle.sifc_text_expr.proofs.Forms.{listed, listed-many, listed-bytes, listed-along}
use Rattle.sifc_text_plain.specs.Kinds.{pair_l, item_l, items_l, table_l, array_l, Value, expression, an_array, a_table, pr_value, SpansValue, value_l, Var, unset, set_to, pr_var, SpansVar, var_l, Plain, variable, returned, return_of, evaluated, pr_plain, SpansPlain, plain_l}

-- a fixed word
abbrev pub word_l : W → Kind
word_l w = fixed (worded w)

-- The words after a print are its last.
pub spaced-after : {f : List W → List W} → Puts f → (xs ys : List W) → spaced (f (xs ++ ys)) ≡ spaced (f xs) ++ spaced ys
spaced-after {f} h xs ys =
    spaced-puts h (xs ++ ys)
    ∙ ap (λ (b : List ℕ). bytes_of f ++ b) (spaced-append xs ys)
    ∙ sym (append_assoc (bytes_of f) (spaced xs) (spaced ys))
    ∙ ap (λ (b : List ℕ). b ++ spaced ys) (sym (spaced-puts h xs))

-- ── names and items as lists ──

-- The bytes of names are those of each, with commas between.
pub names-bytes : (ns : List W) → bytes_of (pr_names ns) ≡ commas (λ (w : W). worded w) ns
unfolding pr_names between_names spaced commas
names-bytes [] = refl
names-bytes (x ∷ []) = append-nil (worded x)
names-bytes (x ∷ y ∷ ys) = ap (λ (b : List ℕ). worded x ++ (44 ∷ 32 ∷ b)) (names-bytes (y ∷ ys))

-- items as a list
unfoldable pub item_list : Items → List (W × Expr)
item_list no_item = []
item_list (item x e is) = (x, e) ∷ item_list is

-- so many
pub items-count : (is : Items) → length (item_list is) ≡ many_items is
unfolding item_list many_items
items-count no_item = refl
items-count (item x e is) = ap suc (items-count is)

-- the bytes of an item
abbrev pub item_bytes : W × Expr → List ℕ
item_bytes x = worded x.0 ++ (worded arrow ++ bytes_of (pr x.1))

-- with the same bytes
pub items-bytes : (is : Items) → bytes_of (pr_items is) ≡ commas item_bytes (item_list is)
unfolding pr_items between_items item_list commas spaced
items-bytes no_item = refl
items-bytes (item x e no_item) = refl
items-bytes (item x e (item y f is)) =
    ap (λ (b : List ℕ). worded x ++ (worded arrow ++ b))
    (spaced-puts (puts-E e) (comma ∷ pr_items (item y f is) []) ∙ ap (λ (b : List ℕ). bytes_of (pr e) ++ (44 ∷ 32 ∷ b)) (items-bytes (item y f is)))
    ∙ sym (append_assoc (worded x) (worded arrow ++ bytes_of (pr e)) (44 ∷ 32 ∷ commas item_bytes (item_list (item y f is))))

-- ── what stands before a `;` ──

-- the bytes of a declaration before its `;`
unfoldable pub var_bytes : Var → List ℕ
var_bytes (unset x) = worded var_word ++ worded x
var_bytes (set_to x v) = worded var_word ++ (worded x ++ (worded eq ++ bytes_of (pr_value v)))

-- what stands before the `;` of a statement that declares nothing
pub data Body : Type 0 where
  nothing : Body
  result : Expr → Body
  alone : Expr → Body

-- its bytes
unfoldable pub body_bytes : Body → List ℕ
body_bytes nothing = worded return_word
body_bytes (result e) = worded return_word ++ bytes_of (pr e)
body_bytes (alone e) = bytes_of (pr e)

-- what stands before the expression of a statement of this kind
unfoldable pub lead : ℕ → List ℕ
lead k = if eqb k ReturnStmt then worded return_word otherwise []

-- the kind of the node before hi
abbrev pub kind_at : Inp → ℕ → ℕ
kind_at I hi = get_or I.heads (hi - 1) 0 % 32

-- its children
abbrev pub kids_at : Inp → ℕ → ℕ
kids_at I hi = get_or I.heads (hi - 1) 0 / 64

-- where a declaration without its `;` stands, which ends before h; the declaration's node is before hi
unfoldable pub VarBefore : Inp → ℕ → Var → ℕ → ℕ → Type 0
VarBefore I hi (unset x) lo h = (lo ≡ h) × (kids_at I hi ≡ 0) × Carries I.script I.offs I.words I.loads hi x
VarBefore I hi (set_to x v) lo h = SpansValue I v lo h × (kids_at I hi ≡ 1) × Carries I.script I.offs I.words I.loads hi x

-- such a declaration
abbrev pub before_l : ℕ → Kind
before_l hi = λ I. record { T = Var; S = λ v lo h. VarBefore I hi v lo h; P = λ v. var_bytes v }

-- the same, of a statement that declares nothing
unfoldable pub BodyAt : Inp → ℕ → Body → ℕ → ℕ → Type 0
BodyAt I hi nothing lo h = (lo ≡ h) × (kids_at I hi ≡ 0)
BodyAt I hi (result e) lo h = Spans I e lo h × (kids_at I hi ≡ 1) × (kind_at I hi ≡ ReturnStmt)
BodyAt I hi (alone e) lo h = Spans I e lo h × (kids_at I hi ≡ 1) × (kind_at I hi ≡ ExprStmt)

abbrev pub body_l : ℕ → Kind
body_l hi = λ I. record { T = Body; S = λ b lo h. BodyAt I hi b lo h; P = λ b. body_bytes b }

-- ── pieces ──

-- the two names of a loop
abbrev pub two_l : Pieces
two_l = seq (seq (one leaf_l) (word_l comma)) leaf_l

-- a key and its value
abbrev pub keyed_l : ℕ → Pieces
keyed_l hi = seq (seq (one (token_l hi)) (word_l arrow)) expr_l

-- n items in double brackets
abbrev pub tabled_l : ℕ → Pieces
tabled_l n = seq (seq (one (word_l dlb)) (items_l n)) (word_l drb)

-- brackets, and n expressions in brackets
abbrev pub bare_l : Pieces
bare_l = seq (one (word_l lb)) (word_l rb)

abbrev pub arrayed_l : ℕ → Pieces
arrayed_l n = seq (seq (one (word_l lb)) (exprs_l n)) (word_l rb)

-- a declaration, which ends in its `;`
abbrev pub declared_l : ℕ → Pieces
declared_l hi = seq (one (before_l hi)) (word_l semi)

-- one without a value, and one with a value
abbrev pub unset_l : ℕ → Pieces
unset_l hi = seq (one (word_l var_word)) (token_l hi)

abbrev pub set_l : ℕ → Pieces
set_l hi = seq (seq (seq (one (word_l var_word)) (token_l hi)) (word_l eq)) value_l

-- a statement that declares nothing, which ends in its `;`
abbrev pub bodied_l : ℕ → Pieces
bodied_l hi = seq (one (body_l hi)) (word_l semi)

-- an expression, and what stands before it where the statement is of the kind k
abbrev pub led_l : ℕ → Pieces
led_l k = seq (one (fixed (lead k))) expr_l

module _ (I : Inp) where
  -- the node before hi can be read
  pub record Root (hi : ℕ) : Type 0 where
    pub some : 0 < hi
    pub in_heads : hi - 1 < length I.heads

  -- A node that stands there can.
  pub root-of : {hi kind kids : ℕ} → Node I.heads I.loads hi kind kids → Root hi
  root-of n = record { some = n.some; in_heads = n.in_heads }

  -- A single token is a node that is a name.
  pub name_of : {x : W} {lo hi : ℕ} → Single I x lo hi → (lo ≡ hi - 1) × Carries I.script I.offs I.words I.loads hi x
  name_of s = (s.below, s.token)

  -- Single tokens in a row are names in a row.
  pub names-along : (ns : List W) (lo hi : ℕ) → Along (Single I) ns lo hi → Along (leaf_l I).S ns lo hi
  unfolding Along
  names-along [] lo hi s = s
  names-along (x ∷ xs) lo hi s = record { mid = s.mid; front = name_of s.front; last = names-along xs s.mid hi s.last }

  -- Items stand in a row.
  pub items-along : (is : Items) (lo hi : ℕ) → SpansItems I is lo hi → Along (item_l I).S (item_list is) lo hi
  unfolding SpansItems Along item_list
  items-along no_item lo hi s = s
  items-along (item x e is) lo hi s = record { mid = s.mid; front = s.front; last = items-along is s.mid hi s.last }

  -- ── pairs, items, tables and arrays ──

  -- the two names of a loop
  is-pair : (hi : ℕ) → Narrow (pair_l I) (made two_l I) hi (hi - 1)
  is-pair hi x lo s =
      record {
        tree = ((x.0, tt), x.1);
        spans = record { mid = s.below.mid; front = record { mid = s.below.mid; front = name_of s.below.front; last = refl }; last = name_of s.below.last };
        text = sym (append_assoc (worded x.0) (worded comma) (worded x.1));
      }

  -- an item of a table
  is-item : (hi : ℕ) → Narrow (item_l I) (made (keyed_l hi) I) hi (hi - 1)
  is-item hi x lo s =
      record {
        tree = ((x.0, tt), x.1);
        spans = record { mid = lo; front = record { mid = lo; front = (refl, s.token); last = refl }; last = s.below };
        text = sym (append_assoc (worded x.0) (worded arrow) (bytes_of (pr x.1)));
      }

  -- a table, by the count of its items
  is-table : (hi n : ℕ) → n ≡ kids_at I (hi - 1) → Narrow (table_l I) (made (tabled_l n) I) hi (hi - 1 - 1)
  unfolding spaced
  is-table hi n k is lo s =
      record {
        tree = ((tt, item_list is), tt);
        spans = record {
          mid = hi - 1 - 1;
          front = record { mid = lo; front = refl; last = (items-along is lo (hi - 1 - 1) s.below.below, items-count is ∙ sym s.below.top.counted ∙ sym k) };
          last = refl;
        };
        text = ap (λ (b : List ℕ). worded dlb ++ b) (spaced-puts (puts-I is) (drb ∷ []) ∙ ap (λ (b : List ℕ). b ++ worded drb) (items-bytes is));
      }

  -- an array without items
  is-bare : (hi : ℕ) → kids_at I hi ≡ 0 → Narrow (array_l I) (made bare_l I) hi (hi - 1)
  unfolding SpansArray prs spaced
  is-bare hi k nil lo s = record { tree = (tt, tt); spans = record { mid = lo; front = refl; last = s.below }; text = refl }
  is-bare hi k (more e es) lo s = absurd (omega (arith, s.top.counted, k))

  -- an array with items, by their count
  is-array : (hi n : ℕ) → (kids_at I hi ≡ 0 → ⊥) → n ≡ kids_at I (hi - 1) → Narrow (array_l I) (made (arrayed_l n) I) hi (hi - 1 - 1)
  unfolding SpansArray spaced many
  is-array hi n z k nil lo s = absurd (z s.top.counted)
  is-array hi n z k (more e es) lo s =
      record {
        tree = ((tt, listed (more e es)), tt);
        spans = record {
          mid = hi - 1 - 1;
          front = record { mid = lo; front = refl; last = (listed-along I (more e es) lo (hi - 1 - 1) s.below.below, listed-many (more e es) ∙ sym s.below.top.counted ∙ sym k) };
          last = refl;
        };
        text = ap (λ (b : List ℕ). worded lb ++ b) (spaced-puts (puts-Es (more e es)) (rb ∷ []) ∙ ap (λ (b : List ℕ). b ++ worded rb) (listed-bytes (more e es)));
      }

  -- The list node below an array with items can be read.
  pub array-list : (es : Exprs) (lo hi : ℕ) → SpansArray I es lo hi → (kids_at I hi ≡ 0 → ⊥) → Root (hi - 1)
  unfolding SpansArray
  array-list nil lo hi s z = absurd (z s.top.counted)
  array-list (more e es) lo hi s z = root-of s.below.top

  -- An array's own node can be read.
  pub array-root : (es : Exprs) (lo hi : ℕ) → SpansArray I es lo hi → Root hi
  unfolding SpansArray
  array-root nil lo hi s = root-of s.top
  array-root (more e es) lo hi s = root-of s.top

  -- ── what a variable is set to ──

  -- No expression is an array or a table.
  expr-kind : (e : Expr) (lo hi : ℕ) → Spans I e lo hi → kind_at I hi < 17 → kind_at I hi ≡ 15
  unfolding Spans
  expr-kind (prim x) lo hi s k = omega (arith, s.top.kinded)
  expr-kind (un o e) lo hi s k = omega (arith, s.top.kinded)
  expr-kind (bin o l r) lo hi s k = omega (arith, s.top.kinded)
  expr-kind (call x es) lo hi s k = omega (arith, s.top.kinded)
  expr-kind (dot x e) lo hi s k = omega (arith, s.top.kinded)
  expr-kind (idx x e) lo hi s k = omega (arith, s.top.kinded)
  expr-kind (set x g e) lo hi s k = omega (arith, s.top.kinded)
  expr-kind (mut x i e) lo hi s k = omega (arith, s.top.kinded)

  -- An array's node says so.
  array_kind : (es : Exprs) (lo hi : ℕ) → SpansArray I es lo hi → kind_at I hi ≡ 16
  unfolding SpansArray
  array_kind nil lo hi s = s.top.kinded
  array_kind (more e es) lo hi s = s.top.kinded

  -- The last node of a value can be read.
  pub value-root : (v : Value) (lo hi : ℕ) → SpansValue I v lo hi → Root hi
  unfolding SpansValue
  value-root (expression e) lo hi s = record { some = (readable I e lo hi s).some; in_heads = (readable I e lo hi s).in_heads }
  value-root (an_array es) lo hi s = array-root es lo hi s
  value-root (a_table is) lo hi s = root-of s.top

  -- a value that is an array
  is-array-value : (hi : ℕ) → kind_at I hi ≡ 16 → Narrow (value_l I) (array_l I) hi hi
  unfolding SpansValue pr_value
  is-array-value hi k (expression e) lo s = absurd (omega (arith, expr-kind e lo hi s (omega (arith, k)), k))
  is-array-value hi k (an_array es) lo s = record { tree = es; spans = s; text = refl }
  is-array-value hi k (a_table is) lo s = absurd (omega (arith, s.top.kinded, k))

  -- one that is a table
  is-table-value : (hi : ℕ) → kind_at I hi ≡ 14 → Narrow (value_l I) (table_l I) hi hi
  unfolding SpansValue pr_value
  is-table-value hi k (expression e) lo s = absurd (omega (arith, expr-kind e lo hi s (omega (arith, k)), k))
  is-table-value hi k (an_array es) lo s = absurd (omega (arith, array_kind es lo hi s, k))
  is-table-value hi k (a_table is) lo s = record { tree = is; spans = s; text = refl }

  -- one that is neither
  is-expr-value : (hi : ℕ) → (kind_at I hi ≡ 16 → ⊥) → (kind_at I hi ≡ 14 → ⊥) → Narrow (value_l I) (expr_l I) hi hi
  unfolding SpansValue pr_value
  is-expr-value hi k j (expression e) lo s = record { tree = e; spans = s; text = refl }
  is-expr-value hi k j (an_array es) lo s = absurd (k (array_kind es lo hi s))
  is-expr-value hi k j (a_table is) lo s = absurd (j s.top.kinded)

  -- ── the declaration of a variable ──

  -- A value before a `;`.
  value-semi : (v : Value) → spaced (pr_value v (semi ∷ [])) ≡ bytes_of (pr_value v) ++ worded semi
  unfolding pr_value spaced
  value-semi (expression e) = spaced-puts (puts-E e) (semi ∷ [])
  value-semi (an_array es) = ap (λ (b : List ℕ). worded lb ++ b) (spaced-after (puts-Es es) (rb ∷ []) (semi ∷ []))
  value-semi (a_table is) = ap (λ (b : List ℕ). worded dlb ++ b) (spaced-after (puts-I is) (drb ∷ []) (semi ∷ []))

  -- A declaration ends in its `;`.
  is-ended : (hi : ℕ) → Narrow (var_l I) (made (declared_l hi) I) hi (hi - 1)
  unfolding SpansVar VarBefore var_bytes pr_var spaced
  is-ended hi (unset x) lo s =
      record {
        tree = (unset x, tt);
        spans = record { mid = hi - 1; front = (s.below, s.top.counted, s.token); last = refl };
        text = refl;
      }
  is-ended hi (set_to x v) lo s =
      record {
        tree = (set_to x v, tt);
        spans = record { mid = hi - 1; front = (s.below, s.top.counted, s.token); last = refl };
        text =
            ap (λ (b : List ℕ). worded var_word ++ (worded x ++ (worded eq ++ b))) (value-semi v)
            ∙ ap (λ (b : List ℕ). worded var_word ++ b) (sym (append_assoc (worded x) (worded eq ++ bytes_of (pr_value v)) (worded semi)));
      }

  -- one without a value
  is-unset : (hi h : ℕ) → kids_at I hi ≡ 0 → Narrow (before_l hi I) (made (unset_l hi) I) h h
  unfolding VarBefore var_bytes
  is-unset hi h k (unset x) lo s = record { tree = (tt, x); spans = record { mid = lo; front = refl; last = (s.0, s.2) }; text = refl }
  is-unset hi h k (set_to x v) lo s = absurd (omega (arith, s.1, k))

  -- one with a value
  is_set : (hi h : ℕ) → (kids_at I hi ≡ 0 → ⊥) → Narrow (before_l hi I) (made (set_l hi) I) h h
  unfolding VarBefore var_bytes
  is_set hi h k (unset x) lo s = absurd (k s.1)
  is_set hi h k (set_to x v) lo s =
      record {
        tree = (((tt, x), tt), v);
        spans = record { mid = lo; front = record { mid = lo; front = record { mid = lo; front = refl; last = (refl, s.2) }; last = refl }; last = s.0 };
        text = ap (λ (b : List ℕ). worded var_word ++ b) (sym (append_assoc (worded x) (worded eq) (bytes_of (pr_value v))));
      }

  -- The node of a declaration can be read,
  pub var-root : (v : Var) (lo hi : ℕ) → SpansVar I v lo hi → Root hi
  unfolding SpansVar
  var-root (unset x) lo hi s = root-of s.top
  var-root (set_to x v) lo hi s = root-of s.top

  -- and says what it is.
  var-kind : (v : Var) (lo hi : ℕ) → SpansVar I v lo hi → kind_at I hi ≡ VarDecl
  unfolding SpansVar
  var-kind (unset x) lo hi s = s.top.kinded
  var-kind (set_to x v) lo hi s = s.top.kinded

  -- ── statements ──

  -- The last node of a statement without a block can be read,
  pub plain-root : (p : Plain) (lo hi : ℕ) → SpansPlain I p lo hi → Root hi
  unfolding SpansPlain
  plain-root (variable v) lo hi s = var-root v lo hi s
  plain-root returned lo hi s = root-of s.top
  plain-root (return_of e) lo hi s = root-of s.top
  plain-root (evaluated e) lo hi s = root-of s.top

  -- and is of one of three kinds.
  pub plain-kind : (p : Plain) (lo hi : ℕ) → SpansPlain I p lo hi → (6 ≤ kind_at I hi) × (kind_at I hi ≤ 8)
  unfolding SpansPlain
  plain-kind (variable v) lo hi s = omega (arith, var-kind v lo hi s)
  plain-kind returned lo hi s = omega (arith, s.top.kinded)
  plain-kind (return_of e) lo hi s = omega (arith, s.top.kinded)
  plain-kind (evaluated e) lo hi s = omega (arith, s.top.kinded)

  -- one that declares a variable
  is-var : (hi : ℕ) → kind_at I hi ≡ 8 → Narrow (plain_l I) (var_l I) hi hi
  unfolding SpansPlain pr_plain
  is-var hi k (variable v) lo s = record { tree = v; spans = s; text = refl }
  is-var hi k returned lo s = absurd (omega (arith, s.top.kinded, k))
  is-var hi k (return_of e) lo s = absurd (omega (arith, s.top.kinded, k))
  is-var hi k (evaluated e) lo s = absurd (omega (arith, s.top.kinded, k))

  -- It ends in its `;`.
  is_body : (hi : ℕ) → (kind_at I hi ≡ 8 → ⊥) → Narrow (plain_l I) (made (bodied_l hi) I) hi (hi - 1)
  unfolding SpansPlain pr_plain BodyAt body_bytes spaced
  is_body hi k (variable v) lo s = absurd (k (var-kind v lo hi s))
  is_body hi k returned lo s = record { tree = (nothing, tt); spans = record { mid = hi - 1; front = (s.below, s.top.counted); last = refl }; text = refl }
  is_body hi k (return_of e) lo s =
      record {
        tree = (result e, tt);
        spans = record { mid = hi - 1; front = (s.below, s.top.counted, s.top.kinded); last = refl };
        text = ap (λ (b : List ℕ). worded return_word ++ b) (spaced-puts (puts-E e) (semi ∷ []));
      }
  is_body hi k (evaluated e) lo s =
      record {
        tree = (alone e, tt);
        spans = record { mid = hi - 1; front = (s.below, s.top.counted, s.top.kinded); last = refl };
        text = spaced-puts (puts-E e) (semi ∷ []);
      }

  -- `return` alone
  is-nothing : (hi h : ℕ) → kids_at I hi ≡ 0 → Narrow (body_l hi I) (word_l return_word I) h h
  unfolding BodyAt body_bytes
  is-nothing hi h k nothing lo s = record { tree = tt; spans = s.0; text = refl }
  is-nothing hi h k (result e) lo s = absurd (omega (arith, s.1, k))
  is-nothing hi h k (alone e) lo s = absurd (omega (arith, s.1, k))

  -- an expression, and what stands before it
  is-led : (hi h : ℕ) → (kids_at I hi ≡ 0 → ⊥) → Narrow (body_l hi I) (made (led_l (kind_at I hi)) I) h h
  unfolding BodyAt body_bytes lead if◌then◌otherwise◌
  is-led hi h k nothing lo s = absurd (k s.1)
  is-led hi h k (result e) lo s =
      record { tree = (tt, e); spans = record { mid = lo; front = refl; last = s.0 }; text = ap (λ (i : ℕ). lead i ++ bytes_of (pr e)) (sym s.2) }
  is-led hi h k (alone e) lo s =
      record { tree = (tt, e); spans = record { mid = lo; front = refl; last = s.0 }; text = ap (λ (i : ℕ). lead i ++ bytes_of (pr e)) (sym s.2) }

  -- a return's is its word
  is-return : (hi h : ℕ) → kind_at I hi ≡ 6 → Narrow (fixed (lead (kind_at I hi)) I) (word_l return_word I) h h
  unfolding lead if◌then◌otherwise◌
  is-return hi h k u lo s = record { tree = u; spans = s; text = ap lead k }

  -- any other's is nothing
  no_lead : (hi h : ℕ) → (kind_at I hi ≡ 6 → ⊥) → (u : Unit {0}) (lo : ℕ) → lo ≡ h → (lo ≡ h) × (lead (kind_at I hi) ≡ [])
  unfolding lead if◌then◌otherwise◌
  no_lead hi h k u lo s = (s, rw (ne_eqb (kind_at I hi) 6 k) refl)

-- The node before a writer's can be read.
pub head : (p : Writer) → Root (inp_of p) p.node → InHeads p
head p r = record { some = r.some; in_heads = r.in_heads }

-- ── what is left at first ──

module _ (p : Writer) where
  pub pair-part : Part pair_l two_l p (down p)
  pair-part = entered pair_l two_l p (is-pair (inp_of p) p.node)

  pub item-part : Part item_l (keyed_l p.node) p (down p)
  item-part = entered item_l (keyed_l p.node) p (is-item (inp_of p) p.node)

  pub table-part : {n : ℕ} → n ≡ children_of (down p) → Part table_l (tabled_l n) p (down (down p))
  table-part {n} e = narrowed (tabled_l n) (p.node - 1 - 1) opening (is-table (inp_of p) p.node n e) (omega arith)

  pub bare-part : {k : ℕ} → k ≡ children_of p → k ≡ 0 → Part array_l bare_l p (down p)
  bare-part e z = entered array_l bare_l p (is-bare (inp_of p) p.node (sym e ∙ z))

  pub array-part : {k n : ℕ} → k ≡ children_of p → (k ≡ 0 → ⊥) → n ≡ children_of (down p) → Part array_l (arrayed_l n) p (down (down p))
  array-part {k} {n} e z f = narrowed (arrayed_l n) (p.node - 1 - 1) opening (is-array (inp_of p) p.node n (λ i. z (e ∙ i)) f) (omega arith)

  pub array-value-part : {k : ℕ} → k ≡ kind_of p → k ≡ 16 → Part value_l (one array_l) p p
  array-value-part e h = opened value_l (one array_l) p (is-array-value (inp_of p) p.node (sym e ∙ h))

  pub table-value-part : {k : ℕ} → k ≡ kind_of p → k ≡ 14 → Part value_l (one table_l) p p
  table-value-part e h = opened value_l (one table_l) p (is-table-value (inp_of p) p.node (sym e ∙ h))

  pub expr-value-part : {k : ℕ} → k ≡ kind_of p → (k ≡ 16 → ⊥) → (k ≡ 14 → ⊥) → Part value_l (one expr_l) p p
  expr-value-part e h i = opened value_l (one expr_l) p (is-expr-value (inp_of p) p.node (λ j. h (e ∙ j)) (λ j. i (e ∙ j)))

  pub declared-part : Part var_l (declared_l p.node) p (down p)
  declared-part = entered var_l (declared_l p.node) p (is-ended (inp_of p) p.node)

  pub var-part : {k : ℕ} → k ≡ kind_of p → k ≡ 8 → Part plain_l (one var_l) p p
  var-part e h = opened plain_l (one var_l) p (is-var (inp_of p) p.node (sym e ∙ h))

  pub bodied-part : {k : ℕ} → k ≡ kind_of p → (k ≡ 8 → ⊥) → Part plain_l (bodied_l p.node) p (down p)
  bodied-part e h = entered plain_l (bodied_l p.node) p (is_body (inp_of p) p.node (λ j. h (e ∙ j)))

  -- ── and behind the `;` ──

  module _ {L : Kind} (q : Writer) {k : ℕ} (e : k ≡ children_of p) where
    pub unset-part : Part L (one (before_l p.node)) p q → k ≡ 0 → Part L (unset_l p.node) p q
    unset-part t z = narrowed (unset_l p.node) q.node t (is-unset (inp_of p) p.node q.node (sym e ∙ z)) (omega arith)

    pub set-part : Part L (one (before_l p.node)) p q → (k ≡ 0 → ⊥) → Part L (set_l p.node) p q
    set-part t z = narrowed (set_l p.node) q.node t (is_set (inp_of p) p.node q.node (λ i. z (e ∙ i))) (omega arith)

    pub return-part : Part L (one (body_l p.node)) p q → k ≡ 0 → Part L (one (word_l return_word)) p q
    return-part t z = narrowed (one (word_l return_word)) q.node t (is-nothing (inp_of p) p.node q.node (sym e ∙ z)) (omega arith)

    pub led-part : Part L (one (body_l p.node)) p q → (k ≡ 0 → ⊥) → Part L (led_l (kind_of p)) p q
    led-part t z = narrowed (led_l (kind_of p)) q.node t (is-led (inp_of p) p.node q.node (λ i. z (e ∙ i))) (omega arith)

  module _ {L : Kind} (q : Writer) {k : ℕ} (t : Part L (one (fixed (lead (kind_of p)))) p q) (e : k ≡ kind_of p) where
    pub word-part : k ≡ 6 → Part L (one (word_l return_word)) p q
    word-part h = narrowed (one (word_l return_word)) q.node t (is-return (inp_of p) p.node q.node (sym e ∙ h)) (omega arith)

    pub done-part : (k ≡ 6 → ⊥) → Writes L p (Ok tt) q
    done-part h = empty (fixed (lead (kind_of p))) t (no_lead (inp_of p) p.node q.node (λ j. h (e ∙ j)))
