-- How statements with blocks and programs are made of their pieces, from the last to the first.
use Prim.Native.Nat.{ℕ, suc, ◌+◌, ◌-◌, ◌≤◌}
use native.Mathlib.Omega.{arith}
use mathlib.Core.Path.{◌≡◌, refl, sym, ap, ◌∙◌}
use mathlib.Core.List.{List, [], ◌∷◌, ◌++◌, append_assoc}
use lib.ListN.{length}
use Rattle.sifc_lex.proofs.LexTrip.{bytes}
use Rattle.sifc_def.specs.State.{W}
use Rattle.sifc_def.specs.Text.{line}
use Rattle.sifc_def.specs.Typed.{Expr, Stmt, var_none, var_expr, var_array, var_table, func, block, cond, loop, ret, ret_expr, expr_stmt, Stmts, stop, next, counted, Branches, no_branch, elif_of, else_of, many_branches, lp, rp, comma, lbrace, rbrace, fn_word, if_word, elif_word, else_word, for_word, in_word, pr, pr_names, pr_s, pr_ss, pr_bs}
use Rattle.sifc_def.proofs.Canon.Bytes.{texts, printed, items_of_all, printed-more}
use Rattle.sifc_def.proofs.Canon.Words.{decl_words}
use Rattle.sifc_put.specs.Place.{Inp, Carries, Along}
use Rattle.sifc_put.specs.Post.{kind_of, children_of, inp_of, Lang, Kind, Pieces, one, seq, made, token_l, row_l, cat, At}
use Rattle.sifc_put.specs.Bytes.{worded, spaced, bytes_of, spaced-puts, puts-E, puts-N, puts-S, puts-Ss, puts-Bs}
use Rattle.sifc_put.specs.Spans.{SpansNames, SpansS, SpansSs, SpansBs}
use Rattle.sifc_put.specs.declared.write.Writer.{Writer}
use Rattle.sifc_put.proofs.Frame.{Narrow, Part, down, opened, entered, tested}
use Rattle.sifc_text_plain.specs.Kinds.{names_l, pair_l, expression, an_array, a_table, pr_value, SpansValue, unset, set_to, pr_var, SpansVar, Plain, variable, returned, return_of, evaluated, pr_plain, SpansPlain, plain_l}
use Rattle.sifc_text_stmt.specs.Kinds.{stmt_l, stmts_l, pr_block, block_l, guarded_l, Branch, elif, els, pr_branch, SpansBranch, branch_l, branches_l, line_l, program_l}
use Rattle.sifc_text_plain.proofs.Forms.{word_l, names-bytes, kind_at, kids_at, Root, root-of, names-along, plain-root, plain-kind}

-- ── statements and branches as lists ──

-- statements as a list
unfoldable pub stmt_list : Stmts → List Stmt
stmt_list stop = []
stmt_list (next t ts) = t ∷ stmt_list ts

-- so many
pub stmts-count : (ts : Stmts) → length (stmt_list ts) ≡ counted ts
unfolding stmt_list counted
stmts-count stop = refl
stmts-count (next t ts) = ap suc (stmts-count ts)

-- with the same bytes
pub stmts-bytes : (ts : Stmts) → bytes_of (pr_ss ts) ≡ cat (λ (t : Stmt). bytes_of (pr_s t)) (stmt_list ts)
unfolding stmt_list pr_ss cat spaced
stmts-bytes stop = refl
stmts-bytes (next t ts) = spaced-puts (puts-S t) (pr_ss ts []) ∙ ap (λ (b : List ℕ). bytes_of (pr_s t) ++ b) (stmts-bytes ts)

-- branches as a list
unfoldable pub branch_list : Branches → List Branch
branch_list no_branch = []
branch_list (elif_of e ss bs) = elif e ss ∷ branch_list bs
branch_list (else_of ss bs) = els ss ∷ branch_list bs

-- so many
pub branches-count : (bs : Branches) → length (branch_list bs) ≡ many_branches bs
unfolding branch_list many_branches
branches-count no_branch = refl
branches-count (elif_of e ss bs) = ap suc (branches-count bs)
branches-count (else_of ss bs) = ap suc (branches-count bs)

-- with the same bytes
pub branches-bytes : (bs : Branches) → bytes_of (pr_bs bs) ≡ cat (λ (x : Branch). bytes_of (pr_branch x)) (branch_list bs)
unfolding branch_list pr_branch pr_bs cat spaced
branches-bytes no_branch = refl
branches-bytes (elif_of e ss bs) = spaced-puts (puts-Bs (elif_of e ss no_branch)) (pr_bs bs []) ∙ ap (λ (b : List ℕ). bytes_of (pr_branch (elif e ss)) ++ b) (branches-bytes bs)
branches-bytes (else_of ss bs) = spaced-puts (puts-Bs (else_of ss no_branch)) (pr_bs bs []) ∙ ap (λ (b : List ℕ). bytes_of (pr_branch (els ss)) ++ b) (branches-bytes bs)

-- the bytes of the line of each declaration
abbrev pub line_bytes : Stmt → List ℕ
line_bytes t = line (texts (pr_s t []))

-- A program is the lines of its declarations.
pub lines-bytes : (ts : Stmts) → printed (decl_words ts) ≡ cat line_bytes (stmt_list ts)
unfolding decl_words stmt_list cat
lines-bytes stop = unfold printed items_of_all bytes in refl
lines-bytes (next t ts) = printed-more (pr_s t []) (decl_words ts) ∙ ap (λ (b : List ℕ). line_bytes t ++ b) (lines-bytes ts)

-- The bytes of a block before the rest.
block-bytes : (ss : Stmts) (r : List W) → spaced (pr_block ss r) ≡ bytes_of (pr_block ss) ++ spaced r
unfolding pr_s
block-bytes ss r = spaced-puts (puts-S (block ss)) r

-- An expression, a block, and the rest.
guarded-bytes : (e : Expr) (ss : Stmts) (r : List W) → spaced (pr e (pr_block ss r)) ≡ (bytes_of (pr e) ++ bytes_of (pr_block ss)) ++ spaced r
guarded-bytes e ss r =
    spaced-puts (puts-E e) (pr_block ss r)
    ∙ ap (λ (b : List ℕ). bytes_of (pr e) ++ b) (block-bytes ss r)
    ∙ sym (append_assoc (bytes_of (pr e)) (bytes_of (pr_block ss)) (spaced r))

-- ── statements by their kind ──

-- a statement, with those that hold no block in one
pub data Shape : Type 0 where
  flat : Plain → Shape
  braced : Stmts → Shape
  branched : Expr → Stmts → Branches → Shape
  looped : W → W → Expr → Stmts → Shape
  named : W → List W → Stmts → Shape

-- the print of one
unfoldable pub pr_shape : Shape → List W → List W
pr_shape (flat p) = pr_plain p
pr_shape (braced ss) = pr_s (block ss)
pr_shape (branched e ss bs) = pr_s (cond e ss bs)
pr_shape (looped x y e ss) = pr_s (loop x y e ss)
pr_shape (named x ns ss) = pr_s (func x ns ss)

-- where one stands
unfoldable pub SpansShape : Inp → Shape → ℕ → ℕ → Type 0
SpansShape I (flat p) lo hi = SpansPlain I p lo hi
SpansShape I (braced ss) lo hi = SpansS I (block ss) lo hi
SpansShape I (branched e ss bs) lo hi = SpansS I (cond e ss bs) lo hi
SpansShape I (looped x y e ss) lo hi = SpansS I (loop x y e ss) lo hi
SpansShape I (named x ns ss) lo hi = SpansS I (func x ns ss) lo hi

-- statements of a shape
abbrev pub shape_l : Kind
shape_l = λ I. record { T = Shape; S = λ x lo hi. SpansShape I x lo hi; P = λ x. bytes_of (pr_shape x) }

-- ── pieces ──

-- n statements in braces
abbrev pub braced_l : ℕ → Pieces
braced_l n = seq (seq (one (word_l lbrace)) (stmts_l n)) (word_l rbrace)

-- a branch with a condition, and one without
abbrev pub elif_l : Pieces
elif_l = seq (one (word_l elif_word)) guarded_l

abbrev pub else_l : Pieces
else_l = seq (one (word_l else_word)) block_l

-- an `if` with n further branches
abbrev pub if_l : ℕ → Pieces
if_l n = seq (seq (one (word_l if_word)) guarded_l) (branches_l n)

-- a loop: its names, what it goes over and its block
abbrev pub for_l : Pieces
for_l = seq (seq (seq (one (word_l for_word)) pair_l) (word_l in_word)) guarded_l

-- the name and the parameters of a function, which end before h; the function's node is before hi
abbrev pub params_l : ℕ → Kind
params_l hi =
    λ I.
    record {
      T = W × List W;
      S = λ x lo h. Carries I.script I.offs I.words I.loads hi x.0 × SpansNames I x.1 lo h;
      P = λ x. worded fn_word ++ (worded x.0 ++ (worded lp ++ bytes_of (pr_names x.1)));
    }

-- a function: its name and parameters, and its block
abbrev pub fn_l : ℕ → Pieces
fn_l hi = seq (seq (one (params_l hi)) (word_l rp)) block_l

-- n parameters
abbrev pub named_l : ℕ → ℕ → Pieces
named_l hi n = seq (seq (seq (one (word_l fn_word)) (token_l hi)) (word_l lp)) (names_l n)

module _ (I : Inp) where
  -- Statements stand in a row,
  pub stmts-along : (ts : Stmts) (lo hi : ℕ) → SpansSs I ts lo hi → Along (stmt_l I).S (stmt_list ts) lo hi
  unfolding SpansSs Along stmt_list
  stmts-along stop lo hi s = s
  stmts-along (next t ts) lo hi s = record { mid = s.mid; front = s.front; last = stmts-along ts s.mid hi s.last }

  -- and so do branches.
  pub branches-along : (bs : Branches) (lo hi : ℕ) → SpansBs I bs lo hi → Along (branch_l I).S (branch_list bs) lo hi
  unfolding SpansBs SpansBranch Along branch_list
  branches-along no_branch lo hi s = s
  branches-along (elif_of e ss bs) lo hi s = record { mid = s.mid; front = s.front; last = branches-along bs s.mid hi s.last }
  branches-along (else_of ss bs) lo hi s = record { mid = s.mid; front = s.front; last = branches-along bs s.mid hi s.last }

  -- Each statement has one.
  shaped : (hi : ℕ) → Narrow (stmt_l I) (shape_l I) hi hi
  unfolding SpansS SpansShape SpansPlain SpansVar SpansValue pr_s pr_shape pr_plain pr_var pr_value
  shaped hi (var_none x) lo s = record { tree = flat (variable (unset x)); spans = s; text = refl }
  shaped hi (var_expr x e) lo s = record { tree = flat (variable (set_to x (expression e))); spans = s; text = refl }
  shaped hi (var_array x es) lo s = record { tree = flat (variable (set_to x (an_array es))); spans = s; text = refl }
  shaped hi (var_table x is) lo s = record { tree = flat (variable (set_to x (a_table is))); spans = s; text = refl }
  shaped hi (func x ns ss) lo s = record { tree = named x ns ss; spans = s; text = refl }
  shaped hi (block ss) lo s = record { tree = braced ss; spans = s; text = refl }
  shaped hi (cond e ss bs) lo s = record { tree = branched e ss bs; spans = s; text = refl }
  shaped hi (loop x y e ss) lo s = record { tree = looped x y e ss; spans = s; text = refl }
  shaped hi ret lo s = record { tree = flat returned; spans = s; text = refl }
  shaped hi (ret_expr e) lo s = record { tree = flat (return_of e); spans = s; text = refl }
  shaped hi (expr_stmt e) lo s = record { tree = flat (evaluated e); spans = s; text = refl }

  -- A statement is known as one of a kind if its shape is.
  by_shape : {N : Lang} (hi h : ℕ) → Narrow (shape_l I) N hi h → Narrow (stmt_l I) N hi h
  by_shape hi h f t lo s =
      let a = shaped hi t lo s in
      let b = f a.tree lo a.spans in
      record { tree = b.tree; spans = b.spans; text = a.text ∙ b.text }

  -- The last node of a statement can be read,
  pub stmt-root : (t : Stmt) (lo hi : ℕ) → SpansS I t lo hi → Root I hi
  unfolding SpansShape SpansS
  stmt-root t lo hi s = go (shaped hi t lo s).tree (shaped hi t lo s).spans
    where
      go : (x : Shape) → SpansShape I x lo hi → Root I hi
      go (flat p) z = plain-root I p lo hi z
      go (braced ss) z = root-of I z.top
      go (branched e ss bs) z = root-of I z.top
      go (looped x y e ss) z = root-of I z.top
      go (named x ns ss) z = root-of I z.top

  -- and that of a branch.
  pub branch-root : (x : Branch) (lo hi : ℕ) → SpansBranch I x lo hi → Root I hi
  unfolding SpansBranch
  branch-root (elif e ss) lo hi s = root-of I s.top
  branch-root (els ss) lo hi s = root-of I s.top

  -- ── blocks ──

  -- a statement that is a block
  is_block : (hi : ℕ) → kind_at I hi ≡ 2 → Narrow (stmt_l I) (block_l I) hi hi
  unfolding SpansShape pr_shape SpansS pr_s
  is_block hi k = by_shape hi hi go
    where
      go : Narrow (shape_l I) (block_l I) hi hi
      go (flat p) lo s = absurd (omega (arith, (plain-kind I p lo hi s).0, k))
      go (braced ss) lo s = record { tree = ss; spans = s; text = refl }
      go (branched e ss bs) lo s = absurd (omega (arith, s.top.kinded, k))
      go (looped x y e ss) lo s = absurd (omega (arith, s.top.kinded, k))
      go (named x ns ss) lo s = absurd (omega (arith, s.top.kinded, k))

  -- a block, by the count of its statements
  is-braced : (hi n : ℕ) → n ≡ kids_at I hi → Narrow (block_l I) (made (braced_l n) I) hi (hi - 1)
  unfolding spaced
  is-braced hi n k ss lo s =
      record {
        tree = ((tt, stmt_list ss), tt);
        spans = record { mid = hi - 1; front = record { mid = lo; front = refl; last = (stmts-along ss lo (hi - 1) s.below, stmts-count ss ∙ sym s.top.counted ∙ sym k) }; last = refl };
        text = ap (λ (b : List ℕ). worded lbrace ++ b) (spaced-puts (puts-Ss ss) (rbrace ∷ []) ∙ ap (λ (b : List ℕ). b ++ worded rbrace) (stmts-bytes ss));
      }

  -- a statement that is none of the four with blocks
  is_plain : (hi : ℕ) → (kind_at I hi ≡ 2 → ⊥) → (kind_at I hi ≡ 3 → ⊥) → (kind_at I hi ≡ 5 → ⊥) → (kind_at I hi ≡ 9 → ⊥) → Narrow (stmt_l I) (plain_l I) hi hi
  unfolding SpansShape pr_shape SpansS pr_s
  is_plain hi a b c d = by_shape hi hi go
    where
      go : Narrow (shape_l I) (plain_l I) hi hi
      go (flat p) lo s = record { tree = p; spans = s; text = refl }
      go (braced ss) lo s = absurd (a s.top.kinded)
      go (branched e ss bs) lo s = absurd (b s.top.kinded)
      go (looped x y e ss) lo s = absurd (c s.top.kinded)
      go (named x ns ss) lo s = absurd (d s.top.kinded)

  -- ── branches ──

  -- a branch with a condition
  is-elif : (hi : ℕ) → kind_at I hi ≡ 4 → Narrow (branch_l I) (made elif_l I) hi (hi - 1)
  unfolding SpansBranch pr_branch spaced
  is-elif hi k (elif e ss) lo s =
      record {
        tree = (tt, (e, ss));
        spans = record { mid = lo; front = refl; last = s.below };
        text = ap (λ (b : List ℕ). worded elif_word ++ b) (spaced-puts (puts-E e) (pr_block ss []));
      }
  is-elif hi k (els ss) lo s = absurd (omega (arith, s.top.kinded, k))

  -- one without
  is-else : (hi : ℕ) → (kind_at I hi ≡ 4 → ⊥) → Narrow (branch_l I) (made else_l I) hi hi
  unfolding SpansBranch pr_branch spaced
  is-else hi k (elif e ss) lo s = absurd (k s.top.kinded)
  is-else hi k (els ss) lo s = record { tree = (tt, ss); spans = record { mid = lo; front = refl; last = s }; text = refl }

  -- an `if`, by the count of its further branches
  is-if : (hi n : ℕ) → kind_at I hi ≡ 3 → n + 2 ≡ kids_at I hi → Narrow (stmt_l I) (made (if_l n) I) hi (hi - 1)
  unfolding SpansShape pr_shape SpansS pr_s spaced
  is-if hi n k j = by_shape hi (hi - 1) go
    where
      go : Narrow (shape_l I) (made (if_l n) I) hi (hi - 1)
      go (flat p) lo s = absurd (omega (arith, (plain-kind I p lo hi s).0, k))
      go (braced ss) lo s = absurd (omega (arith, s.top.kinded, k))
      go (branched e ss bs) lo s =
          record {
            tree = ((tt, (e, ss)), branch_list bs);
            spans = record {
              mid = s.below.mid;
              front = record { mid = lo; front = refl; last = s.below.front };
              last = (branches-along bs s.below.mid (hi - 1) s.below.last, omega (arith, branches-count bs, s.top.counted, j));
            };
            text = ap (λ (b : List ℕ). worded if_word ++ b) (guarded-bytes e ss (pr_bs bs []) ∙ ap (λ (b : List ℕ). (bytes_of (pr e) ++ bytes_of (pr_block ss)) ++ b) (branches-bytes bs));
          }
      go (looped x y e ss) lo s = absurd (omega (arith, s.top.kinded, k))
      go (named x ns ss) lo s = absurd (omega (arith, s.top.kinded, k))

  -- an `if` has a condition and a block
  pub two-kids : (t : Stmt) (lo hi : ℕ) → SpansS I t lo hi → kind_at I hi ≡ 3 → 2 ≤ kids_at I hi
  unfolding SpansShape SpansS
  two-kids t lo hi s k = go (shaped hi t lo s).tree (shaped hi t lo s).spans
    where
      go : (x : Shape) → SpansShape I x lo hi → 2 ≤ kids_at I hi
      go (flat p) z = absurd (omega (arith, (plain-kind I p lo hi z).0, k))
      go (braced ss) z = absurd (omega (arith, z.top.kinded, k))
      go (branched e ss bs) z = omega (arith, z.top.counted)
      go (looped x y e ss) z = absurd (omega (arith, z.top.kinded, k))
      go (named x ns ss) z = absurd (omega (arith, z.top.kinded, k))

  -- ── loops ──

  -- a loop: its names, what it goes over and its block
  is-for : (hi : ℕ) → kind_at I hi ≡ 5 → Narrow (stmt_l I) (made for_l I) hi (hi - 1)
  unfolding SpansShape pr_shape SpansS pr_s spaced
  is-for hi k = by_shape hi (hi - 1) go
    where
      go : Narrow (shape_l I) (made for_l I) hi (hi - 1)
      go (flat p) lo s = absurd (omega (arith, (plain-kind I p lo hi s).0, k))
      go (braced ss) lo s = absurd (omega (arith, s.top.kinded, k))
      go (branched e ss bs) lo s = absurd (omega (arith, s.top.kinded, k))
      go (looped x y e ss) lo s =
          record {
            tree = (((tt, (x, y)), tt), (e, ss));
            spans = record {
              mid = s.below.front.mid;
              front = record { mid = s.below.front.mid; front = record { mid = lo; front = refl; last = s.below.front.front }; last = refl };
              last = record { mid = s.below.mid; front = s.below.front.last; last = s.below.last };
            };
            text =
                ap (λ (b : List ℕ). worded for_word ++ (worded x ++ (worded comma ++ (worded y ++ (worded in_word ++ b))))) (spaced-puts (puts-E e) (pr_block ss []))
                ∙ ap (λ (b : List ℕ). worded for_word ++ b)
                (sym (append_assoc (worded x ++ (worded comma ++ worded y)) (worded in_word) (bytes_of (pr e) ++ bytes_of (pr_block ss)) ∙ append_assoc (worded x) (worded comma ++ worded y) (worded in_word ++ (bytes_of (pr e) ++ bytes_of (pr_block ss)))));
          }
      go (named x ns ss) lo s = absurd (omega (arith, s.top.kinded, k))

  -- ── functions ──

  -- a function: its name and parameters, and its block
  is-fn : (hi : ℕ) → kind_at I hi ≡ 9 → Narrow (stmt_l I) (made (fn_l hi) I) hi (hi - 1)
  unfolding SpansShape pr_shape SpansS pr_s spaced
  is-fn hi k = by_shape hi (hi - 1) go
    where
      go : Narrow (shape_l I) (made (fn_l hi) I) hi (hi - 1)
      go (flat p) lo s = absurd (omega (arith, (plain-kind I p lo hi s).1, k))
      go (braced ss) lo s = absurd (omega (arith, s.top.kinded, k))
      go (branched e ss bs) lo s = absurd (omega (arith, s.top.kinded, k))
      go (looped x y e ss) lo s = absurd (omega (arith, s.top.kinded, k))
      go (named x ns ss) lo s =
          record {
            tree = (((x, ns), tt), ss);
            spans = record { mid = s.below.mid; front = record { mid = s.below.mid; front = (s.token, s.below.front); last = refl }; last = s.below.last };
            text = ap (λ (b : List ℕ). worded fn_word ++ (worded x ++ (worded lp ++ b))) (spaced-puts (puts-N ns) (rp ∷ pr_block ss [])) ∙ simp append_assoc;
          }

  -- the parameters, by their count
  is-params : (hi h n : ℕ) → n ≡ kids_at I h
      → Narrow (params_l hi I) (made (named_l hi n) I) h (h - 1)
  is-params hi h n k x lo s =
      record {
        tree = (((tt, x.0), tt), x.1);
        spans = record {
          mid = lo;
          front = record { mid = lo; front = record { mid = lo; front = refl; last = (refl, s.0) }; last = refl };
          last = (names-along I x.1 lo (h - 1) s.1.below, sym s.1.top.counted ∙ sym k);
        };
        text =
            ap (λ (b : List ℕ). worded fn_word ++ (worded x.0 ++ (worded lp ++ b))) (names-bytes x.1)
            ∙ ap (λ (b : List ℕ). worded fn_word ++ b) (sym (append_assoc (worded x.0) (worded lp) _));
      }

  -- ── programs ──

  -- a program, by the count of its declarations
  is-program : (hi n : ℕ) → n ≡ kids_at I hi → Narrow (program_l I) (row_l line_l n I) hi (hi - 1)
  is-program hi n k ts lo s =
      record { tree = stmt_list ts; spans = (stmts-along ts lo (hi - 1) s.below, stmts-count ts ∙ sym s.top.counted ∙ sym k); text = lines-bytes ts }

-- Where a line is to be written, a statement stands.
pub line-spot : (p : Writer) → At line_l p → At stmt_l p
line-spot p z = record { tree = z.tree; lo = z.lo; spans = z.spans; room = z.room }

-- ── what is left at first ──

module _ (p : Writer) where
  pub block-part : {k : ℕ} → k ≡ kind_of p → k ≡ 2 → Part stmt_l (one block_l) p p
  block-part e h = opened stmt_l (one block_l) p (is_block (inp_of p) p.node (sym e ∙ h))

  pub braced-part : {n : ℕ} → n ≡ children_of p → Part block_l (braced_l n) p (down p)
  braced-part {n} e = entered block_l (braced_l n) p (is-braced (inp_of p) p.node n e)

  pub plain-part : {k : ℕ} → k ≡ kind_of p → (k ≡ 2 → ⊥) → (k ≡ 3 → ⊥) → (k ≡ 5 → ⊥) → (k ≡ 9 → ⊥) → Part stmt_l (one plain_l) p p
  plain-part e a b c d = opened stmt_l (one plain_l) p (is_plain (inp_of p) p.node (λ j. a (e ∙ j)) (λ j. b (e ∙ j)) (λ j. c (e ∙ j)) (λ j. d (e ∙ j)))

  pub elif-part : {k : ℕ} → k ≡ kind_of p → k ≡ 4 → Part branch_l elif_l p (down p)
  elif-part e h = entered branch_l elif_l p (is-elif (inp_of p) p.node (sym e ∙ h))

  pub else-part : {k : ℕ} → k ≡ kind_of p → (k ≡ 4 → ⊥) → Part branch_l else_l p p
  else-part e h = opened branch_l else_l p (is-else (inp_of p) p.node (λ j. h (e ∙ j)))

  pub if-part : {n : ℕ} → At stmt_l p → kind_of p ≡ 3 → n ≡ children_of p → Part stmt_l (if_l (n - 2)) p (down p)
  if-part {n} z h e = entered stmt_l (if_l (n - 2)) p (is-if (inp_of p) p.node (n - 2) h (omega (arith, e, two-kids (inp_of p) z.tree z.lo p.node z.spans h)))

  pub for-part : kind_of p ≡ 5 → Part stmt_l for_l p (down p)
  for-part h = entered stmt_l for_l p (is-for (inp_of p) p.node h)

  pub fn-part : kind_of p ≡ 9 → Part stmt_l (fn_l p.node) p (down p)
  fn-part h = entered stmt_l (fn_l p.node) p (is-fn (inp_of p) p.node h)

  pub lines-part : {n : ℕ} → n ≡ children_of p → Part program_l (one (row_l line_l n)) p (down p)
  lines-part {n} e = entered program_l (one (row_l line_l n)) p (is-program (inp_of p) p.node n e)

-- The parameters of a function are left.
pub named-part : {L : Kind} {p : Writer} (hi : ℕ) (q : Writer) {n : ℕ} → Part L (one (params_l hi)) p q → n ≡ children_of q → Part L (named_l hi n) p (down q)
named-part hi q {n} t e = tested (named_l hi n) (q.node - 1) t (is-params (inp_of q) hi q.node n e) (omega arith)
