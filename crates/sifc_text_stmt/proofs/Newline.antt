-- A newline for the last space of a declaration that is written.
use Prim.Native.Nat.{ℕ, ◌-◌, ◌≤◌, ◌<◌}
use native.Mathlib.Omega.{arith}
use mathlib.Core.Path.{◌≡◌, refl, sym, ap, ◌∙◌, subst}
use mathlib.Core.List.{List, [], ◌∷◌, ◌++◌, append_assoc, append-nil}
use lib.ListN.{length, take, drop, set, length-append, length-set}
use lib.Seq.{set_at, length-take-le}
use Rattle.sifc_def.specs.State.{W}
use Rattle.sifc_def.specs.Text.{line}
use Rattle.sifc_def.specs.Typed.{Stmt, var_none, var_expr, var_array, var_table, func, block, cond, loop, ret, ret_expr, expr_stmt, semi, pr_s}
use Rattle.sifc_def.proofs.Canon.Bytes.{texts}
use Rattle.std.specs.Prelude.{Result, Ok, Err, IsErr}
use borrow.Author.Tests.{clash}
use Rattle.sifc_put.specs.declared.write.Full.{Full}
use Rattle.sifc_put.specs.declared.write.Writer.{Writer}
use Rattle.sifc_put.specs.Post.{Placed, At, Writes}
use Rattle.sifc_put.specs.Bytes.{worded, spaced, bytes_of, puts-E}
use Rattle.sifc_text_stmt.specs.Kinds.{stmt_l, line_l}

-- Words with a space after each, and on a line: the same up to the last byte.
record Ended (ws : List W) : Type 0 where
  pub front : List ℕ
  pub spaces : spaced ws ≡ front ++ (32 ∷ [])
  pub lined : line (texts ws) ≡ front ++ (10 ∷ [])

-- There is a last byte, where there is a word.
ended : (w : W) (ws : List W) → Ended (w ∷ ws)
unfolding spaced line texts
ended w [] = record { front = w.text; spaces = append-nil (worded w); lined = refl }
ended w (x ∷ xs) =
    let r = ended x xs in
    record {
      front = worded w ++ r.front;
      spaces = ap (λ (b : List ℕ). worded w ++ b) r.spaces ∙ sym (append_assoc (worded w) r.front (32 ∷ []));
      lined = ap (λ (b : List ℕ). w.text ++ 32 ∷ b) r.lined ∙ simp append_assoc;
    }

-- So it is for some words,
ended_some : (ws : List W) → 0 < length ws → Ended ws
ended_some [] h = absurd (omega (arith, h))
ended_some (w ∷ ws) h = ended w ws

-- Each declaration has a word.
some_word : (t : Stmt) → 0 < length (pr_s t [])
unfolding pr_s
some_word (var_none x) = omega arith
some_word (var_expr x e) = omega arith
some_word (var_array x es) = omega arith
some_word (var_table x is) = omega arith
some_word (func x ns ss) = omega arith
some_word (block ss) = omega arith
some_word (cond e ss bs) = omega arith
some_word (loop x y e ss) = omega arith
some_word ret = omega arith
some_word (ret_expr e) = omega arith
some_word (expr_stmt e) = omega (arith, simp length-append at (ap length ((puts-E e).before (semi ∷ []))))

-- and for those of a declaration.
ended-stmt : (t : Stmt) → Ended (pr_s t [])
ended-stmt t = ended_some (pr_s t []) (some_word t)

-- The last byte of what is placed is another.
relined : (u : List ℕ) {text t : List ℕ} {lo at n a : ℕ} → at ≤ length text → Placed (u ++ (32 ∷ [])) text lo at n a t → Placed (u ++ (10 ∷ [])) text lo at n a (set t (at - 1) 10)
relined u {text} {t} {lo} {at} {n} {a} room p =
    let l = length-append u (32 ∷ []) in
    let m = length-append u (10 ∷ []) in
    let k : length (take a text ++ u) ≡ at - 1 =
    let f = length-append (take a text) u in
    let g = length-take-le a text (omega (arith, p.room)) in
    omega (arith, p.room) in
    record {
      node = p.node;
      room = omega (arith, p.room);
      same =
          ap (λ (q : List ℕ). set q (at - 1) 10) p.same
          ∙ ap (λ (q : List ℕ). set (take a text ++ q) (at - 1) 10) (append_assoc u (32 ∷ []) (drop at text))
          ∙ ap (λ (q : List ℕ). set q (at - 1) 10) (sym (append_assoc (take a text) u (32 ∷ drop at text)))
          ∙ set_at (take a text ++ u) 32 (drop at text) 10 (at - 1) k
          ∙ append_assoc (take a text) u (10 ∷ drop at text)
          ∙ ap (λ (q : List ℕ). take a text ++ q) (sym (append_assoc u (10 ∷ []) (drop at text)));
    }

-- A statement that has no room has none on a line.
pub line-stop : {p q : Writer} {r : Result Unit Full} {f : Full} → Writes stmt_l p (Err f) q → IsErr r → Writes line_l p r q
line-stop {r = Ok u} w e = absurd (clash e)
line-stop {p} {q} {r = Err g} w e =
    record {
      goes = w.goes;
      does = λ s lo z.
          let d = ended-stmt s in
          let h : p.at < length (bytes_of (pr_s s)) = (w.does s lo z).by in
          let l : length (bytes_of (pr_s s)) ≡ length (line (texts (pr_s s []))) =
          ap length d.spaces ∙ length-append d.front (32 ∷ []) ∙ sym (length-append d.front (10 ∷ [])) ∙ sym (ap length d.lined) in
          record { by = omega arith };
    }

-- One that is written, with a newline for its last space, is a line.
pub line-done : {p q : Writer} {u : Unit} → p.at ≤ length p.text.now → Writes stmt_l p (Ok u) q → Writes line_l p (Ok tt) (record q { text = record (q.text) { now = set q.text.now (p.at - 1) 10 } })
line-done {p} {q} room w =
    record {
      goes = record { tree = w.goes.tree; buffer = w.goes.buffer; long = length-set q.text.now (p.at - 1) 10 ∙ w.goes.long; node = w.goes.node; at = w.goes.at };
      does = λ s lo z.
          let d = ended-stmt s in
          let l = subst (λ (b : List ℕ). Placed b p.text.now lo p.at q.node q.at q.text.now) d.spaces (w.does s lo z).by in
          record { by = subst (λ (b : List ℕ). Placed b p.text.now lo p.at q.node q.at (set q.text.now (p.at - 1) 10)) (sym d.lined) (relined d.front room l) };
    }

-- There is a byte before its end.
pub line-room : {p q : Writer} {u : Unit} → At stmt_l p → Writes stmt_l p (Ok u) q → 0 < p.at
line-room z w =
    let d = ended-stmt z.tree in
    let l = ap length d.spaces ∙ length-append d.front (32 ∷ []) in
    omega (arith, (w.does z.tree z.lo z.spans).by.room)
