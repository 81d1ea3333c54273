-- The end of a block, of any parser: its own, and the same with other symbols.
use Rattle.std.specs.Prelude.{ℕ, ◌+◌, ◌%◌, ◌≤◌, ◌<◌, ◌≡◌, refl, List, Bool, true, false, ◌&&◌, eqb, ltb, Result, Ok, Err as Stopped, IsErr, IsErrAnd, IfOk}
use Rattle.std.proofs.Common.{add-one, arith, sym, ap, ◌∙◌}
use Rattle.std.proofs.Math.Path.{subst}
use Rattle.sifc_err.specs.declared.Refusal.{Refusal}
use Rattle.sifc_def.specs.State.{St, expect, push}
use Rattle.sifc_def.specs.Symbols.{close_scope}
use Rattle.sifc_def.specs.Stmt.{with_return}
use Rattle.sifc_step.specs.declared.walk.Parser.{Parser}
use Rattle.sifc_step.specs.declared.walk.Stop.{Stop}
use Rattle.sifc_step.specs.declared.walk.Stop.TheVariants.{Refused}
use Rattle.sifc_step.specs.declared.walk.Target.{Target}
use Rattle.sifc_step.specs.Abs.{Inp, inp_of, mem, kind_in, flag_in, kids_in, Ready, Does, StandsAt, Paired, lifted}
use Rattle.sifc_step.specs.Small.{OnlyMoves, growing, Expects, Pushes, HeadWord, node_of, newest, ClosesScope}
use Rattle.sifc_step.proofs.Steps.{begin, by, fin, go, stop, refused, last, read, aimed, yes, no, kept-same, kept-on}
use Rattle.sifc_step.proofs.Small.{conveyed, handed, given, least, pushed-as, unscoped}
use Rattle.sifc_block.specs.Bound.{end_block, Amid, Returns, EndsBlock}
use Rattle.sifc_block.proofs.Blocks.{body_is}

-- ── what a parser with some symbols is ready for ──

-- one that is ready has them
pub amid : {p : Parser} → Ready p → Amid p
amid {p} r = record { symbols = p.symbols.now; ready = r }

pub amid-stands : {p : Parser} → Amid p → StandsAt p
amid-stands a = record { toks = a.ready.stands.toks; here = a.ready.stands.here; calm = a.ready.stands.calm }

amid-paired : {p : Parser} → Amid p → Paired p
amid-paired a = (a.ready.even, a.ready.used)

-- with a token passed and at another level
pub outside-paired : {p q x : Parser} → Amid p → OnlyMoves p q → ClosesScope q x → Paired x
outside-paired {p} {q} {x} a m l = subst Paired (sym l.alone) (subst Paired (sym m) (amid-paired a))

-- the level is a word
pub level-small : {p q : Parser} → Amid p → OnlyMoves p q → q.level < 65536
level-small {p} {q} a m = omega (arith, ap (λ (y : Parser). y.level) m, a.ready.level, a.ready.stands.here, a.ready.stands.toks.few)

-- ── the inserted return statement ──

module _ {p : Parser} (body : Bool) (n : ℕ) where
  no-body : body ≡ false → Does 0 (λ c. with_return c body n) p (Ok n) p
  unfolding with_return
  no-body e = given (kept-same p) (λ r. fin (λ c. with_return c body n) (body_is false body n (begin 0 (λ c. with_return c body n) r) e))

  module _ (e : body ≡ true) (t : Target) (top : node_of t ≡ newest p) {b : Bool} (test : b ≡ ltb 0 n && eqb (t.head % 32) 6) where
    there : b ≡ true → Does 0 (λ c. with_return c body n) p (Ok n) p
    unfolding with_return
    there z = given (kept-same p) (λ r. fin (λ c. with_return c body n) (yes _ _ (aimed t _ (body_is true body n (begin 0 (λ c. with_return c body n) r) e) top) (sym test ∙ z)))

    module _ (z : b ≡ false) where
      no-room : {q : Parser} {g : Refusal} → Does 0 (λ c. push c 6 false 0 0) p (Stopped (Refused g)) q → Does 0 (λ c. with_return c body n) p (Stopped (Refused g)) q
      unfolding with_return
      no-room d = given d.kept (λ r. refused (λ c. push c 6 false 0 0) _ (λ c. with_return c body n) (no _ _ (aimed t _ (body_is true body n (begin 0 (λ c. with_return c body n) r) e) top) (sym test ∙ z)) d refl)

      inserted : {q : Parser} → Does 0 (λ c. push c 6 false 0 0) p (Ok tt) q → Does 0 (λ c. with_return c body n) p (Ok (n + 1)) q
      unfolding with_return
      inserted d = given d.kept (λ r. fin (λ c. with_return c body n) (by (go (λ c. push c 6 false 0 0) _ (no _ _ (aimed t _ (body_is true body n (begin 0 (λ c. with_return c body n) r) e) top) (sym test ∙ z)) d) (λ s. rw (add-one n) refl)))

few_none : (g : Refusal) (n : ℕ) (x : Result ℕ Refusal) → IsErr x × IsErrAnd x (λ h. h ≡ g) → IfOk x (λ m. m ≤ n)
few_none g n (Ok a) h = absurd h.1
few_none g n (Stopped s) h = tt

module _ {p : Parser} (body : Bool) (n : ℕ) where
  pub return-not : body ≡ false → Returns p body n (Ok n) p
  return-not e = record { does = no-body body n e; few = omega arith; holds = λ h. h; alone = refl; whatever = λ I ys. no-body {p = growing I ys p} body n e }

  module _ (e : body ≡ true) (t : Target) (top : node_of t ≡ newest p) {b : Bool} (test : b ≡ ltb 0 n && eqb (t.head % 32) 6) where
    pub return-there : b ≡ true → Returns p body n (Ok n) p
    return-there z = record { does = there body n e t top test z; few = omega arith; holds = λ h. h; alone = refl; whatever = λ I ys. there {p = growing I ys p} body n e t top test z }

    module _ (z : b ≡ false) where
      pub return-stops : {q : Parser} {g : Refusal} (x : Result ℕ Refusal) → Pushes p 6 0 (Stopped g) q → IsErr x × IsErrAnd x (λ h. h ≡ g) → Returns p body n x q
      return-stops x d h = record {
        does = handed x (no-room body n e t top test z d.does) h;
        few = few_none _ (n + 1) x h;
        holds = d.holds;
        alone = ap (λ (y : Parser). y.symbols) d.alone;
        whatever = λ I ys. handed x (no-room {p = growing I ys p} body n e t top test z (d.whatever I ys)) h;
      }

      pub return-made : {q : Parser} → Pushes p 6 0 (Ok tt) q → Returns p body n (Ok (n + 1)) q
      return-made d = record {
        does = inserted body n e t top test z d.does;
        few = omega arith;
        holds = d.holds;
        alone = ap (λ (y : Parser). y.symbols) d.alone;
        whatever = λ I ys. inserted {p = growing I ys p} body n e t top test z (d.whatever I ys);
      }

-- ── the end of a block ──

-- what its first two steps do with other symbols
expect-amid : {p q : Parser} {r : Result (Unit {0}) Stop} (ys : List ℕ) → Expects p 4 r q → Does 0 (λ c. expect c 4) (growing (inp_of p) ys p) r (growing (inp_of p) ys q)
expect-amid {p} {q} {r} ys d =
    rw (ap (λ (y : Parser). y.head.now) d.alone, ap (λ (y : Parser). y.load.now) d.alone) (least (d.whatever p.script.now (mem ys p.head.now p.load.now)))

close-amid : {q x : Parser} (I : Inp) (ys : List ℕ) → ClosesScope q x → Does 0 (λ c. close_scope c) (growing I ys q) (Ok tt) (growing I ys x)
close-amid {q} {x} I ys d = subst (λ (y : Parser). Does 0 (λ c. close_scope c) (growing I ys q) (Ok tt) (growing I ys y)) (sym d.alone) (unscoped {p = growing I ys q})

module _ {p : Parser} (body : Bool) (n : ℕ) where
  unclosed : {q : Parser} {s : Stop} → Does 0 (λ c. expect c 4) p (Stopped s) q → Does 0 (λ c. end_block c body n) p (Stopped s) q
  unclosed d = given d.kept (λ r. stop (λ c. expect c 4) _ (λ c. end_block c body n) (begin 0 (λ c. end_block c body n) r) (omega arith) d)

  module _ {q x : Parser} (d : Does 0 (λ c. expect c 4) p (Ok tt) q) (l : Does 0 (λ c. close_scope c) q (Ok tt) x) where
    unreturned : {y : Parser} {g : Refusal} → Does 0 (λ c. with_return c body n) x (Stopped (Refused g)) y → Does 0 (λ c. end_block c body n) p (Stopped (Refused g)) y
    unreturned e = given (kept-on d.kept (kept-on l.kept e.kept)) (λ r.
        let p1 = read (λ (s : St). s.level) _ (go (λ c. expect c 4) _ (begin 0 (λ c. end_block c body n) r) d) (λ E. refl) in
        refused (λ c. with_return c body n) _ (λ c. end_block c body n) (go (λ c. close_scope c) _ p1 l) e refl)

    ended : {y z : Parser} {m w : ℕ} {u : Result (Unit {0}) Stop} → Does 0 (λ c. with_return c body n) x (Ok m) y → HeadWord 2 false m w
        → Does 0 (λ c. push c (kind_in w) (flag_in w) (kids_in w) q.level) y u z → Does 0 (λ c. end_block c body n) p u z
    ended {y} {z} {m} {w} {u} e h g = given (kept-on d.kept (kept-on l.kept (kept-on e.kept g.kept))) (λ r.
        let p1 = read (λ (s : St). s.level) _ (go (λ c. expect c 4) _ (begin 0 (λ c. end_block c body n) r) d) (λ E. refl) in
        let p2 = go (λ c. close_scope c) _ p1 l in
        last (λ c. push c 2 false m q.level) (λ c. end_block c body n) (go (λ c. with_return c body n) _ p2 e) (omega arith) (pushed-as q.level h g))

module _ {p : Parser} (body : Bool) (n : ℕ) where
  pub end-unclosed : {q : Parser} {s : Stop} (r : Result (Unit {0}) Stop) → Expects p 4 (Stopped s) q → IsErr r × IsErrAnd r (λ t. t ≡ s) → EndsBlock p body n r q
  end-unclosed r d h = record {
    does = conveyed (unclosed body n (least d.does)) h;
    alone = ap (λ (y : Parser). y.symbols) d.alone;
    whatever = λ ys. conveyed (unclosed body n (expect-amid ys d)) h;
  }

  module _ {q x : Parser} (d : Expects p 4 (Ok tt) q) (l : ClosesScope q x) where
    outside-same : x.symbols ≡ p.symbols
    outside-same = ap (λ (y : Parser). y.symbols) l.alone ∙ ap (λ (y : Parser). y.symbols) d.alone

    pub end-refused : {y : Parser} {g : Refusal} (r : Result (Unit {0}) Stop) → Returns x body n (Stopped g) y → IsErr r × IsErrAnd r (λ t. t ≡ Refused g) → EndsBlock p body n r y
    end-refused r e h = record {
      does = conveyed (unreturned body n (least d.does) l.does e.does) h;
      alone = e.alone ∙ outside-same;
      whatever = λ ys. conveyed (unreturned body n (expect-amid ys d) (close-amid (inp_of p) ys l) (e.whatever (inp_of p) ys)) h;
    }

    module _ {y z : Parser} {m w : ℕ} (e : Returns x body n (Ok m) y) (h : HeadWord 2 false m w) where
      pub end-made : {u : Result (Unit {0}) Refusal} → Pushes y w q.level u z → EndsBlock p body n (lifted u) z
      end-made g = record {
        does = ended body n (least d.does) l.does e.does h g.does;
        alone = ap (λ (v : Parser). v.symbols) g.alone ∙ e.alone ∙ outside-same;
        whatever = λ ys. ended body n (expect-amid ys d) (close-amid (inp_of p) ys l) (e.whatever (inp_of p) ys) h (g.whatever (inp_of p) ys);
      }

      pub end-full : {g : Refusal} (r : Result (Unit {0}) Stop) → Pushes y w q.level (Stopped g) z → IsErr r × IsErrAnd r (λ t. t ≡ Refused g) → EndsBlock p body n r z
      end-full r g k =
          let f = end-made g in
          record { does = conveyed f.does k; alone = f.alone; whatever = λ ys. conveyed (f.whatever ys) k }
