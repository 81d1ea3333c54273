-- What reads the items of a list, and the steps between them, however a parser is seen.
use Rattle.std.specs.Prelude.{ℕ, ◌≡◌, refl, List, Some, None, Result, Ok, Err as Stopped}
use Rattle.std.specs.Borrow.{MutBor}
use Rattle.std.proofs.Common.{arith, sym, ap, ◌∙◌}
use Rattle.std.proofs.Math.Path.{subst}
use Rattle.sifc_def.specs.Why.{Why}
use Rattle.sifc_def.specs.State.{Ctx, Void, throw}
use Rattle.sifc_def.specs.Expr.{separator}
use Rattle.sifc_step.specs.declared.walk.Parser.{Parser}
use Rattle.sifc_step.specs.declared.walk.Stop.{Stop}
use Rattle.sifc_step.specs.Abs.{Inp, inp, mem, inp_of, Ready, Does}
use Rattle.sifc_step.specs.Small.{growing, over, Separates, Throws}
use Rattle.sifc_step.proofs.Small.{least}
use Rattle.sifc_step.specs.Items.{beside, Sight, seen, OnlyBuilds, Reads}

-- what passes a token, whatever it gives
pub reads : {post : MutBor Parser → Result (Unit {0}) Stop → MutBor Parser → Type 0} {item : Ctx → Void}
    → ((p q : MutBor Parser) (r : Result (Unit {0}) Stop) → Ready p.now → post p r q → Does 1 item p.now r q.now) → Reads post item
reads f = record { does = λ p q r z x. least (f p q r z x); ahead = λ p q z x. let on = ((f p q (Ok tt) z x).fine z).on in omega (arith, on) }

-- ── over another script and other symbols ──

module _ (s ys : List ℕ) where
  -- after a step that leaves what is read, and one that leaves the nodes' words too
  pub still-read : (p q : Parser) → inp_of q ≡ inp_of p → growing (inp s p.offs.now p.words.now p.lim) ys q ≡ beside s ys q
  still-read p q e = ap (λ (I : Inp). growing (inp s I.offs I.words I.lim) ys q) (sym e)

  pub still-lent : (p q : Parser) → inp_of q ≡ inp_of p → q.head ≡ p.head → q.load ≡ p.load → over s (mem ys p.head.now p.load.now) p q ≡ beside s ys q
  still-lent p q e a b =
      ap (λ (x : MutBor (List ℕ)). over s (mem ys x.now p.load.now) p q) (sym a)
      ∙ ap (λ (x : MutBor (List ℕ)). over s (mem ys q.head.now x.now) p q) (sym b)
      ∙ still-read p q e

  separates-beside : {p q : Parser} {r : Result (Unit {0}) Stop} → Separates p r q → Does 0 (λ c. separator c) (beside s ys p) r (beside s ys q)
  separates-beside {p} {q} {r} d =
      subst (λ (x : Parser). Does 0 (λ c. separator c) (beside s ys p) r x) (still-lent p q (ap inp_of d.alone) (ap (λ (x : Parser). x.head) d.alone) (ap (λ (x : Parser). x.load) d.alone))
      (d.whatever s (mem ys p.head.now p.load.now))

  throws-beside : {p q : Parser} {why : Why} {stop : Stop} → Throws p why stop q → Does {A = ℕ} 0 (λ c. throw c why) (beside s ys p) (Stopped stop) (beside s ys q)
  throws-beside {p} {q} {why} {stop} d =
      subst (λ (x : Parser). Does {A = ℕ} 0 (λ c. throw c why) (beside s ys p) (Stopped stop) x) (still-lent p q (ap inp_of d.alone) (ap (λ (x : Parser). x.head) d.alone) (ap (λ (x : Parser). x.load) d.alone))
      (d.whatever s p.offs.now p.words.now (mem ys p.head.now p.load.now)).counts

-- ── however the parser is seen ──

pub separates-seen : (v : Sight) {p q : Parser} {r : Result (Unit {0}) Stop} → Separates p r q → Does 0 (λ c. separator c) (seen v p) r (seen v q)
separates-seen None d = d.does
separates-seen (Some x) d = separates-beside x.0 x.1 d

pub throws-seen : (v : Sight) {p q : Parser} {why : Why} {stop : Stop} → Throws p why stop q → Does {A = ℕ} 0 (λ c. throw c why) (seen v p) (Stopped stop) (seen v q)
throws-seen None d = d.counts
throws-seen (Some x) d = throws-beside x.0 x.1 d

-- ── what is left as it was ──

pub builds-on : (p q z : Parser) → OnlyBuilds p q → OnlyBuilds q z → OnlyBuilds p z
builds-on p q z a b = b ∙ ap (λ (x : Parser). record x { at = z.at; errors = z.errors; head = z.head; load = z.load; nodes = z.nodes }) a

pub separates-builds : {p q : Parser} {r : Result (Unit {0}) Stop} → Separates p r q → OnlyBuilds p q
separates-builds {p} d = subst (λ (x : Parser). OnlyBuilds p x) (sym d.alone) refl

pub throws-builds : {p q : Parser} {why : Why} {stop : Stop} → Throws p why stop q → OnlyBuilds p q
throws-builds {p} d = subst (λ (x : Parser). OnlyBuilds p x) (sym d.alone) refl
