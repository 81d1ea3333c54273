-- What a walk came to, made into the answer.
use Rattle.std.specs.Prelude.{Result, Err, Ok}
use Prim.Native.Nat.{ℕ}
use mathlib.Core.Path.{◌≡◌, sym, ap, ap₂, ◌∙◌, subst}
use mathlib.Core.List.{List}
use mathlib.Core.Bool.{Bool}
use lib.ListN.{take}
use Rattle.sifc_err.specs.declared.Refusal.{Refusal}
use Rattle.sifc_def.specs.Answer.{Early}
use Rattle.sifc_def.specs.declared.Summary.{Summary}
use Rattle.sifc_def.specs.Read.{Arrays, cleared_arrays, called}
use Rattle.sifc_step.specs.declared.walk.Walked.{Walked}
use Rattle.sifc_lent.specs.Parts.{WithinOf, Fits, Settles, summary_of, settled_of, finish_of}

pub told : {n k m : ℕ} {flag : Bool} {e e' : Early} → e ≡ e' → ◌≡◌ {A = Summary} (record { tokens = n; nodes = k; errors = m; flag = flag; early = e }) (record { tokens = n; nodes = k; errors = m; flag = flag; early = e' })
told {n} {k} {m} {flag} e = ap (λ (z : Early). record { tokens = n; nodes = k; errors = m; flag = flag; early = z }) e

module _ (s : List ℕ) (n : ℕ) (a : Arrays) {walked : Result Walked Refusal} where
  -- the token arrays stay as they are, so the answer may be read off them afterwards
  pub finished : {x : Walked} {m : Summary} {b : Arrays} {os ws : List ℕ} → walked ≡ Ok x → b ≡ settled_of s (take n a.offs) x a → os ≡ take n b.offs → ws ≡ take n b.words → m ≡ summary_of s os ws x → called (Ok m) b ≡ finish_of s n walked a
  unfolding finish_of settled_of
  finished {x} {m} {b} {os} {ws} ew ea eo eu em =
      let o : os ≡ take n a.offs = eo ∙ ap (λ (z : Arrays). take n z.offs) ea in
      let w : ws ≡ take n a.words = eu ∙ ap (λ (z : Arrays). take n z.words) ea in
      ap₂ (λ (z : Summary) (c : Arrays). called (Ok z) c) (em ∙ ap₂ (λ (u v : List ℕ). summary_of s u v x) o w) ea ∙ ap (λ (z : Result Walked Refusal). finish_of s n z a) (sym ew)

  pub refused : {f : Refusal} {b : Arrays} → walked ≡ Err f → b ≡ cleared_arrays a → called (Err f) b ≡ finish_of s n walked a
  unfolding finish_of
  refused {f} ew ea = ap (called (Err f)) ea ∙ ap (λ (z : Result Walked Refusal). finish_of s n z a) (sym ew)

  pub settles : {x : Walked} → Fits s a n walked → walked ≡ Ok x → Settles s a n x
  settles d e = record { short = d.short; offs = d.offs.fits; within = subst (λ (z : Result Walked Refusal). WithinOf a z) e d.within }
