-- What holds of an outcome: P where it is done, Q where it has failed; a refusal is always allowed. The steps of a proof about a `do` block.
use Rattle.std.specs.Prelude.{Bool, ◌≡◌}
use Rattle.std.proofs.Math.Bool.{true, false}
use Rattle.std.proofs.Math.Path.{refl}
use Rattle.sifc_err.specs.declared.Refusal.{Refusal}
use Rattle.sifc_word.specs.Base.{if◌then◌otherwise◌}
use Rattle.sifc_def.specs.declared.Err.{Err}
use Rattle.sifc_def.specs.State.{St, Out, done, fail, refuse, M, go_on}

abbrev HoldsOf : {A : Type 0} → Out A → (A → St → Type 0) → (St → Type 0) → Type 0
HoldsOf (done a s) P Q = P a s
HoldsOf (fail e s) P Q = Q s
HoldsOf (refuse r) P Q = Unit {0}

pub record Holds {A : Type 0} (o : Out A) (P : A → St → Type 0) (Q : St → Type 0) : Type 0 where
  pub holds : HoldsOf o P Q

-- a value by its test
pub by-test : {A : Type 0} (b : Bool) (x y : A) (X : A → Type 0) → (b ≡ true → X x) → (b ≡ false → X y) → X (if b then x otherwise y)
unfolding if◌then◌otherwise◌
by-test true x y X f g = f refl
by-test false x y X f g = g refl

module _ {A : Type 0} {P : A → St → Type 0} {Q : St → Type 0} where
  pub is-done : {a : A} {s : St} → P a s → Holds (done a s) P Q
  is-done p = record { holds = p }

  pub is-fail : {e : Err} {s : St} → Q s → Holds (fail e s) P Q
  is-fail q = record { holds = q }

  pub is-refused : {r : Refusal} → Holds (refuse r) P Q
  is-refused = record { holds = tt }

  -- a branch
  pub branch : (b : Bool) (m k : M A) (s : St) → (b ≡ true → Holds (m s) P Q) → (b ≡ false → Holds (k s) P Q) → Holds (if◌then◌otherwise◌ {A = M A} b m k s) P Q
  unfolding if◌then◌otherwise◌
  branch true m k s f g = f refl
  branch false m k s f g = g refl

  -- a call and what comes after it
  pub call : {B : Type 0} {P₁ : B → St → Type 0} {Q₁ : St → Type 0} {o : Out B} {f : B → M A} → Holds o P₁ Q₁ → ((s : St) → Q₁ s → Q s) → ((a : B) (s : St) → P₁ a s → Holds (f a s) P Q) → Holds (go_on o f) P Q
  unfolding go_on
  call {o = done a s} h q p = p a s h.holds
  call {o = fail e s} h q p = record { holds = q s h.holds }
  call {o = refuse r} h q p = record { holds = tt }

  -- a block inside a block
  pub inner : {B C : Type 0} (o : Out B) (g : B → M C) (f : C → M A) → Holds (go_on o (λ b s. go_on (g b s) f)) P Q → Holds (go_on (go_on o g) f) P Q
  unfolding go_on
  inner (done b s) g f h = h
  inner (fail e s) g f h = h
  inner (refuse r) g f h = h

  -- the last call
  pub last : {P₁ : A → St → Type 0} {Q₁ : St → Type 0} {o : Out A} → Holds o P₁ Q₁ → ((s : St) → Q₁ s → Q s) → ((a : A) (s : St) → P₁ a s → P a s) → Holds o P Q
  last {o = done a s} h q p = record { holds = p a s h.holds }
  last {o = fail e s} h q p = record { holds = q s h.holds }
  last {o = refuse r} h q p = record { holds = tt }

-- what follows may be exchanged for what is equal wherever the call can end
pub go-on-same : {A B : Type 0} {P : A → St → Type 0} {Q : St → Type 0} {o : Out A} {f g : A → M B} → Holds o P Q → ((a : A) (s : St) → P a s → f a s ≡ g a s) → go_on o f ≡ go_on o g
unfolding go_on
go-on-same {o = done a s} h e = e a s h.holds
go-on-same {o = fail x s} h e = refl
go-on-same {o = refuse r} h e = refl

-- and so may a branch
pub branch_same : {A : Type 0} (b : Bool) (m k m' k' : M A) (s : St) → (b ≡ true → m s ≡ m' s) → (b ≡ false → k s ≡ k' s) → if◌then◌otherwise◌ {A = M A} b m k s ≡ if◌then◌otherwise◌ {A = M A} b m' k' s
unfolding if◌then◌otherwise◌
branch_same true m k m' k' s f g = f refl
branch_same false m k m' k' s f g = g refl
