-- What it means that a call keeps a promise.
use seplogic.Ra.Ura.{Ura}
use mir.Syntax.{Callee}
use prog.Model.{Model}
use prog.Wired.{Code, Wired}
use types.Logic.{Logic}
use contract.Running.{Running}
use contract.Lifetimes.{Lfts}
use contract.Notation.{connectives}
use denote.Triple.Entry.{Args, Res}
use denote.Triple.Clauses.{Ended, AtExit}
use denote.Triple.Spec.{Meets, exits}

-- A fact of a call's arguments as they are handed over, its answer, and its arguments as they are at exit.
abbrev pub Fact : Ended → Type 1
Fact T = (κs : Lfts T.signature.lifetimes) → Args T.signature κs → Res T.signature κs → AtExit T κs → Type 0

-- What the name means wherever it means this code, and so does all that the code calls, run with any arguments whatever, is safe, ends, and then the fact holds: a
-- contract that requires nothing and ensures the fact.
abbrev pub Promised : Type 1 → (T : Ended) → Code → Callee → Fact T → Type 2
Promised M T code name P =
    (𝓤 : Ura M) → (𝓛 : Logic 𝓤) → (𝓜 : Model 𝓤 𝓛.H) → (𝓡 : Running 𝓤 𝓛.H 𝓜) → Wired 𝓡.env code
    → Meets 𝓛 T.signature (𝓡.run (𝓡.env name)) (λ κs args. record {
      ghost = Unit {0};
      requires = λ g. (connectives 𝓤).⊤ₛ;
      ensures = λ g r. exits 𝓛 T.signature T.kept κs args (λ end. (connectives 𝓤).⌜◌⌝ (P κs args r end));
    })
