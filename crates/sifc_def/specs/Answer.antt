-- What the calls answer: the types of the Rust.
use Rattle.std.specs.Prelude.{ℕ, Option, Result}
use Rattle.sifc_err.specs.declared.Refusal.{Refusal}
use Rattle.sifc_err.specs.declared.parse_err.ParseErr.{ParseErr}
use Rattle.sifc_def.specs.declared.Summary.{Summary}

-- the error that ended a reading before its script's end, if one did
abbrev pub Early : Type 0
Early = Option ParseErr

-- a reading's answer: its summary, or why it is refused
abbrev pub Reading : Type 0
Reading = Result Summary Refusal

-- a text call's answer: how many bytes it wrote, or why it is refused
abbrev pub Texting : Type 0
Texting = Result ℕ Refusal
