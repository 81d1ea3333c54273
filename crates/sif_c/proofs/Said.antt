-- The calls' answers, taken apart into numbers.
use Prim.Native.Nat.{ℕ}
use mathlib.Core.Path.{◌≡◌, sym, ap, ◌∙◌}
use mathlib.Core.List.{List}
use Rattle.sifc_err.specs.declared.Refusal.{Refusal}
use Rattle.sifc_err.specs.Refusal.{number_of, kind_of, offset_of}
use Rattle.std.specs.Prelude.{Result, Ok, Err}
use Rattle.sifc_tokens.specs.Tokens.{answer_of, TokensCall, tokens_called}
use Rattle.sifc_def.specs.Answer.{Reading, Texting}
use Rattle.sifc_def.specs.Read.{Arrays, Called, called, read_numbers, TextNumbers, text_numbers, Written, written}
use Rattle.sifc_told.specs.Hosts.{answer, ReadAnswer, told_of, told, text_told, told_text}

-- A count, as the definition has it.
pub said-count : (r : Result ℕ Refusal) (n : ℕ) (offs words : List ℕ) (c : TokensCall) → r ≡ Ok n → tokens_called (answer_of r) offs words ≡ c → tokens_called (answer n 0 0 0) offs words ≡ c
said-count r n offs words c e h = ap (λ (x : Result ℕ Refusal). tokens_called (answer_of x) offs words) (sym e) ∙ h

-- A refusal, as the definition has it.
pub said-refused : (r : Result ℕ Refusal) (f : Refusal) (number kind offset : ℕ) (offs words : List ℕ) (c : TokensCall)
    → r ≡ Err f → number ≡ number_of f → kind ≡ kind_of f → offset ≡ offset_of f → tokens_called (answer_of r) offs words ≡ c → tokens_called (answer 0 number kind offset) offs words ≡ c
said-refused r f number kind offset offs words c e en ek eo h = rw (en, ek, eo) (ap (λ (x : Result ℕ Refusal). tokens_called (answer_of x) offs words) (sym e) ∙ h)

-- the numbers of an answer, with the arrays that it leaves
pub told-call : (n : ReadAnswer) (r : Reading) (a : Arrays) (c : Called Reading) → n ≡ told_of (read_numbers r) → called r a ≡ c → called n a ≡ told c
unfolding told
told-call n r a c e h = ap (λ (x : ReadAnswer). called x a) e ∙ ap told h

-- the numbers of a text call's answer, with the arrays and the buffer that it leaves
pub text-call : (n : TextNumbers) (r : Texting) (a : Arrays) (t : List ℕ) (w : Written) → n ≡ text_numbers r → written r a t ≡ w → text_told n a t ≡ told_text w
unfolding told_text
text-call n r a t w e h = ap (λ (x : TextNumbers). text_told x a t) e ∙ ap told_text h
