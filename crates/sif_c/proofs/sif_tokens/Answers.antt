use Prim.Native.Nat.{ℕ}
use native.Mathlib.Omega.{arith}
use mathlib.Core.Path.{ap, ◌∙◌, sym}
use Rattle.sifc_err.specs.declared.Refusal.{Refusal}
use Rattle.std.specs.Prelude.{Result}
use Rattle.sifc_tokens.specs.Tokens.{Answer, answer_of, TokensCall}
use Rattle.sifc_tokens.proofs.TokensLaws.{tokens-small}
use Rattle.sif_c.proofs.Said.{said-count, said-refused}
use Rattle.sif_c.proofs.sif_tokens.Goals as goal

pub overflow_cast-count : goal.overflow_cast-count
overflow_cast-count c =
    let b = tokens-small c.args.script.now c.args.offs.now c.args.words.now in
    let e = ap (λ (x : Answer). x.count) (ap (λ (x : Result ℕ Refusal). answer_of x) (sym c.in-Ok.is) ∙ ap (λ (x : TokensCall). x.answer) c.tokens.ensures) in
    omega arith

pub overflow_cast-offset : goal.overflow_cast-offset
overflow_cast-offset c =
    let b = tokens-small c.args.script.now c.args.offs.now c.args.words.now in
    let e = c.offset.ensures ∙ ap (λ (x : Answer). x.offset) (ap (λ (x : Result ℕ Refusal). answer_of x) (sym c.in-Err.is) ∙ ap (λ (x : TokensCall). x.answer) c.tokens.ensures) in
    omega arith

pub returns-in-Ok : goal.returns-in-Ok
returns-in-Ok c = said-count _ _ _ _ _ c.in-Ok.is c.tokens.ensures

pub returns-in-Err : goal.returns-in-Err
returns-in-Err c = said-refused _ _ _ _ _ _ _ _ c.in-Err.is c.number.ensures c.kind.ensures c.offset.ensures c.tokens.ensures
