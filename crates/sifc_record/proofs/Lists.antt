-- The lists of records that the loop of slice.rs makes.
use mathlib.Core.Path.{◌≡◌, refl, sym, ap, ◌∙◌}
use Prim.Native.Nat.{ℕ, zero, suc, ◌<◌, ◌+◌}
use native.Mathlib.Nat.{le_of_suc-le-suc, not-suc-le-zero}
use native.Mathlib.Numerals.{add-one}
use mathlib.Core.List.{[], ◌∷◌, ◌++◌, List}
use lib.ListN.{length, get_or, take, drop}
use Rattle.sifc_err.specs.declared.Token.{Token}
use Rattle.sifc_err.specs.declared.parse_err.ParseErr.{ParseErr}
use Rattle.sifc_record.specs.Record.{record_of, records_in, blank_from, filled_of}

-- ── the first i records of the words ──

abbrev pub firsts : List Token → List ℕ → List ℕ → ℕ → List ParseErr
firsts ts ps ws i = records_in ts (take i ps) (take i ws)

snoc : (ts : List Token) (i : ℕ) (ps ws : List ℕ) → i < length ps → i < length ws → firsts ts ps ws (suc i) ≡ firsts ts ps ws i ++ (record_of ts (get_or ps i 0) (get_or ws i 0) ∷ [])
unfolding records_in
snoc ts i [] ws l h = absurd (not-suc-le-zero l)
snoc ts i (p ∷ ps) [] l h = absurd (not-suc-le-zero h)
snoc ts zero (p ∷ ps) (w ∷ ws) l h = refl
snoc ts (suc i) (p ∷ ps) (w ∷ ws) l h = ap (λ (r : List ParseErr). record_of ts p w ∷ r) (snoc ts i ps ws (le_of_suc-le-suc l) (le_of_suc-le-suc h))

pub firsts-more : (ts : List Token) (i : ℕ) (ps ws : List ℕ) (r : ParseErr) → i < length ps → i < length ws → r ≡ record_of ts (get_or ps i 0) (get_or ws i 0) → firsts ts ps ws (i + 1) ≡ firsts ts ps ws i ++ (r ∷ [])
firsts-more ts i ps ws r l h e = ap (firsts ts ps ws) (add-one i) ∙ snoc ts i ps ws l h ∙ ap (λ (y : ParseErr). firsts ts ps ws i ++ (y ∷ [])) (sym e)

pub firsts-none : (ts : List Token) (ps ws : List ℕ) → [] ≡ firsts ts ps ws 0
unfolding records_in
firsts-none ts ps ws = refl

pub filled : (ts : List Token) (ps ws : List ℕ) (n from i : ℕ) (rs : List ParseErr) → i ≡ n → blank_from from (firsts ts ps ws i ++ drop i rs) ≡ filled_of ts ps ws n from rs
unfolding filled_of
filled ts ps ws n from i rs e = ap (λ (k : ℕ). blank_from from (firsts ts ps ws k ++ drop k rs)) e
