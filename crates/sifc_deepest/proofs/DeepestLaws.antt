-- The call by its tests, and the bytes that a success leaves in the buffer.
use Rattle.std.specs.Prelude.{ℕ, suc, ◌+◌, ◌-◌, ◌≤◌, ◌<◌, false, List, ◌++◌, ◌≡◌, refl, eqb, ltb, length, get_or, set, take, drop, replicate, Option, Some, None}
use Rattle.std.proofs.Common.{append-nil, sym, ap, ap₂, ◌∙◌, arith, length-append, take_all, get_or-append-add, lt-ltb, le-ltb, eq-eqb, ne_eqb, ltb-true, ltb-false}
use Rattle.std.proofs.lemmas.List.{length-replicate, get_or-replicate}
use Rattle.std.proofs.Math.ListN.{get_or-append}
use Rattle.std.proofs.Math.Seq.{drop-length, paste, paste-zero, paste-suc}
use Rattle.sifc_word.specs.Base.{if◌then◌otherwise◌}
use Rattle.sifc_tokens.specs.Tokens.{padded}
use Rattle.sifc_def.proofs.OutcomeLaws.{by-test}
use Rattle.sifc_deepest.specs.Deepest.{opening, longest, depth_of, openings, DeepestCall, deepest_called, deepest_call, deepest_answer, deepest_numbers, deepest_told, told_deepest}

-- ── the tests of entry ──

-- a length of 0
pub call-zero : (n : ℕ) (b : List ℕ) → n ≡ 0 → deepest_call n b ≡ deepest_called None b
unfolding deepest_call if◌then◌otherwise◌
call-zero n b e = rw (eq-eqb n 0 e)

-- a length over 255
pub call_long : (n : ℕ) (b : List ℕ) → longest < n → deepest_call n b ≡ deepest_called None b
unfolding deepest_call if◌then◌otherwise◌
call_long n b h = let some : eqb n 0 ≡ false = ne_eqb n 0 (λ e. omega arith) in rw (some, lt-ltb longest n h)

-- a buffer shorter than the length
pub call-small : (n : ℕ) (b : List ℕ) → length b < n → deepest_call n b ≡ deepest_called None b
unfolding deepest_call
call-small n b h =
    by-test (eqb n 0) _ _ (λ (x : DeepestCall). x ≡ deepest_called None b) (λ e. refl)
    (λ e. by-test (ltb longest n) _ _ (λ (x : DeepestCall). x ≡ deepest_called None b) (λ f. refl) (λ f. rw (lt-ltb (length b) n h)))

-- else the script and its depth
pub call-given : (n : ℕ) (b : List ℕ) → 0 < n → n ≤ longest → n ≤ length b → deepest_call n b ≡ deepest_called (Some (depth_of n)) (padded (openings n) (length b))
unfolding deepest_call if◌then◌otherwise◌
call-given n b some short room =
    let one : eqb n 0 ≡ false = ne_eqb n 0 (λ e. omega arith) in
    rw (one, le-ltb longest n short, le-ltb (length b) n room)

-- ── the bytes ──

-- the buffer keeps its length
pub length-filled : (n m : ℕ) → n ≤ m → length (padded (openings n) m) ≡ m
unfolding padded
length-filled n m h =
    let front = length-replicate n opening in
    let rest = length-replicate {A = ℕ} (m - length (openings n)) 0 in
    omega (arith, length-append (openings n) (replicate (m - length (openings n)) 0))

-- the byte at an index of the buffer after a success: `(` as far as n, then 0
pub byte_at : ℕ → ℕ → ℕ
unfolding if◌then◌otherwise◌
byte_at n i = if ltb i n then opening otherwise 0

-- the buffer has byte_at at each index
pub filled_at : (n m i : ℕ) → n ≤ m → i < m → get_or (padded (openings n) m) i 0 ≡ byte_at n i
unfolding padded byte_at
filled_at n m i h l =
    by-test (ltb i n) opening 0 (λ (x : ℕ). get_or (padded (openings n) m) i 0 ≡ x)
    (λ e. front (ltb-true i n e)) (λ e. rest (ltb-false i n e))
  where
    long : length (openings n) ≡ n
    long = length-replicate n opening

    front : i < n → get_or (padded (openings n) m) i 0 ≡ opening
    front k = get_or-append (openings n) _ 0 i (omega (arith, long)) ∙ get_or-replicate n i opening 0 k

    rest : n ≤ i → get_or (padded (openings n) m) i 0 ≡ 0
    rest k =
        let at : i ≡ length (openings n) + (i - n) = omega (arith, long) in
        ap (λ (z : ℕ). get_or (padded (openings n) m) z 0) at ∙ get_or-append-add (openings n) (replicate (m - length (openings n)) 0) (i - n) 0 ∙ get_or-replicate (m - length (openings n)) (i - n) 0 0 (omega (arith, long))

-- ── byte by byte: as far as i the buffer has the bytes of a success, from there on what it had ──

abbrev pub filled : ℕ → List ℕ → ℕ → List ℕ
filled n b i = paste b 0 (padded (openings n) (length b)) i

pub filled_none : (n : ℕ) (b : List ℕ) → b ≡ filled n b 0
filled_none n b = paste-zero b 0 (padded (openings n) (length b))

pub filled_more : (n : ℕ) (b s : List ℕ) (i v : ℕ) → n ≤ length b → i < length b → s ≡ filled n b i → v ≡ byte_at n i → set s i v ≡ filled n b (i + 1)
filled_more n b s i v h l e k =
    let full : List ℕ = padded (openings n) (length b) in
    let at : i ≡ 0 + i = omega arith in
    let one : suc i ≡ i + 1 = omega arith in
    ap₂ (λ (x : List ℕ) (y : ℕ). set x i y) e (k ∙ sym (filled_at n (length b) i h l)) ∙ ap (λ (j : ℕ). set (filled n b i) j (get_or full i 0)) at
    ∙ paste-suc b 0 full i 0 (omega arith) (omega (arith, length-filled n (length b) h)) ∙ ap (filled n b) one

pub filled-all : (n : ℕ) (b : List ℕ) (i : ℕ) → n ≤ length b → i ≡ length b → filled n b i ≡ padded (openings n) (length b)
filled-all n b i h e =
    let full : List ℕ = padded (openings n) (length b) in
    let whole : take (length b) full ≡ full = take_all (length b) full (omega (arith, length-filled n (length b) h)) in
    let at : 0 + length b ≡ length b = omega arith in
    ap (filled n b) e ∙ ap (λ (x : List ℕ). x ++ drop (0 + length b) b) whole ∙ ap (λ (j : ℕ). full ++ drop j b) at ∙ ap (λ (x : List ℕ). full ++ x) (drop-length b) ∙ append-nil full

-- ── the answer in numbers ──

-- A depth, as the definition has it.
pub told-depth : (x : Option ℕ) (d : ℕ) (b : List ℕ) (c : DeepestCall) → x ≡ Some d → deepest_called x b ≡ c → deepest_told (deepest_answer d 0) b ≡ told_deepest c
unfolding told_deepest
told-depth x d b c e h = ap (λ (y : Option ℕ). deepest_told (deepest_numbers y) b) (sym e) ∙ ap told_deepest h

-- A refusal, as the definition has it.
pub told_none : (x : Option ℕ) (b : List ℕ) (c : DeepestCall) → x ≡ None → deepest_called x b ≡ c → deepest_told (deepest_answer 0 20) b ≡ told_deepest c
unfolding told_deepest
told_none x b c e h = ap (λ (y : Option ℕ). deepest_told (deepest_numbers y) b) (sym e) ∙ ap told_deepest h
