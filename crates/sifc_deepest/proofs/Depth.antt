-- The theorem of ask 14: 3 * n + 3 is the greatest number of counted calls active in a walk over n bytes, flagged ones included, whatever the rooms. The definition
-- has a limit and no counter, so the number is the least limit at which the walk is not refusal 6.
use Rattle.std.specs.Prelude.{ℕ, ◌≤◌, ◌<◌, List, [], ◌∷◌, ◌++◌, map, Bool, true, false, ◌≡◌, refl, eqb, ltb, length, take, replicate, Some, None}
use Rattle.std.proofs.Common.{subst, arith, take_at, ltb-true, ltb-false, le-ltb, eqb-true}
use Rattle.std.proofs.lemmas.List.{length-replicate}
use Rattle.std.proofs.lemmas.Bool.{eqb-false}
use Rattle.sifc_err.specs.declared.Token.{Token}
use Rattle.sifc_err.specs.declared.Refusal.TheVariants.{TokensFull, TooDeep}
use Rattle.sifc_lex.specs.Lex.{lex}
use Rattle.sifc_lex.proofs.LexLaws.{lex-count}
use Rattle.sifc_tokens.specs.Tokens.{padded}
use Rattle.sifc_def.specs.State.{Out, done, fail, refuse}
use Rattle.sifc_def.specs.Walk.{End, walk}
use Rattle.sifc_def.specs.Read.{Rooms, Outcome, refused, ctx_of, depth_limit, ended, read}
use Rattle.sifc_def.proofs.TokLaws.{worth, lexed-toks}
use Rattle.sifc_deepest.specs.Deepest.{opening, longest, depth_of, openings, deepest_called, deepest_call}
use Rattle.sifc_deepest.proofs.DeepestLaws.{call-zero, call_long, call-small, call-given}
use Rattle.sifc_deepest.specs.Signs.{signs}
use Rattle.sifc_deepest.proofs.SignsLaws.{signs-few, lexed-signs}
use Rattle.sifc_deepest.proofs.Shallow.{Shallow, On, walk-shallow}
use Rattle.sifc_deepest.proofs.Reached.{opening-deep}

-- The bound by the bytes that nest: a script with n of them is not refusal 6 at the limit 3 * n + 3, nor at any above.
pub not-deeper-signs : (r : Rooms) (s : List ℕ) (d : ℕ) → depth_of (signs s) ≤ d → walk (ctx_of r s) d ≡ refuse TooDeep → ⊥
not-deeper-signs r s d h e =
    let toks = lexed-toks (ctx_of r s) s refl in
    (subst (Shallow (On (ctx_of r s) (worth (lex s)) toks 0)) e (walk-shallow (ctx_of r s) (worth (lex s)) toks d (omega (arith, lexed-signs s)))).shallow

-- The bound: no script of n bytes is refusal 6 at the limit 3 * n + 3, nor at any above.
pub not-deeper : (r : Rooms) (s : List ℕ) (d : ℕ) → depth_of (length s) ≤ d → walk (ctx_of r s) d ≡ refuse TooDeep → ⊥
not-deeper r s d h = not-deeper-signs r s d (omega (arith, signs-few s))

-- Reached: n opening parentheses are refusal 6 at every limit below.
pub as-deep : (r : Rooms) (n d : ℕ) → 0 < n → d < depth_of n → walk (ctx_of r (openings n)) d ≡ refuse TooDeep
as-deep r n d l h = opening-deep (ctx_of r (openings n)) n refl l d h

-- so many counted calls are active at once in the walk over a script: refusal 6 at every limit below, and at none from there on
pub record Active (r : Rooms) (s : List ℕ) (d : ℕ) : Type 0 where
  pub needed : (e : ℕ) → e < d → walk (ctx_of r s) e ≡ refuse TooDeep
  pub enough : (e : ℕ) → d ≤ e → walk (ctx_of r s) e ≡ refuse TooDeep → ⊥

-- "n opening parentheses are the script to give"
pub openings-active : (r : Rooms) (n : ℕ) → 0 < n → Active r (openings n) (depth_of n)
openings-active r n l = record { needed = λ e h. as-deep r n e l h; enough = λ e h. not-deeper r (openings n) e (omega (arith, length-replicate n opening)) }

-- No more calls are active than the bytes that nest allow: by this the hosts choose a stack.
pub none-deeper-signs : (r : Rooms) (s : List ℕ) (d : ℕ) → Active r s d → d ≤ depth_of (signs s)
none-deeper-signs r s d a = go (ltb (depth_of (signs s)) d) refl
  where
    go : (x : Bool) → ltb (depth_of (signs s)) d ≡ x → d ≤ depth_of (signs s)
    go true e = absurd (not-deeper-signs r s (depth_of (signs s)) (omega arith) (a.needed (depth_of (signs s)) (ltb-true (depth_of (signs s)) d e)))
    go false e = ltb-false (depth_of (signs s)) d e

-- "no script of n bytes goes deeper, flagged ones included"
pub none-deeper : (r : Rooms) (s : List ℕ) (d : ℕ) → Active r s d → d ≤ depth_of (length s)
none-deeper r s d a = omega (arith, none-deeper-signs r s d a, signs-few s)

-- ── the call ──

-- what the answer of a depth means
pub record Given (n : ℕ) (b : List ℕ) (d : ℕ) : Type 0 where
  pub some : 0 < n
  pub short : n ≤ longest
  pub room : n ≤ length b
  pub script : take n (deepest_call n b).script ≡ openings n
  pub active : (r : Rooms) → Active r (take n (deepest_call n b).script) d
  pub greatest : (r : Rooms) (s : List ℕ) (e : ℕ) → length s ≡ n → Active r s e → e ≤ d

-- A depth that the call answers is the greatest for its length, and the bytes that it leaves in front have it.
pub deepest-given : (n : ℕ) (b : List ℕ) (d : ℕ) → (deepest_call n b).answer ≡ Some d → Given n b d
unfolding padded
deepest-given n b d h = go (eqb n 0) refl (ltb longest n) refl (ltb (length b) n) refl
  where
    none : deepest_call n b ≡ deepest_called None b → Given n b d
    none e = let z : ◌≡◌ {A = ℕ} 0 1 = cc in absurd (omega arith)

    go : (x : Bool) → eqb n 0 ≡ x → (y : Bool) → ltb longest n ≡ y → (z : Bool) → ltb (length b) n ≡ z → Given n b d
    go true p y q z t = none (call-zero n b (eqb-true n 0 p))
    go false p true q z t = none (call_long n b (ltb-true longest n q))
    go false p false q true t = none (call-small n b (ltb-true (length b) n t))
    go false p false q false t =
        let some : 0 < n = omega (arith, eqb-false n 0 p) in
        let short : n ≤ longest = ltb-false longest n q in
        let room : n ≤ length b = ltb-false (length b) n t in
        let e = call-given n b some short room in
        let is : d ≡ depth_of n = cc in
        let front : take n (deepest_call n b).script ≡ openings n = rw e (take_at (openings n) _ n (length-replicate n opening)) in
        record {
          some = some;
          short = short;
          room = room;
          script = front;
          active = λ r. rw (front, is) (openings-active r n some);
          greatest = λ r s k l a. omega (arith, none-deeper r s k a);
        }

-- ── refusal 6 of a reading ──

-- With 255 bytes the depth is the limit of refusal 6.
pub at-limit : depth_of longest ≡ depth_limit
at-limit = refl

ended-deep : (ts : List Token) (o : Out End) → ended ts o ≡ refused TooDeep → o ≡ refuse TooDeep
unfolding ended
ended-deep ts (done e s) h = cc
ended-deep ts (fail e s) h = cc
ended-deep ts (refuse r) h = cc

-- So no script of at most 255 bytes is refused for its depth, whatever is lent;
pub short-read : (r : Rooms) (s : List ℕ) → length s ≤ longest → read r s ≡ refused TooDeep → ⊥
unfolding read
short-read r s l h = go (ltb r.tokens (length (lex s))) h
  where
    go : (x : Bool) → (elim x as (λ (y : Bool). Outcome) [ true ↦ refused TokensFull | false ↦ ended (lex s) (walk (ctx_of r s) depth_limit) ]) ≡ refused TooDeep → ⊥
    go true e = let z : ◌≡◌ {A = ℕ} 0 1 = cc in omega arith
    go false e = not-deeper r s depth_limit (omega arith) (ended-deep (lex s) (walk (ctx_of r s) depth_limit) e)

-- and from 256 bytes on there is one that is, where its tokens have room.
pub long-read : (r : Rooms) (n : ℕ) → longest < n → n < r.tokens → read r (openings n) ≡ refused TooDeep
unfolding read ended
long-read r n l h = go (ltb r.tokens (length (lex (openings n)))) (le-ltb r.tokens (length (lex (openings n))) (omega (arith, lex-count (openings n), length-replicate n opening)))
  where
    go : (x : Bool) → x ≡ false → (elim x as (λ (y : Bool). Outcome) [ true ↦ refused TokensFull | false ↦ ended (lex (openings n)) (walk (ctx_of r (openings n)) depth_limit) ]) ≡ refused TooDeep
    go x e = rw (e, as-deep r n depth_limit (omega arith) (omega arith))

-- ── worked cases ──

-- The numbers of ask 14: 1 and 255 bytes, a buffer that is just long enough, and what has no answer.
pub worked : map (λ (n : ℕ). deepest_call n (9 ∷ 9 ∷ 9 ∷ [])) (0 ∷ 1 ∷ 3 ∷ 4 ∷ []) ++ map (λ (n : ℕ). deepest_call n (replicate 256 9)) (255 ∷ 256 ∷ [])
    ≡ deepest_called None (9 ∷ 9 ∷ 9 ∷ [])
    ∷ deepest_called (Some 6) (40 ∷ 0 ∷ 0 ∷ [])
    ∷ deepest_called (Some 12) (40 ∷ 40 ∷ 40 ∷ [])
    ∷ deepest_called None (9 ∷ 9 ∷ 9 ∷ [])
    ∷ deepest_called (Some 768) (replicate 255 40 ++ 0 ∷ [])
    ∷ deepest_called None (replicate 256 9)
    ∷ []
unfolding deepest_call
worked = refl
