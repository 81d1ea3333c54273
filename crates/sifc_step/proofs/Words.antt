-- A node's first word by its number, and what of a walk its token and its nodes alone decide.
use Rattle.std.specs.Prelude.{ℕ, ◌+◌, ◌*◌, ◌/◌, ◌%◌, ◌<◌, ◌≡◌, List, Bool, true, false, length}
use Rattle.std.proofs.Common.{arith, sym, ap, ap₂, ne_eqb, eq-eqb}
use Rattle.std.proofs.Math.Path.{subst}
use Rattle.sifc_step.specs.declared.walk.Parser.{Parser}
use Rattle.sifc_step.specs.Abs.{Walk, rooms_of, mem_of, kind_at, Stands, Kept}
use Rattle.sifc_step.specs.Small.{HeadWord}

-- ── first words ──

-- without a mark
pub word-plain : (k n r : ℕ) {b : Bool} → k < 32 → r ≡ k + 64 * n → b ≡ false → HeadWord k b n r
word-plain k n r {b} lt e eb = rw (e, eb) (record { kind = omega arith; flag = ne_eqb ((k + 64 * n) / 32 % 2) 1 (λ z. let v : ⊥ = omega arith in v); kids = omega arith })

-- with one
pub word-marked : (k n r : ℕ) {b : Bool} → k < 32 → r ≡ k + 64 * n + 32 → b ≡ true → HeadWord k b n r
word-marked k n r {b} lt e eb = rw (e, eb) (record { kind = omega arith; flag = eq-eqb ((k + 64 * n + 32) / 32 % 2) 1 (let v : (k + 64 * n + 32) / 32 % 2 ≡ 1 = omega arith in v); kids = omega arith })

-- ── walks ──

-- a walk stands where one with the same token in front stands
pub stands-as : {os ks : List ℕ} {w x : Walk} → Stands os ks w → x.at ≡ w.at → Stands os ks x
stands-as {os} {ks} st e = record { toks = st.toks; here = subst (λ (i : ℕ). i < length ks) (sym e) st.here; calm = subst (λ (i : ℕ). kind_at ks i ≡ 48 → ⊥) (sym e) st.calm }

-- also one with an error more
pub stands-more : {os ks : List ℕ} {w x : Walk} → Stands os ks w → x ≡ record w { errors = w.errors + 1 } → Stands os ks x
stands-more st e = stands-as st (ap (λ (y : Walk). y.at) e)

-- where what is lent is as long, there is as much room
pub rooms-kept : {p q : Parser} → Kept p q → rooms_of (mem_of q) ≡ rooms_of (mem_of p)
rooms-kept l = ap₂ (λ (a b : ℕ). record { nodes = a; words = b }) l.head l.symbols
