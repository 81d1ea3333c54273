-- Words, commas, and a token by its place in the arrays.
use Prim.Native.Nat.{ℕ, zero, suc, ◌-◌, ◌/◌, ◌≤◌}
use native.Mathlib.Omega.{arith}
use mathlib.Core.Path.{◌≡◌, refl, sym, subst}
use mathlib.Core.List.{List, [], ◌∷◌, ◌++◌}
use lib.ListN.{length, get_or}
use Rattle.std.specs.Prelude.{Result, Ok}
use Rattle.sifc_word.specs.Base.{part}
use Rattle.sifc_put.specs.declared.write.Full.{Full}
use Rattle.sifc_put.specs.declared.write.Writer.{Writer}
use Rattle.sifc_put.specs.Place.{token_of}
use Rattle.sifc_put.specs.Post.{Placed, Wrote, Writes, fixed, comma, token_l, leaf_l}
use Rattle.sifc_put.proofs.Frame.{fixed-writes}
use Rattle.sifc_put.proofs.Stores.{placed-long}

-- Bytes that are placed are written.
pub placed-writes : {b : List ℕ} {p q : Writer} → p.at ≤ length p.text.now → q.tree ≡ p.tree → q.text.ghost_name ≡ p.text.ghost_name → Placed b p.text.now p.node p.at q.node q.at q.text.now → Writes (fixed b) p (Ok tt) q
placed-writes h t g w = fixed-writes (record { tree = t; buffer = g; long = placed-long h w; node = omega (arith, w.node); at = omega (arith, w.room) }) (record { by = w })

-- No comma stands before nothing.
pub comma-none : (n : ℕ) {p : Writer} → n ≡ 0 → Writes (fixed []) p (Ok tt) p → Writes (fixed (comma n)) p (Ok tt) p
unfolding comma
comma-none n {p} e w = subst (λ (i : ℕ). Writes (fixed (comma i)) p (Ok tt) p) (sym e) w

-- One stands behind something.
pub comma-some : (n : ℕ) {p q : Writer} {r : Result Unit Full} → (n ≡ 0 → ⊥) → Writes (fixed (44 ∷ 32 ∷ [])) p r q → Writes (fixed (comma n)) p r q
unfolding comma
comma-some zero h w = absurd (h refl)
comma-some (suc n) h w = w

-- The token that the node before hi carries is written.
pub token-writes : (hi : ℕ) {p q : Writer} {r : Result Unit Full} {tok : ℕ} → tok ≡ token_of p.tree.loads.now hi
    → {from len n : ℕ} → from ≡ get_or p.tree.offs.now tok 0 → len ≡ get_or p.tree.words.now tok 0 / 64 → n ≡ len → Writes (fixed (part from n p.tree.script.now ++ (32 ∷ []))) p r q → Writes (token_l hi) p r q
token-writes hi {p} {q} {r} e f g h w =
    record {
      goes = w.goes;
      does = λ x lo s.
          subst (λ (b : List ℕ). Wrote (b ++ (32 ∷ [])) lo p r q)
          (rw (h, g, f, e) (sym s.1.spells.text)) (w.does tt lo s.0);
    }

-- A leaf is its token, and the node goes down.
pub leaf-writes : {p q : Writer} {r : Result Unit Full} → Writes (token_l p.node) (record p { node = p.node - 1 }) r q → Writes leaf_l p r q
leaf-writes {p} w =
    record {
      goes = record { tree = w.goes.tree; buffer = w.goes.buffer; long = w.goes.long; node = omega (arith, w.goes.node); at = w.goes.at };
      does = λ x lo s. record { by = (w.does x lo s).by };
    }
