-- The text that is written at the end of the buffer, moved to its front.
use Rattle.std.specs.Prelude.{Err, Ok}
use Prim.Native.Nat.{ℕ, ◌+◌, ◌-◌, ◌≤◌, ◌<◌}
use native.Mathlib.Omega.{arith}
use borrow.Author.Tests.{lt-ltb, le-ltb}
use mathlib.Core.Path.{◌≡◌, refl, sym, ap, ap₂, ◌∙◌}
use mathlib.Core.List.{List, ◌++◌, append-nil}
use lib.ListN.{length, take, drop, replicate}
use lib.Seq.{drop-length, drop_at, length-take-le}
use Rattle.sifc_err.specs.declared.Refusal.TheVariants.{TextFull}
use Rattle.sifc_word.specs.Base.{if◌then◌otherwise◌}
use Rattle.sifc_tokens.specs.Tokens.{padded, zeroed}
use Rattle.std.specs.Prelude.{Ok, Err}
use Rattle.sifc_put.specs.declared.write.Full.{Full}
use Rattle.sifc_put.specs.declared.write.Writer.{Writer}
use Rattle.sifc_put.specs.Post.{Kind, Writes, inp_of}
use Rattle.sifc_write.specs.Front.{buffered, fitted, Fronts}

-- A text that is longer than the buffer is refused.
fitted-full : (w t : List ℕ) → length t < length w → fitted w t ≡ buffered (Err TextFull) (zeroed t)
unfolding fitted if◌then◌otherwise◌
fitted-full w t h = rw (lt-ltb (length t) (length w) h) refl

-- Any other is at the front, and zeros are behind it.
fitted-in : (w t : List ℕ) → length w ≤ length t → fitted w t ≡ buffered (Ok (length w)) (padded w (length t))
unfolding fitted if◌then◌otherwise◌
fitted-in w t h = rw (le-ltb (length t) (length w) h) refl

module _ (K : Kind) {p q : Writer} (end : p.at ≡ length p.text.now) where
  -- It has no room, and the buffer is set to 0.
  pub no_room : {f : Full} {t : List ℕ} → Writes K p (Err f) q → t ≡ take 0 q.text.now ++ replicate (length q.text.now - 0) 0 → Fronts (K (inp_of p)) p.text.now p.node (Err TextFull) t
  unfolding zeroed
  no_room {f} {t} w s =
      record {
        does = λ x lo g.
            let h : p.at < length ((K (inp_of p)).P x) = (w.does x lo g).by in
            ap (buffered (Err TextFull)) (s ∙ ap (λ (n : ℕ). replicate n 0) (let m : length q.text.now - 0 ≡ length p.text.now = omega (arith, w.goes.long) in m))
            ∙ sym (fitted-full ((K (inp_of p)).P x) p.text.now (omega (arith, end)));
      }

  -- It is written from q's place on, and moved to the front.
  pub fronts : {u : Unit} {t : List ℕ} → Writes K p (Ok u) q → t ≡ drop q.at q.text.now ++ replicate q.at 0 → Fronts (K (inp_of p)) p.text.now p.node (Ok (length p.text.now - q.at)) t
  unfolding padded
  fronts {u} {t} w s =
      record {
        does = λ x lo g.
            let l = (w.does x lo g).by in
            let b : List ℕ = (K (inp_of p)).P x in
            let room : q.at + length b ≡ length p.text.now = l.room ∙ end in
            let k : length (take q.at p.text.now) ≡ q.at = length-take-le q.at p.text.now (omega arith) in
            let m : q.at ≡ length p.text.now - length b = omega arith in
            let n : length p.text.now - q.at ≡ length b = omega arith in
            ap₂ (λ (i : ℕ) (y : List ℕ). buffered (Ok i) y) n
            (s
            ∙ ap (λ (y : List ℕ). drop q.at y ++ replicate q.at 0) l.same
            ∙ ap (λ (y : List ℕ). y ++ replicate q.at 0)
            (drop_at (take q.at p.text.now) (b ++ drop p.at p.text.now) q.at k ∙ ap (λ (i : ℕ). b ++ drop i p.text.now) end ∙ ap (λ (y : List ℕ). b ++ y) (drop-length p.text.now) ∙ append-nil b)
            ∙ ap (λ (i : ℕ). b ++ replicate i 0) m)
            ∙ sym (fitted-in b p.text.now (omega arith));
      }
