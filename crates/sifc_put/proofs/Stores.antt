-- What a word and a space that are stored before a place leave.
use Prim.Native.Nat.{ℕ, suc, ◌-◌, ◌≤◌, ◌<◌}
use native.Mathlib.Omega.{arith}
use mathlib.Core.Path.{◌≡◌, refl, sym, ap, ap₂, ◌∙◌}
use mathlib.Core.List.{List, [], ◌∷◌, ◌++◌, append_assoc}
use lib.ListN.{length, take, drop, set, length-append, length-drop}
use lib.Seq.{length-take-le, set_split, paste}
use borrow.Rule.Slice.PartMut.{put_mid, same_len_mid}
use Rattle.std.proofs.Math.ListN.{drop_of_length-le}
use Rattle.std.proofs.lemmas.List.{append-nil}
use Rattle.std.proofs.lemmas.List.Edits.{paste_all}
use Rattle.std.proofs.lemmas.Slice.{take-put_mid, drop-put_mid}
use Rattle.sifc_put.specs.Post.{Placed}

-- bytes put one after the other in the place of as many
pub paste-whole : (t w : List ℕ) (n : ℕ) → n ≡ length w → length t ≡ length w → paste t 0 w n ≡ w
paste-whole t w n e h = paste_all t 0 w n e ∙ ap (λ (l : List ℕ). w ++ l) (drop_of_length-le t (omega (arith, e, h))) ∙ append-nil w

-- the word is stored first, then the space behind it
pub worded-mid : (t w : List ℕ) (at : ℕ) → length w < at → at ≤ length t
    → set (put_mid (at - 1 - length w) (at - 1 - (at - 1 - length w)) t w) (at - 1) 32 ≡ take (at - 1 - length w) t ++ ((w ++ (32 ∷ [])) ++ drop at t)
worded-mid t w at h k =
    let s : ℕ = at - 1 - length w in
    let n : ℕ = at - 1 - s in
    let m : List ℕ = put_mid s n t w in
    let l : length m ≡ length t = same_len_mid s n t w (omega (arith, length-take-le n (drop s t) (omega (arith, length-drop s t)))) in
    set_split m (at - 1) 32 (omega arith)
    ∙ ap₂ (λ (x y : List ℕ). x ++ (32 ∷ y)) (take-put_mid s n t w (at - 1) (omega arith) (omega arith))
    (drop-put_mid s n t w (suc (at - 1)) (omega arith) (omega arith) (omega arith) ∙ ap (λ (i : ℕ). drop i t) next)
    ∙ append_assoc (take s t) w (32 ∷ drop at t)
    ∙ ap (λ (l : List ℕ). take s t ++ l) (sym (append_assoc w (32 ∷ []) (drop at t)))
  where
    next : suc (at - 1) ≡ at
    next = omega arith

-- so it is placed
pub worded-placed : (t w : List ℕ) {m : List ℕ} {lo : ℕ} (at : ℕ) → m ≡ w → length w < at → at ≤ length t
    → Placed (w ++ (32 ∷ [])) t lo at lo (at - 1 - length w) (set (put_mid (at - 1 - length w) (at - 1 - (at - 1 - length w)) t m) (at - 1) 32)
worded-placed t w at e h k =
    record {
      node = refl;
      room = omega (arith, length-append w (32 ∷ []));
      same = ap (λ (m : List ℕ). set (put_mid (at - 1 - length w) (at - 1 - (at - 1 - length w)) t m) (at - 1) 32) e ∙ worded-mid t w at h k;
    }

-- The length is kept.
pub placed-long : {w t t' : List ℕ} {lo at n a : ℕ} → at ≤ length t → Placed w t lo at n a t' → length t' ≡ length t
placed-long {w} {t} {t'} {lo} {at} {n} {a} h p =
    ap length p.same ∙ (omega (arith, p.room, length-append (take a t) (w ++ drop at t), length-append w (drop at t), length-take-le a t (omega (arith, p.room)), length-drop at t))
