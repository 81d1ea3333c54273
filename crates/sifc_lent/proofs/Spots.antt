-- The places of the errors, one after the other.
use Prim.Native.Nat.{ℕ, suc, ◌+◌, ◌≤◌, ◌<◌}
use mathlib.Core.Path.{◌≡◌, refl, sym, ap, ap₂, ◌∙◌, subst}
use mathlib.Core.List.{List, [], ◌∷◌, ◌++◌, map, map-append, append_assoc}
use native.Mathlib.Omega.{arith}
use native.Mathlib.Numerals.{add-one}
use lib.ListN.{length, take, drop, get_or, set, length-append, length-drop, length-map}
use lib.Seq.{take-suc, drop-cons, length-take-le, set_at, get_or_at}
use Rattle.sifc_tokens.specs.declared.place.Place.{Place}
use Rattle.sifc_tokens.specs.Place.{place_of, place, walked_to}
use Rattle.sifc_tokens.proofs.PlaceLaws.{walked_none, walked_line, place_inside, place-even, place-ragged}
use Rattle.sifc_def.proofs.ReadLaws.{place-fits}
use Rattle.sifc_def.specs.Error.{PlaceFits}
use Rattle.sifc_lent.specs.declared.place.Spot.{Spot}
use Rattle.sifc_lent.specs.Parts.{Reached, SpotOf, place_word, place_word_at}

module _ {s : List ℕ} {off : ℕ} {x : Spot} (d : SpotOf s off x) where
  spot-end : length s ≤ off → x.place ≡ walked_to s (length s)
  spot-end h = d.reached.is ∙ ap (walked_to s) (d.past h)

  pub spot-inside : off < length s → x.place ≡ place_of s off
  spot-inside h = d.reached.is ∙ ap (walked_to s) (d.inside h) ∙ sym (place_inside s off h)

  pub spot-ragged : length s ≤ off → 0 < x.place.pos → place (x.place.line + 1) 0 ≡ place_of s off
  spot-ragged h p = ap (λ (q : Place). place (q.line + 1) 0) (spot-end h) ∙ sym (place-ragged s off h (subst (λ (q : Place). 0 < q.pos) (spot-end h) p))

  pub spot-even : length s ≤ off → x.place.pos ≤ 0 → x.place ≡ place_of s off
  spot-even h p = spot-end h ∙ sym (place-even s off h (subst (λ (q : Place). q.pos ≤ 0) (spot-end h) p))

  pub spot-line : x.place.line ≤ length s + 1
  spot-line = subst (λ (q : Place). q.line ≤ length s + 1) (sym d.reached.is) (omega (arith, walked_line s x.at d.reached.within, d.reached.within))

-- the first i words are places, when number i is next
pub record Placing (s os p₀ : List ℕ) (n : ℕ) (p : List ℕ) (x : Spot) (i : ℕ) : Type 0 where
  pub reached : Reached s x
  pub within : i ≤ n
  pub is : p ≡ map (place_word_at s os) (take i p₀) ++ drop i p₀

length_front : (f : ℕ → ℕ) (p : List ℕ) (i : ℕ) → i ≤ length p → length (map f (take i p)) ≡ i
length_front f p i h = length-map (take i p) f ∙ length-take-le i p h

pub placing : (s os p : List ℕ) (n : ℕ) → Placing s os p n p (record { at = 0; place = place 1 0 }) 0
placing s os p n = record { reached = record { within = omega arith; is = sym (walked_none s) }; within = omega arith; is = refl }

module _ {s os p₀ : List ℕ} {n : ℕ} {p : List ℕ} {x : Spot} {i : ℕ} (d : Placing s os p₀ n p x i) (h : n ≤ length p₀) where
  pub placing-long : length p ≡ length p₀
  placing-long =
      ap length d.is ∙ length-append (map (place_word_at s os) (take i p₀)) (drop i p₀)
      ∙ (let z : length (map (place_word_at s os) (take i p₀)) + length (drop i p₀) ≡ length p₀ = omega (arith, length_front (place_word_at s os) p₀ i (omega (arith, d.within)), length-drop i p₀, d.within) in z)

  -- the word that is next is as it was
  placing-next : i < n → get_or p i 0 ≡ get_or p₀ i 0
  placing-next l =
      ap (λ (q : List ℕ). get_or q i 0) (d.is ∙ ap (λ (q : List ℕ). map (place_word_at s os) (take i p₀) ++ q) (drop-cons p₀ i 0 (omega arith)))
      ∙ get_or_at (map (place_word_at s os) (take i p₀)) (get_or p₀ i 0) (drop (suc i) p₀) 0 i (length_front (place_word_at s os) p₀ i (omega arith))

  pub placing-more : {idx off v : ℕ} {q : Place} {y : Spot} → i < n → idx ≡ get_or p i 0 → off ≡ get_or os idx 0 → SpotOf s off y → q ≡ place_of s off → v ≡ place_word q → Placing s os p₀ n (set p i v) y (i + 1)
  unfolding place_word_at
  placing-more {idx} {off} {v} {q} {y} l ei eo sp eq ev =
      let f : ℕ → ℕ = place_word_at s os in
      let word : v ≡ place_word_at s os (get_or p₀ i 0) = ev ∙ ap place_word (eq ∙ ap (place_of s) (eo ∙ ap (λ (j : ℕ). get_or os j 0) (ei ∙ placing-next l))) in
      record {
        reached = sp.reached;
        within = omega arith;
        is =
            ap₂ (λ (u : List ℕ) (w : ℕ). set u i w) (d.is ∙ ap (λ (u : List ℕ). map f (take i p₀) ++ u) (drop-cons p₀ i 0 (omega arith))) word
            ∙ set_at (map f (take i p₀)) (get_or p₀ i 0) (drop (suc i) p₀) (place_word_at s os (get_or p₀ i 0)) i (length_front f p₀ i (omega arith))
            ∙ sym (append_assoc (map f (take i p₀)) (place_word_at s os (get_or p₀ i 0) ∷ []) (drop (suc i) p₀))
            ∙ ap (λ (u : List ℕ). u ++ drop (suc i) p₀) (sym (ap (map f) (take-suc p₀ i 0 (omega arith)) ∙ map-append f (take i p₀) (get_or p₀ i 0 ∷ [])))
            ∙ ap (λ (m : ℕ). map f (take m p₀) ++ drop m p₀) (sym (add-one i));
      }

  pub placed : n ≤ i → p ≡ map (place_word_at s os) (take n p₀) ++ drop n p₀
  placed l = d.is ∙ ap (λ (m : ℕ). map (place_word_at s os) (take m p₀) ++ drop m p₀) (let z : i ≡ n = omega (arith, d.within) in z)

pub place-small : (s : List ℕ) (off : ℕ) {q : Place} → length s < 65536 → q ≡ place_of s off → PlaceFits q
place-small s off {q} h e = subst (λ (x : Place). PlaceFits x) (sym e) (place-fits s off (omega arith))
