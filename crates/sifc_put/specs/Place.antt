-- Where things stand in the lent arrays: "Tokens: offset; kind + 64 × length"; "Tree: nodes children first; word one is kind + 32 × flag + 64 × children, word
-- two the payload." A thing stands from the node lo up to the node before hi, its root.
use Rattle.std.specs.Prelude.{ℕ, ◌+◌, ◌-◌, ◌/◌, ◌%◌, ◌≤◌, ◌<◌, ◌≡◌, List, [], ◌∷◌, length, get_or}
use Rattle.sifc_word.specs.Base.{part}
use Rattle.sifc_def.specs.State.{W}

-- what is read and never written: the script, the two token arrays, the two tree arrays
pub record Inp : Type 0 where
  pub script : List ℕ
  pub offs : List ℕ
  pub words : List ℕ
  pub heads : List ℕ
  pub loads : List ℕ

abbrev pub inp : List ℕ → List ℕ → List ℕ → List ℕ → List ℕ → Inp
inp s o k h l = record { script = s; offs = o; words = k; heads = h; loads = l }

-- the index of the token that the node before hi carries
abbrev pub token_of : List ℕ → ℕ → ℕ
token_of loads hi = get_or loads (hi - 1) 0

-- Token i is in the arrays, its bytes in the script, and it is the word w.
pub record Spells (script offs words : List ℕ) (i : ℕ) (w : W) : Type 0 where
  pub in_offs : i < length offs
  pub in_words : i < length words
  pub within : get_or offs i 0 + get_or words i 0 / 64 ≤ length script
  pub kind : w.kind ≡ get_or words i 0 % 64
  pub text : w.text ≡ part (get_or offs i 0) (get_or words i 0 / 64) script

-- The node before hi carries a token that is the word w.
pub record Carries (script offs words loads : List ℕ) (hi : ℕ) (w : W) : Type 0 where
  pub some : 0 < hi
  pub in_loads : hi - 1 < length loads
  pub spells : Spells script offs words (token_of loads hi) w

-- The node before hi has this kind and so many children.
pub record Node (heads loads : List ℕ) (hi kind kids : ℕ) : Type 0 where
  pub some : 0 < hi
  pub in_heads : hi - 1 < length heads
  pub in_loads : hi - 1 < length loads
  pub kinded : get_or heads (hi - 1) 0 % 32 ≡ kind
  pub counted : get_or heads (hi - 1) 0 / 64 ≡ kids

-- nothing stands from lo to hi
abbrev pub Nothing : ℕ → ℕ → Type 0
Nothing lo hi = lo ≡ hi

-- one thing, and then another
pub record Then (A B : ℕ → ℕ → Type 0) (lo hi : ℕ) : Type 0 where
  pub mid : ℕ
  pub front : A lo mid
  pub last : B mid hi

-- things one after another
unfoldable pub Along : {A : Type 0} → (A → ℕ → ℕ → Type 0) → List A → ℕ → ℕ → Type 0
Along S [] lo hi = Nothing lo hi
Along S (x ∷ xs) lo hi = Then (λ a b. S x a b) (λ a b. Along S xs a b) lo hi

module _ (I : Inp) where
  -- a node of this kind with so many children over what stands below it
  pub record Over (kind kids : ℕ) (S : ℕ → ℕ → Type 0) (lo hi : ℕ) : Type 0 where
    pub top : Node I.heads I.loads hi kind kids
    pub below : S lo (hi - 1)

  -- the same, of a node that carries the word w
  pub record Told (kind kids : ℕ) (w : W) (S : ℕ → ℕ → Type 0) (lo hi : ℕ) : Type 0 where
    pub top : Node I.heads I.loads hi kind kids
    pub token : Carries I.script I.offs I.words I.loads hi w
    pub below : S lo (hi - 1)
