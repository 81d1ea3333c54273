-- What the writer's contracts cite. It writes backwards, from the end of the buffer and from the last node: a writer says the node before which the next thing
-- ends and the place before which it is written.
use Rattle.std.specs.Prelude.{ℕ, zero, suc, ◌+◌, ◌-◌, ◌/◌, ◌%◌, ◌≤◌, ◌<◌, ◌≡◌, List, [], ◌∷◌, ◌++◌, eqb, length, get_or, take, drop, Result, Ok, Err}
use Rattle.sifc_word.specs.Base.{if◌then◌otherwise◌, member}
use Rattle.sifc_def.specs.Ast.{TableAccess, ArrayMutExpr, VarAssignExpr, BinaryExpr}
use Rattle.sifc_def.specs.Expr.{looseness}
use Rattle.sifc_def.specs.State.{W}
use Rattle.sifc_put.specs.declared.write.Full.{Full}
use Rattle.sifc_put.specs.declared.write.Tree.{Tree}
use Rattle.sifc_put.specs.declared.write.Writer.{Writer}
use Rattle.sifc_put.specs.Place.{Inp, inp, Carries, Then, Along, token_of}
use Rattle.sifc_put.specs.Bytes.{worded}

-- ── kinds of things ──

-- a kind of thing: its values, where one stands in the arrays, and its bytes
pub record Lang : Type 1 where
  pub T : Type 0
  pub S : T → ℕ → ℕ → Type 0
  pub P : T → List ℕ

-- the same, by what is read
abbrev pub Kind : Type 1
Kind = Inp → Lang

-- what a tree lends, and what a writer reads
abbrev pub inp_in : Tree → Inp
inp_in t = inp t.script.now t.offs.now t.words.now t.heads.now t.loads.now

abbrev pub inp_of : Writer → Inp
inp_of p = inp_in p.tree

-- some thing of the kind ends before hi, and at is in the buffer
pub record SpotOf (L : Lang) (text : List ℕ) (hi at : ℕ) : Type 0 where
  pub tree : L.T
  pub lo : ℕ
  pub spans : L.S tree lo hi
  pub room : at ≤ length text

-- It does before the writer's node, and the writer's place is in its buffer.
abbrev pub At : Kind → Writer → Type 0
At K p = SpotOf (K (inp_of p)) p.text.now p.node p.at

-- ── what a call leaves ──

-- The bytes w stand before at, nothing else of the buffer has changed, and lo is the node to go on before.
pub record Placed (w text : List ℕ) (lo at n a : ℕ) (text' : List ℕ) : Type 0 where
  pub node : n ≡ lo
  pub room : a + length w ≡ at
  pub same : text' ≡ take a text ++ (w ++ drop at text)

abbrev pub WroteOf : List ℕ → ℕ → Writer → Result Unit Full → Writer → Type 0
WroteOf w lo p (Ok u) q = Placed w p.text.now lo p.at q.node q.at q.text.now
WroteOf w lo p (Err e) q = p.at < length w

-- The bytes w are written before p's place, or they are more than there is room for.
pub record Wrote (w : List ℕ) (lo : ℕ) (p : Writer) (r : Result Unit Full) (q : Writer) : Type 0 where
  pub by : WroteOf w lo p r q

-- The writer q goes on from p: what is read and the buffer stay, and neither the node nor the place goes up.
pub record Goes (p q : Writer) : Type 0 where
  pub tree : q.tree ≡ p.tree
  pub buffer : q.text.ghost_name ≡ p.text.ghost_name
  pub long : length q.text.now ≡ length p.text.now
  pub node : q.node ≤ p.node
  pub at : q.at ≤ p.at

-- Whatever thing of the kind ends before p's node, its bytes are written.
pub record Writes (K : Kind) (p : Writer) (r : Result Unit Full) (q : Writer) : Type 0 where
  pub goes : Goes p q
  pub does : (x : (K (inp_of p)).T) (lo : ℕ) → (K (inp_of p)).S x lo p.node → Wrote ((K (inp_of p)).P x) lo p r q

-- ── the smallest kinds, and kinds made of kinds ──

-- fixed bytes, which stand for no node
abbrev pub fixed : List ℕ → Kind
fixed b = λ I. record { T = Unit {0}; S = λ u lo h. lo ≡ h; P = λ u. b }

-- the token of the node before hi
abbrev pub token_l : ℕ → Kind
token_l hi = λ I. record { T = W; S = λ w lo h. (lo ≡ h) × Carries I.script I.offs I.words I.loads hi w; P = λ w. worded w }

-- a node that is a single token
abbrev pub leaf_l : Kind
leaf_l = λ I. record { T = W; S = λ w lo h. (lo ≡ h - 1) × Carries I.script I.offs I.words I.loads h w; P = λ w. worded w }

-- things of these kinds, one after another
pub data Pieces : Type 1 where
  one : Kind → Pieces
  seq : Pieces → Kind → Pieces

abbrev pub made : Pieces → Kind
made (one K) = K
made (seq M K) = λ I. record { T = (made M I).T × (K I).T; S = λ x lo h. Then (λ a b. (made M I).S x.0 a b) (λ a b. (K I).S x.1 a b) lo h; P = λ x. (made M I).P x.0 ++ (K I).P x.1 }

-- ── rows of things ──

-- a comma and a space, where n things stand before
unfoldable pub comma : ℕ → List ℕ
comma zero = []
comma (suc n) = 44 ∷ 32 ∷ []

-- the bytes of things in a row
unfoldable pub cat : {A : Type 0} → (A → List ℕ) → List A → List ℕ
cat P [] = []
cat P (x ∷ xs) = P x ++ cat P xs

-- with a comma between
unfoldable pub commas : {A : Type 0} → (A → List ℕ) → List A → List ℕ
commas P [] = []
commas P (x ∷ []) = P x
commas P (x ∷ y ∷ ys) = P x ++ ((44 ∷ 32 ∷ []) ++ commas P (y ∷ ys))

-- n things in a row
abbrev pub row_l : Kind → ℕ → Kind
row_l K n = λ I. record { T = List (K I).T; S = λ xs lo h. Along (K I).S xs lo h × (length xs ≡ n); P = λ xs. cat (K I).P xs }

-- n things with a comma between
abbrev pub list_l : Kind → ℕ → Kind
list_l K n = λ I. record { T = List (K I).T; S = λ xs lo h. Along (K I).S xs lo h × (length xs ≡ n); P = λ xs. commas (K I).P xs }

-- ── the node before the writer's ──

-- its head can be read
pub record InHeads (p : Writer) : Type 0 where
  pub some : 0 < p.node
  pub in_heads : p.node - 1 < length p.tree.heads.now

-- its kind, and how many children it has
abbrev pub kind_of : Writer → ℕ
kind_of p = get_or p.tree.heads.now (p.node - 1) 0 % 32

abbrev pub children_of : Writer → ℕ
children_of p = get_or p.tree.heads.now (p.node - 1) 0 / 64

-- how loosely the node before hi binds: 8 less the strength of document 01, and 0 for what binds tighter, read off the arrays
unfoldable pub height_at : List ℕ → List ℕ → List ℕ → ℕ → ℕ
height_at words heads loads hi =
    let k : ℕ = get_or heads (hi - 1) 0 % 32 in
    if eqb k BinaryExpr then looseness (get_or words (token_of loads hi) 0 % 64)
    otherwise if member k (TableAccess ∷ ArrayMutExpr ∷ VarAssignExpr ∷ []) then 8
    otherwise 0

-- The node before hi can be read, and an operator's token too.
pub record Readable (words heads loads : List ℕ) (hi : ℕ) : Type 0 where
  pub some : 0 < hi
  pub in_heads : hi - 1 < length heads
  pub in_loads : hi - 1 < length loads
  pub operator : get_or heads (hi - 1) 0 % 32 ≡ BinaryExpr → token_of loads hi < length words

-- The same, of the node before the writer's.
abbrev pub height_of : Writer → ℕ
height_of p = height_at p.tree.words.now p.tree.heads.now p.tree.loads.now p.node

abbrev pub CanRead : Writer → Type 0
CanRead p = Readable p.tree.words.now p.tree.heads.now p.tree.loads.now p.node
