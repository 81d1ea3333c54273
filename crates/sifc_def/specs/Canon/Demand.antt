-- Demand 3, in the words of document 01, over the answers of the definition's calls and what they leave in the lent arrays.
--
-- "Take any two scripts that are read with the error flag down, whatever buffers each call is lent. Their canonical texts are the same bytes exactly when their
-- trees are the same in shape, flags, scopes and token texts, positions ignored; trees and error flags are those that demand 2's definition gives. For each of
-- the two, reading its canonical text gives the same tree with the flag down, and the canonical text of that text is itself, byte for byte. Premise: none of
-- these calls meets a refusal for size or depth (1, 3, 4, 6 to 9 or 11 of document 01, each given exactly when its table says)."
use Rattle.std.specs.Prelude.{ℕ, ◌/◌, ◌%◌, ◌<◌, ◌≡◌, ◌↔◌, List, [], ◌∷◌, Bool, false, not, T, take, length, get_or, Err, Ok}
use Rattle.sifc_err.specs.declared.Refusal.{Refusal}
use Rattle.sifc_err.specs.Refusal.{number_of}
use Rattle.sifc_word.specs.Base.{member, part}
use Rattle.sifc_def.specs.Answer.{Reading, Texting}
use Rattle.sifc_def.specs.Ast.{Block}
use Rattle.sifc_def.specs.Label.{has_token}
use Rattle.sifc_def.specs.Read.{Arrays, Called, reading, Written, text_call}

-- ── refusals ──

-- "a refusal for size or depth (1, 3, 4, 6 to 9 or 11 of document 01 ..)"
unfoldable pub size_or_depth : Refusal → Bool
size_or_depth r = member (number_of r) (1 ∷ 3 ∷ 4 ∷ 6 ∷ 7 ∷ 8 ∷ 9 ∷ 11 ∷ [])

-- a reading that meets none
unfoldable pub Fits : Reading → Type 0
Fits (Ok m) = Unit {0}
Fits (Err r) = T (not (size_or_depth r))

-- a text call that meets none
unfoldable pub FitsText : Texting → Type 0
FitsText (Ok n) = Unit {0}
FitsText (Err r) = T (not (size_or_depth r))

-- ── readings ──

-- "A script is read with the flag down when its reading meets no refusal and answers the error flag down; listed errors may remain."
unfoldable pub FlagDown : Reading → Type 0
FlagDown (Ok m) = m.flag ≡ false
FlagDown (Err r) = ⊥

-- how many nodes a reading answers
unfoldable pub node_count : Reading → ℕ
node_count (Ok m) = m.nodes
node_count (Err r) = 0

-- the first word of node i in the lent arrays
abbrev pub head_at : Arrays → ℕ → ℕ
head_at a i = get_or a.heads i 0

-- the second word
abbrev pub load_at : Arrays → ℕ → ℕ
load_at a i = get_or a.loads i 0

-- "word one is kind + 32 × flag + 64 × children"
abbrev pub kind_in : ℕ → ℕ
kind_in head = head % 32

-- "the token's text, its bytes in its own script (Str with its quotes)", from "offset; kind + 64 × length"
abbrev pub token_text : List ℕ → Arrays → ℕ → List ℕ
token_text s a i = part (get_or a.offs i 0) (get_or a.words i 0 / 64) s

-- "Two trees are the same when their node counts are equal and, node by node, so are the first words (kind, flag, number of children) and what the payload
-- stands for: the scope for Block; where it is a token index, the token's text, its bytes in its own script (Str with its quotes); elsewhere nothing more."
-- Here of a reading of the script s and one of the script s'.
pub record SameTree (s : List ℕ) (c : Called Reading) (s' : List ℕ) (c' : Called Reading) : Type 0 where
  pub counts : node_count c.answer ≡ node_count c'.answer
  pub firsts : (i : ℕ) → i < node_count c.answer → head_at c.arrays i ≡ head_at c'.arrays i
  pub scopes : (i : ℕ) → i < node_count c.answer → kind_in (head_at c.arrays i) ≡ Block → load_at c.arrays i ≡ load_at c'.arrays i
  pub texts : (i : ℕ) → i < node_count c.answer → T (has_token (kind_in (head_at c.arrays i)))
      → token_text s c.arrays (load_at c.arrays i) ≡ token_text s' c'.arrays (load_at c'.arrays i)

-- ── texts ──

-- "A canonical text is the bytes that the text call writes, as many as it answers": a call that writes the text t
pub record Writes (w : Written) (t : List ℕ) : Type 0 where
  pub count : w.answer ≡ Ok (length t)
  pub bytes : take (length t) w.text ≡ t

-- so many bytes of the buffer as are answered
unfoldable pub answered_bytes : Texting → List ℕ → List ℕ
answered_bytes (Ok n) t = take n t
answered_bytes (Err r) t = []

-- the bytes that a text call writes, none where it is refused
abbrev pub bytes_of : Written → List ℕ
bytes_of w = answered_bytes w.answer w.text

-- ── the eight calls ──

-- A script, and what each of its four calls is lent. "What one call is lent may differ in length and contents from what another is lent."
pub record Lent : Type 0 where
  pub script : List ℕ
  pub arrays₁ : Arrays
  pub arrays₂ : Arrays
  pub buffer₂ : List ℕ
  pub arrays₃ : Arrays
  pub arrays₄ : Arrays
  pub buffer₄ : List ℕ

-- "for either script its reading and its text call, then the reading and the text call of its canonical text"
abbrev pub its_reading : Lent → Called Reading
its_reading x = reading x.script x.arrays₁

-- its text call
abbrev pub its_text : Lent → Written
its_text x = text_call x.script x.arrays₂ x.buffer₂

-- its canonical text, which is the script of the next two calls
abbrev pub canonical : Lent → List ℕ
canonical x = bytes_of (its_text x)

-- the reading of its canonical text
abbrev pub next_reading : Lent → Called Reading
next_reading x = reading (canonical x) x.arrays₃

-- the text call of its canonical text
abbrev pub next_text : Lent → Written
next_text x = text_call (canonical x) x.arrays₄ x.buffer₄

-- "Premise: none of these calls meets a refusal for size or depth": the four of a script
pub record AllFit (x : Lent) : Type 0 where
  pub reading : Fits (its_reading x).answer
  pub text : FitsText (its_text x).answer
  pub next : Fits (next_reading x).answer
  pub next_text : FitsText (next_text x).answer

-- "reading its canonical text gives the same tree with the flag down, and the canonical text of that text is itself, byte for byte": of one script
pub record RoundTrip (x : Lent) : Type 0 where
  pub written : Writes (its_text x) (canonical x)
  pub flag_down : FlagDown (next_reading x).answer
  pub same_tree : SameTree x.script (its_reading x) (canonical x) (next_reading x)
  pub itself : Writes (next_text x) (canonical x)

-- the whole of it, of two scripts
pub record Demand3 (x y : Lent) : Type 0 where
  pub exactly_when : (canonical x ≡ canonical y) ↔ SameTree x.script (its_reading x) y.script (its_reading y)
  pub first_trip : RoundTrip x
  pub second_trip : RoundTrip y
