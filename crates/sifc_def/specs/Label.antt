-- What document 01 compares of two trees ("The words of demand 3"): "their node counts are equal and, node by node, so are the first words (kind, flag, number
-- of children) and what the payload stands for: the scope for Block; where it is a token index, the token's text, its bytes in its own script (Str with its
-- quotes); elsewhere nothing more."
use Rattle.std.specs.Prelude.{ℕ, List, [], ◌∷◌, map, Bool, eqb}
use Rattle.sifc_err.specs.declared.Token.{Token}
use Rattle.sifc_word.specs.Base.{if◌then◌otherwise◌, member}
use Rattle.sifc_def.specs.Ast.{Block, VarDecl, FnDecl, TableItem, Table, Array, VarAssignExpr, BinaryExpr, UnaryExpr, PrimaryExpr}
use Rattle.sifc_def.specs.State.{Node, W, token_at, word_in}

pub record Lab : Type 0 where
  pub kind : ℕ
  pub flag : Bool
  pub kids : ℕ
  pub scope : ℕ
  pub text : List ℕ

abbrev pub lab : ℕ → Bool → ℕ → ℕ → List ℕ → Lab
lab k f n l t = record { kind = k; flag = f; kids = n; scope = l; text = t }

-- the kinds whose payload is a token index
unfoldable pub has_token : ℕ → Bool
has_token k = member k (VarDecl ∷ FnDecl ∷ TableItem ∷ Table ∷ Array ∷ VarAssignExpr ∷ BinaryExpr ∷ UnaryExpr ∷ PrimaryExpr ∷ [])

-- how a token is compared and written: "Literals as in the source."
abbrev pub spelling : W → List ℕ
spelling w = w.text

-- the label of a node, in a script and its tokens
module _ (s : List ℕ) (ts : List Token) where
  unfoldable pub scope_of : Node → ℕ
  scope_of n = if eqb n.kind Block then n.pay otherwise 0

  unfoldable pub text_of : Node → List ℕ
  text_of n = if has_token n.kind then spelling (word_in s (token_at ts n.pay)) otherwise []

  abbrev pub label : Node → Lab
  label n = lab n.kind n.flag n.kids (scope_of n) (text_of n)

  abbrev pub labels : List Node → List Lab
  labels ns = map label ns
