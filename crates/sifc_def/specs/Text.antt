-- Canonical text (document 01): the words of a tree, then its bytes. "Tokens with one space between; a newline after each top-level declaration; no comments,
-- `@` or trailing commas; an empty tree gives no bytes."
use Rattle.std.specs.Prelude.{ℕ, ◌-◌, List, [], ◌∷◌, ◌++◌, Bool, true, false, eqb, leb, ltb}
use Rattle.sifc_lex.specs.declared.lex.Step.{Step}
use Rattle.sifc_lex.specs.declared.lex.Step.TheVariants.{Skip, Word, Stop}
use Rattle.sifc_word.specs.Base.{if◌then◌otherwise◌, member}
use Rattle.sifc_lex.specs.Lex.{step}
use Rattle.sifc_def.specs.Ascii.{ascii}
use Rattle.sifc_def.specs.Ast.{Block, IfStmt, ElifStmt, ForStmt, ReturnStmt, ExprStmt, VarDecl, FnDecl, FnParams, IdentPair, ItemList, TableItem, Table, TableAccess, Array, ArrayItems, ArrayAccess, ArrayMutExpr, FnCallExpr, VarAssignExpr, BinaryExpr, UnaryExpr, PrimaryExpr}
use Rattle.sifc_def.specs.Expr.{looseness}
use Rattle.sifc_def.specs.Label.{Lab}
use Rattle.sifc_def.specs.Tree.{Tree, tree, Forest, leaf, grow, gather, dec}

abbrev pub Words : Type 0
Words = List (List ℕ)

-- a child that is written: its kind, its binding strength and its words
pub record Piece : Type 0 where
  pub kind : ℕ
  pub strength : ℕ
  pub words : Words

-- ── binding strengths ──

-- the kind of the token that a text is
unfoldable pub word_kind : Step → ℕ
word_kind (Skip n) = 0
word_kind (Word k n) = k
word_kind (Stop n e) = 0

-- "`||` 1, `&&` 2, equality 3, comparison 4, `+ -` 5, `* /` 6, `%` 7"
unfoldable pub op_strength : List ℕ → ℕ
op_strength op = 8 - looseness (word_kind (step op))

-- "assignment and table access 0", "unary 8, the rest 9"
unfoldable pub strength_of : ℕ → List ℕ → ℕ
strength_of k x =
    if member k (VarAssignExpr ∷ ArrayMutExpr ∷ TableAccess ∷ []) then 0
    otherwise if eqb k BinaryExpr then op_strength x
    otherwise if eqb k UnaryExpr then 8
    otherwise 9

-- ── words ──

-- in parentheses, where the test says so
unfoldable pub paren : Bool → Words → Words
paren true ws = ascii "(" ∷ ws ++ (ascii ")" ∷ [])
paren false ws = ws

-- with a comma between
unfoldable pub commas : List Piece → Words
commas [] = []
commas (x ∷ []) = x.words
commas (x ∷ y ∷ ys) = x.words ++ ascii "," ∷ commas (y ∷ ys)

-- one after another
unfoldable pub row : List Piece → Words
row [] = []
row (x ∷ xs) = x.words ++ row xs

-- the further branches of an if: a Block is an `else`
unfoldable pub or_else : List Piece → Words
or_else [] = []
or_else (x ∷ xs) = if eqb x.kind Block then ascii "else" ∷ x.words ++ or_else xs otherwise x.words ++ or_else xs

-- "parentheses go only round a left operand weaker than its operator, a right operand not stronger, and a unary operand below 8"
unfoldable pub binary : List ℕ → List Piece → Words
binary op [] = []
binary op (l ∷ []) = []
binary op (l ∷ r ∷ xs) = paren (ltb l.strength (op_strength op)) l.words ++ op ∷ paren (leb r.strength (op_strength op)) r.words

unfoldable pub unary : List ℕ → List Piece → Words
unary op [] = []
unary op (x ∷ xs) = op ∷ paren (ltb x.strength 8) x.words

-- the first child, a sign, and the rest of the children as they are written
unfoldable pub after : List ℕ → (List Piece → Words) → List Piece → Words
after sign rest [] = []
after sign rest (x ∷ xs) = x.words ++ sign ∷ rest xs

unfoldable pub closed : List ℕ → (List Piece → Words) → List Piece → Words
closed sign inner xs = inner xs ++ (sign ∷ [])

-- a variable's value, if it has one
unfoldable pub valued : List Piece → Words
valued [] = []
valued (x ∷ xs) = ascii "=" ∷ row (x ∷ xs)

-- a condition, a block and the further branches
unfoldable pub branched : List Piece → Words
branched [] = []
branched (x ∷ []) = x.words
branched (x ∷ b ∷ bs) = x.words ++ b.words ++ or_else bs

-- The words of a node of kind k with the text x, from its children's. "Assigned values, indices, arguments, conditions and what follows `.` stand bare".
unfoldable pub words_of : ℕ → List ℕ → List Piece → Words
words_of k x cs =
    if eqb k PrimaryExpr then x ∷ []
    otherwise if eqb k UnaryExpr then unary x cs
    otherwise if eqb k BinaryExpr then binary x cs
    otherwise if eqb k VarAssignExpr then after (ascii "=") row cs
    otherwise if eqb k FnCallExpr then after (ascii "(") (closed (ascii ")") commas) cs
    otherwise if eqb k ArrayMutExpr then after (ascii "[") (after (ascii "]") valued) cs
    otherwise if eqb k ArrayAccess then after (ascii "[") (closed (ascii "]") row) cs
    otherwise if eqb k TableAccess then after (ascii ".") row cs
    otherwise if eqb k Array then ascii "[" ∷ closed (ascii "]") row cs
    otherwise if eqb k Table then ascii "[[" ∷ closed (ascii "]]") row cs
    otherwise if eqb k TableItem then x ∷ ascii "=>" ∷ row cs
    otherwise if member k (ArrayItems ∷ ItemList ∷ IdentPair ∷ FnParams ∷ []) then commas cs
    otherwise if eqb k FnDecl then ascii "fn" ∷ x ∷ ascii "(" ∷ after (ascii ")") row cs
    otherwise if eqb k VarDecl then ascii "var" ∷ x ∷ closed (ascii ";") valued cs
    otherwise if eqb k ExprStmt then closed (ascii ";") row cs
    otherwise if eqb k ReturnStmt then ascii "return" ∷ closed (ascii ";") row cs
    otherwise if eqb k ForStmt then ascii "for" ∷ after (ascii "in") row cs
    otherwise if eqb k ElifStmt then ascii "elif" ∷ row cs
    otherwise if eqb k IfStmt then ascii "if" ∷ branched cs
    otherwise if eqb k Block then ascii "{" ∷ closed (ascii "}") row cs
    otherwise row cs

unfoldable mutual
  pub piece : Tree → Piece
  piece (tree k f l x ts) = record { kind = k; strength = strength_of k x; words = words_of k x (pieces ts) }

  pub pieces : Forest → List Piece
  pieces leaf = []
  pieces (grow t ts) = piece t ∷ pieces ts

-- ── bytes ──

-- the words of a declaration: a space after each, a newline after the last
unfoldable pub line : Words → List ℕ
line [] = []
line (w ∷ []) = w ++ (10 ∷ [])
line (w ∷ v ∷ ws) = w ++ 32 ∷ line (v ∷ ws)

unfoldable pub lines : List Piece → List ℕ
lines [] = []
lines (x ∷ xs) = line x.words ++ lines xs

-- the declarations of the Program node
unfoldable pub declarations : List Tree → Forest
declarations [] = leaf
declarations (tree k f l x ts ∷ st) = ts

-- the canonical text of a tree, from its labels. Who unfolds `text` unfolds all of it, to compute
unfoldable pub text : List Lab → List ℕ
unfolding word_kind op_strength strength_of paren commas row or_else binary unary after closed valued branched words_of pieces line lines declarations gather dec step looseness member if◌then◌otherwise◌
text xs = lines (pieces (declarations (dec xs [])))
