-- The kinds of things that the writers of statements with blocks and of programs promise.
use Rattle.std.specs.Prelude.{ℕ, List, [], ◌∷◌, ◌++◌}
use Rattle.sifc_def.specs.State.{W}
use Rattle.sifc_def.specs.Ast.{ElifStmt}
use Rattle.sifc_def.specs.Text.{line}
use Rattle.sifc_def.specs.Typed.{Expr, Stmt, Stmts, pr, pr_s, pr_ss, lbrace, rbrace, elif_word, else_word}
use Rattle.sifc_def.proofs.Canon.Bytes.{texts, printed}
use Rattle.sifc_def.proofs.Canon.Words.{decl_words}
use Rattle.sifc_put.specs.Place.{Inp, Then, Over}
use Rattle.sifc_put.specs.Post.{Kind, row_l}
use Rattle.sifc_put.specs.Bytes.{bytes_of}
use Rattle.sifc_put.specs.Spans.{Spans, SpansS, SpansBlock, SpansProgram}

-- a statement, and so many one after another
abbrev pub stmt_l : Kind
stmt_l = λ I. record { T = Stmt; S = λ t a b. SpansS I t a b; P = λ t. bytes_of (pr_s t) }

abbrev pub stmts_l : ℕ → Kind
stmts_l n = row_l stmt_l n

-- the print of a block
abbrev pub pr_block : Stmts → List W → List W
pr_block ss rest = lbrace ∷ pr_ss ss (rbrace ∷ rest)

-- a block
abbrev pub block_l : Kind
block_l = λ I. record { T = Stmts; S = λ ss a b. SpansBlock I ss a b; P = λ ss. bytes_of (pr_block ss) }

-- an expression, and then a block
abbrev pub guarded_l : Kind
guarded_l = λ I. record { T = Expr × Stmts; S = λ x a b. Then (λ c d. Spans I x.0 c d) (λ c d. SpansBlock I x.1 c d) a b; P = λ x. bytes_of (pr x.0) ++ bytes_of (pr_block x.1) }

-- a further branch of an `if`
pub data Branch : Type 0 where
  elif : Expr → Stmts → Branch
  els : Stmts → Branch

unfoldable pub pr_branch : Branch → List W → List W
pr_branch (elif e ss) rest = elif_word ∷ pr e (pr_block ss rest)
pr_branch (els ss) rest = else_word ∷ pr_block ss rest

unfoldable pub SpansBranch : Inp → Branch → ℕ → ℕ → Type 0
SpansBranch I (elif e ss) lo hi = Over I ElifStmt 2 (λ a b. Then (λ c d. Spans I e c d) (λ c d. SpansBlock I ss c d) a b) lo hi
SpansBranch I (els ss) lo hi = SpansBlock I ss lo hi

abbrev pub branch_l : Kind
branch_l = λ I. record { T = Branch; S = λ x a b. SpansBranch I x a b; P = λ x. bytes_of (pr_branch x) }

-- so many branches one after another
abbrev pub branches_l : ℕ → Kind
branches_l n = row_l branch_l n

-- a declaration on a line of its own
abbrev pub line_l : Kind
line_l = λ I. record { T = Stmt; S = λ t a b. SpansS I t a b; P = λ t. line (texts (pr_s t [])) }

-- a program: the canonical text of its declarations
abbrev pub program_l : Kind
program_l = λ I. record { T = Stmts; S = λ ts a b. SpansProgram I ts a b; P = λ ts. printed (decl_words ts) }
