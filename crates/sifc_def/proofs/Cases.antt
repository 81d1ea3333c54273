-- Document 01, "Small scripts": the marked ones (*), one table and one theorem, by computation.
use Rattle.std.specs.Prelude.{◌≡◌, refl, List, [], ◌∷◌, map, true, false, None, Ok, Some}
use Rattle.sifc_err.specs.declared.Refusal.TheVariants.{SourceFault}
use Rattle.sifc_err.specs.declared.parse_err.ParseErrTy.TheVariants.{TknMismatch}
use Rattle.sifc_word.specs.Kind.{LeftBrace, RightBrace, Semicolon, Eq, Period, DoubleLeftBracket, DoubleRightBracket, Ident, Val, Var, If, Else, True, Eof}
use Rattle.sifc_lex.specs.Lex.{token}
use Rattle.sifc_def.specs.Ast.{Program, Block, IfStmt, ExprStmt, VarDecl, ItemList, Table, PrimaryExpr}
use Rattle.sifc_def.specs.State.{node}
use Rattle.sifc_def.specs.Case.{Case, reads, writes, ends, listed, answers, refuses, ran, said}

pub table : List Case
table =
    ends "" 1 0
    ∷ reads "" (answers (token Eof 0 0 ∷ []) (node Program false 0 0 ∷ []) [] false None)
    ∷ ends "a" 2 0
    ∷ reads "a" (answers (token Ident 0 1 ∷ token Eof 1 0 ∷ []) (node Program false 0 0 ∷ []) (listed 1 0 9 0 0 ∷ []) true None)
    ∷ reads "{ var a = 1; } { a; }"
    (answers
    (token LeftBrace 0 1 ∷ token Var 2 3 ∷ token Ident 6 1 ∷ token Eq 8 1 ∷ token Val 10 1 ∷ token Semicolon 11 1 ∷ token RightBrace 13 1
    ∷ token LeftBrace 15 1 ∷ token Ident 17 1 ∷ token Semicolon 18 1 ∷ token RightBrace 20 1 ∷ token Eof 21 0 ∷ [])
    (node PrimaryExpr false 0 4 ∷ node VarDecl false 1 2 ∷ node Block false 1 1 ∷ node PrimaryExpr false 0 8 ∷ node ExprStmt false 1 0 ∷ node Block false 1 1
    ∷ node Program false 2 0 ∷ [])
    [] false None)
    ∷ reads "if true { } else { } else { }"
    (answers
    (token If 0 2 ∷ token True 3 4 ∷ token LeftBrace 8 1 ∷ token RightBrace 10 1 ∷ token Else 12 4 ∷ token LeftBrace 17 1 ∷ token RightBrace 19 1
    ∷ token Else 21 4 ∷ token LeftBrace 26 1 ∷ token RightBrace 28 1 ∷ token Eof 29 0 ∷ [])
    (node PrimaryExpr false 0 1 ∷ node Block false 0 1 ∷ node Block false 0 1 ∷ node Block false 0 1 ∷ node IfStmt false 4 0 ∷ node Program false 1 0 ∷ [])
    (listed 2 0 5 0 0 ∷ []) false None)
    ∷ reads "5 5;"
    (answers (token Val 0 1 ∷ token Val 2 1 ∷ token Semicolon 3 1 ∷ token Eof 4 0 ∷ []) (node Program false 0 0 ∷ []) [] true
    (Some (record { line = 1; pos = 2; ty = Some (TknMismatch Semicolon (token Val 2 1)) })))
    ∷ reads "var 1 = 2;"
    (answers (token Var 0 3 ∷ token Val 4 1 ∷ token Eq 6 1 ∷ token Val 8 1 ∷ token Semicolon 9 1 ∷ token Eof 10 0 ∷ []) (node Program false 0 0 ∷ [])
    (listed 1 4 1 1 0 ∷ listed 1 4 11 1 0 ∷ listed 1 9 3 1 0 ∷ listed 1 9 2 4 0 ∷ []) true None)
    ∷ reads "$" (answers (token Eof 0 0 ∷ []) (node Program false 0 0 ∷ []) [] false None)
    ∷ reads "// c" (refuses (SourceFault 1 0))
    ∷ reads "1.5" (refuses (SourceFault 2 0))
    ∷ reads "(true)(1);" (refuses (SourceFault 3 6))
    ∷ reads "var t = [[]]; t.z = 1; q;"
    (answers
    (token Var 0 3 ∷ token Ident 4 1 ∷ token Eq 6 1 ∷ token DoubleLeftBracket 8 2 ∷ token DoubleRightBracket 10 2 ∷ token Semicolon 12 1 ∷ token Ident 14 1
    ∷ token Period 15 1 ∷ token Ident 16 1 ∷ token Eq 18 1 ∷ token Val 20 1 ∷ token Semicolon 21 1 ∷ token Ident 23 1 ∷ token Semicolon 24 1 ∷ token Eof 25 0 ∷ [])
    (node ItemList false 0 0 ∷ node Table false 1 1 ∷ node VarDecl true 1 1 ∷ node PrimaryExpr false 0 12 ∷ node ExprStmt false 1 0 ∷ node Program false 2 0 ∷ [])
    (listed 1 21 9 8 0 ∷ listed 1 21 2 11 0 ∷ []) true None)
    ∷ writes 30 "var a=(1+2)*3;" (Ok 24) "var a = ( 1 + 2 ) * 3 ;\n"
    ∷ []

pub marked : map ran table ≡ map said table
unfolding ran said table
marked = refl
