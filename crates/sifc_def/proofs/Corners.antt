-- Corners of the reference that a reader of document 01 can miss, each checked by running the Rust.
use Rattle.std.specs.Prelude.{ℕ, zero, suc, ◌≡◌, refl, List, [], ◌∷◌, ◌++◌, map, true, false, None, Some}
use Prim.Native.String.{String}
use Rattle.sifc_err.specs.declared.Refusal.TheVariants.{SourceFault, TooDeep, NodesFull, SymbolsFull, ErrorsFull}
use Rattle.sifc_err.specs.declared.parse_err.ParseErrTy.TheVariants.{TknMismatch}
use Rattle.sifc_word.specs.Kind.{LeftParen, RightParen, Semicolon, Eq, Star, Percent, Ident, Str, Val, Var, Eof, LexPanic}
use Rattle.sifc_lex.specs.Lex.{token}
use Rattle.sifc_def.specs.Ast.{Program, ExprStmt, VarDecl, FnCallExpr, BinaryExpr, PrimaryExpr}
use Rattle.sifc_def.specs.State.{node}
use Rattle.sifc_def.specs.Ascii.{ascii}
use Rattle.sifc_def.specs.Case.{Case, reads, says, answers, listed, Short, no, ok, early, ran, said}

-- with room enough
abbrev pub ample : List ℕ → Short → Case
ample s x = says 2000 20 10 s x

-- n times the bytes of a text
unfoldable pub many : ℕ → String → List ℕ
many zero s = []
many (suc n) s = ascii s ++ many n s

-- ── the depth ──

-- 768 counted calls, and one more: the other limits stand in sifc_cases
pub depths : List Case
unfolding many
depths =
    ample (many 765 "-" ++ ascii "1;") (ok 768 [] false)
    ∷ ample (many 766 "-" ++ ascii "1;") (no TooDeep)
    ∷ []

pub deep : map ran depths ≡ map said depths
unfolding ran said depths
deep = refl

-- ── the corners ──

pub corners : List Case
corners =
    -- one suffix; a second only behind parentheses or `@`
    ample (ascii "print(1)(2);") (early 1 [] 1 8 6)
    ∷ ample (ascii "print(1).a;") (early 1 [] 1 8 6)
    ∷ ample (ascii "var a; a[0][1];") (early 2 [] 1 11 6)
    ∷ ample (ascii "(print(1))(2);") (no (SourceFault 3 10))
    ∷ ample (ascii "@print(1)(2);") (no (SourceFault 3 9))
    ∷ ample (ascii "@print(1).a;") (no (SourceFault 4 9))
    ∷ ample (ascii "var a; (a[0])[1];") (no (SourceFault 5 13))
    ∷ ample (ascii "var a; @a[0].b;") (no (SourceFault 4 12))
    -- a lexing panic right behind wins, and what stands inside comes first
    ∷ ample (ascii "(1)(2)// c") (no (SourceFault 1 6))
    ∷ ample (ascii "(1+2)(2)1.") (no (SourceFault 2 8))
    ∷ ample (ascii "(1+2).a// c") (no (SourceFault 1 7))
    ∷ ample (ascii "(1+2)[1]// c") (no (SourceFault 1 8))
    ∷ ample (ascii "(1)(zz);") (ok 1 (listed 1 4 9 4 0 ∷ listed 1 6 2 5 0 ∷ listed 1 7 2 6 0 ∷ []) true)
    ∷ ample (ascii "(1)(2;") (early 1 [] 1 5 6)
    ∷ ample (ascii "(1+2)[zz];") (ok 1 (listed 1 6 9 6 0 ∷ listed 1 8 2 7 0 ∷ listed 1 9 2 8 0 ∷ []) true)
    ∷ ample (ascii "(1+2).zz;") (no (SourceFault 4 5))
    -- name checking is one flag: each completed dot switches it on
    ∷ ample (ascii "var t; t.(t.b)+q;") (ok 2 (listed 1 15 9 11 0 ∷ listed 1 16 2 12 0 ∷ []) true)
    ∷ ample (ascii "var t; t.print(q,t.b,q);") (ok 2 (listed 1 21 9 13 0 ∷ listed 1 22 2 14 0 ∷ listed 1 23 2 15 0 ∷ []) true)
    ∷ ample (ascii "var t; t.(t.b)=1; q;") (ok 2 (listed 1 14 3 10 0 ∷ listed 1 16 2 12 0 ∷ listed 1 18 9 13 0 ∷ listed 1 19 2 14 0 ∷ []) true)
    -- the name check of a call skips the token after `)`
    ∷ ample (ascii "\"zz\"(1); q;") (ok 1 (listed 1 7 9 0 0 ∷ listed 1 9 9 5 0 ∷ listed 1 10 2 6 0 ∷ []) true)
    -- the two places of InvalidAssign, and assignment to what is no variable
    ∷ ample (ascii "1=2;") (ok 1 (listed 1 3 3 0 0 ∷ listed 1 3 2 3 0 ∷ []) true)
    ∷ ample (ascii "(1)=2;") (ok 1 (listed 1 5 3 1 0 ∷ listed 1 5 2 5 0 ∷ []) true)
    ∷ ample (ascii "1+1=2;") (ok 1 (listed 1 3 3 3 0 ∷ listed 1 5 2 5 0 ∷ []) true)
    ∷ ample (ascii "fn f(){} f=1;") (ok 5 (listed 1 12 9 6 0 ∷ listed 1 12 2 9 0 ∷ []) true)
    ∷ ample (ascii "print=1;") (ok 1 (listed 1 7 9 0 0 ∷ listed 1 7 2 3 0 ∷ []) true)
    ∷ ample (ascii "var a; (a)=2; (a[0])=2;") (ok 11 [] false)
    -- a missing name, a missing table key, a missing `=` or `;`, the end of the file
    ∷ ample (ascii "fn f(,) f(1,2);") (ok 6 (listed 1 5 1 3 0 ∷ listed 1 5 11 3 0 ∷ listed 1 5 2 3 0 ∷ listed 1 6 2 4 0 ∷ []) true)
    ∷ ample (ascii "var t=[[1=>2]];") (early 1 (listed 1 8 1 4 0 ∷ listed 1 8 2 0 3 ∷ []) 1 9 6)
    ∷ ample (ascii "var a 1;") (ok 3 (listed 1 6 2 0 1 ∷ []) true)
    ∷ ample (ascii "print(1,\n") (ok 1 (listed 2 0 2 0 2 ∷ []) true)
    -- a call through a variable expects no argument
    ∷ ample (ascii "var a; a(); a(1);") (ok 5 (listed 1 16 8 0 1 ∷ listed 1 16 2 11 0 ∷ []) true)
    -- a failed block leaves its level raised: the next variable is not global, and its assignment is not either
    ∷ ample (ascii "var a; { q; } a=1;") (ok 6 (listed 1 9 9 4 0 ∷ listed 1 10 2 5 0 ∷ listed 1 12 2 6 0 ∷ []) true)
    -- `[[` and `]]` are greedy
    ∷ ample (ascii "var a; var b=[a[0]];") (early 2 [] 1 17 6)
    -- a number's second point, and a number before a spaced point
    ∷ ample (ascii "1.2.3; 1..a; 1 .a;") (ok 13 [] false)
    -- a lexing panic behind an early end; a string that names a standard function; the example of the listing program
    -- "`%` binds tighter than `*`"
    ∷ reads "1*2%3;"
    (answers
    (token Val 0 1 ∷ token Star 1 1 ∷ token Val 2 1 ∷ token Percent 3 1 ∷ token Val 4 1 ∷ token Semicolon 5 1 ∷ token Eof 6 0 ∷ [])
    (node PrimaryExpr false 0 0 ∷ node PrimaryExpr false 0 2 ∷ node PrimaryExpr false 0 4 ∷ node BinaryExpr false 2 3 ∷ node BinaryExpr false 2 1 ∷ node ExprStmt false 1 0
    ∷ node Program false 1 0 ∷ [])
    [] false None)
    ∷ reads "5 5 // c"
    (answers (token Val 0 1 ∷ token Val 2 1 ∷ token LexPanic 4 0 ∷ []) (node Program false 0 0 ∷ []) [] true
    (Some (record { line = 1; pos = 2; ty = Some (TknMismatch Semicolon (token Val 2 1)) })))
    ∷ reads "\"print\"(1);"
    (answers (token Str 0 7 ∷ token LeftParen 7 1 ∷ token Val 8 1 ∷ token RightParen 9 1 ∷ token Semicolon 10 1 ∷ token Eof 11 0 ∷ [])
    (node PrimaryExpr false 0 0 ∷ node PrimaryExpr false 0 2 ∷ node FnCallExpr true 2 0 ∷ node ExprStmt false 1 0 ∷ node Program false 1 0 ∷ []) [] false None)
    ∷ reads "var a = 1;\n"
    (answers (token Var 0 3 ∷ token Ident 4 1 ∷ token Eq 6 1 ∷ token Val 8 1 ∷ token Semicolon 9 1 ∷ token Eof 11 0 ∷ [])
    (node PrimaryExpr false 0 3 ∷ node VarDecl true 1 1 ∷ node Program false 1 0 ∷ []) [] false None)
    -- where the rooms end: nodes, symbols, errors
    ∷ says 0 20 10 (ascii "1// c") (no NodesFull)
    ∷ says 0 20 10 (ascii "fn f(a// c") (no (SourceFault 1 6))
    ∷ says 9 20 0 (ascii "a// c") (no ErrorsFull)
    ∷ says 9 20 1 (ascii "a// c") (no (SourceFault 1 1))
    ∷ says 0 0 10 (ascii "var a;") (no NodesFull)
    ∷ says 1 0 10 (ascii "var a;") (no SymbolsFull)
    ∷ says 1 1 10 (ascii "var a;") (no NodesFull)
    ∷ says 2 1 10 (ascii "var a; var a; var b;") (no NodesFull)
    ∷ says 3 1 10 (ascii "var a; var a; var b;") (no SymbolsFull)
    ∷ says 1 20 10 (ascii "var t=[[]]// c") (no (SourceFault 1 10))
    ∷ says 9 0 10 (ascii "var t=[[]]// c") (no (SourceFault 1 10))
    ∷ says 9 0 10 (ascii "var t=[[]] 1;") (no SymbolsFull)
    ∷ says 9 0 10 (ascii "var t=[] 1;") (early 1 [] 1 9 6)
    ∷ says 4 20 0 (ascii "if 1{}else{}else{}") (no ErrorsFull)
    ∷ says 4 20 9 (ascii "if 1{}else{}else{}") (no NodesFull)
    ∷ says 9 0 10 (ascii "fn f// c") (no (SourceFault 1 4))
    ∷ says 7 20 10 (ascii "var a;a[0]=1;") (ok 7 [] false)
    ∷ says 6 20 10 (ascii "var a;a[0]=1;") (no NodesFull)
    ∷ says 4 20 10 (ascii "(1+2).3;") (no (SourceFault 4 5))
    ∷ says 3 20 10 (ascii "(1+2).3;") (no NodesFull)
    ∷ []

pub cornered : map ran corners ≡ map said corners
unfolding ran said corners
cornered = refl
