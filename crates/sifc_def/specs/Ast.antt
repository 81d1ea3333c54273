-- ast.rs: the kinds of a node. "Kinds 1 to 24 follow `AstNode` from Program to PrimaryExpr" (document 01).
use Rattle.std.specs.Prelude.{ℕ}

abbrev pub Program : ℕ
Program = 1

abbrev pub Block : ℕ
Block = 2

abbrev pub IfStmt : ℕ
IfStmt = 3

abbrev pub ElifStmt : ℕ
ElifStmt = 4

abbrev pub ForStmt : ℕ
ForStmt = 5

abbrev pub ReturnStmt : ℕ
ReturnStmt = 6

abbrev pub ExprStmt : ℕ
ExprStmt = 7

abbrev pub VarDecl : ℕ
VarDecl = 8

abbrev pub FnDecl : ℕ
FnDecl = 9

abbrev pub FnParams : ℕ
FnParams = 10

abbrev pub IdentPair : ℕ
IdentPair = 11

abbrev pub ItemList : ℕ
ItemList = 12

abbrev pub TableItem : ℕ
TableItem = 13

abbrev pub Table : ℕ
Table = 14

abbrev pub TableAccess : ℕ
TableAccess = 15

abbrev pub Array : ℕ
Array = 16

abbrev pub ArrayItems : ℕ
ArrayItems = 17

abbrev pub ArrayAccess : ℕ
ArrayAccess = 18

abbrev pub ArrayMutExpr : ℕ
ArrayMutExpr = 19

abbrev pub FnCallExpr : ℕ
FnCallExpr = 20

abbrev pub VarAssignExpr : ℕ
VarAssignExpr = 21

abbrev pub BinaryExpr : ℕ
BinaryExpr = 22

abbrev pub UnaryExpr : ℕ
UnaryExpr = 23

abbrev pub PrimaryExpr : ℕ
PrimaryExpr = 24
