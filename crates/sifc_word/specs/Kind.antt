-- token.rs: the kinds of a token, numbered from 1 in the order of TokenTy (document 01). 48 marks a lexing panic at the end of a token list.
use Rattle.std.specs.Prelude.{ℕ}

abbrev pub LeftParen : ℕ
LeftParen = 1

abbrev pub RightParen : ℕ
RightParen = 2

abbrev pub LeftBrace : ℕ
LeftBrace = 3

abbrev pub RightBrace : ℕ
RightBrace = 4

abbrev pub LeftBracket : ℕ
LeftBracket = 5

abbrev pub RightBracket : ℕ
RightBracket = 6

abbrev pub Semicolon : ℕ
Semicolon = 7

abbrev pub Eq : ℕ
Eq = 8

abbrev pub Lt : ℕ
Lt = 9

abbrev pub Gt : ℕ
Gt = 10

abbrev pub Period : ℕ
Period = 11

abbrev pub Comma : ℕ
Comma = 12

abbrev pub Bang : ℕ
Bang = 13

abbrev pub Plus : ℕ
Plus = 14

abbrev pub Minus : ℕ
Minus = 15

abbrev pub Star : ℕ
Star = 16

abbrev pub Slash : ℕ
Slash = 17

abbrev pub Percent : ℕ
Percent = 18

abbrev pub Amp : ℕ
Amp = 19

abbrev pub Pipe : ℕ
Pipe = 20

abbrev pub At : ℕ
At = 21

abbrev pub EqEq : ℕ
EqEq = 22

abbrev pub LtEq : ℕ
LtEq = 23

abbrev pub GtEq : ℕ
GtEq = 24

abbrev pub EqArrow : ℕ
EqArrow = 25

abbrev pub BangEq : ℕ
BangEq = 26

abbrev pub AmpAmp : ℕ
AmpAmp = 27

abbrev pub PipePipe : ℕ
PipePipe = 28

abbrev pub DoubleLeftBracket : ℕ
DoubleLeftBracket = 29

abbrev pub DoubleRightBracket : ℕ
DoubleRightBracket = 30

abbrev pub Ident : ℕ
Ident = 31

abbrev pub Str : ℕ
Str = 32

abbrev pub Val : ℕ
Val = 33

abbrev pub Var : ℕ
Var = 34

abbrev pub Fn : ℕ
Fn = 35

abbrev pub Return : ℕ
Return = 36

abbrev pub Table : ℕ
Table = 37

abbrev pub Array : ℕ
Array = 38

abbrev pub If : ℕ
If = 39

abbrev pub Elif : ℕ
Elif = 40

abbrev pub Else : ℕ
Else = 41

abbrev pub For : ℕ
For = 42

abbrev pub In : ℕ
In = 43

abbrev pub True : ℕ
True = 44

abbrev pub False : ℕ
False = 45

abbrev pub Std : ℕ
Std = 46

abbrev pub Eof : ℕ
Eof = 47

-- no kind of the Rust's: a lexing panic, which ends a token list
abbrev pub LexPanic : ℕ
LexPanic = 48
