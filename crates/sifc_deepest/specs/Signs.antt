-- What lets the parser's calls nest: the tokens ( { [ = . ! - @, each of one byte. How many of them are passed. In comments and strings the bytes count too.
use Rattle.std.specs.Prelude.{ℕ, zero, suc, ◌+◌, List, [], ◌∷◌, Bool}
use Rattle.sifc_err.specs.declared.Token.{Token}
use Rattle.sifc_word.specs.Base.{member}
use Rattle.sifc_word.specs.Kind.{LeftParen, LeftBrace, LeftBracket, Eq, Period, Bang, Minus, At}
use Rattle.sifc_def.specs.Read.{bit}

-- the kinds after which a counted call is made
unfoldable pub nests : ℕ → Bool
unfolding member
nests k = member k (LeftParen ∷ LeftBrace ∷ LeftBracket ∷ Eq ∷ Period ∷ Bang ∷ Minus ∷ At ∷ [])

-- the bytes of these tokens
unfoldable pub opens : ℕ → Bool
unfolding member
opens b = member b (40 ∷ 123 ∷ 91 ∷ 61 ∷ 46 ∷ 33 ∷ 45 ∷ 64 ∷ [])

-- how many bytes of a script are such signs
unfoldable pub signs : List ℕ → ℕ
unfolding opens
signs [] = 0
signs (b ∷ bs) = bit (opens b) + signs bs

-- how many tokens are, of all and of the first i
unfoldable pub nesting : List Token → ℕ
unfolding nests
nesting [] = 0
nesting (t ∷ ts) = bit (nests t.kind) + nesting ts

unfoldable pub opened : List Token → ℕ → ℕ
unfolding nests
opened ts zero = 0
opened [] (suc i) = 0
opened (t ∷ ts) (suc i) = bit (nests t.kind) + opened ts i
