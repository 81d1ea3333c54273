-- Lexing, from bytes to tokens: lex.rs. Each definition names the function or the arm of lex.rs that it is drawn from.
use Rattle.std.specs.Prelude.{ℕ, zero, suc, ◌+◌, List, [], ◌∷◌, Bool, false, ◌&&◌, ◌||◌, not, eqb, ltb, take, drop, length}
use Rattle.sifc_err.specs.declared.Token.{Token}
use Rattle.sifc_err.specs.declared.Ending.{Ending}
use Rattle.sifc_err.specs.declared.Ending.TheVariants.{TrueEnd, UnknownChar, UnterminatedString, Panic}
use Rattle.sifc_lex.specs.declared.lex.Step.{Step}
use Rattle.sifc_lex.specs.declared.lex.Step.TheVariants.{Skip, Word, Stop}
use Rattle.sifc_word.specs.Base.{if◌then◌otherwise◌, within, span}
use Rattle.sifc_word.specs.Reserved.{name_kind}

abbrev pub token : ℕ → ℕ → ℕ → Token
token k o l = record { kind = k; off = o; len = l }

-- The classes of a byte below 128. Unicode.antt has the table of the Unicode character database that they equal.

-- char::is_whitespace: "White space is bytes 9 to 13 and 32"
unfoldable pub white : ℕ → Bool
unfolding within
white b = within 9 13 b || eqb b 32

-- char::is_digit(10)
unfoldable pub digit : ℕ → Bool
unfolding within
digit b = within 48 57 b

-- char::is_alphabetic
unfoldable pub letter : ℕ → Bool
unfolding within
letter b = within 65 90 b || within 97 122 b

-- char::is_alphanumeric
unfoldable pub alnum : ℕ → Bool
unfolding letter digit
alnum b = letter b || digit b

-- "a byte of 128 or more" is none
unfoldable pub ascii : ℕ → Bool
ascii b = ltb b 128

-- any byte but a newline
unfoldable pub in_line : ℕ → Bool
in_line b = not (eqb b 10)

-- any byte but a double quote
unfoldable pub in_str : ℕ → Bool
in_str b = not (eqb b 34)

-- The signs: a first byte, a second (0 where there is none) and a kind of token.rs.
pub record Sign : Type 0 where
  pub first : ℕ
  pub second : ℕ
  pub kind : ℕ

abbrev sign : ℕ → ℕ → ℕ → Sign
sign a b k = record { first = a; second = b; kind = k }

-- == <= >= => != && || [[ ]]
unfoldable pub doubles : List Sign
doubles = sign 61 61 22 ∷ sign 60 61 23 ∷ sign 62 61 24 ∷ sign 61 62 25 ∷ sign 33 61 26 ∷ sign 38 38 27 ∷ sign 124 124 28 ∷ sign 91 91 29 ∷ sign 93 93 30 ∷ []

-- ( ) { } [ ] ; = < > . , ! + - * % & | @
unfoldable pub singles : List Sign
singles = sign 40 0 1 ∷ sign 41 0 2 ∷ sign 123 0 3 ∷ sign 125 0 4 ∷ sign 91 0 5 ∷ sign 93 0 6 ∷ sign 59 0 7 ∷ sign 61 0 8 ∷ sign 60 0 9 ∷ sign 62 0 10 ∷ sign 46 0 11 ∷ sign 44 0 12 ∷ sign 33 0 13 ∷ sign 43 0 14 ∷ sign 45 0 15 ∷ sign 42 0 16 ∷ sign 37 0 18 ∷ sign 38 0 19 ∷ sign 124 0 20 ∷ sign 64 0 21 ∷ []

-- the kind of a sign of one byte, and of two; 0 where there is none
unfoldable pub single_kind : List Sign → ℕ → ℕ
unfolding if◌then◌otherwise◌
single_kind [] b = 0
single_kind (s ∷ ss) b = if eqb b s.first then s.kind otherwise single_kind ss b

unfoldable pub double_kind : List Sign → ℕ → ℕ → ℕ
unfolding if◌then◌otherwise◌
double_kind [] b c = 0
double_kind (s ∷ ss) b c = if eqb b s.first && eqb c s.second then s.kind otherwise double_kind ss b c

-- the arms of one byte; the last arm of `lex`: an unknown character
unfoldable pub one_sign : ℕ → Step
unfolding single_kind singles if◌then◌otherwise◌
one_sign b = if eqb (single_kind singles b) 0 then Stop 0 UnknownChar otherwise Word (single_kind singles b) 1

-- the arms that look at the next byte by peek_char
unfoldable pub lex_sign : ℕ → List ℕ → Step
unfolding one_sign double_kind doubles if◌then◌otherwise◌
lex_sign b [] = one_sign b
lex_sign b (c ∷ bs) = if eqb (double_kind doubles b c) 0 then one_sign b otherwise Word (double_kind doubles b c) 2

-- advance_to_next_line: `#` to the line's end or the script's. What ends the line is white space
unfoldable pub hash_comment : List ℕ → Step
unfolding span in_line
hash_comment bs = Skip (1 + span in_line bs)

-- `//` to the line's end; at the script's end the unwrap of the arm '/' panics
unfoldable pub line_end : ℕ → List ℕ → Step
line_end n [] = Stop 0 (Panic 1)
line_end n (c ∷ r) = Skip n

unfoldable pub slash_comment : List ℕ → Step
unfolding line_end span in_line
slash_comment bs = line_end (1 + span in_line bs) (drop (span in_line bs) bs)

-- peek_char finds a byte
unfoldable pub next_is : ℕ → List ℕ → Bool
next_is b [] = false
next_is b (c ∷ bs) = eqb c b

-- the arm '/'
unfoldable pub lex_slash : List ℕ → Step
unfolding next_is slash_comment if◌then◌otherwise◌
lex_slash bs = if next_is 47 bs then slash_comment bs otherwise Word 17 1

-- lex_str: to the next quote, or an Eof at the script's end
unfoldable pub closed : ℕ → List ℕ → Step
closed n [] = Stop (1 + n) UnterminatedString
closed n (c ∷ r) = Word 32 (2 + n)

unfoldable pub lex_str : List ℕ → Step
unfolding closed span in_str
lex_str bs = closed (span in_str bs) (drop (span in_str bs) bs)

-- lex_num after the point: at the script's end the loop takes the point a second time, and advance panics
unfoldable pub pointed : ℕ → List ℕ → Step
pointed n [] = Stop 0 (Panic 2)
pointed n (c ∷ r) = Word 33 n

unfoldable pub fraction : ℕ → List ℕ → Step
unfolding pointed span digit if◌then◌otherwise◌
fraction n [] = Word 33 n
fraction n (c ∷ bs) = if eqb c 46 then pointed (n + 1 + span digit bs) (drop (span digit bs) bs) otherwise Word 33 n

unfoldable pub lex_num : List ℕ → Step
unfolding fraction span digit
lex_num bs = fraction (1 + span digit bs) (drop (span digit bs) bs)

-- lex_ident
unfoldable pub lex_ident : ℕ → List ℕ → Step
unfolding name_kind span alnum
lex_ident b bs = Word (name_kind (b ∷ take (span alnum bs) bs)) (1 + span alnum bs)

-- One turn of `lex` on the bytes that are left. The arms exclude one another, so their order is free; this one has the signs last.
unfoldable pub step : List ℕ → Step
unfolding white digit letter hash_comment lex_slash lex_str lex_num lex_ident lex_sign if◌then◌otherwise◌
step [] = Stop 0 TrueEnd
step (b ∷ bs) =
    if white b then Skip 1
    otherwise if eqb b 35 then hash_comment bs
    otherwise if eqb b 47 then lex_slash bs
    otherwise if eqb b 34 then lex_str bs
    otherwise if digit b then lex_num bs
    otherwise if letter b then lex_ident b bs
    otherwise lex_sign b bs

-- The token that ends a list: Eof, or 48 for a lexing panic. Its length says nothing of the ending.
unfoldable pub end_kind : Ending → ℕ
end_kind TrueEnd = 47
end_kind UnknownChar = 47
end_kind UnterminatedString = 47
end_kind (Panic k) = 48

unfoldable pub end_len : Ending → ℕ
end_len e = 0

-- the tokens, why they end, and the offset of the end
pub record Lexed : Type 0 where
  pub toks : List Token
  pub ending : Ending
  pub at : ℕ

abbrev pub before : Token → Lexed → Lexed
before t l = record { toks = t ∷ l.toks; ending = l.ending; at = l.at }

unfoldable pub ended : Ending → ℕ → Lexed
unfolding end_kind end_len
ended e off = record { toks = token (end_kind e) off (end_len e) ∷ []; ending = e; at = off }

-- What a turn gives, where next lexes the bytes that are left from an offset on.
unfoldable pub on_step : (ℕ → List ℕ → Lexed) → ℕ → List ℕ → Step → Lexed
unfolding ended
on_step next off s (Skip n) = next (off + n) (drop n s)
on_step next off s (Word k n) = before (token k off n) (next (off + n) (drop n s))
on_step next off s (Stop n e) = ended e (off + n)

-- The tokens of the bytes s that stand at offset off. The first argument bounds the turns; each takes a byte or ends, so the
-- number of bytes and one are enough (LexLaws.antt).
unfoldable pub lex_from : ℕ → ℕ → List ℕ → Lexed
unfolding step on_step ended
lex_from zero off s = ended TrueEnd off
lex_from (suc f) off s = on_step (lex_from f) off s (step s)

-- Every token of a script, the last of kind 47 or 48, and why they end.
unfoldable pub lexed : List ℕ → Lexed
unfolding lex_from
lexed s = lex_from (suc (length s)) 0 s

unfoldable pub lex : List ℕ → List Token
unfolding lexed
lex s = (lexed s).toks

unfoldable pub ending : List ℕ → Ending
unfolding lexed
ending s = (lexed s).ending

unfoldable pub end_at : List ℕ → ℕ
unfolding lexed
end_at s = (lexed s).at
