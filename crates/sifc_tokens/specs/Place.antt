-- Document 01: "A token at byte offset p has as line 1 plus the newlines before p, and as column the bytes since the last one.
-- Eof at the end of a non-empty script without final newline is one line further, column 0."
use Rattle.std.specs.Prelude.{ℕ, suc, ◌+◌, List, [], ◌∷◌, reverse, true, false, ◌&&◌, eqb, leb, ltb, take, length}
use Rattle.sifc_tokens.specs.declared.place.Place.{Place}
use Rattle.sifc_word.specs.Base.{if◌then◌otherwise◌, span}
use Rattle.sifc_lex.specs.Lex.{in_line}

abbrev pub place : ℕ → ℕ → Place
place l c = record { line = l; pos = c }

unfoldable pub newlines : List ℕ → ℕ
newlines [] = 0
newlines (b ∷ bs) = elim (eqb b 10) [ true ↦ suc (newlines bs) | false ↦ newlines bs ]

-- the bytes since the last newline
unfoldable pub column : List ℕ → ℕ
unfolding span in_line
column s = span in_line (reverse s)

-- the place after the first p bytes
unfoldable pub walked_to : List ℕ → ℕ → Place
unfolding newlines column
walked_to s p = place (1 + newlines (take p s)) (column (take p s))

-- The place of the token at offset p of the script s. Only an Eof stands at the script's end, and bytes stand after the last
-- newline exactly where the script is not empty and has no final newline.
unfoldable pub place_of : List ℕ → ℕ → Place
unfolding walked_to newlines column if◌then◌otherwise◌
place_of s p = if leb (length s) p && ltb 0 (column s) then place (2 + newlines s) 0 otherwise walked_to s p

-- the place after one byte more
unfoldable pub next_place : Place → ℕ → Place
unfolding if◌then◌otherwise◌
next_place q b = if eqb b 10 then place (q.line + 1) 0 otherwise place q.line (q.pos + 1)
