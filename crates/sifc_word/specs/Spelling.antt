-- Document 01: "A token's spelling is a part of the script or of the fixed spelling list (the strings of `Display`). A Str's spelling lacks
-- its quotes." token.rs, fmt.
use Rattle.std.specs.Prelude.{ℕ, zero, suc, ◌+◌, ◌-◌, ◌<◌, ◌≡◌, refl, List, [], ◌∷◌, ◌++◌, ◌||◌, eqb, get_or, take, length}
use Rattle.std.proofs.Common.{length-append}
use Rattle.std.proofs.Math.ListN.{get_or-eq_default}
use Rattle.std.proofs.Math.Seq.{drop-append-add, take-append_seam}
use Rattle.sifc_word.specs.Base.{if◌then◌otherwise◌, part}
use Rattle.sifc_word.specs.Kind.{Ident, Str, Val}

-- The strings of Display by kind, from 0, which is no kind, to 47, Eof. Ident, Str and Val have none of their own.
-- ( ) { } [ ] ; = < > . , ! + - * / % & | @ == <= >= => != && || [[ ]], three empty, var fn return table array if elif else for in true false std EOF
unfoldable pub displays : List (List ℕ)
displays = [] ∷ (40 ∷ []) ∷ (41 ∷ []) ∷ (123 ∷ []) ∷ (125 ∷ []) ∷ (91 ∷ []) ∷ (93 ∷ []) ∷ (59 ∷ []) ∷ (61 ∷ []) ∷ (60 ∷ []) ∷ (62 ∷ []) ∷ (46 ∷ []) ∷ (44 ∷ []) ∷ (33 ∷ []) ∷ (43 ∷ []) ∷ (45 ∷ []) ∷ (42 ∷ []) ∷ (47 ∷ []) ∷ (37 ∷ []) ∷ (38 ∷ []) ∷ (124 ∷ []) ∷ (64 ∷ []) ∷ (61 ∷ 61 ∷ []) ∷ (60 ∷ 61 ∷ []) ∷ (62 ∷ 61 ∷ []) ∷ (61 ∷ 62 ∷ []) ∷ (33 ∷ 61 ∷ []) ∷ (38 ∷ 38 ∷ []) ∷ (124 ∷ 124 ∷ []) ∷ (91 ∷ 91 ∷ []) ∷ (93 ∷ 93 ∷ []) ∷ [] ∷ [] ∷ [] ∷ (118 ∷ 97 ∷ 114 ∷ []) ∷ (102 ∷ 110 ∷ []) ∷ (114 ∷ 101 ∷ 116 ∷ 117 ∷ 114 ∷ 110 ∷ []) ∷ (116 ∷ 97 ∷ 98 ∷ 108 ∷ 101 ∷ []) ∷ (97 ∷ 114 ∷ 114 ∷ 97 ∷ 121 ∷ []) ∷ (105 ∷ 102 ∷ []) ∷ (101 ∷ 108 ∷ 105 ∷ 102 ∷ []) ∷ (101 ∷ 108 ∷ 115 ∷ 101 ∷ []) ∷ (102 ∷ 111 ∷ 114 ∷ []) ∷ (105 ∷ 110 ∷ []) ∷ (116 ∷ 114 ∷ 117 ∷ 101 ∷ []) ∷ (102 ∷ 97 ∷ 108 ∷ 115 ∷ 101 ∷ []) ∷ (115 ∷ 116 ∷ 100 ∷ []) ∷ (69 ∷ 79 ∷ 70 ∷ []) ∷ []

unfoldable pub display : ℕ → List ℕ
unfolding displays
display kind = get_or displays kind []

unfoldable pub joined : List (List ℕ) → List ℕ
joined [] = []
joined (x ∷ xs) = x ++ joined xs

-- The fixed spelling list has them end to end.
unfoldable pub spellings : List ℕ
unfolding joined displays
spellings = joined displays

-- where a kind's string begins in it
unfoldable pub start_of : ℕ → ℕ
unfolding joined displays
start_of kind = length (joined (take kind displays))

-- The spelling of a token, given its kind, offset and length: a part of the script, or of the list that is lent as the fixed one.
unfoldable pub spelling_of : List ℕ → List ℕ → ℕ → ℕ → ℕ → List ℕ
unfolding if◌then◌otherwise◌ display start_of
spelling_of script fixed kind off len =
    if eqb kind Str then part (off + 1) (len - 2) script
    otherwise if eqb kind Ident || eqb kind Val then part off len script
    otherwise part (start_of kind) (length (display kind)) fixed

part-joined : (xs : List (List ℕ)) (k : ℕ) → part (length (joined (take k xs))) (length (get_or xs k [])) (joined xs) ≡ get_or xs k []
unfolding joined
part-joined [] k = refl
part-joined (x ∷ xs) zero = take-append_seam x (joined xs)
part-joined (x ∷ xs) (suc k) = rw (length-append x (joined (take k xs)), drop-append-add x (joined xs) (length (joined (take k xs)))) (part-joined xs k)

-- The part of the fixed list that stands for a kind is the Rust's string.
pub part-is-display : (kind : ℕ) → part (start_of kind) (length (display kind)) spellings ≡ display kind
unfolding start_of display spellings
part-is-display kind = part-joined displays kind

pub display-none : (kind : ℕ) → 47 < kind → display kind ≡ []
unfolding display displays
display-none kind h = get_or-eq_default displays [] h
