-- reserved.rs: the twelve reserved words with the kinds that they have, and the two standard functions.
use Rattle.std.specs.Prelude.{ℕ, List, [], ◌∷◌, Bool, ◌||◌}
use Rattle.sifc_word.specs.Base.{if◌then◌otherwise◌, same}

pub record Word : Type 0 where
  pub word : List ℕ
  pub kind : ℕ

-- get_reserved_words, in its order: var fn return table array if elif else for in true false
unfoldable pub reserved_words : List Word
reserved_words =
    record { word = 118 ∷ 97 ∷ 114 ∷ []; kind = 34 }
    ∷ record { word = 102 ∷ 110 ∷ []; kind = 35 }
    ∷ record { word = 114 ∷ 101 ∷ 116 ∷ 117 ∷ 114 ∷ 110 ∷ []; kind = 36 }
    ∷ record { word = 116 ∷ 97 ∷ 98 ∷ 108 ∷ 101 ∷ []; kind = 37 }
    ∷ record { word = 97 ∷ 114 ∷ 114 ∷ 97 ∷ 121 ∷ []; kind = 38 }
    ∷ record { word = 105 ∷ 102 ∷ []; kind = 39 }
    ∷ record { word = 101 ∷ 108 ∷ 105 ∷ 102 ∷ []; kind = 40 }
    ∷ record { word = 101 ∷ 108 ∷ 115 ∷ 101 ∷ []; kind = 41 }
    ∷ record { word = 102 ∷ 111 ∷ 114 ∷ []; kind = 42 }
    ∷ record { word = 105 ∷ 110 ∷ []; kind = 43 }
    ∷ record { word = 116 ∷ 114 ∷ 117 ∷ 101 ∷ []; kind = 44 }
    ∷ record { word = 102 ∷ 97 ∷ 108 ∷ 115 ∷ 101 ∷ []; kind = 45 }
    ∷ []

-- the kind of a name among some words: 31, Ident, if it is none of them
unfoldable pub kind_among : List Word → List ℕ → ℕ
unfolding same if◌then◌otherwise◌
kind_among [] name = 31
kind_among (w ∷ ws) name = if same w.word name then w.kind otherwise kind_among ws name

-- lex_ident's kind of a name: the reserved word's, else Ident
unfoldable pub name_kind : List ℕ → ℕ
unfolding kind_among reserved_words
name_kind name = kind_among reserved_words name

-- get_reserved_fns: print and range
unfoldable pub is_std_lib_fn : List ℕ → Bool
unfolding same
is_std_lib_fn name = same (112 ∷ 114 ∷ 105 ∷ 110 ∷ 116 ∷ []) name || same (114 ∷ 97 ∷ 110 ∷ 103 ∷ 101 ∷ []) name
