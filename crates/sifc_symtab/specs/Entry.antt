-- The four words of one symbol, and what the parts of them are.
use Rattle.std.specs.Prelude.{ℕ, ◌+◌, ◌*◌, ◌/◌, ◌%◌, List, get_or, set}
use Rattle.sifc_def.specs.declared.What.{What}
use Rattle.sifc_symtab.specs.declared.entry.Entry.{Entry}
use Rattle.sifc_symtab.specs.Table.{what_of, tag_of, value_of}

-- those of symbol k
abbrev pub entry_of : List ℕ → ℕ → Entry
entry_of symbols k = record { sizes = get_or symbols (4 * k) 0; token = get_or symbols (4 * k + 1) 0; named = get_or symbols (4 * k + 2) 0; links = get_or symbols (4 * k + 3) 0 }

-- the words with those of symbol k
unfoldable pub written : List ℕ → ℕ → Entry → List ℕ
written symbols k e = set (set (set (set symbols (4 * k) e.sizes) (4 * k + 1) e.token) (4 * k + 2) e.named) (4 * k + 3) e.links

-- ── the parts: level_at, hash_at, next_at, head_at and what_at of a symbol's own words ──

abbrev pub level_of : Entry → ℕ
level_of e = e.sizes % 65536

abbrev pub hash_in : Entry → ℕ
hash_in e = e.named / 8

abbrev pub next_of : Entry → ℕ
next_of e = e.links % 65536

abbrev pub head_of : Entry → ℕ
head_of e = e.links / 65536

abbrev pub what_in : Entry → What
what_in e = what_of (e.named % 8) (e.sizes / 65536)

-- ── other parts ──

-- another symbol, whose name is token i's and has the hash h
abbrev pub declared_as : Entry → ℕ → ℕ → What → ℕ → Entry
declared_as e level i w h = record { sizes = level + 65536 * value_of w; token = i; named = tag_of w + 8 * h; links = e.links }

-- another link to what follows the symbol
abbrev pub followed_by : Entry → ℕ → Entry
followed_by e l = record { sizes = e.sizes; token = e.token; named = e.named; links = l + 65536 * head_of e }

-- another link to the first symbol of the bucket with its number
abbrev pub headed_by : Entry → ℕ → Entry
headed_by e l = record { sizes = e.sizes; token = e.token; named = e.named; links = next_of e + 65536 * l }
