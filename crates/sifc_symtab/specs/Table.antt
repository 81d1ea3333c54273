-- The symbol table in its lent words, four to a symbol: its level and what it was declared with; its name's token; what it was declared as and its name's
-- hash; and two links of the chains by which it is found. Nothing outside this crate knows more of them than syms_of says.
use Rattle.std.specs.Prelude.{Option as Found, Some, None, Result, Ok, Err, ℕ, zero, suc, ◌+◌, ◌*◌, ◌/◌, ◌%◌, ◌≤◌, ◌<◌, min, ◌≡◌, List, [], ◌∷◌, Bool, true, false, eqb, leb, length, get_or, set}
use Rattle.std.proofs.Math.Option.{Option, none, some}
use Rattle.sifc_word.specs.Base.{if◌then◌otherwise◌}
use Rattle.sifc_def.specs.declared.What.{What}
use Rattle.sifc_def.specs.declared.What.TheVariants.{Placeholder, Function, Variable, Other}
use Rattle.sifc_def.specs.Read.{words_per_symbol}
use Rattle.sifc_def.specs.State.{Sym, name_of, word_in, token_at}
use Rattle.sifc_def.specs.Symbols.{find, put_at}
use Rattle.sifc_err.specs.declared.Refusal.{Refusal}
use Rattle.sifc_err.specs.declared.Refusal.TheVariants.{SymbolsFull}
use Rattle.sifc_symtab.specs.Toks.{toks_of}
use Rattle.sifc_symtab.specs.Chains.{Chains}

-- The name of token i: the definition's name_at, of a script and the two token arrays.
abbrev pub name_in : List ℕ → List ℕ → List ℕ → ℕ → List ℕ
name_in script offs words i = name_of (word_in script (token_at (toks_of offs words) i))

-- ── what a symbol was declared as: a tag and a value ──

unfoldable pub what_of : ℕ → ℕ → What
what_of tag value =
    if eqb tag 0 then Placeholder
    otherwise if eqb tag 1 then Function value
    otherwise if eqb tag 2 then Variable value false
    otherwise if eqb tag 3 then Variable value true
    otherwise Other

unfoldable pub tag_of : What → ℕ
tag_of Placeholder = 0
tag_of (Function n) = 1
tag_of (Variable i false) = 2
tag_of (Variable i true) = 3
tag_of Other = 4

unfoldable pub value_of : What → ℕ
value_of Placeholder = 0
value_of (Function n) = n
value_of (Variable i g) = i
value_of Other = 0

-- ── the parts of a symbol's words ──

-- word 0: the level + 65,536 * the value
unfoldable pub level_at : List ℕ → ℕ → ℕ
level_at symbols k = get_or symbols (4 * k) 0 % 65536

-- and the value
abbrev pub value_at : List ℕ → ℕ → ℕ
value_at symbols k = get_or symbols (4 * k) 0 / 65536

-- word 1: the token under whose name it was stored last
abbrev pub token_in : List ℕ → ℕ → ℕ
token_in symbols k = get_or symbols (4 * k + 1) 0

-- word 2: the tag + 8 * the hash of the name
abbrev pub tag_at : List ℕ → ℕ → ℕ
tag_at symbols k = get_or symbols (4 * k + 2) 0 % 8

-- and the hash
unfoldable pub hash_at : List ℕ → ℕ → ℕ
hash_at symbols k = get_or symbols (4 * k + 2) 0 / 8

-- word 3: the link to the next symbol of its chain + 65,536 * the link to the first symbol of the bucket with its number. A link is a symbol's number + 1,
-- or 0 for none.
unfoldable pub next_at : List ℕ → ℕ → ℕ
next_at symbols k = get_or symbols (4 * k + 3) 0 % 65536

-- and the head
unfoldable pub head_at : List ℕ → ℕ → ℕ
head_at symbols k = get_or symbols (4 * k + 3) 0 / 65536

-- ── the hash of a name ──

-- one byte more
abbrev pub hash_step : ℕ → ℕ → ℕ
hash_step h b = (h * 16777619 + b) % 536870912

-- all bytes, from h on
unfoldable pub hash_from : ℕ → List ℕ → ℕ
hash_from h [] = h
hash_from h (b ∷ bs) = hash_from (hash_step h b) bs

-- the hash of a name, less than 2 ^ 29
abbrev pub hash_of : List ℕ → ℕ
hash_of s = hash_from 0 s

-- ── the symbols that the words stand for ──

-- what symbol k was declared as
abbrev pub what_at : List ℕ → ℕ → What
what_at symbols k = what_of (tag_at symbols k) (value_at symbols k)

-- symbol k
unfoldable pub sym_at : List ℕ → List ℕ → List ℕ → List ℕ → ℕ → Sym
sym_at script offs words symbols k = record { level = level_at symbols k; name = name_in script offs words (token_in symbols k); what = what_at symbols k }

-- m symbols from number k on
unfoldable pub listed : (ℕ → Sym) → ℕ → ℕ → List Sym
listed f k zero = []
listed f k (suc m) = f k ∷ listed f (suc k) m

-- the first n symbols, oldest first
unfoldable pub syms_of : List ℕ → List ℕ → List ℕ → List ℕ → ℕ → List Sym
syms_of script offs words symbols n = listed (sym_at script offs words symbols) 0 n

-- "Symbol capacity is words / 4, rounded down"
abbrev pub room_of : List ℕ → ℕ
room_of symbols = length symbols / words_per_symbol

-- ── what is written ──

-- the words with the symbol written as number k, whose name has the hash h
unfoldable pub entered : List ℕ → ℕ → ℕ → ℕ → What → ℕ → List ℕ
entered symbols k level i w h = set (set (set symbols (4 * k) (level + 65536 * value_of w)) (4 * k + 1) i) (4 * k + 2) (tag_of w + 8 * h)

-- the words with the link to what follows symbol k
unfoldable pub with_next : List ℕ → ℕ → ℕ → List ℕ
with_next symbols k l = set symbols (4 * k + 3) (l + 65536 * head_at symbols k)

-- the words with the link to the first symbol of bucket b
unfoldable pub with_head : List ℕ → ℕ → ℕ → List ℕ
with_head symbols b l = set symbols (4 * b + 3) (next_at symbols b + 65536 * l)

-- ── the chains ──

-- As many buckets as there is room for symbols, and at most one more than tokens.
abbrev pub buckets_of : List ℕ → List ℕ → ℕ
buckets_of words symbols = min (room_of symbols) (length words + 1)

-- the bucket of symbol k, by its name's hash
abbrev pub bucket_at : List ℕ → List ℕ → ℕ → ℕ
bucket_at words symbols k = hash_at symbols k % buckets_of words symbols

-- A link has 16 bits: the symbols up to this number are linked. The others, of which no reading has any, are searched one by one.
abbrev pub linked : ℕ
linked = 65535

-- ── what the two calls take and answer ──

-- The words hold n symbols, each with its name's hash, and those with numbers below `linked` are in the chains of their buckets.
pub record Holds (script offs words symbols : List ℕ) (n : ℕ) : Type 0 where
  pub room : n * 4 ≤ length symbols
  pub hashes : (k : ℕ) → k < n → hash_at symbols k ≡ hash_of (name_in script offs words (token_in symbols k))
  pub chains : Chains (buckets_of words symbols) (min n linked) (level_at symbols) (bucket_at words symbols) (next_at symbols) (head_at symbols)

-- open: the words hold no symbol, of whatever script
abbrev pub Opens : List ℕ → List ℕ → Type 0
Opens words symbols = (script offs : List ℕ) → Holds script offs words symbols 0

-- What is stored fits its words: levels and values are fewer than 65,536, and the name's token is a word.
pub record Fits (script offs words symbols : List ℕ) (n level i : ℕ) (w : What) : Type 0 where
  pub holds : Holds script offs words symbols n
  pub level-fits : level < 65536
  pub name-fits : i < 4294967296
  pub value-fits : value_of w < 65536

-- what retrieve answers, as the definition has it
abbrev pub found_of : Found What → Option What
found_of None = none
found_of (Some w) = some w

-- the number that comes with what was found: a count or a token
abbrev pub value_in : Found What → ℕ
value_in None = 0
value_in (Some w) = value_of w

module _ (script offs words symbols : List ℕ) (n level i : ℕ) where
  -- retrieve: what the definition finds
  abbrev pub Retrieves : Found What → Type 0
  Retrieves r = found_of r ≡ find level (name_in script offs words i) (syms_of script offs words symbols n)

  -- the definition's table after a store
  abbrev pub new_table : What → List Sym
  new_table w = put_at level (name_in script offs words i) w (syms_of script offs words symbols n)

  -- whether there is room for it
  abbrev pub room_for : What → Bool
  room_for w = leb (length (new_table w)) (room_of symbols)

  pub record Put (w : What) (m : ℕ) (symbols' : List ℕ) : Type 0 where
    pub room : room_for w ≡ true
    pub table : syms_of script offs words symbols' m ≡ new_table w
    pub holds : Holds script offs words symbols' m

  pub record NoRoom (w : What) (refusal : Refusal) (symbols' : List ℕ) : Type 0 where
    pub is : refusal ≡ SymbolsFull
    pub room : room_for w ≡ false
    pub kept : symbols' ≡ symbols

  -- store: the number of symbols that there are now, and the words stand for the definition's table; or refusal 8, exactly when that has no room, and the
  -- words are as they were.
  abbrev pub Stores : What → Result ℕ Refusal → List ℕ → Type 0
  Stores w (Ok m) symbols' = Put w m symbols'
  Stores w (Err refusal) symbols' = NoRoom w refusal symbols'
