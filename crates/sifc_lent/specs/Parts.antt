-- What the parts of the reading call are to leave, in terms of what each is lent.
use Rattle.std.specs.Prelude.{ℕ, ◌+◌, ◌-◌, ◌*◌, ◌≤◌, ◌<◌, ◌≡◌, List, map, length, take, get_or, Result, Err, Ok}
use Rattle.sifc_err.specs.declared.Token.{Token}
use Rattle.sifc_tokens.specs.declared.place.Place.{Place}
use Rattle.sifc_tokens.specs.Place.{place_of, walked_to}
use Rattle.sifc_tokens.specs.Tokens.{padded, zeroed}
use Rattle.sifc_tokens.specs.Loaded.{Used}
use Rattle.sifc_def.specs.Answer.{Reading}
use Rattle.sifc_def.specs.declared.Summary.{Summary}
use Rattle.sifc_def.specs.State.{Ctx}
use Rattle.sifc_def.specs.Read.{Arrays, cleared_arrays, Called, called, early_of}
use Rattle.sifc_symtab.specs.Toks.{toks_of}
use Rattle.sifc_err.specs.declared.Refusal.{Refusal}
use Rattle.sifc_step.specs.declared.walk.Walked.{Walked}
use Rattle.sifc_step.specs.Book.{last_of}
use Rattle.sifc_lent.specs.declared.place.Spot.{Spot}
use Rattle.sifc_lent.specs.declared.lent.Lent.{Lent}
use Rattle.sifc_lent.specs.declared.error.Toks.{Toks}

-- the seven arrays that are lent
abbrev pub arrays : List ℕ → List ℕ → List ℕ → List ℕ → List ℕ → List ℕ → List ℕ → Arrays
arrays o w h l y p r = record { offs = o; words = w; heads = h; loads = l; symbols = y; places = p; reasons = r }

-- those behind what a call is lent
abbrev pub arrays_of : Lent → Arrays
arrays_of l = arrays l.offs.now l.words.now l.heads.now l.loads.now l.symbols.now l.places.now l.reasons.now

-- arrays that are as long as others
pub record SameLong (b a : Arrays) : Type 0 where
  pub offs : length b.offs ≡ length a.offs
  pub words : length b.words ≡ length a.words
  pub heads : length b.heads ≡ length a.heads
  pub loads : length b.loads ≡ length a.loads
  pub symbols : length b.symbols ≡ length a.symbols
  pub places : length b.places ≡ length a.places
  pub reasons : length b.reasons ≡ length a.reasons

-- b is the same memory as a, and each array of it is as long
pub record KeptLent (a b : Lent) : Type 0 where
  pub offs_name : b.offs.ghost_name ≡ a.offs.ghost_name
  pub words_name : b.words.ghost_name ≡ a.words.ghost_name
  pub heads_name : b.heads.ghost_name ≡ a.heads.ghost_name
  pub loads_name : b.loads.ghost_name ≡ a.loads.ghost_name
  pub symbols_name : b.symbols.ghost_name ≡ a.symbols.ghost_name
  pub places_name : b.places.ghost_name ≡ a.places.ghost_name
  pub reasons_name : b.reasons.ghost_name ≡ a.reasons.ghost_name
  pub long : SameLong (arrays_of b) (arrays_of a)

-- all of them set to 0 but the symbol words
abbrev pub cleared_beside : Arrays → Arrays
cleared_beside a = record (cleared_arrays a) { symbols = a.symbols }

-- so many tokens are there
pub record TokensIn (n : ℕ) (l : Lent) : Type 0 where
  pub offs : n ≤ length l.offs.now
  pub words : n ≤ length l.words.now

-- the tokens of two words each
abbrev pub toks_in : Toks → List Token
toks_in t = toks_of t.offs.now t.words.now

-- the script and the tokens: all of a context that an error's record looks at
abbrev pub bare : List ℕ → List Token → Ctx
bare s ts = record { script = s; toks = ts; fault = 0; node_room = 0; sym_room = 0; err_room = 0 }

-- what the tests of entry let pass
pub record Entered (s : List ℕ) (a : Arrays) : Type 0 where
  pub short : length s < 65536
  pub tokens : length a.offs ≡ length a.words
  pub nodes : length a.heads ≡ length a.loads
  pub errors : length a.places ≡ length a.reasons

-- so many tokens, nodes and errors stand in the arrays, and all past them is 0
pub record UsedBy (tokens nodes errors : ℕ) (a : Arrays) : Type 0 where
  pub offs : Used tokens a.offs
  pub words : Used tokens a.words
  pub heads : Used nodes a.heads
  pub loads : Used nodes a.loads
  pub places : Used errors a.places
  pub reasons : Used errors a.reasons

-- ── places ──

-- so many bytes are passed, and this is the place after them
pub record Reached (s : List ℕ) (x : Spot) : Type 0 where
  pub within : x.at ≤ length s
  pub is : x.place ≡ walked_to s x.at

-- the spot of an offset, or of the script's end
pub record SpotOf (s : List ℕ) (off : ℕ) (x : Spot) : Type 0 where
  pub reached : Reached s x
  pub inside : off < length s → x.at ≡ off
  pub past : length s ≤ off → x.at ≡ length s

-- a place in one word
abbrev pub place_word : Place → ℕ
place_word q = 65536 * (q.line - 1) + q.pos

-- the word of the place of the token at an index, where the tokens have these offsets
unfoldable pub place_word_at : List ℕ → List ℕ → ℕ → ℕ
place_word_at s os i = place_word (place_of s (get_or os i 0))

-- ── what a walk is made into ──

-- so many nodes and errors lie in the arrays
pub record Within (nodes errors : ℕ) (hs ls ps rs : List ℕ) : Type 0 where
  pub heads : nodes ≤ length hs
  pub loads : nodes ≤ length ls
  pub places : errors ≤ length ps
  pub reasons : errors ≤ length rs

-- what a walk came to lies in the arrays
abbrev pub WithinOf : Arrays → Result Walked Refusal → Type 0
WithinOf a (Ok x) = Within x.nodes x.errors a.heads a.loads a.places a.reasons
WithinOf a (Err f) = Unit {0}

-- the first n elements of the token arrays are the tokens, all past them is 0, and the walk over them came to this
pub record Fits (s : List ℕ) (a : Arrays) (n : ℕ) (r : Result Walked Refusal) : Type 0 where
  pub short : length s < 65536
  pub offs : Used n a.offs
  pub words : Used n a.words
  pub within : WithinOf a r

-- what a walk over the first n tokens came to lies in the arrays
pub record Settles (s : List ℕ) (a : Arrays) (n : ℕ) (w : Walked) : Type 0 where
  pub short : length s < 65536
  pub offs : n ≤ length a.offs
  pub within : Within w.nodes w.errors a.heads a.loads a.places a.reasons

-- the answer of a walk over all of these tokens
unfoldable pub summary_of : List ℕ → List ℕ → List ℕ → Walked → Summary
summary_of s os ws x = record { tokens = length os; nodes = x.nodes; errors = x.errors; flag = x.flag; early = early_of (bare s (toks_of os ws)) (last_of x.last) }

-- the arrays after a walk over tokens of these offsets; the token arrays stay
unfoldable pub settled_of : List ℕ → List ℕ → Walked → Arrays → Arrays
settled_of s os x a =
    record {
      offs = a.offs;
      words = a.words;
      heads = padded (take x.nodes a.heads) (length a.heads);
      loads = padded (take x.nodes a.loads) (length a.loads);
      symbols = zeroed a.symbols;
      places = padded (map (place_word_at s os) (take x.errors a.places)) (length a.places);
      reasons = padded (take x.errors a.reasons) (length a.reasons);
    }

-- the answer and the arrays, where the first n elements of the token arrays are the tokens
unfoldable pub finish_of : List ℕ → ℕ → Result Walked Refusal → Arrays → Called Reading
finish_of s n (Err f) a = called (Err f) (cleared_arrays a)
finish_of s n (Ok x) a = called (Ok (summary_of s (take n a.offs) (take n a.words) x)) (settled_of s (take n a.offs) x a)
