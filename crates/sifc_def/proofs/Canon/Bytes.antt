-- The bytes of a print: the words of each declaration with a space after each, a newline after the last. They lex to those words, and then Eof.
use Rattle.std.specs.Prelude.{ℕ, suc, ◌+◌, ◌≤◌, ◌<◌, ◌≡◌, List, [], ◌∷◌, ◌++◌, map, Bool, true, false, ◌⊎◌, T, length}
use Rattle.std.proofs.Math.Path.{refl}
use Rattle.std.proofs.Common.{sym, ap, ◌∙◌, append_assoc, append-nil, inr}
use Rattle.std.proofs.Math.Logic.{inl}
use Rattle.std.proofs.Math.Seq.{drop-append_seam}
use Rattle.sifc_err.specs.declared.Token.{Token}
use Rattle.sifc_err.specs.declared.Ending.TheVariants.{TrueEnd}
use Rattle.sifc_lex.specs.declared.lex.Step.TheVariants.{Skip}
use Rattle.sifc_word.specs.Base.{if◌then◌otherwise◌, span}
use Rattle.sifc_word.specs.BaseLaws.{span-yes, true_of}
use Rattle.sifc_lex.specs.Lex.{step, on_step, ended, lexed, lex, ending}
use Rattle.sifc_lex.proofs.LexLaws.{lex_at, lex_at-turn}
use Rattle.sifc_lex.proofs.LexTrip.{Spelt, sep, Good, Item, bytes, Goods, spell, spelt, lex-words}
use Rattle.sifc_def.specs.State.{W, word_in}
use Rattle.sifc_lex.specs.Lex.{ascii as is_ascii}
use Rattle.sifc_def.specs.Text.{line}

-- ── words and their separators ──

-- a word of the reading as a word of lexing
abbrev pub spelt_of : W → Spelt
spelt_of x = record { kind = x.kind; text = x.text }

-- a word with a space after it, or with a newline
abbrev pub item : Bool → W → Item
item b x = record { spelt = spelt_of x; space = b }

-- a declaration's words: a space after each but the last, a newline after that
unfoldable pub items_of : List W → List Item
items_of [] = []
items_of (x ∷ []) = item false x ∷ []
items_of (x ∷ y ∷ ys) = item true x ∷ items_of (y ∷ ys)

-- the words of all declarations
unfoldable pub items_of_all : List (List W) → List Item
items_of_all [] = []
items_of_all (d ∷ ds) = items_of d ++ items_of_all ds

-- the bytes of a print, declaration by declaration
unfoldable pub printed : List (List W) → List ℕ
printed ds = bytes (items_of_all ds)

-- the declarations' words in one row
unfoldable pub joined : List (List W) → List W
joined [] = []
joined (d ∷ ds) = d ++ joined ds

-- the texts of words
unfoldable pub texts : List W → List (List ℕ)
texts ws = map (λ (x : W). x.text) ws

-- ── what is asked of a word ──

-- bytes below 128
unfoldable pub Plain : List ℕ → Type 0
Plain [] = Unit {0}
Plain (b ∷ bs) = T (is_ascii b) × Plain bs

-- a token, before a separator one token of its kind, and ASCII
pub record Fine (x : W) : Type 0 where
  pub good : Good (spelt_of x)
  pub some : 0 < length x.text
  pub token : x.kind ≤ 45
  pub plain : Plain x.text

-- of each word
unfoldable pub AllFine : List W → Type 0
AllFine [] = Unit {0}
AllFine (x ∷ xs) = Fine x × AllFine xs

-- of each declaration's words
unfoldable pub EachFine : List (List W) → Type 0
EachFine [] = Unit {0}
EachFine (d ∷ ds) = AllFine d × EachFine ds

-- ── laws ──

-- The bytes of one row of words after another.
pub bytes-append : (xs ys : List Item) → bytes (xs ++ ys) ≡ bytes xs ++ bytes ys
unfolding bytes
bytes-append [] ys = refl
bytes-append (x ∷ xs) ys =
    rw (bytes-append xs ys, append_assoc x.spelt.text (sep x.space ∷ bytes xs) (bytes ys)) refl

-- the definition's line is these bytes
pub line-bytes : (ws : List W) → line (texts ws) ≡ bytes (items_of ws)
unfolding line texts items_of bytes sep
line-bytes [] = refl
line-bytes (x ∷ []) = refl
line-bytes (x ∷ y ∷ ys) = ap (λ (z : List ℕ). x.text ++ 32 ∷ z) (line-bytes (y ∷ ys))

-- A print begins with the line of its first declaration.
pub printed-more : (d : List W) (ds : List (List W)) → printed (d ∷ ds) ≡ line (texts d) ++ printed ds
unfolding printed items_of_all
printed-more d ds = rw (line-bytes d) (bytes-append (items_of d) (items_of_all ds))

-- A declaration's fine words are lexed to themselves.
goods-one : (ws : List W) → AllFine ws → Goods (items_of ws)
unfolding AllFine items_of Goods
goods-one [] f = tt
goods-one (x ∷ []) f = (f.0.good, f.0.some, tt)
goods-one (x ∷ y ∷ ys) f = (f.0.good, f.0.some, goods-one (y ∷ ys) f.1)

-- Two rows of such words in one.
goods-append : (xs ys : List Item) → Goods xs → Goods ys → Goods (xs ++ ys)
unfolding Goods
goods-append [] ys g h = h
goods-append (x ∷ xs) ys g h = (g.0, g.1, goods-append xs ys g.2 h)

-- All declarations' fine words are lexed to themselves.
goods-all : (ds : List (List W)) → EachFine ds → Goods (items_of_all ds)
unfolding EachFine items_of_all
goods-all [] f = unfold Goods in tt
goods-all (d ∷ ds) f = goods-append (items_of d) (items_of_all ds) (goods-one d f.0) (goods-all ds f.1)

-- ── lexing a print ──

-- a word of lexing as a word of the reading
abbrev pub word_of : Spelt → W
word_of x = record { kind = x.kind; text = x.text }

-- the word of Eof
abbrev pub eof : W
eof = record { kind = 47; text = [] }

-- A script's words are what its tokens spell.
words-spelt : (s : List ℕ) (ts : List Token) → map (word_in s) ts ≡ map word_of (map (spell s) ts)
unfolding spell
words-spelt s [] = refl
words-spelt s (t ∷ ts) = ap (λ (z : List W). word_in s t ∷ z) (words-spelt s ts)

-- What a declaration's words spell, before others.
spelt-one : (ws : List W) (r : List Item) → map word_of (spelt (items_of ws ++ r)) ≡ ws ++ map word_of (spelt r)
unfolding items_of spelt
spelt-one [] r = refl
spelt-one (x ∷ []) r = refl
spelt-one (x ∷ y ∷ ys) r = ap (λ (z : List W). x ∷ z) (spelt-one (y ∷ ys) r)

-- What all words spell, and then Eof.
spelt-all : (ds : List (List W)) → map word_of (spelt (items_of_all ds)) ≡ joined ds ++ (eof ∷ [])
unfolding items_of_all joined
spelt-all [] = unfold spelt in refl
spelt-all (d ∷ ds) = rw (spelt-one d (items_of_all ds), spelt-all ds, append_assoc d (joined ds) (eof ∷ [])) refl

-- The tokens of a print are its words, and then Eof.
pub print-lexed : (ds : List (List W)) → EachFine ds → map (word_in (printed ds)) (lex (printed ds)) ≡ joined ds ++ (eof ∷ [])
unfolding printed
print-lexed ds f =
    rw (words-spelt (bytes (items_of_all ds)) (lex (bytes (items_of_all ds))), lex-words (items_of_all ds) (goods-all ds f)) (spelt-all ds)

-- A separator is skipped.
sep-white : (q : Bool) (rest : List ℕ) → step (sep q ∷ rest) ≡ Skip 1
unfolding step sep if◌then◌otherwise◌
sep-white true rest = refl
sep-white false rest = refl

-- one word and its separator: the end is that of what follows
end-word : (off : ℕ) (x : Item) (rest : List ℕ) → Good x.spelt
    → (lex_at off (x.spelt.text ++ (sep x.space ∷ rest))).ending ≡ (lex_at (off + length x.spelt.text + 1) rest).ending
unfolding Good on_step
end-word off x rest g =
    let t : List ℕ = x.spelt.text in
    let r : List ℕ = sep x.space ∷ rest in
    rw (lex_at-turn off (t ++ r), g x.space rest, drop-append_seam t r) (rw (lex_at-turn (off + length t) r, sep-white x.space rest) refl)

-- Words that are lexed to themselves end at the true end.
end-words : (xs : List Item) (off : ℕ) → Goods xs → (lex_at off (bytes xs)).ending ≡ TrueEnd
unfolding Goods bytes
end-words [] off g = unfold step on_step ended in rw (lex_at-turn off []) refl
end-words (x ∷ xs) off g = end-word off x (bytes xs) g.0 ∙ end-words xs (off + length x.spelt.text + 1) g.2

-- A print ends at its true end: no unknown character, no open string, no panic.
pub print-ends : (ds : List (List W)) → EachFine ds → ending (printed ds) ≡ TrueEnd
unfolding printed ending lexed lex_at
print-ends ds f = end-words (items_of_all ds) 0 (goods-all ds f)

-- ── the bytes themselves ──

-- One ASCII list after another.
plain-append : (s t : List ℕ) → Plain s → Plain t → Plain (s ++ t)
unfolding Plain
plain-append [] t p q = q
plain-append (b ∷ s) t p q = (p.0, plain-append s t p.1 q)

-- A separator is ASCII.
plain-sep : (q : Bool) → T (is_ascii (sep q))
unfolding sep is_ascii
plain-sep true = tt
plain-sep false = tt

-- A declaration's line is ASCII.
plain-one : (ws : List W) → AllFine ws → Plain (bytes (items_of ws))
unfolding AllFine items_of bytes Plain
plain-one [] f = tt
plain-one (x ∷ []) f = plain-append x.text (sep false ∷ []) f.0.plain (plain-sep false, tt)
plain-one (x ∷ y ∷ ys) f = plain-append x.text (sep true ∷ bytes (items_of (y ∷ ys))) f.0.plain (plain-sep true, plain-one (y ∷ ys) f.1)

-- All lines are ASCII.
plain-all : (ds : List (List W)) → EachFine ds → Plain (bytes (items_of_all ds))
unfolding EachFine items_of_all
plain-all [] f = unfold bytes Plain in tt
plain-all (d ∷ ds) f = rw (bytes-append (items_of d) (items_of_all ds)) (plain-append (bytes (items_of d)) (bytes (items_of_all ds)) (plain-one d f.0) (plain-all ds f.1))

-- Every byte of an ASCII list passes the test of entry.
pub span-plain : (s : List ℕ) → Plain s → span is_ascii s ≡ length s
unfolding Plain
span-plain [] p = unfold span in refl
span-plain (b ∷ s) p = span-yes is_ascii b s (true_of (is_ascii b) p.0) ∙ ap suc (span-plain s p.1)

-- No byte of a print is 128 or more.
pub print-ascii : (ds : List (List W)) → EachFine ds → span is_ascii (printed ds) ≡ length (printed ds)
unfolding printed
print-ascii ds f = span-plain (bytes (items_of_all ds)) (plain-all ds f)

-- a list that is empty or ends in a newline
unfoldable pub Lined : List ℕ → Type 0
Lined s = (s ≡ []) ⊎ ((p : List ℕ) × (s ≡ p ++ (10 ∷ [])))

-- A declaration's line ends in a newline.
lined-one : (x : W) (ws : List W) → (p : List ℕ) × (bytes (items_of (x ∷ ws)) ≡ p ++ (10 ∷ []))
unfolding items_of bytes sep
lined-one x [] = (x.text, refl)
lined-one x (y ∷ ys) =
    let h : (p : List ℕ) × (bytes (items_of (y ∷ ys)) ≡ p ++ (10 ∷ [])) = lined-one y ys in
    (x.text ++ 32 ∷ h.0, ap (λ (z : List ℕ). x.text ++ 32 ∷ z) h.1 ∙ sym (append_assoc x.text (32 ∷ h.0) (10 ∷ [])))

-- One list of lines after another.
lined-append : (s t : List ℕ) → Lined s → Lined t → Lined (s ++ t)
unfolding Lined
lined-append s t (inl a) (inl b) = inl (rw (a, b) refl)
lined-append s t (inr a) (inl b) = inr (a.0, rw (b, append-nil s) a.1)
lined-append s t (inl a) (inr b) = inr (b.0, rw a b.1)
lined-append s t (inr a) (inr b) = inr (s ++ b.0, rw (b.1, append_assoc s b.0 (10 ∷ [])) refl)

-- A declaration's line is empty or ends in a newline.
lined-items : (ws : List W) → Lined (bytes (items_of ws))
unfolding Lined
lined-items [] = inl (unfold items_of bytes in refl)
lined-items (x ∷ ws) = inr (lined-one x ws)

-- So do all lines.
lined-all : (ds : List (List W)) → Lined (bytes (items_of_all ds))
unfolding items_of_all
lined-all [] = unfold Lined bytes in inl refl
lined-all (d ∷ ds) = rw (bytes-append (items_of d) (items_of_all ds)) (lined-append (bytes (items_of d)) (bytes (items_of_all ds)) (lined-items d) (lined-all ds))

-- A print is empty or ends in a newline.
pub print-lined : (ds : List (List W)) → Lined (printed ds)
unfolding printed
print-lined ds = lined-all ds
