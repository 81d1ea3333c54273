-- Words with one separator after each are lexed to those words; and a lexed token is such a word.
use Prim.Native.Nat.{ℕ, zero, suc, ◌+◌, ◌≤◌, ◌<◌}
use Rattle.std.proofs.Math.Path.{◌≡◌, refl, sym, ap, subst, subst₂}
use Rattle.std.proofs.Common.{ap₂, ◌∙◌, one-add, eqb-true, eqb→eq, drop-drop, take-add, take_at}
use mathlib.Core.List.{List, [], ◌∷◌, ◌++◌, map, append_assoc}
use Rattle.std.specs.Prelude.{Bool, ◌&&◌, not, T}
use Rattle.std.proofs.Math.Bool.{true, false}
use native.Mathlib.Omega.{arith}
use Rattle.std.proofs.lemmas.Bool.{eqb-false}
use Rattle.std.proofs.Math.Dec.{eqb}
use Rattle.std.proofs.Math.ListN.{take, drop, length, length-append}
use Rattle.std.proofs.Math.Seq.{drop_at, drop-append_seam, take-append_seam}
use Rattle.sifc_err.specs.declared.Token.{Token}
use Rattle.sifc_err.specs.declared.Ending.{Ending}
use Rattle.sifc_err.specs.declared.Ending.TheVariants.{TrueEnd, UnknownChar, UnterminatedString, Panic}
use Rattle.sifc_lex.specs.declared.lex.Step.{Step}
use Rattle.sifc_lex.specs.declared.lex.Step.TheVariants.{Skip, Word, Stop}
use Rattle.sifc_word.specs.Base.{if◌then◌otherwise◌, within, span, part}
use Rattle.sifc_word.specs.BaseLaws.{and_left, and_right, true_of, false_of, span-again, length-span, span-stop}
use Rattle.sifc_word.specs.Reserved.{name_kind}
use Rattle.sifc_lex.specs.Lex.{token, white, digit, letter, alnum, in_line, in_str, Sign, doubles, singles, single_kind, double_kind, one_sign, next_is, lex_slash, line_end, hash_comment, slash_comment, closed, lex_str, pointed, fraction, lex_num, lex_ident, lex_sign, step, on_step, ended, end_kind, Lexed, lex_from, lexed, lex}
use Rattle.sifc_lex.proofs.LexLaws.{lex_at, lex_at-turn}

pub record Spelt : Type 0 where
  pub kind : ℕ
  pub text : List ℕ

-- a space or a line's end
unfoldable pub sep : Bool → ℕ
sep true = 32
sep false = 10

-- before a separator it is one token of its kind
unfoldable pub Good : Spelt → Type 0
Good x = (q : Bool) (rest : List ℕ) → step (x.text ++ (sep q ∷ rest)) ≡ Word x.kind (length x.text)

pub record Item : Type 0 where
  pub spelt : Spelt
  pub space : Bool

-- each word with its separator
unfoldable pub bytes : List Item → List ℕ
bytes [] = []
bytes (x ∷ xs) = x.spelt.text ++ (sep x.space ∷ bytes xs)

unfoldable pub Goods : List Item → Type 0
Goods [] = Unit {0}
Goods (x ∷ xs) = Good x.spelt × (0 < length x.spelt.text) × Goods xs

-- what a script's tokens spell
unfoldable pub spell : List ℕ → Token → Spelt
spell s t = record { kind = t.kind; text = part t.off t.len s }

unfoldable pub spelt : List Item → List Spelt
spelt [] = record { kind = 47; text = [] } ∷ []
spelt (x ∷ xs) = x.spelt ∷ spelt xs

white-sep : (q : Bool) (rest : List ℕ) → step (sep q ∷ rest) ≡ Skip 1
unfolding step sep if◌then◌otherwise◌
white-sep true rest = refl
white-sep false rest = refl

part_at : (p t r : List ℕ) → part (length p) (length t) (p ++ (t ++ r)) ≡ t
part_at p t r = rw (drop-append_seam p (t ++ r)) (take-append_seam t r)

-- one word and its separator
lex-word : (off : ℕ) (x : Item) (rest : List ℕ) → Good x.spelt
    → (lex_at off (x.spelt.text ++ (sep x.space ∷ rest))).toks ≡ token x.spelt.kind off (length x.spelt.text) ∷ (lex_at (off + length x.spelt.text + 1) rest).toks
unfolding Good on_step
lex-word off x rest g =
    let t : List ℕ = x.spelt.text in
    let r : List ℕ = sep x.space ∷ rest in
    rw (lex_at-turn off (t ++ r), g x.space rest, drop-append_seam t r) (rw (lex_at-turn (off + length t) r, white-sep x.space rest) refl)

abbrev same_kind : ℕ → List ℕ → Spelt
same_kind k t = record { kind = k; text = t }

-- all the words: p are the bytes before
lex-words-after : (xs : List Item) (p : List ℕ) → Goods xs → map (spell (p ++ bytes xs)) (lex_at (length p) (bytes xs)).toks ≡ spelt xs
unfolding Goods bytes spelt spell
lex-words-after [] p g = unfold lex_at lex_from step end_kind in refl
lex-words-after (x ∷ xs) p g =
    let t : List ℕ = x.spelt.text in
    let b : ℕ = sep x.space in
    let p' : List ℕ = p ++ (t ++ (b ∷ [])) in
    let e₁ : p' ++ bytes xs ≡ p ++ (t ++ (b ∷ bytes xs)) = append_assoc p (t ++ (b ∷ [])) (bytes xs) ∙ ap (λ (z : List ℕ). p ++ z) (append_assoc t (b ∷ []) (bytes xs)) in
    let l₁ : length (t ++ (b ∷ [])) ≡ length t + 1 = length-append t (b ∷ []) in
    let l₂ : length p' ≡ length p + length (t ++ (b ∷ [])) = length-append p (t ++ (b ∷ [])) in
    let e₂ : length p' ≡ length p + length t + 1 = omega arith in
    let ih : map (spell (p' ++ bytes xs)) (lex_at (length p') (bytes xs)).toks ≡ spelt xs = lex-words-after xs p' g.2 in
    let tl : map (spell (p ++ (t ++ (b ∷ bytes xs)))) (lex_at (length p + length t + 1) (bytes xs)).toks ≡ spelt xs = subst₂ (λ (S : List ℕ) (n : ℕ). map (spell S) (lex_at n (bytes xs)).toks ≡ spelt xs) e₁ e₂ ih in
    let hd : spell (p ++ (t ++ (b ∷ bytes xs))) (token x.spelt.kind (length p) (length t)) ≡ x.spelt = ap (λ (z : List ℕ). same_kind x.spelt.kind z) (part_at p t (b ∷ bytes xs)) in
    rw (lex-word (length p) x (bytes xs) g.0) (ap₂ (λ (y : Spelt) (ys : List Spelt). y ∷ ys) hd tl)

-- Words with one space or newline after each lex to those words, and then Eof.
pub lex-words : (xs : List Item) → Goods xs → map (spell (bytes xs)) (lex (bytes xs)) ≡ spelt xs
unfolding lex lexed lex_at
lex-words xs g = lex-words-after xs [] g

-- ── a lexed token is such a word ──

if-case : {X : Type 0} (q : Bool) (x y z : Step) → (T q → x ≡ z → X) → (T (not q) → y ≡ z → X) → (if q then x otherwise y) ≡ z → X
unfolding if◌then◌otherwise◌
if-case true x y z f g e = f tt e
if-case false x y z f g e = g tt e

eqb-not : (a b : ℕ) → (a ≡ b → ⊥) → eqb a b ≡ false
eqb-not a b h = go (eqb a b) refl
  where
    go : (x : Bool) → eqb a b ≡ x → x ≡ false
    go true e = absurd (h (eqb→eq a b (rw e tt)))
    go false e = refl

letter-not : (b : ℕ) → T (letter b) → eqb b 47 ≡ false
unfolding letter within
letter-not b t = eqb-not b 47 (λ e. let z : T (letter 47) = subst (λ (n : ℕ). T (letter n)) e t in z)

sep-alnum : (q : Bool) → alnum (sep q) ≡ false
unfolding sep alnum letter digit within
sep-alnum true = refl
sep-alnum false = refl

-- a lex_ident
name-step : (b : ℕ) (X : List ℕ) → T (not (white b)) → T (not (eqb b 35)) → T (not (eqb b 34)) → T (not (digit b)) → T (letter b) → step (b ∷ X) ≡ lex_ident b X
unfolding step if◌then◌otherwise◌
name-step b X w h s d l = rw (false_of (white b) w, false_of (eqb b 35) h, letter-not b l, false_of (eqb b 34) s, false_of (digit b) d, true_of (letter b) l) refl

good-name : (b : ℕ) (bs : List ℕ) → T (not (white b)) → T (not (eqb b 35)) → T (not (eqb b 34)) → T (not (digit b)) → T (letter b)
    → Good (same_kind (name_kind (b ∷ take (span alnum bs) bs)) (b ∷ take (span alnum bs) bs))
unfolding Good lex_ident
good-name b bs w h s d l q rest =
    let X : List ℕ = take (span alnum bs) bs ++ (sep q ∷ rest) in
    let m : span alnum X ≡ span alnum bs = span-again alnum bs (sep q) rest (sep-alnum q) in
    let t : take (span alnum bs) X ≡ take (span alnum bs) bs = take_at (take (span alnum bs) bs) (sep q ∷ rest) (span alnum bs) (length-span alnum bs) in
    rw (name-step b X w h s d l) (rw (m, t, length-span alnum bs, one-add (span alnum bs)) refl)

-- ── strings and numbers ──

take-one-more : (m : ℕ) (bs : List ℕ) (c : ℕ) (r : List ℕ) → drop m bs ≡ c ∷ r → take (suc m) bs ≡ take m bs ++ (c ∷ [])
take-one-more zero [] c r e = absurd (let z : ◌≡◌ {A = ℕ} 0 1 = cc in let y : ⊥ = omega arith in y)
take-one-more zero (b ∷ bs) c r e = let y : b ≡ c = cc in ap (λ (z : ℕ). z ∷ []) y
take-one-more (suc m) [] c r e = absurd (let z : ◌≡◌ {A = ℕ} 0 1 = cc in let y : ⊥ = omega arith in y)
take-one-more (suc m) (b ∷ bs) c r e = ap (λ (z : List ℕ). b ∷ z) (take-one-more m bs c r e)

-- a lex_str, its closed quote included
good-string : (bs : List ℕ) → Good (same_kind 32 (34 ∷ (take (span in_str bs) bs ++ (34 ∷ []))))
unfolding Good if◌then◌otherwise◌
good-string bs q rest =
    let m : ℕ = span in_str bs in
    let t : List ℕ = take m bs in
    let X : List ℕ = t ++ (34 ∷ (sep q ∷ rest)) in
    let e₁ : (t ++ (34 ∷ [])) ++ (sep q ∷ rest) ≡ X = append_assoc t (34 ∷ []) (sep q ∷ rest) in
    let e₂ : span in_str X ≡ m = span-again in_str bs 34 (sep q ∷ rest) (unfold in_str in refl) in
    let e₃ : drop m X ≡ 34 ∷ (sep q ∷ rest) = drop_at t (34 ∷ (sep q ∷ rest)) m (length-span in_str bs) in
    let e₄ : length (t ++ (34 ∷ [])) ≡ length t + 1 = length-append t (34 ∷ []) in
    let e₅ : length t ≡ m = length-span in_str bs in
    rw e₁ (string-step X ∙ string_eq X m (sep q ∷ rest) e₂ e₃ ∙ ap (Word 32) (let z : 2 + m ≡ suc (length (t ++ (34 ∷ []))) = omega arith in z))
  where
    string-step : (X : List ℕ) → step (34 ∷ X) ≡ lex_str X
    string-step X = unfold step in refl

    string_eq : (X : List ℕ) (m : ℕ) (r : List ℕ) → span in_str X ≡ m → drop m X ≡ 34 ∷ r → lex_str X ≡ Word 32 (2 + m)
    string_eq X m r e d = unfold lex_str in rw (e, d) refl

digit_not : (b : ℕ) → T (digit b) → eqb b 47 ≡ false
unfolding digit within
digit_not b t = eqb-not b 47 (λ e. let z : T (digit 47) = subst (λ (n : ℕ). T (digit n)) e t in z)

sep-digit : (q : Bool) → digit (sep q) ≡ false
unfolding sep digit within
sep-digit true = refl
sep-digit false = refl

number_step : (b : ℕ) (X : List ℕ) → T (not (white b)) → T (not (eqb b 35)) → T (not (eqb b 34)) → T (digit b) → step (b ∷ X) ≡ lex_num X
unfolding step if◌then◌otherwise◌
number_step b X w h s d = rw (false_of (white b) w, false_of (eqb b 35) h, digit_not b d, false_of (eqb b 34) s, true_of (digit b) d) refl

sep-point : (n : ℕ) (q : Bool) (rest : List ℕ) → fraction n (sep q ∷ rest) ≡ Word 33 n
unfolding fraction sep if◌then◌otherwise◌
sep-point n true rest = refl
sep-point n false rest = refl

-- a lex_num without a point
good-whole : (b : ℕ) (bs : List ℕ) → T (not (white b)) → T (not (eqb b 35)) → T (not (eqb b 34)) → T (digit b) → Good (same_kind 33 (b ∷ take (span digit bs) bs))
unfolding Good lex_num
good-whole b bs w h s d q rest =
    let m : ℕ = span digit bs in
    let X : List ℕ = take m bs ++ (sep q ∷ rest) in
    let e₂ : span digit X ≡ m = span-again digit bs (sep q) rest (sep-digit q) in
    let e₃ : drop m X ≡ sep q ∷ rest = drop_at (take m bs) (sep q ∷ rest) m (length-span digit bs) in
    rw (number_step b X w h s d, e₂, e₃, sep-point (1 + m) q rest, length-span digit bs, one-add m) refl

-- a lex_num with a point
good-point : (b : ℕ) (bs r : List ℕ) → T (not (white b)) → T (not (eqb b 35)) → T (not (eqb b 34)) → T (digit b) → Good (same_kind 33 (b ∷ (take (span digit bs) bs ++ (46 ∷ take (span digit r) r))))
unfolding Good if◌then◌otherwise◌
good-point b bs r w h s d q rest =
    let m : ℕ = span digit bs in
    let k : ℕ = span digit r in
    let Y : List ℕ = take k r ++ (sep q ∷ rest) in
    let X : List ℕ = take m bs ++ (46 ∷ Y) in
    let e₁ : (take m bs ++ (46 ∷ take k r)) ++ (sep q ∷ rest) ≡ X = append_assoc (take m bs) (46 ∷ take k r) (sep q ∷ rest) in
    let e₂ : span digit X ≡ m = span-again digit bs 46 Y (unfold digit within in refl) in
    let e₃ : drop m X ≡ 46 ∷ Y = drop_at (take m bs) (46 ∷ Y) m (length-span digit bs) in
    let e₄ : span digit Y ≡ k = span-again digit r (sep q) rest (sep-digit q) in
    let e₅ : drop k Y ≡ sep q ∷ rest = drop_at (take k r) (sep q ∷ rest) k (length-span digit r) in
    let l₁ : length (take m bs ++ (46 ∷ take k r)) ≡ length (take m bs) + suc (length (take k r)) = length-append (take m bs) (46 ∷ take k r) in
    let l₂ : length (take m bs) ≡ m = length-span digit bs in
    let l₃ : length (take k r) ≡ k = length-span digit r in
    rw e₁ (number_step b X w h s d ∙ number-eq X Y m k (sep q) rest e₂ e₃ e₄ e₅ ∙ ap (Word 33) (let z : 1 + m + 1 + k ≡ suc (length (take m bs ++ (46 ∷ take k r))) = omega arith in z))
  where
    number-eq : (X Y : List ℕ) (m k c : ℕ) (r : List ℕ) → span digit X ≡ m → drop m X ≡ 46 ∷ Y → span digit Y ≡ k → drop k Y ≡ c ∷ r → lex_num X ≡ Word 33 (1 + m + 1 + k)
    number-eq X Y m k c r a b' c' d' = unfold lex_num fraction pointed in rw (a, b') (rw (c', d') refl)

-- ── lex_sign: each of the two tables by computation ──

either : (P : Bool → Type 0) → P true → P false → (q : Bool) → P q
either P a b true = a
either P a b false = b

AllSingle : List Sign → Type 0
AllSingle [] = Unit {0}
AllSingle (x ∷ xs) = Good (same_kind x.kind (x.first ∷ [])) × AllSingle xs

AllDouble : List Sign → Type 0
AllDouble [] = Unit {0}
AllDouble (x ∷ xs) = Good (same_kind x.kind (x.first ∷ x.second ∷ [])) × AllDouble xs

all-singles : AllSingle singles
unfolding AllSingle singles Good step sep if◌then◌otherwise◌
all-singles = ((either _ (λ rest. refl) (λ rest. refl), (either _ (λ rest. refl) (λ rest. refl), (either _ (λ rest. refl) (λ rest. refl), (either _ (λ rest. refl) (λ rest. refl), (either _ (λ rest. refl) (λ rest. refl), (either _ (λ rest. refl) (λ rest. refl), (either _ (λ rest. refl) (λ rest. refl), (either _ (λ rest. refl) (λ rest. refl), (either _ (λ rest. refl) (λ rest. refl), (either _ (λ rest. refl) (λ rest. refl), (either _ (λ rest. refl) (λ rest. refl), (either _ (λ rest. refl) (λ rest. refl), (either _ (λ rest. refl) (λ rest. refl), (either _ (λ rest. refl) (λ rest. refl), (either _ (λ rest. refl) (λ rest. refl), (either _ (λ rest. refl) (λ rest. refl), (either _ (λ rest. refl) (λ rest. refl), (either _ (λ rest. refl) (λ rest. refl), (either _ (λ rest. refl) (λ rest. refl), (either _ (λ rest. refl) (λ rest. refl), tt)))))))))))))))))))))

all-doubles : AllDouble doubles
unfolding AllDouble doubles Good step sep if◌then◌otherwise◌
all-doubles = (either _ (λ rest. refl) (λ rest. refl), (either _ (λ rest. refl) (λ rest. refl), (either _ (λ rest. refl) (λ rest. refl), (either _ (λ rest. refl) (λ rest. refl), (either _ (λ rest. refl) (λ rest. refl), (either _ (λ rest. refl) (λ rest. refl), (either _ (λ rest. refl) (λ rest. refl), (either _ (λ rest. refl) (λ rest. refl), (either _ (λ rest. refl) (λ rest. refl), tt)))))))))

record IsWord (k n : ℕ) (s : List ℕ) : Type 0 where
  good : Good (same_kind k (take n s))
  nonempty : 0 < n

good-single : (ss : List Sign) → AllSingle ss → (b : ℕ) → (single_kind ss b ≡ 0 → ⊥) → Good (same_kind (single_kind ss b) (b ∷ []))
unfolding AllSingle single_kind if◌then◌otherwise◌
good-single [] a b z = absurd (z refl)
good-single (x ∷ xs) a b z = go (eqb b x.first) refl z (good-single xs a.1 b)
  where
    go : (q : Bool) → eqb b x.first ≡ q → ((if q then x.kind otherwise single_kind xs b) ≡ 0 → ⊥) → ((single_kind xs b ≡ 0 → ⊥) → Good (same_kind (single_kind xs b) (b ∷ []))) → Good (same_kind (if q then x.kind otherwise single_kind xs b) (b ∷ []))
    go true h z' ih = subst (λ (c : ℕ). Good (same_kind x.kind (c ∷ []))) (sym (eqb-true b x.first h)) a.0
    go false h z' ih = ih z'

good-double : (ss : List Sign) → AllDouble ss → (b c : ℕ) → (double_kind ss b c ≡ 0 → ⊥) → Good (same_kind (double_kind ss b c) (b ∷ c ∷ []))
unfolding AllDouble double_kind if◌then◌otherwise◌
good-double [] a b c z = absurd (z refl)
good-double (x ∷ xs) a b c z = go (eqb b x.first && eqb c x.second) refl z (good-double xs a.1 b c)
  where
    go : (q : Bool) → (eqb b x.first && eqb c x.second) ≡ q → ((if q then x.kind otherwise double_kind xs b c) ≡ 0 → ⊥) → ((double_kind xs b c ≡ 0 → ⊥) → Good (same_kind (double_kind xs b c) (b ∷ c ∷ []))) → Good (same_kind (if q then x.kind otherwise double_kind xs b c) (b ∷ c ∷ []))
    go true h z' ih =
        let t : T (eqb b x.first && eqb c x.second) = rw h tt in
        let eb : b ≡ x.first = eqb→eq b x.first (and_left (eqb b x.first) (eqb c x.second) t) in
        let ec : c ≡ x.second = eqb→eq c x.second (and_right (eqb b x.first) (eqb c x.second) t) in
        subst₂ (λ (i : ℕ) (j : ℕ). Good (same_kind x.kind (i ∷ j ∷ []))) (sym eb) (sym ec) a.0
    go false h z' ih = ih z'

-- a step that is a sign of kind m and length l where m is not 0, else another step
kinded-lexed : (m l : ℕ) (x : Step) (k n : ℕ) (s : List ℕ) → 0 < l → ((m ≡ 0 → ⊥) → Good (same_kind m (take l s))) → (x ≡ Word k n → IsWord k n s) → (if eqb m 0 then x otherwise Word m l) ≡ Word k n → IsWord k n s
kinded-lexed m l x k n s p g f e =
    if-case (eqb m 0) x (Word m l) (Word k n) (λ t z. f z)
    (λ t z.
    let ek : m ≡ k = cc in
    let en : l ≡ n = cc in
    subst₂ (λ (i : ℕ) (j : ℕ). IsWord i j s) ek en (record { good = g (eqb-false m 0 (false_of (eqb m 0) t)); nonempty = p }))
    e

one-lexed : (b : ℕ) (bs : List ℕ) (k n : ℕ) → one_sign b ≡ Word k n → IsWord k n (b ∷ bs)
unfolding one_sign
one-lexed b bs k n e =
    kinded-lexed (single_kind singles b) 1 (Stop 0 UnknownChar) k n (b ∷ bs) (omega arith) (good-single singles all-singles b)
    (λ z. absurd (let y : ◌≡◌ {A = ℕ} 0 1 = cc in let v : ⊥ = omega arith in v)) e

sign-lexed : (b : ℕ) (bs : List ℕ) (k n : ℕ) → lex_sign b bs ≡ Word k n → IsWord k n (b ∷ bs)
unfolding lex_sign
sign-lexed b [] k n e = one-lexed b [] k n e
sign-lexed b (c ∷ bs) k n e = kinded-lexed (double_kind doubles b c) 2 (one_sign b) k n (b ∷ c ∷ bs) (omega arith) (good-double doubles all-doubles b c) (one-lexed b (c ∷ bs) k n) e

-- a slash alone
good-slash : Good (same_kind 17 (47 ∷ []))
unfolding Good step sep if◌then◌otherwise◌
good-slash true rest = refl
good-slash false rest = refl

name-lexed : (b : ℕ) (bs : List ℕ) (k n : ℕ) → T (not (white b)) → T (not (eqb b 35)) → T (not (eqb b 34)) → T (not (digit b)) → T (letter b) → lex_ident b bs ≡ Word k n → IsWord k n (b ∷ bs)
unfolding lex_ident
name-lexed b bs k n w h s d l e =
    let ek : name_kind (b ∷ take (span alnum bs) bs) ≡ k = cc in
    let en : 1 + span alnum bs ≡ n = cc in
    subst (λ (m : ℕ). IsWord k m (b ∷ bs)) (sym (one-add (span alnum bs)) ∙ en)
    (record { good = subst (λ (j : ℕ). Good (same_kind j (b ∷ take (span alnum bs) bs))) ek (good-name b bs w h s d l); nonempty = omega arith })

no-comment : (bs : List ℕ) (k n : ℕ) → hash_comment bs ≡ Word k n → ⊥
unfolding hash_comment
no-comment bs k n e = let y : ◌≡◌ {A = ℕ} 0 1 = cc in let x : ⊥ = omega arith in x

no_line : (m : ℕ) (r : List ℕ) (k n : ℕ) → line_end m r ≡ Word k n → ⊥
unfolding line_end
no_line m [] k n e = let y : ◌≡◌ {A = ℕ} 0 1 = cc in let x : ⊥ = omega arith in x
no_line m (c ∷ r) k n e = let y : ◌≡◌ {A = ℕ} 0 1 = cc in let x : ⊥ = omega arith in x

no-slashes : (bs : List ℕ) (k n : ℕ) → slash_comment bs ≡ Word k n → ⊥
unfolding slash_comment
no-slashes bs k n e = no_line (1 + span in_line bs) (drop (span in_line bs) bs) k n e

slash-lexed : (bs : List ℕ) (k n : ℕ) → lex_slash bs ≡ Word k n → IsWord k n (47 ∷ bs)
unfolding lex_slash
slash-lexed bs k n e =
    if-case (next_is 47 bs) (slash_comment bs) (Word 17 1) (Word k n) (λ t z. absurd (no-slashes bs k n z))
    (λ t z.
    let ek : 17 ≡ k = cc in
    let en : 1 ≡ n = cc in
    subst₂ (λ (i : ℕ) (j : ℕ). IsWord i j (47 ∷ bs)) ek en (record { good = good-slash; nonempty = omega arith }))
    e

quote-is : (c : ℕ) → in_str c ≡ false → c ≡ 34
unfolding in_str
quote-is c e = go (eqb c 34) refl
  where
    go : (q : Bool) → eqb c 34 ≡ q → c ≡ 34
    go true h = eqb→eq c 34 (rw h tt)
    go false h = absurd (let z : ◌≡◌ {A = Bool} true false = rw h at e in subst (λ (x : Bool). T x) z tt)

closing-eq : (m c : ℕ) (r : List ℕ) → closed m (c ∷ r) ≡ Word 32 (2 + m)
unfolding closed
closing-eq m c r = refl

string-lexed : (bs : List ℕ) (k n : ℕ) → lex_str bs ≡ Word k n → IsWord k n (34 ∷ bs)
unfolding lex_str
string-lexed bs k n e = go (drop (span in_str bs) bs) refl
  where
    go : (r : List ℕ) → drop (span in_str bs) bs ≡ r → IsWord k n (34 ∷ bs)
    go [] h = absurd (let z : Stop (1 + span in_str bs) UnterminatedString ≡ Word k n = unfold closed in rw h at e in let y : ◌≡◌ {A = ℕ} 0 1 = cc in let x : ⊥ = omega arith in x)
    go (c ∷ r) h =
        let m : ℕ = span in_str bs in
        let z : Word 32 (2 + m) ≡ Word k n = sym (closing-eq m c r) ∙ (rw h at e) in
        let ek : 32 ≡ k = cc in
        let en : 2 + m ≡ n = cc in
        let ec : c ≡ 34 = quote-is c (span-stop in_str bs c r h) in
        let et : take (suc m) bs ≡ take m bs ++ (34 ∷ []) = take-one-more m bs c r h ∙ ap (λ (y : ℕ). take m bs ++ (y ∷ [])) ec in
        let es : suc (suc m) ≡ n = omega arith in
        subst₂ (λ (j : ℕ) (i : ℕ). IsWord j i (34 ∷ bs)) ek es
        (record { good = subst (λ (y : List ℕ). Good (same_kind 32 (34 ∷ y))) (sym et) (good-string bs); nonempty = omega arith })

number-lexed : (b : ℕ) (bs : List ℕ) (k n : ℕ) → T (not (white b)) → T (not (eqb b 35)) → T (not (eqb b 34)) → T (digit b) → lex_num bs ≡ Word k n → IsWord k n (b ∷ bs)
unfolding lex_num if◌then◌otherwise◌
number-lexed b bs k n w h s d e = go (drop (span digit bs) bs) refl
  where
    m : ℕ
    m = span digit bs

    whole : Word 33 (1 + m) ≡ Word k n → IsWord k n (b ∷ bs)
    whole z =
        let ek : 33 ≡ k = cc in
        let en : 1 + m ≡ n = cc in
        let es : suc m ≡ n = omega arith in
        subst₂ (λ (j : ℕ) (i : ℕ). IsWord j i (b ∷ bs)) ek es (record { good = good-whole b bs w h s d; nonempty = omega arith })

    point : (r : List ℕ) → drop m bs ≡ 46 ∷ r → Word 33 (1 + m + 1 + span digit r) ≡ Word k n → IsWord k n (b ∷ bs)
    point r hd z =
        let j : ℕ = span digit r in
        let ek : 33 ≡ k = cc in
        let en : 1 + m + 1 + j ≡ n = cc in
        let es : suc (m + suc j) ≡ n = omega arith in
        let et : take (m + suc j) bs ≡ take m bs ++ (46 ∷ take j r) = take-add m (suc j) bs ∙ ap (λ (y : List ℕ). take m bs ++ take (suc j) y) hd in
        subst₂ (λ (i : ℕ) (i' : ℕ). IsWord i i' (b ∷ bs)) ek es (record { good = subst (λ (y : List ℕ). Good (same_kind 33 (b ∷ y))) (sym et) (good-point b bs r w h s d); nonempty = omega arith })

    after : (r r₂ : List ℕ) → drop m bs ≡ 46 ∷ r → drop (span digit r) r ≡ r₂ → pointed (1 + m + 1 + span digit r) r₂ ≡ Word k n → IsWord k n (b ∷ bs)
    after r [] hd hr z = absurd (let y : Stop 0 (Panic 2) ≡ Word k n = unfold pointed in z in let x : ◌≡◌ {A = ℕ} 0 1 = cc in let v : ⊥ = omega arith in v)
    after r (c ∷ r₂) hd hr z = point r hd (unfold pointed in z)

    go : (r : List ℕ) → drop m bs ≡ r → IsWord k n (b ∷ bs)
    go [] hd = whole (unfold fraction in (rw hd at e))
    go (c ∷ r) hd = split (eqb c 46) refl
      where
        split : (q : Bool) → eqb c 46 ≡ q → IsWord k n (b ∷ bs)
        split true hq = after r (drop (span digit r) r) (hd ∙ ap (λ (y : ℕ). y ∷ r) (eqb→eq c 46 (rw hq tt))) refl (unfold fraction in (rw (hd, hq) at e))
        split false hq = whole (unfold fraction in (rw (hd, hq) at e))

step-lexed : (s : List ℕ) (k n : ℕ) → step s ≡ Word k n → IsWord k n s
unfolding step
step-lexed [] k n e = absurd (let z : ◌≡◌ {A = ℕ} 0 1 = cc in let y : ⊥ = omega arith in y)
step-lexed (b ∷ bs) k n e =
    if-case (white b) _ _ (Word k n) (λ t z. absurd (let y : ◌≡◌ {A = ℕ} 0 1 = cc in let x : ⊥ = omega arith in x))
    (λ w.
    if-case (eqb b 35) _ _ (Word k n) (λ t z. absurd (no-comment bs k n z))
    (λ h.
    if-case (eqb b 47) _ _ (Word k n) (λ t z. subst (λ (c : ℕ). IsWord k n (c ∷ bs)) (sym (eqb→eq b 47 t)) (slash-lexed bs k n z))
    (λ sl.
    if-case (eqb b 34) _ _ (Word k n) (λ t z. subst (λ (c : ℕ). IsWord k n (c ∷ bs)) (sym (eqb→eq b 34 t)) (string-lexed bs k n z))
    (λ st.
    if-case (digit b) _ _ (Word k n) (λ d z. number-lexed b bs k n w h st d z)
    (λ d.
    if-case (letter b) _ _ (Word k n) (λ l z. name-lexed b bs k n w h st d l z)
    (λ l z. sign-lexed b bs k n z))))))
    e

-- Each token but the last is a word that is lexed to itself.
unfoldable pub AllWords : List ℕ → List Token → Type 0
AllWords s [] = Unit {0}
AllWords s (t ∷ ts) = (t.kind ≤ 45 → Good (spell s t)) × AllWords s ts

end-over : (e : Ending) → end_kind e ≤ 45 → ⊥
unfolding end_kind
end-over TrueEnd h = omega arith
end-over UnknownChar h = omega arith
end-over UnterminatedString h = omega arith
end-over (Panic k) h = omega arith

onward : (next : ℕ → List ℕ → Lexed) (s : List ℕ) (off n : ℕ) → AllWords s (next (off + n) (drop (off + n) s)).toks → AllWords s (next (off + n) (drop n (drop off s))).toks
onward next s off n h = subst (λ (r : List ℕ). AllWords s (next (off + n) r).toks) (sym (drop-drop n off s)) h

turn-words : (next : ℕ → List ℕ → Lexed) (s : List ℕ) (off : ℕ) → ((o : ℕ) → AllWords s (next o (drop o s)).toks)
    → (t : Step) → step (drop off s) ≡ t → AllWords s (on_step next off (drop off s) t).toks
unfolding on_step AllWords ended spell
turn-words next s off h (Skip n) e = onward next s off n (h (off + n))
turn-words next s off h (Word k n) e = (λ l. (step-lexed (drop off s) k n e).good, onward next s off n (h (off + n)))
turn-words next s off h (Stop n w) e = (λ l. absurd (end-over w l), tt)

lex_from-words : (f : ℕ) (s : List ℕ) (off : ℕ) → AllWords s (lex_from f off (drop off s)).toks
unfolding lex_from
lex_from-words zero s off = unfold AllWords ended in (λ l. absurd (end-over TrueEnd l), tt)
lex_from-words (suc f) s off = turn-words (lex_from f) s off (lex_from-words f s) (step (drop off s)) refl

-- Every token of a script but the last is such a word.
pub lex-all-words : (s : List ℕ) → AllWords s (lex s)
unfolding lex lexed
lex-all-words s = lex_from-words (suc (length s)) s 0
