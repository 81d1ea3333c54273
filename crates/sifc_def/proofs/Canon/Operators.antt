-- A lexed operator's text tells its kind: the strength that the text's definition gives it is the one that the walk reads it with.
use Rattle.std.specs.Prelude.{ℕ, ◌+◌, ◌-◌, ◌<◌, ◌≡◌, List, [], ◌∷◌, ◌++◌, Bool, true, false, ◌&&◌, not, T, eqb, take, drop, length}
use Rattle.std.proofs.Math.Path.{refl, subst}
use Rattle.std.proofs.Common.{sym, subst₂, arith, eqb→eq}
use Rattle.std.proofs.Math.Seq.{take-append_seam}
use Rattle.sifc_err.specs.declared.Ending.TheVariants.{UnknownChar}
use Rattle.sifc_lex.specs.declared.lex.Step.{Step}
use Rattle.sifc_lex.specs.declared.lex.Step.TheVariants.{Skip, Word, Stop}
use Rattle.sifc_word.specs.Base.{if◌then◌otherwise◌, same, span, member}
use Rattle.sifc_word.specs.BaseLaws.{and_left, and_right}
use Rattle.sifc_word.specs.Reserved as Reserved
use Rattle.sifc_word.specs.Reserved.{reserved_words, kind_among, name_kind}
use Rattle.sifc_lex.specs.Lex.{white, digit, letter, alnum, in_line, in_str, Sign, doubles, singles, single_kind, double_kind, one_sign, lex_sign, next_is, lex_slash, line_end, hash_comment, slash_comment, closed, lex_str, pointed, fraction, lex_num, lex_ident, step}
use Rattle.sifc_lex.proofs.LexTrip.{Good, sep}
use Rattle.sifc_def.specs.State.{W}
use Rattle.sifc_def.specs.Expr.{looseness}
use Rattle.sifc_def.specs.Text.{word_kind, op_strength}
use Rattle.sifc_def.proofs.Canon.Bytes.{spelt_of}
use Rattle.sifc_def.proofs.Canon.Words.{Tells}

-- the text t of a token of kind k tells the strength
unfoldable Shows : ℕ → List ℕ → Type 0
Shows k t = 0 < looseness k → op_strength t ≡ 8 - looseness k

-- a kind that is no operator's
shows-other : (k : ℕ) (t : List ℕ) → looseness k ≡ 0 → Shows k t
unfolding Shows
shows-other k t e p = absurd (let z : ⊥ = omega arith in z)

-- ── turns that give no operator ──

-- no operator's kind
unfoldable Mute : Step → Type 0
Mute (Skip n) = Unit {0}
Mute (Word k n) = looseness k ≡ 0
Mute (Stop n e) = Unit {0}

-- A turn that gives no operator's kind.
mute-shows : (x : Step) (k n : ℕ) (t : List ℕ) → Mute x → x ≡ Word k n → Shows k t
mute-shows x k n t m e = shows-other k t (unfold Mute in subst (λ (y : Step). Mute y) e m)

-- Either branch.
mute-if : (q : Bool) (x y : Step) → Mute x → Mute y → Mute (if q then x otherwise y)
unfolding if◌then◌otherwise◌
mute-if true x y f g = f
mute-if false x y f g = g

-- The end of a comment.
mute-line_end : (n : ℕ) (r : List ℕ) → Mute (line_end n r)
unfolding line_end Mute
mute-line_end n [] = tt
mute-line_end n (c ∷ r) = tt

-- A string.
mute-closed : (n : ℕ) (r : List ℕ) → Mute (closed n r)
unfolding closed Mute looseness member if◌then◌otherwise◌
mute-closed n [] = tt
mute-closed n (c ∷ r) = refl

-- A number with a point.
mute-pointed : (n : ℕ) (r : List ℕ) → Mute (pointed n r)
unfolding pointed Mute looseness member if◌then◌otherwise◌
mute-pointed n [] = tt
mute-pointed n (c ∷ r) = refl

-- A number.
number_word : (n : ℕ) → Mute (Word 33 n)
unfolding Mute looseness member if◌then◌otherwise◌
number_word n = refl

-- A number, with a point or without.
mute-fraction : (n : ℕ) (r : List ℕ) → Mute (fraction n r)
unfolding fraction
mute-fraction n [] = number_word n
mute-fraction n (c ∷ r) = mute-if (eqb c 46) _ _ (mute-pointed (n + 1 + span digit r) (drop (span digit r) r)) (number_word n)

-- a name's kind is no operator's: every reserved word's, and Ident
has_none_of : List Reserved.Word → Bool
has_none_of [] = true
has_none_of (w ∷ ws) = eqb (looseness w.kind) 0 && has_none_of ws

-- A name's kind among some words.
mute-among : (ws : List Reserved.Word) (name : List ℕ) → T (has_none_of ws) → looseness (kind_among ws name) ≡ 0
unfolding kind_among has_none_of if◌then◌otherwise◌
mute-among [] name t = unfold looseness member if◌then◌otherwise◌ in refl
mute-among (w ∷ ws) name t =
    go (same w.word name) (eqb→eq (looseness w.kind) 0 (and_left (eqb (looseness w.kind) 0) (has_none_of ws) t)) (mute-among ws name (and_right (eqb (looseness w.kind) 0) (has_none_of ws) t))
  where
    go : (q : Bool) → looseness w.kind ≡ 0 → looseness (kind_among ws name) ≡ 0 → looseness (if q then w.kind otherwise kind_among ws name) ≡ 0
    go true h k = h
    go false h k = k

-- A name.
mute-name : (b : ℕ) (bs : List ℕ) → Mute (lex_ident b bs)
unfolding lex_ident Mute name_kind
mute-name b bs = mute-among reserved_words (b ∷ take (span alnum bs) bs) (unfold has_none_of reserved_words looseness member if◌then◌otherwise◌ in tt)

-- ── signs: each of the two tables by computation ──

-- the text tells the strength
agrees : ℕ → List ℕ → Bool
agrees k t = eqb (op_strength t) (8 - looseness k)

-- A text that agrees tells the strength.
shows-agreed : (k : ℕ) (t : List ℕ) → T (agrees k t) → Shows k t
unfolding agrees Shows
shows-agreed k t h p = eqb→eq (op_strength t) (8 - looseness k) h

-- of each sign of one byte
one_agrees : List Sign → Bool
one_agrees [] = true
one_agrees (x ∷ xs) = agrees x.kind (x.first ∷ []) && one_agrees xs

-- of each sign of two
both_agree : List Sign → Bool
both_agree [] = true
both_agree (x ∷ xs) = agrees x.kind (x.first ∷ x.second ∷ []) && both_agree xs

-- The signs of one byte, by computation.
singles-agree : T (one_agrees singles)
unfolding one_agrees agrees singles op_strength word_kind step looseness member if◌then◌otherwise◌
singles-agree = tt

-- The signs of two bytes, by computation.
doubles-agree : T (both_agree doubles)
unfolding both_agree agrees doubles op_strength word_kind step looseness member if◌then◌otherwise◌
doubles-agree = tt

-- A sign of one byte, out of a table.
shows-single : (ss : List Sign) → T (one_agrees ss) → (b : ℕ) → Shows (single_kind ss b) (b ∷ [])
unfolding one_agrees single_kind if◌then◌otherwise◌
shows-single [] a b = shows-other 0 (b ∷ []) (unfold looseness member if◌then◌otherwise◌ in refl)
shows-single (x ∷ xs) a b = go (eqb b x.first) refl (shows-single xs (and_right (agrees x.kind (x.first ∷ [])) (one_agrees xs) a) b)
  where
    go : (q : Bool) → eqb b x.first ≡ q → Shows (single_kind xs b) (b ∷ []) → Shows (if q then x.kind otherwise single_kind xs b) (b ∷ [])
    go true h ih =
        subst (λ (c : ℕ). Shows x.kind (c ∷ [])) (sym (eqb→eq b x.first (rw h tt)))
        (shows-agreed x.kind (x.first ∷ []) (and_left (agrees x.kind (x.first ∷ [])) (one_agrees xs) a))
    go false h ih = ih

-- A sign of two bytes, out of a table.
shows-double : (ss : List Sign) → T (both_agree ss) → (b c : ℕ) → Shows (double_kind ss b c) (b ∷ c ∷ [])
unfolding both_agree double_kind if◌then◌otherwise◌
shows-double [] a b c = shows-other 0 (b ∷ c ∷ []) (unfold looseness member if◌then◌otherwise◌ in refl)
shows-double (x ∷ xs) a b c =
    go (eqb b x.first && eqb c x.second) refl (shows-double xs (and_right (agrees x.kind (x.first ∷ x.second ∷ [])) (both_agree xs) a) b c)
  where
    go : (q : Bool) → (eqb b x.first && eqb c x.second) ≡ q → Shows (double_kind xs b c) (b ∷ c ∷ []) → Shows (if q then x.kind otherwise double_kind xs b c) (b ∷ c ∷ [])
    go true h ih =
        let t : T (eqb b x.first && eqb c x.second) = rw h tt in
        let eb : b ≡ x.first = eqb→eq b x.first (and_left (eqb b x.first) (eqb c x.second) t) in
        let ec : c ≡ x.second = eqb→eq c x.second (and_right (eqb b x.first) (eqb c x.second) t) in
        subst₂ (λ (i : ℕ) (j : ℕ). Shows x.kind (i ∷ j ∷ [])) (sym eb) (sym ec)
        (shows-agreed x.kind (x.first ∷ x.second ∷ []) (and_left (agrees x.kind (x.first ∷ x.second ∷ [])) (both_agree xs) a))
    go false h ih = ih

-- ── a turn ──

-- A branch that comes to z is one of the two.
if-case : {X : Type 0} (q : Bool) (x y z : Step) → (T q → x ≡ z → X) → (T (not q) → y ≡ z → X) → (if q then x otherwise y) ≡ z → X
unfolding if◌then◌otherwise◌
if-case true x y z f g e = f tt e
if-case false x y z f g e = g tt e

-- A word's kind.
kind-eq : (j m k n : ℕ) → Word j m ≡ Word k n → j ≡ k
kind-eq j m k n e = cc

-- A word's length.
len-eq : (j m k n : ℕ) → Word j m ≡ Word k n → m ≡ n
len-eq j m k n e = cc

-- A turn that gives a word.
shows-word : (j m k n : ℕ) (s : List ℕ) → Shows j (take m s) → Word j m ≡ Word k n → Shows k (take n s)
shows-word j m k n s h e = subst₂ (λ (i : ℕ) (l : ℕ). Shows i (take l s)) (kind-eq j m k n e) (len-eq j m k n e) h

-- A sign of one byte.
shows-one : (b : ℕ) (bs : List ℕ) (k n : ℕ) → one_sign b ≡ Word k n → Shows k (take n (b ∷ bs))
unfolding one_sign
shows-one b bs k n e =
    if-case (eqb (single_kind singles b) 0) (Stop 0 UnknownChar) (Word (single_kind singles b) 1) (Word k n) (λ t z. mute-shows (Stop 0 UnknownChar) k n _ (unfold Mute in tt) z)
    (λ t z. shows-word (single_kind singles b) 1 k n (b ∷ bs) (shows-single singles singles-agree b) z) e

-- A sign.
shows-sign : (b : ℕ) (bs : List ℕ) (k n : ℕ) → lex_sign b bs ≡ Word k n → Shows k (take n (b ∷ bs))
unfolding lex_sign
shows-sign b [] k n e = shows-one b [] k n e
shows-sign b (c ∷ bs) k n e =
    if-case (eqb (double_kind doubles b c) 0) (one_sign b) (Word (double_kind doubles b c) 2) (Word k n) (λ t z. shows-one b (c ∷ bs) k n z)
    (λ t z. shows-word (double_kind doubles b c) 2 k n (b ∷ c ∷ bs) (shows-double doubles doubles-agree b c) z) e

-- A slash, by computation.
slash-agrees : T (agrees 17 (47 ∷ []))
unfolding agrees op_strength word_kind step looseness member if◌then◌otherwise◌
slash-agrees = tt

-- A slash, or a comment.
shows-slash : (bs : List ℕ) (k n : ℕ) → lex_slash bs ≡ Word k n → Shows k (take n (47 ∷ bs))
unfolding lex_slash slash_comment
shows-slash bs k n e =
    if-case (next_is 47 bs) (slash_comment bs) (Word 17 1) (Word k n) (λ t z. mute-shows (slash_comment bs) k n _ (mute-line_end (1 + span in_line bs) (drop (span in_line bs) bs)) z)
    (λ t z. shows-word 17 1 k n (47 ∷ bs) (shows-agreed 17 (47 ∷ []) slash-agrees) z) e

-- A turn.
shows-step : (s : List ℕ) (k n : ℕ) → step s ≡ Word k n → Shows k (take n s)
unfolding step Mute hash_comment lex_str lex_num
shows-step [] k n e = mute-shows _ k n _ tt e
shows-step (b ∷ bs) k n e =
    if-case (white b) _ _ (Word k n) (λ t z. mute-shows _ k n _ tt z)
    (λ w.
    if-case (eqb b 35) _ _ (Word k n) (λ t z. mute-shows _ k n _ tt z)
    (λ h.
    if-case (eqb b 47) _ _ (Word k n) (λ t z. subst (λ (c : ℕ). Shows k (take n (c ∷ bs))) (sym (eqb→eq b 47 t)) (shows-slash bs k n z))
    (λ sl.
    if-case (eqb b 34) _ _ (Word k n) (λ t z. mute-shows _ k n _ (mute-closed (span in_str bs) (drop (span in_str bs) bs)) z)
    (λ st.
    if-case (digit b) _ _ (Word k n) (λ d z. mute-shows _ k n _ (mute-fraction (1 + span digit bs) (drop (span digit bs) bs)) z)
    (λ d. if-case (letter b) _ _ (Word k n) (λ l z. mute-shows _ k n _ (mute-name b bs) z) (λ l z. shows-sign b bs k n z))))))
    e

-- The text of a word that is lexed to itself tells how it binds.
pub good-tells : (x : W) → Good (spelt_of x) → Tells x
unfolding Good Tells Shows
good-tells x g = rw (take-append_seam x.text (sep true ∷ [])) at (shows-step (x.text ++ (sep true ∷ [])) x.kind (length x.text) (g true []))
