-- Document 01, "Small scripts": those that are not marked, which are at the limits. Their scripts are long, so they stand above the definition's crate;
-- the depth, which the definition's edits are held to, is in Corners.antt there.
use Rattle.std.specs.Prelude.{◌≡◌, refl, List, [], ◌∷◌, ◌++◌, map, true, false, replicate}
use Rattle.sifc_err.specs.declared.Refusal.TheVariants.{LongScript, NotAscii, TooDeep}
use Rattle.sifc_def.specs.Ascii.{ascii}
use Rattle.sifc_def.specs.Case.{Case, listed, no, ok, early, ran, said}
use Rattle.sifc_def.proofs.Corners.{ample, many}

pub limits : List Case
unfolding many
limits =
    ample (replicate 65535 32) (ok 1 [] false)
    ∷ ample (replicate 65536 32) (no LongScript)
    ∷ ample (97 ∷ 200 ∷ 128 ∷ []) (no (NotAscii 1))
    ∷ ample (many 255 "(") (ok 1 (listed 2 0 2 255 0 ∷ []) true)
    ∷ ample (many 256 "(") (no TooDeep)
    ∷ ample (ascii "print(" ++ many 64 "1," ++ ascii ");") (ok 68 [] false)
    ∷ ample (ascii "print(" ++ many 65 "1," ++ ascii ");") (early 1 (listed 1 134 7 64 0 ∷ []) 1 134 7)
    ∷ ample (ascii "print(" ++ many 64 "1,") (early 1 (listed 2 0 7 64 0 ∷ []) 2 0 7)
    ∷ ample (many 768 "{") (early 1 [] 2 0 6)
    ∷ ample (many 768 "{" ++ ascii "fn f() 5") (no TooDeep)
    ∷ ample (many 255 "(" ++ ascii "1" ++ many 255 ")" ++ ascii ";") (ok 3 [] false)
    ∷ []

pub unmarked : map ran limits ≡ map said limits
unfolding ran said limits
unmarked = refl
