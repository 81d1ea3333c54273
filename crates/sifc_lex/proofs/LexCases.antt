use Rattle.std.specs.Prelude.{ℕ, ◌≡◌, refl, List, [], ◌∷◌}
use Rattle.sifc_lex.specs.Lex.{token, lex}

-- var a=(1+2)*3;
s1 : List ℕ
s1 = 118 ∷ 97 ∷ 114 ∷ 32 ∷ 97 ∷ 61 ∷ 40 ∷ 49 ∷ 43 ∷ 50 ∷ 41 ∷ 42 ∷ 51 ∷ 59 ∷ []

t1 : lex s1 ≡ token 34 0 3 ∷ token 31 4 1 ∷ token 8 5 1 ∷ token 1 6 1 ∷ token 33 7 1 ∷ token 14 8 1 ∷ token 33 9 1 ∷ token 2 10 1 ∷ token 16 11 1 ∷ token 33 12 1 ∷ token 7 13 1 ∷ token 47 14 0 ∷ []
unfolding lex s1
t1 = refl
