-- Worked canonical texts: the buffer, the flag, the parentheses, what is left out, the inserted return. They stand above the definition's crate, where
-- the round trip has to find a wrong text by itself.
use Rattle.std.specs.Prelude.{◌≡◌, refl, List, [], ◌∷◌, map, Err, Ok}
use Rattle.sifc_err.specs.declared.Refusal.TheVariants.{Flagged, TextFull}
use Rattle.sifc_def.specs.Case.{Case, writes, ran, said}

pub texts : List Case
texts =
    writes 24 "var a=(1+2)*3;" (Ok 24) "var a = ( 1 + 2 ) * 3 ;\n"
    ∷ writes 23 "var a=(1+2)*3;" (Err TextFull) ""
    ∷ writes 9 "a;" (Err Flagged) ""
    ∷ writes 9 "" (Ok 0) ""
    ∷ writes 40 "(1*2)%3; 1*(2%3);" (Ok 28) "( 1 * 2 ) % 3 ;\n1 * 2 % 3 ;\n"
    ∷ writes 9 "5 _" (Err Flagged) ""
    ∷ writes 200 "fn f(a,b,){ if a {return b;} elif !(-b) {f(1,2);} }" (Ok 77) "fn f ( a , b ) { if a { return b ; } elif ! - b { f ( 1 , 2 ) ; } return ; }\n"
    ∷ writes 200 "var x=[1,2,]; x[0]=@x[(1+2)-(3-4)]%2*3; for i,j in x { print(i,); }" (Ok 97) "var x = [ 1 , 2 ] ;\nx [ 0 ] = x [ 1 + 2 - ( 3 - 4 ) ] % 2 * 3 ;\nfor i , j in x { print ( i ) ; }\n"
    ∷ writes 200 "var t=[[a=>\"s\",a=>1]]; t.(b)=1; -(t.b); !(1<2)==(t=1); if 1 {} else {} elif 2 {}" (Err Flagged) ""
    ∷ writes 200 "var t=[[a=>\"s\",a=>1]]; var u=[]; -(t.b); !(1<2)==(t=1); (t)=2; if 1 {} else {} elif 2 {}" (Ok 126) "var t = [[ a => \"s\" , a => 1 ]] ;\nvar u = [ ] ;\n- ( t . b ) ;\n! ( 1 < 2 ) == ( t = 1 ) ;\nt = 2 ;\nif 1 { } else { } elif 2 { }\n"
    ∷ []

pub written : map ran texts ≡ map said texts
unfolding ran said texts
written = refl
