use Prim.Native.Nat.{ℕ, ◌-◌}
use mathlib.Core.Path.{◌≡◌, sym, ap, ◌∙◌}
use native.Mathlib.Omega.{arith}
use lib.ListN.{length, take, drop}
use Rattle.sifc_symtab.proofs.token.unquoted.Goals as goal

pub returns-then-len-lt2 : goal.returns-then-len-lt2
returns-then-len-lt2 c =
    c.part.ensures ∙ sym (ap (λ (n : ℕ). take n (drop 1 c.args.text.now)) (let z : length c.args.text.now - 2 ≡ 0 = omega arith in
    z))
