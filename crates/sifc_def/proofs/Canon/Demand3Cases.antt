-- Demand 3's premises are met: `1;` and `(1);` with what each of the eight calls is lent, and what the theorem then says of them.
use Rattle.std.specs.Prelude.{ℕ, ◌≡◌, refl, replicate}
use Rattle.sifc_def.specs.Ascii.{ascii}
use Rattle.sifc_def.specs.Read.{Arrays, reading, text_call}
use Rattle.sifc_def.specs.Canon.Demand.{Fits, FitsText, FlagDown, answered_bytes, SameTree, Lent, its_reading, canonical, AllFit, Demand3}
use Rattle.sifc_def.proofs.Canon.Demand3.{demand3-definition}

-- room for n tokens, n nodes, n words of symbols and n errors, each element v
abbrev lent : ℕ → ℕ → Arrays
lent n v =
    record {
      offs = replicate n v;
      words = replicate n v;
      heads = replicate n v;
      loads = replicate n v;
      symbols = replicate n v;
      places = replicate n v;
      reasons = replicate n v;
    }

abbrev bare : Lent
bare = record { script = ascii "1;"; arrays₁ = lent 3 7; arrays₂ = lent 9 0; buffer₂ = replicate 4 1; arrays₃ = lent 4 5; arrays₄ = lent 5 6; buffer₄ = replicate 9 2 }

abbrev grouped : Lent
grouped = record { script = ascii "(1);"; arrays₁ = lent 5 0; arrays₂ = lent 8 9; buffer₂ = replicate 5 0; arrays₃ = lent 3 1; arrays₄ = lent 3 0; buffer₄ = replicate 4 0 }

-- Both are read with the flag down.
bare-down : FlagDown (its_reading bare).answer
unfolding FlagDown reading
bare-down = refl

grouped-down : FlagDown (its_reading grouped).answer
unfolding FlagDown reading
grouped-down = refl

-- None of the eight calls meets a refusal for size or depth.
bare-fits : AllFit bare
unfolding Fits FitsText reading text_call answered_bytes
bare-fits = record { reading = tt; text = tt; next = tt; next_text = tt }

grouped-fits : AllFit grouped
unfolding Fits FitsText reading text_call answered_bytes
grouped-fits = record { reading = tt; text = tt; next = tt; next_text = tt }

-- The canonical text of both is `1 ;` and a newline.
pub same_bytes : canonical bare ≡ canonical grouped
unfolding text_call answered_bytes
same_bytes = refl

-- So they have the same tree, and both come round.
pub both : Demand3 bare grouped
both = demand3-definition bare grouped bare-down grouped-down bare-fits grouped-fits

pub same-tree : SameTree (ascii "1;") (its_reading bare) (ascii "(1);") (its_reading grouped)
same-tree = both.exactly_when.0 same_bytes
