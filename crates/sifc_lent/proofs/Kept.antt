-- Where nothing is touched, what is lent is kept.
use Rattle.std.proofs.Common.{refl}
use Rattle.sifc_lent.specs.declared.lent.Lent.{Lent}
use Rattle.sifc_lent.specs.Parts.{KeptLent}

pub kept-same : (l : Lent) → KeptLent l l
kept-same l = record {
  offs_name = refl;
  words_name = refl;
  heads_name = refl;
  loads_name = refl;
  symbols_name = refl;
  places_name = refl;
  reasons_name = refl;
  long = record { offs = refl; words = refl; heads = refl; loads = refl; symbols = refl; places = refl; reasons = refl };
}
