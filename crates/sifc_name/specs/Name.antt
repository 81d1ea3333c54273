-- What the functions that ask the symbol table promise, and those that they call.
use Rattle.std.specs.Prelude.{Option as Found, ℕ, ◌<◌, ◌≡◌, List, Bool, true}
use Rattle.std.proofs.Math.Option.{Option, none, some}
use Rattle.sifc_word.specs.Reserved.{is_std_lib_fn}
use Rattle.sifc_def.specs.declared.What.{What}
use Rattle.sifc_def.specs.State.{token_at}
use Rattle.sifc_def.specs.Symbols.{find}
use Rattle.sifc_symtab.specs.Toks.{toks_of}
use Rattle.sifc_symtab.specs.Table.{name_in, syms_of, found_of, value_in}
use Rattle.sifc_step.specs.declared.walk.Parser.{Parser}

-- the kind of token i
abbrev pub kind_of : Parser → ℕ → ℕ
kind_of p i = (token_at (toks_of p.offs.now p.words.now) i).kind

-- what the definition finds under token i's name
abbrev pub found_at : Parser → ℕ → Option What
found_at p i = find p.level (name_in p.script.now p.offs.now p.words.now i) (syms_of p.script.now p.offs.now p.words.now p.symbols.now p.stored)

-- a look-up: what it finds has a number below 65,536
pub record Looks (p : Parser) (i : ℕ) (r : Found What) : Type 0 where
  pub found : found_of r ≡ found_at p i
  pub fits : value_in r < 65536

-- sym_exists, or a standard function
unfoldable pub is_known : Option What → List ℕ → Bool
is_known (some w) n = true
is_known none n = is_std_lib_fn n
