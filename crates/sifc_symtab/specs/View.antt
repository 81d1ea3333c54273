-- The definitions over the table as it is read, and over what is looked for in it.
use Rattle.std.specs.Prelude.{ℕ}
use Rattle.sifc_def.specs.State.{Sym}
use Rattle.sifc_symtab.specs.declared.symtab.SymTab.{SymTab}
use Rattle.sifc_symtab.specs.declared.wanted.Wanted.{Wanted}
use Rattle.sifc_symtab.specs.declared.symtab.Spot.{Spot}
use Rattle.sifc_symtab.specs.Table.{sym_at, Holds}
use Rattle.sifc_symtab.specs.Seek.{Hashed, Seeks, Sought}

-- the symbols that its words stand for
abbrev pub syms : SymTab → ℕ → Sym
syms t = sym_at t.tokens.script.now t.tokens.offs.now t.tokens.words.now t.symbols.now

-- the words hold the symbols
abbrev pub IsTable : SymTab → Type 0
IsTable t = Holds t.tokens.script.now t.tokens.offs.now t.tokens.words.now t.symbols.now t.stored

-- symbol k has its words, and its name's hash
abbrev pub HasHash : SymTab → ℕ → Type 0
HasHash t k = Hashed t.tokens.script.now t.tokens.offs.now t.tokens.words.now t.symbols.now k

-- a walk along the chain of the hash stands at the link at, after prev
abbrev pub SeeksIn : SymTab → Wanted → ℕ → ℕ → Type 0
SeeksIn t q prev at = Seeks t.tokens.script.now t.tokens.offs.now t.tokens.words.now t.symbols.now t.stored q.low q.high q.hash q.name.now prev at

-- where it ends
abbrev pub SoughtIn : SymTab → Wanted → Spot → Type 0
SoughtIn t q r = Sought t.tokens.script.now t.tokens.offs.now t.tokens.words.now t.symbols.now t.stored q.low q.high q.hash q.name.now r
