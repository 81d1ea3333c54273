-- The symbol table: symtab.rs. "`close_scope` lowers the level and forgets nothing, so the next block of that level sees the old names."
use Rattle.std.specs.Prelude.{ℕ, zero, suc, ◌-◌, List, [], ◌∷◌, Bool, true, false, ◌&&◌, eqb, leb, length}
use Rattle.std.proofs.Math.Option.{Option, none, some}
use Rattle.sifc_err.specs.declared.Refusal.TheVariants.{SymbolsFull}
use Rattle.sifc_word.specs.Base.{if◌then◌otherwise◌, same}
use Rattle.sifc_def.specs.declared.What.{What}
use Rattle.sifc_def.specs.State.{Sym, Ctx, done, refuse, M, Void, ◌>>=◌, name_at}

unfoldable pub is_sym : ℕ → List ℕ → Sym → Bool
is_sym l n x = eqb x.level l && same x.name n

-- tab[l].get(n)
unfoldable pub find_at : ℕ → List ℕ → List Sym → Option What
find_at l n [] = none
find_at l n (x ∷ xs) = elim (is_sym l n x) [ true ↦ some x.what | false ↦ find_at l n xs ]

-- the loop of retrieve: level l, then those above it down to 0
unfoldable pub find : ℕ → List ℕ → List Sym → Option What
find zero n xs = find_at zero n xs
find (suc l) n xs = elim (find_at (suc l) n xs) [ some w ↦ some w | none ↦ find l n xs ]

-- tab[l].insert(n, w): a key that is there keeps its entry
unfoldable pub put_at : ℕ → List ℕ → What → List Sym → List Sym
put_at l n w [] = record { level = l; name = n; what = w } ∷ []
put_at l n w (x ∷ xs) = elim (is_sym l n x) [ true ↦ record { level = l; name = n; what = w } ∷ xs | false ↦ x ∷ put_at l n w xs ]

module _ (c : Ctx) where
  -- retrieve
  unfoldable pub retrieve : List ℕ → M (Option What)
  retrieve n s = done (find s.level n s.syms) s

  -- store, under the name of token i: "a new (level, name) beyond the words" is refusal 8
  unfoldable pub store : ℕ → What → Void
  store i w s =
      let new : List Sym = put_at s.level (name_at c i) w s.syms in
      if leb (length new) c.sym_room then done tt (record { at = s.at; nodes = s.nodes; syms = new; level = s.level; check = s.check; errs = s.errs })
      otherwise refuse SymbolsFull

  -- level
  abbrev pub level_now : M ℕ
  level_now s = done s.level s

  -- is_global
  abbrev pub is_global : M Bool
  is_global s = done (eqb s.level 0) s

  unfoldable pub set_level : ℕ → Void
  set_level l s = done tt (record { at = s.at; nodes = s.nodes; syms = s.syms; level = l; check = s.check; errs = s.errs })

  -- init_scope
  unfoldable pub init_scope : Void
  init_scope = do
    l ← level_now
    set_level (suc l)

  -- close_scope
  unfoldable pub close_scope : Void
  close_scope = do
    l ← level_now
    set_level (l - 1)

  -- should_check_sym_tab
  abbrev pub checking : M Bool
  checking s = done s.check s

  unfoldable pub set_check : Bool → Void
  set_check b s = done tt (record { at = s.at; nodes = s.nodes; syms = s.syms; level = s.level; check = b; errs = s.errs })
