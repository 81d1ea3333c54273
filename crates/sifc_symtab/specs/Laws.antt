-- What the calls say in terms of the definition's name_at, retrieve and store.
use Rattle.std.specs.Prelude.{ℕ, zero, suc, ◌+◌, ◌≤◌, ◌<◌, ◌≡◌, List, [], ◌∷◌, ◌++◌, leb, length}
use Rattle.std.proofs.Math.Path.{refl, ap, ap₂}
use Rattle.std.proofs.Common.{sym, ◌∙◌, arith, add-zero}
use Rattle.std.proofs.Math.Option.{Option}
use Rattle.sifc_err.specs.declared.Token.{Token}
use Rattle.std.specs.Prelude.{Option as Found, Ok, Err}
use Rattle.sifc_err.specs.declared.Refusal.{Refusal}
use Rattle.sifc_err.specs.declared.Refusal.TheVariants.{SymbolsFull}
use Rattle.sifc_word.specs.Base.{if◌then◌otherwise◌}
use Rattle.sifc_def.specs.declared.What.{What}
use Rattle.sifc_def.specs.State.{Sym, Ctx, St, done, refuse, name_of, word_in, token_at, name_at}
use Rattle.sifc_def.specs.Symbols.{find, put_at, retrieve, store}
use Rattle.sifc_symtab.specs.Toks.{toks_of}
use Rattle.sifc_symtab.specs.Table.{name_in, sym_at, listed, syms_of, room_of, found_of, Retrieves, new_table, room_for, Stores}

-- ── the symbols, number by number ──

-- lists that agree number by number
pub listed-ext : (f g : ℕ → Sym) (m k : ℕ) → ((i : ℕ) → k ≤ i → i < k + m → f i ≡ g i) → listed f k m ≡ listed g k m
unfolding listed
listed-ext f g zero k h = refl
listed-ext f g (suc m) k h = ap₂ ◌∷◌ (h k (omega arith) (omega arith)) (listed-ext f g m (suc k) (λ i a b. h i (omega arith) (omega arith)))

pub listed-last : (f : ℕ → Sym) (m k : ℕ) → listed f k (suc m) ≡ listed f k m ++ (f (k + m) ∷ [])
unfolding listed
listed-last f zero k = rw (add-zero k) refl
listed-last f (suc m) k = ap (λ (l : List Sym). f k ∷ l) (listed-last f m (suc k) ∙ ap (λ (i : ℕ). listed f (suc k) m ++ (f i ∷ [])) (let z : suc k + m ≡ k + suc m = omega arith in z))

pub length-listed : (f : ℕ → Sym) (m k : ℕ) → length (listed f k m) ≡ m
unfolding listed
length-listed f zero k = refl
length-listed f (suc m) k = ap suc (length-listed f m (suc k))

-- ── the table that the words stand for ──

module _ (script offs words : List ℕ) where
  -- no symbols at first
  pub syms-none : (symbols : List ℕ) → syms_of script offs words symbols 0 ≡ []
  unfolding syms_of listed
  syms-none symbols = refl

  pub length-syms : (symbols : List ℕ) (n : ℕ) → length (syms_of script offs words symbols n) ≡ n
  unfolding syms_of
  length-syms symbols n = length-listed (sym_at script offs words symbols) n 0

-- ── the definition's steps ──

module _ (c : Ctx) (offs words : List ℕ) where
  -- token i is the same in the arrays
  pub name-agrees : (i : ℕ) → token_at (toks_of offs words) i ≡ token_at c.toks i → name_in c.script offs words i ≡ name_at c i
  name-agrees i e = ap (λ (t : Token). name_of (word_in c.script t)) e

  -- The table is that of a state, and token i's name the definition's.
  pub record Stands (s : St) (symbols : List ℕ) (n i : ℕ) : Type 0 where
    pub name : name_in c.script offs words i ≡ name_at c i
    pub table : syms_of c.script offs words symbols n ≡ s.syms

  pub retrieve-is : (s : St) (symbols : List ℕ) (n i : ℕ) → Stands s symbols n i → (r : Found What)
      → Retrieves c.script offs words symbols n s.level i r → retrieve c (name_at c i) s ≡ done (found_of r) s
  unfolding retrieve
  retrieve-is s symbols n i t r e = ap (λ (o : Option What). done o s) (sym (e ∙ ap₂ (find s.level) t.name t.table))

  module _ (s : St) (symbols : List ℕ) (n i : ℕ) (t : Stands s symbols n i) (room : c.sym_room ≡ room_of symbols) (w : What) (symbols' : List ℕ) where
    new_is : new_table c.script offs words symbols n s.level i w ≡ put_at s.level (name_at c i) w s.syms
    new_is = ap₂ (λ (x : List ℕ) (y : List Sym). put_at s.level x w y) t.name t.table

    fits-is : leb (length (put_at s.level (name_at c i) w s.syms)) c.sym_room ≡ room_for c.script offs words symbols n s.level i w
    fits-is = ap₂ (λ (x : List Sym) (y : ℕ). leb (length x) y) (sym new_is) room

    pub store_at : (m : ℕ) → Stores c.script offs words symbols n s.level i w (Ok m) symbols'
        → store c i w s ≡ done tt (record { at = s.at; nodes = s.nodes; syms = syms_of c.script offs words symbols' m; level = s.level; check = s.check; errs = s.errs })
    unfolding store if◌then◌otherwise◌
    store_at m p = rw (fits-is ∙ p.room, p.table ∙ new_is) refl

    pub store-full : {f : Refusal} → Stores c.script offs words symbols n s.level i w (Err f) symbols' → store c i w s ≡ refuse SymbolsFull
    unfolding store if◌then◌otherwise◌
    store-full {f} p = rw (fits-is ∙ p.room) refl
