use native.Mathlib.Omega.{arith}
use Prim.Native.Nat.{ℕ, ◌+◌}
use mathlib.Core.Path.{sym, ◌∙◌, subst}
use mathlib.Core.List.{List}
use Rattle.std.specs.Prelude.{Ok}
use Rattle.sifc_symtab.specs.Table.{Stores}
use Rattle.sifc_symtab.specs.Seek.{InsertAt, Inserts}
use Rattle.sifc_symtab.proofs.Hash.{hash-small}
use Rattle.sifc_symtab.proofs.Entries.{stored-old, stored-full, stored_past, insert-fits, stored-linked}
use Rattle.sifc_symtab.proofs.Words.{declared-write}
use Rattle.sifc_symtab.proofs.symtab.store.Goals.{then-stored-lt-LINKED, else-stored-lt-LINKED}
use Rattle.sifc_symtab.proofs.symtab.store.Goals as goal

pub declared-requires : goal.declared-requires
declared-requires c = (c.requires.level-fits, c.requires.name-fits, c.requires.value-fits, (omega (arith, c.hash_of-hash.ensures, hash-small c.name-name.result.now)))

pub returns-in-Some : goal.returns-in-Some
returns-in-Some c = stored-old _ _ _ _ _ _ _ _ _ _ c.requires c.name-name.ensures c.hash_of-hash.ensures _ c.in-Some.ensures _ (c.write.ensures ∙ declared-write _ _ _ c.read-entry.ensures _ _ _ _ _ c.declared.ensures)

pub returns-then-room-stored : goal.returns-then-room-stored
returns-then-room-stored c = stored-full _ _ _ _ _ _ _ _ _ _ c.requires c.name-name.ensures c.hash_of-hash.ensures c.in_default.ensures (rw c.room.ensures at c.if-room-stored.true)

pub declared-requires-2 : goal.declared-requires-2
declared-requires-2 c = (c.requires.level-fits, c.requires.name-fits, c.requires.value-fits, (omega (arith, c.hash_of-hash.ensures, hash-small c.name-name.result.now)))

pub insert-requires : goal.insert-requires
insert-requires c =
    let wrote = c.write-2.ensures ∙ declared-write _ _ _ c.read-entry-2.ensures _ _ _ _ _ c.declared-2.ensures in
    subst (λ (x : List ℕ). InsertAt x c.args.stored c.seek-spot.result.prev c.seek-spot.result.at) (sym wrote) (insert-fits _ _ _ _ _ _ _ _ _ _ c.requires c.name-name.ensures c.hash_of-hash.ensures c.in_default.ensures (rw c.room.ensures at c.if-room-stored.false) c.if-stored-lt-LINKED.true _ c.seek-spot.ensures)

pub returns : goal.returns
returns c =
    let stores = Stores c.args.tokens.script.now c.args.tokens.offs.now c.args.tokens.words.now c.args.symbols.now c.args.stored c.args.level c.args.i c.args.what (Ok (c.args.stored + 1)) in
    let wrote = c.write-2.ensures ∙ declared-write _ _ _ c.read-entry-2.ensures _ _ _ _ _ c.declared-2.ensures in
    elim c.if-stored-lt-LINKED.branch [
      | then-stored-lt-LINKED w ↦ subst stores (sym w.symbols-is) (stored-linked _ _ _ _ _ _ _ _ _ _ c.requires c.name-name.ensures c.hash_of-hash.ensures c.in_default.ensures (rw c.room.ensures at c.if-room-stored.false) w.if-stored-lt-LINKED.true _ c.seek-spot.ensures _ (subst (λ (x : List ℕ). Inserts c.args.tokens.words.now x c.args.stored c.hash_of-hash.result c.seek-spot.result.prev c.seek-spot.result.at w.insert.new.symbols) wrote w.insert.ensures))
      | else-stored-lt-LINKED w ↦ subst stores (sym (w.symbols-is ∙ wrote)) (stored_past _ _ _ _ _ _ _ _ _ _ c.requires c.name-name.ensures c.hash_of-hash.ensures c.in_default.ensures (rw c.room.ensures at c.if-room-stored.false) w.if-stored-lt-LINKED.false)
    ]
