-- The scripts of a list, one after the other.
use Rattle.std.specs.Prelude.{◌≡◌, ℕ, ◌+◌, ◌-◌, ◌≤◌, ◌<◌, List, length, take, drop, Option, MatchOption}
use Rattle.std.specs.Borrow.{Bor}
use Rattle.sif_show.specs.declared.entries.Scripts.{Scripts}
use Rattle.sif_show.specs.declared.entries.Entry.{Entry}
use Rattle.sif_show.specs.Entries.{entry_at}

-- the bytes of an entry's script
abbrev pub script_of : List ℕ → Entry → List ℕ
script_of list e = take (e.end - e.from) (drop e.from list)

-- One step: the script of the entry at the index that is reached, while the list goes on. The next entry begins a newline behind it, or there is none: a
-- script that ends where the list does is the last. At the list's end no script is given, and the index stays.
pub record Given (s : Scripts) (r : Option (Bor (List ℕ))) (t : Scripts) : Type 0 where
  pub same : t.list ≡ s.list
  pub gives : s.at < length s.list.now → MatchOption r ⊥ (λ x. x.now ≡ script_of s.list.now (entry_at s.list.now s.at))
  pub over : length s.list.now ≤ s.at → MatchOption r (Unit {0}) (λ x. ⊥)
  pub moves : (entry_at s.list.now s.at).end < length s.list.now → s.at < length s.list.now → t.at ≡ (entry_at s.list.now s.at).end + 1
  pub ends : length s.list.now ≤ (entry_at s.list.now s.at).end → s.at < length s.list.now → t.at ≡ length s.list.now
  pub stays : length s.list.now ≤ s.at → t.at ≡ s.at
