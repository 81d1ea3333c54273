-- A list of scripts, as the programs that replay stored answers read it: a script's length in decimal, a newline, the script, a newline, and so on.
use Rattle.std.specs.Prelude.{ℕ, ◌+◌, ◌-◌, ◌*◌, ◌%◌, List, [], ◌∷◌, Bool, ◌&&◌, ◌||◌, leb, length, drop}
use Rattle.sifc_word.specs.Base.{if◌then◌otherwise◌, within}
use Rattle.sif_show.specs.declared.entries.Number.{Number}
use Rattle.sif_show.specs.declared.entries.Entry.{Entry}

abbrev pub number : ℕ → ℕ → Number
number v i = record { value = v; next = i }

abbrev pub entry : ℕ → ℕ → Entry
entry f e = record { from = f; end = e }

-- whether a byte goes on a number that is v so far: a digit, below 10,000
unfoldable pub goes : ℕ → ℕ → Bool
unfolding within
goes v b = within 48 57 b && leb v 9999

-- the number at the front of the bytes, after digits that make v and end at index i
unfoldable pub number_in : ℕ → ℕ → List ℕ → Number
unfolding if◌then◌otherwise◌ goes
number_in v i [] = number v i
number_in v i (b ∷ bs) = if goes v b then number_in (v * 10 + b % 16) (i + 1) bs otherwise number v i

-- the number at an index of the list, and the index after its digits
unfoldable pub number_at : List ℕ → ℕ → Number
unfolding number_in
number_at list at = number_in 0 at (drop at list)

-- the script after the number n and its newline; one that is cut off is empty, at the list's end
unfoldable pub entry_after : List ℕ → Number → Entry
unfolding if◌then◌otherwise◌
entry_after list n =
    if leb (length list) n.next || leb (length list - n.next) n.value
    then entry (length list) (length list)
    otherwise entry (n.next + 1) (n.next + 1 + n.value)

-- where the script whose entry is at an index begins and ends
unfoldable pub entry_at : List ℕ → ℕ → Entry
unfolding number_at entry_after
entry_at list at = entry_after list (number_at list at)
