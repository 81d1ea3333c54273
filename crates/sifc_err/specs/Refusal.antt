-- Document 01, "Where a call says no": the number, the kind and the offset that each refusal stands for.
use Rattle.std.specs.Prelude.{ℕ}
use Rattle.sifc_err.specs.declared.Refusal.{Refusal}
use Rattle.sifc_err.specs.declared.Refusal.TheVariants.{LongScript, NotAscii, Uneven, TokensFull, SourceFault, TooDeep, NodesFull, SymbolsFull, ErrorsFull, Flagged, TextFull}

-- the table's number
abbrev pub number_of : Refusal → ℕ
number_of LongScript = 1
number_of (NotAscii o) = 2
number_of Uneven = 3
number_of TokensFull = 4
number_of (SourceFault k o) = 5
number_of TooDeep = 6
number_of NodesFull = 7
number_of SymbolsFull = 8
number_of ErrorsFull = 9
number_of Flagged = 10
number_of TextFull = 11

-- only a SourceFault has a kind
abbrev pub kind_of : Refusal → ℕ
kind_of LongScript = 0
kind_of (NotAscii o) = 0
kind_of Uneven = 0
kind_of TokensFull = 0
kind_of (SourceFault k o) = k
kind_of TooDeep = 0
kind_of NodesFull = 0
kind_of SymbolsFull = 0
kind_of ErrorsFull = 0
kind_of Flagged = 0
kind_of TextFull = 0

-- only a NotAscii and a SourceFault have an offset
abbrev pub offset_of : Refusal → ℕ
offset_of LongScript = 0
offset_of (NotAscii o) = o
offset_of Uneven = 0
offset_of TokensFull = 0
offset_of (SourceFault k o) = o
offset_of TooDeep = 0
offset_of NodesFull = 0
offset_of SymbolsFull = 0
offset_of ErrorsFull = 0
offset_of Flagged = 0
offset_of TextFull = 0
