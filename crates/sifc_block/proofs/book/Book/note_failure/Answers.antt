use Rattle.std.proofs.Common.{sym, ◌∙◌}
use Rattle.sifc_block.proofs.Blocks.{noted-none, noted_one, noted-two}
use Rattle.sifc_block.proofs.book.Book.note_failure.Goals.{then-many-eq2, else-many-eq2}
use Rattle.sifc_block.proofs.book.Book.note_failure.Goals as goal

pub returns-then-many-eq0 : goal.returns-then-many-eq0
returns-then-many-eq0 c = (c.listed_by-many.ensures, noted-none c.requires (sym c.listed_by-many.ensures ∙ c.if-many-eq0.true))

pub returns : goal.returns
returns c = (
  c.listed_by-many.ensures,
  elim c.if-many-eq2.branch [
    | then-many-eq2 w ↦ noted-two c.requires c.listed_by-many.ensures w.if-many-eq2.true w.note.ensures w.self-is c.note-2.ensures
    | else-many-eq2 w ↦ noted_one c.requires c.listed_by-many.ensures c.if-many-eq0.false w.if-many-eq2.false w.self-is c.note-2.ensures
  ],
)
