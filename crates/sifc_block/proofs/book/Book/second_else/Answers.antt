use Rattle.sifc_block.proofs.Blocks.{elses-none, elses-full, elses-listed}
use Rattle.sifc_block.proofs.book.Book.second_else.Goals as goal

pub returns-then-elses-le1 : goal.returns-then-elses-le1
returns-then-elses-le1 c = elses-none c.if-elses-le1.true

pub returns-then-p : goal.returns-then-p
returns-then-p c = elses-full c.if-elses-le1.false c.if-p.true

pub returns : goal.returns
returns c = elses-listed c.if-elses-le1.false c.if-p.false c.requires.1 c.note.ensures
