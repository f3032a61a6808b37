use borrow.Author.Tests.{lt-leb}
use Rattle.move_waiting.proofs.WaitLaws.{far-row}
use Rattle.move_waiting.proofs.has_row.Goals as goal

pub returns-else-r-le255 : goal.returns-else-r-le255
returns-else-r-le255 c = rw (lt-leb c.args.r 255 c.if-r-le255.false) (far-row _ _ _ c.if-r-le255.false)
