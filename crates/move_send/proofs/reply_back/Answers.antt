use Rattle.move_send.proofs.RowLaws.{back-row}
use borrow.Author.Rules.{rules}
use Rattle.move_send.proofs.reply_back.Goals as goal

pub returns-then-twoway : goal.returns-then-twoway
returns-then-twoway c = back-row _ _ _ _ _ _ c.if-twoway.true (search rules) (search rules)
