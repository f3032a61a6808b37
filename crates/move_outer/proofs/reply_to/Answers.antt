use Rattle.move_outer.proofs.Outer.{reply-laws}
use borrow.Author.Rules.{rules}
use Rattle.move_outer.proofs.reply_to.Goals as goal

pub returns-then-operation_two_way-eq1 : goal.returns-then-operation_two_way-eq1
returns-then-operation_two_way-eq1 c = search (reply-laws, rules) depth 12

pub returns : goal.returns
returns c = search (reply-laws, rules) depth 12
