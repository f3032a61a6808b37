use Rattle.move_local.proofs.RowLaws.{while-laws}
use borrow.Author.Rules.{rules}
use Rattle.move_local.proofs.repeat.Goals as goal

pub returns-then-not-is_ready_while : goal.returns-then-not-is_ready_while
returns-then-not-is_ready_while c = search (while-laws, rules) depth 12

pub returns-in-Ok-true : goal.returns-in-Ok-true
returns-in-Ok-true c = search (while-laws, rules) depth 12

pub returns-in-Ok-false : goal.returns-in-Ok-false
returns-in-Ok-false c = search (while-laws, rules) depth 12

pub returns-in-Err : goal.returns-in-Err
returns-in-Err c = search (while-laws, rules) depth 12
