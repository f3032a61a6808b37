use Rattle.move_local.proofs.RowLaws.{if-laws}
use borrow.Author.Rules.{rules}
use Rattle.move_local.proofs.decide.Goals as goal

pub returns-then-not-is_undone : goal.returns-then-not-is_undone
returns-then-not-is_undone c = search (if-laws, rules) depth 12

pub returns-in-Ok-true : goal.returns-in-Ok-true
returns-in-Ok-true c = search (if-laws, rules) depth 12

pub returns-in-Ok-false : goal.returns-in-Ok-false
returns-in-Ok-false c = search (if-laws, rules) depth 12

pub returns-in-Err : goal.returns-in-Err
returns-in-Err c = search (if-laws, rules) depth 12
