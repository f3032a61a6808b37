use Rattle.move_local.proofs.RowLaws.{row_made, row_other}
use borrow.Author.Rules.{rules}
use Rattle.move_local.proofs.local_row.Goals as goal

pub returns-in-If : goal.returns-in-If
returns-in-If c = search (row_made, row_other, rules) depth 12

pub returns-in-While : goal.returns-in-While
returns-in-While c = search (row_made, row_other, rules) depth 12

pub returns-in-Assign : goal.returns-in-Assign
returns-in-Assign c = search (row_made, row_other, rules) depth 12

pub returns-in_default : goal.returns-in_default
returns-in_default c = search (row_made, row_other, rules) depth 12
