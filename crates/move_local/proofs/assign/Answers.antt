use Rattle.move_local.proofs.RowLaws.{assign-laws}
use borrow.Author.Rules.{rules}
use Rattle.move_local.proofs.assign.Goals as goal

pub returns-then-not-is_undone : goal.returns-then-not-is_undone
returns-then-not-is_undone c = search (assign-laws, rules) depth 12

pub returns-in-Ok : goal.returns-in-Ok
returns-in-Ok c = search (assign-laws, rules) depth 12

pub returns-in-Err-Missing : goal.returns-in-Err-Missing
returns-in-Err-Missing c = search (assign-laws, rules) depth 12

pub returns-in-Err-Wrong : goal.returns-in-Err-Wrong
returns-in-Err-Wrong c = search (assign-laws, rules) depth 12

pub returns-in-Err-Outside : goal.returns-in-Err-Outside
returns-in-Err-Outside c = search (assign-laws, rules) depth 12
