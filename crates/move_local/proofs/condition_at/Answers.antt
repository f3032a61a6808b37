use Rattle.move_local.proofs.RowLaws.{condition-decides}
use borrow.Author.Rules.{rules}
use Rattle.move_local.proofs.condition_at.Goals as goal

pub returns : goal.returns
returns c = search (condition-decides, rules) depth 12
