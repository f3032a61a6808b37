use Rattle.move_local.proofs.RowLaws.{value-laws}
use borrow.Author.Rules.{rules}
use Rattle.move_local.proofs.assign_value.Goals as goal

pub returns-then-n-gt1024 : goal.returns-then-n-gt1024
returns-then-n-gt1024 c = search (value-laws, rules) depth 12

pub returns-else-n-gt1024 : goal.returns-else-n-gt1024
returns-else-n-gt1024 c = search (value-laws, rules) depth 12

pub returns-in-None : goal.returns-in-None
returns-in-None c = search (value-laws, rules) depth 12
