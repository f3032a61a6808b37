use Rattle.move_local.proofs.RowLaws.{outside-laws}
use borrow.Author.Rules.{rules}
use Rattle.move_local.proofs.refuse_value.Goals as goal

pub returns-in-Some : goal.returns-in-Some
returns-in-Some c = search (outside-laws, rules) depth 12

pub returns-in-None : goal.returns-in-None
returns-in-None c = search (outside-laws, rules) depth 12
