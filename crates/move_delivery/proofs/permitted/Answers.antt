use Rattle.move_delivery.proofs.Delivering.{permitted-laws}
use borrow.Author.Rules.{rules}
use Rattle.move_delivery.proofs.permitted.Goals as goal

pub returns-then-permits_input : goal.returns-then-permits_input
returns-then-permits_input c = search (permitted-laws, rules) depth 12

pub returns : goal.returns
returns c = search (permitted-laws, rules) depth 12
