use Rattle.move_delivery.proofs.Delivering.{start-laws}
use borrow.Author.Rules.{rules}
use Rattle.move_delivery.proofs.start.Goals as goal

pub returns-in-OneWay : goal.returns-in-OneWay
returns-in-OneWay c = search (start-laws, rules) depth 12

pub returns-in-RequestResponse : goal.returns-in-RequestResponse
returns-in-RequestResponse c = search (start-laws, rules) depth 12

pub returns-in-Nothing : goal.returns-in-Nothing
returns-in-Nothing c = search (start-laws, rules) depth 12
