use Rattle.move_receive.proofs.Receiving.{row_laws}
use borrow.Author.Rules.{rules}
use Rattle.move_receive.proofs.receive_at.Goals as goal

pub returns-then-i-gt255 : goal.returns-then-i-gt255
returns-then-i-gt255 c = search (row_laws, rules) depth 12

pub returns-in-OneWay : goal.returns-in-OneWay
returns-in-OneWay c = search (row_laws, rules) depth 12

pub returns-in-RequestResponse : goal.returns-in-RequestResponse
returns-in-RequestResponse c = search (row_laws, rules) depth 12

pub returns-in-Nothing : goal.returns-in-Nothing
returns-in-Nothing c = search (row_laws, rules) depth 12
