use Rattle.move_delivery.proofs.Delivering.{queue-laws}
use borrow.Author.Rules.{rules}
use Rattle.move_delivery.proofs.queue.Goals as goal

pub returns-then-i-gt254 : goal.returns-then-i-gt254
returns-then-i-gt254 c = search (queue-laws, rules) depth 12

pub returns-then-message-gt-MESSAGE_ROOM : goal.returns-then-message-gt-MESSAGE_ROOM
returns-then-message-gt-MESSAGE_ROOM c = search (queue-laws, rules) depth 12

pub returns : goal.returns
returns c = search (queue-laws, rules) depth 12
