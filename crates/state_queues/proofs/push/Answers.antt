use Rattle.state_queues.proofs.Writing.{push-full, push-one}
use borrow.Author.Rules.{rules}
use Rattle.state_queues.proofs.push.Goals as goal

pub returns-then-k-ge4 : goal.returns-then-k-ge4
returns-then-k-ge4 c = search (push-full, rules) depth 12

pub returns : goal.returns
returns c = search (push-one, rules) depth 12
