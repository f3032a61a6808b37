use Rattle.state_queues.proofs.Writing.{head-written}
use borrow.Author.Rules.{rules}
use Rattle.state_queues.proofs.put_head.Goals as goal

pub returns : goal.returns
returns c = search (head-written, rules) depth 12
