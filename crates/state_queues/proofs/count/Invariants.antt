use Rattle.state_queues.proofs.Reading.{Passed}
use Rattle.state_queues.proofs.count.Given as goal

abbrev pub invariant-loop-k : goal.invariant-loop-k
invariant-loop-k l = Passed l.state l.slot l.k
