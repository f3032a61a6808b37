use Rattle.state_queues.proofs.Reading.{Unfound}
use Rattle.state_queues.proofs.oldest.Given as goal

abbrev pub invariant-loop-k : goal.invariant-loop-k
invariant-loop-k l = Unfound l.state l.slot l.w l.k
