use Rattle.state_shape.proofs.QueueLaws.{QueueLeft}
use Rattle.state_shape.proofs.queue_suits.Given as goal

abbrev pub invariant-loop-k : goal.invariant-loop-k
invariant-loop-k l = QueueLeft l.file l.s l.q l.at l.n l.k
