use Rattle.move_targets.proofs.TargetLaws.{Used}
use Rattle.move_targets.proofs.queue_length.Given as goal

abbrev pub invariant-loop-k : goal.invariant-loop-k
invariant-loop-k l = Used l.state l.at l.n l.k
