use Rattle.state_shape.proofs.StandLaws.{Upward}
use Rattle.state_shape.proofs.stands.Given as goal

abbrev pub invariant-loop-k : goal.invariant-loop-k
invariant-loop-k l = Upward l.file l.state l.k
