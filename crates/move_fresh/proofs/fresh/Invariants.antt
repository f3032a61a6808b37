use Rattle.move_fresh.specs.Starting.{StartsClientsFrom}
use Rattle.move_fresh.proofs.fresh.Given as goal

abbrev pub invariant-loop-q : goal.invariant-loop-q
invariant-loop-q l = StartsClientsFrom l.file 0 l.q l.initial.state l.state
