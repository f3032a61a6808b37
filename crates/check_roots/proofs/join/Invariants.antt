use Rattle.check_roots.proofs.SetLaws.{Joining}
use Rattle.check_roots.proofs.join.Given as goal

abbrev pub invariant-loop-k : goal.invariant-loop-k
invariant-loop-k l = Joining l.initial.more l.sets l.from l.k l.more
