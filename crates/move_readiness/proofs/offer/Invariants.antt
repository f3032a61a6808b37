use Rattle.move_readiness.proofs.ReachLaws.{Unoffered}
use Rattle.move_readiness.proofs.offer.Given as goal

abbrev pub invariant-loop-k : goal.invariant-loop-k
invariant-loop-k l = Unoffered l.file l.c l.i l.at l.n l.k
