use Rattle.check_roots.proofs.SetLaws.{Common}
use Rattle.check_roots.proofs.apart.Given as goal

abbrev pub invariant-loop-k : goal.invariant-loop-k
invariant-loop-k l = Common l.sets l.p l.q l.k l.common
