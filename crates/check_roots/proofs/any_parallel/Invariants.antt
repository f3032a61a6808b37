use Rattle.check_roots.proofs.RootLaws.{Searched}
use Rattle.check_roots.proofs.any_parallel.Given as goal

abbrev pub invariant-loop-r : goal.invariant-loop-r
invariant-loop-r l = Searched l.s l.r-end l.r
