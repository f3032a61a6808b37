use Rattle.check_roots.proofs.RootLaws.{Behaviours}
use Rattle.check_roots.proofs.behaviour_sets.Given as goal

abbrev pub invariant-loop-r : goal.invariant-loop-r
invariant-loop-r l = Behaviours l.s l.table l.known l.initial.sets l.sets l.initial.r l.r
