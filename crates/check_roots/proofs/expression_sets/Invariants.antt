use Rattle.check_roots.proofs.RootLaws.{Expressions}
use Rattle.check_roots.proofs.expression_sets.Given as goal

abbrev pub invariant-loop-r : goal.invariant-loop-r
invariant-loop-r l = Expressions l.s l.table l.initial.known l.known l.r-end l.r
