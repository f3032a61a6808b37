use Rattle.tree_count.proofs.Counting.{Missed}
use Rattle.tree_count.proofs.level_count.Given as goal

abbrev pub invariant-loop-levels : goal.invariant-loop-levels
invariant-loop-levels l = Missed l.s l.root.count l.root.start l.levels
