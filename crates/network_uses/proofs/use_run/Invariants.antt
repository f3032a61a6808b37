use Rattle.network_uses.proofs.MarkLaws.{Running}
use Rattle.network_uses.proofs.use_run.Given as goal

abbrev pub invariant-loop-i : goal.invariant-loop-i
invariant-loop-i l = Running l.first l.w l.n l.i l.i-end l.initial.marks l.marks l.again
