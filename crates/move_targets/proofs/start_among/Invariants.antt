use Rattle.move_targets.proofs.TargetLaws.{Unstarted}
use Rattle.move_targets.proofs.start_among.Given as goal

abbrev pub invariant-loop-k : goal.invariant-loop-k
invariant-loop-k l = Unstarted l.file l.w l.c l.at l.n l.k
