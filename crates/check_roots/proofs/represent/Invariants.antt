use Rattle.check_roots.proofs.SetLaws.{Doing}
use Rattle.check_roots.proofs.represent.Given as goal

abbrev pub invariant-loop-p : goal.invariant-loop-p
invariant-loop-p l = Doing l.s l.initial.table l.table l.p l.initial.p
