use Rattle.check_outputs.proofs.OutputLaws.{OutputsAt}
use Rattle.check_outputs.proofs.check_outputs.Given as goal

abbrev pub invariant-loop-o : goal.invariant-loop-o
invariant-loop-o l = OutputsAt l.file l.o l.n
