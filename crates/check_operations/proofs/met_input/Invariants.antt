use Rattle.check_operations.proofs.MeetingLaws.{MetAt}
use Rattle.check_operations.proofs.met_input.Given as goal

abbrev pub invariant-loop-i : goal.invariant-loop-i
invariant-loop-i l = MetAt l.file l.o l.i-end l.i
