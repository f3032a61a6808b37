use Rattle.check_operations.proofs.MeetingLaws.{LocatedAt}
use Rattle.check_operations.proofs.in_file.Given as goal

abbrev pub invariant-loop-q : goal.invariant-loop-q
invariant-loop-q l = LocatedAt l.file l.location l.q-end l.q
