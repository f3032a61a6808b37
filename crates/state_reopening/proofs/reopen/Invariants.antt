use Rattle.state_reopening.proofs.ClearLaws.{Reopened}
use Rattle.state_reopening.proofs.reopen.Given as goal

abbrev pub invariant-loop-i : goal.invariant-loop-i
invariant-loop-i l = Reopened l.marks l.slot l.fn.state l.state l.i
