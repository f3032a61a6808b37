use Rattle.state_rows.proofs.SuitLaws.{Upward}
use Rattle.state_rows.proofs.rows_suit.Given as goal

abbrev pub invariant-loop-i : goal.invariant-loop-i
invariant-loop-i l = Upward l.file l.marks l.s l.at l.i
