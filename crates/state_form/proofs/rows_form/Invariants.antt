use Rattle.state_form.proofs.FormLaws.{RowsLeft}
use Rattle.state_form.proofs.rows_form.Given as goal

abbrev pub invariant-loop-i : goal.invariant-loop-i
invariant-loop-i l = RowsLeft l.s l.at l.n l.i
