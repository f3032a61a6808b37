use Rattle.state_form.proofs.FormLaws.{Clear}
use Rattle.state_form.proofs.all_zero.Given as goal

abbrev pub invariant-loop-i : goal.invariant-loop-i
invariant-loop-i l = Clear l.s l.at l.n l.i l.clear
