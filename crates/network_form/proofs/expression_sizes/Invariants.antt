use Rattle.network_form.proofs.FormLaws.{Leveling}
use Rattle.network_form.proofs.expression_sizes.Given as goal

abbrev pub invariant-loop-i : goal.invariant-loop-i
invariant-loop-i l = Leveling l.s l.n l.i l.m l.levels
