use Rattle.move_targets.proofs.NamedLaws.{Unnamed}
use Rattle.move_targets.proofs.named_input.Given as goal

abbrev pub invariant-loop-i : goal.invariant-loop-i
invariant-loop-i l = Unnamed l.file l.q l.id l.i
