use Rattle.type_reading.proofs.Words.{Alike}
use Rattle.type_reading.proofs.same_name.Given as goal

abbrev pub invariant-loop-i : goal.invariant-loop-i
invariant-loop-i l = Alike l.text l.p l.q l.a l.i
