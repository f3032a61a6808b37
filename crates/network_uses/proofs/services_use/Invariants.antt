use Rattle.network_uses.proofs.MarkLaws.{Serving}
use Rattle.network_uses.proofs.services_use.Given as goal

abbrev pub invariant-loop-i : goal.invariant-loop-i
invariant-loop-i l = Serving l.s l.n l.i-end l.i l.m l.marks
