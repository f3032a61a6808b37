use Rattle.network_uses.proofs.MarkLaws.{Using}
use Rattle.network_uses.proofs.rows_use.Given as goal

abbrev pub invariant-loop-i : goal.invariant-loop-i
invariant-loop-i l = Using l.s l.n l.i l.m l.marks
