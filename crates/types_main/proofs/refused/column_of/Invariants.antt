use Rattle.std.proofs.Common.{◌+◌, ◌≤◌}
use Rattle.types_main.proofs.refused.column_of.Given as goal

abbrev pub invariant-loop-i : goal.invariant-loop-i
invariant-loop-i l = l.column + l.i ≤ 1 + l.p
