use Rattle.std.proofs.Common.{◌+◌, ◌≤◌}
use Rattle.types_main.proofs.refused.line_of.Given as goal

abbrev pub invariant-loop-i : goal.invariant-loop-i
invariant-loop-i l = l.line ≤ 1 + l.i
