use Rattle.std.proofs.Common.{◌*◌, ◌≤◌}
use Rattle.types_main.proofs.refused.declared_at.Given as goal

abbrev pub invariant-loop-i : goal.invariant-loop-i
invariant-loop-i l = l.rows ≤ 65536 * l.i
