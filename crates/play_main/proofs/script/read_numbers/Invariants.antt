use Rattle.std.proofs.Common.{◌≤◌, length}
use Rattle.play_main.proofs.script.read_numbers.Given as goal

abbrev pub invariant-loop-i : goal.invariant-loop-i
invariant-loop-i l = l.at ≤ length l.s
