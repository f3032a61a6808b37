use Prim.Native.Nat.{◌+◌, ◌*◌}
use Rattle.type_lines.proofs.+emit_level.Given as goal

abbrev pub decreases-emit_level : goal.decreases-emit_level
decreases-emit_level l = 256 * l.d + l.n
