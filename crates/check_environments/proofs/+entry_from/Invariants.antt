use Prim.Native.Nat.{◌+◌, ◌-◌, ◌*◌}
use Rattle.check_environments.proofs.+entry_from.Given as goal

abbrev pub decreases-entry_from : goal.decreases-entry_from
decreases-entry_from l = 256 * (6 - l.depth) + l.n
