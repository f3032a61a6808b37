use Prim.Native.Nat.{◌+◌, ◌-◌, ◌*◌}
use Rattle.check_environments.proofs.+look_up.Given as goal

abbrev pub decreases-look_up : goal.decreases-look_up
decreases-look_up l = 256 * (4 - l.k) + l.n
