use Prim.Native.Nat.{◌+◌, ◌*◌}
use Rattle.network_form.proofs.+walk.Given as goal

abbrev pub decreases-walk : goal.decreases-walk
decreases-walk l = 65536 * l.levels + l.n
