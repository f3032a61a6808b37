use Prim.Native.Nat.{◌+◌, ◌-◌, ◌*◌}
use Rattle.tree_edit.proofs.+locate.Given as goal

abbrev pub decreases-locate : goal.decreases-locate
decreases-locate l = 256 * (4 - l.k) + l.n
