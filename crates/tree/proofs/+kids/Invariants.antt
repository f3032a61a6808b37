use Rattle.tree.proofs.Scanning.{Going}
use Prim.Native.Nat.{◌+◌, ◌*◌}
use Rattle.tree.proofs.+kids.Given as goal

abbrev pub invariant-loop-more : goal.invariant-loop-more
invariant-loop-more l = Going l.s l.levels l.n l.last l.left l.at l.p l.more l.before l.deep l.room

abbrev pub decreases-loop-more : goal.decreases-loop-more
decreases-loop-more l = 256 * l.deep + l.more

abbrev pub decreases-kids : goal.decreases-kids
decreases-kids l = l.levels
