use Prim.Native.Nat.{◌-◌}
use lib.ListN.{length}
use Rattle.type_trees.proofs.Naming.{Gathering}
use Rattle.type_trees.proofs.gather.Given as goal

abbrev pub invariant-loop-p : goal.invariant-loop-p
invariant-loop-p l = Gathering l.text (length l.initial.names) l.names l.at l.n l.dot

abbrev pub decreases-loop-p : goal.decreases-loop-p
decreases-loop-p l = length l.text - l.at
