use lib.ListN.{length}
use Prim.Native.Nat.{◌-◌}
use Rattle.type_trees.proofs.+build_list_build_side.Given as goal

abbrev pub decreases-build_list : goal.decreases-build_list
decreases-build_list l = length l.text.now - l.at

abbrev pub decreases-build_side : goal.decreases-build_side
decreases-build_side l = length l.text.now - l.at
